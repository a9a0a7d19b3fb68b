use Rattle.store_bytes.proofs.either_contents.EitherContents.read.Goals as goal

pub returns-in-Left-clause-found : goal.returns-in-Left-clause-found
returns-in-Left-clause-found g c = rw c.in-Left.is c.read.ensures.found

pub returns-in-Left-clause-settled : goal.returns-in-Left-clause-settled
returns-in-Left-clause-settled g c = rw c.in-Left.is c.read.ensures.settled

pub returns-in-Right-clause-found : goal.returns-in-Right-clause-found
returns-in-Right-clause-found g c = rw c.in-Right.is c.read-in-Right.ensures.found

pub returns-in-Right-clause-settled : goal.returns-in-Right-clause-settled
returns-in-Right-clause-settled g c = rw c.in-Right.is c.read-in-Right.ensures.settled
