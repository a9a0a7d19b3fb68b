use Rattle.store_bytes.proofs.either_contents.EitherContents.has_digest.Goals as goal

pub returns-in-Left-clause-found : goal.returns-in-Left-clause-found
returns-in-Left-clause-found g c = rw c.in-Left.is c.has_digest.ensures.found

pub returns-in-Left-clause-settled : goal.returns-in-Left-clause-settled
returns-in-Left-clause-settled g c = rw c.in-Left.is c.has_digest.ensures.settled

pub returns-in-Left-clause-kept : goal.returns-in-Left-clause-kept
returns-in-Left-clause-kept g c = rw c.in-Left.is c.has_digest.ensures.kept

pub returns-in-Right-clause-found : goal.returns-in-Right-clause-found
returns-in-Right-clause-found g c = rw c.in-Right.is c.has_digest-in-Right.ensures.found

pub returns-in-Right-clause-settled : goal.returns-in-Right-clause-settled
returns-in-Right-clause-settled g c = rw c.in-Right.is c.has_digest-in-Right.ensures.settled

pub returns-in-Right-clause-kept : goal.returns-in-Right-clause-kept
returns-in-Right-clause-kept g c = rw c.in-Right.is c.has_digest-in-Right.ensures.kept
