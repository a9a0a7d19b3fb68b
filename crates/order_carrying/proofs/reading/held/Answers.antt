use Rattle.order_carrying.proofs.reading.held.Goals as goal

pub returns-in-Tags : goal.returns-in-Tags
returns-in-Tags g c = record { found = rw c.in-Tags.is c.tags.ensures.found; spends = c.tags.ensures.spends; honest = c.tags.ensures.honest }

pub returns-in-Blobs : goal.returns-in-Blobs
returns-in-Blobs g c = record { found = rw c.in-Blobs.is c.blobs.ensures.found; spends = c.blobs.ensures.spends; honest = c.blobs.ensures.honest }

pub returns-in-Unnamed : goal.returns-in-Unnamed
returns-in-Unnamed g c = record { found = rw c.in-Unnamed.is c.unnamed.ensures.found; spends = c.unnamed.ensures.spends; honest = c.unnamed.ensures.honest }
