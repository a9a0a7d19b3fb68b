use Rattle.registry_checking.proofs.looking.look_at_one.Goals as goal

pub returns-in-Blob : goal.returns-in-Blob
returns-in-Blob g c = record { found = rw c.in-Blob.is c.look_at_blob.ensures.found; spends = c.look_at_blob.ensures.spends; honest = c.look_at_blob.ensures.honest }

pub returns-in-Manifest : goal.returns-in-Manifest
returns-in-Manifest g c = record { found = rw c.in-Manifest.is c.look_at_manifest.ensures.found; spends = c.look_at_manifest.ensures.spends; honest = c.look_at_manifest.ensures.honest }
