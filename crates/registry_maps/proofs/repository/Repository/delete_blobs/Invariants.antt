use Rattle.std.proofs.Common.{◌≡◌, take}
use Rattle.registry_model.specs.Pruning.{without_blobs}
use Rattle.registry_maps.specs.Maps.{repo_of}
use Rattle.registry_maps.proofs.repository.Repository.delete_blobs.Given as goal

-- those so far are gone
abbrev pub invariant-loop-digest : goal.invariant-loop-digest
invariant-loop-digest l = repo_of l.self ≡ without_blobs (repo_of l.fn.self) (take l.digest-index l.digests)
