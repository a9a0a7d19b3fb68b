-- What requests see of a keeper.
use Rattle.std.specs.Prelude.{Bool}
use Rattle.registry_model.specs.World.{World}

-- the world, and whether the storage has failed, after which the world says nothing
pub record State : Type 0 where
  pub world : World
  pub spent : Bool
