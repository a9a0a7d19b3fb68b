-- What a keeper's calls say, with what is held beside it.
use Rattle.std.proofs.Common.{◌≡◌, Bool, true, false, ap}
use Rattle.std.specs.Prelude.{Result, Ok, Err}
use Rattle.oci_types.specs.declared.fault.Fault.{Fault}
use Rattle.oci_types.specs.declared.fault.Fault.TheVariants.{Memory, Storage}
use Rattle.registry_model.specs.World.{World}
use Rattle.registry_model.specs.Keeping.{Kept, Held, ReadsBy, ReadsSo, Writes, WritesBy, Spends}
use Rattle.registry_model.specs.Closing.{WritesWhereSo}

abbrev with : Held → Kept → Kept
with h k = record k { held = h }

module _ (h : Held) where
  stays : (k k' : Kept) → k' ≡ k → with h k' ≡ with h k
  stays k k' e = ap (λ (x : Kept). with h x) e

  pub read_held : {A B : Type 0} (show : A → B) (r : Result A Fault) (value : B) (k k' : Kept) → ReadsBy show r value k k' → ReadsBy show r value (with h k) (with h k')
  read_held show (Ok v) value k k' x = (x.0, stays k k' x.1)
  read_held show (Err Memory) value k k' x = stays k k' x
  read_held show (Err Storage) value k k' x = tt

  pub read_so_held : {A : Type 0} (IsSo : A → Type 0) (r : Result A Fault) (k k' : Kept) → ReadsSo IsSo r k k' → ReadsSo IsSo r (with h k) (with h k')
  read_so_held IsSo (Ok v) k k' x = (x.0, stays k k' x.1)
  read_so_held IsSo (Err Memory) k k' x = stays k k' x
  read_so_held IsSo (Err Storage) k k' x = tt

  pub written_held : {A : Type 0} (r : Result A Fault) (w : World) (k k' : Kept) → Writes r w k k' → Writes r w (with h k) (with h k')
  written_held (Ok v) w k k' x = ap (λ (y : Kept). with h y) x
  written_held (Err Memory) w k k' x = stays k k' x
  written_held (Err Storage) w k k' x = tt

  pub written_by_held : {A B : Type 0} (show : A → B) (r : Result A Fault) (value : B) (w : World) (k k' : Kept) → WritesBy show r value w k k' → WritesBy show r value w (with h k) (with h k')
  written_by_held show (Ok v) value w k k' x = (x.0, ap (λ (y : Kept). with h y) x.1)
  written_by_held show (Err Memory) value w k k' x = stays k k' x
  written_by_held show (Err Storage) value w k k' x = tt

  pub written_where_held : (r : Result Bool Fault) (so : Bool) (w : World) (k k' : Kept) → WritesWhereSo r so w k k' → WritesWhereSo r so w (with h k) (with h k')
  written_where_held (Ok true) so w k k' x = (x.0, ap (λ (y : Kept). with h y) x.1)
  written_where_held (Ok false) so w k k' x = stays k k' x
  written_where_held (Err Memory) so w k k' x = stays k k' x
  written_where_held (Err Storage) so w k k' x = tt

  pub spends_held : {A : Type 0} (r : Result A Fault) (k k' : Kept) → Spends r k k' → Spends r (with h k) (with h k')
  spends_held (Ok v) k k' x = x
  spends_held (Err Memory) k k' x = x
  spends_held (Err Storage) k k' x = x
