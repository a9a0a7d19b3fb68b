-- Several blobs go, one after the other.
use Rattle.std.proofs.Common.{◌≡◌, ◌∙◌, ◌<◌, ◌+◌, ◌++◌, ℕ, List, [], ◌∷◌, length, take, get_or, refl, sym, ap, inl, arith}
use Rattle.std.proofs.lemmas.List.{take_more}
use Rattle.sqlite.specs.State.{State, HasCleanDisk, KeepsCommit, Survives}
use Rattle.oci_types.specs.Text.{Text}
use Rattle.registry_model.specs.Blobs.{without_blob}
use Rattle.registry_model.specs.Pruning.{without_blobs, delete_blobs}
use Rattle.store_schema.proofs.Selects.{commit_then, survives_both}
use Rattle.store_contents.specs.Layouts.{Layout}
use Rattle.store_statements.specs.Keys.{has_key}
use Rattle.store_statements.specs.Tables.{Tables}
use Rattle.store_statements.specs.PlaceChanges.{KeepsPlaces}
use Rattle.store_statements.specs.World.{world_of}
use Rattle.store_statements.specs.Registry.{IsRegistry}
use Rattle.store_statements.proofs.BlobWorlds.{blob_taken, update_same}
use Rattle.store_statements.proofs.Updates.{update_twice}
use Rattle.store_statements.specs.Held.{IsReady, Becomes, held}
use Rattle.store_statements.specs.Steps.{blobs_without}
use Rattle.store_writes.specs.Deleting.{without_blob_links}

-- what they make of the world
pub blobs_taken : (t : Tables) (name : Text) (digests : List Text) → IsRegistry t
    → (world_of (without_blob_links name digests t) ≡ delete_blobs (world_of t) name digests) × IsRegistry (without_blob_links name digests t)
blobs_taken t name [] is = (sym (update_same t name (λ r. r) (λ r e. refl)), is)
blobs_taken t name (digest ∷ digests) is =
    let first = blob_taken t name digest is in
    let rest = blobs_taken (blobs_without (has_key name digest) t) name digests first.1 in
    (rest.0 ∙ ap (λ w. delete_blobs w name digests) first.0 ∙ update_twice (world_of t) name (λ r. without_blob r digest) (λ r. without_blobs r digests), rest.1)

-- contents stay
pub links_leave : (name : Text) (digests : List Text) (t : Tables) → (without_blob_links name digests t).contents ≡ t.contents
links_leave name [] t = refl
links_leave name (digest ∷ digests) t = links_leave name digests (blobs_without (has_key name digest) t)

-- and so do places
pub links_keep : (name : Text) (digests : List Text) (t : Tables) → KeepsPlaces t (without_blob_links name digests t)
links_keep name [] t = record { places = refl; packs = refl }
links_keep name (digest ∷ digests) t = let rest = links_keep name digests (blobs_without (has_key name digest) t) in record { places = rest.places; packs = rest.packs }

-- ---- one link after another

one_more : (name : Text) (digests : List Text) (digest : Text) (t : Tables) → without_blob_links name (digests ++ digest ∷ []) t ≡ blobs_without (has_key name digest) (without_blob_links name digests t)
one_more name [] digest t = refl
one_more name (other ∷ digests) digest t = one_more name digests digest (blobs_without (has_key name other) t)

pub record TakenSoFar (l : Layout) (first now : State) (name : Text) (digests : List Text) : Type 0 where
  pub taken : HasCleanDisk now → IsReady l first → Becomes l now (without_blob_links name digests (held l first))
  pub kept : HasCleanDisk now → IsReady l first → KeepsCommit first now
  pub survives : Survives first now (λ _. ⊥)

pub so_far_none : (l : Layout) (s : State) (name : Text) → TakenSoFar l s s name []
so_far_none l s name = record {
  taken = λ clean is. (is, refl);
  kept = λ clean is. record { was_open = λ open_now. open_now; committed = λ open_now. refl };
  survives = record { clean = omega arith; shield = λ x. x; counts = omega arith; limit = refl; closes = λ clean open_now. inl open_now; crash = λ clean db may. inl may };
}

pub so_far_more : {l : Layout} → (first mid new : State) (name : Text) (digests : List Text) (at : ℕ) (d : Text) → at < length digests → TakenSoFar l first mid name (take at digests)
    → (HasCleanDisk new → IsReady l mid → Becomes l new (blobs_without (has_key name (get_or digests at d)) (held l mid))) → (HasCleanDisk new → IsReady l mid → KeepsCommit mid new) → Survives mid new (λ _. ⊥)
    → TakenSoFar l first new name (take (at + 1) digests)
so_far_more {l} first mid new name digests at d low before taken kept survives = record {
  taken = λ clean ready.
      let it = before.taken (early clean) ready in
      let now = taken clean it.0 in (
        now.0,
        now.1 ∙ ap (blobs_without (has_key name (get_or digests at d))) it.1 ∙ sym (one_more name (take at digests) (get_or digests at d) (held l first))
            ∙ ap (λ ds. without_blob_links name ds (held l first)) (sym (take_more digests at d low)),
      );
  kept = λ clean ready. commit_then first mid new (before.kept (early clean) ready) (kept clean (before.taken (early clean) ready).0);
  survives = survives_both first mid new before.survives survives;
}
  where
    early : HasCleanDisk new → HasCleanDisk mid
    early clean = omega (arith, survives.clean)
