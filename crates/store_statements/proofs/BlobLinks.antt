-- The link to a blob comes, with its content or to one that is there.
use Rattle.std.proofs.Common.{◌≡◌, ◌∙◌, ℕ, ℤ, List, length, Ok, Err, Result, OnOk, None, sym, ap, subst}
use Rattle.std.specs.Prelude.{find, option_map}
use Rattle.sqlite.specs.State.{State}
use Rattle.oci_types.specs.Text.{Text}
use Rattle.store_contents.specs.Layouts.{Layout}
use Rattle.store_statements.specs.Keys.{has_key}
use Rattle.store_statements.specs.Tables.{Tables}
use Rattle.store_statements.specs.Changes.{blob_columns, Comes, Grow}
use Rattle.store_statements.specs.Held.{IsReady, StaysSettled, held}
use Rattle.store_statements.specs.Shown.{blob_link}
use Rattle.store_statements.specs.Steps.{ContentKept, BlobStored, BlobComes}
use Rattle.store_statements.specs.StepsFrom.{LinkIsPut}
use Rattle.store_statements.proofs.PlacesKept.{runs_then}
use Rattle.store_statements.proofs.WritesAfterReads.{none_found, same_held}

-- ---- there is none yet

pub still_none : {l : Layout} → (old mid : State) (name digest : Text) → StaysSettled l old mid → None ≡ option_map blob_link (find (has_key name digest) (held l old).blobs) → find (has_key name digest) (held l mid).blobs ≡ None
still_none {l} old mid name digest stays e =
    ap (λ (t : Tables). find (has_key name digest) t.blobs) (same_held old mid stays) ∙ none_found blob_link (find (has_key name digest) (held l old).blobs) e

-- other rows are as they were while a content comes
pub blob_fresh : (old mid : Tables) (id : ℤ) (name digest bytes : Text) {runs : List (ℕ × ℕ)} → ContentKept old mid id bytes runs → find (has_key name digest) old.blobs ≡ None → find (has_key name digest) mid.blobs ≡ None
blob_fresh old mid id name digest bytes kept fresh = ap (λ (t : Tables). find (has_key name digest) t.blobs) kept.others ∙ fresh

-- ---- it comes

blob_step : (old mid new : Tables) (id : ℤ) (name digest bytes : Text) (runs : List (ℕ × ℕ)) → ContentKept old mid id bytes runs → Comes mid.blobs new.blobs (blob_columns name digest (length bytes) id) → new ≡ record mid { blobs = new.blobs } → BlobStored old new name digest bytes runs
blob_step old mid new id name digest bytes runs kept comes others =
    let same : new.contents ≡ mid.contents = ap (λ (t : Tables). t.contents) others in
    let placed : new.places ≡ mid.places = ap (λ (t : Tables). t.places) others in
    record {
      id = id;
      grow = subst (Grow old.contents) (sym same) kept.grow;
      there = ap (λ contents. contents id) same ∙ kept.there;
      rest = λ i other. ap (λ contents. contents i) same ∙ kept.rest i other;
      placed = runs_then runs old mid new kept.placed placed (ap (λ (t : Tables). t.packs) others);
      comes = subst (λ rows. Comes rows new.blobs (blob_columns name digest (length bytes) id)) (ap (λ (t : Tables). t.blobs) kept.others) comes;
      others = others ∙ ap (λ (t : Tables). record t { blobs = new.blobs }) kept.others ∙ (λ i. record old { contents = sym same i; places = sym placed i; blobs = new.blobs });
    }

pub blob_stored_if : (l : Layout) → {A E : Type 0} (old mid new : State) (id : ℤ) (name digest bytes : Text) (runs : List (ℕ × ℕ)) (r : Result A E) → ContentKept (held l old) (held l mid) id bytes runs → OnOk r (BlobComes l mid new (blob_columns name digest (length bytes) id))
    → OnOk r (IsReady l new × BlobStored (held l old) (held l new) name digest bytes runs)
blob_stored_if l old mid new id name digest bytes runs (Ok x) kept h = (h.ready, blob_step (held l old) (held l mid) (held l new) id name digest bytes runs kept h.comes h.others)
blob_stored_if l old mid new id name digest bytes runs (Err e) kept h = tt

pub link_came : {l : Layout} → (a b : State) (repo digest : List ℕ) (size : ℕ) (content : ℤ) → BlobComes l a b (blob_columns repo digest size content) → LinkIsPut (held l a) (held l b) repo digest size content
link_came {l} a b repo digest size content it = record { comes = it.comes; others = it.others }

pub link_put_if : (l : Layout) → {A E : Type 0} (a b : State) (repo digest : List ℕ) (size : ℕ) (content : ℤ) (r : Result A E) → OnOk r (BlobComes l a b (blob_columns repo digest size content)) → OnOk r (IsReady l b × LinkIsPut (held l a) (held l b) repo digest size content)
link_put_if l a b repo digest size content (Ok x) it = (it.ready, link_came a b repo digest size content it)
link_put_if l a b repo digest size content (Err e) it = tt
