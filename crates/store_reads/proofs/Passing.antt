-- A value that was found is put behind others, or the fault is passed on.
use Rattle.std.proofs.Common.{◌≡◌, ◌∙◌, ◌++◌, ℕ, ℤ, List, [], false, Ok, Err, Some, Result, IfOk, IsOkAnd, subst, sym, ap, true≢false}
use Rattle.std.specs.Prelude.{Option, Vec, option_map, unwrap_or}
use Rattle.std.specs.declared.alloc.Global.{Global}
use Rattle.sqlite_trees.specs.declared.store.Store as store
use Rattle.sqlite.specs.State.{State}
use Rattle.sqlite.specs.Held.{Held, state}
use Rattle.oci_types.specs.declared.fault.Fault.{Fault}
use Rattle.oci_types.specs.declared.fault.Fault.TheVariants.{Memory, Storage}
use Rattle.store_statements.specs.Held.{is_storage}
use Rattle.store_statements.specs.World.{content_at}
use Rattle.store_statements.specs.Between.{Finds}
use Rattle.store_bytes.specs.declared.contents.Contents.{Ghosts}
use Rattle.store_bytes.specs.Reading.{IsAsWas, IsReadable}
use Rattle.store_bytes.proofs.Readings.{finds_from}

pub of_found : {A : Type 0} (P : A → Type 0) (found : Result A Fault) (v : A) → found ≡ Ok v → P v → IsOkAnd found P
of_found P found v is p = subst (λ r. IsOkAnd r P) (sym is) p

-- a value is no failure of the storage
pub not_failed : {A : Type 0} (found : Result A Fault) (v : A) → found ≡ Ok v → is_storage found ≡ false
not_failed found v is = ap is_storage is

-- a fault is what it was, whatever was not found
pub failed_so : {A : Type 0} (found : Result A Fault) (f : Fault) → found ≡ Err f → is_storage {A = ℕ} (Err f) ≡ false → is_storage found ≡ false
failed_so found Memory is off = ap is_storage is
failed_so found Storage is off = absurd (true≢false off)

-- the bytes that were there
pub present_told : (there : Option (List ℕ)) (found : Result (Option (Vec ℕ Global)) Fault) (r : Result (Vec ℕ Global) Fault) → IfOk r (λ bytes. found ≡ Ok (Some bytes)) → IfOk found (λ o. option_map (λ bytes. bytes.items) o ≡ there) → IfOk r (λ bytes. there ≡ Some bytes.items)
present_told there found (Ok bytes) is told = sym (subst (λ (x : Result (Option (Vec ℕ Global)) Fault). IfOk x (λ o. option_map (λ bytes. bytes.items) o ≡ there)) is told)
present_told there found (Err f) is told = tt

-- a content that is read later, of the layout of the beginning
pub content_from : {C S : Type 0} (g : Ghosts C) (h : store.Ghosts S) (a b c : C) → IsAsWas g a b → (mid new : Held S) (r : Result (Vec ℕ Global) Fault) (id : ℤ)
    → (IsReadable g b c (state h mid) → Finds h (g.layout b) mid new r (λ t bytes. t.contents id ≡ Some bytes.items)) → (s : State) → (state h mid).now ≡ s.now → IsReadable g a c s
    → Finds h (g.layout a) mid new r (λ t bytes. t.contents id ≡ Some bytes.items)
content_from g h a b c first mid new r id = finds_from g h a b c first mid new r (λ t bytes. t.contents id ≡ Some bytes.items)

-- the bytes of a content, behind others
pub extended_so : (contents : ℤ → Option (List ℕ)) (id : ℤ) (before after : List ℕ) (found : Result (Vec ℕ Global) Fault) → IfOk found (λ bytes. contents id ≡ Some bytes.items) → IsOkAnd found (λ more. after ≡ before ++ more.items) → after ≡ before ++ content_at contents id
extended_so contents id before after (Ok more) is added = added ∙ ap (λ (o : Option (List ℕ)). before ++ unwrap_or o []) (sym is)
extended_so contents id before after (Err f) is added = absurd added

pub was_some : {A : Type 0} (found : Result (Option A) Fault) (o : Option A) (v : A) → found ≡ Ok o → o ≡ Some v → found ≡ Ok (Some v)
was_some {A} found o v is some = subst (λ (x : Option A). found ≡ Ok x) some is
