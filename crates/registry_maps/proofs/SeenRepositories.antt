-- A repository over ordered maps, at its changes.
use Rattle.std.proofs.Common.{◌≡◌, ◌∙◌, ℕ, ◌+◌, ◌-◌, ◌^◌, ◌<◌, min, arith, length, map, [], ◌∷◌, List, ◌++◌, Bool, true, false, cond, not, None, Some, refl, sym, ap}
use Rattle.std.specs.Prelude.{Option, option_map, is_some, is_ok, is_err, sum_by, bytes_eq, filter, Result, Ok, Err, Vec, if◌then◌else◌}
use Rattle.std.specs.Ordering.{nat_cmp}
use Rattle.std.specs.BTreeMap.{BTreeMap, Updates, IsOrdered}
use Rattle.std.specs.BTreeMap as btree
use Rattle.std.specs.FinMap.{get, insert, remove, retain_keys}
use Rattle.std.specs.declared.alloc.Global.{Global}
use Rattle.std.specs.declared.alloc.AllocError.{AllocError}
use Rattle.std.proofs.lemmas.Bool.Decides.{nat_tests}
use Rattle.std.proofs.lemmas.List.Sums.{sum_by-cons}
use Rattle.oci_types.specs.Text.{Text}
use Rattle.registry_model.specs.Usage.{in_64_bits}
use Rattle.registry_maps.specs.declared.repository.Repository.{Repository}
use Rattle.registry_model.specs.World.{text_cmp, Repo}
use Rattle.registry_model.specs.Blobs.{with_blob}
use Rattle.registry_model.specs.Sessions.{appended, finished}
use Rattle.registry_model.specs.Manifests.{is_text, with_bytes, with_tag}
use Rattle.registry_model.specs.Lookups.{bytes_or_none}
use Rattle.registry_maps.specs.Maps.{repo_of, sessions_in, names_in, Makes}
use Rattle.registry_model.proofs.TextOrder.{text_total, exact_texts}
use Rattle.registry_maps.proofs.SeenMaps.{number_total, exact_numbers, get_seen, seen_put, seen_stays, plain, kept_seen, passes, insert_undone}

-- the bytes of a session grew, or did not
pub appended_so : (r : Repository) (n : BTreeMap ℕ (Vec ℕ Global)) (number : ℕ) (old new : Vec ℕ Global)
    → Some old ≡ btree.get nat_cmp r.sessions number → Updates nat_cmp r.sessions n number (Some new)
    → (q : Result (Unit {0}) AllocError) (more : Text) → new.items ≡ (if is_ok q then old.items ++ more else old.items)
    → Makes q (appended (repo_of r) number (bytes_or_none (get (sessions_in r.sessions.entries) number) ++ more)) (repo_of r) (record (repo_of r) { sessions = sessions_in n.entries })
appended_so r n number old new there h (Ok v) more e =
    let found = get_seen number_total exact_numbers (λ (v : Vec ℕ Global). v.items) r.sessions number ∙ ap (option_map (λ (v : Vec ℕ Global). v.items)) (sym there) in
    ap (λ x. record (repo_of r) { sessions = x }) (seen_put number_total exact_numbers (λ (v : Vec ℕ Global). v.items) number r.sessions n new h
    ∙ ap (insert (sessions_in r.sessions.entries) number) (e ∙ ap (λ o. bytes_or_none o ++ more) (sym found)))
appended_so r n number old new there h (Err x) more e =
    ap (λ x. record (repo_of r) { sessions = x }) (seen_stays number_total exact_numbers (λ (v : Vec ℕ Global). v.items) number r.sessions n old new h (sym there) e)

-- the blob first and then the session
pub finished_so : (old mid : Repo) (number : ℕ) (digest bytes : Text) → mid ≡ with_blob old digest bytes → record mid { sessions = remove mid.sessions number } ≡ finished old number digest bytes
finished_so old mid number digest bytes e = ap {A = Repo} {B = Repo} (λ m. record m { sessions = remove m.sessions number }) e ∙ step (is_some (get old.blobs digest))
  where
    step : (b : Bool) → record (cond b old (record old { blobs = insert old.blobs digest bytes })) { sessions = remove (cond b old (record old { blobs = insert old.blobs digest bytes })).sessions number }
        ≡ cond b (record old { sessions = remove old.sessions number }) (record (record old { sessions = remove old.sessions number }) { blobs = insert old.blobs digest bytes })
    step true = refl
    step false = refl

-- ---- tags

-- the tags that name another digest
pub untagged : (m : BTreeMap Text Text) (es : List (Text × Text)) (digest : Text) → IsOrdered text_cmp m → es ≡ filter (λ (e : Text × Text). not (bytes_eq e.1 digest)) m.entries
    → names_in es ≡ retain_keys (names_in m.entries) (λ tag. not (is_text digest (get (names_in m.entries) tag)))
untagged m es digest h e = plain text_cmp es ∙ kept_seen text_total exact_texts (λ t. not (bytes_eq t digest)) m es h e
    ∙ (λ i. retain_keys (sym (plain text_cmp m.entries) i) (λ tag. tested (get (sym (plain text_cmp m.entries) i) tag) i))
  where
    tested : (o : Option Text) → passes text_total exact_texts (λ t. not (bytes_eq t digest)) o ≡ not (is_text digest o)
    tested None = refl
    tested (Some t) = refl

-- ---- the total of lengths

as_min : (n : ℕ) → in_64_bits n ≡ min n 18446744073709551615
as_min n = grind (arith, nat_tests)

-- one more length
pub total_more : (t n s : ℕ) → in_64_bits (min (t + n) (2 ^ 64 - 1) + s) ≡ in_64_bits (t + (n + s))
total_more t n s = as_min (min (t + n) 18446744073709551615 + s) ∙ least t n s ∙ sym (as_min (t + (n + s)))
  where
    least : (t n s : ℕ) → min (min (t + n) 18446744073709551615 + s) 18446744073709551615 ≡ min (t + (n + s)) 18446744073709551615
    least t n s = omega arith

-- a total that fits is told as it is
pub total_fits : (t : ℕ) → t < 2 ^ 64 → in_64_bits (t + 0) ≡ t
total_fits t h = as_min (t + 0) ∙ omega arith

-- the lengths of what is shown
pub sums_seen : {X : Type 0} (show : X → Text) (xs : List X) → sum_by (λ x. length (show x)) xs ≡ sum_by (length {A = ℕ}) (map show xs)
sums_seen show [] = refl
sums_seen show (x ∷ xs) = sum_by-cons (λ x. length (show x)) x xs ∙ ap (λ n. length (show x) + n) (sums_seen show xs) ∙ sym (sum_by-cons (length {A = ℕ}) (show x) (map show xs))

-- ---- a manifest that went again, since its tag found no memory

pub undone : (old mid late : Repo) (r : Result (Unit {0}) AllocError) (digest bytes tag : Text) → is_err r ≡ true → not (is_some (get old.manifests digest)) ≡ true
    → mid ≡ with_bytes old digest bytes → Makes r (with_tag mid (Some tag) digest) mid late
    → (new : Repo) → new ≡ record late { manifests = remove late.manifests digest } → (made : Repo) → Makes r made old new
undone old mid late (Ok v) digest bytes tag failed absent added tagged new is made = absurd (cc)
undone old mid late (Err x) digest bytes tag failed absent added tagged new is made =
    is ∙ ap {A = Repo} {B = Repo} (λ m. record m { manifests = remove m.manifests digest }) (tagged ∙ added) ∙ step (is_some (get old.manifests digest)) absent (get old.manifests digest) refl refl
  where
    step : (b : Bool) → not b ≡ true → (o : Option Text) → o ≡ get old.manifests digest → is_some o ≡ b
        → record (cond b old (record old { manifests = insert old.manifests digest bytes })) { manifests = remove (cond b old (record old { manifests = insert old.manifests digest bytes })).manifests digest } ≡ old
    step true none o is so = absurd (cc)
    step false none None is so = ap (λ m. record old { manifests = m }) (insert_undone text_total exact_texts old.manifests digest bytes (sym is))
    step false none (Some t) is so = absurd (cc)

-- one total after the other
pub total_of : (a b c : ℕ) → in_64_bits (in_64_bits (in_64_bits (0 + a) + b) + c) ≡ in_64_bits (a + b + c)
total_of a b c = as_min (in_64_bits (in_64_bits (0 + a) + b) + c) ∙ ap (λ n. min (n + c) 18446744073709551615) (as_min (in_64_bits (0 + a) + b) ∙ ap (λ n. min (n + b) 18446744073709551615) (as_min (0 + a)))
    ∙ least a b c ∙ sym (as_min (a + b + c))
  where
    least : (a b c : ℕ) → min (min (min (0 + a) 18446744073709551615 + b) 18446744073709551615 + c) 18446744073709551615 ≡ min (a + b + c) 18446744073709551615
    least a b c = omega arith
