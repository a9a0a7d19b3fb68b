-- What a manifest needs is among what it names.
use Rattle.std.proofs.Common.{◌≡◌, ◌∙◌, List, [], ◌∷◌, map, filter, not, ◌&&◌, ◌||◌, bytes_eq, Bool, true, false, cond, Ok, refl, ap}
use Rattle.std.specs.List.{list_any, list_all}
use Rattle.std.proofs.lemmas.Slice.Eq.{bytes_eq-Decides}
use Rattle.oci_types.specs.Text.{Text}
use Rattle.oci_types.specs.Descriptor.{DescriptorShown, digests_of, needed}
use Rattle.oci_types.specs.Manifest.{BodyShown, image, index, ContentsShown, ManifestShown, manifest_in}
use Rattle.oci_types.specs.Reads.{Holds}
use Rattle.oci_types.proofs.ManifestLaws.{manifest_found}

abbrev is_in : List Text → Text → Bool
is_in names digest = list_any (λ other. bytes_eq other digest) names

-- each of the second is among the first
abbrev AllIn : List Text → List Text → Type 0
AllIn names needs = list_all (is_in names) needs ≡ true

in_more : (a b c e : Bool) → (b && c) ≡ true → (c ≡ true → e ≡ true) → ((a || b) && e) ≡ true
in_more true true c e h f = f h
in_more false true c e h f = f h
in_more true false c e h f = absurd (cc)
in_more false false c e h f = absurd (cc)

more : (x : Text) (names needs : List Text) → AllIn names needs → AllIn (x ∷ names) needs
more x names [] h = refl
more x names (d ∷ ds) h = in_more (bytes_eq x d) (is_in names d) (list_all (is_in names) ds) (list_all (is_in (x ∷ names)) ds) h (more x names ds)

in_front : (a b c : Bool) → a ≡ true → c ≡ true → ((a || b) && c) ≡ true
in_front true b c p q = q
in_front false b c p q = absurd (cc)

with_first : (x : DescriptorShown) (xs : List DescriptorShown) → AllIn (digests_of (x ∷ xs)) (needed xs) → (b : Bool)
    → AllIn (digests_of (x ∷ xs)) (map (λ d. d.digest) (cond b (x ∷ filter (λ d. not d.elsewhere) xs) (filter (λ d. not d.elsewhere) xs)))
with_first x xs rest true = in_front (bytes_eq x.digest x.digest) (is_in (digests_of xs) x.digest) (list_all (is_in (digests_of (x ∷ xs))) (needed xs)) ((bytes_eq-Decides x.digest x.digest).1 refl) rest
with_first x xs rest false = rest

needed_in : (ds : List DescriptorShown) → AllIn (digests_of ds) (needed ds)
needed_in [] = refl
needed_in (x ∷ xs) = with_first x xs (more x.digest (digests_of xs) (needed xs) (needed_in xs)) (not x.elsewhere)

same_lists : (names needs others wanted : List Text) → names ≡ others → needs ≡ wanted → AllIn others wanted → AllIn names needs
same_lists names needs others wanted e d h = ap (λ ns. list_all (is_in ns) needs) e ∙ ap (λ ds. list_all (is_in others) ds) d ∙ h

held : (b : BodyShown) (c : ContentsShown) → Holds b c → AllIn c.names c.needs
held (image config layers) c h = same_lists c.names c.needs _ _ h.6 h.5 (needed_in (h.0 ∷ h.1))
held (index manifests) c h = same_lists c.names c.needs _ _ h.4 h.3 refl

pub needs_named : (bytes : Text) (m : ManifestShown) → manifest_in bytes ≡ Ok m → list_all (λ digest. list_any (λ other. bytes_eq other digest) m.names) m.needs ≡ true
needs_named bytes m h =
    let says = (manifest_found bytes m h).says in
    same_lists m.names m.needs _ _ says.names says.needs (held says.body says.contents says.holds)
