-- Reading descriptors one after the other, as a loop does.
use Rattle.std.proofs.Common.{◌≡◌, ℕ, ◌<◌, ◌≤◌, ◌+◌, List, [], ◌∷◌, ◌++◌, length, drop, get_or, Option, Some, None, option_map, refl, sym, ap, ◌∙◌, append_assoc, add-one, drop-cons}
use Rattle.std.proofs.lemmas.List.{append-nil, drop_all}
use Rattle.serde_json.specs.declared.value.Value.{Value}
use Rattle.serde_json.specs.View.{view, items_view}
use Rattle.oci_types.specs.Part.{◌>>=◌}
use Rattle.oci_types.specs.Descriptor.{DescriptorShown, descriptor_of, descriptors_of}

-- what was read before, and then what is still read
abbrev pub behind : List DescriptorShown → Option (List DescriptorShown) → Option (List DescriptorShown)
behind front read = option_map (λ rest. front ++ rest) read

behind-one_more : (front : List DescriptorShown) (n : DescriptorShown) (read : Option (List DescriptorShown)) → behind front (read >>= λ rest. Some (n ∷ rest)) ≡ behind (front ++ n ∷ []) read
behind-one_more front n None = refl
behind-one_more front n (Some ns) = ap (λ (ms : List DescriptorShown). Some ms) (sym (append_assoc front (n ∷ []) ns))

-- the values from an index on
abbrev pub left_from : ℕ → List Value → Option (List DescriptorShown)
left_from i vs = descriptors_of (items_view (drop i vs))

first_left : (vs : List Value) (i : ℕ) (v : Value) → i < length vs → v ≡ get_or vs i v → drop i vs ≡ v ∷ drop (i + 1) vs
first_left vs i v lt is =
    let first : drop i vs ≡ get_or vs i v ∷ drop (i + 1) vs = rw (add-one, drop-cons vs i v) refl in
    first ∙ ap (λ (w : Value). w ∷ drop (i + 1) vs) (sym is)

pub one_more : (front : List DescriptorShown) (vs : List Value) (i : ℕ) (v : Value) (n : DescriptorShown) → i < length vs → v ≡ get_or vs i v → descriptor_of (view v) ≡ Some n
    → behind front (left_from i vs) ≡ behind (front ++ n ∷ []) (left_from (i + 1) vs)
unfolding descriptors_of
one_more front vs i v n lt is read = rw (first_left vs i v lt is, read) (behind-one_more front n (left_from (i + 1) vs))

pub no_more : (front : List DescriptorShown) (vs : List Value) (i : ℕ) (v : Value) → i < length vs → v ≡ get_or vs i v → descriptor_of (view v) ≡ None → behind front (left_from i vs) ≡ None
unfolding descriptors_of
no_more front vs i v lt is read = rw (first_left vs i v lt is, read) refl

pub all_read : (front : List DescriptorShown) (vs : List Value) (i : ℕ) → length vs ≤ i → behind front (left_from i vs) ≡ Some front
unfolding descriptors_of
all_read front vs i le = rw (drop_all i vs le) (ap (λ (ms : List DescriptorShown). Some ms) (append-nil front))
