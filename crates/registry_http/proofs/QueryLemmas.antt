-- The values of the keys of a query: of each the first pair counts.
use Rattle.std.proofs.Common.{◌≡◌, false, List, [], ◌∷◌, Option, Some, None, refl, sym, ap, ◌∙◌}
use Rattle.std.specs.Prelude.{bytes_eq, codes}
use Rattle.oci_types.specs.Text.{Text}
use Rattle.registry_model.specs.Ask.{Keys}
use Rattle.registry_http.specs.Asking.{decoded, value_among}
use Rattle.registry_http.specs.Decoding.{or_else, no_keys, keys_behind}

pub pair_passed : (key name value nt : Text) (others : List (Text × Text))
    → nt ≡ decoded name → bytes_eq nt key ≡ false → value_among key ((name, value) ∷ others) ≡ value_among key others
pair_passed key name value nt others n other =
    let test : bytes_eq (decoded name) key ≡ false = ap (λ x. bytes_eq x key) (sym n) ∙ other in
    rw test refl

-- the values of all keys, by those of each
pub keys_same : (a b : Keys) (ps qs : List (Text × Text)) → or_else a.digest (value_among (codes "digest") ps) ≡ or_else b.digest (value_among (codes "digest") qs)
    → or_else a.mount (value_among (codes "mount") ps) ≡ or_else b.mount (value_among (codes "mount") qs)
    → or_else a.«from» (value_among (codes "from") ps) ≡ or_else b.«from» (value_among (codes "from") qs)
    → or_else a.n (value_among (codes "n") ps) ≡ or_else b.n (value_among (codes "n") qs)
    → or_else a.last (value_among (codes "last") ps) ≡ or_else b.last (value_among (codes "last") qs)
    → or_else a.artifact_type (value_among (codes "artifactType") ps) ≡ or_else b.artifact_type (value_among (codes "artifactType") qs)
    → keys_behind a ps ≡ keys_behind b qs
keys_same a b ps qs d m f n l t = λ i. record { digest = d i; mount = m i; «from» = f i; n = n i; last = l i; artifact_type = t i }

or_none : (o : Option Text) → or_else o None ≡ o
or_none None = refl
or_none (Some x) = refl

-- behind the last pair
pub keys_behind_all : (keys : Keys) (pairs : List (Text × Text)) → pairs ≡ [] → keys_behind keys pairs ≡ keys
keys_behind_all keys pairs none =
    ap (keys_behind keys) none
    ∙ λ i. record {
      digest = or_none keys.digest i;
      mount = or_none keys.mount i;
      «from» = or_none keys.«from» i;
      n = or_none keys.n i;
      last = or_none keys.last i;
      artifact_type = or_none keys.artifact_type i;
    }
