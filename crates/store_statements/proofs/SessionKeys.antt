-- Keys of a text and a number.
use Rattle.std.proofs.Common.{◌≡◌, ◌∙◌, ℕ, pos, List, true, false, sym, ap}
use Rattle.std.specs.Prelude.{bytes_eq, ◌&&◌, ◌==◌}
use Rattle.std.specs.Ordering.{int_eq}
use Rattle.std.proofs.lemmas.Bool.{eqb-true, eq-eqb}
use Rattle.sqlite_sql.specs.declared.ops.BinaryOp.TheVariants.{Compare}
use Rattle.sqlite_sql.specs.declared.ops.CompareOp.TheVariants.{Eq}
use Rattle.sqlite.specs.Collation.TheVariants.{Binary}
use Rattle.sqlite.specs.Ops.{binary, is_true}
use Rattle.sqlite.specs.declared.types.Value.{Value}
use Rattle.sqlite.specs.declared.types.Value.TheVariants.{Int}
use Rattle.sqlite.specs.Order.{Row}
use Rattle.store_schema.specs.Rows.{bytes_at, natural_at}
use Rattle.store_schema.proofs.Lists.{bytes_eq-sym, bytes_eq_true}
use Rattle.store_schema.proofs.Selects.{is_int}
use Rattle.store_schema.proofs.Ids.{int_eq_is, int_eq_itself, rowid_test}
use Rattle.store_contents.proofs.Numbers.{number_turned, same_truth}
use Rattle.store_statements.specs.Keys.{of_session, same_session, same_start}
use Rattle.store_statements.proofs.Keys.{both_true}

pub int_eq_number : (m n : ℕ) → int_eq (pos m) (pos n) ≡ (m == n)
int_eq_number m n = same_truth _ _ (λ t. eq-eqb m n (let same : pos m ≡ pos n = int_eq_is (pos m) (pos n) t in cc)) (λ t. ap (λ k. int_eq (pos k) (pos n)) (eqb-true m n t) ∙ int_eq_itself (pos n))

-- a column that has a number is tested for one
pub is_number : (v : Value) (m n : ℕ) → v ≡ Int (pos m) → is_true (binary (Compare Eq Binary) v (Int (pos n))) ≡ (m == n)
is_number v m n e = is_int v (pos m) (pos n) e ∙ rowid_test (pos n) (pos m) v e ∙ int_eq_number m n

pub session_turned : (a b : Row) → same_session a b ≡ same_session b a
session_turned a b = ap (λ x. x && natural_at b 2 == natural_at a 2) (bytes_eq-sym (bytes_at b 1) (bytes_at a 1)) ∙ ap (λ x. bytes_eq (bytes_at a 1) (bytes_at b 1) && x) (number_turned (natural_at b 2) (natural_at a 2))

pub session_named : (name : List ℕ) (number : ℕ) (x y : Row) → of_session name number x ≡ true → same_session x y ≡ of_session name number y
session_named name number x y e =
    let both = both_true _ _ e in
    ap (λ t. bytes_eq (bytes_at y 1) t && natural_at y 2 == natural_at x 2) (bytes_eq_true _ _ both.0) ∙ ap (λ n. bytes_eq (bytes_at y 1) name && natural_at y 2 == n) (eqb-true (natural_at x 2) number both.1)

-- a session that one row has no row apart from it has
pub session_parts : (name : List ℕ) (number : ℕ) (x y : Row) → same_session x y ≡ false → of_session name number x ≡ true → of_session name number y ≡ false
session_parts name number x y apart e = sym (session_named name number x y e) ∙ apart

pub start_turned : (a b : Row) → same_start a b ≡ same_start b a
start_turned a b = ap (λ x. x && natural_at b 3 == natural_at a 3) (session_turned a b) ∙ ap (λ x. same_session b a && x) (number_turned (natural_at b 3) (natural_at a 3))

-- pieces of one session begin at different places
pub starts_differ : (name : List ℕ) (number : ℕ) (x y : Row) → of_session name number x ≡ true → of_session name number y ≡ true → same_start x y ≡ false → (natural_at x 3 == natural_at y 3) ≡ false
starts_differ name number x y e f apart =
    number_turned (natural_at x 3) (natural_at y 3) ∙ sym (ap (λ b. b && natural_at y 3 == natural_at x 3) (session_named name number x y e ∙ f)) ∙ apart
