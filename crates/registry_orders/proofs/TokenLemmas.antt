-- A token's bytes, one by one, and an order with its token.
use Rattle.std.proofs.Common.{◌≡◌, ◌≢◌, ◌≤◌, ◌+◌, ℕ, zero, suc, false, Option, List, [], ◌∷◌, ◌++◌, length, take, get_or, arith, refl, inl, inr, subst, append-nil, length-append}
use Rattle.std.proofs.lemmas.Bool.{ne_eqb}
use Rattle.std.specs.Io.KnownBytes.{Consumes, Keeps, IsAtEnd}
use Rattle.std.proofs.KnownBytes.{Consumes-trans, Consumes-kept}
use Rattle.clap.specs.Words.{Row}
use Rattle.oci_types.specs.Text.{Text}
use Rattle.registry_orders.specs.declared.orders.TokenOrder.{TokenOrder}
use Rattle.registry_orders.specs.declared.orders.TokenOrder.TheVariants.{Grant, Revoke, RevokeAll, Grants}
use Rattle.registry_orders.specs.Outputs.{newline}
use Rattle.registry_orders.specs.Causes.{has_line_end}
use Rattle.registry_orders.specs.Tokens.{IsFirstLine, ReadsWithinLine}
use Rattle.registry_orders.specs.Orders.{HasToken, IsOrderIn, IsTokenOrderIn, order_with}
use Rattle.registry_orders.proofs.CauseLemmas.{neither_ends}

pub with_token : (word : Text) (options : List Row) (order : TokenOrder) (token : Text) → IsTokenOrderIn word options order → HasToken options token
    → IsOrderIn word options (order_with order token)
with_token word options (Grant name level) token wants has = (wants.0, wants.1, has, wants.2)
with_token word options (Revoke name) token wants has = (wants.0, wants.1, has)
with_token word options RevokeAll token wants has = (wants.0, wants.1, has)
with_token word options (Grants name shown form) token wants has = ((wants.0, wants.1, has, wants.2), wants.3)

-- one byte of a list of one
pub one_byte : (n : ℕ) (xs : List ℕ) → length xs ≡ 1 → n ≤ 1 → n ≢ 0 → take n xs ≡ get_or xs 0 0 ∷ []
one_byte zero xs one less more = absurd (more refl)
one_byte (suc n) [] one less more = absurd (omega arith)
one_byte (suc zero) (x ∷ xs) one less more = refl
one_byte (suc (suc n)) (x ∷ xs) one less more = absurd (omega arith)

pub at_line_end : (a b c : Option Text) (line : Text) → Consumes a b line → Consumes b c newline → IsFirstLine a c line
at_line_end a b c line first last = inl (Consumes-trans a b c line newline first last)

pub at_end : (a b c : Option Text) (line : Text) → Consumes a b line → Consumes b c [] → IsAtEnd c → IsFirstLine a c line
at_end a b c line first last end =
    inr (subst (Consumes a c) (append-nil line) (Consumes-trans a b c line [] first last), end)

byte_ends_nowhere : (byte : ℕ) → byte ≢ 10 → has_line_end (byte ∷ []) ≡ false
byte_ends_nowhere byte other = let not = ne_eqb byte 10 other in rw not refl

-- a byte that is no line's end makes the line longer
pub longer_line : (line : Text) (byte : ℕ) → has_line_end line ≡ false → byte ≢ 10 → has_line_end (line ++ byte ∷ []) ≡ false
longer_line line byte clean other = neither_ends line (byte ∷ []) clean (byte_ends_nowhere byte other)

pub longer_by_one : (line : Text) (byte n : ℕ) → length line ≤ n → length (line ++ byte ∷ []) ≤ n + 1
longer_by_one line byte n short = simp length-append (omega arith)

-- what was read is a line without its end
pub within_open : (a b : Option Text) (line : Text) → Consumes a b line → has_line_end line ≡ false → length line ≤ 201 → ReadsWithinLine a b
within_open a b line read clean short = record {
  line = line;
  end = [];
  is_end = inl refl;
  is_line = clean;
  short = rw (append-nil line) short;
  read = rw (append-nil line) read;
}

-- and then its end was
pub within_ended : (a b c : Option Text) (line : Text) → Consumes a b line → has_line_end line ≡ false → length line ≤ 200 → Consumes b c newline
    → ReadsWithinLine a c
within_ended a b c line read clean short last = record {
  line = line;
  end = newline;
  is_end = inr refl;
  is_line = clean;
  short = longer_by_one line 10 200 short;
  read = Consumes-trans a b c line newline read last;
}

-- and then nothing more was read
pub within_kept : (a b c : Option Text) (line : Text) → Consumes a b line → has_line_end line ≡ false → length line ≤ 201 → Keeps b c → ReadsWithinLine a c
within_kept a b c line read clean short same = within_open a c line (Consumes-kept a b c line read same) clean short
