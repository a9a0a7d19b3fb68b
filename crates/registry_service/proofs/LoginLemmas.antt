-- Texts that are UTF-8.
use Rattle.std.proofs.Common.{◌≡◌, Bool, true, false, Some, None, refl}
use Rattle.std.specs.Prelude.{IsUtf8}
use Rattle.std.specs.Str.{is_utf8}
use Rattle.std.proofs.lemmas.Str.{IsUtf8-from_is_utf8, is_utf8-from_IsUtf8}
use Rattle.oci_types.specs.Text.{Text}
use Rattle.registry_model.specs.Login.{text_of}

pub text_valid : (bs : Text) → IsUtf8 bs → Some bs ≡ text_of bs
text_valid bs h = rw (is_utf8-from_IsUtf8 bs h)

pub text_invalid : (bs : Text) → (IsUtf8 bs → ⊥) → None ≡ text_of bs
text_invalid bs h = by_test (is_utf8 bs) refl
  where
    by_test : (b : Bool) → is_utf8 bs ≡ b → None ≡ text_of bs
    by_test true e = absurd (h (IsUtf8-from_is_utf8 bs e))
    by_test false e = rw e
