-- From bytes to a JSON value.
use Rattle.std.proofs.Common.{◌≡◌, Bool, true, false, cond, Some, None, refl}
use Rattle.std.specs.Prelude.{IsUtf8}
use Rattle.std.specs.Str.{is_utf8}
use Rattle.std.proofs.lemmas.Str.{IsUtf8-from_is_utf8, is_utf8-from_IsUtf8}
use Rattle.serde_json.specs.Data.{Data}
use Rattle.serde_json.specs.Read.{read}
use Rattle.oci_types.specs.Text.{Text}
use Rattle.oci_types.specs.Manifest.{document_in}

pub document_read : (bytes : Text) (d : Data) → IsUtf8 bytes × (read bytes ≡ Some d) → document_in bytes ≡ Some d
document_read bytes d h = let is_text = is_utf8-from_IsUtf8 bytes h.0 in rw is_text h.1

refused_by : (b : Bool) (bytes : Text) → is_utf8 bytes ≡ b → (IsUtf8 bytes → read bytes ≡ None) → cond b (read bytes) None ≡ None
refused_by true bytes is h = h (IsUtf8-from_is_utf8 bytes is)
refused_by false bytes is h = refl

pub document_refused : (bytes : Text) → (IsUtf8 bytes → read bytes ≡ None) → document_in bytes ≡ None
document_refused bytes h = refused_by (is_utf8 bytes) bytes refl h
