-- Some bytes are a head.
use Rattle.std.proofs.Common.{◌≡◌, ◌<◌, ℕ, zero, suc, true, [], ◌∷◌, slice_index, refl, sym, arith}
use Rattle.std.proofs.lemmas.List.Elements.{All-nil, All-cons}
use Rattle.std.proofs.lemmas.Str.{IsUtf8-from_ascii}
use Rattle.std.specs.Prelude.{IsUtf8}
use Rattle.httparse.specs.Grammar.{is_token_byte, is_uri_byte, IsToken, crlf, IsField, RequestHead, print_request, ReadsRequest}
use Rattle.std.proofs.lemmas.List.{append-nil}
use Rattle.oci_types.specs.Text.{Text}

abbrev slash : Text
slash = 47 ∷ []

slash_text : IsUtf8 slash
slash_text = IsUtf8-from_ascii slash ascii
  where
    ascii : (i : ℕ) → slice_index slash i < 128
    ascii zero = omega arith
    ascii (suc i) = omega arith

g_is_token : IsToken (71 ∷ [])
unfolding is_token_byte
g_is_token = (omega arith, All-cons (λ b. is_token_byte b ≡ true) 71 [] refl (All-nil (λ b. is_token_byte b ≡ true)))

-- `G / HTTP/1.1` with no fields
abbrev bare : RequestHead
bare = record { blank = []; method = 71 ∷ []; target = slash; minor = 1; line_end = crlf; fields = []; last = crlf }

pub some_head : (b : Text) × (h : RequestHead) × ReadsRequest b h []
some_head = (
  print_request bare,
  bare,
  (
    record {
      method = g_is_token;
      target = (omega arith, All-cons (λ b. is_uri_byte b ≡ true) 47 [] refl (All-nil (λ b. is_uri_byte b ≡ true)));
      target_text = slash_text;
      minor = omega arith;
      fields = All-nil IsField;
    },
    sym (append-nil (print_request bare)),
  ),
)
