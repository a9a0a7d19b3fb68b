use Rattle.std.proofs.Common.{sym, ◌∙◌, ◌-◌, ap, length, drop, take}
use Rattle.std.specs.Prelude.{bytes_eq}
use Rattle.hex.specs.Hex.{encode_lower}
use Rattle.oci_types.proofs.Verdicts.{verdict_by-sha256, verdict_by-sha512}
use Rattle.oci_types.proofs.digest.Digest.compare.Goals as goal

pub returns-then-starts_with : goal.returns-then-starts_with
returns-then-starts_with g c =
    let t = c.as_bytes-text.result.now in
    c.of_match.ensures
    ∙ verdict_by-sha256 c.args.self.now t (g.H.Hashed.bytes c.args.hashed.now) c.encodes_sha256.result (c.as_bytes-text.ensures.value ∙ c.as_str.ensures.text)
    (sym c.starts_with.ensures.value ∙ c.if-starts_with.true)
    (c.encodes_sha256.ensures ∙ ap (λ h. bytes_eq (take (length t - 7) (drop 7 t)) (encode_lower h)) c.sha256.ensures)

pub returns-then-starts_with-2 : goal.returns-then-starts_with-2
returns-then-starts_with-2 g c =
    let t = c.as_bytes-text.result.now in
    c.of_match-then-starts_with-2.ensures
    ∙ verdict_by-sha512 c.args.self.now t (g.H.Hashed.bytes c.args.hashed.now) c.encodes_sha512.result (c.as_bytes-text.ensures.value ∙ c.as_str.ensures.text)
    (sym c.starts_with.ensures.value ∙ c.if-starts_with.false)
    (sym c.starts_with-2.ensures.value ∙ c.if-starts_with-2.true)
    (c.encodes_sha512.ensures ∙ ap (λ h. bytes_eq (take (length t - 7) (drop 7 t)) (encode_lower h)) c.sha512.ensures)
