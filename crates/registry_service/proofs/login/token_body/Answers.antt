use Rattle.std.proofs.Common.{◌≡◌, ◌++◌, sym, subst, append_assoc}
use Rattle.std.specs.Prelude.{IfOk, codes, string_bytes}
use Rattle.oci_types.specs.Text.{Text}
use Rattle.registry_service.proofs.login.token_body.Goals as goal

joined : (a b c d e : Text) → a ++ b ++ c ++ d ++ e ≡ a ++ (b ++ (c ++ (d ++ e)))
joined a b c d e = simp append_assoc

pub returns : goal.returns
returns c =
    let token = c.args.token.now in
    subst (λ (t : Text). IfOk c.format.result (λ s. string_bytes s ≡ t))
    (sym (joined (codes "{\"access_token\":\"") token (codes "\",\"expires_in\":300,\"token\":\"") token (codes "\"}")))
    c.format.ensures.ok
