use Rattle.std.proofs.Common.{◌≡◌, ◌++◌, List, ℕ, ◌∙◌, ap}
use Rattle.sha2.specs.Sha256.{sha256}
use Rattle.std.proofs.lemmas.List.{append-nil}
use Rattle.registry_pack.specs.Heads.{head_bytes, signed_bytes}
use Rattle.registry_pack.proofs.HeadLemmas.{put_behind}
use Rattle.registry_pack.proofs.head.Head.to_bytes.Goals as goal

pub returns : goal.returns
unfolding head_bytes
returns c =
    let signed = c.copy_from_slice.new.self in
    let digest = c.copy_from_slice-2.new.self in
    let made = c.to_signed_bytes-signed.ensures in
    let signed_is : signed ≡ signed_bytes c.args.self = c.copy_from_slice.ensures.after ∙ made in
    let digest_is : digest ≡ sha256 (signed_bytes c.args.self) = c.copy_from_slice-2.ensures.after ∙ c.digest-digest.ensures ∙ ap sha256 made in
    put_behind 43 32 signed _ digest c.copy_from_slice.ensures.len
    ∙ ap (λ (l : List ℕ). signed ++ l) (append-nil digest)
    ∙ ap (λ (l : List ℕ). l ++ digest) signed_is
    ∙ ap (λ (l : List ℕ). signed_bytes c.args.self ++ l) digest_is
