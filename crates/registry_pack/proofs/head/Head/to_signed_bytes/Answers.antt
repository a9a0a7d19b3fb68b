use Rattle.std.proofs.Common.{◌≡◌, ◌++◌, List, ℕ, refl, ◌∙◌, ap, length}
use Rattle.std.specs.Int.{w64, to_be_bytes}
use Rattle.registry_pack.specs.Heads.{head_text, signed_bytes}
use Rattle.registry_pack.proofs.HeadLemmas.{signed_parts}
use Rattle.registry_pack.proofs.head.Head.to_signed_bytes.Goals as goal

pub returns : goal.returns
unfolding signed_bytes
returns c =
    let head = c.args.self in
    let text = c.copy_from_slice.new.self in
    let mark = c.copy_from_slice-2.new.self in
    let age = c.copy_from_slice-3.new.self in
    let text_is : text ≡ head_text = c.copy_from_slice.ensures.after in
    let mark_is : mark ≡ head.mark = c.copy_from_slice-2.ensures.after in
    let age_is : age ≡ to_be_bytes w64 head.age = c.copy_from_slice-3.ensures.after ∙ c.to_be_bytes.ensures in
    signed_parts text mark age _ (ap length text_is) (ap length mark_is ∙ head.whole_mark) (ap length age_is) refl
    ∙ ap (λ (l : List ℕ). l ++ (mark ++ age)) text_is
    ∙ ap (λ (l : List ℕ). head_text ++ (l ++ age)) mark_is
    ∙ ap (λ (l : List ℕ). head_text ++ (head.mark ++ l)) age_is
