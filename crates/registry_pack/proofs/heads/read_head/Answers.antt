use Rattle.std.proofs.Common.{◌≡◌, false, List, ℕ, sym, ◌∙◌, ap, arith, subst, lit<}
use Rattle.std.specs.Prelude.{bytes_eq}
use Rattle.std.proofs.lemmas.Bool.{not-true, true≢false}
use Rattle.std.proofs.lemmas.Slice.Eq.{bytes_eq-Decides}
use Rattle.sqlite_disk.specs.Disk.{Holds}
use Rattle.registry_pack.specs.Heads.{head_bytes, offset_of}
use Rattle.registry_pack.proofs.RangeLemmas.{range_is}
use Rattle.registry_pack.proofs.HeadLemmas.{length-head_bytes}
use Rattle.registry_pack.proofs.heads.read_head.Goals as goal

pub returns-then-branch-at-clause-found : goal.returns-then-branch-at-clause-found
returns-then-branch-at-clause-found g c clean head says =
    omega (arith, says.within, length-head_bytes head, c.in_ok-length.ensures.len clean, c.offset-at.ensures)

pub returns-then-ne-clause-found : goal.returns-then-ne-clause-found
returns-then-ne-clause-found g c clean head says =
    let file = g.D.Disk.seen c.args.disk.now in
    let bytes = c.read_at.new.buf in
    let kept = c.in_ok-length.ensures.kept in
    let there : Holds (g.D.Disk.seen c.length.new.disk) c.offset-at.result bytes = c.in_ok-read_at.ensures.read clean (lit< tt) in
    let here : Holds file (offset_of c.args.copy) bytes =
    subst (λ a. Holds file a bytes) c.offset-at.ensures (subst (λ (f : List ℕ). Holds f c.offset-at.result bytes) kept.seen there) in
    let same : bytes ≡ head_bytes head =
    sym (range_is file bytes (offset_of c.args.copy) 75 c.read_at.auto.buf here)
    ∙ range_is file (head_bytes head) (offset_of c.args.copy) 75 (length-head_bytes head) says in
    let again : c.to_bytes.result ≡ bytes = c.to_bytes.ensures ∙ ap head_bytes (c.from_bytes-head.ensures head same) ∙ sym same in
    let apart : bytes_eq c.to_bytes.result bytes ≡ false = not-true _ (sym c.ne.ensures ∙ c.if-ne.true) in
    true≢false (sym ((bytes_eq-Decides c.to_bytes.result bytes).1 again) ∙ apart)
