use Rattle.std.proofs.Common.{◌∙◌, ap}
use Rattle.std.specs.Int.{w64, from_be_bytes}
use Rattle.registry_pack.proofs.HeadLemmas.{Head-same, age_in, mark_in}
use Rattle.registry_pack.proofs.head.Head.from_bytes.Goals as goal

pub returns : goal.returns
returns c head is =
    Head-same _ head (c.copy_from_slice.ensures.after ∙ mark_in c.args.bytes.now head is)
    (c.from_be_bytes.ensures ∙ ap (from_be_bytes w64) c.copy_from_slice-2.ensures.after ∙ age_in c.args.bytes.now head is)
