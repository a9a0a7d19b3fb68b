use Rattle.store_pack.proofs.ContentsLemmas.{spares_cut}
use Rattle.store_pack.proofs.placing.cut_end.Goals as goal

pub returns-then-may_be_used : goal.returns-then-may_be_used
returns-then-may_be_used g c =
    let cut = c.trim.ensures in
    spares_cut c.args.pack.now c.trim.new.self cut.below cut.heads cut.writable cut.retired cut.head
