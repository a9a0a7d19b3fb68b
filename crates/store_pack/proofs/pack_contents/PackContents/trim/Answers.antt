use Rattle.store_pack.specs.Contents.{Spares}
use Rattle.store_pack.proofs.ContentsLemmas.{pack_keeps, spares_cut, still_named, still_remembered, still_spared}
use Rattle.store_pack.proofs.pack_contents.PackContents.trim.Goals as goal

pub returns : goal.returns
returns g c =
    let old = c.args.self.now.pack in
    let new = c.trim.new.self in
    let cut = c.trim.ensures in
    let spares : Spares old new = spares_cut old new cut.below cut.heads cut.writable cut.retired cut.head in
    record {
      end = cut.order;
      cut = cut.cut;
      writable = cut.writable;
      head = cut.head;
      names = still_named old new cut.head;
      spared = still_spared old new spares;
      remembered = still_remembered old new spares;
      bytes = pack_keeps old new spares;
      refuses = spares.refuses;
      clean = cut.below.clean;
    }
