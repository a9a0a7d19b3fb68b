use Rattle.std.proofs.Common.{◌∙◌, sym}
use Rattle.registry_pack.proofs.HeadLemmas.{OneStands-same}
use Rattle.registry_pack.proofs.pack.Pack.renew.Goals as goal

pub returns-in-Err-clause-one_stands : goal.returns-in-Err-clause-one_stands
returns-in-Err-clause-one_stands g c head age mark =
    let k = c.of_next_age-head in
    OneStands-same g.D.Disk c.args.self.now.disk c.write_heads.new.disk head k.result (mark ∙ sym k.ensures.mark) (age ∙ sym k.ensures.age)
    c.write_heads.ensures.one_stands

pub returns-clause-one_stands : goal.returns-clause-one_stands
returns-clause-one_stands g c head age mark =
    let k = c.of_next_age-head in
    OneStands-same g.D.Disk c.args.self.now.disk c.write_heads.new.disk head k.result (mark ∙ sym k.ensures.mark) (age ∙ sym k.ensures.age)
    c.write_heads.ensures.one_stands
