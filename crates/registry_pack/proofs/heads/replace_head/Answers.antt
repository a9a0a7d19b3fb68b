use Rattle.registry_pack.specs.Heads.{offset_of, head_bytes}
use Rattle.registry_pack.proofs.OutcomeLemmas.{OnOk-then}
use Rattle.registry_pack.proofs.StandingLemmas.{KeepsElsewhere-all, KeepsElsewhere-then}
use Rattle.registry_pack.proofs.heads.replace_head.Goals as goal

pub returns-clause-lasting : goal.returns-clause-lasting
returns-clause-lasting g c =
    OnOk-then c.sync.result _ _
    (λ lasting. lasting (offset_of c.args.copy) (head_bytes c.args.head.now) c.in_ok-write_head.ensures.written) c.sync.ensures.lasting

pub returns-clause-elsewhere : goal.returns-clause-elsewhere
returns-clause-elsewhere g c =
    KeepsElsewhere-then g.D.Disk c.args.disk.now c.write_head.new.disk c.sync.new.disk (offset_of c.args.copy) 75
    c.in_ok-write_head.ensures.elsewhere
    (KeepsElsewhere-all g.D.Disk c.write_head.new.disk c.sync.new.disk (offset_of c.args.copy) 75 c.sync.ensures.kept)
