use Rattle.std.proofs.Common.{inl, inr, lit≤}
use Rattle.registry_pack.specs.declared.head.HeadCopy.TheVariants.{First, Second}
use Rattle.registry_pack.proofs.HeadLemmas.{Lasts-head_elsewhere}
use Rattle.registry_pack.proofs.OutcomeLemmas.{OnOk-then}
use Rattle.registry_pack.proofs.StandingLemmas.{KeepsElsewhere-then, KeepsElsewhere-wider}
use Rattle.registry_pack.proofs.heads.write_heads.Goals as goal

pub returns-in_err-replace_head-clause-one_stands : goal.returns-in_err-replace_head-clause-one_stands
returns-in_err-replace_head-clause-one_stands g c was lasts =
    inl (Lasts-head_elsewhere g.D.Disk c.args.disk.now c.replace_head.new.disk 0 75 Second was c.in_err-replace_head.ensures.elsewhere
    (inl (lit≤ tt)) lasts)

pub returns-in_err-replace_head-clause-elsewhere : goal.returns-in_err-replace_head-clause-elsewhere
returns-in_err-replace_head-clause-elsewhere g c =
    KeepsElsewhere-wider g.D.Disk c.args.disk.now c.replace_head.new.disk 0 75 0 8192 (lit≤ tt) (lit≤ tt) c.in_err-replace_head.ensures.elsewhere

pub returns-clause-lasting : goal.returns-clause-lasting
returns-clause-lasting g c =
    OnOk-then c.replace_head-2.result _ _
    (λ second. record {
      first = Lasts-head_elsewhere g.D.Disk c.replace_head.new.disk c.replace_head-2.new.disk 4096 75 First c.args.head.now
          c.replace_head-2.ensures.elsewhere (inr (lit≤ tt)) c.in_ok-replace_head.ensures.lasting;
      second = second;
    }) c.replace_head-2.ensures.lasting

pub returns-clause-one_stands : goal.returns-clause-one_stands
returns-clause-one_stands g c was lasts =
    inr (Lasts-head_elsewhere g.D.Disk c.replace_head.new.disk c.replace_head-2.new.disk 4096 75 First c.args.head.now
    c.replace_head-2.ensures.elsewhere (inr (lit≤ tt)) c.in_ok-replace_head.ensures.lasting)

pub returns-clause-elsewhere : goal.returns-clause-elsewhere
returns-clause-elsewhere g c =
    KeepsElsewhere-then g.D.Disk c.args.disk.now c.replace_head.new.disk c.replace_head-2.new.disk 0 8192
    (KeepsElsewhere-wider g.D.Disk c.args.disk.now c.replace_head.new.disk 0 75 0 8192 (lit≤ tt) (lit≤ tt) c.in_ok-replace_head.ensures.elsewhere)
    (KeepsElsewhere-wider g.D.Disk c.replace_head.new.disk c.replace_head-2.new.disk 4096 75 0 8192 (lit≤ tt) (lit≤ tt)
    c.replace_head-2.ensures.elsewhere)
