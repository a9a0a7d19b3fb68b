use Rattle.std.proofs.Common.{◌≡◌, ◌∙◌, ◌+◌, ◌<◌, ℕ, length, arith, subst, sym}
use Rattle.sqlite_disk.specs.Disk.{Holds}
use Rattle.registry_pack.specs.Extents.{starts_at}
use Rattle.registry_pack.specs.Pack.{file_of}
use Rattle.registry_pack.specs.Standing.{KeepsElsewhere}
use Rattle.store_pack.proofs.ContentsLemmas.{elsewhere_then, was_done}
use Rattle.store_pack.proofs.placing.fill.Goals as goal

pub returns-in-Ok-clause-lasts : goal.returns-in-Ok-clause-lasts
returns-in-Ok-clause-lasts g c =
    let at = starts_at c.args.extent in
    let here : at + 0 ≡ at = omega arith in
    let done = was_done c.write.result (0 < length c.args.bytes.now → Holds (g.D.Disk.seen (file_of c.write.new.self)) (at + 0) c.args.bytes.now) (sym c.is_err.ensures.value ∙ c.if-is_err.false) c.write.ensures.written in
    c.in-Ok.ensures.lasting at c.args.bytes.now (subst (λ (a : ℕ). Holds (g.D.Disk.seen (file_of c.write.new.self)) a c.args.bytes.now) here (done c.requires.some))

pub returns-in-Ok-clause-elsewhere : goal.returns-in-Ok-clause-elsewhere
returns-in-Ok-clause-elsewhere g c =
    let at = starts_at c.args.extent in
    let here : at + 0 ≡ at = omega arith in
    let n = length c.args.bytes.now in
    elsewhere_then g.D.Disk at n (file_of c.args.pack.now) (file_of c.write.new.self) (file_of c.sync.new.self)
    (subst (λ (a : ℕ). KeepsElsewhere g.D.Disk a n (file_of c.args.pack.now) (file_of c.write.new.self)) here c.write.ensures.elsewhere) c.sync.ensures.kept

pub returns-in-Err-clause-elsewhere : goal.returns-in-Err-clause-elsewhere
returns-in-Err-clause-elsewhere g c =
    let at = starts_at c.args.extent in
    let here : at + 0 ≡ at = omega arith in
    let n = length c.args.bytes.now in
    elsewhere_then g.D.Disk at n (file_of c.args.pack.now) (file_of c.write.new.self) (file_of c.sync.new.self)
    (subst (λ (a : ℕ). KeepsElsewhere g.D.Disk a n (file_of c.args.pack.now) (file_of c.write.new.self)) here c.write.ensures.elsewhere) c.sync.ensures.kept
