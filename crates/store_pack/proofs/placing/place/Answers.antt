use Rattle.std.proofs.Common.{◌∙◌, inl, inr, length, subst}
use Rattle.registry_pack.specs.Extents.{starts_at}
use Rattle.registry_pack.specs.Pack.{file_of}
use Rattle.registry_pack.specs.Standing.{KeepsElsewhere}
use Rattle.store_pack.proofs.ContentsLemmas.{spares_placed, spares_then}
use Rattle.store_pack.proofs.placing.place.Goals as goal

pub returns-in-Ok-clause-spares : goal.returns-in-Ok-clause-spares
returns-in-Ok-clause-spares g c =
    let e = c.in-Some.extent in
    let n = length c.args.bytes.now in
    spares_placed c.args.pack.now c.fill.new.pack e n c.requires.some c.in-Some.ensures.size c.in-Some.ensures.place.0 c.in-Some.ensures.was_writable
    (subst (λ d. KeepsElsewhere g.D.Disk (starts_at e) n d (file_of c.fill.new.pack)) c.allocate.ensures.file.file c.fill.ensures.elsewhere)
    (λ p may. elim (c.fill.ensures.writable p may) [ inl was ↦ ((c.in-Some.ensures.after p).0 was).0 | inr block ↦ c.in-Some.ensures.was_writable p block ])
    (c.fill.ensures.retired ∙ c.allocate.ensures.retired) (c.fill.ensures.head ∙ c.allocate.ensures.file.head)

pub returns-in-Err-clause-spares : goal.returns-in-Err-clause-spares
returns-in-Err-clause-spares g c =
    let e = c.in-Some.extent in
    let n = length c.args.bytes.now in
    spares_then c.args.pack.now c.fill.new.pack c.cut_end.new.pack
    (spares_placed c.args.pack.now c.fill.new.pack e n c.requires.some c.in-Some.ensures.size c.in-Some.ensures.place.0 c.in-Some.ensures.was_writable
    (subst (λ d. KeepsElsewhere g.D.Disk (starts_at e) n d (file_of c.fill.new.pack)) c.allocate.ensures.file.file c.fill.ensures.elsewhere)
    (λ p may. elim (c.fill.ensures.writable p may) [ inl was ↦ ((c.in-Some.ensures.after p).0 was).0 | inr block ↦ c.in-Some.ensures.was_writable p block ])
    (c.fill.ensures.retired ∙ c.allocate.ensures.retired) (c.fill.ensures.head ∙ c.allocate.ensures.file.head))
    c.cut_end.ensures
