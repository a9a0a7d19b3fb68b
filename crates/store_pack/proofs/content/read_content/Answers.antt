use Rattle.std.proofs.Common.{◌≡◌, ◌∙◌, ◌+◌, ◌≤◌, ℕ, length, None, Some, ap, refl, subst, sym}
use Rattle.std.specs.Prelude.{find, MatchOption, Option, Vec}
use Rattle.std.specs.declared.alloc.Global.{Global}
use Rattle.sqlite.specs.Held.{state}
use Rattle.sqlite.specs.Tree.{has_rowid}
use Rattle.registry_pack.specs.declared.extent.Extent.{Extent}
use Rattle.registry_pack.specs.Extents.{AreWithin, bytes_at}
use Rattle.registry_pack.specs.Pack.{file_of}
use Rattle.store_contents.specs.Places.{content_rows, place_rows, places_of, runs_of}
use Rattle.store_places.specs.Places.{has_content, runs_at}
use Rattle.store_bytes.proofs.KeepingLemmas.{runs_of_content}
use Rattle.store_pack.proofs.ExtentLemmas.{extents_have, extents_there}
use Rattle.store_pack.proofs.ReadLemmas.{same_fault}
use Rattle.store_pack.proofs.content.read_content.Goals as goal

pub returns-in_err-extents-clause-settled : goal.returns-in_err-extents-clause-settled
returns-in_err-extents-clause-settled g c clean is unspent =
    c.in_err-extents.ensures.settled clean is (same_fault (Option (Vec Extent Global)) c.in_err-extents.field-0.0 c.from_residual.result c.from_residual.ensures.1 unspent)

pub returns-in_err-bytes-clause-settled : goal.returns-in_err-bytes-clause-settled
returns-in_err-bytes-clause-settled g c clean is unspent = c.in_ok-extents.ensures.settled clean is refl

pub returns-clause-found : goal.returns-clause-found
returns-clause-found g c clean is holds all =
    let db = (state g.S.Store c.args.conn.now).now in
    let file = g.D.Disk.seen (file_of c.args.pack.now) in
    let id = c.args.id.id in
    let es = c.in-Some.extents.items in
    let there = subst (λ o. MatchOption o (find (has_rowid id) (content_rows db) ≡ None) (λ (es : Vec Extent Global). has_content db id × (runs_at es.items ≡ runs_of (places_of (place_rows db) id)))) c.in-Some.is (c.in_ok-extents.ensures.found clean holds) in
    let within : AreWithin file es = extents_there file es _ there.1 (runs_of_content (λ (run : ℕ × ℕ). run.0 + run.1 ≤ length file) (place_rows db) id all) in
    ap Some (c.in_ok-bytes.ensures.read is (subst (AreWithin file) (sym c.deref.ensures.value) within) ∙ ap (bytes_at file) c.deref.ensures.value) ∙ sym (extents_have db file id es there.0 there.1)
