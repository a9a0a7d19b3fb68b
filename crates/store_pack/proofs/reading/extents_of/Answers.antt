use Rattle.std.proofs.Common.{◌≡◌, true, None, Some, Ok, Err, sym, refl, ◌∙◌}
use Rattle.std.specs.Prelude.{find, is_some, IsOk, MatchOption, Result, Vec}
use Rattle.std.specs.declared.alloc.Global.{Global}
use Rattle.sqlite.specs.Tree.{has_rowid}
use Rattle.registry_pack.specs.declared.extent.Extent.{Extent}
use Rattle.oci_types.specs.declared.fault.Fault.{Fault}
use Rattle.store_contents.specs.Places.{content_rows, place_rows, places_of, runs_of}
use Rattle.store_places.specs.Places.{has_content, runs_at}
use Rattle.store_pack.proofs.ReadLemmas.{not_done, nothing_found, reads_failed, reads_then, same_fault}
use Rattle.store_pack.proofs.reading.extents_of.Goals as goal

pub returns-in_err-has_row : goal.returns-in_err-has_row
returns-in_err-has_row g c =
    let it = reads_failed g.S.Store c.args.conn.now c.has_row.new.conn c.in_err-has_row.field-0.0 c.from_residual.result _
    (λ db o. MatchOption o (find (has_rowid c.args.id.id) (content_rows db) ≡ None) (λ (es : Vec Extent Global). has_content db c.args.id.id × (runs_at es.items ≡ runs_of (places_of (place_rows db) c.args.id.id)))) c.in_err-has_row.ensures c.from_residual.ensures.1 in
    record { found = it.found; same = it.same; settled = it.settled; kept = it.kept; survives = it.survives; lasts = it.lasts }

pub returns-in_err-extents : goal.returns-in_err-extents
returns-in_err-extents g c =
    let second : Result (Vec Extent Global) Fault = Err c.in_err-extents.field-0.0 in
    let it = reads_then g.S.Store c.args.conn.now c.has_row.new.conn c.extents_in_order.new.conn (λ db any. any ≡ is_some (find (has_rowid c.args.id.id) (content_rows db))) (λ db es. runs_at es.items ≡ runs_of (places_of (place_rows db) c.args.id.id))
    (λ db o. MatchOption o (find (has_rowid c.args.id.id) (content_rows db) ≡ None) (λ (es : Vec Extent Global). has_content db c.args.id.id × (runs_at es.items ≡ runs_of (places_of (place_rows db) c.args.id.id))))
    c.in_ok-has_row.field-0 (Err c.in_err-extents.field-0.0) c.from_residual-in_err-extents.result c.in_ok-has_row.ensures c.in_err-extents.ensures
    (not_done (IsOk second) _ c.from_residual-in_err-extents.result c.from_residual-in_err-extents.ensures.1) (same_fault (Vec Extent Global) c.in_err-extents.field-0.0 c.from_residual-in_err-extents.result c.from_residual-in_err-extents.ensures.1)
    (λ is any es. nothing_found _ _ c.from_residual-in_err-extents.result c.from_residual-in_err-extents.ensures.1) in
    record { found = it.found; same = it.same; settled = it.settled; kept = it.kept; survives = it.survives; lasts = it.lasts }

pub returns : goal.returns
returns g c =
    let there : c.in_ok-has_row.field-0 ≡ true = c.if-not-branch.false in
    let it = reads_then g.S.Store c.args.conn.now c.has_row.new.conn c.extents_in_order.new.conn (λ db any. any ≡ is_some (find (has_rowid c.args.id.id) (content_rows db))) (λ db es. runs_at es.items ≡ runs_of (places_of (place_rows db) c.args.id.id))
    (λ db o. MatchOption o (find (has_rowid c.args.id.id) (content_rows db) ≡ None) (λ (es : Vec Extent Global). has_content db c.args.id.id × (runs_at es.items ≡ runs_of (places_of (place_rows db) c.args.id.id))))
    c.in_ok-has_row.field-0 (Ok c.in_ok-extents.extents) (Ok (Some c.in_ok-extents.extents)) c.in_ok-has_row.ensures c.in_ok-extents.ensures
    refl (λ e. refl) (λ is any es. (sym any ∙ there, es)) in
    record { found = it.found; same = it.same; settled = it.settled; kept = it.kept; survives = it.survives; lasts = it.lasts }
