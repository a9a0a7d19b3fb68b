use Rattle.std.proofs.Common.{◌∙◌, map, refl, sym}
use Rattle.std.specs.Prelude.{Vec}
use Rattle.std.specs.declared.alloc.Global.{Global}
use Rattle.sqlite.specs.State.{HasCleanDisk}
use Rattle.sqlite.specs.Held.{state}
use Rattle.store_contents.specs.declared.content_id.ContentId.{ContentId}
use Rattle.store_statements.specs.World.{pieces_of}
use Rattle.store_statements.specs.Shown.{content_named}
use Rattle.store_statements.specs.Held.{held}
use Rattle.store_statements.proofs.SettledAfter.{stays_then}
use Rattle.store_statements.proofs.Transactions.{survives_all}
use Rattle.store_writes.specs.Whole.{only_link}
use Rattle.store_writes.proofs.KnownEnds.{whole_found, no_whole, piece_made, unspent_before}
use Rattle.store_statements.proofs.CleanBefore.{was_clean}
use Rattle.store_statements.proofs.Crashes.{kept_then}
use Rattle.store_writes.proofs.whole_sessions.find_whole.Goals as goal

pub returns-in-Ok-Some : goal.returns-in-Ok-Some
returns-in-Ok-Some g c =
    let old = state g.S.Store c.args.conn.now in
    let mid = state g.S.Store c.find_upload.new.conn in
    let new = state g.S.Store c.pieces_in_order.new.conn in
    let early : HasCleanDisk new → HasCleanDisk mid = was_clean c.pieces_in_order.ensures.survives in
    record {
      found = λ l clean is.
          let stays = c.in-Ok-Some.ensures.settled l (early clean) is refl in
          whole_found old mid stays c.args.repo.now c.args.number c.in-Ok-Some.size c.piece_link.result (sym c.in-Ok-Some.field-0-is ∙ c.in-Ok-Some.ensures.found l (early clean) is)
          (piece_made c.in-Ok-Some.size (map (content_named 5) (pieces_of (held l mid).pieces c.args.repo.now c.args.number)) c.pieces_in_order.result c.piece_link.result c.piece_link.ensures (c.pieces_in_order.ensures.found l clean stays.0));
      settled = λ l clean is unspent.
          let stays = c.in-Ok-Some.ensures.settled l (early clean) is refl in
          stays_then old mid new stays (c.pieces_in_order.ensures.settled l clean stays.0 (unspent_before (λ (ids : Vec ContentId Global). only_link c.in-Ok-Some.size ids.items) c.pieces_in_order.result c.piece_link.result c.piece_link.ensures unspent));
      kept = λ l clean is.
          let stays = c.in-Ok-Some.ensures.settled l (early clean) is refl in
          kept_then old mid new is stays (c.pieces_in_order.ensures.kept l clean stays.0);
      survives = survives_all old mid new _ _ c.find_upload.ensures.survives c.pieces_in_order.ensures.survives;
    }

pub returns-in-Ok-None : goal.returns-in-Ok-None
returns-in-Ok-None g c = record {
  found = λ l clean is. no_whole (held l (state g.S.Store c.args.conn.now)) c.args.repo.now c.args.number (sym c.in-Ok-None.field-0-is ∙ c.in-Ok-None.ensures.found l clean is);
  settled = λ l clean is unspent. c.in-Ok-None.ensures.settled l clean is refl;
  kept = c.find_upload.ensures.kept;
  survives = c.find_upload.ensures.survives;
}

pub find_upload-requires : goal.find_upload-requires
find_upload-requires g c = record { fits = c.requires.fits }

pub pieces_in_order-requires : goal.pieces_in_order-requires
pieces_in_order-requires g c = record { fits = c.requires.fits }

pub returns-in-Err : goal.returns-in-Err
returns-in-Err g c = record {
  found = λ l clean is. tt;
  settled = λ l clean is unspent. c.in-Err.ensures.settled l clean is unspent;
  kept = c.find_upload.ensures.kept;
  survives = c.find_upload.ensures.survives;
}
