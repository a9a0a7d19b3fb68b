use Rattle.sqlite.specs.Held.{state}
use Rattle.store_statements.proofs.ContentRows.{inside_of, content_kept_if, digits_told}
use Rattle.store_statements.proofs.contents.keep_bytes.Goals as goal

pub find_or_add_hashed-requires : goal.find_or_add_hashed-requires
find_or_add_hashed-requires g c = record { hashed = digits_told c.args.digest.now c.args.bytes.now c.in-Some.sha256.now c.requires.matching c.in-Some.ensures.cases }

pub returns-in-Some : goal.returns-in-Some
returns-in-Some g c =
    let old = state g.S.Store c.args.tx.now.conn.now in
    record {
      content = λ clean is.
          content_kept_if old (state g.S.Store c.find_or_add_hashed.new.tx.conn.now) c.args.bytes.now c.find_or_add_hashed.result is
          (c.find_or_add_hashed.ensures.inside clean (inside_of old is)) (c.find_or_add_hashed.ensures.content clean (inside_of old is));
      kept = λ clean is. c.find_or_add_hashed.ensures.kept clean (inside_of old is);
      same_reference = c.find_or_add_hashed.ensures.same_reference;
      survives = c.find_or_add_hashed.ensures.survives;
    }

pub returns-in-None : goal.returns-in-None
returns-in-None g c =
    let old = state g.S.Store c.args.tx.now.conn.now in
    record {
      content = λ clean is.
          content_kept_if old (state g.S.Store c.find_or_add.new.tx.conn.now) c.args.bytes.now c.find_or_add.result is
          (c.find_or_add.ensures.inside clean (inside_of old is)) (c.find_or_add.ensures.content clean (inside_of old is));
      kept = λ clean is. c.find_or_add.ensures.kept clean (inside_of old is);
      same_reference = c.find_or_add.ensures.same_reference;
      survives = c.find_or_add.ensures.survives;
    }
