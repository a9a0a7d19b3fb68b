use Rattle.sqlite.specs.Held.{state}
use Rattle.store_statements.proofs.ContentRows.{inside_of, content_kept_if}
use Rattle.store_statements.proofs.contents.keep_hashed.Goals as goal

pub returns-in-Some-clause-content : goal.returns-in-Some-clause-content
returns-in-Some-clause-content g c = λ clean is.
    let old = state g.S.Store c.args.tx.now.conn.now in
    content_kept_if old (state g.S.Store c.find_or_add_with.new.tx.conn.now) c.args.bytes.now c.find_or_add_with.result is
    (c.find_or_add_with.ensures.inside clean (inside_of old is)) (c.find_or_add_with.ensures.content clean (inside_of old is))

pub returns-in-None-clause-content : goal.returns-in-None-clause-content
returns-in-None-clause-content g c = λ clean is.
    let old = state g.S.Store c.args.tx.now.conn.now in
    content_kept_if old (state g.S.Store c.find_or_add.new.tx.conn.now) c.args.bytes.now c.find_or_add.result is
    (c.find_or_add.ensures.inside clean (inside_of old is)) (c.find_or_add.ensures.content clean (inside_of old is))
