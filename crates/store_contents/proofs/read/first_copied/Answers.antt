use Rattle.std.proofs.Common.{◌≡◌, ap, rules, inl, Some, None}
use Rattle.sqlite.specs.State.{IsUnchanged}
use Rattle.sqlite.specs.Held.{state}
use Rattle.sqlite.specs.Given.{row_if}
use Rattle.store_contents.specs.Search.{next_bytes}
use Rattle.store_schema.proofs.Selects.{if_err}
use Rattle.store_contents.proofs.ReadLemmas.{gives_row, same_if}
use Rattle.store_contents.proofs.read.first_copied.Goals as goal

pub returns-in-Some-clause-found : goal.returns-in-Some-clause-found
returns-in-Some-clause-found g c clean =
    let got : Some c.in-Some.row.now ≡ row_if c.advance.new.self.has_row c.advance.new.self.conn.now = search rules in
    gives_row g.S.Store c.args.rows.now.conn.now c.advance.new.self.conn.now _ c.in-Some.row.now c.copied.result got (c.in_ok-advance.ensures.ok clean) c.copied.ensures

pub returns-in-Some-clause-same : goal.returns-in-Some-clause-same
returns-in-Some-clause-same g c clean = same_if c.copied.result (IsUnchanged (state g.S.Store c.args.rows.now.conn.now) (state g.S.Store c.advance.new.self.conn.now)) (c.in_ok-advance.ensures.same clean)

pub returns-in-Some-clause-failed : goal.returns-in-Some-clause-failed
returns-in-Some-clause-failed g c clean = if_err c.copied.result (inl (c.in_ok-advance.ensures.same clean))

pub returns-in-None-clause-found : goal.returns-in-None-clause-found
returns-in-None-clause-found g c clean =
    let got : None ≡ row_if c.advance.new.self.has_row c.advance.new.self.conn.now = search rules in
    (row_if c.advance.new.self.has_row c.advance.new.self.conn.now, c.in_ok-advance.ensures.ok clean, ap next_bytes got)
