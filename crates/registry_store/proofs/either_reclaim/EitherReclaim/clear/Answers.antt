use Rattle.std.proofs.Common.{sym, subst}
use Rattle.registry_store.proofs.SideCalls.{left_freed, left_leaves, left_made, left_stayed, right_freed, right_leaves, right_made, right_stayed, sides}
use Rattle.registry_store.specs.Calls.{CrashLeaves, Frees, Makes, StaysOnMemory}
use Rattle.either.specs.declared.Either.{Either}
use Rattle.either.specs.declared.Either.TheVariants.{Left, Right}
use Rattle.registry_store.proofs.either_reclaim.EitherReclaim.clear.Goals as goal

pub returns-in-Left-clause-made : goal.returns-in-Left-clause-made
returns-in-Left-clause-made g c =
    subst
    (λ (e : Either g.row.A.Denot g.row.B.Denot). Makes g.S.Store (sides g.A.Contents g.B.Contents) (c.args.conn.now, e) (c.clear.new.conn, Left c.clear.new.self) c.clear.result (λ w. w))
    (sym c.in-Left.is)
    (left_made g.S.Store g.A.Contents g.B.Contents c.args.conn.now c.clear.new.conn c.in-Left.one c.clear.new.self c.clear.result (λ w. w) c.clear.ensures.made)

pub returns-in-Left-clause-freed : goal.returns-in-Left-clause-freed
returns-in-Left-clause-freed g c =
    subst
    (λ (e : Either g.row.A.Denot g.row.B.Denot). Frees g.S.Store (sides g.A.Contents g.B.Contents) (c.args.conn.now, e) (c.clear.new.conn, Left c.clear.new.self) c.clear.result)
    (sym c.in-Left.is)
    (left_freed g.S.Store g.A.Contents g.B.Contents c.args.conn.now c.clear.new.conn c.in-Left.one c.clear.new.self c.clear.result c.clear.ensures.freed)

pub returns-in-Left-clause-memory : goal.returns-in-Left-clause-memory
returns-in-Left-clause-memory g c =
    subst
    (λ (e : Either g.row.A.Denot g.row.B.Denot). StaysOnMemory g.S.Store (sides g.A.Contents g.B.Contents) (c.args.conn.now, e) (c.clear.new.conn, Left c.clear.new.self) c.clear.result)
    (sym c.in-Left.is)
    (left_stayed g.S.Store g.A.Contents g.B.Contents c.args.conn.now c.clear.new.conn c.in-Left.one c.clear.new.self c.clear.result c.clear.ensures.memory)

pub returns-in-Left-clause-crash : goal.returns-in-Left-clause-crash
returns-in-Left-clause-crash g c =
    subst
    (λ (e : Either g.row.A.Denot g.row.B.Denot). CrashLeaves g.S.Store (sides g.A.Contents g.B.Contents) (c.args.conn.now, e) (c.clear.new.conn, Left c.clear.new.self) c.clear.result (λ w. w))
    (sym c.in-Left.is)
    (left_leaves g.S.Store g.A.Contents g.B.Contents c.args.conn.now c.clear.new.conn c.in-Left.one c.clear.new.self c.clear.result (λ w. w) c.clear.ensures.crash)

pub returns-in-Right-clause-made : goal.returns-in-Right-clause-made
returns-in-Right-clause-made g c =
    subst
    (λ (e : Either g.row.A.Denot g.row.B.Denot). Makes g.S.Store (sides g.A.Contents g.B.Contents) (c.args.conn.now, e) (c.clear-in-Right.new.conn, Right c.clear-in-Right.new.self) c.clear-in-Right.result (λ w. w))
    (sym c.in-Right.is)
    (right_made g.S.Store g.A.Contents g.B.Contents c.args.conn.now c.clear-in-Right.new.conn c.in-Right.other c.clear-in-Right.new.self c.clear-in-Right.result (λ w. w) c.clear-in-Right.ensures.made)

pub returns-in-Right-clause-freed : goal.returns-in-Right-clause-freed
returns-in-Right-clause-freed g c =
    subst
    (λ (e : Either g.row.A.Denot g.row.B.Denot). Frees g.S.Store (sides g.A.Contents g.B.Contents) (c.args.conn.now, e) (c.clear-in-Right.new.conn, Right c.clear-in-Right.new.self) c.clear-in-Right.result)
    (sym c.in-Right.is)
    (right_freed g.S.Store g.A.Contents g.B.Contents c.args.conn.now c.clear-in-Right.new.conn c.in-Right.other c.clear-in-Right.new.self c.clear-in-Right.result c.clear-in-Right.ensures.freed)

pub returns-in-Right-clause-memory : goal.returns-in-Right-clause-memory
returns-in-Right-clause-memory g c =
    subst
    (λ (e : Either g.row.A.Denot g.row.B.Denot). StaysOnMemory g.S.Store (sides g.A.Contents g.B.Contents) (c.args.conn.now, e) (c.clear-in-Right.new.conn, Right c.clear-in-Right.new.self) c.clear-in-Right.result)
    (sym c.in-Right.is)
    (right_stayed g.S.Store g.A.Contents g.B.Contents c.args.conn.now c.clear-in-Right.new.conn c.in-Right.other c.clear-in-Right.new.self c.clear-in-Right.result c.clear-in-Right.ensures.memory)

pub returns-in-Right-clause-crash : goal.returns-in-Right-clause-crash
returns-in-Right-clause-crash g c =
    subst
    (λ (e : Either g.row.A.Denot g.row.B.Denot). CrashLeaves g.S.Store (sides g.A.Contents g.B.Contents) (c.args.conn.now, e) (c.clear-in-Right.new.conn, Right c.clear-in-Right.new.self) c.clear-in-Right.result (λ w. w))
    (sym c.in-Right.is)
    (right_leaves g.S.Store g.A.Contents g.B.Contents c.args.conn.now c.clear-in-Right.new.conn c.in-Right.other c.clear-in-Right.new.self c.clear-in-Right.result (λ w. w) c.clear-in-Right.ensures.crash)
