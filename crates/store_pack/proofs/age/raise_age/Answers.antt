use Rattle.std.proofs.Common.{◌≡◌, ◌+◌, ◌∙◌, inl, inr, Err, ap, arith, refl, sym, subst}
use Rattle.std.specs.Prelude.{IsTrue}
use Rattle.sqlite.specs.Effect.{Database}
use Rattle.sqlite.specs.Held.{state}
use Rattle.registry_pack.specs.declared.head.Head.{Head}
use Rattle.registry_pack.specs.declared.head.HeadCopy.TheVariants.{First}
use Rattle.registry_pack.specs.Pack.{file_of, mark_of, age_of}
use Rattle.store_pack.specs.Pack.{PutsPack}
use Rattle.store_contents.specs.Places.{bytes_in}
use Rattle.store_pack.specs.Joint.{IsSame}
use Rattle.store_pack.proofs.JointLemmas.{crashes_same}
use Rattle.store_statements.proofs.Checks.{survives_here}
use Rattle.oci_types.specs.declared.fault.Fault.TheVariants.{Memory}
use Rattle.store_pack.proofs.AgeLemmas.{crashes_aged, elsewhere_itself, joint_aged, joint_by, outcomes_at, raised_by, wanting}
use Rattle.store_pack.proofs.age.raise_age.Goals as goal

pub returns-then-age-clause-crash : goal.returns-then-age-clause-crash
returns-then-age-clause-crash g c clean joint says free =
    let file = file_of c.args.pack.now in
    crashes_same g.D.Disk (state g.S.Store c.args.conn.now) file file (λ w. IsSame w (bytes_in (state g.S.Store c.args.conn.now).now (g.D.Disk.seen file)))
    (λ db may. g.met.S.Store.settled c.args.conn.now.store db joint.settled.is_open may ∙ ap (λ (d : Database). d.trees) (sym joint.settled.committed)) (record { seen = refl; crash = λ c may. may; clean = λ is. is }) joint

pub returns-in-Ok-renew-clause-rows : goal.returns-in-Ok-renew-clause-rows
returns-in-Ok-renew-clause-rows g c clean is was says =
    let old = (state g.S.Store c.args.conn.now).now in
    let new = (state g.S.Store c.set_rows.new.conn).now in
    let age : c.age-2.result + 1 ≡ age_of c.renew.new.self = ap (λ n. n + 1) c.age-2.ensures ∙ sym c.in-Ok-renew.ensures.age in
    subst (λ m. PutsPack old new m (age_of c.renew.new.self)) (sym c.renew.ensures.mark) (subst (λ n. PutsPack old new (mark_of c.args.pack.now) n) age (c.in-Ok.ensures.set clean is _ _ says).1)

pub returns-in-Ok-renew-clause-refused : goal.returns-in-Ok-renew-clause-refused
returns-in-Ok-renew-clause-refused g c old low = record { copy = First; head = c.renew.new.self.head; lasts = c.in-Ok-renew.ensures.heads.first; higher = omega (arith, low, c.in-Ok-renew.ensures.age) }

pub returns-in-Ok-renew-clause-joint : goal.returns-in-Ok-renew-clause-joint
returns-in-Ok-renew-clause-joint g c clean joint says free lives =
    joint_aged g.D.Disk (state g.S.Store c.args.conn.now) (file_of c.args.pack.now) (file_of c.renew.new.self) c.renew.ensures.elsewhere joint free (state g.S.Store c.set_rows.new.conn) _ _ (c.in-Ok.ensures.set clean joint.settled _ _ says)

pub returns-in-Ok-renew-clause-crash : goal.returns-in-Ok-renew-clause-crash
returns-in-Ok-renew-clause-crash g c clean joint says free =
    crashes_aged g.D.Disk (state g.S.Store c.args.conn.now) (file_of c.args.pack.now) (file_of c.renew.new.self) c.renew.ensures.elsewhere joint free (state g.S.Store c.set_rows.new.conn) _ _ (c.set_rows.ensures.crash clean joint.settled _ _ says)

pub returns-in-Err-renew-clause-joint : goal.returns-in-Err-renew-clause-joint
returns-in-Err-renew-clause-joint g c clean joint says free lives =
    joint_aged g.D.Disk (state g.S.Store c.args.conn.now) (file_of c.args.pack.now) (file_of c.renew.new.self) c.renew.ensures.elsewhere joint free (state g.S.Store c.set_rows.new.conn) _ _ (c.in-Ok.ensures.set clean joint.settled _ _ says)

pub returns-in-Err-renew-clause-crash : goal.returns-in-Err-renew-clause-crash
returns-in-Err-renew-clause-crash g c clean joint says free =
    crashes_aged g.D.Disk (state g.S.Store c.args.conn.now) (file_of c.args.pack.now) (file_of c.renew.new.self) c.renew.ensures.elsewhere joint free (state g.S.Store c.set_rows.new.conn) _ _ (c.set_rows.ensures.crash clean joint.settled _ _ says)

pub returns-in-Err-clause-joint : goal.returns-in-Err-clause-joint
returns-in-Err-clause-joint g c clean joint says free lives =
    let file = file_of c.args.pack.now in
    joint_by g.D.Disk (state g.S.Store c.args.conn.now) (state g.S.Store c.set_rows.new.conn) file file (elsewhere_itself g.D.Disk 0 8192 file) joint free (Err c.in-Err.fault) (c.in-Err.ensures.memory clean joint.settled _ _ says) lives (λ is. cc)

pub returns-in-Err-clause-crash : goal.returns-in-Err-clause-crash
returns-in-Err-clause-crash g c clean joint says free =
    let file = file_of c.args.pack.now in
    crashes_aged g.D.Disk (state g.S.Store c.args.conn.now) file file (elsewhere_itself g.D.Disk 0 8192 file) joint free (state g.S.Store c.set_rows.new.conn) _ _ (c.set_rows.ensures.crash clean joint.settled _ _ says)

pub returns-in-Err-renew-clause-usable : goal.returns-in-Err-renew-clause-usable
returns-in-Err-renew-clause-usable g c lives =
    wanting c.fault_in.result _
    (λ is.
    let same : file_of c.renew.new.self ≡ file_of c.args.pack.now = rw (c.fault_in.ensures is) at c.in-Err-renew.ensures.reason in
    subst (λ file. IsTrue (g.D.Disk.is_usable file)) (sym same) c.requires.usable)
    lives

-- ---- the rows alone

pub returns-then-age-clause-settled : goal.returns-then-age-clause-settled
returns-then-age-clause-settled g c clean is was says lives = absurd (lives refl)

pub returns-in-Ok-renew-clause-settled : goal.returns-in-Ok-renew-clause-settled
returns-in-Ok-renew-clause-settled g c clean is was says lives =
    raised_by (state g.S.Store c.args.conn.now) (state g.S.Store c.set_rows.new.conn) (mark_of c.args.pack.now) _ _ (ap (λ n. n + 1) c.age-2.ensures) (c.in-Ok.ensures.set clean is _ _ says)

pub returns-in-Err-renew-clause-settled : goal.returns-in-Err-renew-clause-settled
returns-in-Err-renew-clause-settled g c clean is was says lives =
    raised_by (state g.S.Store c.args.conn.now) (state g.S.Store c.set_rows.new.conn) (mark_of c.args.pack.now) _ _ (ap (λ n. n + 1) c.age-2.ensures) (c.in-Ok.ensures.set clean is _ _ says)

pub returns-in-Err-clause-settled : goal.returns-in-Err-clause-settled
returns-in-Err-clause-settled g c clean is was says lives =
    wanting c.in-Err.fault _ (λ wants. let stays = c.in-Err.ensures.memory clean is _ _ says (ap (λ fault. Err fault) wants) in (stays.0, inl stays.1)) lives

pub returns-then-age-clause-outcomes : goal.returns-then-age-clause-outcomes
returns-then-age-clause-outcomes g c clean is was says db may = inl (g.met.S.Store.settled c.args.conn.now.store db is.is_open may ∙ ap (λ (d : Database). d.trees) (sym is.committed))

pub returns-in-Ok-renew-clause-outcomes : goal.returns-in-Ok-renew-clause-outcomes
returns-in-Ok-renew-clause-outcomes g c clean is was says =
    outcomes_at (state g.S.Store c.args.conn.now) (state g.S.Store c.set_rows.new.conn) (mark_of c.args.pack.now) _ _ (ap (λ n. n + 1) c.age-2.ensures) (c.set_rows.ensures.crash clean is _ _ says)

pub returns-in-Err-renew-clause-outcomes : goal.returns-in-Err-renew-clause-outcomes
returns-in-Err-renew-clause-outcomes g c clean is was says =
    outcomes_at (state g.S.Store c.args.conn.now) (state g.S.Store c.set_rows.new.conn) (mark_of c.args.pack.now) _ _ (ap (λ n. n + 1) c.age-2.ensures) (c.set_rows.ensures.crash clean is _ _ says)

pub returns-in-Err-clause-outcomes : goal.returns-in-Err-clause-outcomes
returns-in-Err-clause-outcomes g c clean is was says =
    outcomes_at (state g.S.Store c.args.conn.now) (state g.S.Store c.set_rows.new.conn) (mark_of c.args.pack.now) _ _ (ap (λ n. n + 1) c.age-2.ensures) (c.set_rows.ensures.crash clean is _ _ says)

pub returns-then-age-clause-survives : goal.returns-then-age-clause-survives
returns-then-age-clause-survives g c = survives_here (state g.S.Store c.args.conn.now)

-- ---- the file

pub returns-then-age-clause-one_stands : goal.returns-then-age-clause-one_stands
returns-then-age-clause-one_stands g c was lasts = inl lasts

pub returns-in-Err-clause-one_stands : goal.returns-in-Err-clause-one_stands
returns-in-Err-clause-one_stands g c was lasts = inl lasts

pub returns-in-Ok-renew-clause-one_stands : goal.returns-in-Ok-renew-clause-one_stands
returns-in-Ok-renew-clause-one_stands g c was lasts =
    let head = c.renew.new.self.head in
    elim (c.renew.ensures.one_stands head c.in-Ok-renew.ensures.age c.renew.ensures.mark was lasts) [
      | inl second ↦ inl second
      | inr first ↦ inr (head, (c.in-Ok-renew.ensures.age, first))
    ]

pub returns-in-Err-renew-clause-one_stands : goal.returns-in-Err-renew-clause-one_stands
returns-in-Err-renew-clause-one_stands g c was lasts =
    let pack = c.args.pack.now in
    let head : Head = record { mark = mark_of pack; age = age_of pack + 1; whole_mark = pack.head.whole_mark; age_fits = omega arith } in
    elim (c.renew.ensures.one_stands head refl refl was lasts) [ inl second ↦ inl second | inr first ↦ inr (head, (refl, first)) ]

pub returns-in-Err-renew-clause-memory : goal.returns-in-Err-renew-clause-memory
returns-in-Err-renew-clause-memory g c wants =
    let fault : c.fault_in.result ≡ Memory = cc in
    rw (c.fault_in.ensures fault) at c.in-Err-renew.ensures.reason
