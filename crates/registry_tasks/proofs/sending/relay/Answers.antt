use Rattle.std.proofs.Common.{arith, ◌≡◌, ◌<◌, ◌≤◌, ◌≢◌, ◌∙◌, ℕ, inl, inr, refl, ap, sym}
use Rattle.std.proofs.lemmas.Bool.{ne_eqb}
use Rattle.oci_types.specs.Text.{Text}
use Rattle.registry_orders.specs.declared.failure.Failure.TheVariants.{ConnectionFailure}
use Rattle.registry_orders.specs.Outputs.{Output, IsSilent}
use Rattle.registry_tasks.specs.Sending.{Shows, relayed}
use Rattle.registry_tasks.proofs.StatusBounds.{status_at_most, sending_read}
use Rattle.registry_tasks.proofs.sending.relay.Goals as goal

shown_silent : (text : Text) (status : ℕ) (o errors : Output) → Shows text status o errors → 0 < status → status < 4 → IsSilent o
shown_silent text status o errors (inl shown) more less = absurd (let none = shown.0 in omega arith)
shown_silent text status o errors (inr failed) more less = absurd (let four = failed.0 in omega arith)

shown_at_most : (text : Text) (status : ℕ) (o errors : Output) → Shows text status o errors → status ≤ 4
shown_at_most text status o errors (inl shown) = let none = shown.0 in omega arith
shown_at_most text status o errors (inr failed) = let four = failed.0 in omega arith

shown_read : (text : Text) (status : ℕ) (o errors : Output) → Shows text status o errors → status ≢ 2
shown_read text status o errors (inl shown) two = let none = shown.0 in omega arith
shown_read text status o errors (inr failed) two = let four = failed.0 in omega arith

pub returns-in_default : goal.returns-in_default
returns-in_default g c = record {
  relays = inr (c.in_default.ensures.none, c.say.ensures.status, refl, c.say.ensures.said);
  silent = λ more less. refl;
  status = status_at_most ConnectionFailure c.say.result c.say.ensures.status;
  read = sending_read ConnectionFailure c.say.result tt c.say.ensures.status;
}

pub returns-then-status-eq0 : goal.returns-then-status-eq0
returns-then-status-eq0 g c =
    let said = c.in-Some.field-0 in
    record {
      relays = inl (
        said.status,
        said.text.now,
        c.in-Some.ensures.read,
        record {
          done = λ zero. c.show.ensures;
          not_done = λ some. absurd (some c.if-status-eq0.true);
        },
      );
      silent = shown_silent said.text.now c.show.result _ _ c.show.ensures;
      status = shown_at_most said.text.now c.show.result _ _ c.show.ensures;
      read = shown_read said.text.now c.show.result _ _ c.show.ensures;
    }

pub returns-then-status-eq2 : goal.returns-then-status-eq2
returns-then-status-eq2 g c =
    let said = c.in-Some.field-0 in
    record {
      relays = inl (
        said.status,
        said.text.now,
        c.in-Some.ensures.read,
        record {
          done = λ zero. absurd (c.if-status-eq0.false zero);
          not_done = λ some. (refl, c.status.ensures ∙ ap relayed (sym c.if-status-eq2.true), c.write_text.ensures.part);
        },
      );
      silent = λ more less. refl;
      status = status_at_most ConnectionFailure c.status.result c.status.ensures;
      read = sending_read ConnectionFailure c.status.result tt c.status.ensures;
    }

-- a server's word that is not about the command line is passed on
passed_on : (said : ℕ) → said ≢ 2 → said ≡ relayed said
passed_on said other = let not = ne_eqb said 2 other in rw not refl

pub returns-else-status-eq2 : goal.returns-else-status-eq2
returns-else-status-eq2 g c =
    let said = c.in-Some.field-0 in
    record {
      relays = inl (
        said.status,
        said.text.now,
        c.in-Some.ensures.read,
        record {
          done = λ zero. absurd (c.if-status-eq0.false zero);
          not_done = λ some. (refl, passed_on said.status c.if-status-eq2.false, c.write_text.ensures.part);
        },
      );
      silent = λ more less. refl;
      status = c.in-Some.ensures.status;
      read = c.if-status-eq2.false;
    }
