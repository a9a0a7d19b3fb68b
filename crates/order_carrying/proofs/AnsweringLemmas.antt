-- What carrying an order out leaves of the service, and what is answered.
use Rattle.std.proofs.Common.{◌≡◌, ◌≢◌, ◌∙◌, false, [], ◌∷◌, ◌++◌, Option, None, Some, Result, Ok, Err, inl, inr, sym, refl, ap, append-nil}
use Rattle.std.specs.Prelude.{OnErr}
use Rattle.oci_types.specs.Text.{Text}
use Rattle.registry_model.specs.declared.admin.AdminCommand.{AdminCommand}
use Rattle.registry_model.specs.declared.admin.AdminCommand.TheVariants as command
use Rattle.registry_model.specs.declared.admin.AdminFault.{AdminFault}
use Rattle.registry_model.specs.declared.admin.AdminFault.TheVariants as fault
use Rattle.registry_model.specs.World.{World}
use Rattle.registry_model.specs.Command.{refusal_of, carried_out, after_command}
use Rattle.registry_model.specs.Keeping.{State, Kept, state_of}
use Rattle.registry_model.proofs.HeldLaws.{held_lost, held_same}
use Rattle.registry_model.specs.Lookups.{usages_of}
use Rattle.registry_model.specs.Doing.{keeps, outcome_of, CarriesOut}
use Rattle.registry_orders.specs.declared.failure.Failure.{Failure}
use Rattle.registry_orders.specs.declared.failure.Failure.TheVariants as failure
use Rattle.registry_orders.specs.declared.orders.Order.{Order}
use Rattle.registry_orders.specs.declared.orders.Order.TheVariants as order
use Rattle.registry_orders.specs.Outputs.{Output, output}
use Rattle.order_carrying.specs.Carrying.{CarriesOrder}
use Rattle.registry_orders.specs.declared.orders.Change.{Change}
use Rattle.registry_orders.specs.Orders.{told, Obeys}
use Rattle.registry_orders.proofs.OutputLemmas.{no_part}
use Rattle.order_texts.specs.Table.{table_of}
use Rattle.order_texts.specs.Answers.{failure_text}
use Rattle.order_texts.proofs.AnswerLemmas.{done_text}
use Rattle.order_carrying.specs.Answering.{IsAnswered, IsOneStep}

-- it is one step
pub one_step : (s : Kept) (o : Order) (r : Result (Unit {0}) Failure) (out : Output) (s' : Kept) → CarriesOrder s o r out s' → IsOneStep s s'
one_step s (order.Change change) r out s' h = inr (h.1.command, h.1.outcome, h.1.does, h.1.holds)
one_step s order.Usage (Ok v) out s' h = inl h.1
one_step s order.Usage (Err failure.OutOfMemory) out s' h = inl h.1
one_step s order.Usage (Err failure.StorageFailure) out s' h = inr (command.Clear, Err fault.Storage, h.1, held_lost s s' h.1)
one_step s order.Usage (Err failure.ConnectionFailure) out s' h = inl h.1
one_step s order.Usage (Err failure.NoRepo) out s' h = absurd h
one_step s order.Usage (Err failure.NoGrant) out s' h = absurd h
one_step s order.Usage (Err failure.RepoThere) out s' h = absurd h
one_step s order.Usage (Err failure.InvalidName) out s' h = absurd h
one_step s order.Usage (Err failure.InvalidToken) out s' h = absurd h
one_step s order.Usage (Err failure.InvalidOptions) out s' h = absurd h
one_step s order.Usage (Err (failure.Schema n)) out s' h = absurd h
one_step s order.Usage (Err failure.NotARegistry) out s' h = absurd h
one_step s order.Usage (Err failure.Damaged) out s' h = absurd h
one_step s (order.List l f) (Ok v) out s' h = inl h.3
one_step s (order.List l f) (Err failure.NoRepo) out s' h = inl h.1
one_step s (order.List l f) (Err failure.OutOfMemory) out s' h = inl h.1
one_step s (order.List l f) (Err failure.StorageFailure) out s' h = inr (command.Clear, Err fault.Storage, h.1, held_lost s s' h.1)
one_step s (order.List l f) (Err failure.ConnectionFailure) out s' h = inl h.3
one_step s (order.List l f) (Err failure.NoGrant) out s' h = absurd h
one_step s (order.List l f) (Err failure.RepoThere) out s' h = absurd h
one_step s (order.List l f) (Err failure.InvalidName) out s' h = absurd h
one_step s (order.List l f) (Err failure.InvalidToken) out s' h = absurd h
one_step s (order.List l f) (Err failure.InvalidOptions) out s' h = absurd h
one_step s (order.List l f) (Err (failure.Schema n)) out s' h = absurd h
one_step s (order.List l f) (Err failure.NotARegistry) out s' h = absurd h
one_step s (order.List l f) (Err failure.Damaged) out s' h = absurd h

-- ---- a command that is refused changes nothing

after_refusal : (w : World) (a : AdminCommand) (o : Option AdminFault) (f : AdminFault) → refusal_of w a ≡ o → Err f ≡ outcome_of o → after_command w a ≡ w
after_refusal w a None f is e = cc
after_refusal w a (Some g) f is e = ap (λ x. elim x as (λ _. World) [ None ↦ carried_out w a | Some e ↦ w ]) is

refused_keeps : (s : State) (a : AdminCommand) (f : AdminFault) (s' : State) → s.spent ≡ false → Err f ≡ outcome_of (refusal_of s.world a) → s' ≡ keeps (after_command s.world a) → s' ≡ s
refused_keeps s a f s' fresh e after =
    after ∙ ap keeps (after_refusal s.world a (refusal_of s.world a) f refl e) ∙ ap (λ b. record s { spent = b }) (sym fresh)

refused_command : (s : State) (a : AdminCommand) (f : AdminFault) (s' : State) → f ≢ fault.Storage → CarriesOut s a (Err f) s' → (s.spent ≡ false) × (s' ≡ s)
refused_command s a fault.Storage s' known h = absurd (known refl)
refused_command s a fault.Memory s' known h = (h.0, h.1)
refused_command s a fault.NoRepo s' known h = (h.0, refused_keeps s a fault.NoRepo s' h.0 h.1 h.2)
refused_command s a fault.NoGrant s' known h = (h.0, refused_keeps s a fault.NoGrant s' h.0 h.1 h.2)
refused_command s a fault.RepoThere s' known h = (h.0, refused_keeps s a fault.RepoThere s' h.0 h.1 h.2)

refused_change : (s : State) (a : AdminCommand) (outcome : Result (Unit {0}) AdminFault) (f : Failure) (s' : State) → f ≢ failure.StorageFailure
    → Err f ≡ told outcome → CarriesOut s a outcome s' → (s.spent ≡ false) × (s' ≡ s)
refused_change s a (Ok v) f s' known is h = cc
refused_change s a (Err fault.Storage) f s' known is h = absurd (known (cc))
refused_change s a (Err fault.Memory) f s' known is h = refused_command s a fault.Memory s' (λ e. cc) h
refused_change s a (Err fault.NoRepo) f s' known is h = refused_command s a fault.NoRepo s' (λ e. cc) h
refused_change s a (Err fault.NoGrant) f s' known is h = refused_command s a fault.NoGrant s' (λ e. cc) h
refused_change s a (Err fault.RepoThere) f s' known is h = refused_command s a fault.RepoThere s' (λ e. cc) h

-- the state is as it was, and so is what is held
refused_order : (k k' : Kept) (change : Change) (f : Failure) → f ≢ failure.StorageFailure → Obeys k change (Err f) k' → k' ≡ k
refused_order k k' change f known h =
    let same = refused_change (state_of k) h.command h.outcome f (state_of k') known h.is h.does in
    held_same k k' same.1 (h.holds (ap (λ (s : State). s.spent) same.1 ∙ same.0)).1

-- nor does any failure but that of the storage
pub failure_keeps : (s : Kept) (o : Order) (f : Failure) (out : Output) (s' : Kept) → f ≢ failure.StorageFailure → CarriesOrder s o (Err f) out s' → s' ≡ s
failure_keeps s (order.Change change) f out s' known h = refused_order s s' change f known h.1
failure_keeps s order.Usage failure.OutOfMemory out s' known h = h.1
failure_keeps s order.Usage failure.StorageFailure out s' known h = absurd (known refl)
failure_keeps s order.Usage failure.ConnectionFailure out s' known h = h.1
failure_keeps s order.Usage failure.NoRepo out s' known h = absurd h
failure_keeps s order.Usage failure.NoGrant out s' known h = absurd h
failure_keeps s order.Usage failure.RepoThere out s' known h = absurd h
failure_keeps s order.Usage failure.InvalidName out s' known h = absurd h
failure_keeps s order.Usage failure.InvalidToken out s' known h = absurd h
failure_keeps s order.Usage failure.InvalidOptions out s' known h = absurd h
failure_keeps s order.Usage (failure.Schema n) out s' known h = absurd h
failure_keeps s order.Usage failure.NotARegistry out s' known h = absurd h
failure_keeps s order.Usage failure.Damaged out s' known h = absurd h
failure_keeps s (order.List l f) failure.NoRepo out s' known h = h.1
failure_keeps s (order.List l f) failure.OutOfMemory out s' known h = h.1
failure_keeps s (order.List l f) failure.StorageFailure out s' known h = absurd (known refl)
failure_keeps s (order.List l f) failure.ConnectionFailure out s' known h = h.3
failure_keeps s (order.List l f) failure.NoGrant out s' known h = absurd h
failure_keeps s (order.List l f) failure.RepoThere out s' known h = absurd h
failure_keeps s (order.List l f) failure.InvalidName out s' known h = absurd h
failure_keeps s (order.List l f) failure.InvalidToken out s' known h = absurd h
failure_keeps s (order.List l f) failure.InvalidOptions out s' known h = absurd h
failure_keeps s (order.List l f) (failure.Schema n) out s' known h = absurd h
failure_keeps s (order.List l f) failure.NotARegistry out s' known h = absurd h
failure_keeps s (order.List l f) failure.Damaged out s' known h = absurd h

-- ---- what was written

-- where an order fails, nothing is
pub writes_nothing : (s : Kept) (o : Order) (f : Failure) (out : Output) (s' : Kept) → CarriesOrder s o (Err f) out s' → CarriesOrder s o (Err f) (output (Some []) (Some [])) s'
writes_nothing s (order.Change change) f out s' h = (refl, h.1)
writes_nothing s order.Usage failure.OutOfMemory out s' h = (refl, h.1)
writes_nothing s order.Usage failure.StorageFailure out s' h = (refl, h.1)
writes_nothing s order.Usage failure.ConnectionFailure out s' h = (no_part (Some []) (table_of (usages_of s.world)), h.1)
writes_nothing s order.Usage failure.NoRepo out s' h = absurd h
writes_nothing s order.Usage failure.NoGrant out s' h = absurd h
writes_nothing s order.Usage failure.RepoThere out s' h = absurd h
writes_nothing s order.Usage failure.InvalidName out s' h = absurd h
writes_nothing s order.Usage failure.InvalidToken out s' h = absurd h
writes_nothing s order.Usage failure.InvalidOptions out s' h = absurd h
writes_nothing s order.Usage (failure.Schema n) out s' h = absurd h
writes_nothing s order.Usage failure.NotARegistry out s' h = absurd h
writes_nothing s order.Usage failure.Damaged out s' h = absurd h
writes_nothing s (order.List l f) failure.NoRepo out s' h = (refl, h.1, h.2)
writes_nothing s (order.List l f) failure.OutOfMemory out s' h = (refl, h.1)
writes_nothing s (order.List l f) failure.StorageFailure out s' h = (refl, h.1)
writes_nothing s (order.List l f) failure.ConnectionFailure out s' h = (h.0, h.1, no_part (Some []) h.0, h.3)
writes_nothing s (order.List l f) failure.NoGrant out s' h = absurd h
writes_nothing s (order.List l f) failure.RepoThere out s' h = absurd h
writes_nothing s (order.List l f) failure.InvalidName out s' h = absurd h
writes_nothing s (order.List l f) failure.InvalidToken out s' h = absurd h
writes_nothing s (order.List l f) failure.InvalidOptions out s' h = absurd h
writes_nothing s (order.List l f) (failure.Schema n) out s' h = absurd h
writes_nothing s (order.List l f) failure.NotARegistry out s' h = absurd h
writes_nothing s (order.List l f) failure.Damaged out s' h = absurd h

-- what an order that is done writes stands behind what was there
pub record Wrote (s : Kept) (o : Order) (front after : Text) (s' : Kept) : Type 0 where
  pub written : Text
  pub is : after ≡ front ++ written
  pub carried : CarriesOrder s o (Ok tt) (output (Some []) (Some written)) s'

same_text : (front after : Text) → Some after ≡ Some front → after ≡ front
same_text front after e = cc

pub writes_behind : (s : Kept) (o : Order) (front after : Text) (s' : Kept) → CarriesOrder s o (Ok tt) (output (Some front) (Some after)) s' → Wrote s o front after s'
writes_behind s (order.Change change) front after s' h =
    record { written = []; is = same_text front after h.0 ∙ sym (append-nil front); carried = (refl, h.1) }
writes_behind s order.Usage front after s' h =
    record { written = table_of (usages_of s.world); is = h.0; carried = (refl, h.1) }
writes_behind s (order.List l f) front after s' h =
    record { written = h.0; is = h.2; carried = (h.0, h.1, refl, h.3) }

-- ---- the answer

pub answered_done : (s : Kept) (o : Order) (v : Unit {0}) (front after : Text) (s' : Kept) → front ≡ 48 ∷ 10 ∷ []
    → CarriesOrder s o (Ok v) (output (Some front) (Some after)) s' → IsAnswered s o after s'
answered_done s o v front after s' begins carried =
    let w = writes_behind s o front after s' carried in
    record {
      result = Ok tt;
      written = w.written;
      carried = w.carried;
      whole = λ e. cc;
      is = w.is ∙ ap (λ x. x ++ w.written) begins ∙ done_text w.written;
    }

pub answered_failed : (s : Kept) (o : Order) (f : Failure) (out : Output) (bytes : Text) (s' : Kept) → f ≢ failure.ConnectionFailure → bytes ≡ failure_text f
    → CarriesOrder s o (Err f) out s' → IsAnswered s o bytes s'
answered_failed s o f out bytes s' known is carried =
    record {
      result = Err f;
      written = [];
      carried = writes_nothing s o f out s' carried;
      whole = λ e. known (cc);
      is = is;
    }

pub on_err : {A E P : Type 0} (r : Result A E) → P → OnErr r P
on_err (Ok v) h = tt
on_err (Err e) h = h
