-- What is said on standard output as a server begins, and what is done over each opening.
use Rattle.std.proofs.Common.{◌≡◌, ℕ, Bool, true, false, [], Option, Ok, Err, Result, inl, inr, sym, subst, ap}
use Rattle.std.specs.Prelude.{OnOk, IfErr}
use Rattle.std.specs.Io.KnownBytes.{Appends}
use Rattle.registry_opening.specs.Openings.{Between}
use Rattle.registry_orders.specs.Outputs.{output}
use Rattle.oci_types.specs.Text.{Text}
use Rattle.registry_model.specs.Keeping.{Kept, nothing_held}
use Rattle.registry_loop.specs.Together.{ServesAll, bounds_of, with_held}
use Rattle.registry_orders.specs.declared.failure.Failure.{Failure}
use Rattle.registry_orders.specs.Failures.{IsOfServing}
use Rattle.registry_tasks.specs.Sockets.{greeting, EndsAs, ServesAddress}
use Rattle.registry_program.specs.declared.serving.Serving.{Serving}
use Rattle.registry_program.specs.declared.serving.Stop.{Stop}
use Rattle.registry_program.specs.declared.serving.Stop.TheVariants.{Over, Spent, Failed}
use Rattle.registry_program.specs.Serving.{Greets, GreetsFirst, ServesSpan, ServesSpans, Begins}
use Rattle.registry_model.specs.declared.settings.Settings.{Settings}
use Rattle.registry_orders.specs.declared.limits.Limits.{Limits}
use Rattle.registry_server.specs.Open.{none}
use Rattle.registry_server.proofs.CallLemmas.{leads_none}
use Rattle.registry_loop.proofs.TogetherLemmas.{within_none}
use Rattle.registry_loop.proofs.RoundLemmas.{no_round, ends_rounds}

-- whether it was written since
abbrev pub HasGreeted : Bool → Option Text → Option Text → Type 0
HasGreeted true held held' = Appends held held' greeting
HasGreeted false held held' = held' ≡ held

-- it is written once
pub greeted_then : (before : Bool) (h mid h' : Option Text) → HasGreeted before h mid → Greets before mid h' → Appends h h' greeting
greeted_then true h mid h' x y = subst (λ (k : Option Text). Appends h k greeting) (sym y) x
greeted_then false h mid h' x y = subst (λ (k : Option Text). Appends k h' greeting) x y

pub has_greeted : (before after : Bool) (h mid h' : Option Text) → after ≡ true → HasGreeted before h mid → Greets before mid h' → HasGreeted after h h'
has_greeted before after h mid h' e x y = subst (λ b. HasGreeted b h h') (sym e) (greeted_then before h mid h' x y)

-- ---- what is done over an opening, by how it ended

module _ (x y : Serving) (same : x ≡ y) (stop : Stop) (s s' : Kept) (q : ServesSpan x.settings x.limits stop s s') where
  together : ServesAll x.settings x.limits.at_once x.limits.buffer s s' → ServesAll y.settings y.limits.at_once y.limits.buffer s s'
  together z = subst (λ (v : Serving). ServesAll v.settings v.limits.at_once v.limits.buffer s s') same z

  as_stopped : (to : Stop) → stop ≡ to → ServesSpan x.settings x.limits to s s'
  as_stopped to e = subst (λ (z : Stop). ServesSpan x.settings x.limits z s s') e q

  pub over_ends : stop ≡ Over → EndsAs (ServesAll y.settings y.limits.at_once y.limits.buffer) (Ok tt) s s'
  over_ends e = inl (together (as_stopped Over e))

  pub spent_says : stop ≡ Spent → ServesAll y.settings y.limits.at_once y.limits.buffer s s'
  spent_says e = together (as_stopped Spent e).0

  pub spent_ends : stop ≡ Spent → s'.spent ≡ true
  spent_ends e = (as_stopped Spent e).1

  pub failed_ends : (f : Failure) → stop ≡ Failed f → EndsAs (ServesAll y.settings y.limits.at_once y.limits.buffer) (Err f) s s'
  failed_ends f e = go (as_stopped (Failed f) e)
    where
      go : ServesSpan x.settings x.limits (Failed f) s s' → EndsAs (ServesAll y.settings y.limits.at_once y.limits.buffer) (Err f) s s'
      go (inl z) = inl (together z.0)
      go (inr z) = inr (ap Err z.0, z.1)

pub greets_by : (before after : Bool) (stop to : Stop) (h h' : Option Text) → stop ≡ to → GreetsFirst before stop after h h' → GreetsFirst before to after h h'
greets_by before after stop to h h' e x = subst (λ (z : Stop). GreetsFirst before z after h h') e x

-- ---- nobody is served yet

pub none_served : (settings : Settings) (at_once buffer : ℕ) (s : Kept) → ServesAll settings at_once buffer s s
none_served settings at_once buffer s =
    let u = none settings (bounds_of at_once buffer) in
    let h = with_held nothing_held s in
    (nothing_held, within_none settings at_once buffer h, (u, ends_rounds u [] h u [] h u h (no_round u [] h) (leads_none u h)))

pub not_begun : (settings : Settings) (limits : Limits) (f : Failure) (s s' : Kept) → Begins (Err f) s s' → ServesSpan settings limits (Failed f) s s'
not_begun settings limits f s s' (inl same) =
    inl (subst (λ (k : Kept). ServesAll settings limits.at_once limits.buffer s k) (sym same.0) (none_served settings limits.at_once limits.buffer s), same.1)
not_begun settings limits f s s' (inr lost) = inr lost

-- ---- both ends of it

pub served_address : {K : Type 0} (b : Between K) (path : Text) (Says : Kept → Kept → Type 0) (result : Result (Unit {0}) Failure) (h h' : Option Text)
    → ServesSpans b path Says result → OnOk result (Appends h h' greeting) → IfErr result IsOfServing → ServesAddress b path Says result (output h h')
served_address b path Says (Ok v) h h' x greets fails = (x.0, (x.1, greets))
served_address b path Says (Err f) h h' x greets fails = (x.0, fails)
