-- Connections that are served together, from none on.
use Rattle.std.proofs.Common.{ℕ, [], ◌∷◌, ◌++◌, inl, inr, refl, sym, subst}
use Rattle.registry_model.specs.Keeping.{Kept}
use Rattle.registry_model.specs.declared.settings.Settings.{Settings}
use Rattle.registry_model.specs.Team.{orders}
use Rattle.registry_model.specs.Runs.{did}
use Rattle.registry_server.specs.Open.{Open, none}
use Rattle.registry_server.specs.Events.{Leads, elsewhere}
use Rattle.registry_server.proofs.LedgerLemmas.{all_are_served}
use Rattle.registry_server.proofs.RoomLemmas.{all_within}
use Rattle.registry_server.proofs.CallLemmas.{passes_then}
use Rattle.order_carrying.specs.Answering.{IsOneStep}
use Rattle.registry_loop.specs.Together.{ServesWithin, ServesTogether, Passed, PassesBeside, bounds_of}

-- ---- events one after the other

pub passed_none : (u : Open) (s : Kept) → Passed u s u s
passed_none u s = ([], (refl, refl))

pub passed_then : (u : Open) (s : Kept) (v : Open) (t : Kept) (w : Open) (r : Kept) → Passed u s v t → Passed v t w r → Passed u s w r
passed_then u s v t w r x y = (x.0 ++ y.0, passes_then x.0 y.0 u s v t w r x.1 y.1)

pub passed_by : (u : Open) (s : Kept) (v : Open) (t : Kept) → Leads u s v t → Passed u s v t
passed_by u s v t x = (x.0, x.1)

pub within_from : (settings : Settings) (at_once buffer : ℕ) (s : Kept) (u : Open) (s' : Kept) → Passed (none settings (bounds_of at_once buffer)) s u s'
    → ServesWithin settings at_once buffer s s'
within_from settings at_once buffer s u s' x =
    let bounds = bounds_of at_once buffer in
    record {
      events = x.0;
      last = u;
      passes = x.1;
      ledger = all_are_served settings x.0 bounds s u s' x.1;
      within = λ front back e v t y. all_within front settings bounds s v t y;
    }

pub within_none : (settings : Settings) (at_once buffer : ℕ) (s : Kept) → ServesWithin settings at_once buffer s s
within_none settings at_once buffer s =
    let u = none settings (bounds_of at_once buffer) in
    within_from settings at_once buffer s u s (passed_none u s)

-- with any buffer
pub together_none : (settings : Settings) (at_once : ℕ) (s : Kept) → ServesTogether settings at_once s s
together_none settings at_once s = (0, within_none settings at_once 0 s)

-- ---- orders, which leave all connections as they are

pub beside_none : (s : Kept) → PassesBeside s s
beside_none s u = passed_none u s

pub beside_then : (s t r : Kept) → PassesBeside s t → PassesBeside t r → PassesBeside s r
beside_then s t r x y u = passed_then u s u t u r (x u) (y u)

pub beside_step : (k k' : Kept) → IsOneStep k k' → PassesBeside k k'
beside_step k k' (inl e) u = subst (λ (x : Kept). Passed u k u x) (sym e) (passed_none u k)
beside_step k k' (inr x) u = (elsewhere (orders x.0) (did x.1) ∷ [], (u, k', (refl, x.2, x.3), (refl, refl)))
