-- Lines that are sent to the server that holds the registry: orders, and the one that ends it (profile). What
-- the server does is its own contract.
use Rattle.std.specs.Prelude.{◌≡◌, ◌≢◌, ◌≤◌, ℕ, ◌⊎◌, ◌==◌, ◌∷◌, ◌++◌, List, [], Option, Some, None, ⊤, if◌then◌else◌}
use Rattle.std.specs.Io.KnownBytes.{Appends}
use Rattle.oci_types.specs.Text.{Text}
use Rattle.order_texts.specs.Answers.{answer_text}
use Rattle.order_texts.specs.Lines.{line_of}
use Rattle.order_texts.specs.Stopping.{stop_line}
use Rattle.registry_orders.specs.declared.failure.Failure.{Failure}
use Rattle.registry_orders.specs.declared.failure.Failure.TheVariants.{OutOfMemory, ConnectionFailure}
use Rattle.registry_orders.specs.declared.orders.Order.{Order}
use Rattle.registry_orders.specs.Outputs.{Output, AppendsPart, IsSilent}
use Rattle.registry_orders.specs.Failures.{status_of}
use Rattle.registry_tasks.specs.Telling.{TellsLine, TellsAt}

-- why an order has no answer: want of memory, or the socket fails
abbrev pub IsOfSending : Failure → Type 0
IsOfSending OutOfMemory = ⊤
IsOfSending ConnectionFailure = ⊤
IsOfSending _ = ⊥

-- the text was written, or writing failed, a first part of the text was written, and that is told
abbrev pub Shows : Text → ℕ → Output → Output → Type 0
Shows text status o errors =
    ((status ≡ 0) × Appends o.held o.held' text × IsSilent errors)
    ⊎ ((status ≡ status_of ConnectionFailure) × AppendsPart o.held o.held' text
    × TellsLine ConnectionFailure errors)

-- the status of an order that a server did not carry out; of the command line it knows nothing
abbrev pub relayed : ℕ → ℕ
relayed said = if said == 2 then status_of ConnectionFailure else said

-- with status 0 the server's text is shown, and with any other it goes to standard error
pub record RelaysAnswer (said : ℕ) (text : Text) (status : ℕ) (o errors : Output) : Type 0 where
  pub done : said ≡ 0 → Shows text status o errors
  pub not_done : said ≢ 0
      → IsSilent o × (status ≡ relayed said) × AppendsPart errors.held errors.held' text

abbrev pub IsNoAnswer : Text → Type 0
IsNoAnswer bytes = (said : ℕ) (text : Text) → said ≤ 4 → ¬ (bytes ≡ answer_text said text)

-- what the bytes come to that a server gave: they are an answer, or they are none, which is told
abbrev pub Relays : Text → ℕ → Output → Output → Type 0
Relays bytes status o errors =
    ((said : ℕ) × (text : Text) × (bytes ≡ answer_text said text) × RelaysAnswer said text status o errors)
    ⊎ (IsNoAnswer bytes × (status ≡ status_of ConnectionFailure) × IsSilent o
    × TellsLine ConnectionFailure errors)

-- what the answer of the server at the path comes to; where there is none, that is told, and nothing was
-- written
abbrev pub IsAnswered : Text → Option Text → ℕ → Output → Output → Type 0
IsAnswered path (Some bytes) status o errors = Relays bytes status o errors
IsAnswered path None status o errors =
    (f : Failure) × IsOfSending f × (status ≡ status_of f) × IsSilent o × TellsAt f path errors

-- ---- which lines were sent: `had` and `had'` tell of those up to one moment and up to another

-- a line that was sent to the server at a path, and what it answered, if it did
pub record Exchange : Type 0 where
  pub path : Text
  pub line : Text
  pub answer : Option Text

abbrev pub SendsNone : (List Exchange → Type 0) → (List Exchange → Type 0) → Type 0
SendsNone had had' = (l : List Exchange) → had l → had' l

-- this line alone, with this answer
abbrev pub Exchanges : (List Exchange → Type 0) → (List Exchange → Type 0)
    → Text → Text → Option Text → Type 0
Exchanges had had' path line answer = (l : List Exchange) → had l
    → had' (l ++ record { path = path; line = line; answer = answer } ∷ [])

-- this line was sent to the server at the path, and no other, and the status is of what that answered
abbrev pub SendsLine : (List Exchange → Type 0) → (List Exchange → Type 0)
    → Text → Text → ℕ → Output → Output → Type 0
SendsLine had had' path line status o errors = (answer : Option Text)
    × Exchanges had had' path line answer × IsAnswered path answer status o errors

-- so was the order's line; or memory was wanting for it, and none was sent
abbrev pub SendsOrder : (List Exchange → Type 0) → (List Exchange → Type 0)
    → Text → Order → ℕ → Output → Output → Type 0
SendsOrder had had' path order status o errors =
    SendsLine had had' path (line_of order) status o errors
    ⊎ (SendsNone had had' × (status ≡ status_of OutOfMemory) × IsSilent o × TellsLine OutOfMemory errors)

-- so was the line that asks the server to stop
abbrev pub SendsStop : (List Exchange → Type 0) → (List Exchange → Type 0)
    → Text → ℕ → Output → Output → Type 0
SendsStop had had' path status o errors = SendsLine had had' path stop_line status o errors
