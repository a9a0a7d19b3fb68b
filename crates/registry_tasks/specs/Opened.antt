-- What tasks come to over a registry that is opened for them, and what the opener does meanwhile: the
-- registry is opened once, or none is.
use Rattle.std.specs.Prelude.{◌≡◌, ◌<◌, ◌≤◌, ℕ, ◌⊎◌, Option, Result, Err, IfErr, is_ok, codes}
use Rattle.oci_types.specs.Text.{Text}
use Rattle.registry_model.specs.declared.settings.Settings.{Settings}
use Rattle.registry_orders.specs.declared.failure.Failure.{Failure}
use Rattle.registry_orders.specs.declared.orders.Order.{Order}
use Rattle.registry_orders.specs.declared.orders.TokenOrder.{TokenOrder}
use Rattle.registry_orders.specs.declared.place.Place.{Place}
use Rattle.registry_orders.specs.declared.place.Place.TheVariants.{Database, Server}
use Rattle.registry_orders.specs.declared.tokens.TokenSource.{TokenSource}
use Rattle.registry_orders.specs.declared.tokens.TokenSource.TheVariants.{Input, File}
use Rattle.registry_orders.specs.Orders.{order_with}
use Rattle.registry_orders.specs.Tokens.{IsFirstLine, ReadsWithinLine}
use Rattle.registry_orders.specs.Failures.{status_of, IsOfWords, IsOfOrder, IsOfOpening}
use Rattle.registry_orders.specs.Outputs.{Output, output, IsSilent}
use Rattle.order_carrying.specs.Carrying.{CarriesOrder, IsSilentUnlessBroken}
use Rattle.registry_opening.specs.Openings.{Between, Never, Once, TakesOver}
use Rattle.registry_conversation.specs.Accepting.{Streams}
use Rattle.registry_tasks.specs.Program.{ServesOne}
use Rattle.registry_tasks.specs.Checking.{Checks}
use Rattle.registry_tasks.specs.Acts.{Acts, SendsNone, DoesNothing}
use Rattle.registry_tasks.specs.Sending.{SendsOrder}
use Rattle.registry_tasks.specs.Telling.{TellsAt, SaysEnd}

abbrev pub output_of : Streams → Output
output_of e = output e.held e.held'

-- the registry is not opened, and nothing is done
abbrev pub IsNotOpened : Result (Unit {0}) Failure → Output → Type 0
IsNotOpened ended o = (f : Failure) × IsOfOpening f × (ended ≡ Err f) × IsSilent o

-- how an order that was read ends, and nothing is written where it was not carried out, unless writing failed
abbrev pub EndsOrder : Result (Unit {0}) Failure → Output → Type 0
EndsOrder ended o = IsSilentUnlessBroken ended o × IfErr ended IsOfOrder

-- the exit status of what is read over a registry: 0, 3 or 4
abbrev pub EndsReading : ℕ → Type 0
EndsReading status = (0 < status → 3 ≤ status) × (status ≤ 4)

-- the order over the registry that is opened
abbrev pub RunsOrder : {K : Type 0} → Between K → Text → Order → Result (Unit {0}) Failure → Output → Type 0
RunsOrder {K} b path order ended o =
    (Never b × IsNotOpened ended o) ⊎ Once b path (λ s s'. CarriesOrder s order ended o s')

-- what a registry that is opened holds is looked at
abbrev pub LooksAt : {K : Type 0} → Between K → Text → Result (Unit {0}) Failure → Output → Type 0
LooksAt {K} b path ended o =
    (Never b × IsNotOpened ended o) ⊎ Once b path (λ s s'. Checks s ended o s')

-- the same, and the exit status and standard error say how it ended
abbrev pub RunsHere : {K : Type 0} → Between K → Text → Order → ℕ → Output → Output → Type 0
RunsHere {K} b path order status o errors = (ended : Result (Unit {0}) Failure)
    × RunsOrder b path order ended o × SaysEnd ended path status errors

abbrev pub RunsCheck : {K : Type 0} → Between K → Text → ℕ → Output → Output → Type 0
RunsCheck {K} b path status o errors = (ended : Result (Unit {0}) Failure)
    × LooksAt b path ended o × SaysEnd ended path status errors

-- the order at its place: over the registry that is opened there, or sent to the server that holds it
abbrev pub RunsAt : {K : Type 0} → Acts K → Place → Order → ℕ → Output → Output → Type 0
RunsAt {K} a (Database path) order status o errors =
    SendsNone a × RunsHere a.openings path.now order status o errors
RunsAt {K} a (Server path) order status o errors =
    Never a.openings × SendsOrder a.sent a.sent' path.now order status o errors

-- the order with some token
abbrev pub RunsByFile : {K : Type 0} → Acts K → Place → TokenOrder → ℕ → Output → Output → Type 0
RunsByFile {K} a place order status o errors =
    (token : Text) × RunsAt a place (order_with order token) status o errors

-- the same with the token that is the first line of standard input, of which no more is read
abbrev pub RunsByInput : {K : Type 0} → Acts K → Place → TokenOrder → ℕ → Streams → Output → Type 0
RunsByInput {K} a place order status e errors = (token : Text) × IsFirstLine e.left e.left' token
    × RunsAt a place (order_with order token) status (output_of e) errors

abbrev pub RunsTokenOrder : {K : Type 0} → Acts K → Place → TokenSource → TokenOrder → ℕ → Streams → Output
    → Type 0
RunsTokenOrder {K} a place Input order status e errors = RunsByInput a place order status e errors
RunsTokenOrder {K} a place (File path) order status e errors =
    (e.left' ≡ e.left) × RunsByFile a place order status (output_of e) errors

-- the token is the first line of standard input, of which no more is read; or nothing of that is read
abbrev pub GivesToken : TokenSource → Option Text → Option Text → Text → Type 0
GivesToken Input left left' token = IsFirstLine left left' token
GivesToken (File path) left left' token = left' ≡ left

-- standard input is read for a token alone, and no further than its first line's end
abbrev pub IsReadFor : TokenSource → Option Text → Option Text → Type 0
IsReadFor Input left left' = ReadsWithinLine left left'
IsReadFor (File path) left left' = left' ≡ left

-- where it is read, as it is told
abbrev pub place_of : TokenSource → Text
place_of Input = codes "standard input"
place_of (File path) = path.now

-- what was read there is no token, or nothing could be read, and that is told
abbrev pub IsWithoutToken : Text → ℕ → Output → Output → Type 0
IsWithoutToken place status o errors =
    (f : Failure) × IsOfWords f × (status ≡ status_of f) × IsSilent o × TellsAt f place errors

-- the same, and no registry is opened, and nothing is sent
abbrev pub LacksTokenOf : {K : Type 0} → Acts K → TokenSource → ℕ → Streams → Output → Type 0
LacksTokenOf {K} a source status e errors = DoesNothing a × IsReadFor source e.left e.left'
    × IsWithoutToken (place_of source) status (output_of e) errors

-- one connection with these settings over a registry that is opened
abbrev pub RunsStored : {K : Type 0} → Between K → Settings → Text → ℕ → Streams → Output → Type 0
RunsStored {K} b settings path status e errors = (ended : Result (Unit {0}) Failure)
    × ((Never b × IsNotOpened ended (output_of e) × (e.left' ≡ e.left))
    ⊎ Once b path (ServesOne settings ended e)) × SaysEnd ended path status errors

-- the registry of schema 1 is taken over, or that failed
abbrev pub EndsMigration : {K : Type 0} → Between K → Text → ℕ → Output → Type 0
EndsMigration {K} b path status errors = (ended : Result (Unit {0}) Failure)
    × TakesOver b path (is_ok ended) × IfErr ended IsOfOpening × SaysEnd ended path status errors
