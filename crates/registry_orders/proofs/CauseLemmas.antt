-- What a failure is told by: its own line, and at most one behind it.
use Rattle.std.proofs.Common.{◌≡◌, ◌∙◌, Bool, true, false, Option, None, Some, [], ◌++◌, inl, inr, refl, ap}
use Rattle.std.specs.Prelude.{◌==◌, ◌||◌, codes, if◌then◌else◌}
use Rattle.std.proofs.lemmas.List.Folds.{list_any-append}
use Rattle.oci_types.specs.Text.{Text}
use Rattle.registry_orders.specs.declared.cause.Cause.{Cause}
use Rattle.registry_orders.specs.declared.cause.Cause.TheVariants.{InUse, NoFolder, IsFolder, NoFileName, NoPlainFile, NoRightToRead, NoRightToWrite, ReadOnly, NoDatabase, Journal, DiskFull, NoRegistry, NoContents, ForeignContents, ShortContents, NewerContents, ContentsThere, PortInUse, NoAddress, NoHost, Elsewhere, NoRightToPort, RegistryOptions, LoginOptions, LayoutOptions, TokenOptions, PlaceOptions, NoFile, Unreadable, NoToken, NoServer, ServerThere, NoSocket}
use Rattle.registry_orders.specs.Outputs.{newline}
use Rattle.registry_orders.specs.Causes.{words_of, reason_of, has_line_end, line_if, IsAtMostOneLine}

words_end_nowhere : (cause : Cause) → has_line_end (words_of cause) ≡ false
words_end_nowhere InUse = refl
words_end_nowhere NoFolder = refl
words_end_nowhere IsFolder = refl
words_end_nowhere NoFileName = refl
words_end_nowhere NoPlainFile = refl
words_end_nowhere NoRightToRead = refl
words_end_nowhere NoRightToWrite = refl
words_end_nowhere ReadOnly = refl
words_end_nowhere NoDatabase = refl
words_end_nowhere Journal = refl
words_end_nowhere DiskFull = refl
words_end_nowhere NoRegistry = refl
words_end_nowhere NoContents = refl
words_end_nowhere ForeignContents = refl
words_end_nowhere ShortContents = refl
words_end_nowhere NewerContents = refl
words_end_nowhere ContentsThere = refl
words_end_nowhere PortInUse = refl
words_end_nowhere NoAddress = refl
words_end_nowhere NoHost = refl
words_end_nowhere Elsewhere = refl
words_end_nowhere NoRightToPort = refl
words_end_nowhere RegistryOptions = refl
words_end_nowhere LoginOptions = refl
words_end_nowhere LayoutOptions = refl
words_end_nowhere TokenOptions = refl
words_end_nowhere PlaceOptions = refl
words_end_nowhere NoFile = refl
words_end_nowhere Unreadable = refl
words_end_nowhere NoToken = refl
words_end_nowhere NoServer = refl
words_end_nowhere ServerThere = refl
words_end_nowhere NoSocket = refl

pub neither_ends : (x y : Text) → has_line_end x ≡ false → has_line_end y ≡ false → has_line_end (x ++ y) ≡ false
neither_ends x y first second = list_any-append (λ b. b == 10) x y ∙ ap (λ (t : Bool). t || has_line_end y) first ∙ second

reason_ends_nowhere : (place : Text) (cause : Cause) → has_line_end place ≡ false → has_line_end (reason_of place cause) ≡ false
reason_ends_nowhere place cause clean =
    neither_ends (codes "registry: " ++ place ++ codes ": ") (words_of cause)
    (neither_ends (codes "registry: " ++ place) (codes ": ") (neither_ends (codes "registry: ") place refl clean) refl)
    (words_end_nowhere cause)

told_or_not : (place : Text) (cause : Cause) (there : Bool) → has_line_end place ≡ there
    → IsAtMostOneLine (if there then [] else (reason_of place cause ++ newline))
told_or_not place cause true e = inl refl
told_or_not place cause false e = inr (reason_of place cause, reason_ends_nowhere place cause e, refl)

pub one_line : (place : Text) (cause : Option Cause) → IsAtMostOneLine (line_if place cause)
one_line place None = inl refl
one_line place (Some cause) = told_or_not place cause (has_line_end place) refl
