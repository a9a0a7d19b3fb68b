-- The second line on standard error (profile).
use Rattle.std.specs.Prelude.{◌≡◌, ◌⊎◌, ◌==◌, Bool, false, Option, None, Some, [], ◌++◌, codes, if◌then◌else◌}
use Rattle.std.specs.List.{list_any}
use Rattle.oci_types.specs.Text.{Text}
use Rattle.registry_orders.specs.declared.cause.Cause.{Cause}
use Rattle.registry_orders.specs.declared.cause.Cause.TheVariants.{InUse, NoFolder, IsFolder, NoFileName, NoPlainFile, NoRightToRead, NoRightToWrite, ReadOnly, NoDatabase, Journal, DiskFull, NoRegistry, NoContents, ForeignContents, ShortContents, NewerContents, ContentsThere, PortInUse, NoAddress, NoHost, Elsewhere, NoRightToPort, RegistryOptions, LoginOptions, LayoutOptions, TokenOptions, PlaceOptions, NoFile, Unreadable, NoToken, NoServer, ServerThere, NoSocket}
use Rattle.registry_orders.specs.declared.failure.Failure.{Failure}
use Rattle.registry_orders.specs.Failures.{text_of}
use Rattle.registry_orders.specs.Outputs.{newline}

abbrev pub words_of : Cause → Text
words_of InUse = codes "in use by another process; a server that holds it takes orders by --orders"
words_of NoFolder = codes "no such folder"
words_of IsFolder = codes "is a folder"
words_of NoFileName = codes "not the name of a file"
words_of NoPlainFile = codes "is a link, a device or a file of several names"
words_of NoRightToRead = codes "no right to read"
words_of NoRightToWrite = codes "no right to write"
words_of ReadOnly = codes "on a file system that is read-only"
words_of NoDatabase = codes "no database, but a file of another kind"
words_of Journal = codes "has a rollback journal beside it, which sqlite3 has to play back"
words_of DiskFull = codes "the disk is full"
words_of NoRegistry = codes "a database, but no registry's"
words_of NoContents = codes "its file of contents is not there, or is no file of contents"
words_of ForeignContents = codes "its file of contents belongs to another registry"
words_of ShortContents = codes "its file of contents is shorter than its rows say"
words_of NewerContents = codes "its file of contents is newer than the database, an older copy"
words_of ContentsThere = codes "a file of contents is there already, of another registry or of none"
words_of PortInUse = codes "port in use"
words_of NoAddress = codes "not an address"
words_of NoHost = codes "no address is known for this name"
words_of Elsewhere = codes "not an address of this machine"
words_of NoRightToPort = codes "no right to the port"
words_of RegistryOptions =
    codes "wants --db PATH, or --memory with --repo NAME=QUOTA and --grant TOKEN=NAME=LEVEL"
words_of LoginOptions = codes "wants --login http or --login https"
words_of LayoutOptions = codes "wants --layout tables or --layout beside, with --db PATH"
words_of TokenOptions = codes "wants one of --token TOKEN and --token-file PATH"
words_of PlaceOptions = codes "wants one of --db PATH and --orders PATH"
words_of NoFile = codes "no such file"
words_of Unreadable = codes "cannot be read"
words_of NoToken = codes "the first line is no token"
words_of NoServer = codes "no server takes orders here"
words_of ServerThere = codes "another server takes orders here"
words_of NoSocket = codes "is no socket"

-- `registry: PLACE: CAUSE`
abbrev pub reason_of : Text → Cause → Text
reason_of place cause = codes "registry: " ++ place ++ codes ": " ++ words_of cause

abbrev pub has_line_end : Text → Bool
has_line_end text = list_any (λ b. b == 10) text

-- a place that has a line's end in it is not told
abbrev pub line_of : Text → Cause → Text
line_of place cause = if has_line_end place then [] else (reason_of place cause ++ newline)

abbrev pub line_if : Text → Option Cause → Text
line_if place None = []
line_if place (Some cause) = line_of place cause

-- what failed, on a line of its own, and behind it what is wrong with a place, where that is known
abbrev pub lines_of : Failure → Text → Option Cause → Text
lines_of failure place cause = text_of failure ++ newline ++ line_if place cause

-- nothing, or one line
abbrev pub IsAtMostOneLine : Text → Type 0
IsAtMostOneLine text = (text ≡ []) ⊎ ((line : Text) × (has_line_end line ≡ false) × (text ≡ line ++ newline))
