-- What the bytes on a connection spell: requests, one after the other, and an end (RFC 9112, sections 2, 3
-- and 6; the limit of a body is the settings', and the others are the profile's).
use Rattle.std.specs.Prelude.{◌≡◌, ◌<◌, ◌≤◌, ◌⊎◌, Bool, true, false, List, [], ◌∷◌, ◌++◌, length, take}
use Rattle.httparse.specs.Grammar.{RequestHead, print_request, IsRequestHead, ReadsRequest, HasNoRequest, NeverHasRequest, EndsInTarget, MayBecomeRequest}
use Rattle.oci_types.specs.Text.{Text}
use Rattle.registry_model.specs.declared.settings.Settings.{Settings}
use Rattle.registry_http.specs.Limits.{longest_head, most_fields}
use Rattle.registry_http.specs.Fields.{fields_of, closes_by}
use Rattle.registry_http.specs.Framing.{framing}
use Rattle.registry_http.specs.Chunks.{ChunkedBody, IsChunkedBody, print_body, data_of, ChunksAreCut, ChunksAreRefused}
use Rattle.registry_http.specs.declared.framing.Framing.{Framing}
use Rattle.registry_http.specs.declared.framing.Framing.TheVariants as framed
use Rattle.registry_http.specs.declared.ending.FramingRefusal.{FramingRefusal}
use Rattle.registry_http.specs.declared.ending.FramingRefusal.TheVariants.{UnreadableHead}
use Rattle.registry_http.specs.declared.ending.End.{End}
use Rattle.registry_http.specs.declared.ending.End.TheVariants.{Closed, Cut, Refused, ReadFailed, WriteFailed}

-- ---- requests

-- a request: its head, its body as it stands on the connection, and what that carries
pub record Item : Type 0 where
  pub head : RequestHead
  pub coded : Text
  pub body : Text

-- a body framed so is spelled by these bytes and carries those
abbrev pub IsBody : Settings → Framing → Text → Text → Type 0
IsBody settings (framed.Length n) coded body = (coded ≡ body) × (length body ≡ n)
IsBody settings framed.Chunked coded body =
    (b : ChunkedBody) × IsChunkedBody settings b × (coded ≡ print_body b) × (body ≡ data_of b.chunks)
IsBody settings (framed.Refused r) coded body = ⊥

-- the head is in the grammar and within the limits, and the body is framed as the head says
pub record IsRequest (settings : Settings) (i : Item) : Type 0 where
  pub head : IsRequestHead i.head
  pub short : length (print_request i.head) ≤ longest_head
  pub few : length i.head.fields ≤ most_fields
  pub body : IsBody settings (framing settings i.head) i.coded i.body

-- the bytes of a request
abbrev pub print_item : Item → Text
print_item i = print_request i.head ++ i.coded

-- after the reply the connection is closed
abbrev pub closes : Item → Bool
closes i = closes_by i.head.minor (fields_of i.head)

-- ---- the end

-- b begins with a head that is not too long
pub record BeginsWithHead (b : Text) (h : RequestHead) (rest : Text) : Type 0 where
  pub reads : ReadsRequest b h rest
  pub short : length (print_request h) ≤ longest_head

abbrev pub BodyIsCut : Settings → Framing → Text → Type 0
BodyIsCut settings (framed.Length n) b = length b < n
BodyIsCut settings framed.Chunked b = ChunksAreCut settings b
BodyIsCut settings (framed.Refused r) b = ⊥

abbrev pub BodyIsRefused : Settings → Framing → Text → FramingRefusal → Type 0
BodyIsRefused settings (framed.Length n) b r = ⊥
BodyIsRefused settings framed.Chunked b r = ChunksAreRefused settings b r
BodyIsRefused settings (framed.Refused s) b r = r ≡ s

-- as many bytes as a head may have hold no whole one, or never will
abbrev pub HoldsNoHead : Text → Type 0
HoldsNoHead b =
    ((longest_head ≤ length b) × HasNoRequest (take longest_head b)) ⊎ NeverHasRequest (take longest_head b)

-- no head, or one of too many fields
abbrev pub HeadIsUnreadable : Text → Type 0
HeadIsUnreadable b =
    HoldsNoHead b
    ⊎ ((h : RequestHead) × (rest : Text) × BeginsWithHead b h rest × (most_fields < length h.fields))

-- no whole head stands there, and more bytes can make it one; or it ends in a target, of which only its end
-- tells whether it is text
abbrev pub HeadIsCut : Text → Type 0
HeadIsCut b = (0 < length b) × (length b < longest_head) × HasNoRequest b × MayBecomeRequest b

-- the input ends inside a request that is not refused
abbrev pub IsCut : Settings → Text → Type 0
IsCut settings b =
    HeadIsCut b
    ⊎ ((h : RequestHead) × (rest : Text) × BeginsWithHead b h rest
    × (length h.fields ≤ most_fields) × BodyIsCut settings (framing settings h) rest)

-- a request stands there that is refused, whatever bytes follow
abbrev pub IsRefused : Settings → Text → FramingRefusal → Type 0
IsRefused settings b r =
    ((r ≡ UnreadableHead) × HeadIsUnreadable b)
    ⊎ ((h : RequestHead) × (rest : Text) × BeginsWithHead b h rest
    × (length h.fields ≤ most_fields) × BodyIsRefused settings (framing settings h) rest r)

-- no further request is read, and why
abbrev pub Ends : Settings → Text → End → Type 0
Ends settings b Closed = b ≡ []
Ends settings b Cut = IsCut settings b
Ends settings b (Refused r) = IsRefused settings b r
Ends settings b ReadFailed = ⊥
Ends settings b (WriteFailed n) = ⊥

-- ---- all requests

-- what follows a request: nothing where it closes the connection, else P
abbrev pub Then : Bool → List Item → End → Type 0 → Type 0
Then true items end P = (items ≡ []) × (end ≡ Closed)
Then false items end P = P

-- b is these requests, one after the other, and then what the end says
abbrev pub Spells : Settings → Text → List Item → End → Type 0
Spells settings b [] end = Ends settings b end
Spells settings b (i ∷ items) end =
    (rest : Text) × IsRequest settings i × (b ≡ print_item i ++ rest)
    × Then (closes i) items end (Spells settings rest items end)

-- b is these requests, each of which leaves the connection open, and then rest
abbrev pub Front : Settings → Text → List Item → Text → Type 0
Front settings b [] rest = b ≡ rest
Front settings b (i ∷ items) rest =
    (behind : Text) × IsRequest settings i × (b ≡ print_item i ++ behind) × (closes i ≡ false)
    × Front settings behind items rest

-- ---- the end is one

-- one of them waits for the end of a head, and the other refuses it
abbrev pub OneWaits : End → End → Type 0
OneWaits e f =
    ((e ≡ Cut) × (f ≡ Refused UnreadableHead)) ⊎ ((e ≡ Refused UnreadableHead) × (f ≡ Cut))

-- the ends are the same; or the bytes end in the target of a head, which may be no text, and one of them
-- waits for its end
abbrev pub AreOneEnd : Text → End → End → Type 0
AreOneEnd b e f =
    (e ≡ f) ⊎ ((front : Text) × (rest : Text) × (b ≡ front ++ rest) × EndsInTarget rest × OneWaits e f)
