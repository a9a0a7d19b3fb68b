use Rattle.std.proofs.Common.{◌≡◌, inl, inr, Option, refl, subst}
use Rattle.oci_types.specs.Text.{Text}
use Rattle.registry_http.specs.Buffering.{behind}
use Rattle.registry_http.specs.Reading.{FillStops}
use Rattle.registry_http.specs.declared.ending.FramingRefusal.{FramingRefusal}
use Rattle.registry_http.specs.declared.ending.FramingRefusal.TheVariants.{NoBufferMemory}
use Rattle.registry_http.specs.declared.ending.Stop.{Stop}
use Rattle.registry_http.specs.declared.ending.Stop.TheVariants.{Refuse}
use Rattle.registry_conversation.specs.ConversationShowing.{shown}
use Rattle.registry_conversation.proofs.SteppingLemmas.{grown, comes, lacks_memory}
use Rattle.registry_conversation.proofs.conversation.Conversation.read_from.Goals as goal

fill_refused : (s : Stop) (r : FramingRefusal) (old : Text) (l l' : Option Text) → s ≡ Refuse r → FillStops s old l l' → r ≡ NoBufferMemory
fill_refused s r old l l' e x = let h : FillStops (Refuse r) old l l' = subst (λ (k : Stop). FillStops k old l l') e x in h

pub returns-in-Ok-clause-cases : goal.returns-in-Ok-clause-cases
returns-in-Ok-clause-cases g c =
    let old = shown c.args.self.now in
    let pulls = c.in-Ok.ensures.cases in
    inl (inl (
      pulls.bytes,
      pulls.some,
      pulls.taken,
      comes old _ pulls.bytes (grown old.phase old.finished old.going old.taken _ old.unread _ pulls.bytes c.read_more.ensures.before pulls.grown),
    ))

pub returns-in-Err-Refuse-clause-cases : goal.returns-in-Err-Refuse-clause-cases
returns-in-Err-Refuse-clause-cases g c =
    let none = fill_refused c.in-Err-Refuse.field-0 c.in-Err-Refuse.refusal (behind c.args.self.now.buffer) (g.R.Read.remaining c.args.reader.now) (g.R.Read.remaining c.read_more.new.reader)
    c.in-Err-Refuse.field-0-is c.in-Err-Refuse.ensures.cases in
    inl (inr (lacks_memory c.refuse.result c.in-Err-Refuse.refusal (shown c.args.self.now) _ (shown c.refuse.new.self) none refl refl c.refuse.ensures.refuses))
