-- Only HEAD is answered with a length alone.
use Rattle.std.proofs.Common.{◌≡◌, ◌∙◌, Bool, false, Option, Some, None, refl, sym, ap}
use Rattle.std.proofs.lemmas.Bool.{true≢false}
use Rattle.oci_types.specs.Text.{Text}
use Rattle.registry_model.specs.declared.request.Verb.{Verb}
use Rattle.registry_model.specs.declared.request.Verb.TheVariants as verb
use Rattle.registry_model.specs.Form.{Form, no_form, base, blob, uploads, session, manifest, tags, referrers}
use Rattle.registry_model.specs.Ask.{Keys, Ask}
use Rattle.registry_model.specs.Heads.{is_head, is_sizing}
use Rattle.registry_model.specs.Operation.{Operation, on_blob, post_by, on_uploads, on_session, on_manifest, on_tags, on_referrers, operation_on, operation_of}

abbrev sizes : Option Operation → Bool
sizes None = false
sizes (Some operation) = is_sizing operation

of_blob : (v : Verb) (digest : Text) → is_head v ≡ false → sizes (on_blob v digest) ≡ false
of_blob verb.Get digest whole = refl
of_blob verb.Head digest whole = absurd (true≢false whole)
of_blob verb.Post digest whole = refl
of_blob verb.Patch digest whole = refl
of_blob verb.Put digest whole = refl
of_blob verb.Delete digest whole = refl
of_blob verb.Other digest whole = refl

of_post : (mount source digest : Option Text) → is_sizing (post_by mount source digest) ≡ false
of_post (Some mount) source digest = refl
of_post None source (Some digest) = refl
of_post None source None = refl

of_uploads : (v : Verb) (keys : Keys) → sizes (on_uploads v keys) ≡ false
of_uploads verb.Get keys = refl
of_uploads verb.Head keys = refl
of_uploads verb.Post keys = of_post keys.mount keys.«from» keys.digest
of_uploads verb.Patch keys = refl
of_uploads verb.Put keys = refl
of_uploads verb.Delete keys = refl
of_uploads verb.Other keys = refl

of_session : (v : Verb) (reference : Text) (digest range : Option Text) → sizes (on_session v reference digest range) ≡ false
of_session verb.Get reference digest range = refl
of_session verb.Head reference digest range = refl
of_session verb.Post reference digest range = refl
of_session verb.Patch reference digest range = refl
of_session verb.Put reference digest range = refl
of_session verb.Delete reference digest range = refl
of_session verb.Other reference digest range = refl

of_manifest : (v : Verb) (reference : Text) (content_type : Option Text) → is_head v ≡ false → sizes (on_manifest v reference content_type) ≡ false
of_manifest verb.Get reference content_type whole = refl
of_manifest verb.Head reference content_type whole = absurd (true≢false whole)
of_manifest verb.Post reference content_type whole = refl
of_manifest verb.Patch reference content_type whole = refl
of_manifest verb.Put reference content_type whole = refl
of_manifest verb.Delete reference content_type whole = refl
of_manifest verb.Other reference content_type whole = refl

of_tags : (v : Verb) (keys : Keys) → sizes (on_tags v keys) ≡ false
of_tags verb.Get keys = refl
of_tags verb.Head keys = refl
of_tags verb.Post keys = refl
of_tags verb.Patch keys = refl
of_tags verb.Put keys = refl
of_tags verb.Delete keys = refl
of_tags verb.Other keys = refl

of_referrers : (v : Verb) (digest : Text) (keys : Keys) → is_head v ≡ false → sizes (on_referrers v digest keys) ≡ false
of_referrers verb.Get digest keys whole = refl
of_referrers verb.Head digest keys whole = absurd (true≢false whole)
of_referrers verb.Post digest keys whole = refl
of_referrers verb.Patch digest keys whole = refl
of_referrers verb.Put digest keys whole = refl
of_referrers verb.Delete digest keys whole = refl
of_referrers verb.Other digest keys whole = refl

by_form : (form : Form) (v : Verb) (keys : Keys) (content_type range : Option Text) → is_head v ≡ false → sizes (operation_on form v keys content_type range) ≡ false
by_form no_form v keys content_type range whole = refl
by_form base v keys content_type range whole = refl
by_form (blob name digest) v keys content_type range whole = of_blob v digest whole
by_form (uploads name) v keys content_type range whole = of_uploads v keys
by_form (session name reference) v keys content_type range whole = of_session v reference keys.digest range
by_form (manifest name reference) v keys content_type range whole = of_manifest v reference content_type whole
by_form (tags name) v keys content_type range whole = of_tags v keys
by_form (referrers name digest) v keys content_type range whole = of_referrers v digest keys whole

pub not_sizing : (q : Ask) (operation : Operation) → operation_of q ≡ Some operation → is_head q.verb ≡ false → is_sizing operation ≡ false
not_sizing q operation found whole = sym (ap sizes found) ∙ by_form q.form q.verb q.keys q.content_type q.content_range whole
