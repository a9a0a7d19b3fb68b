use Rattle.std.proofs.Common.{◌≡◌, ◌∙◌, refl, sym, ap, None}
use Rattle.std.specs.Prelude.{Option, length, nat_lt}
use Rattle.oci_types.specs.Text.{Text}
use Rattle.oci_types.specs.Digest.{verdict_of}
use Rattle.registry_model.specs.declared.refusal.Refusal.TheVariants.{InvalidDigest}
use Rattle.registry_model.specs.Answer.{Answer}
use Rattle.registry_model.specs.Doing.{course_of_answer}
use Rattle.registry_model.specs.Heads.{is_sent}
use Rattle.registry_model.specs.Limits.{largest_blob}
use Rattle.operation_parts.specs.Digests.{digest_in}
use Rattle.blob_operations.specs.Pushing.{push_refusal}
use Rattle.blob_operations.proofs.BlobLemmas.{pushes_invalid, pushes_refused, push_added, may_push, refusal_answers}
use Rattle.operation_parts.proofs.ReadLemmas.{text_told}
use Rattle.operation_parts.proofs.DigestLemmas.{digest_read, no_digest}
use Rattle.operation_parts.proofs.EarlyLemmas.{refused_early}
use Rattle.blob_operations.proofs.blobs.push_blob.Goals as goal

pub returns-in-Err : goal.returns-in-Err
returns-in-Err g c =
    refused_early (λ (o : Option Text). o) (λ o. o ≡ None) InvalidDigest c.read_digest.result (digest_in c.args.text.now) c.in-Err.reply c.args.name.now _ _ _ _ _
    c.in-Err.ensures refl refl (text_told c.read_digest.result (digest_in c.args.text.now) (g.K.Keeper.kept c.args.keeper.now) (g.K.Keeper.is_honest c.args.keeper.now) c.read_digest.ensures c.requires.unspent)
    (λ honest o none e stays a is. pushes_invalid _ _ c.args.name.now c.requires.unspent (c.requires.there honest) c.args.text.now c.args.body.now a stays (no_digest c.args.text.now o none e) is)

pub returns-in-Some : goal.returns-in-Some
returns-in-Some g c =
    let body = c.args.body.now in
    let why = sym c.in-Some.is ∙ c.push_refusal.ensures ∙ ap (λ v. push_refusal v (nat_lt largest_blob (length body))) c.verifies.ensures in
    let answers = refusal_answers c.in-Some.refusal (verdict_of c.in-Ok.digest body) (nat_lt largest_blob (length body)) why in
    record {
      comes = λ honest.
          let read = digest_read c.read_digest.result c.in-Ok.digest c.args.text.now c.in-Ok.ensures c.read_digest.ensures in
          pushes_refused _ _ c.args.name.now c.requires.unspent (c.requires.there honest) c.args.text.now body _ refl c.in-Some.refusal read.1
          (why ∙ ap (λ d. push_refusal (verdict_of d body) (nat_lt largest_blob (length body))) read.0) c.refusal.ensures;
      answers = ap course_of_answer c.refusal.ensures ∙ answers;
      carries = ap (λ (a : Answer). is_sent a.body) c.refusal.ensures;
      spends = (c.requires.unspent, c.requires.unspent);
      honest = λ honest. honest;
    }

pub returns-in-None : goal.returns-in-None
returns-in-None g c =
    let body = c.args.body.now in
    let why = sym c.in-None.is ∙ c.push_refusal.ensures ∙ ap (λ v. push_refusal v (nat_lt largest_blob (length body))) c.verifies.ensures in
    record {
      comes = λ honest.
          let read = digest_read c.read_digest.result c.in-Ok.digest c.args.text.now c.in-Ok.ensures c.read_digest.ensures in
          push_added c.add_blob.result _ _ c.args.name.now c.args.text.now body c.in-Ok.digest read.0 read.1 why
          (c.add_blob.ensures.comes honest);
      answers = c.add_blob.ensures.answers;
      carries = c.add_blob.ensures.carries;
      spends = c.add_blob.ensures.spends;
      honest = c.add_blob.ensures.honest;
    }

pub add_blob-requires : goal.add_blob-requires
add_blob-requires g c =
    let body = c.args.body.now in
    let why = sym c.in-None.is ∙ c.push_refusal.ensures ∙ ap (λ v. push_refusal v (nat_lt largest_blob (length body))) c.verifies.ensures in
    record {
      unspent = c.requires.unspent;
      there = c.requires.there;
      matching = (may_push c.in-Ok.digest body why).0;
      fits = (may_push c.in-Ok.digest body why).1;
    }
