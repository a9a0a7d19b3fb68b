use Rattle.std.proofs.Common.{refl}
use Rattle.std.specs.Prelude.{Option}
use Rattle.std.specs.Option.{option_and_then}
use Rattle.oci_types.specs.Text.{Text}
use Rattle.registry_model.specs.World.{repo_at}
use Rattle.registry_model.specs.Manifests.{reference_digest}
use Rattle.operation_parts.proofs.ReadLemmas.{read_as}
use Rattle.manifest_operations.proofs.ManifestLemmas.{names_itself, names_tagged, names_nothing, no_reference}
use Rattle.manifest_operations.proofs.manifests.find_digest.Goals as goal

pub returns-in-Ok-Tag : goal.returns-in-Ok-Tag
returns-in-Ok-Tag g c =
    let said = rw c.in-Ok-Tag.field-0-is at c.in-Ok-Tag.ensures.read in
    let w = (g.K.Keeper.kept c.args.keeper.now).world in
    read_as (λ (o : Option Text). o) c.tag.result _ (option_and_then (λ r. reference_digest r c.args.reference.now) (repo_at w c.args.name.now)) _ _ _ _
    (names_tagged (repo_at w c.args.name.now) c.args.reference.now _ said.0 said.1) c.tag.ensures

pub returns-in-Ok-Digest : goal.returns-in-Ok-Digest
returns-in-Ok-Digest g c =
    let said = rw c.in-Ok-Digest.field-0-is at c.in-Ok-Digest.ensures.read in
    record {
      found = λ honest. (names_itself _ (c.requires.there honest) c.args.reference.now _ said.0 said.1, refl);
      spends = (c.requires.unspent, c.requires.unspent);
      honest = λ honest. honest;
    }

pub returns-in-Memory : goal.returns-in-Memory
returns-in-Memory g c = record { found = λ honest. refl; spends = (c.requires.unspent, c.requires.unspent); honest = λ honest. honest }

pub returns-in_default : goal.returns-in_default
returns-in_default g c =
    let none = no_reference _ c.args.reference.now c.in_default.not-Memory c.in-Err.ensures.read in
    record {
      found = λ honest. (names_nothing _ (c.requires.there honest) c.args.reference.now none, refl);
      spends = (c.requires.unspent, c.requires.unspent);
      honest = λ honest. honest;
    }
