-- What the service's operations show.
use Rattle.registry_model.specs.Ask.{text_in}
use Rattle.registry_model.specs.Operation as model
use Rattle.registry_service.specs.declared.operation.Operation.{Operation}
use Rattle.registry_service.specs.declared.operation.Operation.TheVariants as operation

abbrev pub shown_operation : Operation → model.Operation
shown_operation (operation.ReadBlob digest) = model.reads_blob digest.now
shown_operation (operation.SizeBlob digest) = model.sizes_blob digest.now
shown_operation (operation.DeleteBlob digest) = model.deletes_blob digest.now
shown_operation (operation.PushBlob digest) = model.pushes_blob digest.now
shown_operation operation.OpenSession = model.opens_session
shown_operation (operation.MountBlob digest source) = model.mounts_blob digest.now (text_in source)
shown_operation (operation.ReadSession reference) = model.reads_session reference.now
shown_operation (operation.AppendChunk reference range) = model.appends_chunk reference.now (text_in range)
shown_operation (operation.CloseSession reference digest range) =
    model.closes_session reference.now (text_in digest) (text_in range)
shown_operation (operation.ReadManifest reference) = model.reads_manifest reference.now
shown_operation (operation.SizeManifest reference) = model.sizes_manifest reference.now
shown_operation (operation.DeleteManifest reference) = model.deletes_manifest reference.now
shown_operation (operation.PushManifest reference content_type) =
    model.pushes_manifest reference.now (text_in content_type)
shown_operation (operation.ListTags n last) = model.lists_tags (text_in n) (text_in last)
shown_operation (operation.ListReferrers digest artifact_type) =
    model.lists_referrers digest.now (text_in artifact_type)
shown_operation (operation.SizeReferrers digest artifact_type) =
    model.sizes_referrers digest.now (text_in artifact_type)
