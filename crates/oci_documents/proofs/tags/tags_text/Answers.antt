use Rattle.oci_types.specs.Tags.{tags_data, tags_line}
use Rattle.oci_documents.proofs.Replies.{whole, line_is, tags_no_float, tags_are}
use Rattle.oci_documents.proofs.tags.tags_text.Goals as goal

pub written-requires : goal.written-requires
written-requires c = whole c.tags_value.result (tags_data c.args.name.now c.args.tags.now) c.tags_value.ensures (tags_no_float c.args.name.now c.args.tags.now)

pub returns-clause-text : goal.returns-clause-text
returns-clause-text c =
    let name = c.args.name.now in
    let tags = c.args.tags.now in
    line_is c.tags_value.result c.written.result (tags_data name tags) (tags_line name tags) c.tags_value.ensures (tags_are name tags) c.written.ensures.text
