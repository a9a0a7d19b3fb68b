-- What rows show of tags and of links to manifests.
use Rattle.std.specs.Prelude.{ℕ, ◌==◌, if◌then◌else◌}
use Rattle.std.specs.declared.cmp.Ordering.{Ordering}
use Rattle.sqlite.specs.Order.{Row}
use Rattle.oci_types.specs.Text.{Text}
use Rattle.registry_model.specs.World.{text_cmp}
use Rattle.oci_types.specs.declared.kind.Kind.{Kind}
use Rattle.oci_types.specs.declared.kind.Kind.TheVariants.{Image, Index}
use Rattle.store_schema.specs.Rows.{bytes_at, natural_at, integer_at}
use Rattle.store_contents.specs.declared.content_id.ContentId.{ContentId}
use Rattle.store_statements.specs.declared.manifests.ManifestLink.{ManifestLink}

-- a kind as a column has it
abbrev pub kind_of : ℕ → Kind
kind_of n = if n == 1 then Image else Index

-- of a row that shows the size, the kind and the content
abbrev pub link_shown : Row → ManifestLink
link_shown row = record {
  size = natural_at row 0;
  kind = kind_of (natural_at row 1);
  content = record { id = integer_at row 2 };
}

-- of a row of the table
abbrev pub manifest_link : Row → ManifestLink
manifest_link r = record {
  size = natural_at r 3;
  kind = kind_of (natural_at r 4);
  content = record { id = integer_at r 6 };
}

-- the content of a manifest
abbrev pub manifest_content : Row → ContentId
manifest_content r = record { id = integer_at r 6 }

-- by the tag, or by the digest, in column 2
abbrev pub by_second : Row → Row → Ordering
by_second a b = text_cmp (bytes_at a 2) (bytes_at b 2)

-- a manifest by its digest, with its content
abbrev pub referrer : Row → Text × ContentId
referrer r = (bytes_at r 2, record { id = integer_at r 6 })

-- of a row that shows the digest and the content
abbrev pub referrer_shown : Row → Text × ContentId
referrer_shown row = (bytes_at row 0, record { id = integer_at row 1 })

-- a tag with the digest that it names
abbrev pub tag_row : Row → Text × Text
tag_row r = (bytes_at r 2, bytes_at r 3)

-- of a row that shows the tag and the digest
abbrev pub tag_shown : Row → Text × Text
tag_shown row = (bytes_at row 0, bytes_at row 1)
