-- What the texts of the schema make together, in an empty database, over schema 1, and beside any tables.
use Rattle.std.proofs.Common.{ℕ, List, [], ◌∷◌, inl, inr, map, refl}
use Rattle.std.specs.List.{AllByRecursion}
use Rattle.sqlite.specs.Table.{Table}
use Rattle.store_schema.specs.Schema.{no_schema, fresh_schema, version_text, repos_text, grants_text, tags_text, contents_text, blob_links_text, manifest_links_text, uploads_text, pieces_text, sha256_index_text, subject_index_text, version_table, repos_table, grants_table, tags_table, contents_table, blob_links_table, manifest_links_table, uploads_table, pieces_table, sha256_index, subject_index}
use Rattle.store_schema.specs.OldSchema.{old_schema, both_schema}
use Rattle.store_schema.proofs.Texts as fresh
use Rattle.store_schema.proofs.OldTexts as old
use Rattle.store_schema.proofs.BesideTexts.{one_version, one_repos, one_grants, one_tags, one_contents, one_blob_links, one_manifest_links, one_uploads, one_pieces, names_sha256, names_subject}
use Rattle.store_schema.proofs.InTurn.{Making, IsSo, MakesEach, text_in}

abbrev pub table_by : List ℕ → Table → Making
table_by text table = record { text = text; name = table.name; tables = table ∷ [] }

abbrev pub makings_of_two : List Making
makings_of_two =
    table_by contents_text contents_table ∷ table_by blob_links_text blob_links_table ∷ table_by manifest_links_text manifest_links_table ∷ table_by uploads_text uploads_table ∷ table_by pieces_text pieces_table
    ∷ record { text = sha256_index_text; name = sha256_index.name; tables = [] } ∷ record { text = subject_index_text; name = subject_index.name; tables = [] } ∷ []

abbrev pub makings : List Making
makings = table_by version_text version_table ∷ table_by repos_text repos_table ∷ table_by grants_text grants_table ∷ table_by tags_text tags_table ∷ makings_of_two

abbrev pub texts : List (List ℕ)
texts = map text_in makings

abbrev pub texts_of_two : List (List ℕ)
texts_of_two = map text_in makings_of_two

pub are_so_of_two : AllByRecursion IsSo makings_of_two
are_so_of_two = (
  record { named = one_contents.named; made = (one_contents, tt) },
  (
    record { named = one_blob_links.named; made = (one_blob_links, tt) },
    (
      record { named = one_manifest_links.named; made = (one_manifest_links, tt) },
      (
        record { named = one_uploads.named; made = (one_uploads, tt) },
        (
          record { named = one_pieces.named; made = (one_pieces, tt) },
          (
            record { named = names_sha256; made = tt },
            (
              record { named = names_subject; made = tt },
              tt,
            ),
          ),
        ),
      ),
    ),
  ),
)

pub are_so : AllByRecursion IsSo makings
are_so = (
  record { named = one_version.named; made = (one_version, tt) },
  (
    record { named = one_repos.named; made = (one_repos, tt) },
    (
      record { named = one_grants.named; made = (one_grants, tt) },
      (
        record { named = one_tags.named; made = (one_tags, tt) },
        are_so_of_two,
      ),
    ),
  ),
)

pub makes_fresh : MakesEach no_schema texts fresh_schema
makes_fresh =
    inl (
      version_table,
      fresh.makes_version,
      inl (
        repos_table,
        fresh.makes_repos,
        inl (
          grants_table,
          fresh.makes_grants,
          inl (
            tags_table,
            fresh.makes_tags,
            inl (
              contents_table,
              fresh.makes_contents,
              inl (
                blob_links_table,
                fresh.makes_blob_links,
                inl (
                  manifest_links_table,
                  fresh.makes_manifest_links,
                  inl (
                    uploads_table,
                    fresh.makes_uploads,
                    inl (
                      pieces_table,
                      fresh.makes_pieces,
                      inr (
                        4,
                        record contents_table { tree = 7 },
                        record sha256_index { table = 7 },
                        fresh.makes_sha256_index,
                        inr (6, record manifest_links_table { tree = 10 }, record subject_index { table = 10 }, fresh.makes_subject_index, refl),
                      ),
                    ),
                  ),
                ),
              ),
            ),
          ),
        ),
      ),
    )

pub makes_beside_old : MakesEach old_schema texts_of_two both_schema
makes_beside_old =
    inl (
      contents_table,
      old.makes_contents,
      inl (
        blob_links_table,
        old.makes_blob_links,
        inl (
          manifest_links_table,
          old.makes_manifest_links,
          inl (
            uploads_table,
            old.makes_uploads,
            inl (
              pieces_table,
              old.makes_pieces,
              inr (
                7,
                record contents_table { tree = 14 },
                record sha256_index { table = 14 },
                old.makes_sha256_index,
                inr (9, record manifest_links_table { tree = 17 }, record subject_index { table = 17 }, old.makes_subject_index, refl),
              ),
            ),
          ),
        ),
      ),
    )
