-- What the texts of a registry over a pack make together, in an empty database, and beside any tables.
use Rattle.std.proofs.Common.{List, [], ◌∷◌, ℕ, inl, inr, map, refl}
use Rattle.std.specs.List.{AllByRecursion}
use Rattle.store_schema.specs.Schema.{no_schema, version_text, repos_text, grants_text, tags_text, blob_links_text, manifest_links_text, uploads_text, pieces_text, sha256_index_text, subject_index_text, version_table, repos_table, grants_table, tags_table, blob_links_table, manifest_links_table, uploads_table, pieces_table, sha256_index, subject_index}
use Rattle.store_schema.specs.PlaceTables.{pack_table, contents_table, places_table, pack_text, contents_text, places_text}
use Rattle.store_schema.specs.PackSchema.{pack_schema, blob_content_index, manifest_content_index, piece_content_index, blob_content_text, manifest_content_text, piece_content_text}
use Rattle.store_schema.proofs.Texts.{makes_version, makes_repos, makes_grants, makes_tags}
use Rattle.store_schema.proofs.BesideTexts.{one_version, one_repos, one_grants, one_tags, one_blob_links, one_manifest_links, one_uploads, one_pieces, names_sha256, names_subject}
use Rattle.store_schema.proofs.PackTexts as pack
use Rattle.store_schema.proofs.MadeTables.{table_by}
use Rattle.store_schema.proofs.InTurn.{Making, IsSo, MakesEach, text_in}

abbrev pub pack_makings : List Making
pack_makings =
    table_by version_text version_table ∷ table_by repos_text repos_table ∷ table_by grants_text grants_table ∷ table_by tags_text tags_table ∷ table_by
    pack_text pack_table ∷ table_by contents_text contents_table
    ∷ table_by places_text places_table ∷ table_by blob_links_text blob_links_table ∷ table_by manifest_links_text manifest_links_table ∷ table_by
    uploads_text uploads_table ∷ table_by pieces_text pieces_table
    ∷ record { text = sha256_index_text; name = sha256_index.name; tables = [] } ∷ record
    { text = subject_index_text; name = subject_index.name; tables = [] } ∷ record
    { text = blob_content_text; name = blob_content_index.name; tables = [] }
    ∷ record { text = manifest_content_text; name = manifest_content_index.name; tables = [] } ∷ record
    { text = piece_content_text; name = piece_content_index.name; tables = [] } ∷ []

abbrev pub pack_texts : List (List ℕ)
pack_texts = map text_in pack_makings

pub are_so_over_pack : AllByRecursion IsSo pack_makings
are_so_over_pack = (
  record { named = one_version.named; made = (one_version, tt) },
  (
    record { named = one_repos.named; made = (one_repos, tt) },
    (
      record { named = one_grants.named; made = (one_grants, tt) },
      (
        record { named = one_tags.named; made = (one_tags, tt) },
        (
          record { named = pack.one_pack.named; made = (pack.one_pack, tt) },
          (
            record { named = pack.one_contents.named; made = (pack.one_contents, tt) },
            (
              record { named = pack.one_places.named; made = (pack.one_places, tt) },
              (
                record { named = one_blob_links.named; made = (one_blob_links, tt) },
                (
                  record { named = one_manifest_links.named; made = (one_manifest_links, tt) },
                  (
                    record { named = one_uploads.named; made = (one_uploads, tt) },
                    (
                      record { named = one_pieces.named; made = (one_pieces, tt) },
                      (
                        record { named = names_sha256; made = tt },
                        (
                          record { named = names_subject; made = tt },
                          (
                            record { named = pack.names_blob; made = tt },
                            (
                              record { named = pack.names_manifest; made = tt },
                              (
                                record { named = pack.names_piece; made = tt },
                                tt,
                              ),
                            ),
                          ),
                        ),
                      ),
                    ),
                  ),
                ),
              ),
            ),
          ),
        ),
      ),
    ),
  ),
)

pub makes_over_pack : MakesEach no_schema pack_texts pack_schema
makes_over_pack =
    inl (
      version_table,
      makes_version,
      inl (
        repos_table,
        makes_repos,
        inl (
          grants_table,
          makes_grants,
          inl (
            tags_table,
            makes_tags,
            inl (
              pack_table,
              pack.makes_pack,
              inl (
                contents_table,
                pack.makes_contents,
                inl (
                  places_table,
                  pack.makes_places,
                  inl (
                    blob_links_table,
                    pack.makes_blob_links,
                    inl (
                      manifest_links_table,
                      pack.makes_manifest_links,
                      inl (
                        uploads_table,
                        pack.makes_uploads,
                        inl (
                          pieces_table,
                          pack.makes_pieces,
                          inr (
                            5,
                            record contents_table { tree = 8 },
                            record sha256_index { table = 8 },
                            pack.makes_sha256_index,
                            inr (
                              8,
                              record manifest_links_table { tree = 13 },
                              record subject_index { table = 13 },
                              pack.makes_subject_index,
                              inr (
                                7,
                                record blob_links_table { tree = 11 },
                                record blob_content_index { table = 11 },
                                pack.makes_blob_content,
                                inr (
                                  8,
                                  record manifest_links_table { tree = 13 },
                                  record manifest_content_index { table = 13 },
                                  pack.makes_manifest_content,
                                  inr (
                                    10,
                                    record pieces_table { tree = 17 },
                                    record piece_content_index { table = 17 },
                                    pack.makes_piece_content,
                                    refl,
                                  ),
                                ),
                              ),
                            ),
                          ),
                        ),
                      ),
                    ),
                  ),
                ),
              ),
            ),
          ),
        ),
      ),
    )
