-- Over the schema that a registry makes in an empty database.
use Rattle.std.proofs.Common.{◌≡◌, ◌∙◌, [], refl, sym, ap, subst}
use Rattle.sqlite_tied.specs.Compute.{everything}
use Rattle.sqlite.specs.Effect.{Database}
use Rattle.sqlite.specs.Listing.{understood}
use Rattle.sqlite_schema.specs.Names.{same_name}
use Rattle.store_schema.specs.Schema.{fresh_schema, contents_table}
use Rattle.store_schema.specs.Rows.{HaveIds}
use Rattle.store_schema.specs.Layout.{tree_of}
use Rattle.store_schema.specs.Making.{IsEmptyWith}
use Rattle.store_schema.proofs.Fresh.{contents_stand, contents_alone, contents_tree}
use Rattle.store_contents.specs.Texts.{KnowsTexts}
use Rattle.store_contents.specs.Contents.{KnowsContents, HoldsContents, AreContentRows, AreApart, content_rows}

texts_known : KnowsTexts fresh_schema contents_stand
unfolding understood everything same_name contents_stand
texts_known = record {
  find = record { is = refl; plain = (refl, refl); unlisted = refl };
  hash = record { is = refl; plain = (refl, refl); unlisted = refl };
  add = record { is = refl; plain = (refl, refl); unlisted = refl };
  read = record { is = refl; plain = (refl, refl); unlisted = refl };
  list = record { is = refl; plain = (refl, refl); unlisted = refl };
  remove = record { is = refl; plain = (refl, refl); unlisted = refl };
}

pub knows_contents : KnowsContents fresh_schema
knows_contents = record { stands = contents_stand; alone = contents_alone; texts = texts_known }

-- a registry that was just made
pub empty_holds : (db : Database) → IsEmptyWith fresh_schema db → HoldsContents db
empty_holds db it = record {
  known = subst KnowsContents (sym it.schema_is) knows_contents;
  rows = subst AreContentRows (sym none) tt;
  apart = subst AreApart (sym none) tt;
  ids = subst HaveIds (sym none) (tt, tt);
}
  where
    none : content_rows db ≡ []
    none = ap (λ s. db.trees (tree_of s contents_table)) it.schema_is ∙ ap db.trees contents_tree ∙ it.empty.1.1.1.1.0
