-- Empty files hold nothing yet.
use Rattle.std.proofs.Common.{◌≡◌, List, [], ◌∷◌, inl, inr, refl, subst, arith}
use Rattle.std.specs.List.{AllZip}
use Rattle.sqlite.specs.Order.{Row}
use Rattle.sqlite.specs.Schema.{Schema}
use Rattle.sqlite_catalog.specs.Listing.{AreListed, IsTableRow, IsIndexRow, IsViewRow}
use Rattle.store_schema.specs.Schema.{no_schema}
use Rattle.registry_store.specs.Opening.{WereOurs}

none_beside : {A B : Type 0} (P : A → B → Type 0) (ys : List B) → AllZip P [] ys → ys ≡ []
none_beside P [] h = refl
none_beside P (y ∷ ys) h = absurd h

none_listed : (schema : Schema) → AreListed [] schema → schema ≡ no_schema
none_listed schema it = λ i. record {
  tables = none_beside {A = Row} IsTableRow schema.tables it.tables i;
  indexes = none_beside {A = Row} (IsIndexRow schema.tables) schema.indexes it.indexes i;
  views = none_beside {A = Row} IsViewRow schema.views it.views i;
}

pub unknown_was_ours : WereOurs (record { log = []; db = [] })
unknown_was_ours db sound may = elim may.reads [
  | inl found ↦ let some = found.3.found.present in absurd (omega arith)
  | inr none ↦ inl (record {
    schema_is =
        none_listed db.schema
        (subst (λ (rows : List Row). AreListed rows db.schema) none.1.1 sound.lists.listed);
    empty = tt;
  })
]
