-- The worked migration: each of its rows is moved, and equal bytes have one id.
use Rattle.std.proofs.Common.{◌≡◌, ◌⊎◌, inl, inr, ℕ, ℤ, [], ◌∷◌, Bool, true, false, cond, None, Some, refl, sym, ap, ◌∙◌, arith, Less}
use Rattle.std.specs.Prelude.{pos}
use Rattle.std.specs.Ordering.{int_eq}
use Rattle.sqlite.specs.declared.types.Value.TheVariants.{Int}
use Rattle.sqlite.specs.Order.{value_cmp}
use Rattle.sqlite_value.proofs.OrderLemmas.{value_cmp-Int}
use Rattle.oci_types.specs.Text.{Text}
use Rattle.registry_model.specs.Worked.{app, abc_digest}
use Rattle.store_schema.proofs.Ids.{int_eq_is}
use Rattle.store_statements.specs.Changes.{Grow}
use Rattle.store_migration.specs.OldTables.{IsOldRegistry}
use Rattle.store_migration.specs.Moves.{BlobMoved, SessionMoved, MovesThrough}
use Rattle.store_migration.specs.Worked.{other, abc, hel, shared, old_rows, one_content, two_contents, new_rows, upload_row, begun, one_blob_moved, blobs_moved, one_session_moved, ended}

-- ---- rowids

rises : value_cmp (Int (pos 1)) (Int (pos 2)) ≡ Less
rises = value_cmp-Int (pos 1) (pos 2)

-- ---- contents

-- an id with bytes
one_of : (id : ℤ) (bytes : Text) → one_content id ≡ Some bytes → (id ≡ pos 1) × (bytes ≡ abc)
one_of id bytes e = step (int_eq (pos 1) id) refl e
  where
    step : (b : Bool) → int_eq (pos 1) id ≡ b → cond b (Some abc) None ≡ Some bytes → (id ≡ pos 1) × (bytes ≡ abc)
    step true is f = (sym (int_eq_is (pos 1) id is), cc)
    step false is f = absurd cc

two_of : (id : ℤ) (bytes : Text) → two_contents id ≡ Some bytes → ((id ≡ pos 2) × (bytes ≡ hel)) ⊎ ((id ≡ pos 1) × (bytes ≡ abc))
two_of id bytes e = step (int_eq (pos 2) id) refl e
  where
    step : (b : Bool) → int_eq (pos 2) id ≡ b → cond b (Some hel) (one_content id) ≡ Some bytes → ((id ≡ pos 2) × (bytes ≡ hel)) ⊎ ((id ≡ pos 1) × (bytes ≡ abc))
    step true is f = inl (sym (int_eq_is (pos 2) id is), cc)
    step false is f = inr (one_of id bytes f)

abbrev first_of : Text → ℕ
first_of [] = 0
first_of (x ∷ xs) = x

hel_not_abc : hel ≡ abc → ⊥
hel_not_abc e = let same : 104 ≡ 97 = ap first_of e in omega (arith, same)

pub bytes_once : (i j : ℤ) (bytes : Text) → two_contents i ≡ Some bytes → two_contents j ≡ Some bytes → i ≡ j
bytes_once i j bytes e f = step (two_of i bytes e) (two_of j bytes f)
  where
    step : ((i ≡ pos 2) × (bytes ≡ hel)) ⊎ ((i ≡ pos 1) × (bytes ≡ abc)) → ((j ≡ pos 2) × (bytes ≡ hel)) ⊎ ((j ≡ pos 1) × (bytes ≡ abc)) → i ≡ j
    step (inl a) (inl b) = a.0 ∙ sym b.0
    step (inl a) (inr b) = absurd (hel_not_abc (sym a.1 ∙ b.1))
    step (inr a) (inl b) = absurd (hel_not_abc (sym b.1 ∙ a.1))
    step (inr a) (inr b) = a.0 ∙ sym b.0

one_grows : Grow one_content two_contents
one_grows id bytes e = let is = one_of id bytes e in ap two_contents is.0 ∙ ap Some (sym is.1)

-- ---- the moves

first_blob : BlobMoved begun.old one_blob_moved.old begun.tables one_blob_moved.tables
first_blob = record {
  name = app;
  digest = abc_digest;
  bytes = abc;
  there = refl;
  id = pos 1;
  grow = λ id bytes e. absurd (cc);
  held = refl;
  comes = record { id = pos 1; puts = record { before = []; after = []; olds_are = refl; news_are = refl }; ids = ((tt, tt), (refl, tt)) };
  others = refl;
  gone = refl;
}

second_blob : BlobMoved one_blob_moved.old blobs_moved.old one_blob_moved.tables blobs_moved.tables
second_blob = record {
  name = other;
  digest = abc_digest;
  bytes = abc;
  there = refl;
  id = pos 1;
  grow = λ id bytes e. e;
  held = refl;
  comes = record { id = pos 2; puts = record { before = one_blob_moved.tables.blobs; after = []; olds_are = refl; news_are = refl }; ids = (((rises, tt), (tt, tt)), (refl, (refl, tt))) };
  others = refl;
  gone = refl;
}

first_session : SessionMoved blobs_moved.old one_session_moved.old blobs_moved.tables one_session_moved.tables
first_session = record {
  name = app;
  number = 1;
  bytes = hel;
  there = refl;
  uploads = upload_row 1 0 ∷ [];
  opens = record { id = pos 1; puts = record { before = []; after = []; olds_are = refl; news_are = refl }; ids = ((tt, tt), (refl, tt)) };
  filled = inr (record {
    more = omega arith;
    id = pos 2;
    grow = one_grows;
    held = refl;
    comes = record { id = pos 1; puts = record { before = []; after = []; olds_are = refl; news_are = refl }; ids = ((tt, tt), (refl, tt)) };
    others = refl;
  });
  gone = refl;
}

second_session : SessionMoved one_session_moved.old ended.old one_session_moved.tables ended.tables
second_session = record {
  name = app;
  number = 2;
  bytes = [];
  there = refl;
  uploads = new_rows.uploads;
  opens = record { id = pos 2; puts = record { before = upload_row 1 3 ∷ []; after = []; olds_are = refl; news_are = refl }; ids = (((rises, tt), (tt, tt)), (refl, (refl, tt))) };
  filled = inl (record { none = refl; others = refl });
  gone = refl;
}

pub all_four : MovesThrough begun (one_blob_moved ∷ blobs_moved ∷ one_session_moved ∷ ended ∷ []) ended
all_four = (inl first_blob, (inl second_blob, (inr (inr first_session), (inr (inr second_session), refl))))

-- ---- schema 1

pub worked_registry : IsOldRegistry old_rows shared
worked_registry = record {
  version = refl;
  repos = record { types = (record { name = refl; quota = refl; last = refl }, (record { name = refl; quota = refl; last = refl }, tt)); apart = ((refl, tt), (tt, tt)); ids = (((rises, tt), (tt, tt)), (refl, (refl, tt))) };
  grants = record { types = tt; apart = tt; ids = (tt, tt) };
  tags = record { types = tt; apart = tt; ids = (tt, tt) };
  granted = tt;
  tagged = tt;
  olds = record {
    blobs = record {
      types = (record { repo = refl; digest = refl; size = refl; bytes = refl }, (record { repo = refl; digest = refl; size = refl; bytes = refl }, tt));
      apart = ((refl, tt), (tt, tt));
      ids = (((rises, tt), (tt, tt)), (refl, (refl, tt)));
    };
    manifests = record { types = tt; apart = tt; ids = (tt, tt) };
    sessions = record {
      types = (record { repo = refl; number = refl; size = refl; bytes = refl }, (record { repo = refl; number = refl; size = refl; bytes = refl }, tt));
      apart = ((refl, tt), (tt, tt));
      ids = (((rises, tt), (tt, tt)), (refl, (refl, tt)));
    };
    blobs_repo = (refl, (refl, tt));
    manifests_repo = tt;
    sessions_repo = (refl, (refl, tt));
    given = (omega arith, (omega arith, tt));
  };
}
