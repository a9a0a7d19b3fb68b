-- Rows of a repository that is there.
use Rattle.std.proofs.Common.{◌≡◌, List, [], Bool, true, false, None, Some, refl, sym, ap, ◌∙◌, true≢false}
use Rattle.std.specs.Prelude.{filter, find, Option, option_map, is_some}
use Rattle.std.specs.Option.{option_and_then}
use Rattle.sqlite.specs.Order.{Row}
use Rattle.sqlite_trees.proofs.ListLemmas.{all_weaker}
use Rattle.oci_types.specs.Text.{Text}
use Rattle.registry_model.specs.World.{Repo, repo_at}
use Rattle.store_schema.specs.Rows.{bytes_at}
use Rattle.store_schema.proofs.Lists.{none_kept}
use Rattle.store_statements.specs.Keys.{of_first}
use Rattle.store_statements.specs.Tables.{Tables}
use Rattle.store_statements.specs.World.{repo_in, world_of}
use Rattle.store_statements.specs.Registry.{is_repo, HaveRepo}
use Rattle.store_statements.proofs.Found.{found_all, found_passes, has_first}
use Rattle.store_statements.proofs.Base.{repo_found, found_named}
use Rattle.store_statements.proofs.Others.{Within}

pub some_is : {X : Type 0} (o : Option X) → is_some o ≡ true → (x : X) × (o ≡ Some x)
some_is None e = absurd (true≢false (sym e))
some_is (Some x) e = (x, refl)

-- a row's repository is there
pub repo_of_found : (repos rows : List Row) (name : Text) (p : Row → Bool) (r : Row) → Within name p → HaveRepo repos rows → find p rows ≡ Some r → is_repo repos name ≡ true
repo_of_found repos rows name p r within have e =
    ap (is_repo repos) (sym (has_first name r (within r (found_passes p rows r e)))) ∙ found_all (λ x. is_repo repos (bytes_at x 1) ≡ true) p rows r have e

-- what a repository has of a row, found in all rows
pub child_found : {X : Type 0} (t : Tables) (name : Text) (rows : List Row) (p : Row → Bool) (value : Row → X) (at : Repo → Option X) → HaveRepo t.repos rows → Within name p
    → ((r : Row) → bytes_at r 1 ≡ name → at (repo_in t r) ≡ option_map value (find p rows)) → option_and_then at (repo_at (world_of t) name) ≡ option_map value (find p rows)
child_found t name rows p value at have within here = ap (option_and_then at) (repo_found t name) ∙ go (find (of_first name) t.repos) refl
  where
    go : (o : Option Row) → find (of_first name) t.repos ≡ o → option_and_then at (option_map (repo_in t) o) ≡ option_map value (find p rows)
    go None e = sym (none (find p rows) refl)
      where
        none : (o : Option Row) → find p rows ≡ o → option_map value o ≡ None
        none None f = refl
        none (Some r) f = absurd (true≢false (sym (repo_of_found t.repos rows name p r within have f) ∙ ap is_some e))
    go (Some r) e = here r (found_named t.repos name r e)

-- no row has a repository that is not there
pub no_children : (repos rows : List Row) (name : Text) → HaveRepo repos rows → find (of_first name) repos ≡ None → filter (of_first name) rows ≡ []
no_children repos rows name have none = none_kept (of_first name) rows (all_weaker _ _ (λ r h. step r h (of_first name r) refl) rows have)
  where
    step : (r : Row) → is_repo repos (bytes_at r 1) ≡ true → (b : Bool) → of_first name r ≡ b → b ≡ false
    step r h true e = absurd (true≢false (sym h ∙ ap (is_repo repos) (has_first name r e) ∙ ap is_some none))
    step r h false e = refl
