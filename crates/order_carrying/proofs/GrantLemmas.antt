-- The levels of tokens on repositories, and that they are one list.
use Rattle.std.proofs.Common.{◌≡◌, ◌∙◌, Bool, true, false, List, [], ◌∷◌, ◌++◌, map, cond, Option, Some, None, refl, sym, ap, subst, MatchBool}
use Rattle.std.specs.Prelude.{filter, option_map}
use Rattle.std.specs.Option.{IsSomeAnd}
use Rattle.std.specs.FinMap.{keys}
use Rattle.std.proofs.lemmas.List.{map-append}
use Rattle.std.proofs.lemmas.List.Elements.{filter-append}
use Rattle.oci_types.specs.Text.{Text}
use Rattle.registry_model.specs.declared.level.Level.{Level}
use Rattle.registry_model.specs.declared.grant.Grant.{Grant}
use Rattle.registry_model.specs.World.{World, has_repo}
use Rattle.registry_model.specs.Lookups.{AreLevelsOver, grants_on, repo_names_of}
use Rattle.registry_model.specs.Keeping.{Kept}
use Rattle.registry_model.proofs.TextOrder.{one_list}
use Rattle.registry_orders.specs.declared.listing.Form.{Form}
use Rattle.registry_orders.specs.declared.listing.Shown.{Shown}
use Rattle.registry_orders.specs.declared.listing.Listing.{Listing}
use Rattle.registry_orders.specs.declared.listing.Listing.TheVariants.{Repos, InRepo, Grants}
use Rattle.order_texts.specs.Items.{ItemShown, grant_item}
use Rattle.order_texts.specs.Grants.{written, is_asked, grants_of, items_of_grants}
use Rattle.order_carrying.specs.Grants.{AreGrantsOn, AreGrantsOver, AreGrantsOf}
use Rattle.order_texts.specs.Texts.{text_of}
use Rattle.order_carrying.specs.Listed.{AreListed, IsListText}

-- ---- one repository after the other

module _ (asked : Option Text) (shown : Shown) where
  -- levels on one repository
  of_one : (name : Text) (levels : List (Text × Level)) → items_of_grants asked shown (grants_on name levels) ≡ grants_of name asked shown levels
  of_one name [] = refl
  of_one name (l ∷ levels) = step (is_asked asked l.0) (of_one name levels)
    where
      step : (b : Bool) → items_of_grants asked shown (grants_on name levels) ≡ grants_of name asked shown levels
          → map (λ (g : Grant). grant_item g.repo (written shown g.token) g.level) (cond b (record { repo = name; token = l.0; level = l.1 } ∷ filter (λ (g : Grant). is_asked asked g.token) (grants_on name levels)) (filter (λ (g : Grant). is_asked asked g.token) (grants_on name levels)))
          ≡ map (λ (x : Text × Level). grant_item name (written shown x.0) x.1) (cond b (l ∷ filter (λ (x : Text × Level). is_asked asked x.0) levels) (filter (λ (x : Text × Level). is_asked asked x.0) levels))
      step true more = ap (λ (t : List ItemShown). grant_item name (written shown l.0) l.1 ∷ t) more
      step false more = more

  of_both : (grants others : List Grant) → items_of_grants asked shown (grants ++ others) ≡ items_of_grants asked shown grants ++ items_of_grants asked shown others
  of_both grants others =
      ap (map (λ (g : Grant). grant_item g.repo (written shown g.token) g.level)) (filter-append (λ (g : Grant). is_asked asked g.token) grants others)
      ∙ map-append (λ (g : Grant). grant_item g.repo (written shown g.token) g.level) (filter (λ g. is_asked asked g.token) grants) (filter (λ g. is_asked asked g.token) others)

  pub grants_over : (w : World) (names : List Text) (grants : List Grant) → AreLevelsOver w names grants → AreGrantsOver w names asked shown (items_of_grants asked shown grants)
  grants_over w [] grants so = ap (items_of_grants asked shown) so
  grants_over w (name ∷ names) grants so = (
    grants_of name asked shown so.0,
    items_of_grants asked shown so.1,
    (so.0, so.2, refl),
    grants_over w names so.1 so.3,
    ap (items_of_grants asked shown) so.4 ∙ of_both (grants_on name so.0) so.1 ∙ ap (λ (t : List ItemShown). t ++ items_of_grants asked shown so.1) (of_one name so.0),
  )

-- what one read of all levels tells
pub grants_told : (w : World) (asked : Option Text) (shown : Shown) (items : List ItemShown) (read grants : List Grant) → read ≡ grants → items ≡ items_of_grants asked shown read → AreLevelsOver w (repo_names_of w) grants
    → AreGrantsOver w (keys w.repos) asked shown items
grants_told w asked shown items read grants same is so =
    subst (λ (t : List ItemShown). AreGrantsOver w (keys w.repos) asked shown t) (sym (is ∙ ap (items_of_grants asked shown) same)) (grants_over asked shown w (keys w.repos) grants so)

module _ (w : World) (asked : Option Text) (shown : Shown) where
  -- ---- one list

  one_on : (name : Text) (items others : List ItemShown) → AreGrantsOn w name asked shown items → AreGrantsOn w name asked shown others → items ≡ others
  one_on name items others these those =
      let same : these.0 ≡ those.0 = one_list these.0 those.0 these.1.rise those.1.rise (λ token. these.1.each token ∙ sym (those.1.each token)) in
      these.2 ∙ ap (grants_of name asked shown) same ∙ sym those.2

  one_over : (names : List Text) (items others : List ItemShown) → AreGrantsOver w names asked shown items → AreGrantsOver w names asked shown others → items ≡ others
  one_over [] items others these those = these ∙ sym those
  one_over (name ∷ names) items others these those =
      let firsts = one_on name these.0 those.0 these.2 those.2 in
      let more = one_over names these.1 those.1 these.3 those.3 in
      these.4 ∙ ap (λ t. t ++ these.1) firsts ∙ ap (λ t. those.0 ++ t) more ∙ sym those.4

  one_of : (names : List Text) (items others : Option (List ItemShown)) → IsSomeAnd items (AreGrantsOver w names asked shown) → IsSomeAnd others (AreGrantsOver w names asked shown) → items ≡ others
  one_of names (Some items) (Some others) these those = ap Some (one_over names items others these those)
  one_of names None others these those = absurd these
  one_of names items None these those = absurd those

  one_if : (name : Text) (there : Bool) (items others : Option (List ItemShown))
      → MatchBool there (IsSomeAnd items (AreGrantsOn w name asked shown)) (items ≡ None)
      → MatchBool there (IsSomeAnd others (AreGrantsOn w name asked shown)) (others ≡ None) → items ≡ others
  one_if name true (Some items) (Some others) these those = ap Some (one_on name items others these those)
  one_if name true None others these those = absurd these
  one_if name true items None these those = absurd those
  one_if name false items others these those = these ∙ sym those

  one_grants : (name : Option Text) (items others : Option (List ItemShown)) → AreGrantsOf w name asked shown items → AreGrantsOf w name asked shown others → items ≡ others
  one_grants (Some name) items others these those = one_if name (has_repo w name) items others these those
  one_grants None items others these those = one_of (keys w.repos) items others these those

one_listed : (w : World) (listing : Listing) (items others : Option (List ItemShown)) → AreListed w listing items → AreListed w listing others → items ≡ others
one_listed w Repos items others these those = these ∙ sym those
one_listed w (InRepo name what) items others these those = these ∙ sym those
one_listed w (Grants name token shown) items others these those = one_grants w token shown name items others these those

pub one_text : (w : World) (listing : Listing) (form : Form) (text other : Option Text) → IsListText w listing form text → IsListText w listing form other → text ≡ other
one_text w listing form text other these those =
    these.2 ∙ ap (option_map (text_of form)) (one_listed w listing these.0 those.0 these.1 those.1) ∙ sym those.2

-- ---- on one repository, and of one that is there or not

pub grants_read : (name : Text) (asked : Option Text) (shown : Shown) (items : List ItemShown) (read levels : List (Text × Level)) → read ≡ levels → items ≡ grants_of name asked shown read → items ≡ grants_of name asked shown levels
grants_read name asked shown items read levels same is = is ∙ ap (grants_of name asked shown) same

pub no_grants : (w : World) (o : Option Text) (name : Text) (asked : Option Text) (shown : Shown) (b : Bool) → o ≡ Some name → b ≡ has_repo w name → b ≡ false → AreGrantsOf w o asked shown None
no_grants w o name asked shown b some told none = rw (some, sym told ∙ none) refl

pub grants_there : (s mid : Kept) (o : Option Text) (name : Text) (asked : Option Text) (shown : Shown) (b : Bool) (items : List ItemShown) → o ≡ Some name → b ≡ has_repo s.world name → b ≡ true → mid ≡ s
    → AreGrantsOn mid.world name asked shown items → AreGrantsOf s.world o asked shown (Some items)
grants_there s mid o name asked shown b items some told there same on =
    rw (some, sym told ∙ there) (subst (λ (z : Kept). AreGrantsOn z.world name asked shown items) same on)
