-- Pages of tags.
use Rattle.std.proofs.Common.{◌≡◌, ◌∙◌, ℕ, suc, ◌-◌, List, [], ◌∷◌, length, Bool, true, false, cond, None, Some, refl, sym, ap, arith}
use Rattle.std.specs.Prelude.{Option}
use Rattle.std.specs.Option.{option_map_or}
use Rattle.std.specs.List.{last_or, slice_get}
use Rattle.oci_types.specs.Text.{Text}
use Rattle.registry_model.specs.declared.refusal.Refusal.TheVariants.{InvalidPageSize}
use Rattle.registry_model.specs.World.{repo_at, has_repo}
use Rattle.registry_model.specs.Answer.{Answer, refused}
use Rattle.registry_model.specs.Lookups.{no_page, page_at}
use Rattle.registry_model.specs.TagPage.{Page, page_behind, next_link, link_by, link_behind, size_in, text_or_empty, tags_reply, list_page, list_tags}
use Rattle.registry_model.specs.Keeping.{Kept}
use Rattle.operation_parts.proofs.RepoOutcomes.{there_is, Done, told}

-- ---- where the next page begins

last_is : (o : Option Text) (tags : List Text) (last : Text) → slice_get tags (length tags - 1) ≡ Some last → last_or o tags ≡ Some last
last_is o [] last h = absurd (cc)
last_is o (t ∷ []) last h = h
last_is o (t ∷ u ∷ tags) last h =
    let e : length (t ∷ u ∷ tags) - 1 ≡ suc (length (u ∷ tags) - 1) = omega arith in
    last_is (Some t) (u ∷ tags) last (sym (ap (slice_get (t ∷ u ∷ tags)) e) ∙ h)

pub links_on : (name : Text) (n : Option ℕ) (k : ℕ) (tags : List Text) (more : Bool) (last text : Text) → more ≡ true → n ≡ Some k
    → slice_get tags (length tags - 1) ≡ Some last → text ≡ next_link name k last → Some text ≡ link_behind name n (record { tags = tags; more = more })
links_on name n k tags more last text m sized at e =
    ap Some e ∙ sym (ap (λ b. cond b (link_by name n (last_or None tags)) None) m ∙ ap (λ x. link_by name x (last_or None tags)) sized
    ∙ ap (link_by name (Some k)) (last_is None tags last at))

-- ---- the page of tags

unsized : (o : Option (Option ℕ)) → ((n : Option ℕ) → o ≡ Some n → ⊥) → o ≡ None
unsized None h = refl
unsized (Some n) h = absurd (h n refl)

pub pages_nothing : (s : Kept) (name : Text) (n last : Option Text) → has_repo s.world name ≡ true → s.spent ≡ false
    → (size : Option (Option ℕ)) → ((n : Option ℕ) → size ≡ Some n → ⊥) → size ≡ size_in n
    → (a : Answer) → a ≡ refused InvalidPageSize → Done a name (λ r. list_tags r name n last) s s
pages_nothing s name n last there unspent size none read a e =
    let r = there_is (repo_at s.world name) there in
    told s s name (λ r. list_tags r name n last) r.0 r.1 a _ e unspent refl (ap (list_page r.0 name last) (sym read ∙ unsized size none))

pub pages : (s s' : Kept) (name : Text) (n last : Option Text) → has_repo s.world name ≡ true → s.spent ≡ false → s' ≡ s → (size : Option ℕ) → Some size ≡ size_in n
    → (behind : Text) → behind ≡ text_or_empty last → (page : Page) → page ≡ page_at s.world name behind size
    → (a : Answer) → a ≡ tags_reply name size page → Done a name (λ r. list_tags r name n last) s s'
pages s s' name n last there unspent stays size sized behind began page at a e =
    let r = there_is (repo_at s.world name) there in
    let here : page ≡ page_behind r.0 (text_or_empty last) size =
    at ∙ ap (λ o. option_map_or (λ r. page_behind r behind size) o no_page) r.1 ∙ ap (λ t. page_behind r.0 t size) began in
    told s s' name (λ r. list_tags r name n last) r.0 r.1 a _ (e ∙ ap (tags_reply name size) here) unspent stays (ap (list_page r.0 name last) (sym sized))
