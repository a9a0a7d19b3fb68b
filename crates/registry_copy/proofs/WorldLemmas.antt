-- What the copy of a world is, repository by repository.
use Rattle.std.proofs.Common.{◌≡◌, ◌∙◌, ◌⊎◌, inl, inr, ℕ, suc, ◌+◌, length, List, [], ◌∷◌, map, Bool, true, false, cond, Option, Some, None, refl, sym, ap, subst}
use Rattle.std.specs.Prelude.{T, ◌||◌, sum_by, is_some, option_map}
use Rattle.std.specs.List.{AllByRecursion, list_any}
use Rattle.std.specs.Ordering.{eq_by_cmp}
use Rattle.std.specs.FinMap.{len, len-entries, entries, keys, find, is_sorted, get-empty, get-entries, get-from_entries, contains_key-keys, entries_sorted, same_map}
use Rattle.std.proofs.lemmas.List.Sums.{sum_by-cons}
use Rattle.oci_types.specs.Text.{Text}
use Rattle.registry_model.specs.declared.level.Level.{Level}
use Rattle.registry_model.specs.declared.quota.Usage.{Usage}
use Rattle.registry_model.specs.World.{Repo, World, text_cmp, no_world, repo_at, has_repo, level_at}
use Rattle.registry_model.specs.Usage.{usage_of}
use Rattle.registry_model.specs.Lookups.{usages_of, repo_count}
use Rattle.registry_model.specs.Command.{without_sessions}
use Rattle.registry_model.proofs.TextOrder.{text_total, exact_texts, same_key}
use Rattle.registry_copy.specs.Closed.{without_uploads, open_uploads, HasLevelsOnRepos}
use Rattle.registry_copy.specs.Steps.{Chain, Meets}
use Rattle.registry_copy.specs.Parts.{RepoComes, RepoOfUsage, IsTaken}
use Rattle.registry_copy.specs.Copying.{HasRepos}
use Rattle.registry_copy.proofs.KeyLemmas.{own_key, no_value, no_value_in, apart, among, entries_found, behind, rest_sorted, first_below}
use Rattle.registry_copy.proofs.RepoLemmas.{IsDone, fresh_repo, repo_done, repo_elsewhere}

abbrev closed : Text × Repo → Text × Repo
closed e = (e.0, without_sessions e.1)

found_closed : (name : Text) (es : List (Text × Repo)) → find text_cmp name (map closed es) ≡ option_map without_sessions (find text_cmp name es)
found_closed name [] = refl
found_closed name (e ∷ es) = by (found_closed name es) (eq_by_cmp text_cmp name e.0)
  where
    by : find text_cmp name (map closed es) ≡ option_map without_sessions (find text_cmp name es) → (b : Bool)
        → cond b (Some (without_sessions e.1)) (find text_cmp name (map closed es)) ≡ option_map without_sessions (cond b (Some e.1) (find text_cmp name es))
    by later true = refl
    by later false = later

pub without_uploads-repo : (w : World) (name : Text) → repo_at (without_uploads w) name ≡ option_map without_sessions (repo_at w name)
without_uploads-repo w name =
    get-from_entries text_total (map closed (entries w.repos)) name
    ∙ found_closed name (entries w.repos) ∙ ap (option_map without_sessions) (sym (get-entries w.repos name))

-- nothing is there under the name
record IsBlank (w : World) (q : Text) : Type 0 where
  pub repo : repo_at w q ≡ None
  pub levels : (token : Text) → level_at w token q ≡ None

-- under each name there is nothing, or it is done
abbrev IsPart : World → World → Type 0
IsPart a w = (q : Text) → IsBlank w q ⊎ IsDone a w q

-- the usage is that of a repository
abbrev pub IsOfRepo : World → Text × Usage → Type 0
IsOfRepo a u = (it : Repo) × (repo_at a u.0 ≡ Some it) × (u.1.quota ≡ it.quota)

record IsFurther (a w w' : World) (names : List Text) : Type 0 where
  pub part : IsPart a w'
  pub kept : (q : Text) → IsDone a w q → IsDone a w' q
  pub all : AllByRecursion (IsDone a w') names

moved_blank : (w w' : World) (q : Text) → repo_at w' q ≡ repo_at w q → ((token : Text) → level_at w' token q ≡ level_at w token q) → IsBlank w q → IsBlank w' q
moved_blank w w' q repo levels b = record { repo = repo ∙ b.repo; levels = λ token. levels token ∙ b.levels token }

moved_done : (a w w' : World) (q : Text) → repo_at w' q ≡ repo_at w q → ((token : Text) → level_at w' token q ≡ level_at w token q) → IsDone a w q → IsDone a w' q
moved_done a w w' q repo levels d = record { repo = repo ∙ d.repo; levels = λ token. levels token ∙ d.levels token }

no_levels : (a w : World) (name : Text) (it : Repo) → repo_at a name ≡ Some it → has_repo w name ≡ false → IsBlank w name ⊎ IsDone a w name → (token : Text) → level_at w token name ≡ None
no_levels a w name it at fresh (inl b) token = b.levels token
no_levels a w name it at fresh (inr d) token =
    absurd (no_value (without_sessions it) (sym (fresh_repo w name fresh) ∙ d.repo ∙ ap (option_map without_sessions) at))

one_further : (a : World) (name : Text) (quota : ℕ) (it : Repo) → repo_at a name ≡ Some it → quota ≡ it.quota → (w w' : World)
    → RepoComes a name quota w w' → IsPart a w → IsFurther a w w' (name ∷ [])
one_further a name quota it at is w w' comes part = record {
  part = λ q. by q (eq_by_cmp text_cmp q name) refl;
  kept = λ q d. keep q d (eq_by_cmp text_cmp q name) refl;
  all = (done, tt);
}
  where
    done : IsDone a w' name
    done = repo_done a name it at w w' (no_levels a w name it at comes.begins.fresh (part name)) (subst (λ n. RepoComes a name n w w') is comes)

    by : (q : Text) (b : Bool) → eq_by_cmp text_cmp q name ≡ b → IsBlank w' q ⊎ IsDone a w' q
    by q true e = inr (subst (IsDone a w') (sym (same_key q name e)) done)
    by q false e =
        let else_ = repo_elsewhere a name quota w w' comes in
        let ne = apart q name e in
        elim (part q) [
          | inl b ↦ inl (moved_blank w w' q (else_.repos q ne) (λ token. else_.levels token q ne) b)
          | inr d ↦ inr (moved_done a w w' q (else_.repos q ne) (λ token. else_.levels token q ne) d)
        ]

    keep : (q : Text) → IsDone a w q → (b : Bool) → eq_by_cmp text_cmp q name ≡ b → IsDone a w' q
    keep q d true e = subst (IsDone a w') (sym (same_key q name e)) done
    keep q d false e =
        let else_ = repo_elsewhere a name quota w w' comes in
        let ne = apart q name e in
        moved_done a w w' q (else_.repos q ne) (λ token. else_.levels token q ne) d

all_further : (a : World) (us : List (Text × Usage)) (w w' : World) → AllByRecursion (IsOfRepo a) us → Chain (RepoOfUsage a) us w w' → IsPart a w
    → IsFurther a w w' (map (λ u. u.0) us)
all_further a [] w w' of h part = subst (λ x. IsFurther a w x []) (sym h) (record { part = part; kept = λ q d. d; all = tt })
all_further a (u ∷ us) w w' of (m, comes, rest) part =
    let one = one_further a u.0 u.1.quota of.0.0 of.0.1 of.0.2 w m comes part in
    let more = all_further a us m w' of.1 rest one.part in
    record { part = more.part; kept = λ q d. more.kept q (one.kept q d); all = (more.kept u.0 one.all.0, more.all) }

-- ---- usages

names_of : (es : List (Text × Repo)) → map (λ (u : Text × Usage). u.0) (map (λ (e : Text × Repo). (e.0, usage_of e.1)) es) ≡ map (λ (e : Text × Repo). e.0) es
names_of [] = refl
names_of (e ∷ es) = ap (λ xs. e.0 ∷ xs) (names_of es)

of_repos : (a : World) (es : List (Text × Repo)) → AllByRecursion (λ e. repo_at a e.0 ≡ Some e.1) es → AllByRecursion (IsOfRepo a) (map (λ (e : Text × Repo). (e.0, usage_of e.1)) es)
of_repos a [] all = tt
of_repos a (e ∷ es) all = ((e.1, all.0, refl), of_repos a es all.1)

pub usages_of_repos : (a : World) → AllByRecursion (IsOfRepo a) (usages_of a)
usages_of_repos a =
    of_repos a (entries a.repos) (entries_found a.repos)

uploads_of : (es : List (Text × Repo)) → sum_by (λ (u : Text × Usage). u.1.sessions) (map (λ (e : Text × Repo). (e.0, usage_of e.1)) es) ≡ sum_by (λ (e : Text × Repo). len e.1.sessions) es
uploads_of [] = refl
uploads_of (e ∷ es) =
    sum_by-cons (λ (u : Text × Usage). u.1.sessions) (e.0, usage_of e.1) (map (λ (d : Text × Repo). (d.0, usage_of d.1)) es)
    ∙ ap (λ n. len e.1.sessions + n) (uploads_of es)
    ∙ sym (sum_by-cons (λ (d : Text × Repo). len d.1.sessions) e es)

-- what is counted of usages
pub uploads_counted : (a : World) → sum_by (λ (u : Text × Usage). u.1.sessions) (usages_of a) ≡ open_uploads a
uploads_counted a = uploads_of (entries a.repos)

usages_long : (es : List (Text × Repo)) → length {A = Text × Usage} (map (λ e. (e.0, usage_of e.1)) es) ≡ length es
usages_long [] = refl
usages_long (e ∷ es) = ap suc (usages_long es)

pub repos_counted : (a : World) → length (usages_of a) ≡ repo_count a
repos_counted a = usages_long (entries a.repos) ∙ sym (len-entries a.repos)

-- ---- the whole world

empty_part : (a w : World) → w ≡ no_world → IsPart a w
empty_part a w e q =
    inl (subst (λ x. IsBlank x q) (sym e) (record { repo = get-empty text_cmp q; levels = λ token. get-empty text_cmp q }))

-- each name is done
done_at : (a w' : World) (q : Text) → HasLevelsOnRepos a → IsBlank w' q ⊎ IsDone a w' q → AllByRecursion (IsDone a w') (keys a.repos) → IsDone a w' q
done_at a w' q levels part all = by (list_any (eq_by_cmp text_cmp q) (keys a.repos)) refl
  where
    by : (b : Bool) → list_any (eq_by_cmp text_cmp q) (keys a.repos) ≡ b → IsDone a w' q
    by true e = among (IsDone a w') (keys a.repos) q e all
    by false e =
        let gone : has_repo a q ≡ false = contains_key-keys a.repos q ∙ e in
        let none : repo_at a q ≡ None = no_value_in (repo_at a q) gone in
        let unlevelled : (token : Text) (o : Option Level) → level_at a token q ≡ o → o ≡ None =
        λ token o. elim o as (λ x. level_at a token q ≡ x → x ≡ None) [
          | None ↦ λ is. refl
          | Some l ↦ λ is. absurd (let bad : true ≡ false = sym (levels token q l is) ∙ gone in cc)
        ] in
        elim part [
          | inl b ↦ record {
            repo = b.repo ∙ ap (option_map without_sessions) (sym none);
            levels = λ token. b.levels token ∙ sym (unlevelled token (level_at a token q) refl);
          }
          | inr d ↦ d
        ]

one_world : (a w' : World) → ((q : Text) → IsDone a w' q) → w' ≡ without_uploads a
one_world a w' done =
    let repos : w'.repos ≡ (without_uploads a).repos =
    same_map text_total exact_texts w'.repos (without_uploads a).repos (λ q. (done q).repo ∙ sym (without_uploads-repo a q)) in
    let grants : (token : Text) → w'.grants token ≡ a.grants token =
    λ token. same_map text_total exact_texts (w'.grants token) (a.grants token) (λ q. (done q).levels token) in
    λ i. record { repos = repos i; grants = λ token. grants token i }

-- all repositories of a came to an empty world
pub copied_whole : (a w w' : World) → HasLevelsOnRepos a → w ≡ no_world → Chain (RepoOfUsage a) (usages_of a) w w' → w' ≡ without_uploads a
copied_whole a w w' levels none chain =
    let further = all_further a (usages_of a) w w' (usages_of_repos a) chain (empty_part a w none) in
    let all : AllByRecursion (IsDone a w') (keys a.repos) = subst (AllByRecursion (IsDone a w')) (names_of (entries a.repos)) further.all in
    one_world a w' (λ q. done_at a w' q levels (further.part q) all)

-- ---- a name that was there

or_true : (a b : Bool) → b ≡ true → (a || b) ≡ true
or_true true b e = refl
or_true false b e = e

met : (a : World) (es : List (Text × Repo)) (w : World) → T (is_sorted text_cmp es) → Meets (RepoOfUsage a) IsTaken (map (λ (e : Text × Repo). (e.0, usage_of e.1)) es) w
    → (q : Text) × (list_any (eq_by_cmp text_cmp q) (map (λ (e : Text × Repo). e.0) es) ≡ true) × (has_repo w q ≡ true)
met a [] w sorted h = absurd h
met a (e ∷ es) w sorted (inl there) = (e.0, ap (λ b. b || list_any (eq_by_cmp text_cmp e.0) (map (λ (d : Text × Repo). d.0) es)) (own_key e.0), there)
met a (e ∷ es) w sorted (inr (m, comes, rest)) =
    let later = met a es m (rest_sorted e es sorted) rest in
    let q = later.0 in
    let ne = behind e.0 es q (first_below e es sorted) later.1 in
    (q, or_true (eq_by_cmp text_cmp q e.0) _ later.1, ap is_some (sym ((repo_elsewhere a e.0 (usage_of e.1).quota w m comes).repos q ne)) ∙ later.2)

pub met_one : (a w : World) → Meets (RepoOfUsage a) IsTaken (usages_of a) w → HasRepos w
met_one a w h = let found = met a (entries a.repos) w (entries_sorted a.repos) h in (found.0, found.2)
