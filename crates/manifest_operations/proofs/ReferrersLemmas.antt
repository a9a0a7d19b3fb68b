-- Lists of referrers, and how long they are.
use Rattle.std.proofs.Common.{◌≡◌, ◌∙◌, List, [], ◌∷◌, ◌++◌, true, false, cond, not, None, Some, refl, sym, ap}
use Rattle.std.specs.Prelude.{Option, filter}
use Rattle.std.specs.Option.{option_map_or}
use Rattle.std.specs.List.{filter_map, cons_option}
use Rattle.std.proofs.lemmas.List.Elements.{filter_map-append, filter-append}
use Rattle.oci_types.specs.Text.{Text}
use Rattle.oci_types.specs.Digest.{is_digest}
use Rattle.oci_types.specs.Referrers.{ReferrerShown}
use Rattle.registry_model.specs.declared.refusal.Refusal.TheVariants.{InvalidDigest}
use Rattle.registry_model.specs.World.{Repo, repo_at, has_repo}
use Rattle.registry_model.specs.Answer.{Answer, Content, refused}
use Rattle.registry_model.specs.Decision.{Decision, refuses, tells}
use Rattle.registry_model.specs.Lookups.{manifests_on_at}
use Rattle.registry_model.specs.Referrers.{referrer_in, is_wanted, filter_in, manifests_on, referrers_body, referrers_reply}
use Rattle.registry_model.specs.Keeping.{Kept}
use Rattle.manifest_operations.specs.Referrers.{lets_through, added_by, wanted_of, wanted_line}
use Rattle.operation_parts.proofs.RepoOutcomes.{there_is, Done, told}

wanted_is : (wanted : Option Text) (referrer : ReferrerShown) → is_wanted wanted referrer ≡ lets_through wanted referrer.artifact_type
wanted_is None referrer = refl
wanted_is (Some w) referrer = refl

found_alone : (wanted : Option Text) (entry : Text × Text) (o : Option ReferrerShown) → referrer_in entry ≡ o → wanted_of wanted (entry ∷ []) ≡ added_by wanted o
found_alone wanted entry None e = ap (λ o. filter (is_wanted wanted) (cons_option o [])) e
found_alone wanted entry (Some referrer) e = ap (λ o. filter (is_wanted wanted) (cons_option o [])) e ∙ ap (λ b. cond b (referrer ∷ []) []) (wanted_is wanted referrer)

-- one manifest more
pub wanted_more : (wanted : Option Text) (entries : List (Text × Text)) (entry : Text × Text) (o : Option ReferrerShown) → o ≡ referrer_in entry
    → wanted_of wanted (entries ++ entry ∷ []) ≡ wanted_of wanted entries ++ added_by wanted o
wanted_more wanted entries entry o e =
    ap (filter (is_wanted wanted)) (filter_map-append referrer_in entries (entry ∷ []))
    ∙ filter-append (is_wanted wanted) (filter_map referrer_in entries) (filter_map referrer_in (entry ∷ []))
    ∙ ap (λ x. wanted_of wanted entries ++ x) (found_alone wanted entry o (sym e))

-- ---- the list, or its length

-- what is told, by what the reply has of the body
abbrev pub referring : (Text → Content) → Repo → Text → Option Text → Decision
referring content r digest artifact_type =
    let wanted = filter_in artifact_type in cond (not (is_digest digest)) (refuses InvalidDigest) (tells (referrers_reply wanted (content (referrers_body r digest wanted))))

pub refers_nothing : (content : Text → Content) (s : Kept) (name text : Text) (artifact_type : Option Text) → has_repo s.world name ≡ true → s.spent ≡ false → is_digest text ≡ false
    → (a : Answer) → a ≡ refused InvalidDigest → Done a name (λ r. referring content r text artifact_type) s s
refers_nothing content s name text artifact_type there unspent invalid a e =
    let r = there_is (repo_at s.world name) there in
    let wanted = filter_in artifact_type in
    told s s name (λ r. referring content r text artifact_type) r.0 r.1 a _ e unspent refl
    (ap (λ b. cond (not b) (refuses InvalidDigest) (tells (referrers_reply wanted (content (referrers_body r.0 text wanted))))) invalid)

pub refers : (content : Text → Content) (s s' : Kept) (name text digest : Text) (artifact_type : Option Text) → has_repo s.world name ≡ true → s.spent ≡ false → s' ≡ s
    → digest ≡ text → is_digest text ≡ true → (wanted : Option Text) → wanted ≡ filter_in artifact_type
    → (found : List (Text × Text)) → found ≡ manifests_on_at s.world name digest
    → (a : Answer) → a ≡ referrers_reply wanted (content (wanted_line wanted found)) → Done a name (λ r. referring content r text artifact_type) s s'
refers content s s' name text digest artifact_type there unspent stays same valid wanted asked found at a e =
    let r = there_is (repo_at s.world name) there in
    let here : found ≡ manifests_on r.0 text = at ∙ ap (λ o. option_map_or (λ r. manifests_on r digest) o []) r.1 ∙ ap (manifests_on r.0) same in
    let reply : a ≡ referrers_reply (filter_in artifact_type) (content (wanted_line (filter_in artifact_type) (manifests_on r.0 text))) =
    e ∙ ap (λ es. referrers_reply wanted (content (wanted_line wanted es))) here ∙ ap (λ w. referrers_reply w (content (wanted_line w (manifests_on r.0 text)))) asked in
    told s s' name (λ r. referring content r text artifact_type) r.0 r.1 a _ reply unspent stays
    (ap (λ b. cond (not b) (refuses InvalidDigest) (tells (referrers_reply (filter_in artifact_type) (content (referrers_body r.0 text (filter_in artifact_type)))))) valid)
