-- What is known of shared bytes, when some are found, taken out and put in.
use Rattle.std.proofs.Common.{◌≡◌, ◌∙◌, Bool, true, false, cond, None, Some, refl, sym, ap, subst}
use Rattle.std.proofs.lemmas.Option.{same_Some}
use Rattle.std.specs.Prelude.{ℕ, Vec, Option, IfSome}
use Rattle.std.specs.Map.{lookup}
use Rattle.std.specs.Ordering.{is_eq}
use Rattle.std.specs.BTreeMap.{BTreeMap, Updates, get}
use Rattle.std.specs.Rc.{weak_target}
use Rattle.std.specs.declared.alloc.Global.{Global}
use Rattle.std.specs.declared.rc.Rc.{Rc}
use Rattle.std.specs.declared.rc.Weak.{Weak}
use Rattle.oci_types.specs.Text.{Text}
use Rattle.registry_model.specs.World.{World, text_cmp}
use Rattle.registry_model.specs.Lookups.{blob_at}
use Rattle.registry_model.proofs.TextOrder.{same_key}
use Rattle.registry_holding.specs.Sharing.{Bytes, AreIn, AreBlobsOf}

-- a map of which each entry has a property, after an update by an entry that has it
module _ {X : Type 0} (Is : Text → X → Type 0) (m n : BTreeMap Text X) (key : Text) where
  abbrev Each : BTreeMap Text X → Type 0
  Each o = (q : Text) (x : X) → get text_cmp o q ≡ Some x → Is q x

  pub each_put : (name : Text) (b : X) → Updates text_cmp m n key (Some b) → key ≡ name → Each m → Is name b → Each n
  each_put name b updates named are is = λ q x at. by q x (is_eq (text_cmp key q)) refl (sym (updates.0 q) ∙ at)
    where
      by : (q : Text) (x : X) (e : Bool) → is_eq (text_cmp key q) ≡ e → cond e (Some b) (get text_cmp m q) ≡ Some x → Is q x
      by q x true e at =
          let there : Is q b = subst (λ t. Is t b) (sym named ∙ same_key key q e) is in
          subst (Is q) (same_Some b x at) there
      by q x false e at = are q x at

  pub each_left : Updates text_cmp m n key None → Each m → Each n
  each_left updates are = λ q x at. by q x (is_eq (text_cmp key q)) (sym (updates.0 q) ∙ at)
    where
      by : (q : Text) (x : X) (e : Bool) → cond e None (get text_cmp m q) ≡ Some x → Is q x
      by q x true at = cc
      by q x false at = are q x at

  pub each_same : n.entries ≡ m.entries → Each m → Each n
  each_same e are = λ q x at. are q x (ap (lookup (λ k. is_eq (text_cmp q k))) (sym e) ∙ at)

module _ (m : BTreeMap Text Bytes) (w : World) (repo : Text) where
  -- one that is found is the blob
  pub blob_found : (digest : Text) (blobs : Bytes) (b : Weak (Vec ℕ Global) Global) (r : Option (Rc (Vec ℕ Global) Global)) → get text_cmp m repo ≡ Some blobs → get text_cmp blobs digest ≡ Some b → AreBlobsOf m w
      → IfSome r (λ rc. weak_target b ≡ Some rc.value) → IfSome r (λ rc. blob_at w repo digest ≡ Some rc.value.items)
  blob_found digest blobs b (Some rc) at found are target = (are.each repo blobs at).each digest b found rc.value target
  blob_found digest blobs b None at found are target = tt

  module _ (n : BTreeMap Text Bytes) where
    pub repo_put : (key : Text) (blobs : Bytes) → Updates text_cmp m n key (Some blobs) → key ≡ repo → AreBlobsOf m w → AreIn blobs w repo → AreBlobsOf n w
    repo_put key blobs updates named are is = record { each = each_put (λ q b. AreIn b w q) m n key repo blobs updates named are.each is }

    pub repo_taken : (blobs : Bytes) → Some blobs ≡ get text_cmp m repo → Updates text_cmp m n repo None → AreBlobsOf m w → AreIn blobs w repo × AreBlobsOf n w
    repo_taken blobs at updates are = (are.each repo blobs (sym at), record { each = each_left (λ q b. AreIn b w q) m n repo updates are.each })

pub blob_put : (m n : Bytes) (w : World) (repo digest key : Text) (b : Weak (Vec ℕ Global) Global) (v : Vec ℕ Global) → Updates text_cmp m n key (Some b) → key ≡ digest → weak_target b ≡ Some v → AreIn m w repo → blob_at w repo digest ≡ Some v.items → AreIn n w repo
blob_put m n w repo digest key b v updates named target are it = record {
  each = each_put (λ q x. (u : Vec ℕ Global) → weak_target x ≡ Some u → blob_at w repo q ≡ Some u.items) m n key digest b updates named are.each
      (λ u is. it ∙ ap (λ (y : Vec ℕ Global). Some y.items) (same_Some v u (sym target ∙ is)));
}
