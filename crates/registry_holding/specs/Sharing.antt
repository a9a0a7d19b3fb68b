-- What is known of bytes that several may hold.
use Rattle.std.specs.Prelude.{◌≡◌, ℕ, Vec, Some, false}
use Rattle.std.specs.Option.{ForSome}
use Rattle.std.specs.BTreeMap.{BTreeMap, get}
use Rattle.std.specs.Rc.{weak_target}
use Rattle.std.specs.declared.alloc.Global.{Global}
use Rattle.std.specs.declared.rc.Weak.{Weak}
use Rattle.oci_types.specs.Text.{Text}
use Rattle.registry_model.specs.World.{World, text_cmp}
use Rattle.registry_model.specs.Lookups.{blob_at}
use Rattle.registry_model.specs.Keeping.{Kept}

-- bytes by their digests, as long as somebody holds them
abbrev pub Bytes : Type 0
Bytes = BTreeMap Text (Weak (Vec ℕ Global) Global)

-- each is the blob of that digest in the repository
pub record AreIn (blobs : Bytes) (w : World) (repo : Text) : Type 0 where
  pub each : (digest : Text)
      → ForSome (get text_cmp blobs digest)
      (λ b. ForSome (weak_target b) (λ v. blob_at w repo digest ≡ Some v.items))

-- the same of each repository
pub record AreBlobsOf (m : BTreeMap Text Bytes) (w : World) : Type 0 where
  pub each : (repo : Text) → ForSome (get text_cmp m repo) (λ blobs. AreIn blobs w repo)

-- the same of what a keeper keeps, where it is honest and not spent
abbrev pub AreShared : BTreeMap Text Bytes → Type 0 → Kept → Type 0
AreShared m honest k = honest → k.spent ≡ false → AreBlobsOf m k.world
