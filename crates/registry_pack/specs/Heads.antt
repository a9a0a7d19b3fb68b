-- The head of the file: what one copy of it says.
use Rattle.std.specs.Prelude.{◌⊎◌, ◌++◌, ℕ, List, [], ◌∷◌, codes}
use Rattle.std.specs.Int.{w64, to_be_bytes}
use Rattle.sha2.specs.Sha256.{sha256}
use Rattle.sqlite_disk.specs.declared.Disk.{Ghosts}
use Rattle.sqlite_disk.specs.Disk.{Holds}
use Rattle.registry_pack.specs.Standing.{Lasts}
use Rattle.registry_pack.specs.declared.head.Head.{Head}
use Rattle.registry_pack.specs.declared.head.HeadCopy.{HeadCopy}
use Rattle.registry_pack.specs.declared.head.HeadCopy.TheVariants.{First, Second}

abbrev pub offset_of : HeadCopy → ℕ
offset_of First = 0
offset_of Second = 4096

-- the text with its line feed
abbrev pub head_text : List ℕ
head_text = codes "firkhen contents 1" ++ 10 ∷ []

-- what the digest is of: the text, the mark and the age, its highest byte first
unfoldable pub signed_bytes : Head → List ℕ
signed_bytes head = head_text ++ (head.mark ++ to_be_bytes w64 head.age)

unfoldable pub head_bytes : Head → List ℕ
head_bytes head = signed_bytes head ++ sha256 (signed_bytes head)

-- this copy in the file is of this head
abbrev pub Says : List ℕ → HeadCopy → Head → Type 0
Says file copy head = Holds file (offset_of copy) (head_bytes head)

-- both copies are of this head, whatever a crash leaves
pub record AreLasting {D : Type 0} (g : Ghosts D) (file : D) (head : Head) : Type 0 where
  pub first : Lasts g file (offset_of First) (head_bytes head)
  pub second : Lasts g file (offset_of Second) (head_bytes head)

-- a call that writes this head left the second copy as it was, or the first copy is of this head
abbrev pub OneStands : {D : Type 0} → Ghosts D → D → D → Head → Type 0
OneStands g old new head = (was : Head) → Lasts g old (offset_of Second) (head_bytes was)
    → Lasts g new (offset_of Second) (head_bytes was) ⊎ Lasts g new (offset_of First) (head_bytes head)
