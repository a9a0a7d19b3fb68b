-- What is known of every layout of a kind.
use Rattle.std.specs.Prelude.{ℕ, List}
use Rattle.store_contents.specs.Layouts.{Layout, InTables, InPack}
use Rattle.store_bytes.specs.Keeping.{AreOfKind}

pub of_tables : (P : Layout → Type 0) → P InTables → (l : Layout) → AreOfKind InTables l → P l
of_tables P p InTables kind = p
of_tables P p (InPack file) kind = absurd kind

pub of_packs : (P : Layout → Type 0) (file : List ℕ) → ((other : List ℕ) → P (InPack other)) → (l : Layout) → AreOfKind (InPack file) l → P l
of_packs P file p InTables kind = absurd kind
of_packs P file p (InPack other) kind = p other

pub of_own_kind : (l : Layout) → AreOfKind l l
of_own_kind InTables = tt
of_own_kind (InPack file) = tt
