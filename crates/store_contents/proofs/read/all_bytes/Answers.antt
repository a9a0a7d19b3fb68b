use Rattle.std.proofs.Common.{◌≡◌, ℕ}
use Rattle.std.specs.Prelude.{option_map, Vec}
use Rattle.std.specs.declared.alloc.Global.{Global}
use Rattle.store_contents.specs.Search.{first_bytes}
use Rattle.store_contents.proofs.Reading.{is_read, not_read, told_if}
use Rattle.store_contents.proofs.read.all_bytes.Goals as goal

pub returns-in-Ok : goal.returns-in-Ok
returns-in-Ok c =
    is_read c.args.shown c.in-Ok.rows c.told.result (λ rows o. option_map (λ (bytes : Vec ℕ Global). bytes.items) o ≡ first_bytes rows) c.in-Ok.is (told_if c.bytes_shown.result c.told.result c.told.ensures.exact _ (rw c.deref.ensures.value at c.bytes_shown.ensures))

pub returns-in-Err : goal.returns-in-Err
returns-in-Err c = not_read c.args.shown c.in-Err.error _ (λ rows o. option_map (λ (bytes : Vec ℕ Global). bytes.items) o ≡ first_bytes rows) c.in-Err.is
