use Rattle.std.proofs.Common.{◌≡◌, ◌∙◌, ℕ, ap, rules, w64, SFits}
use Rattle.std.proofs.lemmas.Int.{to_z-of_z}
use Rattle.std.specs.Prelude.{find, option_map, Option, Vec}
use Rattle.std.specs.declared.alloc.Global.{Global}
use Rattle.sqlite.specs.Held.{state}
use Rattle.sqlite.specs.Tree.{has_rowid}
use Rattle.sqlite.specs.declared.types.Value.TheVariants.{Int}
use Rattle.store_schema.proofs.Selects.{leaves_all, keeps_by_query}
use Rattle.store_contents.specs.Contents.{content_rows, bytes_in}
use Rattle.store_contents.specs.Search.{first_bytes}
use Rattle.store_contents.specs.Texts.{read_text}
use Rattle.store_contents.proofs.ReadLemmas.{bytes_shown, bytes_first, reads}
use Rattle.store_contents.proofs.Reading.{value_read, same_read}
use Rattle.store_contents.proofs.read.bytes_of.Goals as goal

pub returns : goal.returns
returns g c =
    let range : SFits w64 c.get.result = search rules in
    let old = state g.S.Store c.args.tx.now.conn.now in
    let new = state g.S.Store c.query_all.new.self.conn.now in
    record {
      found = λ clean is.
          value_read (λ rows (o : Option (Vec ℕ Global)). option_map (λ (bytes : Vec ℕ Global). bytes.items) o ≡ first_bytes rows) c.query_all.result c.all_bytes.result c.all_bytes.ensures
          (λ o. option_map (λ (bytes : Vec ℕ Global). bytes.items) o ≡ bytes_in old.now c.args.id.id) (λ rows. rows.items ≡ bytes_shown (find (has_rowid c.args.id.id) (content_rows old.now)))
          (reads old new c.args.id.id c.query_all.result is (rw (c.params-to_sql.ensures ∙ ap Int (to_z-of_z w64 c.get.result range ∙ c.get.ensures)) at (c.query_all.ensures.ok clean)))
          (λ rows o same e. e ∙ bytes_first (find (has_rowid c.args.id.id) (content_rows old.now)) rows.items same);
      same = λ clean is. same_read _ c.query_all.result c.all_bytes.result c.all_bytes.ensures old new (leaves_all read_text _ old new c.query_all.result is.known.texts.read.plain (c.query_all.ensures.ok clean));
      kept = λ clean is. keeps_by_query read_text _ old new c.query_all.result is.known.texts.read.plain (c.query_all.ensures.ok clean) (c.query_all.ensures.err clean);
      same_reference = c.query_all.ensures.same_reference;
      survives = c.query_all.ensures.survives;
    }
