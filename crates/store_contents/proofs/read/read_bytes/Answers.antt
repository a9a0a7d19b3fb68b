use Rattle.std.proofs.Common.{◌∙◌, rules, w64, SFits}
use Rattle.std.proofs.lemmas.Int.{to_z-of_z}
use Rattle.store_contents.proofs.Reading.{told_if, told_on, told_failed}
use Rattle.store_contents.proofs.read.read_bytes.Goals as goal

pub returns : goal.returns
returns g c =
    let range : SFits w64 c.get.result = search rules in
    record {
      found = λ clean is. rw (to_z-of_z w64 c.get.result range ∙ c.get.ensures) at (told_if c.peek.result c.told.result c.told.ensures.exact _ (c.peek.ensures.found clean is));
      same = λ clean is. told_on c.peek.result c.told.result c.told.ensures.exact _ (c.peek.ensures.same clean is);
      failed = λ clean is. told_failed c.peek.result c.told.result c.told.ensures.exact _ (c.peek.ensures.failed clean is);
      mode = c.peek.ensures.mode;
      survives = c.peek.ensures.survives;
      lasts = c.peek.ensures.lasts;
    }
