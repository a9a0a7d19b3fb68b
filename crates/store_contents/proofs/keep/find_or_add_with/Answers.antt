use Rattle.std.proofs.Common.{◌∙◌, ap}
use Rattle.hex.specs.Hex.{encode_lower}
use Rattle.store_contents.specs.Contents.{sha256_text}
use Rattle.store_contents.proofs.keep.find_or_add_with.Goals as goal

pub find_or_add_hashed-requires : goal.find_or_add_hashed-requires
unfolding sha256_text
find_or_add_hashed-requires g c = record { hashed = c.as_str.ensures.value ∙ c.in-Ok.ensures ∙ ap encode_lower c.requires.hashed }
