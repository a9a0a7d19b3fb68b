use Rattle.std.proofs.Common.{arith}
use Rattle.std.proofs.lemmas.Slice.{put_mid-rotated}
use Rattle.registry_server.proofs.connection.to_back.Goals as goal

pub returns : goal.returns
returns c = λ d. put_mid-rotated _ _ _ _ d c.requires (omega (arith, c.requires)) c.rotate_left.ensures.after
