use Rattle.std.proofs.Common.{◌≡◌, ◌++◌, drop}
use Rattle.std.specs.Io.KnownBytes.{Appends}
use Rattle.oci_types.specs.Text.{Text}
use Rattle.registry_checking.specs.Lines.{lines_of}
use Rattle.registry_checking.proofs.lines.write_wrongs.Given as goal

-- what was written so far, with the lines that are left, are all lines
abbrev pub invariant-loop-wrong : goal.invariant-loop-wrong
invariant-loop-wrong g l = (written : Text) × Appends (g.W.Write.contents l.fn.out) (g.W.Write.contents l.out) written × (written ++ lines_of (drop l.wrong-index l.wrongs) ≡ lines_of l.wrongs)
