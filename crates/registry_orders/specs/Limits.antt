-- How much the connections of an address may take together (profile).
use Rattle.std.specs.Prelude.{List, codes}
use Rattle.clap.specs.Words.{Row, one_of}
use Rattle.registry_orders.specs.declared.limits.Limits.{Limits}
use Rattle.registry_orders.specs.Options.{IsNumberIf, IsNumberOf}

abbrev pub AreLimitsIn : List Row → Limits → Type 0
AreLimitsIn options limits =
    IsNumberOf (one_of (codes "at-once") options) limits.at_once
    × IsNumberOf (one_of (codes "buffer") options) limits.buffer
    × IsNumberIf (one_of (codes "staged") options) limits.staged
    × IsNumberOf (one_of (codes "idle") options) limits.idle
