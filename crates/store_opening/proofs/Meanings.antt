-- What a text means over a schema, by what it is compiled to there: so it is compiled but once.
use Rattle.std.proofs.Common.{◌≡◌, ◌∙◌, ℕ, List, [], None, Some, Ok, Err, refl, sym, ap, subst}
use Rattle.std.specs.Prelude.{Option, if◌then◌else◌, unwrap_or}
use Rattle.sqlite.specs.Schema.{Schema}
use Rattle.sqlite.specs.Command.{Command}
use Rattle.sqlite.specs.Given.{IsPlain}
use Rattle.sqlite.specs.Listing.{understood, misses_table, if_select, listing_schema}
use Rattle.sqlite_schema.specs.declared.command.Returning.{Returning}
use Rattle.sqlite_resolve.specs.declared.compiled.Compiled.{Compiled}
use Rattle.sqlite_resolve.specs.Lowering.{Checked}
use Rattle.sqlite_resolve.specs.Compile.{compiled}
use Rattle.store_schema.specs.Layout.{Means, command_in}

-- its command, what that shows, and what it asks the clock for
abbrev pub Told : Type 0
Told = Command × Option Returning × List (List ℕ)

abbrev pub told : Checked Compiled → Option Told
told (Ok c) = Some (c.command, c.returning, c.formats)
told (Err e) = None

module _ (schema : Schema) (text : List ℕ) (command : Command) where
  means_so : (r : Checked Compiled) → compiled schema text ≡ r → told r ≡ Some (command, None, []) → Means schema text command
  unfolding understood
  means_so (Err e) is tells = absurd (let x = tells in cc)
  means_so (Ok c) is tells =
      let known : understood schema text ≡ Ok c = ap (λ (r : Checked Compiled). if misses_table r then if_select (compiled listing_schema text) else r) is in
      record {
        is = ap (command_in (λ (d : Compiled). d.command)) known ∙ ap (λ (o : Option Told). Some (unwrap_or o (command, None, [])).0) tells;
        plain = subst IsPlain (sym known) (ap (λ (o : Option Told). (unwrap_or o (command, None, [])).1) tells, ap (λ (o : Option Told). (unwrap_or o (command, None, [])).2) tells);
        unlisted = ap misses_table is;
      }

  pub means_by : told (compiled schema text) ≡ Some (command, None, []) → Means schema text command
  means_by tells = means_so (compiled schema text) refl tells
