-- The name and the rows of the subcommand that was found.
use Rattle.std.proofs.Common.{◌≡◌, ◌∙◌, List, Option, Some, None, sym, ap₂, arith}
use Rattle.std.specs.Prelude.{option_map}
use Rattle.clap.specs.Words.{Row, Text, subcommand_name_of, subcommand_rows_of}
use Rattle.clap.specs.declared.ArgMatches.{ArgMatches}

name_found : (m : ArgMatches) → subcommand_name_of m ≡ option_map (λ (p : Text × List Row). p.0) (subcommand_rows_of m)
name_found m = grind arith

pub subcommand_found : (m : ArgMatches) (word : Text) (rows : List Row) → subcommand_name_of m ≡ Some word
    → option_map (λ (p : Text × List Row). p.1) (subcommand_rows_of m) ≡ Some rows → subcommand_rows_of m ≡ Some (word, rows)
subcommand_found m word rows named is = go (subcommand_rows_of m) (sym (name_found m) ∙ named) is
  where
    go : (o : Option (Text × List Row)) → option_map (λ (p : Text × List Row). p.0) o ≡ Some word → option_map (λ (p : Text × List Row). p.1) o ≡ Some rows → o ≡ Some (word, rows)
    go None first second = absurd (let bad : None ≡ Some word = first in cc)
    go (Some p) first second =
        let one : p.0 ≡ word = cc in
        let two : p.1 ≡ rows = cc in
        ap₂ (λ (a : Text) (b : List Row). Some (a, b)) one two
