-- One argument or one subcommand more.
use Rattle.std.proofs.Common.{◌≡◌, ◌∙◌, ◌<◌, ◌+◌, ℕ, Option, Some, Result, IfOk, List, [], ◌∷◌, ◌++◌, map, take, length, get_or, true, refl, ap, ap₂, sym, subst}
use Rattle.std.proofs.lemmas.List.{take_more, map-append}
use Rattle.clap.specs.Words.{App, Shape, Rule, Text, rule_of, AddsArg, AddsSubcommand, with_rule, with_subcommand}
use Rattle.clap.proofs.SimpleLemmas.{plain_fields}
use Rattle.clap.specs.declared.builder.Arg.{Arg}
use Rattle.clap.specs.declared.builder.Command.{Command}
use Rattle.clap.specs.declared.builder.ValueParser.{ValueParser}
use Rattle.clap.specs.declared.builder.ValueParser.TheVariants.{Unsigned}
use Rattle.command_line.specs.CommandLine.{HasRule, IsApp, IsSub, alone, program, subcommand, required, within}
use Rattle.command_line.specs.declared.options.SubOption.{SubOption}
use Rattle.command_line.specs.declared.subcommands.Subcommand.{Subcommand}
use Rattle.command_line.specs.Options.{rule_shown}
use Rattle.command_line.specs.Subcommands.{sub_shown, with_all}

pub arg_added : (app : App) (r : Rule) (old new : Command) (a : Arg) → IsApp app old → HasRule r a → AddsArg old a new → IsApp (with_rule app r) new
arg_added app r old new a is has added = added.shape has.1 ∙ ap₂ with_rule is has.0

-- one option more of those that are gone over
pub option_added : (word : Text) (options : List SubOption) (i : ℕ) (d : SubOption) (old new : Command) (a : Arg) → i < length options
    → IsSub (subcommand word (map rule_shown (take i options))) old → HasRule (rule_shown (get_or options i d)) a → AddsArg old a new
    → IsSub (subcommand word (map rule_shown (take (i + 1) options))) new
option_added word options i d old new a low is has added =
    let o = get_or options i d in
    let more : map rule_shown (take (i + 1) options) ≡ map rule_shown (take i options) ++ rule_shown o ∷ [] =
    ap (map rule_shown) (take_more options i d low) ∙ map-append rule_shown (take i options) (o ∷ []) in
    subst (λ (rules : List Rule). IsSub (subcommand word rules) new) (sym more) (arg_added (alone (subcommand word (map rule_shown (take i options)))) (rule_shown o) old new a is has added)

pub sub_added : (app sub : App) (old new c : Command) → IsApp app old → IsApp sub c → sub.top.is_plain ≡ true → AddsSubcommand old c new
    → IsApp (with_subcommand app sub.top) new
sub_added app sub old new c is below plain added =
    added.shape (plain_fields c (ap (λ (a : App). a.top.is_plain) below ∙ plain)).globals ∙ ap₂ with_subcommand is (ap (λ (a : App). a.top) below)

-- one subcommand more of those that are gone over
with_last : (app : App) (subs : List Shape) (s : Shape) → with_all app (subs ++ s ∷ []) ≡ with_subcommand (with_all app subs) s
with_last app [] s = refl
with_last app (t ∷ subs) s = with_last (with_subcommand app t) subs s

pub sub_more : {E : Type 0} (subs : List Subcommand) (i : ℕ) (d : Subcommand) (old new : Result Command E) → i < length subs
    → IfOk old (IsApp (with_all program (map sub_shown (take i subs))))
    → ((app : App) → IfOk old (IsApp app) → IfOk new (IsApp (with_subcommand app (sub_shown (get_or subs i d)))))
    → IfOk new (IsApp (with_all program (map sub_shown (take (i + 1) subs))))
sub_more subs i d old new low is added =
    let s = get_or subs i d in
    let so_far = map sub_shown (take i subs) in
    let more : map sub_shown (take (i + 1) subs) ≡ so_far ++ sub_shown s ∷ [] =
    ap (map sub_shown) (take_more subs i d low) ∙ map-append sub_shown (take i subs) (s ∷ []) in
    let same : with_all program (map sub_shown (take (i + 1) subs)) ≡ with_subcommand (with_all program so_far) (sub_shown s) =
    ap (with_all program) more ∙ with_last program so_far (sub_shown s) in
    subst (λ (app : App). IfOk new (IsApp app)) (sym same) (added (with_all program so_far) is)

pub required_rule : (r : Rule) (a b : Arg) → HasRule r a → b ≡ record a { required = true } → HasRule (required r) b
required_rule r a b has is = rw is (ap required has.0, has.1)

pub within_rule : (first last : ℕ) (r : Rule) (a b : Arg) → HasRule r a → b ≡ record a { value_parser = b.value_parser }
    → b.value_parser ≡ Some (Unsigned first last) → HasRule (within first last r) b
within_rule first last r a b has is given =
    (ap rule_of is ∙ ap₂ (λ (s : Rule) (p : Option ValueParser). record s { parser = p }) has.0 given, ap (λ (x : Arg). x.global) is ∙ has.1)
