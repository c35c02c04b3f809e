-- The command line as it is described to clap, in the terms in which clap's specification states what it makes of words.
use Rattle.std.specs.Prelude.{true, List, [], ◌∷◌, map, codes, Some, if◌then◌else◌}
use Rattle.clap.specs.Lexer.{usize_max}
use Rattle.clap.specs.Simple.{App, new_app, new_rule, on_top, with_rule, with_subcommand}
use Rattle.clap.specs.Walk.{Rule, Text}
use Rattle.clap.specs.declared.builder.action.ArgAction.TheVariants.{Append, Set, SetTrue}
use Rattle.command_parser.specs.Commands.{CommandText, OptionText, commands}
use Rattle.command_parser.specs.declared.option_rows.OptionRow.{OptionRow}
use Rattle.command_parser.specs.declared.rows.CommandRow.{CommandRow}

-- `--NAME VALUE` or `--NAME`, at most once
abbrev pub option_rule : OptionText → Rule
option_rule o = record (new_rule o.name) { long = Some o.name; aliases = o.others; action = Some (if o.has_value then Set else SetTrue) }

-- all positional words, of which the first ends the options
abbrev pub word_rule : Rule
word_rule = record (new_rule (codes "words")) {
  range = Some (record { start_inclusive = 0; end_inclusive = usize_max });
  action = Some Append;
  trailing_var_arg = true;
}

-- a command of positional words
abbrev pub positional : Text → App
positional name = with_rule (on_top (λ s. record s { disable_help_flag = true }) (new_app name)) word_rule

-- with options added
unfoldable pub with_options : App → List OptionText → App
with_options a [] = a
with_options a (o ∷ os) = with_options (with_rule a (option_rule o)) os

abbrev pub command_app : CommandText → App
command_app c = with_options (positional c.name) c.options

-- with commands added
unfoldable pub with_commands : App → List CommandText → App
with_commands a [] = a
with_commands a (c ∷ cs) = with_commands (with_subcommand a (command_app c).top) cs

-- a command is wanted, and there is no help
abbrev pub program : App
program = on_top (λ s. record s {
  no_binary_name = true;
  disable_help_flag = true;
  disable_help_subcommand = true;
  disable_version_flag = true;
  subcommand_required = true;
}) (new_app (codes "dmstack"))

-- what the program's own rows say
abbrev pub option_text : OptionRow → OptionText
option_text row = record { name = row.name.now; others = map (λ n. n.now) row.others.now; has_value = row.has_value }

abbrev pub command_text : CommandRow → CommandText
command_text row = record { name = row.name.now; options = map option_text row.options.now }

unfoldable pub grammar : App
grammar = with_commands program commands
