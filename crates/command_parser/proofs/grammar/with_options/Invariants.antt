use Rattle.std.proofs.Common.{◌≡◌, map, take}
use Rattle.clap.specs.Simple.{app_of}
use Rattle.clap.specs.declared.builder.command.Command.TheViews.{out-Command as fields_of}
use Rattle.command_parser.specs.Grammar.{option_text, with_options}
use Rattle.command_parser.proofs.grammar.with_options.Given as goal

-- the command has the options so far
abbrev pub invariant-rows : goal.invariant-rows
invariant-rows l = (app_of l.all ≡ with_options (app_of l.fn.command) (map option_text (take l.row-index l.rows)))
    × ((fields_of l.all).has_globals ≡ (fields_of l.fn.command).has_globals)
