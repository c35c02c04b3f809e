use Rattle.std.proofs.Common.{◌≡◌, map, take}
use Rattle.clap.specs.Simple.{app_of}
use Rattle.command_parser.specs.Grammar.{command_text, with_commands}
use Rattle.command_parser.proofs.grammar.with_commands.Given as goal

-- the command has the subcommands so far
abbrev pub invariant-rows : goal.invariant-rows
invariant-rows l = app_of l.all ≡ with_commands (app_of l.fn.command) (map command_text (take l.row-index l.rows))
