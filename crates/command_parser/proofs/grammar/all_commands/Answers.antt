use Rattle.std.proofs.Common.{◌∙◌}
use Rattle.std.proofs.lemmas.Result.{IfOk-weaker}
use Rattle.command_parser.specs.Grammar.{grammar, with_commands}
use Rattle.command_parser.proofs.grammar.all_commands.Goals as goal

pub returns : goal.returns
unfolding grammar
returns c = IfOk-weaker c.with_commands.result _ _ (λ command is. is ∙ (λ i. with_commands (c.program.ensures i) (c.command_rows.ensures i))) c.with_commands.ensures
