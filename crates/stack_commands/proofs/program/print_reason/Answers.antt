use Rattle.std.proofs.Common.{ap, sym, ◌∙◌}
use Rattle.command_line.specs.FormatOptions.{text_of}
use Rattle.stack_commands.proofs.EndingLemmas.{end-explained, end-unexplained, still-failed}
use Rattle.stack_commands.proofs.program.print_reason.Goals as goal

pub returns-in-Some-clause-printed : goal.returns-in-Some-clause-printed
returns-in-Some-clause-printed g c =
    end-explained g.E.Write.contents _ _ _ c.in-Some.message.now c.print_message-said.result (sym c.said_message.ensures ∙ ap text_of c.in-Some.is) c.print_message-said.ensures

pub returns-in-Some-clause-failed : goal.returns-in-Some-clause-failed
returns-in-Some-clause-failed g c = still-failed _ _ _ c.print_message-said.ensures

pub returns-in-None-clause-printed : goal.returns-in-None-clause-printed
returns-in-None-clause-printed g c = end-unexplained g.E.Write.contents c.args.errors.now _ (sym c.said_message.ensures ∙ ap text_of c.in-None.is)
