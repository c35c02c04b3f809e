use Rattle.std.proofs.Common.{map}
use Rattle.std.specs.Prelude.{string_bytes}
use Rattle.stack_commands.proofs.EndingLemmas.{still-failed, usage-explained}
use Rattle.stack_commands.proofs.program.print_misuse.Goals as goal

pub returns-clause-printed : goal.returns-clause-printed
returns-clause-printed g c = usage-explained g.E.Write.contents (map string_bytes c.args.words.now) _ _ c.args.fault c.misuse_of-misuse.result _ c.misuse_of-misuse.ensures c.print_usage_error-said.ensures

pub returns-clause-failed : goal.returns-clause-failed
returns-clause-failed g c = still-failed _ _ _ c.print_usage_error-said.ensures
