use Rattle.stack_files.proofs.lemmas.NoteLemmas.{done-or-failed}
use Rattle.partition_commands.proofs.warnings.find_noted.Goals as goal

pub returns-clause-ok : goal.returns-clause-ok
returns-clause-ok g c = record {
  found = c.in_ok-table.ensures.ok;
  noted = done-or-failed _ _ c.say_warnings-said.result c.say_warnings-said.ensures;
}
