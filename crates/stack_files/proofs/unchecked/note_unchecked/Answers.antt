use Rattle.stack_files.proofs.lemmas.NoteLemmas.{done-or-failed, failed-before}
use Rattle.stack_files.proofs.unchecked.note_unchecked.Goals as goal

pub returns-clause-noted : goal.returns-clause-noted
returns-clause-noted g c = done-or-failed _ _ c.say_if-said.result (rw c.has_signature.ensures at c.say_if-said.ensures)

pub returns-clause-failed : goal.returns-clause-failed
returns-clause-failed g c = failed-before _ _ c.say_if-said.result c.say_if-said.ensures
