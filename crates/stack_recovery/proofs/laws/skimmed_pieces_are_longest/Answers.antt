use Rattle.stack_recovery.proofs.SkimLawLemmas.{skimmed-longest}
use Rattle.stack_recovery.proofs.laws.skimmed_pieces_are_longest.Goals as goal

pub returns : goal.returns
returns c = λ most p first wanted skims h. skimmed-longest most p first wanted skims h
