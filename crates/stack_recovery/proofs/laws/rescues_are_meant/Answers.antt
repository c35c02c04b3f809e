use Rattle.stack_recovery.proofs.lemmas.MeantLemmas.{surveys-meant}
use Rattle.stack_recovery.proofs.laws.rescues_are_meant.Goals as goal

pub returns : goal.returns
returns c = λ marks d first w reads after survey scraped known sure. surveys-meant marks d first w reads after survey scraped known sure
