use Rattle.stack_meaning.proofs.lemmas.FewerLossesLemmas.{fewer-losses}
use Rattle.stack_meaning.proofs.laws.fewer_losses_restore_the_same.Goals as goal

pub returns : goal.returns
returns c = fewer-losses
