use Rattle.alignment.proofs.EightLemmas.{eight-some}
use Rattle.alignment.proofs.laws.some_of_eight_ends.Goals as goal

pub returns : goal.returns
returns c = λ config d first most loaded by many. eight-some config d first most loaded by many
