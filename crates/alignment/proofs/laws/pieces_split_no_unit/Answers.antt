use Rattle.alignment.proofs.UnitLemmas.{split-none}
use Rattle.alignment.proofs.laws.pieces_split_no_unit.Goals as goal

pub returns : goal.returns
returns c = λ config d first rest most s n loaded many some unit begins. split-none config d first rest most s n loaded many some unit begins
