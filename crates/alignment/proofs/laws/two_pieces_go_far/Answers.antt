use Rattle.alignment.proofs.UnitLemmas.{two-go-far}
use Rattle.alignment.proofs.laws.two_pieces_go_far.Goals as goal

pub returns : goal.returns
returns c = λ config d first rest most some. two-go-far config d first rest most some
