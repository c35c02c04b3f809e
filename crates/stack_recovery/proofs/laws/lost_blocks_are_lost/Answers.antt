use Rattle.stack_recovery.proofs.VerityLossLemmas.{blocks-lost}
use Rattle.stack_recovery.proofs.laws.lost_blocks_are_lost.Goals as goal

pub returns : goal.returns
returns c = λ config loaded images d s l line v lies fault. blocks-lost config loaded images d s l line v lies fault
