use Rattle.reed_solomon.proofs.lemmas.SumLemmas.{codeword-lost}
use Rattle.reed_solomon.proofs.laws.one_lost_byte_is_a_sum.Goals as goal

pub returns : goal.returns
returns c parity word place some code inside = codeword-lost parity word place some code inside
