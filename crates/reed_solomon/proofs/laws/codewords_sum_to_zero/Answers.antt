use Rattle.reed_solomon.proofs.lemmas.SumLemmas.{codeword-sum}
use Rattle.reed_solomon.proofs.laws.codewords_sum_to_zero.Goals as goal

pub returns : goal.returns
returns c parity word some code = codeword-sum parity word some code
