use Rattle.reed_solomon.proofs.RestoringLemmas.{codewords_equal}
use Rattle.reed_solomon.proofs.laws.codewords_are_apart.Goals as goal

pub returns : goal.returns
returns c parity lost v w enough within code_v code_w agree = codewords_equal parity lost v w enough within code_v code_w agree
