use Rattle.reed_solomon.proofs.CorrectingLemmas.{near-equal}
use Rattle.reed_solomon.proofs.laws.near_codewords_are_equal.Goals as goal

pub returns : goal.returns
returns c parity word v w one two = near-equal parity word v w one two
