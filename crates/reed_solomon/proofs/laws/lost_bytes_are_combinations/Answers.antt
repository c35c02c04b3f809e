use Rattle.reed_solomon.proofs.lemmas.ErasureLemmas.{erased-byte}
use Rattle.reed_solomon.proofs.laws.lost_bytes_are_combinations.Goals as goal

pub returns : goal.returns
returns c parity lost word codeword k h enough within code agree = erased-byte parity lost word codeword k h enough within code agree
