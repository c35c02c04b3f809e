use Rattle.stack_meaning.proofs.lemmas.DecodedLemmas.{erasures-decoded}
use Rattle.stack_meaning.proofs.laws.erasures_are_decoded.Goals as goal

pub returns : goal.returns
returns c = erasures-decoded
