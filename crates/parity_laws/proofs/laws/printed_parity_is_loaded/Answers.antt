use Rattle.parity_laws.proofs.PrintedLemmas.{printed-loaded}
use Rattle.parity_laws.proofs.laws.printed_parity_is_loaded.Goals as goal

pub returns : goal.returns
returns c = printed-loaded
