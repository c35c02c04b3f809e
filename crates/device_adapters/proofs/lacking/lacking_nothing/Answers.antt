use Rattle.device_adapters.proofs.LackingLemmas.{lacking-none}
use Rattle.device_adapters.proofs.lacking.lacking_nothing.Goals as goal

pub returns-clause-state : goal.returns-clause-state
returns-clause-state g c = lacking-none (g.D.BlockDev.state c.args.inner) (g.met.D.BlockDev.counters c.args.inner)
