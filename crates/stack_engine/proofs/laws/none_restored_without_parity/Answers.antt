use Rattle.stack_engine.proofs.PlainReadLemmas.{none-restored}
use Rattle.stack_engine.proofs.laws.none_restored_without_parity.Goals as goal

pub returns : goal.returns
returns g c = none-restored g.D.BlockDev.state g.D.BlockDev.does
