use Rattle.stack_loader.proofs.DeviceSetLemmas.{bit_or-at}
use Rattle.stack_loader.proofs.device_set.DeviceSet.union.Goals as goal

pub returns : goal.returns
returns c = λ d. bit_or-at c.args.self.bits c.args.other.bits d
