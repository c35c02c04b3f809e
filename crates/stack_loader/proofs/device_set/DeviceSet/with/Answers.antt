use Rattle.stack_loader.proofs.DeviceSetLemmas.{bit_set-at}
use Rattle.stack_loader.proofs.device_set.DeviceSet.with.Goals as goal

pub returns : goal.returns
returns c = λ e. bit_set-at c.args.self.bits c.args.d e c.requires
