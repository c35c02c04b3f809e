-- Stacks that are made of open leaves.
use Rattle.std.proofs.Common.{◌≡◌, ℕ, map, Ok}
use Rattle.block_device.specs.Device.{Device}
use Rattle.stack_rules.specs.Records.{Configuration}
use Rattle.stack_engine.specs.Pieces.{stack_over}
use Rattle.stack_engine.specs.Stacks.{StackRecord}
use Rattle.stack_files.specs.Configuration.{configuration_of}
use Rattle.stack_files.specs.StacksOfTexts.{IsStackOf}
use Rattle.stack_files.specs.declared.stack_file.OpenStack.{OpenStack}

-- over the devices of the leaves
pub stack-made : {D : Type 0} (state : D → Device) (over : OpenStack D) (config : Configuration) (cache : ℕ) (stack : StackRecord)
    → configuration_of over.leaves.items over.text.bytes.items ≡ Ok config → stack ≡ stack_over config (map state over.devices.items) cache → IsStackOf state over cache stack
stack-made state over config cache stack makes is = record { config = config; makes = makes; is = is }
