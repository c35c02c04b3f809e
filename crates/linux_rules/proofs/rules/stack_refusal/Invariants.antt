use Rattle.std.proofs.Common.{◌≡◌, ◌+◌, drop}
use Rattle.stack_rules.specs.Records.{DeviceRecord}
use Rattle.stack_rules.specs.Descend.{by_name}
use Rattle.linux_rules.specs.Blocks.{block_in}
use Rattle.linux_rules.specs.Rules.{device_block, device_refusal, first_from, stack_refusal}
use Rattle.linux_rules.proofs.rules.stack_refusal.Given as goal

abbrev pub invariant-loop-d : goal.invariant-loop-d
invariant-loop-d l =
    first_from (λ d (x : DeviceRecord). device_refusal l.config (by_name l.config 0 (block_in l.blocks)) (device_block (block_in l.blocks) d) d x.table) (l.d + 1) (drop l.d l.config.devices)
    ≡ stack_refusal l.config (block_in l.blocks)
