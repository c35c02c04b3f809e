use Rattle.std.proofs.Common.{◌⊎◌, ◌/◌, length, take, drop, map, ◌-◌, ◌≡◌, ◌≤◌, ◌+◌, ◌++◌, ◌*◌, ◌%◌, Ok}
use Rattle.stack_rules.specs.Names.{mapped}
use Rattle.stack_rules.specs.Descend.{depth}
use Rattle.stack_lines.specs.Writing.{sectors_in, destination_of, source_destination, WritesSectors}
use Rattle.block_device.specs.Call.{DeviceDoes}
use Rattle.stack_meaning.specs.Units.{per_unit, unit_first}
use Rattle.stack_lines.specs.declared.source.Source.TheVariants.{Units}
use Rattle.stack_lines.proofs.lemmas.WriteSourceLemmas.{EndsBefore}
use Rattle.stack_lines.specs.Sources.{source_depth}
use Rattle.stack_engine.proofs.SpentLemmas.{IsCutBehind}
use Rattle.stack_engine.specs.Backings.{backing_of}
use Rattle.stack_engine.proofs.SectorCallLemmas.{HandsUpTo, StepsUpTo}
use Rattle.stack_engine.specs.WriteSteps.{write_to, IsWriteStep}
use Rattle.stack_engine.proofs.WriteStepLemmas.{write_some}
use Rattle.stack_engine.proofs.write.+write.Given as goal

-- 8 times the depth and a rank, of which 0 to 4 are left for the steps of a target

abbrev pub decreases-write_lower : goal.decreases-write_lower
decreases-write_lower g l = 8 * depth l.config.now l.lower + 7

abbrev pub decreases-write_device : goal.decreases-write_device
decreases-write_device g l = 8 * depth l.config.now (mapped l.d.0) + 6

abbrev pub decreases-write_run : goal.decreases-write_run
decreases-write_run g l = 8 * source_depth l.config.now l.source + 5

-- the bytes so far are written, and the buffer's others are as they were
abbrev pub invariant-write_device-loop-at : goal.invariant-write_device-loop-at
invariant-write_device-loop-at g l = record {
  whole : l.at % 512 ≡ 0;
  within : l.at ≤ length (l.plain ++ l.fn.buffer);
  rest : drop l.at l.buffer ≡ drop l.at l.fn.buffer;
  so_far : WritesSectors (destination_of l.config (mapped l.d.0)) l.first (sectors_in (take l.at (l.plain ++ l.fn.buffer))) (map g.D.BlockDev.state l.fn.backing.devices.items) (map g.D.BlockDev.state l.backing.devices.items) (Ok tt);
  handed : HandsUpTo (DeviceDoes g.D.BlockDev.state g.D.BlockDev.does) l.config l.d.0 l.first l.at (l.plain ++ l.fn.buffer) l.fn.backing.devices.items l.backing.devices.items;
  step : IsWriteStep l.config (write_some l.config l.d.0 l.first (l.at / 512) (length (l.plain ++ l.fn.buffer) / 512)) (backing_of g.D.BlockDev.state l.fn.backing) (backing_of g.D.BlockDev.state l.backing);
  cut : IsCutBehind l.config l.d.0 l.first (l.at / 512) (length (l.plain ++ l.fn.buffer) / 512);
  ends : EndsBefore l.config l.d.0 (l.first + l.at / 512) (take l.at (l.plain ++ l.fn.buffer)) ⊎ (l.at ≡ length (l.plain ++ l.fn.buffer));
}

abbrev pub decreases-write_device-loop-at : goal.decreases-write_device-loop-at
decreases-write_device-loop-at g l = l.initial.len - l.at

abbrev pub decreases-write_unit_part : goal.decreases-write_unit_part
decreases-write_unit_part g l = 8 * (depth l.config.now l.part.lower + 1) + 4

abbrev pub decreases-write_units : goal.decreases-write_units
decreases-write_units g l = 8 * (depth l.config.now l.part.lower + 1) + 3

-- the units so far are written, and the others are encrypted
abbrev pub invariant-write_units-loop-at : goal.invariant-write_units-loop-at
invariant-write_units-loop-at g l = record {
  even : l.at % l.size ≡ 0;
  within : l.at ≤ length l.fn.units;
  rest : drop l.at l.units ≡ drop l.at l.initial.units;
  handed : StepsUpTo (DeviceDoes g.D.BlockDev.state g.D.BlockDev.does) l.config (per_unit l.fn.part.units) l.fn.part.lower (unit_first l.fn.part.units l.fn.part.first) l.at l.initial.units l.fn.backing.devices.items l.backing.devices.items;
  step : IsWriteStep l.config (write_to l.config (Units l.fn.part) (l.at / 512)) (backing_of g.D.BlockDev.state l.fn.backing) (backing_of g.D.BlockDev.state l.backing);
  so_far : WritesSectors (source_destination l.config (Units l.fn.part)) 0 (sectors_in (take l.at l.fn.units)) (map g.D.BlockDev.state l.fn.backing.devices.items) (map g.D.BlockDev.state l.backing.devices.items) (Ok tt);
}

abbrev pub decreases-write_units-loop-at : goal.decreases-write_units-loop-at
decreases-write_units-loop-at g l = length l.fn.units - l.at
