use Rattle.std.proofs.Common.{◌≡◌, ◌-◌, ◌≤◌, ◌^◌, drop}
use Rattle.block_device.specs.Call.{DeviceDoes}
use Rattle.stack_rules.specs.Names.{mapped, size}
use Rattle.rescue_map.specs.Aheads.{marks_ahead}
use Rattle.stack_recovery.specs.FirstPasses.{skipping_of, transfer}
use Rattle.stack_recovery.specs.LeafReads.{CopiesLeaves, ahead}
use Rattle.stack_recovery.proofs.SkimLemmas.{IsSkimming}
use Rattle.stack_recovery.proofs.skimming.skim_by.Given as goal

-- the sectors before this one were read or left
abbrev pub invariant-pieces : goal.invariant-pieces
invariant-pieces g l = record {
  so_far : IsSkimming g.O.BlockDev.state (DeviceDoes g.O.BlockDev.state g.O.BlockDev.does) (skipping_of l.fn.pass) (marks_ahead l.fn.ahead) l.fn.pass.device.0 (transfer l.fn.stack l.fn.out) (transfer l.stack l.out) l.at l.map l.skip;
  called : CopiesLeaves g.D.BlockDev.state g.D.BlockDev.does (DeviceDoes g.O.BlockDev.state g.O.BlockDev.does) (marks_ahead l.fn.ahead) l.fn.pass.device.0 l.fn.stack l.fn.out l.at (ahead 0 0) l.stack l.out;
  ahead : drop l.at (marks_ahead l.fn.ahead) ≡ marks_ahead l.ahead;
  config : l.stack.config ≡ l.fn.stack.config;
  within : l.at ≤ l.sectors;
  all : l.sectors ≡ size l.fn.stack.config (mapped l.fn.pass.device.0);
  few : l.sectors ≤ 2 ^ 54;
  unfailed : (g.O.BlockDev.state l.out).failures ≡ (g.O.BlockDev.state l.fn.out).failures;
}

abbrev pub decreases-pieces : goal.decreases-pieces
decreases-pieces g l = l.sectors - l.at
