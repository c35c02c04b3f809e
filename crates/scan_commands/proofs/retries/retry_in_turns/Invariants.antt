use Rattle.std.proofs.Common.{◌-◌, ◌≤◌, option_map}
use Rattle.stack_rules.specs.Names.{mapped, size}
use Rattle.stack_recovery.specs.PassPieces.{scanned}
use Rattle.scan_commands.specs.Retries.{Steps}
use Rattle.scan_commands.specs.MapFiles.{map_path_of}
use Rattle.scan_commands.specs.Passes.{LeavesPassing}
use Rattle.scan_commands.specs.PassesInTurns.{IsSilentTurns, after_turns}
use Rattle.scan_commands.specs.Turns.{kept}
use Rattle.scan_commands.proofs.retries.retry_in_turns.Given as goal

-- the passes so far, and what the next one needs
abbrev pub invariant-passes : goal.invariant-passes
invariant-passes g l = record {
  steps : Steps (IsSilentTurns (kept g.I.Images.relations.replaces (option_map map_path_of l.fn.file) (scanned l.fn.passing.device.0 l.fn.passing.no_scrape) (size l.fn.passing.stack.config (mapped l.fn.passing.device.0))))
      (after_turns l.fn.images l.fn.passing.stack (g.O.BlockDev.state l.fn.passing.out) l.fn.map) l.passes (after_turns l.images l.passing.stack (g.O.BlockDev.state l.passing.out) l.left);
  few : l.passes ≤ l.retries;
  left : LeavesPassing g.O.BlockDev.state l.fn.passing l.passing l.left;
}

abbrev pub decreases-passes : goal.decreases-passes
decreases-passes g l = l.retries - l.passes
