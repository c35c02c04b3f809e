use Rattle.std.proofs.Common.{◌≡◌, take}
use Rattle.std.specs.Io.KnownBytes.{Appends}
use Rattle.partition_commands.specs.Warnings.{end_warnings}
use Rattle.partition_commands.proofs.warnings.say_ends.Given as goal

-- the lines so far were written
abbrev pub invariant-loop-partition : goal.invariant-loop-partition
invariant-loop-partition g l = record {
  written : Appends (g.W.Write.contents l.initial.writer.inner) (g.W.Write.contents l.writer.inner) (end_warnings (g.D.BlockDev.state l.device) l.size (take l.partition-index l.partitions));
  kept : l.writer.failed ≡ l.initial.writer.failed;
}
