use Rattle.std.proofs.Common.{take}
use Rattle.std.specs.Io.KnownBytes.{Appends}
use Rattle.partition_commands.specs.Lines.{partition_lines}
use Rattle.partition_commands.proofs.print.say_partitions.Given as goal

-- the lines so far were written
abbrev pub invariant-loop-partition : goal.invariant-loop-partition
invariant-loop-partition g l = Appends (g.W.Write.contents l.initial.writer.inner) (g.W.Write.contents l.writer.inner) (partition_lines (take l.partition-index l.partitions))
