use Rattle.std.proofs.Common.{drop, find}
use Rattle.partition_commands.specs.Signatures.{ReadsOff, is_signature}
use Rattle.partition_commands.proofs.signatures.find_signature.Given as goal

-- what is sought is found among the partitions that are left, or nowhere
abbrev pub invariant-loop-partition : goal.invariant-loop-partition
invariant-loop-partition g l =
    ReadsOff (g.D.BlockDev.state l.fn.device) (g.D.BlockDev.state l.device) (find (is_signature (g.D.BlockDev.state l.fn.device) l.size l.root) l.partitions)
    (find (is_signature (g.D.BlockDev.state l.fn.device) l.size l.root) (drop l.partition-index l.partitions))
