use Rattle.std.proofs.Common.{arith, [], get_or}
use Rattle.std.proofs.lemmas.List.{get_or_default}
use Rattle.partition_table.specs.declared.partition.Partition.{Partition}
use Rattle.partition_commands.proofs.SignatureLemmas.{seek-all, seek-next, seek-none}
use Rattle.partition_commands.proofs.signatures.find_signature.Goals as goal

pub loop-partition-init : goal.loop-partition-init
loop-partition-init g c = seek-none (g.D.BlockDev.state c.args.device.now) c.args.size c.args.root.now c.args.partitions.now

pub loop-partition-preserved : goal.loop-partition-preserved
loop-partition-preserved g c =
    let i = c.loop-partition.partition-index in
    let none : Partition = record { number = 0; kind = []; uuid = []; first = 0; last = 0; label = [] } in
    let here : Partition = get_or c.args.partitions.now i none in
    let next =
    seek-next (g.D.BlockDev.state c.args.device.now) (g.D.BlockDev.state c.loop-partition.device) (g.D.BlockDev.state c.is_signature.new.device) c.args.size c.args.root.now c.args.partitions.now i
    here c.is_signature.result c.loop-partition-test.true (get_or_default c.args.partitions.now i none here c.loop-partition-test.true) c.loop-partition.invariant c.is_signature.ensures
    in
    rw c.if-is_signature.false at next

pub returns-then-is_signature : goal.returns-then-is_signature
returns-then-is_signature g c =
    let i = c.loop-partition.partition-index in
    let none : Partition = record { number = 0; kind = []; uuid = []; first = 0; last = 0; label = [] } in
    let here : Partition = get_or c.args.partitions.now i none in
    let next =
    seek-next (g.D.BlockDev.state c.args.device.now) (g.D.BlockDev.state c.loop-partition.device) (g.D.BlockDev.state c.is_signature.new.device) c.args.size c.args.root.now c.args.partitions.now i
    here c.is_signature.result c.loop-partition-test.true (get_or_default c.args.partitions.now i none here c.loop-partition-test.true) c.loop-partition.invariant c.is_signature.ensures
    in
    rw c.if-is_signature.true at next

pub returns : goal.returns
returns g c =
    seek-all (g.D.BlockDev.state c.args.device.now) (g.D.BlockDev.state c.loop-partition.device) c.args.size c.args.root.now c.args.partitions.now c.loop-partition.partition-index (omega (arith, c.loop-partition-test.false))
    c.loop-partition.invariant
