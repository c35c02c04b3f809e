use Rattle.std.proofs.Common.{sym, ◌∙◌}
use Rattle.partition_commands.proofs.SignatureLemmas.{held-failed, held-inside, held-not, held-read}
use Rattle.partition_commands.proofs.signatures.is_signature.Goals as goal

pub read-requires : goal.read-requires
read-requires g c = held-inside (g.D.BlockDev.state c.args.device.now) c.part_of-part.result c.args.partition.now.kind (sym c.may_hold.ensures ∙ c.if-not-may_hold.false)

pub returns-then-not-may_hold : goal.returns-then-not-may_hold
returns-then-not-may_hold g c =
    held-not (g.D.BlockDev.state c.args.device.now) c.args.size c.args.root.now c.args.partition.now (rw c.part_of-part.ensures at (sym c.may_hold.ensures ∙ c.if-not-may_hold.true))

pub returns-in-Ok : goal.returns-in-Ok
returns-in-Ok g c =
    held-read (g.D.BlockDev.state c.args.device.now) (g.D.BlockDev.state c.read.new.self) c.args.size c.args.root.now c.args.partition.now c.read.new.out c.names_root.result
    (rw c.part_of-part.ensures at (sym c.may_hold.ensures ∙ c.if-not-may_hold.false)) c.in-Ok.ensures.moved (rw c.part_of-part.ensures at c.in-Ok.ensures.bytes) c.names_root.ensures

pub returns-in-Err : goal.returns-in-Err
returns-in-Err g c = held-failed (g.D.BlockDev.state c.args.device.now) (g.D.BlockDev.state c.read.new.self) _ c.in-Err.ensures.moved c.in-Err.ensures.fault
