use Rattle.std.proofs.Common.{inl, map, refl}
use Rattle.tree_repair.proofs.CopyReadLemmas.{copy-once}
use Rattle.tree_repair.proofs.SourceLemmas.{each-next, each-none}
use Rattle.tree_repair.proofs.large_reads.read_slice.Goals as goal

pub returns-then-not-has_copy-clause-read : goal.returns-then-not-has_copy-clause-read
returns-then-not-has_copy-clause-read g c = each-none (map g.C.BlockDev.state c.args.copies.now)

pub returns-then-not-has_copy-clause-once : goal.returns-then-not-has_copy-clause-once
returns-then-not-has_copy-clause-once g c = inl refl

pub returns-clause-read : goal.returns-clause-read
returns-clause-read g c =
    let old = map g.C.BlockDev.state c.args.copies.now in
    each-next g.C.BlockDev.state old c.args.copies.now c.args.k c.index-copies-k.result c.read_inside.new.device (c.has_copy.ensures c.if-not-has_copy.false) (each-none old) c.read_inside.ensures.read c.read_inside.ensures.counted

pub returns-clause-once : goal.returns-clause-once
returns-clause-once g c =
    copy-once g.C.BlockDev.state g.C.BlockDev.does c.args.copies.now c.args.k c.index-copies-k.result c.read_inside.new.device c.args.first c.read_inside.new.bytes (c.has_copy.ensures c.if-not-has_copy.false)
    c.read_inside.ensures.called
