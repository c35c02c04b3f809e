use Rattle.std.proofs.Common.{arith, inl, inr, refl}
use Rattle.std.specs.Prelude.{true, false}
use Rattle.verity_format.proofs.lemmas.DeviceLemmas.{only_read-none}
use Rattle.tree_repair.proofs.large_reads.read_inside.Goals as goal

pub read-requires : goal.read-requires
read-requires g c = record {
  some = c.is_inside.ensures.some c.if-not-is_inside.false;
  whole = c.is_inside.ensures.whole c.if-not-is_inside.false;
  inside = omega (arith, c.is_inside.ensures.inside c.if-not-is_inside.false, c.sectors-size.ensures.size);
}

pub returns-then-not-is_inside-clause-read : goal.returns-then-not-is_inside-clause-read
returns-then-not-is_inside-clause-read g c = only_read-none (g.C.BlockDev.state c.args.device.now)

pub returns-then-not-is_inside-clause-called : goal.returns-then-not-is_inside-clause-called
returns-then-not-is_inside-clause-called g c = inl refl

pub returns-in-Ok-clause-called : goal.returns-in-Ok-clause-called
returns-in-Ok-clause-called g c = inr (c.is_inside.ensures.low c.if-not-is_inside.false, (true, (c.read.new.self, c.in-Ok.ensures.call, refl)))

pub returns-in-Err-clause-called : goal.returns-in-Err-clause-called
returns-in-Err-clause-called g c = inr (c.is_inside.ensures.low c.if-not-is_inside.false, (false, (c.read.new.self, c.in-Err.ensures.call, refl)))
