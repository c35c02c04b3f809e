use Rattle.std.proofs.Common.{◌≡◌, ◌/◌, ◌+◌, ℕ, length, get_or, map, arith, ap, subst}
use Rattle.tree_repair.specs.Sources.{AreIn, IsWithout, wanted}
use Rattle.tree_repair.proofs.BillLemmas.{so_far-next, so_far-none}
use Rattle.tree_repair.proofs.SourceLemmas.{each-next, each-none, in-here, not-in-next}
use Rattle.tree_repair.proofs.seeking.seek_copies.Goals as goal

pub copies-init : goal.copies-init
copies-init g c = record { read = each-none (map g.C.BlockDev.state c.args.copies.now); asked = so_far-none (map g.C.BlockDev.state c.args.copies.now) _; none = λ j low d. absurd (omega (arith, low)) }

pub returns-then-has-clause-read : goal.returns-then-has-clause-read
returns-then-has-clause-read g c =
    each-next g.C.BlockDev.state (map g.C.BlockDev.state c.args.copies.now) c.copies.copies c.copies.k c.index-copies-k.result c.has.new.device (omega arith) c.copies.invariant.read c.has.ensures.read c.has.ensures.counted

pub returns-then-has-clause-found : goal.returns-then-has-clause-found
returns-then-has-clause-found g c =
    let long : length c.copies.block / 512 ≡ length c.args.block.now / 512 = ap (λ (n : ℕ). n / 512) c.copies.auto.block in
    subst (λ (n : ℕ). AreIn (map g.C.BlockDev.state c.args.copies.now) c.args.first (wanted c.args.salt.now c.args.digest.now n) (c.copies.k + 1) c.has.new.block) long
    (in-here g.C.BlockDev.state (map g.C.BlockDev.state c.args.copies.now) c.copies.copies c.copies.k c.index-copies-k.result c.has.new.device (omega arith) c.copies.invariant.read
    c.args.first (wanted c.args.salt.now c.args.digest.now (length c.copies.block / 512)) c.has.new.block (c.has.ensures.good c.if-has.true))

pub copies-preserved : goal.copies-preserved
copies-preserved g c =
    let long : length c.copies.block / 512 ≡ length c.args.block.now / 512 = ap (λ (n : ℕ). n / 512) c.copies.auto.block in
    let old = map g.C.BlockDev.state c.args.copies.now in
    record {
      read = each-next g.C.BlockDev.state old c.copies.copies c.copies.k c.index-copies-k.result c.has.new.device (omega arith) c.copies.invariant.read c.has.ensures.read c.has.ensures.counted;
      asked = so_far-next g.C.BlockDev.state old (length c.args.block.now / 512) c.copies.copies c.copies.k c.index-copies-k.result c.has.new.device (omega arith) c.copies.invariant.asked (rw long at c.has.ensures.asked);
      none = not-in-next g.C.BlockDev.state old c.copies.copies c.copies.k c.index-copies-k.result c.has.new.device (omega arith) c.copies.invariant.read
          c.args.first (wanted c.args.salt.now c.args.digest.now (length c.args.block.now / 512)) c.has.ensures.counted c.copies.invariant.none
          (subst (λ (n : ℕ). IsWithout (g.C.BlockDev.state (get_or c.copies.copies c.copies.k c.index-copies-k.result)) c.args.first (wanted c.args.salt.now c.args.digest.now n) (g.C.BlockDev.state c.has.new.device)) long (c.has.ensures.none c.if-has.false));
    }

pub returns-then-has-clause-asked : goal.returns-then-has-clause-asked
returns-then-has-clause-asked g c =
    let long : length c.copies.block / 512 ≡ length c.args.block.now / 512 = ap (λ (n : ℕ). n / 512) c.copies.auto.block in
    (so_far-next g.C.BlockDev.state (map g.C.BlockDev.state c.args.copies.now) (length c.args.block.now / 512) c.copies.copies c.copies.k c.index-copies-k.result c.has.new.device (omega arith) c.copies.invariant.asked (rw long at c.has.ensures.asked)).read

pub returns-clause-asked : goal.returns-clause-asked
returns-clause-asked g c = c.copies.invariant.asked.read
