use Rattle.std.proofs.Common.{◌≡◌, ◌-◌, suc, arith}
use Rattle.tree_path.proofs.unused.digests_in.Goals as goal

pub returns-then-level-eq0 : goal.returns-then-level-eq0
returns-then-level-eq0 c = rw c.if-level-eq0.true c.blocks-blocks.ensures.value

pub returns : goal.returns
returns c =
    let some : c.args.level ≡ suc (c.args.level - 1) = omega (arith, c.if-level-eq0.false) in
    rw some c.level_blocks.ensures.value
