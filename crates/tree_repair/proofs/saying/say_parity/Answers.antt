use Rattle.std.proofs.Common.{◌≡◌, ◌-◌, suc, arith}
use Rattle.tree_repair.proofs.saying.say_parity.Goals as goal

pub returns-then-height-eq0 : goal.returns-then-height-eq0
returns-then-height-eq0 g c = rw c.if-height-eq0.true c.say_data_parity.ensures

pub returns : goal.returns
returns g c =
    let some : c.args.place.height ≡ suc (c.args.place.height - 1) = omega (arith, c.if-height-eq0.false) in
    rw some (rw c.block_on_path-block.ensures.value at c.say_hash_parity.ensures)
