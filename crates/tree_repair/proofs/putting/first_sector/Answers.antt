use Rattle.std.proofs.Common.{◌≡◌, ◌-◌, suc, arith}
use Rattle.tree_repair.proofs.ParityLemmas.{inside-data, inside-hash, sector-data, sector-hash}
use Rattle.tree_repair.proofs.putting.first_sector.Goals as goal

pub returns-then-height-eq0-clause-value : goal.returns-then-height-eq0-clause-value
returns-then-height-eq0-clause-value c = sector-data c.args.repair.now.shape c.args.place.height c.args.place.index c.block_size.result c.if-height-eq0.true c.block_size.ensures

pub returns-then-height-eq0-clause-inside : goal.returns-then-height-eq0-clause-inside
returns-then-height-eq0-clause-inside c = inside-data c.args.repair.now.shape c.args.place.height c.args.place.index c.block_size.result c.if-height-eq0.true c.block_size.ensures c.requires.inside

pub returns-clause-value : goal.returns-clause-value
returns-clause-value c =
    let some : c.args.place.height ≡ suc (c.args.place.height - 1) = omega (arith, c.if-height-eq0.false) in
    sector-hash c.args.repair.now.shape c.args.place.height (c.args.place.height - 1) c.args.place.index c.block_size.result c.position.result some c.block_size.ensures
    (rw c.block_on_path-number.ensures.value at c.position.ensures.value)

pub returns-clause-inside : goal.returns-clause-inside
returns-clause-inside c =
    let some : c.args.place.height ≡ suc (c.args.place.height - 1) = omega (arith, c.if-height-eq0.false) in
    inside-hash c.args.repair.now.shape c.args.place.height (c.args.place.height - 1) c.block_size.result c.position.result some c.block_size.ensures c.position.ensures.inside
