use Rattle.std.proofs.Common.{◌∙◌, ap, arith}
use Rattle.stack_rules.proofs.lemmas.ValidLineLemmas.{few}
use Rattle.linux_rules.specs.Blocks.{block_in, table_block}
use Rattle.linux_rules.proofs.BlockLemmas.{settles_none, settles_all, settles_more}
use Rattle.linux_rules.proofs.block.settle.Goals as goal

pub loop-d-init : goal.loop-d-init
loop-d-init c = λ k are. settles_none c.args.config.now k c.args.blocks.now are

pub loop-d-preserved : goal.loop-d-preserved
loop-d-preserved c = λ k are.
    let config = c.args.config.now in
    let lines = c.lines-lines.ensures.value ∙ c.table.ensures in
    settles_more config c.count-d-end.ensures.loaded.valid k c.loop-d.d c.table_block-block.result c.loop-d.blocks
    (omega (arith, c.loop-d.auto.blocks, c.requires)) (omega (arith, c.loop-d.auto.blocks, c.requires, c.loop-d-test.true, c.count-d-end.ensures.value))
    (c.table_block-block.ensures config (rw lines c.rows.ensures) ∙ ap (table_block config (block_in c.loop-d.blocks)) lines)
    (c.loop-d.invariant k are)

pub returns : goal.returns
returns c = λ k are. settles_all c.args.config.now k c.loop-d.d c.loop-d.blocks (omega (arith, c.loop-d-test.false, c.loop-d.auto.blocks, c.requires, c.count-d-end.ensures.value)) (c.loop-d.invariant k are)

pub overflow_cast-device : goal.overflow_cast-device
overflow_cast-device c = omega (arith, few c.args.config.now c.count-d-end.ensures.loaded.valid, c.loop-d-test.true, c.count-d-end.ensures.value)
