use Rattle.std.proofs.Common.{ap, ◌∙◌, Some, map}
use Rattle.dm_table.specs.declared.table.Line.{Line}
use Rattle.stack_rules.specs.declared.lower.Lower.{Lower}
use Rattle.stack_rules.specs.Descend.{by_name}
use Rattle.stack_rules.proofs.lemmas.NameMeaningLemmas.{row-at}
use Rattle.linux_rules.specs.Blocks.{block_in, line_block, table_block}
use Rattle.linux_rules.proofs.GreatestLemmas.{greatest_more, greatest_all, ord_max-nat}
use Rattle.linux_rules.proofs.block.table_block.Goals as goal

pub loop-i-preserved : goal.loop-i-preserved
loop-i-preserved c = λ c' means.
    let row = row-at c' c.args.rows.now c.args.lines.now c.loop-i.i c.index-lines-i.result c.index-rows-i.result means c.loop-i-test.true c.index-lines-i.is c.index-rows-i.is in
    let block = c.line_block.ensures.value c' (ap (map (λ (lower : Lower). Some lower)) c.as_slice.ensures ∙ row) in
    rw (c.max-largest.ensures, ord_max-nat)
    (greatest_more (λ (line : Line). line_block (by_name c' 0 (block_in c.args.blocks.now)) line.target) c.args.lines.now c.loop-i.i c.loop-i.largest c.index-lines-i.result c.line_block.result
    (table_block c' (block_in c.args.blocks.now) c.args.lines.now) c.loop-i-test.true c.index-lines-i.is block (c.loop-i.invariant c' means))

pub returns : goal.returns
returns c = λ c' means.
    greatest_all (λ (line : Line). line_block (by_name c' 0 (block_in c.args.blocks.now)) line.target) c.args.lines.now c.loop-i.i c.loop-i.largest
    (table_block c' (block_in c.args.blocks.now) c.args.lines.now) c.loop-i-test.false (c.loop-i.invariant c' means)
