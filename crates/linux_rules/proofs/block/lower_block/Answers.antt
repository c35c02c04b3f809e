use Rattle.linux_rules.specs.Blocks.{block_in}
use Rattle.linux_rules.proofs.LineLemmas.{lower_block-verity, lower_block-plain}
use Rattle.linux_rules.proofs.block.lower_block.Goals as goal

pub returns-in-Some-clause-value : goal.returns-in-Some-clause-value
returns-in-Some-clause-value c = λ c' means.
    rw (c.max.ensures, c.block_at.ensures) (lower_block-verity c' (block_in c.args.blocks.now) c.args.lowers.now c.args.target.now _ c.in-Some.ensures means)

pub returns-clause-value : goal.returns-clause-value
returns-clause-value c = λ c' means.
    rw (c.max-2.ensures, c.largest_block.ensures) (lower_block-plain c' (block_in c.args.blocks.now) c.args.lowers.now c.args.target.now c.in-None.ensures means)
