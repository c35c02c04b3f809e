use Rattle.std.proofs.Common.{refl}
use Rattle.linux_rules.specs.Blocks.{block_in}
use Rattle.linux_rules.proofs.LineLemmas.{small-is}
use Rattle.linux_rules.proofs.lines.has_small_block.Goals as goal

pub returns-in-Some : goal.returns-in-Some
returns-in-Some c = λ c' means.
    rw (c.are_smaller.ensures, c.block_at-data_block.ensures, c.block_at-hash_block.ensures) (small-is c' (block_in c.args.blocks.now) c.args.lowers.now c.args.target.now c.in-Some.verity.now c.in-Some.ensures means)

pub returns : goal.returns
returns c = λ c' means. rw (← c.in-None.ensures) refl
