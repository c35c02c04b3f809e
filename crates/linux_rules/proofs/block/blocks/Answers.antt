use Rattle.std.proofs.Common.{◌≡◌, ◌∙◌, sym, ap, subst, List, ℕ, length, arith}
use Rattle.std.proofs.lemmas.List.{length-replicate}
use Rattle.linux_rules.specs.Blocks.{AreBlocks}
use Rattle.linux_rules.proofs.BlockLemmas.{blocks-none, blocks-all, taken}
use Rattle.linux_rules.proofs.block.blocks.Goals as goal

pub loop-depth-init : goal.loop-depth-init
loop-depth-init c = (ap length c.in_ok-blocks.ensures.ok ∙ length-replicate c.count.result 0 ∙ c.count.ensures.value, blocks-none c.args.config.now c.in_ok-blocks.blocks.items)

pub loop-depth-preserved : goal.loop-depth-preserved
loop-depth-preserved c =
    let count : length c.settle.new.blocks ≡ length c.args.config.now.devices = c.settle.auto.blocks ∙ ap length c.as_mut_slice.ensures.value ∙ c.loop-depth.invariant.0 in
    let long : length c.settle.new.blocks ≡ c.loop-depth.blocks.len = c.settle.auto.blocks ∙ ap length c.as_mut_slice.ensures.value ∙ sym c.loop-depth.blocks.ok.0 in
    rw taken (count, c.settle.ensures c.loop-depth._depth (let P : List ℕ → Type 0 = λ blocks. AreBlocks c.args.config.now c.loop-depth._depth blocks in subst P (sym c.as_mut_slice.ensures.value) c.loop-depth.invariant.1))

pub settle-requires : goal.settle-requires
settle-requires c = ap length c.as_mut_slice.ensures.value ∙ c.loop-depth.invariant.0

pub returns-clause-ok : goal.returns-clause-ok
returns-clause-ok c = blocks-all c.args.config.now c.count.ensures.loaded.valid c.loop-depth._depth c.loop-depth.blocks.items c.loop-depth.invariant.0 (omega (arith, c.loop-depth-test.false)) c.loop-depth.invariant.1

pub returns-clause-count : goal.returns-clause-count
returns-clause-count c = c.loop-depth.invariant.0
