use Rattle.std.proofs.Common.{◌≡◌, ℕ, ◌+◌, ◌-◌, ◌*◌, ◌/◌, length, take, drop, sym, ap, ◌∙◌, refl, arith}
use Rattle.aes_block.specs.Blocks.{block, joined}
use Rattle.aes_block.proofs.lemmas.BlockLemmas.{joined-same, length-joined}
use Rattle.aes_block.proofs.lemmas.PartLemmas.{IsWrittenTo-none, IsWrittenTo-more, IsWrittenTo-all}
use Rattle.xts_sector.specs.Blocks.{add_blocks}
use Rattle.xts_sector.proofs.BlockLemmas.{length-add_blocks, block-part}
use Rattle.xts_sector.proofs.masks.add_masks.Goals as goal

pub loop-i-init : goal.loop-i-init
loop-i-init c = IsWrittenTo-none 16 (λ j. add_blocks (block c.args.blocks.now j) (block c.args.masks.now j)) c.args.blocks.now

pub loop-i-preserved : goal.loop-i-preserved
loop-i-preserved c =
    let old = c.args.blocks.now in
    let masks = c.args.masks.now in
    let now = c.loop-i.blocks in
    let sums = λ (j : ℕ). add_blocks (block old j) (block masks j) in
    let i = c.loop-i.i in
    let m : ℕ = 2 * i in
    let a : ℕ = 32 * i in
    let k : ℕ = a + 32 - a in
    let at : a ≡ 16 * m = omega arith in
    let wide : k ≡ 16 * 2 = omega arith in
    let next : m + 2 ≡ 2 * (i + 1) = omega arith in
    let parts = joined-same _ (λ j. sums (m + j)) 2 (λ j h.
    let here = block-part old now m 2 a k j at wide c.loop-i.invariant.rest h in
    let mask = block-part masks masks m 2 a k j at wide refl h in
    cc (here, mask)) in
    let out = c.add_two_masks.ensures ∙ parts in
    let long : length c.add_two_masks.new.blocks ≡ k = ap length out ∙ length-joined (λ j. sums (m + j)) 2 (λ j h. length-add_blocks (block old (m + j)) (block masks (m + j))) ∙ sym wide in
    rw (← next) (IsWrittenTo-more 16 sums old now c.add_two_masks.new.blocks m 2 a k at wide (omega arith) out long c.loop-i.invariant)

pub loop-j-init : goal.loop-j-init
loop-j-init c =
    let done : 2 * c.loop-i.i ≡ 2 * (length c.args.blocks.now / 32) = omega arith in
    rw (← done) c.loop-i.invariant

pub loop-j-preserved : goal.loop-j-preserved
unfolding joined
loop-j-preserved c =
    let old = c.args.blocks.now in
    let masks = c.args.masks.now in
    let now = c.loop-j.blocks in
    let sums = λ (j : ℕ). add_blocks (block old j) (block masks j) in
    let m = c.loop-j.j in
    let a : ℕ = 16 * m in
    let k : ℕ = a + 16 - a in
    let wide : k ≡ 16 * 1 = omega arith in
    let none : m ≡ m + 0 = omega arith in
    let place = ap (λ n. take n (drop a now)) wide ∙ ap (take 16) c.loop-j.invariant.rest in
    let mask = ap (λ n. take n (drop a masks)) wide in
    let out : c.add_mask.new.block ≡ sums (m + 0) = c.add_mask.ensures ∙ cc (place, mask) ∙ ap sums none in
    let long : length c.add_mask.new.block ≡ k = ap length out ∙ length-add_blocks (block old (m + 0)) (block masks (m + 0)) ∙ sym wide in
    IsWrittenTo-more 16 sums old now c.add_mask.new.block m 1 a k refl wide (omega arith) out long c.loop-j.invariant

pub returns : goal.returns
returns c =
    let sums = λ (j : ℕ). add_blocks (block c.args.blocks.now j) (block c.args.masks.now j) in
    let done : c.loop-j.j ≡ length c.args.blocks.now / 16 = omega arith in
    IsWrittenTo-all 16 sums c.args.blocks.now c.loop-j.blocks c.loop-j.j (omega arith) c.loop-j.invariant ∙ ap (joined sums) done
