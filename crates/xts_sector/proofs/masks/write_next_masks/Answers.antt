use Rattle.std.proofs.Common.{◌≡◌, ℕ, ◌+◌, ◌-◌, ◌*◌, ◌<◌, length, sym, ap, ◌∙◌, arith, refl}
use Rattle.aes_block.specs.Blocks.{block}
use Rattle.aes_block.proofs.lemmas.BlockLemmas.{joined-same, length-joined}
use Rattle.aes_block.proofs.lemmas.PartLemmas.{IsWrittenTo-none, IsWrittenTo-more}
use Rattle.xts_sector.specs.Tweak.{times_alpha_power}
use Rattle.xts_sector.proofs.TweakLemmas.{length-times_alpha_power}
use Rattle.xts_sector.proofs.BlockLemmas.{block-part}
use Rattle.xts_sector.proofs.MaskLemmas.{length-block, block-front, block-rest}
use Rattle.xts_sector.proofs.masks.write_next_masks.Goals as goal

pub loop-i-init : goal.loop-i-init
loop-i-init c = IsWrittenTo-none 16 (λ j. times_alpha_power 8 (block c.args.masks.now (24 + j))) c.args.masks.now

pub loop-i-preserved : goal.loop-i-preserved
loop-i-preserved c =
    let old = c.args.masks.now in
    let now = c.loop-i.masks in
    let i = c.loop-i.i in
    let m : ℕ = 2 * i in
    let a : ℕ = 32 * i in
    let k : ℕ = a + 32 - a in
    let at : a ≡ 16 * m = omega arith in
    let wide : k ≡ 16 * 2 = omega arith in
    let next : m + 2 ≡ 2 * (i + 1) = omega arith in
    let part = λ (j : ℕ). times_alpha_power 8 (block old (24 + j)) in
    let products = joined-same _ (λ j. part (m + j)) 2 (λ j h.
    let to : m + 24 + j ≡ 24 + (m + j) = omega arith in
    ap (times_alpha_power 8) (block-part now now (m + 24) 2 (a + 384) (a + 416 - (a + 384)) j (omega arith) (omega arith) refl h ∙ block-rest old now m (m + 24 + j) c.loop-i.invariant.rest (omega arith) ∙ ap (block old) to)) in
    let out = c.write_two_masks.ensures ∙ c.two_products-two.ensures ∙ products in
    let long = λ (j : ℕ) (h : j < 2). length-times_alpha_power 8 (block old (24 + (m + j))) (length-block old (24 + (m + j)) (omega (arith, h, c.told-masks))) in
    let out_long : length c.write_two_masks.new.masks ≡ k = ap length out ∙ length-joined (λ j. part (m + j)) 2 long ∙ sym wide in
    rw (← next) (IsWrittenTo-more 16 part old now c.write_two_masks.new.masks m 2 a k at wide (omega arith) out out_long c.loop-i.invariant)

pub returns : goal.returns
returns c j h =
    let old = c.args.masks.now in
    let done : 2 * c.loop-i.i ≡ 8 = omega arith in
    block-front (λ j. times_alpha_power 8 (block old (24 + j))) c.loop-i.masks (2 * c.loop-i.i) j
    (λ j below. length-times_alpha_power 8 (block old (24 + j)) (length-block old (24 + j) (omega (arith, below, done, c.told-masks)))) c.loop-i.invariant.front (omega (arith, h, done))
