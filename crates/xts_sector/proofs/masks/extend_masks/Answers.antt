use Rattle.std.proofs.Common.{◌≡◌, ℕ, ◌+◌, ◌-◌, ◌*◌, length, sym, ap, ◌∙◌, arith, refl}
use Rattle.aes_block.proofs.lemmas.BlockLemmas.{joined-same, length-joined}
use Rattle.aes_block.proofs.lemmas.PartLemmas.{IsWrittenTo-more}
use Rattle.xts_sector.specs.Tweak.{times_alpha_power}
use Rattle.xts_sector.proofs.BlockLemmas.{block-part}
use Rattle.xts_sector.proofs.MaskLemmas.{block-front, extended, length-extended, extended-more, extended-none, extended-all}
use Rattle.xts_sector.proofs.masks.extend_masks.Goals as goal

pub loop-i-init : goal.loop-i-init
loop-i-init c = extended-none c.args.masks.now c.told-masks

pub loop-i-preserved : goal.loop-i-preserved
loop-i-preserved c =
    let old = c.args.masks.now in
    let now = c.loop-i.masks in
    let i = c.loop-i.i in
    let m : ℕ = 8 + 2 * i in
    let a : ℕ = 32 * i + 128 in
    let k : ℕ = 32 * i + 160 - a in
    let at : a ≡ 16 * m = omega arith in
    let wide : k ≡ 16 * 2 = omega arith in
    let next : m + 2 ≡ 8 + 2 * (i + 1) = omega arith in
    let long = λ (j : ℕ). length-extended old j c.told-masks in
    let products = joined-same _ (λ j. extended old (m + j)) 2 (λ j h.
    let to : 8 + (2 * i + j) ≡ m + j = omega arith in
    ap (times_alpha_power 8) (block-part now now (2 * i) 2 (32 * i) (32 * i + 32 - 32 * i) j (omega arith) (omega arith) refl h ∙ block-front (extended old) now m (2 * i + j) (λ j _. long j) c.loop-i.invariant.front (omega (arith, h)))
    ∙ extended-more old (2 * i + j) ∙ ap (extended old) to) in
    let out = c.write_two_masks.ensures ∙ c.two_products-two.ensures ∙ products in
    let out_long : length c.write_two_masks.new.masks ≡ k = ap length out ∙ length-joined (λ j. extended old (m + j)) 2 (λ j h. long (m + j)) ∙ sym wide in
    rw (← next) (IsWrittenTo-more 16 (extended old) old now c.write_two_masks.new.masks m 2 a k at wide (omega arith) out out_long c.loop-i.invariant)

pub returns : goal.returns
returns c = extended-all c.args.masks.now c.loop-i.masks (8 + 2 * c.loop-i.i) c.told-masks (omega arith) c.loop-i.invariant
