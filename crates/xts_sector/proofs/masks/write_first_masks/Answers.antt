use Rattle.std.proofs.Common.{◌≡◌, ℕ, ◌+◌, ◌-◌, ◌*◌, ◌++◌, length, sym, ap, ◌∙◌, refl, arith}
use Rattle.aes_block.specs.Blocks.{joined}
use Rattle.aes_block.proofs.lemmas.BlockLemmas.{length-joined}
use Rattle.aes_block.proofs.lemmas.PartLemmas.{IsWrittenTo-none, IsWrittenTo-more}
use Rattle.xts_sector.specs.Tweak.{number_block, times_alpha, times_alpha_power}
use Rattle.xts_sector.proofs.TweakLemmas.{times_alpha_power_more, length-times_alpha_power, length-block_of}
use Rattle.xts_sector.proofs.MaskLemmas.{block-front}
use Rattle.xts_sector.proofs.masks.write_first_masks.Goals as goal

pub loop-i-init : goal.loop-i-init
loop-i-init c = record { tweak = refl; written = IsWrittenTo-none 16 (λ j. times_alpha_power j (number_block c.args.first)) c.args.masks.now }

pub loop-i-preserved : goal.loop-i-preserved
unfolding joined
loop-i-preserved c =
    let first = number_block c.args.first in
    let tweaks = λ (j : ℕ). times_alpha_power j first in
    let i = c.loop-i.i in
    let m : ℕ = 2 * i in
    let a : ℕ = 32 * i in
    let k : ℕ = a + 32 - a in
    let at : a ≡ 16 * m = omega arith in
    let wide : k ≡ 16 * 2 = omega arith in
    let next : m + 2 ≡ 2 * (i + 1) = omega arith in
    let so_far = c.loop-i.invariant in
    let same : m ≡ m + 0 = omega arith in
    let second : number_block c.times_alpha-second.result ≡ tweaks (m + 1) = c.times_alpha-second.ensures ∙ ap times_alpha so_far.tweak ∙ sym (times_alpha_power_more m first) in
    let later : m + 1 + 1 ≡ 2 * (i + 1) = omega arith in
    let out : c.write_two_tweaks.new.masks ≡ joined (λ j. tweaks (m + j)) 2 =
    c.write_two_tweaks.ensures ∙ ap (λ xs. xs ++ number_block c.times_alpha-second.result) (so_far.tweak ∙ ap tweaks same) ∙ ap (λ xs. tweaks (m + 0) ++ xs) second in
    let out_long : length c.write_two_tweaks.new.masks ≡ k = ap length out ∙ length-joined (λ j. tweaks (m + j)) 2 (λ j h. length-times_alpha_power (m + j) first (length-block_of c.args.first)) ∙ sym wide in
    record {
      tweak = c.times_alpha-tweak.ensures ∙ ap times_alpha second ∙ sym (times_alpha_power_more (m + 1) first) ∙ ap tweaks later;
      written = rw (← next) (IsWrittenTo-more 16 tweaks c.args.masks.now c.loop-i.masks c.write_two_tweaks.new.masks m 2 a k at wide (omega arith) out out_long so_far.written);
    }

pub returns : goal.returns
returns c j h =
    let first = number_block c.args.first in
    let done : 2 * c.loop-i.i ≡ 8 = omega arith in
    block-front (λ j. times_alpha_power j first) c.loop-i.masks (2 * c.loop-i.i) j (λ j _. length-times_alpha_power j first (length-block_of c.args.first)) c.loop-i.invariant.written.front (omega (arith, h, done))
