use Rattle.std.proofs.Common.{◌≡◌, ℕ, ◌*◌, ◌/◌, ◌-◌, ◌+◌, ◌<◌, ◌≤◌, length, min, ap, ◌∙◌, arith}
use Rattle.aes_block.specs.Blocks.{block, joined}
use Rattle.aes_block.proofs.lemmas.PartLemmas.{IsWrittenTo-none, IsWrittenTo-all}
use Rattle.xts_sector.specs.Tweak.{times_alpha_power}
use Rattle.xts_sector.specs.Xts.{decrypted_block, encrypted_block, decrypted_blocks, encrypted_blocks}
use Rattle.xts_sector.proofs.MaskLemmas.{HoldMasks-next}
use Rattle.xts_sector.proofs.XtsLemmas.{length-decrypted_block, part_written, part_undone, encrypted_blocks-decrypted_blocks}
use Rattle.xts_sector.proofs.decryption.decrypt_blocks.Goals as goal
use Rattle.xts_sector.proofs.decryption.decrypt_blocks.Goals.{After-loop-i}

pub loop-i-init : goal.loop-i-init
loop-i-init c =
    let none : min (32 * 0) (length c.args.unit.now / 16) ≡ 0 = omega arith in
    record {
      masks = λ some. absurd (omega (arith, some));
      written = rw none (IsWrittenTo-none 16 (λ j. decrypted_block c.args.key.now (times_alpha_power j c.args.first.now) (block c.args.unit.now j)) c.args.unit.now);
      undone = λ j h. absurd (omega (arith, h, none));
    }

pub loop-i-preserved : goal.loop-i-preserved
unfolding decrypted_blocks
loop-i-preserved c =
    let key = c.args.key.now in
    let first = c.args.first.now in
    let old = c.args.unit.now in
    let now = c.loop-i.unit in
    let i = c.loop-i.i in
    let so_far = c.loop-i.invariant in
    let total = length old / 16 in
    let m = min (32 * i) total in
    let n = min (32 * (i + 1)) total - m in
    let k = c.min-end.result - 512 * i in
    let inside : 512 * i < length old = omega (arith, c.div_ceil-i-end.ensures, c.loop-i-test.true) in
    let at : 512 * i ≡ 16 * m = omega (arith, inside, c.requires) in
    let wide : k ≡ 16 * n = omega (arith, inside, c.min-end.ensures, c.requires, c.loop-i.auto.unit) in
    let next : m + n ≡ min (32 * (i + 1)) total = omega arith in
    let fits : 512 * i + k ≤ length now = omega (arith, inside, c.min-end.ensures, c.loop-i.auto.unit) in
    let masks = c.make_masks.new.masks in
    let held = c.make_masks.ensures so_far.masks in
    let mask = λ (j : ℕ) (h : j < n). held j (omega (arith, h)) ∙ ap (λ x. times_alpha_power (x + j) first) (let e : 32 * i ≡ m = omega (arith, at) in e) in
    let out = c.decrypt_part.new.blocks in
    record {
      masks = λ _. HoldMasks-next first masks i held;
      written = rw (← next) (part_written (decrypted_block key) masks first old now m n (512 * i) k at wide fits mask (length-decrypted_block key) out c.decrypt_part.ensures.value so_far.written);
      undone = λ j h. part_undone (decrypted_block key) masks first old now m n (512 * i) k at wide fits mask (encrypted_block key) so_far.written.rest c.decrypt_part.ensures.inverse so_far.undone j (omega (arith, h, next));
    }

-- the unit that is left
unit_is : (c : After-loop-i) → c.loop-i.unit ≡ decrypted_blocks c.args.key.now (λ j. times_alpha_power j c.args.first.now) c.args.unit.now
unfolding decrypted_blocks
unit_is c =
    let old = c.args.unit.now in
    let all = λ (j : ℕ). decrypted_block c.args.key.now (times_alpha_power j c.args.first.now) (block old j) in
    let done : min (32 * c.loop-i.i) (length old / 16) ≡ length old / 16 = omega (arith, c.div_ceil-i-end.ensures, c.loop-i-test.false, c.requires) in
    IsWrittenTo-all 16 all old c.loop-i.unit (min (32 * c.loop-i.i) (length old / 16)) (omega (arith, done, c.requires, c.loop-i.auto.unit)) c.loop-i.invariant.written ∙ ap (joined all) done

pub returns-clause-value : goal.returns-clause-value
returns-clause-value c = unit_is c

pub returns-clause-inverse : goal.returns-clause-inverse
returns-clause-inverse c =
    let key = c.args.key.now in
    let old = c.args.unit.now in
    let tweaks = λ (j : ℕ). times_alpha_power j c.args.first.now in
    let done : min (32 * c.loop-i.i) (length old / 16) ≡ length old / 16 = omega (arith, c.div_ceil-i-end.ensures, c.loop-i-test.false, c.requires) in
    ap (encrypted_blocks key tweaks) (unit_is c)
    ∙ encrypted_blocks-decrypted_blocks key tweaks old c.requires (λ j h. c.loop-i.invariant.undone j (omega (arith, h, done)))
