use Rattle.std.proofs.Common.{◌≡◌, ℕ, ◌+◌, ◌-◌, ◌*◌, ◌/◌, ◌%◌, ◌<◌, ◌≤◌, length, min, sym, ap, ◌∙◌, arith}
use Rattle.std.proofs.Math.Nat.{mul-le-mul_left}
use Rattle.aes_block.specs.Blocks.{joined}
use Rattle.aes_block.proofs.lemmas.PartLemmas.{IsWrittenTo-none, IsWrittenTo-all}
use Rattle.xts_sector.specs.Units.{unit}
use Rattle.xts_sector.proofs.lemmas.UnitLemmas.{length-units}
use Rattle.stack_meaning.specs.Units.{decrypted_unit, decrypted_units}
use Rattle.stack_lines.proofs.UnitsAtOnceLemmas.{decrypted-more}
use Rattle.stack_lines.proofs.units.decrypt.Goals as goal

pub slice_bounds-run-end : goal.slice_bounds-run-end
slice_bounds-run-end c =
    let size = c.unit_bytes-size.result in
    let old = c.args.units.now in
    let whole = ap (λ (z : ℕ). length old % z) c.unit_bytes-size.ensures.value ∙ c.requires.whole in
    let count : ℕ = length old / size in
    let from : ℕ = 16 * c.loop-i.i in
    let room : size * (from + c.min-few.result) ≤ size * count = mul-le-mul_left size (omega (arith, c.min-few.ensures)) in
    omega (arith, room, length-units size old whole, c.loop-i.auto.units)

pub loop-i-init : goal.loop-i-init
loop-i-init c =
    let none : min (16 * 0) (length c.args.units.now / c.unit_bytes-size.result) ≡ 0 = omega arith in
    rw none (IsWrittenTo-none c.unit_bytes-size.result (λ j. decrypted_unit c.args.part.now.units c.args.part.now.key.now (c.args.k + j) (unit c.unit_bytes-size.result c.args.units.now j)) c.args.units.now)

pub loop-i-preserved : goal.loop-i-preserved
loop-i-preserved c =
    let x = c.args.part.now in
    let size = c.unit_bytes-size.result in
    let old = c.args.units.now in
    let whole = ap (λ (z : ℕ). length old % z) c.unit_bytes-size.ensures.value ∙ c.requires.whole in
    let now = c.loop-i.units in
    let count : ℕ = length old / size in
    let from : ℕ = 16 * c.loop-i.i in
    let few : ℕ = c.min-few.result in
    let begun : from < count = omega (arith, c.div_ceil-i-end.ensures, c.loop-i-test.true) in
    let room : size * (from + few) ≤ size * count = mul-le-mul_left size (omega (arith, begun, c.min-few.ensures)) in
    let here : min from count ≡ from = omega (arith, begun) in
    let next : from + few ≡ min (16 * (c.loop-i.i + 1)) count = omega (arith, begun, c.min-few.ensures) in
    rw (← next) (decrypted-more x.units x.key.now c.args.k size old now from few (size * from) (size * from + size * few - size * from) (omega arith) (omega arith) (omega (arith, room, length-units size old whole, c.loop-i.auto.units)) c.unit_bytes-size.ensures.blocks
    c.unit_numbers-numbers.result (omega arith) (λ j h. c.unit_numbers-numbers.ensures j h) c.decrypt_units.new.units c.decrypt_units.ensures.value (rw here at c.loop-i.invariant))

pub returns : goal.returns
unfolding decrypted_units
returns c =
    let x = c.args.part.now in
    let old = c.args.units.now in
    let whole = ap (λ (z : ℕ). length old % z) c.unit_bytes-size.ensures.value ∙ c.requires.whole in
    let parts = λ (j : ℕ). decrypted_unit x.units x.key.now (c.args.k + j) (unit c.unit_bytes-size.result old j) in
    let done : min (16 * c.loop-i.i) (length old / c.unit_bytes-size.result) ≡ length old / c.unit_bytes-size.result = omega (arith, c.div_ceil-i-end.ensures, c.loop-i-test.false) in
    IsWrittenTo-all c.unit_bytes-size.result parts old c.loop-i.units (min (16 * c.loop-i.i) (length old / c.unit_bytes-size.result)) (c.loop-i.auto.units ∙ length-units c.unit_bytes-size.result old whole ∙ ap (λ n. c.unit_bytes-size.result * n) (sym done)) c.loop-i.invariant ∙ ap (joined parts) done
    ∙ ap (λ (z : ℕ). joined (λ j. decrypted_unit x.units x.key.now (c.args.k + j) (unit z old j)) (length old / z)) c.unit_bytes-size.ensures.value
