use Rattle.std.proofs.Common.{◌≡◌, ◌≤◌, ◌+◌, ◌*◌, ◌-◌, ℕ, length, take, drop, ap, ◌∙◌, arith}
use Rattle.std.specs.Prelude.{slice_index}
use Rattle.std.proofs.Math.Nat.{mul-le-mul_right}
use Rattle.reed_solomon.specs.Factors.{erasure_factor}
use Rattle.stack_meaning.specs.Erasures.{scaled_block}
use Rattle.stack_meaning.specs.Spares.{added_block}
use Rattle.stack_engine.proofs.ColumnLemmas.{added-all, added-more, column_addend}
use Rattle.stack_engine.proofs.losses.Losses.add_block.Goals as goal

pub loop-column-preserved : goal.loop-column-preserved
loop-column-preserved c =
    let places = c.args.self.now.places.items in
    let block = c.args.block.now in
    let size : ℕ = length block in
    let j = c.loop-column.column in
    let now = c.loop-column.sums in
    let from : ℕ = j * size in
    let width : from + size - from ≡ size = omega arith in
    let most : (j + 1) * size ≤ length places * size = mul-le-mul_right size (omega (arith, c.loop-column-test.true)) in
    let next : (j + 1) * size ≡ from + size = omega arith in
    let room : from + size ≤ length now = omega (arith, most, next, c.loop-column.invariant.size, c.requires.size) in
    let is : c.add_scaled_block.new.sums ≡ added_block (take (from + size - from) (drop from now)) (scaled_block c.erasure_factor-factor.result block) = c.add_scaled_block.ensures in
    added-more places c.args.place block c.args.sums.now now c.add_scaled_block.new.sums j from (from + size - from) (omega arith) width room
    (is
    ∙ ap (λ f. added_block (take (from + size - from) (drop from now)) (scaled_block f block)) c.erasure_factor-factor.ensures
    ∙ ap (λ ps. added_block (take (from + size - from) (drop from now)) (scaled_block (erasure_factor ps (slice_index ps j) c.args.place) block)) c.as_slice-places.ensures.value) c.loop-column.invariant

pub returns : goal.returns
returns c =
    let size : ℕ = length c.args.block.now in
    let many = c.args.self.now.places.items in
    let most : length many * size ≤ c.loop-column.column * size = mul-le-mul_right size (omega (arith, c.loop-column-test.false)) in
    added-all (column_addend many c.args.place c.args.block.now) c.args.sums.now c.loop-column.sums (c.loop-column.column * size) (omega (arith, most, c.requires.size)) c.loop-column.invariant
