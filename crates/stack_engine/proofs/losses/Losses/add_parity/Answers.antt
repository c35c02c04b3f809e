use Rattle.std.proofs.Common.{◌≡◌, ◌≤◌, ◌<◌, ◌+◌, ◌*◌, ◌/◌, ◌-◌, ℕ, List, length, take, ap, ◌∙◌, arith}
use Rattle.std.specs.Prelude.{slice_index}
use Rattle.std.proofs.Math.Nat.{mul-le-mul_right}
use Rattle.std.proofs.lemmas.List.{get_or-take, length-take}
use Rattle.reed_solomon.specs.Factors.{erasure_factor}
use Rattle.stack_engine.proofs.ColumnLemmas.{added-all, parity-more, parity_addend}
use Rattle.stack_engine.proofs.losses.Losses.add_parity.Goals as goal

pub loop-column-preserved : goal.loop-column-preserved
loop-column-preserved c =
    let places = c.args.self.now.places.items in
    let roots = c.args.roots in
    let parity = c.args.parity.now in
    let size : ℕ = length parity / roots in
    let j = c.loop-column.column in
    let now = c.loop-column.sums in
    let from : ℕ = j * size in
    let ends : List ℕ = take roots c.parity_factors-ends.result in
    let width : from + size - from ≡ size = omega arith in
    let most : (j + 1) * size ≤ length places * size = mul-le-mul_right size (omega (arith, c.loop-column-test.true)) in
    let next : (j + 1) * size ≡ from + size = omega arith in
    let room : from + size ≤ length now = omega (arith, most, next, c.loop-column.invariant.size, c.requires.size) in
    let count : length ends ≡ roots = omega (arith, length-take roots c.parity_factors-ends.result, c.parity_factors-ends.ensures.len, c.requires.roots.1.0) in
    let each : (e : ℕ) → e < roots → slice_index ends e ≡ erasure_factor places (slice_index places j) (255 - roots + e)
    = λ e h. get_or-take roots c.parity_factors-ends.result e 0 h ∙ c.parity_factors-ends.ensures.are e h ∙ ap (λ ps. erasure_factor ps (slice_index ps j) (255 - roots + e)) c.as_slice-places.ensures.value in
    parity-more places roots size parity ends c.args.sums.now now c.add_scaled_stored.new.sums j from (from + size - from) (omega arith) width room count each c.add_scaled_stored.ensures c.loop-column.invariant

pub returns : goal.returns
returns c =
    let size : ℕ = length c.args.parity.now / c.args.roots in
    let many = c.args.self.now.places.items in
    let most : length many * size ≤ c.loop-column.column * size = mul-le-mul_right size (omega (arith, c.loop-column-test.false)) in
    added-all (parity_addend many c.args.roots size c.args.parity.now) c.args.sums.now c.loop-column.sums (c.loop-column.column * size) (omega (arith, most, c.requires.size)) c.loop-column.invariant
