use Rattle.std.proofs.Common.{◌≡◌, ◌-◌, ℕ, suc, ap, ◌∙◌, subst, sym, arith}
use Rattle.tree_repair.specs.Parity.{IsPlace}
use Rattle.tree_repair.specs.Runs.{size_at}
use Rattle.tree_repair.specs.ParitySearches.{IsCoveredOr}
use Rattle.tree_repair.proofs.ParityLemmas.{covered-data, covered-hash}
use Rattle.tree_repair.proofs.covered.covered_at.Goals as goal

pub returns-then-height-eq0 : goal.returns-then-height-eq0
returns-then-height-eq0 c =
    let s = c.args.repair.now.shape in
    let size : c.args.layout.now.block ≡ size_at s c.args.place.height = omega (arith, c.block_size-size.ensures) in
    covered-data s c.args.layout.now c.args.place.height c.args.place.index c.covered_data.result (c.is_place.ensures.some c.if-not-is_place.false) size c.if-height-eq0.true c.covered_data.ensures.some c.covered_data.ensures.none

pub block_on_path-number-requires : goal.block_on_path-number-requires
block_on_path-number-requires c = (c.is_place.ensures.some c.if-not-is_place.false).inside

pub position-requires-clause-level : goal.position-requires-clause-level
position-requires-clause-level c = omega (arith, (c.is_place.ensures.some c.if-not-is_place.false).high, c.if-height-eq0.false)

pub returns : goal.returns
returns c =
    let s = c.args.repair.now.shape in
    let l = c.args.layout.now in
    let i = c.args.place.index in
    let some : c.args.place.height ≡ suc (c.args.place.height - 1) = omega (arith, c.if-height-eq0.false) in
    let size : l.block ≡ size_at s c.args.place.height = omega (arith, c.block_size-size.ensures) in
    subst (λ (n : ℕ). IsCoveredOr s l n i c.covered_hash.result) (sym some)
    (covered-hash s l (c.args.place.height - 1) i c.covered_hash.result (subst (λ (n : ℕ). IsPlace s n i) some (c.is_place.ensures.some c.if-not-is_place.false)) (size ∙ ap (size_at s) some)
    (rw (c.position.ensures.value, c.block_on_path-number.ensures.value) at c.covered_hash.ensures.some)
    (rw (c.position.ensures.value, c.block_on_path-number.ensures.value) at c.covered_hash.ensures.none))

pub returns-then-not-is_place : goal.returns-then-not-is_place
returns-then-not-is_place c = λ there. absurd (c.is_place.ensures.none c.if-not-is_place.true there)
