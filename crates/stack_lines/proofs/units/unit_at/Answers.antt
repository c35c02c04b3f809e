use Rattle.std.proofs.Common.{◌≡◌, ◌+◌, ◌*◌, ◌/◌, ℕ, ap, ◌∙◌, arith}
use Rattle.stack_meaning.specs.Units.{per_unit}
use Rattle.stack_lines.proofs.units.unit_at.Goals as goal

pub overflow_mul-first : goal.overflow_mul-first
overflow_mul-first c =
    let few : c.from-sectors.result ≡ per_unit c.args.part.now.units = c.from-sectors.ensures ∙ c.sectors.ensures.value in
    let same = ap (λ (k : ℕ). c.args.part.now.first / k * k) few in
    omega (arith, same, c.requires)

pub overflow_add-first : goal.overflow_add-first
overflow_add-first c =
    let few : c.from-sectors.result ≡ per_unit c.args.part.now.units = c.from-sectors.ensures ∙ c.sectors.ensures.value in
    let same = ap (λ (k : ℕ). c.args.part.now.first / k * k) few in
    omega (arith, same, c.requires)

pub returns : goal.returns
returns c =
    let x = c.args.part.now in
    let few : c.from-sectors.result ≡ per_unit x.units = c.from-sectors.ensures ∙ c.sectors.ensures.value in
    record { first = ap (λ (k : ℕ). x.units.offset + x.first / k * k) few; index = ap (λ (k : ℕ). x.first / k) few }
