use Rattle.std.proofs.Common.{◌≡◌, ◌*◌, ℕ, ap, ◌∙◌, arith}
use Rattle.stack_meaning.specs.Units.{per_unit}
use Rattle.stack_lines.proofs.units.sector_number.Goals as goal

pub returns : goal.returns
returns c =
    let few : c.from-sectors.result ≡ per_unit c.args.units = c.from-sectors.ensures ∙ c.sectors.ensures.value in
    let same = ap (λ (u : ℕ). c.args.k * u) few in
    omega (arith, same)
