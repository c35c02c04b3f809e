use Rattle.std.proofs.Common.{◌≡◌, ◌%◌, ◌∙◌, ap, sym, arith}
use Rattle.std.proofs.lemmas.Bool.{eqb-true}
use Rattle.stack_lines.proofs.CutLemmas.{units-cut}
use Rattle.stack_lines.proofs.cuts.units_cut.Goals as goal

pub returns : goal.returns
returns c sure =
    let steps = c.args.steps in
    let same = c.from-sectors.ensures ∙ c.sectors.ensures.value in
    let even : steps.size % c.from-sectors.result ≡ 0 = omega (arith, c.if-steps-sectors-ne0.false) in
    let begins : steps.skip % c.from-sectors.result ≡ 0 = eqb-true (steps.skip % c.from-sectors.result) 0 sure in
    units-cut c.args.config.now c.args.part c.args.count steps c.requires.inside (ap (λ k. steps.size % k) (sym same) ∙ even) (ap (λ k. steps.skip % k) (sym same) ∙ begins)
