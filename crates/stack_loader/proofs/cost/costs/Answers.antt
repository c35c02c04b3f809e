use Rattle.std.proofs.Common.{◌≡◌, ℕ, List, sym, ap, subst, ◌∙◌, length, arith}
use Rattle.std.proofs.lemmas.List.{length-replicate}
use Rattle.stack_rules.specs.Records.{configuration}
use Rattle.stack_loader.specs.Costs.{AreCosts}
use Rattle.stack_loader.proofs.ClosureLemmas.{taken}
use Rattle.stack_loader.proofs.lemmas.CostLemmas.{costs_none, costs_all}
use Rattle.stack_rules.proofs.lemmas.ValidLemmas.{depths-low}
use Rattle.stack_loader.proofs.cost.costs.Goals as goal

pub loop-depth-init : goal.loop-depth-init
loop-depth-init c = (ap length c.in_ok-costs.ensures.ok ∙ length-replicate (length c.args.devices.now) 0, λ leaves measured. costs_none (configuration leaves c.args.devices.now) c.args.direction c.in_ok-costs.costs.items)

pub loop-depth-preserved : goal.loop-depth-preserved
loop-depth-preserved c =
    let long : length c.settle.new.costs ≡ c.loop-depth.costs.len = c.settle.auto.costs ∙ ap length c.as_mut_slice.ensures.value ∙ sym c.loop-depth.costs.ok.0 in
    let count : length c.settle.new.costs ≡ length c.args.devices.now = c.settle.auto.costs ∙ ap length c.as_mut_slice.ensures.value ∙ c.loop-depth.invariant.0 in
    rw taken (
      count,
      λ leaves measured. c.settle.ensures leaves measured (let P : List ℕ → Type 0 = λ costs. AreCosts (configuration leaves c.args.devices.now) c.args.direction c.loop-depth.depth costs in subst P (sym c.as_mut_slice.ensures.value) (c.loop-depth.invariant.1 leaves measured)),
    )

pub settle-requires-clause-costs : goal.settle-requires-clause-costs
settle-requires-clause-costs c = ap length c.as_mut_slice.ensures.value ∙ c.loop-depth.invariant.0

pub returns-clause-ok : goal.returns-clause-ok
returns-clause-ok c = λ leaves measured.
    costs_all (configuration leaves c.args.devices.now) c.args.direction c.loop-depth.depth c.loop-depth.costs.items (depths-low (configuration leaves c.args.devices.now) measured.low) c.loop-depth.invariant.0 (omega (arith, c.loop-depth-test.false)) (c.loop-depth.invariant.1 leaves measured)
