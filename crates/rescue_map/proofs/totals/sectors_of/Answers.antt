use Rattle.std.proofs.Common.{◌+◌, ◌≤◌, ◌^◌, ℕ, false, List, length, get_or, refl, sym, ap, subst, ◌∙◌, arith}
use Rattle.std.proofs.lemmas.List.{take_all}
use Rattle.rescue_map.specs.declared.map.Run.{Run}
use Rattle.rescue_map.specs.declared.stage.Stage.TheVariants.{Untried}
use Rattle.rescue_map.specs.Maps.{marks}
use Rattle.rescue_map.proofs.lemmas.RunLemmas.{length-take, length-within}
use Rattle.rescue_map.proofs.totals.sectors_of.Goals as goal

pub loop-run-init : goal.loop-run-init
loop-run-init c = refl

pub overflow_add-at : goal.overflow_add-at
overflow_add-at c =
    let runs : List Run = c.runs-run-items.result.now in
    let i : ℕ = c.loop-run.run-index in
    let few : length (marks runs) ≤ 2 ^ 54 = subst (λ (l : List Run). length (marks l) ≤ 2 ^ 54) (sym c.runs-run-items.ensures.value) c.runs-run-items.ensures.whole.few in
    omega (arith, few, length-take runs i (record { count = 0; had = false; lost = false; stage = Untried }) c.loop-run-test.true, length-within runs (i + 1), c.loop-run.invariant)

pub loop-run-preserved : goal.loop-run-preserved
loop-run-preserved c =
    let runs : List Run = c.runs-run-items.result.now in
    let i : ℕ = c.loop-run.run-index in
    let d : Run = record { count = 0; had = false; lost = false; stage = Untried } in
    ap (λ (n : ℕ). n + (get_or runs i d).count) c.loop-run.invariant ∙ sym (length-take runs i d c.loop-run-test.true)

pub returns : goal.returns
returns c =
    let runs : List Run = c.runs-run-items.result.now in
    c.loop-run.invariant ∙ ap (λ (l : List Run). length (marks l)) (take_all c.loop-run.run-index runs c.loop-run-test.false) ∙ ap (λ (l : List Run). length (marks l)) c.runs-run-items.ensures.value
