use Rattle.std.proofs.Common.{◌≤◌, ◌^◌, ◌+◌, ℕ, false, List, length, subst, sym, arith}
use Rattle.rescue_map.specs.declared.map.Run.{Run}
use Rattle.rescue_map.specs.declared.stage.Stage.TheVariants.{Untried}
use Rattle.rescue_map.specs.Maps.{marks}
use Rattle.rescue_map.proofs.lemmas.RunLemmas.{length-take, length-within}
use Rattle.rescue_map.proofs.stepping.untaken.Goals as goal

pub push-requires-clause-room : goal.push-requires-clause-room
push-requires-clause-room c =
    let runs : List Run = c.runs-run-items.result.now in
    let i : ℕ = c.loop-run.run-index in
    let few : length (marks runs) ≤ 2 ^ 54 = subst (λ (l : List Run). length (marks l) ≤ 2 ^ 54) (sym c.runs-run-items.ensures.value) c.runs-run-items.ensures.whole.few in
    omega (arith, few, length-take runs i (record { count = 0; had = false; lost = false; stage = Untried }) c.loop-run-test.true, length-within runs (i + 1), c.loop-run.invariant.here)
