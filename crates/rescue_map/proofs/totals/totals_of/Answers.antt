use Rattle.std.proofs.Common.{◌+◌, ◌≤◌, ◌^◌, ℕ, false, List, length, drop, get_or, refl, sym, ap, subst, ◌∙◌, arith}
use Rattle.std.proofs.lemmas.List.{at_drop_all, at_drop_more}
use Rattle.rescue_map.specs.declared.map.Run.{Run}
use Rattle.rescue_map.specs.declared.stage.Stage.TheVariants.{Untried}
use Rattle.rescue_map.specs.declared.totals.Totals.{Totals}
use Rattle.rescue_map.specs.Maps.{marks, totals_from, map_totals}
use Rattle.rescue_map.proofs.lemmas.RunLemmas.{length-take, length-within}
use Rattle.rescue_map.proofs.SpliceLemmas.{sum-more, total}
use Rattle.rescue_map.proofs.totals.totals_of.Goals as goal

pub loop-run-init : goal.loop-run-init
loop-run-init c = record { rest = refl; here = refl }

pub with_run-totals-requires : goal.with_run-totals-requires
with_run-totals-requires c =
    let runs : List Run = c.runs-run-items.result.now in
    let i : ℕ = c.loop-run.run-index in
    let few : length (marks runs) ≤ 2 ^ 54 = subst (λ (l : List Run). length (marks l) ≤ 2 ^ 54) (sym c.runs-run-items.ensures.value) c.runs-run-items.ensures.whole.few in
    omega (arith, few, length-take runs i (record { count = 0; had = false; lost = false; stage = Untried }) c.loop-run-test.true, length-within runs (i + 1), c.loop-run.invariant.here)

pub loop-run-preserved : goal.loop-run-preserved
loop-run-preserved c =
    let runs : List Run = c.runs-run-items.result.now in
    let i : ℕ = c.loop-run.run-index in
    let d : Run = record { count = 0; had = false; lost = false; stage = Untried } in
    let run : Run = get_or runs i d in
    record {
      rest = ap (λ (t : Totals). totals_from t (drop (i + 1) runs)) c.with_run-totals.ensures ∙ sym (at_drop_more (totals_from c.loop-run.totals) runs i d c.loop-run-test.true) ∙ c.loop-run.invariant.rest;
      here = ap total c.with_run-totals.ensures ∙ sum-more c.loop-run.totals run ∙ ap (λ (n : ℕ). n + run.count) c.loop-run.invariant.here ∙ sym (length-take runs i d c.loop-run-test.true);
    }

pub returns : goal.returns
returns c =
    sym (at_drop_all (totals_from c.loop-run.totals) c.runs-run-items.result.now c.loop-run.run-index c.loop-run-test.false) ∙ c.loop-run.invariant.rest ∙ ap map_totals c.runs-run-items.ensures.value
