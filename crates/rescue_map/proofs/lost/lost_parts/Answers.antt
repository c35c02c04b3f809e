use Rattle.std.proofs.Common.{◌+◌, ◌≤◌, ◌^◌, ◌++◌, ℕ, false, List, length, drop, get_or, sym, ap, subst, ◌∙◌, append-nil, append_assoc, arith}
use Rattle.std.proofs.lemmas.List.{at_drop_all, at_drop_more}
use Rattle.device_adapters.specs.declared.part.Part.{Part}
use Rattle.rescue_map.specs.declared.map.Run.{Run}
use Rattle.rescue_map.specs.declared.stage.Stage.TheVariants.{Untried}
use Rattle.rescue_map.specs.Lost.{lost_from, lost_of}
use Rattle.rescue_map.specs.Maps.{marks}
use Rattle.rescue_map.proofs.lemmas.RunLemmas.{length-take, length-within}
use Rattle.rescue_map.proofs.lost.lost_parts.Goals as goal

pub overflow_add-at : goal.overflow_add-at
overflow_add-at c =
    let runs : List Run = c.runs-run-items.result.now in
    let i : ℕ = c.loop-run.run-index in
    let few : length (marks runs) ≤ 2 ^ 54 = subst (λ (l : List Run). length (marks l) ≤ 2 ^ 54) (sym c.runs-run-items.ensures.value) c.runs-run-items.ensures.whole.few in
    omega (arith, few, length-take runs i (record { count = 0; had = false; lost = false; stage = Untried }) c.loop-run-test.true, length-within runs (i + 1), c.loop-run.invariant.here)

pub loop-run-preserved : goal.loop-run-preserved
loop-run-preserved c =
    let runs : List Run = c.runs-run-items.result.now in
    let i : ℕ = c.loop-run.run-index in
    let d : Run = record { count = 0; had = false; lost = false; stage = Untried } in
    let run : Run = get_or runs i d in
    let at : ℕ = c.loop-run.at in
    let before : List Part = c.loop-run.parts.items in
    let behind : List Part = lost_from (at + run.count) (drop (i + 1) runs) in
    record {
      rest = ap (λ (l : List Part). l ++ behind) c.in_ok-push_lost.ensures.ok
          ∙ (append_assoc before (lost_of at run) behind
          ∙ (ap (λ (l : List Part). before ++ l) (sym (at_drop_more (lost_from at) runs i d c.loop-run-test.true)) ∙ c.loop-run.invariant.rest));
      here = ap (λ (n : ℕ). n + run.count) c.loop-run.invariant.here ∙ sym (length-take runs i d c.loop-run-test.true);
    }

pub returns-clause-ok : goal.returns-clause-ok
returns-clause-ok c =
    let parts : List Part = c.loop-run.parts.items in
    sym (append-nil parts)
    ∙ (ap (λ (l : List Part). parts ++ l) (sym (at_drop_all (lost_from c.loop-run.at) c.runs-run-items.result.now c.loop-run.run-index c.loop-run-test.false))
    ∙ (c.loop-run.invariant.rest ∙ ap (lost_from 0) c.runs-run-items.ensures.value))
