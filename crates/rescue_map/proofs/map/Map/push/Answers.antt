use Rattle.std.proofs.Common.{◌≡◌, ◌+◌, ◌++◌, ◌-◌, ◌≤◌, ◌^◌, ℕ, Bool, List, length, set, replicate, sym, ap, subst, ◌∙◌, arith}
use Rattle.rescue_map.specs.declared.map.Run.{Run}
use Rattle.rescue_map.specs.declared.status.Status.{Status}
use Rattle.rescue_map.specs.Maps.{AreRuns, losts, marks}
use Rattle.rescue_map.specs.Stages.{run_status, statuses}
use Rattle.rescue_map.proofs.lemmas.RunLemmas.{are_runs-either, are_runs-grown, get_or_same, longer, losts-grown, marks-grown, same_status, statuses-grown}
use Rattle.rescue_map.proofs.map.Map.push.Goals as goal

pub invariant_of-self-inside : goal.invariant_of-self-inside
invariant_of-self-inside c =
    let runs : List Run = c.self.inside.runs.items in
    let k : ℕ = c.len-end.result - 1 in
    let last : Run = c.index_mut.result.now in
    let n : ℕ = c.args.run.count in
    let at : k + 1 ≡ length runs = omega (arith, c.len-end.ensures, c.if-end-gt0.true, c.self.inside.runs.ok.0) in
    let room : length (marks runs) + n ≤ 2 ^ 54 = subst (λ (r : List Run). length (marks r) + n ≤ 2 ^ 54) (sym c.self.view_is) c.requires.room in
    let grown = are_runs-grown runs k n last at c.self.inside.whole c.requires.some room in
    (subst (λ (x : Run). AreRuns (set runs k (longer x n))) (sym c.index_mut.ensures.value) grown, tt)

pub invariant_of-self-inside-2 : goal.invariant_of-self-inside-2
invariant_of-self-inside-2 c =
    let runs : List Run = c.self.inside.runs.items in
    let room : length (marks runs) + c.args.run.count ≤ 2 ^ 54 = subst (λ (r : List Run). length (marks r) + c.args.run.count ≤ 2 ^ 54) (sym c.self.view_is) c.requires.room in
    (are_runs-either runs c.push.new.v.items c.args.run c.push.result c.push.ensures.ok c.push.ensures.same c.self.inside.whole c.requires.some room, tt)

pub returns-then-is_alike-clause-marks : goal.returns-then-is_alike-clause-marks
returns-then-is_alike-clause-marks c =
    let runs : List Run = c.self.inside.runs.items in
    let k : ℕ = c.len-end.result - 1 in
    let last : Run = c.index_mut.result.now in
    let n : ℕ = c.args.run.count in
    let at : k + 1 ≡ length runs = omega (arith, c.len-end.ensures, c.if-end-gt0.true, c.self.inside.runs.ok.0) in
    let grown = subst (λ (x : Run). marks (set runs k (longer x n)) ≡ marks runs ++ replicate n x.had) (sym c.index_mut.ensures.value) (marks-grown runs k n last at) in
    let first : last.had ≡ c.index.result.now.had = ap (λ (x : Run). x.had) (c.index_mut.ensures.value ∙ get_or_same runs k last c.index.result.now (omega (arith, at)) ∙ sym c.index.ensures) in
    grown ∙ ap (λ (h : Bool). marks runs ++ replicate n h) (first ∙ c.is_alike.ensures.had c.if-is_alike.true) ∙ ap (λ (r : List Run). marks r ++ replicate n c.args.run.had) c.self.view_is

pub returns-then-is_alike-clause-lost : goal.returns-then-is_alike-clause-lost
returns-then-is_alike-clause-lost c =
    let runs : List Run = c.self.inside.runs.items in
    let k : ℕ = c.len-end.result - 1 in
    let last : Run = c.index_mut.result.now in
    let n : ℕ = c.args.run.count in
    let at : k + 1 ≡ length runs = omega (arith, c.len-end.ensures, c.if-end-gt0.true, c.self.inside.runs.ok.0) in
    let grown = subst (λ (x : Run). losts (set runs k (longer x n)) ≡ losts runs ++ replicate n x.lost) (sym c.index_mut.ensures.value) (losts-grown runs k n last at) in
    let first : last.lost ≡ c.index.result.now.lost = ap (λ (x : Run). x.lost) (c.index_mut.ensures.value ∙ get_or_same runs k last c.index.result.now (omega (arith, at)) ∙ sym c.index.ensures) in
    grown ∙ ap (λ (h : Bool). losts runs ++ replicate n h) (first ∙ c.is_alike.ensures.lost c.if-is_alike.true) ∙ ap (λ (r : List Run). losts r ++ replicate n c.args.run.lost) c.self.view_is

pub returns-then-is_alike-clause-status : goal.returns-then-is_alike-clause-status
returns-then-is_alike-clause-status c =
    let runs : List Run = c.self.inside.runs.items in
    let k : ℕ = c.len-end.result - 1 in
    let last : Run = c.index_mut.result.now in
    let n : ℕ = c.args.run.count in
    let at : k + 1 ≡ length runs = omega (arith, c.len-end.ensures, c.if-end-gt0.true, c.self.inside.runs.ok.0) in
    let grown = subst (λ (x : Run). statuses (set runs k (longer x n)) ≡ statuses runs ++ replicate n (run_status x)) (sym c.index_mut.ensures.value) (statuses-grown runs k n last at) in
    let same : last ≡ c.index.result.now = c.index_mut.ensures.value ∙ get_or_same runs k last c.index.result.now (omega (arith, at)) ∙ sym c.index.ensures in
    let alike = c.is_alike.ensures in
    let first : run_status last ≡ run_status c.args.run =
    ap run_status same ∙ same_status c.index.result.now c.args.run (alike.had c.if-is_alike.true) (alike.lost c.if-is_alike.true) (alike.stage c.if-is_alike.true) in
    grown ∙ ap (λ (s : Status). statuses runs ++ replicate n s) first ∙ ap (λ (r : List Run). statuses r ++ replicate n (run_status c.args.run)) c.self.view_is
