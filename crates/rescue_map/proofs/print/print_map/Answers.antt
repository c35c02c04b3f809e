use Rattle.std.proofs.Common.{◌≡◌, ◌+◌, ◌++◌, ◌≤◌, ◌^◌, ℕ, Bool, false, List, [], ◌∷◌, length, take, get_or, append-nil, refl, sym, ap, ap₂, subst, ◌∙◌, take_all, arith}
use Rattle.std.proofs.lemmas.List.{take_more}
use Rattle.rescue_map.specs.declared.map.Run.{Run}
use Rattle.rescue_map.specs.declared.stage.Stage.TheVariants.{Untried}
use Rattle.rescue_map.specs.Kinds.{kind_of}
use Rattle.rescue_map.specs.Maps.{marks}
use Rattle.rescue_map.specs.MapText.{map_of, map_run_text, status_text, tail_text}
use Rattle.rescue_map.proofs.PrintedLemmas.{front_text, front_text-push, map-kind, map-read, map_text-end}
use Rattle.rescue_map.proofs.lemmas.RunLemmas.{length-take, length-within}
use Rattle.rescue_map.proofs.print.print_map.Goals as goal

pub loop-run-init : goal.loop-run-init
loop-run-init c =
    (c.in_ok-append.ensures.ok ∙ ap₂ (λ (a b : List ℕ). a ++ b) (c.in_ok-text.ensures.ok ∙ c.mark_line.ensures.value) (c.status_line.ensures.value ∙ sym (append-nil (status_text c.is_complete-complete.result ++ 10 ∷ []))), refl)

pub print_run-requires : goal.print_run-requires
print_run-requires c =
    let runs : List Run = c.runs-run-items.result.now in
    let i : ℕ = c.loop-run.run-index in
    let few : length (marks runs) ≤ 2 ^ 54 = subst (λ (l : List Run). length (marks l) ≤ 2 ^ 54) (sym c.runs-run-items.ensures.value) c.runs-run-items.ensures.whole.few in
    omega (arith, few, length-take runs i (record { count = 0; had = false; lost = false; stage = Untried }) c.loop-run-test.true, length-within runs (i + 1), c.loop-run.invariant.1)

pub overflow_add-at : goal.overflow_add-at
overflow_add-at c =
    let runs : List Run = c.runs-run-items.result.now in
    let i : ℕ = c.loop-run.run-index in
    let few : length (marks runs) ≤ 2 ^ 54 = subst (λ (l : List Run). length (marks l) ≤ 2 ^ 54) (sym c.runs-run-items.ensures.value) c.runs-run-items.ensures.whole.few in
    omega (arith, few, length-take runs i (record { count = 0; had = false; lost = false; stage = Untried }) c.loop-run-test.true, length-within runs (i + 1), c.loop-run.invariant.1)

pub loop-run-preserved : goal.loop-run-preserved
loop-run-preserved c =
    let runs : List Run = c.runs-run-items.result.now in
    let i : ℕ = c.loop-run.run-index in
    let run : Run = get_or runs i (record { count = 0; had = false; lost = false; stage = Untried }) in
    let front : List Run = take i runs in (
      c.in_ok-print_run.ensures.ok
          ∙ ap (λ (t : List ℕ). t ++ map_run_text c.loop-run.at run) c.loop-run.invariant.0
          ∙ ap (λ (n : ℕ). front_text c.args.kind c.is_complete-complete.result front ++ map_run_text n run) c.loop-run.invariant.1
          ∙ front_text-push c.args.kind c.is_complete-complete.result front run
          ∙ ap (front_text c.args.kind c.is_complete-complete.result) (sym (take_more runs i (record { count = 0; had = false; lost = false; stage = Untried }) c.loop-run-test.true)),
      ap (λ (n : ℕ). n + run.count) c.loop-run.invariant.1 ∙ sym (length-take runs i (record { count = 0; had = false; lost = false; stage = Untried }) c.loop-run-test.true),
    )

pub print_tail-requires : goal.print_tail-requires
print_tail-requires c =
    let items = c.runs-run-items.ensures in
    let whole : length (marks (take c.loop-run.run-index c.runs-run-items.result.now)) ≡ length (marks c.args.map.now) = ap (λ (r : List Run). length (marks r)) (take_all _ _ c.loop-run-test.false ∙ items.value) in
    omega (arith, c.loop-run.invariant.1, whole, items.whole.few)

pub returns-clause-text : goal.returns-clause-text
returns-clause-text c =
    let items = c.runs-run-items.ensures in
    let kind = c.args.kind in
    let no_scrape = c.args.no_scrape in
    let all = take_all _ _ c.loop-run-test.false ∙ items.value in
    let front = c.loop-run.invariant.0 ∙ ap (front_text kind c.is_complete-complete.result) all in
    let end : c.loop-run.at ≡ length (marks c.args.map.now) = c.loop-run.invariant.1 ∙ ap (λ (r : List Run). length (marks r)) all in
    c.in_ok-print_tail.ensures.ok
    ∙ ap₂ (λ (t : List ℕ) (n : ℕ). t ++ tail_text n c.args.tail) front end
    ∙ ap (λ (b : Bool). front_text kind b c.args.map.now ++ tail_text (length (marks c.args.map.now)) c.args.tail) c.is_complete-complete.ensures
    ∙ map_text-end kind no_scrape c.args.map.now c.args.tail

pub returns-clause-reads_back : goal.returns-clause-reads_back
returns-clause-reads_back c =
    let text = (returns-clause-text c) in
    λ is. ap (map_of (length (marks c.args.map.now))) text ∙ map-read c.args.kind c.args.no_scrape c.args.map.now c.args.tail c.runs-run-items.ensures.whole is

pub returns-clause-kind : goal.returns-clause-kind
returns-clause-kind c = ap kind_of ((returns-clause-text c)) ∙ map-kind c.args.kind c.args.no_scrape c.args.map.now c.args.tail c.runs-run-items.ensures.whole (omega arith)
