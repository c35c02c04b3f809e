use Rattle.std.proofs.Common.{◌≡◌, ◌+◌, ◌++◌, ◌≤◌, ◌^◌, ℕ, Bool, List, length, replicate, refl, sym, ap, ap₂, ◌∙◌, arith}
use Rattle.rescue_map.specs.Aheads.{losts_ahead, marks_ahead, statuses_ahead}
use Rattle.rescue_map.specs.declared.map.Run.{Run}
use Rattle.rescue_map.specs.declared.status.Status.{Status}
use Rattle.rescue_map.specs.Maps.{losts, marks}
use Rattle.rescue_map.specs.Stages.{run_status, statuses}
use Rattle.rescue_map.specs.Steps.{is_inside, status_after, stepped_from}
use Rattle.rescue_map.proofs.JoinLemmas.{first-inside, left-more}
use Rattle.rescue_map.proofs.SpliceLemmas.{length-more}
use Rattle.rescue_map.proofs.StepLemmas.{status-run, stepped-all, stepped-more}
use Rattle.rescue_map.proofs.stepping.stepped.Goals as goal

pub runs-init : goal.runs-init
runs-init c =
    let ahead : List Status = statuses_ahead c.of_map-old.result in
    let had : List Bool = marks_ahead c.of_map-new.result in
    let lost : List Bool = losts_ahead c.of_map-new.result in
    record {
      made = ap (λ (l : List Run). statuses l ++ stepped_from c.args.step c.args.span 0 ahead had lost) c.new-map.ensures
          ∙ ap (λ (l : List Status). stepped_from c.args.step c.args.span 0 l had lost) c.of_map-old.ensures.status;
      here = ap (λ (l : List Run). length (marks l)) c.new-map.ensures;
      old_left = omega (arith, ap length c.of_map-old.ensures.marks, c.requires.before);
      new_left = omega (arith, ap length c.of_map-new.ensures.marks, c.in_ok-all.ensures.sectors);
    }

pub next_run-was-requires : goal.next_run-was-requires
next_run-was-requires c = omega (arith, c.runs.invariant.old_left, c.runs-test.true)

pub next_run-is-requires : goal.next_run-is-requires
next_run-is-requires c = omega (arith, c.runs.invariant.new_left, c.runs-test.true)

pub runs-preserved : goal.runs-preserved
runs-preserved c =
    let u = c.runs.invariant in
    let n : ℕ = c.alike-count.result in
    let a : Run = c.next_run-was.result in
    let b : Run = c.next_run-is.result in
    let inside : Bool = is_inside c.args.span c.runs.at in
    let after : Status = status_after c.args.step inside (run_status a) b.had b.lost in
    let old_first = sym c.next_run-was.ensures.first in
    let new_first = sym c.next_run-is.ensures.first in
    let before : statuses_ahead c.runs.old ≡ replicate n (run_status a) ++ statuses_ahead c.pass.new.self =
    sym c.next_run-was.ensures.status ∙ c.pass.ensures.status ∙ ap (λ (r : Run). replicate n (run_status r) ++ statuses_ahead c.pass.new.self) old_first in
    let marked : marks_ahead c.runs.old ≡ replicate n a.had ++ marks_ahead c.pass.new.self =
    sym c.next_run-was.ensures.same ∙ c.pass.ensures.marks ∙ ap (λ (r : Run). replicate n r.had ++ marks_ahead c.pass.new.self) old_first in
    let had : marks_ahead c.runs.new ≡ replicate n b.had ++ marks_ahead c.pass-in-runs.new.self =
    sym c.next_run-is.ensures.same ∙ c.pass-in-runs.ensures.marks ∙ ap (λ (r : Run). replicate n r.had ++ marks_ahead c.pass-in-runs.new.self) new_first in
    let lost : losts_ahead c.runs.new ≡ replicate n b.lost ++ losts_ahead c.pass-in-runs.new.self =
    sym c.next_run-is.ensures.lost ∙ c.pass-in-runs.ensures.lost ∙ ap (λ (r : Run). replicate n r.lost ++ losts_ahead c.pass-in-runs.new.self) new_first in
    let same : c.status_after-after.result ≡ after =
    c.status_after-after.ensures ∙ ap₂ (λ (i : Bool) (s : Status). status_after c.args.step i s b.had b.lost) c.is_inside-inside.ensures c.run_status.ensures in
    let put : statuses c.push.new.self ≡ statuses c.runs.map ++ replicate n after =
    c.in_ok-push.ensures.status ∙ ap (λ (r : Run). statuses c.runs.map ++ replicate r.count (run_status r)) c.run_of.ensures
    ∙ ap (λ (s : Status). statuses c.runs.map ++ replicate n s) (status-run n c.status_after-after.result ∙ same) in
    let grown : length (marks c.push.new.self) ≡ length (marks c.runs.map) + n =
    length-more (marks c.runs.map) (marks c.push.new.self) c.run_of.result.count c.run_of.result.had c.in_ok-push.ensures.marks ∙ ap (λ (r : Run). length (marks c.runs.map) + r.count) c.run_of.ensures in
    record {
      made = stepped-more c.args.step c.args.span c.runs.at n inside (run_status a) b.had b.lost (statuses c.runs.map) (statuses c.push.new.self) _ _ _ _ _ _ c.alike-count.ensures.alike put before had lost ∙ u.made;
      here = grown ∙ ap (λ (m : ℕ). m + n) u.here;
      old_left = omega (arith, u.old_left, ap length marked, left-more n a.had (marks_ahead c.runs.old) (marks_ahead c.pass.new.self) (length (marks_ahead c.runs.old)) marked refl, first-inside c.next_run-was.new.self, ap length c.next_run-was.ensures.same, ap (λ (r : Run). r.count) c.next_run-was.ensures.first, c.alike-count.ensures.few, c.min.ensures);
      new_left = omega (arith, u.new_left, left-more n b.had (marks_ahead c.runs.new) (marks_ahead c.pass-in-runs.new.self) (length (marks_ahead c.runs.new)) had refl, first-inside c.next_run-is.new.self, ap length c.next_run-is.ensures.same, ap (λ (r : Run). r.count) c.next_run-is.ensures.first, c.alike-count.ensures.few, c.min.ensures);
    }

pub returns-clause-ok : goal.returns-clause-ok
returns-clause-ok c =
    stepped-all c.args.step c.args.span c.runs.at (statuses c.runs.map) (statuses_ahead c.runs.old) _ (marks_ahead c.runs.new) (losts_ahead c.runs.new) (omega (arith, c.runs.invariant.new_left, c.runs-test.false)) c.runs.invariant.made
    ∙ ap₂ (stepped_from c.args.step c.args.span 0 (statuses c.args.before.now)) (c.of_map-new.ensures.marks ∙ c.in_ok-all.ensures.marks) (c.of_map-new.ensures.lost ∙ c.in_ok-all.ensures.lost)

pub returns-clause-sectors : goal.returns-clause-sectors
returns-clause-sectors c = omega (arith, c.runs.invariant.here, c.runs.invariant.old_left, c.runs-test.false)
