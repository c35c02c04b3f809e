use Rattle.std.proofs.Common.{◌≡◌, ◌++◌, ◌≤◌, ◌^◌, ℕ, Bool, List, length, replicate, sym, ap, ap₂, ◌∙◌, arith}
use Rattle.rescue_map.specs.Aheads.{losts_ahead, marks_ahead}
use Rattle.rescue_map.specs.declared.map.Run.{Run}
use Rattle.rescue_map.specs.Maps.{joined, kept_had, left_lost, losts, marks}
use Rattle.rescue_map.proofs.JoinLemmas.{first-inside, joined-all, joined-more, left_lost-all, left_lost-more, left-more}
use Rattle.rescue_map.proofs.SpliceLemmas.{length-more}
use Rattle.rescue_map.proofs.keeping.keep_lost.Goals as goal

pub runs-init : goal.runs-init
runs-init c =
    let behind : List Bool = losts_ahead c.of_map-old.result in
    let ahead : List Bool = marks_ahead c.of_map-new.result in
    let found : List Bool = losts_ahead c.of_map-new.result in
    record {
      had = ap (λ (l : List Run). marks l ++ joined (kept_had c.args.again) behind ahead) c.new-map.ensures ∙ ap₂ (joined (kept_had c.args.again)) c.of_map-old.ensures.lost c.of_map-new.ensures.marks;
      bad = ap (λ (l : List Run). losts l ++ left_lost c.args.again behind ahead found) c.new-map.ensures
          ∙ ap₂ (λ (before after : List Bool). left_lost c.args.again before after found) c.of_map-old.ensures.lost c.of_map-new.ensures.marks
          ∙ ap (left_lost c.args.again (losts c.args.before.now) (marks c.args.after.now)) c.of_map-new.ensures.lost;
      here = omega (arith, ap (λ (l : List Run). length (marks l)) c.new-map.ensures);
      old_left = ap length c.of_map-old.ensures.marks ∙ c.requires.before;
      new_left = ap length c.of_map-new.ensures.marks ∙ c.requires.after;
    }

pub next_run-lost-requires : goal.next_run-lost-requires
next_run-lost-requires c = omega (arith, c.runs.invariant.old_left, c.runs-test.true)

pub next_run-had-requires : goal.next_run-had-requires
next_run-had-requires c = omega (arith, c.runs.invariant.new_left, c.runs-test.true)

pub push-requires-clause-room : goal.push-requires-clause-room
push-requires-clause-room c =
    let u = c.runs.invariant in
    let few : length (marks c.args.before.now) ≤ 2 ^ 54 = c.runs-sizes.ensures.whole.few in
    omega (arith, few, c.requires.before, u.here, u.old_left, c.min-count.ensures, ap (λ (r : Run). r.count) c.next_run-lost.ensures.first, first-inside c.next_run-lost.new.self, ap length c.next_run-lost.ensures.same)

pub overflow_sub-left : goal.overflow_sub-left
overflow_sub-left c =
    let u = c.runs.invariant in
    omega (arith, u.old_left, c.min-count.ensures, ap (λ (r : Run). r.count) c.next_run-lost.ensures.first, first-inside c.next_run-lost.new.self, ap length c.next_run-lost.ensures.same)

pub runs-preserved : goal.runs-preserved
runs-preserved c =
    let u = c.runs.invariant in
    let n : ℕ = c.min-count.result in
    let a : Run = c.next_run-lost.result in
    let b : Run = c.next_run-had.result in
    let le : n ≤ c.runs.left = omega (arith, u.old_left, c.min-count.ensures, ap (λ (r : Run). r.count) c.next_run-lost.ensures.first, first-inside c.next_run-lost.new.self, ap length c.next_run-lost.ensures.same) in
    let a_lost : losts_ahead c.runs.old ≡ replicate n a.lost ++ losts_ahead c.pass.new.self =
    sym c.next_run-lost.ensures.lost ∙ c.pass.ensures.lost ∙ ap (λ (r : Run). replicate n r.lost ++ losts_ahead c.pass.new.self) (sym c.next_run-lost.ensures.first) in
    let a_had : marks_ahead c.runs.old ≡ replicate n a.had ++ marks_ahead c.pass.new.self =
    sym c.next_run-lost.ensures.same ∙ c.pass.ensures.marks ∙ ap (λ (r : Run). replicate n r.had ++ marks_ahead c.pass.new.self) (sym c.next_run-lost.ensures.first) in
    let b_had : marks_ahead c.runs.new ≡ replicate n b.had ++ marks_ahead c.pass-in-runs.new.self =
    sym c.next_run-had.ensures.same ∙ c.pass-in-runs.ensures.marks ∙ ap (λ (r : Run). replicate n r.had ++ marks_ahead c.pass-in-runs.new.self) (sym c.next_run-had.ensures.first) in
    let b_lost : losts_ahead c.runs.new ≡ replicate n b.lost ++ losts_ahead c.pass-in-runs.new.self =
    sym c.next_run-had.ensures.lost ∙ c.pass-in-runs.ensures.lost ∙ ap (λ (r : Run). replicate n r.lost ++ losts_ahead c.pass-in-runs.new.self) (sym c.next_run-had.ensures.first) in
    record {
      had = joined-more (kept_had c.args.again) n a.lost b.had (marks c.runs.map) (marks c.push.new.self) _ _ _ _ (c.in_ok-push.ensures.marks ∙ ap (λ (h : Bool). marks c.runs.map ++ replicate n h) c.kept_had.ensures) a_lost b_had ∙ u.had;
      bad = left_lost-more c.args.again n a.lost b.had b.lost (losts c.runs.map) (losts c.push.new.self) _ _ _ _ _ _ (c.in_ok-push.ensures.lost ∙ ap (λ (h : Bool). losts c.runs.map ++ replicate n h) c.is_bad.ensures) a_lost b_had b_lost ∙ u.bad;
      here = omega (arith, u.here, length-more (marks c.runs.map) (marks c.push.new.self) n c.kept_had.result c.in_ok-push.ensures.marks, le);
      old_left = left-more n a.had (marks_ahead c.runs.old) (marks_ahead c.pass.new.self) c.runs.left a_had u.old_left;
      new_left = left-more n b.had (marks_ahead c.runs.new) (marks_ahead c.pass-in-runs.new.self) c.runs.left b_had u.new_left;
    }

pub returns-clause-marks : goal.returns-clause-marks
returns-clause-marks c = joined-all (kept_had c.args.again) (marks c.runs.map) (losts_ahead c.runs.old) (marks_ahead c.runs.new) _ (omega (arith, c.runs.invariant.new_left, c.runs-test.false)) c.runs.invariant.had

pub returns-clause-lost : goal.returns-clause-lost
returns-clause-lost c =
    left_lost-all c.args.again (losts c.runs.map) (losts_ahead c.runs.old) (marks_ahead c.runs.new) (losts_ahead c.runs.new) _ (omega (arith, c.runs.invariant.new_left, c.runs-test.false)) c.runs.invariant.bad

pub returns-clause-sectors : goal.returns-clause-sectors
returns-clause-sectors c = omega (arith, c.runs.invariant.here, c.runs-test.false)
