use Rattle.std.proofs.Common.{◌≡◌, ◌++◌, ◌≤◌, ℕ, replicate, refl, sym, ap, ◌∙◌, arith}
use Rattle.rescue_map.specs.Aheads.{losts_ahead, marks_ahead}
use Rattle.rescue_map.specs.declared.map.Run.{Run}
use Rattle.rescue_map.specs.Maps.{losts, marks}
use Rattle.rescue_map.proofs.SpliceLemmas.{enough-more, length-more, moved-more, rest-more}
use Rattle.rescue_map.proofs.splicing.move_marks.Goals as goal

pub runs-init : goal.runs-init
runs-init c = record { moved = refl; lost = refl; rest = refl; lost_rest = refl; enough = c.requires.enough; room = c.requires.room }

pub runs-preserved : goal.runs-preserved
runs-preserved c =
    let u = c.runs.invariant in
    let run : Run = c.next_run-run.result in
    let n : ℕ = c.min-count.result in
    let le : n ≤ c.runs.left = omega (arith, c.min-count.ensures) in
    let first : c.next_run-run.new.self.first ≡ run = sym c.next_run-run.ensures.first in
    let is : marks_ahead c.runs.ahead ≡ replicate n run.had ++ marks_ahead c.pass.new.self =
    sym c.next_run-run.ensures.same ∙ c.pass.ensures.marks ∙ ap (λ (r : Run). replicate n r.had ++ marks_ahead c.pass.new.self) first in
    let bad : losts_ahead c.runs.ahead ≡ replicate n run.lost ++ losts_ahead c.pass.new.self =
    sym c.next_run-run.ensures.lost ∙ c.pass.ensures.lost ∙ ap (λ (r : Run). replicate n r.lost ++ losts_ahead c.pass.new.self) first in
    record {
      moved = moved-more _ _ n c.runs.left run.had le is (marks c.runs.map) (marks c.push.new.self) c.in_ok-push.ensures.marks ∙ u.moved;
      lost = moved-more _ _ n c.runs.left run.lost le bad (losts c.runs.map) (losts c.push.new.self) c.in_ok-push.ensures.lost ∙ u.lost;
      rest = rest-more _ _ n c.runs.left run.had le is ∙ u.rest;
      lost_rest = rest-more _ _ n c.runs.left run.lost le bad ∙ u.lost_rest;
      enough = enough-more _ _ n c.runs.left run.had le is u.enough;
      room = omega (arith, u.room, length-more (marks c.runs.map) (marks c.push.new.self) n run.had c.in_ok-push.ensures.marks, le);
    }
