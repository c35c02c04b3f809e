use Rattle.std.proofs.Common.{◌/◌, ◌<◌, ℕ, length, sym, ap, ◌∙◌}
use Rattle.std.specs.Prelude.{slice_index}
use Rattle.fec_area.proofs.RestoringLemmas.{placed-none, placed-yes, placed-no}
use Rattle.fec_area.proofs.restoring.lost_places.Goals as goal
use Rattle.fec_area.proofs.restoring.lost_places.Goals.{then-is_beside+in_ok-push-2, else-is_beside}

pub loop-other-init : goal.loop-other-init
loop-other-init c =
    let rounds = c.rounds-rounds.result in
    rw (c.in_ok-push.ensures.ok, c.new-places.ensures.items)
    (placed-none c.args.sought.now.layout.now c.args.sought.now.lost.now c.args.sought.now.index (c.args.sought.now.index / rounds) (ap (λ (n : ℕ). c.args.sought.now.index / n) c.rounds-rounds.ensures.value) c.requires.layout c.requires.index)

pub loop-other-preserved : goal.loop-other-preserved
loop-other-preserved c =
    let l = c.args.sought.now.layout.now in
    let lost = c.args.sought.now.lost.now in
    let index = c.args.sought.now.index in
    let n = c.loop-other.other-index in
    let other = slice_index lost n in
    let items = c.loop-other.places.items in
    let here : n < length lost = c.loop-other-test.true in
    elim c.if-is_beside.branch [
      | then-is_beside+in_ok-push-2 w ↦
          rw w.places-is (rw w.in_ok-push-2.ensures.ok
          (placed-yes l lost index n items (other / c.rounds-rounds.result) c.requires.layout here (ap (λ (m : ℕ). other / m) c.rounds-rounds.ensures.value) (sym c.is_beside.ensures ∙ w.if-is_beside.true) c.loop-other.invariant))
      | else-is_beside w ↦ rw w.places-is (placed-no l lost index n items here (sym c.is_beside.ensures ∙ w.if-is_beside.false) c.loop-other.invariant)
    ]
