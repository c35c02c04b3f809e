use Rattle.fec_area.proofs.RestoringLemmas.{ArePlaced}
use Rattle.fec_area.proofs.restoring.lost_places.Given as goal

-- the blocks so far
abbrev pub invariant-loop-other : goal.invariant-loop-other
invariant-loop-other l = ArePlaced l.sought.layout.now l.sought.lost.now l.sought.index l.other-index l.places.items
