use Rattle.std.proofs.Common.{◌-◌, ◌≤◌}
use Rattle.stack_engine.specs.SectorCalls.{AreReadTogether, last_bytes, place_in}
use Rattle.stack_engine.proofs.rows.taken_in_a_row.Given as goal

abbrev pub invariant-loop-many : goal.invariant-loop-many
invariant-loop-many l = record {
  most : l.many ≤ l.room;
  together : AreReadTogether (place_in l.verity l.tree l.index) (last_bytes l.path) l.most l.many;
}

abbrev pub decreases-loop-many : goal.decreases-loop-many
decreases-loop-many l = l.room - l.many
