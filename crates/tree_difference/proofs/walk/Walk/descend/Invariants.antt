use Rattle.std.proofs.Common.{◌*◌, ◌-◌, ◌/◌, ◌≤◌}
use Rattle.verity_format.specs.Blocks.{IsFullRead}
use Rattle.tree_difference.specs.Walks.{AreSameTrees, IsOn}
use Rattle.tree_difference.proofs.walk.Walk.descend.Given as goal

abbrev pub invariant-levels : goal.invariant-levels
invariant-levels g l = record {
  trees : AreSameTrees l.fn.self l.self;
  few : l.level ≤ l.top;
  on : IsOn l.self (g.D.BlockDev.state l.fn.first) (g.E.BlockDev.state l.fn.second) l.index l.level;
  first_read : IsFullRead (g.D.BlockDev.state l.fn.first) ((l.top - l.level) * (l.fn.self.first.shape.hash_block / 512)) (g.D.BlockDev.state l.first);
  second_read : IsFullRead (g.E.BlockDev.state l.fn.second) ((l.top - l.level) * (l.fn.self.second.shape.hash_block / 512)) (g.E.BlockDev.state l.second);
}

abbrev pub decreases-levels : goal.decreases-levels
decreases-levels g l = l.level
