use Rattle.std.proofs.Common.{◌≡◌, [], length}
use Rattle.rescue_map.specs.Aheads.{losts_ahead, marks_ahead, statuses_ahead}
use Rattle.rescue_map.proofs.ahead.Ahead.next_run.Given as goal

abbrev pub invariant-runs : goal.invariant-runs
invariant-runs l = record {
  marks : marks_ahead l.self ≡ marks_ahead l.fn.self;
  lost : losts_ahead l.self ≡ losts_ahead l.fn.self;
  status : statuses_ahead l.self ≡ statuses_ahead l.fn.self;
  single : l.fn.self.rest.now ≡ [] → l.self.rest.now ≡ [];
}

abbrev pub decreases-runs : goal.decreases-runs
decreases-runs l = length l.self.rest.now
