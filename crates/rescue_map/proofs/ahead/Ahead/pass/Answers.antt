use Rattle.rescue_map.specs.Maps.{losts, marks}
use Rattle.rescue_map.specs.Stages.{run_status, statuses}
use Rattle.rescue_map.proofs.SpliceLemmas.{replicate-parts}
use Rattle.rescue_map.proofs.ahead.Ahead.pass.Goals as goal

pub returns-clause-marks : goal.returns-clause-marks
returns-clause-marks c = replicate-parts c.args.count c.args.self.now.first.count c.args.self.now.first.had (marks c.args.self.now.rest.now) c.requires

pub returns-clause-lost : goal.returns-clause-lost
returns-clause-lost c = replicate-parts c.args.count c.args.self.now.first.count c.args.self.now.first.lost (losts c.args.self.now.rest.now) c.requires

pub returns-clause-status : goal.returns-clause-status
returns-clause-status c = replicate-parts c.args.count c.args.self.now.first.count (run_status c.args.self.now.first) (statuses c.args.self.now.rest.now) c.requires
