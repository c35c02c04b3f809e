use Rattle.std.proofs.Common.{subst}
use Rattle.stack_engine.specs.Syncs.{MakesSyncs}
use Rattle.request_queue.specs.World.{World, world, Syncs}
use Rattle.request_queue.proofs.RequestPieceLemmas.{is-synced}
use Rattle.request_queue.proofs.queue.Queue.sync.Goals as goal

pub returns-clause-step : goal.returns-clause-step
returns-clause-step g c =
    let q = c.self.inside in
    subst (λ w. Syncs w c.sync.result (world c.sync.new.self q.given q.flights.items)) c.self.view_is
    (is-synced (world q.stack q.given q.flights.items) c.sync.new.self c.sync.result c.sync.ensures.ok c.sync.ensures.config c.sync.ensures.capacity (c.sync.ensures.kept, c.sync.ensures.last) c.sync.ensures.restored c.sync.ensures.err)

pub returns-clause-called : goal.returns-clause-called
returns-clause-called g c = subst (λ (w : World). MakesSyncs g.D.BlockDev.state g.D.BlockDev.does w.stack.leaves c.sync.result c.sync.new.self.leaves) c.self.view_is c.sync.ensures.called
