use Rattle.std.proofs.Common.{◌+◌, ◌-◌, subst, sym}
use Rattle.request_queue.specs.Flights.{FlightRecord, IsWorkOn}
use Rattle.request_queue.proofs.flight.Flight.serve.Goals as goal

pub serve-requires-clause-work : goal.serve-requires-clause-work
serve-requires-clause-work g c = (
  c.self.inside.rest.count,
  c.piece_len-count.ensures.inside,
  subst (λ (f : FlightRecord). IsWorkOn c.args.stack.now.config f.rest.device.0 (f.rest.first - f.first + f.rest.count) f.work) (sym c.self.view_is) c.requires.work,
)
