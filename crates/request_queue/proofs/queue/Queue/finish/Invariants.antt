use Rattle.request_queue.specs.Runs.{rest}
use Rattle.request_queue.specs.PieceCalls.{CalledPart}
use Rattle.request_queue.proofs.FinishLemmas.{EndsFrom, Underway}
use Rattle.request_queue.proofs.queue.Queue.finish.Given as goal

abbrev pub invariant-pieces : goal.invariant-pieces
invariant-pieces g l = record {
  underway : Underway l.fn.self l.ticket.0 l.self;
  called : EndsFrom (CalledPart g.D.BlockDev.state g.D.BlockDev.does) l.fn.self l.ticket.0 l.self;
}

abbrev pub decreases-pieces : goal.decreases-pieces
decreases-pieces g l = rest l.ticket.0 l.self
