use Rattle.std.proofs.Common.{subst}
use Rattle.request_queue.specs.Parts.{EachPart}
use Rattle.request_queue.specs.PieceCalls.{CalledPart}
use Rattle.request_queue.proofs.lemmas.TicketLemmas.{not-found}
use Rattle.request_queue.specs.World.{Serves, at_once, later}
use Rattle.request_queue.proofs.FinishLemmas.{further}
use Rattle.request_queue.proofs.queue.Queue.finish.Goals as goal

pub pieces-smaller : goal.pieces-smaller
pieces-smaller g c =
    let more = subst (λ p. Serves EachPart c.pieces.self c.args.ticket.0 p c.step.new.self) c.in-Ok-More.field-0-is c.in-Ok-More.ensures.step in
    (further c.args.self.now c.args.ticket.0 c.pieces.self c.step.new.self c.pieces.invariant.underway more).less

pub pieces-preserved : goal.pieces-preserved
pieces-preserved g c =
    let more = subst (λ p. Serves EachPart c.pieces.self c.args.ticket.0 p c.step.new.self) c.in-Ok-More.field-0-is c.in-Ok-More.ensures.step in
    let called = subst (λ p. Serves (CalledPart g.D.BlockDev.state g.D.BlockDev.does) c.pieces.self c.args.ticket.0 p c.step.new.self) c.in-Ok-More.field-0-is c.in-Ok-More.ensures.called in
    record {
      underway = (further c.args.self.now c.args.ticket.0 c.pieces.self c.step.new.self c.pieces.invariant.underway more).underway;
      called = λ answer v ends. c.pieces.invariant.called answer v (later called ends);
    }

pub returns-in-Ok-Done-clause-ends : goal.returns-in-Ok-Done-clause-ends
returns-in-Ok-Done-clause-ends g c =
    let done = subst (λ p. Serves EachPart c.pieces.self c.args.ticket.0 p c.step.new.self) c.in-Ok-Done.field-0-is c.in-Ok-Done.ensures.step in
    c.pieces.invariant.underway.so_far c.in-Ok-Done.answer c.step.new.self (at_once done)

pub returns-in-Ok-Done-clause-called : goal.returns-in-Ok-Done-clause-called
returns-in-Ok-Done-clause-called g c =
    let done = subst (λ p. Serves (CalledPart g.D.BlockDev.state g.D.BlockDev.does) c.pieces.self c.args.ticket.0 p c.step.new.self) c.in-Ok-Done.field-0-is c.in-Ok-Done.ensures.called in
    c.pieces.invariant.called c.in-Ok-Done.answer c.step.new.self (at_once done)

pub unreachable-requires : goal.unreachable-requires
unreachable-requires g c = c.pieces.invariant.underway.there (not-found c.args.ticket.0 c.pieces.self.in_flight c.in-Err.ensures.step.0)
