use Rattle.std.proofs.Common.{◌≡◌, ◌<◌, ◌≤◌, ℕ, set, ap, ◌∙◌, subst, arith, Ok, Err}
use Rattle.request_queue.specs.declared.reply.Progress.TheVariants.{More, Done}
use Rattle.request_queue.specs.Flights.{reply_to}
use Rattle.request_queue.specs.Parts.{EachPart}
use Rattle.request_queue.specs.PieceCalls.{CalledPart}
use Rattle.request_queue.specs.World.{world, Serves}
use Rattle.request_queue.proofs.FlightLemmas.{read-set}
use Rattle.request_queue.proofs.RequestPieceLemmas.{step-fails, step-more, step-done, sound-fails, sound-more, sound-done}
use Rattle.request_queue.proofs.queue.Queue.step.Goals as goal

still : {n a b : ℕ} → a ≡ b → n ≡ a → 0 < n → 0 < b
still e h p = omega (arith, e, h, p)

none : {n a b : ℕ} → a ≡ b → n ≡ a → n ≤ 0 → b ≤ 0
none e h p = omega (arith, e, h, p)

pub invariant_of-self : goal.invariant_of-self
invariant_of-self g c =
    let q = c.self.inside in
    sound-fails q.stack c.serve.new.stack q.given q.flights.items c.remove.new.self.items c.in-Some.place c.index_mut.result.now c.serve.new.self c.in-Err.fault
    c.in-Err.ensures.err c.remove.ensures.items c.self.invariant

pub invariant_of-self-then-left-gt0 : goal.invariant_of-self-then-left-gt0
invariant_of-self-then-left-gt0 g c =
    let q = c.self.inside in
    sound-more q.stack c.serve.new.stack q.given q.flights.items c.args.ticket.0 c.in-Some.place c.index_mut.result.now c.serve.new.self
    (rw c.as_slice.ensures.value at c.in-Some.ensures) c.index_mut.ensures.value c.in-Ok.ensures.ok
    (still (ap (λ f. f.rest.count) (read-set q.flights.items c.args.ticket.0 c.in-Some.place c.serve.new.self c.index.result.now (rw c.as_slice.ensures.value at c.in-Some.ensures) c.index.ensures)) c.left.ensures c.if-left-gt0.true)
    c.self.invariant

pub invariant_of-self-in-Ok-2 : goal.invariant_of-self-in-Ok-2
invariant_of-self-in-Ok-2 g c =
    let q = c.self.inside in
    sound-done q.stack c.serve.new.stack q.given q.flights.items c.remove-flight.new.self.items c.in-Some.place c.index_mut.result.now c.serve.new.self
    c.in-Ok-2.ensures.ok c.remove-flight.ensures.items c.self.invariant

pub returns-in-Err-clause-step : goal.returns-in-Err-clause-step
returns-in-Err-clause-step g c =
    let q = c.self.inside in
    subst (λ w. Serves EachPart w c.args.ticket.0 (Done (Err c.in-Err.fault)) (world c.serve.new.stack q.given c.remove.new.self.items)) c.self.view_is
    (step-fails q.stack c.serve.new.stack q.given q.flights.items c.remove.new.self.items c.args.ticket.0 c.in-Some.place c.index_mut.result.now c.serve.new.self
    (rw c.as_slice.ensures.value at c.in-Some.ensures) c.index_mut.ensures.value c.in-Err.fault c.in-Err.ensures.err c.remove.ensures.items)

pub returns-in-Ok-clause-step : goal.returns-in-Ok-clause-step
returns-in-Ok-clause-step g c =
    let q = c.self.inside in
    subst (λ w. Serves EachPart w c.args.ticket.0 More (world c.serve.new.stack q.given (set q.flights.items c.in-Some.place c.serve.new.self))) c.self.view_is
    (step-more q.stack c.serve.new.stack q.given q.flights.items q.flights.items c.args.ticket.0 c.in-Some.place c.index_mut.result.now c.serve.new.self
    (rw c.as_slice.ensures.value at c.in-Some.ensures) c.index_mut.ensures.value c.in-Ok.ensures.ok
    (still (ap (λ f. f.rest.count) (read-set q.flights.items c.args.ticket.0 c.in-Some.place c.serve.new.self c.index.result.now (rw c.as_slice.ensures.value at c.in-Some.ensures) c.index.ensures)) c.left.ensures c.if-left-gt0.true))

pub returns-in-Ok-2-clause-step : goal.returns-in-Ok-2-clause-step
returns-in-Ok-2-clause-step g c =
    let q = c.self.inside in
    let place = rw c.as_slice.ensures.value at c.in-Some.ensures in
    subst (λ w. Serves EachPart w c.args.ticket.0 (Done (Ok c.into_reply.result)) (world c.serve.new.stack q.given c.remove-flight.new.self.items)) c.self.view_is
    (step-done q.stack c.serve.new.stack q.given q.flights.items c.remove-flight.new.self.items c.args.ticket.0 c.in-Some.place c.index_mut.result.now c.serve.new.self
    place c.index_mut.ensures.value c.into_reply.result c.in-Ok-2.ensures.ok
    (none (ap (λ f. f.rest.count) (read-set q.flights.items c.args.ticket.0 c.in-Some.place c.serve.new.self c.index.result.now place c.index.ensures)) c.left.ensures c.if-left-gt0.false)
    (c.into_reply.ensures ∙ ap (λ f. reply_to f.work) (read-set q.flights.items c.args.ticket.0 c.in-Some.place c.serve.new.self c.remove-flight.result place c.remove-flight.ensures.value))
    c.remove-flight.ensures.items)

-- by the calls

pub returns-in-Err-clause-called : goal.returns-in-Err-clause-called
returns-in-Err-clause-called g c =
    let q = c.self.inside in
    subst (λ w. Serves (CalledPart g.D.BlockDev.state g.D.BlockDev.does) w c.args.ticket.0 (Done (Err c.in-Err.fault)) (world c.serve.new.stack q.given c.remove.new.self.items)) c.self.view_is
    (step-fails q.stack c.serve.new.stack q.given q.flights.items c.remove.new.self.items c.args.ticket.0 c.in-Some.place c.index_mut.result.now c.serve.new.self
    (rw c.as_slice.ensures.value at c.in-Some.ensures) c.index_mut.ensures.value c.in-Err.fault c.in-Err.ensures.failed c.remove.ensures.items)

pub returns-in-Ok-clause-called : goal.returns-in-Ok-clause-called
returns-in-Ok-clause-called g c =
    let q = c.self.inside in
    subst (λ w. Serves (CalledPart g.D.BlockDev.state g.D.BlockDev.does) w c.args.ticket.0 More (world c.serve.new.stack q.given (set q.flights.items c.in-Some.place c.serve.new.self))) c.self.view_is
    (step-more q.stack c.serve.new.stack q.given q.flights.items q.flights.items c.args.ticket.0 c.in-Some.place c.index_mut.result.now c.serve.new.self
    (rw c.as_slice.ensures.value at c.in-Some.ensures) c.index_mut.ensures.value c.in-Ok.ensures.called
    (still (ap (λ f. f.rest.count) (read-set q.flights.items c.args.ticket.0 c.in-Some.place c.serve.new.self c.index.result.now (rw c.as_slice.ensures.value at c.in-Some.ensures) c.index.ensures)) c.left.ensures c.if-left-gt0.true))

pub returns-in-Ok-2-clause-called : goal.returns-in-Ok-2-clause-called
returns-in-Ok-2-clause-called g c =
    let q = c.self.inside in
    let place = rw c.as_slice.ensures.value at c.in-Some.ensures in
    subst (λ w. Serves (CalledPart g.D.BlockDev.state g.D.BlockDev.does) w c.args.ticket.0 (Done (Ok c.into_reply.result)) (world c.serve.new.stack q.given c.remove-flight.new.self.items)) c.self.view_is
    (step-done q.stack c.serve.new.stack q.given q.flights.items c.remove-flight.new.self.items c.args.ticket.0 c.in-Some.place c.index_mut.result.now c.serve.new.self
    place c.index_mut.ensures.value c.into_reply.result c.in-Ok-2.ensures.called
    (none (ap (λ f. f.rest.count) (read-set q.flights.items c.args.ticket.0 c.in-Some.place c.serve.new.self c.index.result.now place c.index.ensures)) c.left.ensures c.if-left-gt0.false)
    (c.into_reply.ensures ∙ ap (λ f. reply_to f.work) (read-set q.flights.items c.args.ticket.0 c.in-Some.place c.serve.new.self c.remove-flight.result place c.remove-flight.ensures.value))
    c.remove-flight.ensures.items)
