use Rattle.std.proofs.Common.{◌≡◌, ◌+◌, ◌++◌, ◌∷◌, [], subst, sym, refl}
use Rattle.request_queue.specs.Requests.{request_record}
use Rattle.request_queue.specs.Flights.{FlightRecord, IsAdmissible, IsSoundFlight, work_record}
use Rattle.request_queue.specs.World.{World, IsSoundWorld}
use Rattle.request_queue.proofs.FlightLemmas.{sound-first, sound-push}
use Rattle.request_queue.proofs.queue.Queue.submit.Goals as goal

pub invariant_of-self-2 : goal.invariant_of-self-2
invariant_of-self-2 g c =
    let q = c.self.inside in
    let range = c.in-Ok.range in
    let f : FlightRecord = record { ticket = q.given + 1; first = range.first; rest = range; work = work_record c.in-Ok-new.work } in
    let pushed : c.push.new.v.items ≡ c.reserve.new.v.items ++ c.new-2.result ∷ [] = rw c.unwrap.ensures at c.push.ensures.ok in
    let all : c.push.new.v.items ≡ q.flights.items ++ f ∷ [] = rw c.new-2.ensures at (rw c.reserve.ensures.same at pushed) in
    let fit : IsAdmissible q.stack.config (request_record c.args.request) range = subst (λ (w : World). IsAdmissible w.stack.config (request_record c.args.request) range) (sym c.self.view_is) c.in-Ok.ensures.admissible in
    let sound : IsSoundFlight q.stack.config f = sound-first q.stack.config range f (request_record c.args.request) refl refl c.in-Ok-new.ensures.ok fit in
    subst (λ l. IsSoundWorld q.stack.config (q.given + 1) l) (sym all)
    (sound-push q.stack.config q.given q.flights.items f refl sound c.self.invariant)
