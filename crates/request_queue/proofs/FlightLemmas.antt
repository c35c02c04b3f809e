-- The list of requests in flight.
use Rattle.std.proofs.Common.{◌≡◌, ◌<◌, ℕ, zero, suc, ◌+◌, ◌-◌, List, [], ◌∷◌, ◌++◌, length, get_or, take, drop, set, refl, ap, sym, ◌∙◌, subst, arith, Some}
use Rattle.std.specs.Prelude.{position, remove}
use Rattle.std.proofs.lemmas.List.Elements.{All-append, All-take, All-drop, All-set, All-cons, All-nil}
use Rattle.std.proofs.lemmas.List.{get_or-set_same}
use Rattle.std.proofs.lemmas.List.Quantifiers.{position-Some}
use Rattle.std.proofs.lemmas.Option.{slice_get_read}
use Rattle.stack_rules.specs.Records.{Configuration}
use Rattle.stack_engine.specs.Stacks.{AnswerRecord}
use Rattle.request_queue.specs.declared.range.SectorRange.{SectorRange}
use Rattle.request_queue.specs.Ranges.{IsRangeInside, range_after}
use Rattle.request_queue.specs.Flights.{FlightRecord, WorkRecord, reads, writes, has_ticket, next_flight, first_work, next_work, IsWorkOn, IsSoundFlight, IsAdmissible}
use Rattle.request_queue.specs.Requests.{RequestRecord}
use Rattle.request_queue.specs.World.{IsAt, IsSoundWorld, Rise}
use Rattle.request_queue.proofs.lemmas.TicketLemmas.{rise-push, rise-set, rise-remove}

-- ---- places

pub place-inside : (fs : List FlightRecord) (t i : ℕ) (f : FlightRecord) → Some i ≡ position (has_ticket t) fs → i < length fs
place-inside fs t i f e = (position-Some (has_ticket t) fs i f (sym e)).0

pub at-place : (fs : List FlightRecord) (t i : ℕ) (f : FlightRecord) → Some i ≡ position (has_ticket t) fs → f ≡ get_or fs i f → IsAt fs t i f
at-place fs t i f e is = record { place = sym e; is = slice_get_read fs (length fs) i f refl (place-inside fs t i f e) is }

-- what is read at a place that was set
pub read-set : (fs : List FlightRecord) (t i : ℕ) (f g : FlightRecord) → Some i ≡ position (has_ticket t) fs → g ≡ get_or (set fs i f) i g → g ≡ f
read-set fs t i f g e is = is ∙ get_or-set_same fs i f g (place-inside fs t i f e)

-- what was set at a place is removed with it
pub remove-set : {X : Type 0} (xs : List X) (i : ℕ) (x : X) → remove (set xs i x) i ≡ remove xs i
remove-set [] zero x = refl
remove-set [] (suc i) x = refl
remove-set (y ∷ ys) zero x = refl
remove-set (y ∷ ys) (suc i) x = ap (λ l. y ∷ l) (remove-set ys i x)

-- ---- what holds of every queue

pub inside-after : (c : Configuration) (range : SectorRange) (n : ℕ) → n < range.count → IsRangeInside c range → IsRangeInside c (range_after range n)
inside-after c range n h s = record { device = s.device; some = omega (arith, h); inside = omega (arith, h, s.inside); count = omega (arith, s.count); fits = omega (arith, h, s.fits) }

work-next : (c : Configuration) (d count : ℕ) (work : WorkRecord) (got : AnswerRecord) → IsWorkOn c d count work → IsWorkOn c d count (next_work work got)
work-next c d count (reads old) got h = h
work-next c d count (writes bytes) got h = h

pub sound-next : (c : Configuration) (f : FlightRecord) (n : ℕ) (got : AnswerRecord) → n < f.rest.count → IsSoundFlight c f → IsSoundFlight c (next_flight f n got)
sound-next c f n got h s =
    let all : f.rest.first - f.first + f.rest.count ≡ f.rest.first + n - f.first + (f.rest.count - n) = omega (arith, s.start, h) in
    record {
      inside = inside-after c f.rest n h s.inside;
      start = omega (arith, s.start);
      work = work-next c f.rest.device.0 (f.rest.first + n - f.first + (f.rest.count - n)) f.work got (subst (λ k. IsWorkOn c f.rest.device.0 k f.work) all s.work);
    }

-- an admitted request, of which nothing is done yet
pub sound-first : (c : Configuration) (range : SectorRange) (f : FlightRecord) (r : RequestRecord) → f.first ≡ range.first → f.rest ≡ range → f.work ≡ first_work r → IsAdmissible c r range → IsSoundFlight c f
sound-first c range f r first rest work a =
    let all : range.count ≡ f.rest.first - f.first + f.rest.count = omega (arith, first, ap (λ (x : SectorRange). x.first) rest, ap (λ (x : SectorRange). x.count) rest) in
    record {
      inside = subst (IsRangeInside c) (sym rest) a.inside;
      start = omega (arith, first, ap (λ (x : SectorRange). x.first) rest);
      work = subst (λ k. IsWorkOn c f.rest.device.0 k f.work) all
          (subst (λ (x : SectorRange). IsWorkOn c x.device.0 range.count f.work) (sym rest) (subst (λ x. IsWorkOn c range.device.0 range.count x) (sym work) a.work));
    }

pub sound-push : (c : Configuration) (given : ℕ) (fs : List FlightRecord) (f : FlightRecord) → f.ticket ≡ given + 1 → IsSoundFlight c f → IsSoundWorld c given fs → IsSoundWorld c (given + 1) (fs ++ f ∷ [])
sound-push c given fs f next one s = record {
  flights = All-append (IsSoundFlight c) fs (f ∷ []) s.flights (All-cons (IsSoundFlight c) f [] one (All-nil _));
  tickets = subst (λ high. Rise 0 (fs ++ f ∷ []) high) next (rise-push 0 given fs f (omega (arith, next)) s.tickets);
}

pub sound-set : (c c' : Configuration) (given : ℕ) (fs : List FlightRecord) (i : ℕ) (d f : FlightRecord) → c' ≡ c → f.ticket ≡ (get_or fs i d).ticket → IsSoundFlight c f → IsSoundWorld c given fs → IsSoundWorld c' given (set fs i f)
sound-set c c' given fs i d f config same one s = subst (λ x. IsSoundWorld x given (set fs i f)) (sym config) (record {
  flights = All-set (IsSoundFlight c) fs i f one s.flights;
  tickets = rise-set 0 given fs i d f same s.tickets;
})

pub sound-remove : (c c' : Configuration) (given : ℕ) (fs : List FlightRecord) (i : ℕ) → c' ≡ c → IsSoundWorld c given fs → IsSoundWorld c' given (remove fs i)
sound-remove c c' given fs i config s = subst (λ x. IsSoundWorld x given (remove fs i)) (sym config) (record {
  flights = All-append (IsSoundFlight c) (take i fs) (drop (suc i) fs) (All-take (IsSoundFlight c) i fs s.flights) (All-drop (IsSoundFlight c) (suc i) fs s.flights);
  tickets = rise-remove 0 given fs i s.tickets;
})
