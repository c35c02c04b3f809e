-- One piece of a request, a read at once and a sync, as steps of the world.
use Rattle.std.proofs.Common.{◌≡◌, ◌<◌, ◌≤◌, ◌-◌, ◌/◌, ℕ, List, map, get_or, set, refl, ap, sym, ◌∙◌, subst, arith, Some, Result, Ok, Err}
use Rattle.std.specs.Prelude.{IfErr, OnOk, position, remove}
use Rattle.block_device.specs.Call.{Call}
use Rattle.block_device.specs.Device.{Device, synced}
use Rattle.stack_meaning.specs.declared.fault.IoFault.{IoFault}
use Rattle.stack_engine.specs.Stacks.{StackRecord, AnswerRecord}
use Rattle.stack_engine.specs.Syncs.{FailsToSync}
use Rattle.stack_engine.proofs.lemmas.PieceLemmas.{same-stack}
use Rattle.request_queue.specs.declared.range.SectorRange.{SectorRange}
use Rattle.request_queue.specs.declared.reply.Progress.TheVariants.{More, Done}
use Rattle.request_queue.specs.declared.reply.Reply.{Reply}
use Rattle.request_queue.specs.Flights.{FlightRecord, IsSoundFlight, reply_to, has_ticket}
use Rattle.request_queue.specs.Parts.{PartRelation, EachPart, AsksPiece, part_of_work, done_of}
use Rattle.request_queue.specs.declared.fault.PieceFault.{PieceFault}
use Rattle.request_queue.specs.AtOnce.{IsRangeRead}
use Rattle.request_queue.specs.PieceCalls.{CalledPart, GivesInTurn}
use Rattle.request_queue.specs.Ranges.{bytes_range, piece_len, range_at}
use Rattle.request_queue.specs.Replies.{bytes_given}
use Rattle.request_queue.specs.World.{World, world, BytesRead, Serves, Syncs, IsSoundWorld}
use Rattle.request_queue.specs.Serving.{NextPiece, FailedPiece}
use Rattle.request_queue.proofs.lemmas.BytesLemmas.{bytes_range-ok}
use Rattle.request_queue.proofs.lemmas.PartLemmas.{any-keeps, each-any}
use Rattle.request_queue.proofs.FlightLemmas.{place-inside, at-place, remove-set, sound-next, sound-set, sound-remove}

module _ (v v' : StackRecord) (given : ℕ) (fs fs' : List FlightRecord) (t i : ℕ) (f f' : FlightRecord) {part : PartRelation} (place : Some i ≡ position (has_ticket t) fs) (e : f ≡ get_or fs i f) where
  pub step-fails : (fault : IoFault) → FailedPiece part v f fault v' → fs' ≡ remove (set fs i f') i → Serves part (world v given fs) t (Done (Err fault)) (world v' given fs')
  step-fails fault p r = record {
    i = i;
    f = f;
    at = at-place fs t i f place e;
    some = p.some;
    answers = record { stack = v'; asks = p.answered; leaves = ap (world v' given) (r ∙ remove-set fs i f') };
  }

  pub step-more : NextPiece part v f v' f' → 0 < f'.rest.count → Serves part (world v given fs) t More (world v' given (set fs i f'))
  step-more p some =
      let left : f'.rest.count ≡ f.rest.count - piece_len v.config f.rest = ap (λ x. x.rest.count) p.is in
      record {
        i = i;
        f = f;
        at = at-place fs t i f place e;
        some = p.some;
        answers = record { got = p.got; stack = v'; asks = p.answered; rest = omega (arith, some, left); leaves = ap (λ x. world v' given (set fs i x)) p.is };
      }

  pub step-done : (reply : Reply) → NextPiece part v f v' f' → f'.rest.count ≤ 0 → reply ≡ reply_to f'.work → fs' ≡ remove (set fs i f') i → Serves part (world v given fs) t (Done (Ok reply)) (world v' given fs')
  step-done reply p none is r =
      let left : f'.rest.count ≡ f.rest.count - piece_len v.config f.rest = ap (λ x. x.rest.count) p.is in
      record {
        i = i;
        f = f;
        at = at-place fs t i f place e;
        some = p.some;
        answers = record {
          got = p.got;
          stack = v';
          asks = p.answered;
          last = omega (arith, none, left, p.most);
          replies = is ∙ ap (λ x. reply_to x.work) p.is;
          leaves = ap (world v' given) (r ∙ remove-set fs i f');
        };
      }

-- ---- the invariant

same-config : (v v' : StackRecord) (f : FlightRecord) (answer : Result AnswerRecord IoFault) → AsksPiece EachPart v f answer v' → v'.config ≡ v.config
same-config v v' f answer p =
    let part = part_of_work f.work (done_of f) (piece_len v.config f.rest) in
    (any-keeps v f.rest.device.0 f.rest.first part answer v' (each-any v f.rest.device.0 f.rest.first part answer v' p)).config

pub sound-fails : (v v' : StackRecord) (given : ℕ) (fs fs' : List FlightRecord) (i : ℕ) (f f' : FlightRecord) (fault : IoFault)
    → FailedPiece EachPart v f fault v' → fs' ≡ remove (set fs i f') i → IsSoundWorld v.config given fs → IsSoundWorld v'.config given fs'
sound-fails v v' given fs fs' i f f' fault p r s =
    subst (λ l. IsSoundWorld v'.config given l) (sym (r ∙ remove-set fs i f')) (sound-remove v.config v'.config given fs i (same-config v v' f (Err fault) p.answered) s)

pub sound-more : (v v' : StackRecord) (given : ℕ) (fs : List FlightRecord) (t i : ℕ) (f f' : FlightRecord) → Some i ≡ position (has_ticket t) fs → f ≡ get_or fs i f
    → NextPiece EachPart v f v' f' → 0 < f'.rest.count → IsSoundWorld v.config given fs → IsSoundWorld v'.config given (set fs i f')
sound-more v v' given fs t i f f' place e p some s =
    let n = piece_len v.config f.rest in
    let left : f'.rest.count ≡ f.rest.count - n = ap (λ x. x.rest.count) p.is in
    let here : IsSoundFlight v.config f = subst (IsSoundFlight v.config) (sym e) (s.flights i f (place-inside fs t i f place)) in
    let one : IsSoundFlight v.config f' = subst (IsSoundFlight v.config) (sym p.is) (sound-next v.config f n p.got (omega (arith, some, left)) here) in
    sound-set v.config v'.config given fs i f f' (same-config v v' f (Ok p.got) p.answered) (ap (λ x. x.ticket) p.is ∙ ap (λ x. x.ticket) e) one s

pub sound-done : (v v' : StackRecord) (given : ℕ) (fs fs' : List FlightRecord) (i : ℕ) (f f' : FlightRecord)
    → NextPiece EachPart v f v' f' → fs' ≡ remove (set fs i f') i → IsSoundWorld v.config given fs → IsSoundWorld v'.config given fs'
sound-done v v' given fs fs' i f f' p r s =
    subst (λ l. IsSoundWorld v'.config given l) (sym (r ∙ remove-set fs i f')) (sound-remove v.config v'.config given fs i (same-config v v' f (Ok p.got) p.answered) s)

-- ---- a read at once

pub bytes-done : (v v' : StackRecord) (given : ℕ) (fs : List FlightRecord) (d first size : ℕ) (range : SectorRange) (answer : Result (List ℕ) PieceFault) → Ok range ≡ bytes_range v.config d first size
    → IsRangeRead v (range_at d first (size / 512)) answer v' → BytesRead EachPart (world v given fs) d first size (bytes_given answer) (world v' given fs)
bytes-done v v' given fs d first size range (Ok bytes) found read = record {
  range = range_at d first (size / 512);
  admits = sym found ∙ ap Ok (sym (bytes_range-ok v.config d first size range (sym found)));
  stack = v';
  asks = record { answered = read.each; kept = read.kept };
  leaves = refl;
}
bytes-done v v' given fs d first size range (Err piece) found read = record {
  range = range_at d first (size / 512);
  admits = sym found ∙ ap Ok (sym (bytes_range-ok v.config d first size range (sym found)));
  stack = v';
  asks = record { answered = read.each; kept = read.kept };
  leaves = refl;
}

pub bytes-called : {D : Type 0} {state : D → Device} {does : D → Call → D → Type 0} (v v' : StackRecord) (given : ℕ) (fs : List FlightRecord) (d first size : ℕ) (range : SectorRange) (answer : Result (List ℕ) IoFault) → Ok range ≡ bytes_range v.config d first size
    → GivesInTurn state does (range_at d first (size / 512)) v answer v' → BytesRead (CalledPart state does) (world v given fs) d first size answer (world v' given fs)
bytes-called v v' given fs d first size range (Ok bytes) found gives = record {
  range = range_at d first (size / 512);
  admits = sym found ∙ ap Ok (sym (bytes_range-ok v.config d first size range (sym found)));
  stack = v';
  asks = gives;
  leaves = refl;
}
bytes-called v v' given fs d first size range (Err fault) found gives = record {
  range = range_at d first (size / 512);
  admits = sym found ∙ ap Ok (sym (bytes_range-ok v.config d first size range (sym found)));
  stack = v';
  asks = gives;
  leaves = refl;
}

-- ---- a sync

pub is-synced : (w : World) (v : StackRecord) (result : Result Unit IoFault) → OnOk result (v.leaves ≡ map synced w.stack.leaves) → v.config ≡ w.stack.config → v.capacity ≡ w.stack.capacity → (v.kept ≡ w.stack.kept) × (v.last ≡ w.stack.last) → v.restored ≡ w.stack.restored → IfErr result (FailsToSync w.stack.leaves v.leaves)
    → Syncs w result (world v w.given w.in_flight)
is-synced w v (Ok done) same config capacity kept restored fails = ap (λ (x : StackRecord). world x w.given w.in_flight) (same-stack v (record w.stack { leaves = map synced w.stack.leaves }) config same capacity kept restored)
is-synced w v (Err fault) same config capacity kept restored fails = record {
  after = v.leaves;
  fails = fails;
  leaves = ap (λ (x : StackRecord). world x w.given w.in_flight) (same-stack v (record w.stack { leaves = v.leaves }) config refl capacity kept restored);
}
