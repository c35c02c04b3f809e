-- Steps of one write up to its last, with nothing in between.
use Rattle.std.proofs.Common.{◌≡◌, ◌<◌, ◌≤◌, ℕ, ◌+◌, ◌*◌, ◌/◌, ◌%◌, List, [], ◌++◌, length, take, drop, refl, ap, sym, ◌∙◌, subst, arith, Some, Result, Ok, Err}
use Rattle.std.proofs.lemmas.List.{length-take-le, take-append-drop}
use Rattle.std.proofs.Math.Seq.{take-length, take-add}
use Rattle.stack_rules.specs.Rules.{IsLoaded}
use Rattle.stack_meaning.specs.declared.fault.IoFault.{IoFault}
use Rattle.stack_meaning.specs.declared.fault.IoFault.TheVariants as io
use Rattle.stack_engine.specs.WritePieces.{EachWrite, WritesInPieces}
use Rattle.stack_engine.specs.Stacks.{StackRecord, AnswerRecord}
use Rattle.stack_engine.proofs.lemmas.PieceLemmas.{same-stack}
use Rattle.stack_engine.proofs.lemmas.WritePieceLemmas.{write-none, write-then, write-ends}
use Rattle.request_queue.specs.declared.range.SectorRange.{SectorRange}
use Rattle.request_queue.specs.declared.reply.Progress.TheVariants.{More, Done}
use Rattle.request_queue.specs.declared.reply.Reply.{Reply}
use Rattle.request_queue.specs.declared.reply.Reply.TheVariants.{Written}
use Rattle.request_queue.specs.Requests.{a_write}
use Rattle.request_queue.specs.Flights.{FlightRecord, writes, first_flight, next_flight, next_work, reply_to}
use Rattle.request_queue.specs.Parts.{EachPart, AsksPiece, ending, part_of_work, done_of}
use Rattle.request_queue.specs.World.{World, Serves, Begins, EndsRequest, at_once, later, next_count}
use Rattle.request_queue.specs.Runs.{flight_of}
use Rattle.request_queue.specs.WholeRuns.{WritesWhole, Whole}
use Rattle.request_queue.proofs.lemmas.PremiseLemmas.{serves-any}
use Rattle.request_queue.proofs.lemmas.BudgetLemmas.{InOrder, has-served, newly, piece_len-within}
use Rattle.request_queue.proofs.lemmas.ServedLemmas.{same-flight, after-more}

-- a write of bytes from the first sector on, of which as many sectors were written as are done
pub record WriteSoFar (base : StackRecord) (range : SectorRange) (bytes : List ℕ) (t : ℕ) (w : World) : Type 0 where
  pub f : FlightRecord
  pub there : flight_of w t ≡ Some f
  pub order : InOrder w
  pub device : f.rest.device ≡ range.device
  pub first : f.first ≡ range.first
  pub done : ℕ
  pub at : f.rest.first ≡ range.first + done
  pub left : done + f.rest.count ≡ range.count
  pub work : f.work ≡ writes bytes
  pub put : WritesInPieces base range.device.0 range.first (take (512 * done) bytes) (Ok tt) w.stack

-- the next sectors of some bytes
abbrev next_bytes : List ℕ → ℕ → ℕ → List ℕ
next_bytes bytes done n = take (512 * n) (drop (512 * done) bytes)

-- the part that a step of it writes
written-part : (base : StackRecord) (range : SectorRange) (bytes : List ℕ) (t : ℕ) (w w' : World) (u : WriteSoFar base range bytes t w) (f : FlightRecord) (answer : Result AnswerRecord IoFault) (stack : StackRecord)
    → f ≡ u.f → stack ≡ w'.stack → AsksPiece EachPart w.stack f answer stack → EachWrite w.stack range.device.0 (range.first + u.done) (next_bytes bytes u.done (next_count w f)) (ending answer) w'.stack
written-part base range bytes t w w' u f answer stack same now p =
    let n = next_count w f in
    let work : f.work ≡ writes bytes = ap (λ (x : FlightRecord). x.work) same ∙ u.work in
    let first : f.rest.first ≡ range.first + u.done = ap (λ (x : FlightRecord). x.rest.first) same ∙ u.at in
    let start : f.first ≡ range.first = ap (λ (x : FlightRecord). x.first) same ∙ u.first in
    let done : done_of f ≡ u.done = omega (arith, first, start) in
    let device : f.rest.device.0 ≡ range.device.0 = ap (λ (x : FlightRecord). x.rest.device.0) same ∙ ap (λ d. d.0) u.device in
    let piece : EachWrite w.stack f.rest.device.0 f.rest.first (next_bytes bytes (done_of f) n) (ending answer) stack =
    (subst (λ x. EachPart w.stack f.rest.device.0 f.rest.first (part_of_work x (done_of f) n) answer stack) work p).answered in
    subst (λ (x : StackRecord). EachWrite w.stack range.device.0 (range.first + u.done) (next_bytes bytes u.done n) (ending answer) x) now
    (subst (λ k. EachWrite w.stack range.device.0 (range.first + u.done) (next_bytes bytes k n) (ending answer) stack) done
    (subst (λ k. EachWrite w.stack range.device.0 k (next_bytes bytes (done_of f) n) (ending answer) stack) first
    (subst (λ d. EachWrite w.stack d f.rest.first (next_bytes bytes (done_of f) n) (ending answer) stack) device piece)))

-- the bytes so far and those of the next piece
next_bytes-seam : (bytes : List ℕ) (a n : ℕ) → take (512 * a) bytes ++ next_bytes bytes a n ≡ take (512 * (a + n)) bytes
next_bytes-seam bytes a n =
    let more : 512 * a + 512 * n ≡ 512 * (a + n) = omega arith in
    sym (take-add (512 * a) (512 * n) bytes) ∙ ap (λ k. take k bytes) more

next_bytes-rest : (bytes : List ℕ) (a n : ℕ) → take (512 * a) bytes ++ (next_bytes bytes a n ++ drop (512 * n) (drop (512 * a) bytes)) ≡ bytes
next_bytes-rest bytes a n = ap (λ l. take (512 * a) bytes ++ l) (take-append-drop (512 * n) (drop (512 * a) bytes)) ∙ take-append-drop (512 * a) bytes

module _ (base : StackRecord) (loaded : IsLoaded base.config) (range : SectorRange) (bytes : List ℕ) (len : length bytes ≡ 512 * range.count) (t : ℕ) where
  front-length : (a : ℕ) → a ≤ range.count → length (take (512 * a) bytes) ≡ 512 * a
  front-length a h = length-take-le (512 * a) bytes (omega (arith, len, h))

  -- the next part, after those before it
  module _ (w w' : World) (u : WriteSoFar base range bytes t w) (n : ℕ) (inside : u.done + n ≤ range.count) where
    front-whole : length (take (512 * u.done) bytes) % 512 ≡ 0
    front-whole = omega (arith, front-length u.done (omega (arith, inside)))

    next-at : range.first + u.done ≡ range.first + length (take (512 * u.done) bytes) / 512
    next-at = omega (arith, front-length u.done (omega (arith, inside)))

    put-more : EachWrite w.stack range.device.0 (range.first + u.done) (next_bytes bytes u.done n) (Ok tt) w'.stack → WritesInPieces base range.device.0 range.first (take (512 * (u.done + n)) bytes) (Ok tt) w'.stack
    put-more p =
        subst (λ l. WritesInPieces base range.device.0 range.first l (Ok tt) w'.stack) (next_bytes-seam bytes u.done n)
        (write-then range.device.0 range.first (take (512 * u.done) bytes) (next_bytes bytes u.done n) front-whole u.put
        (subst (λ k. EachWrite w.stack range.device.0 k (next_bytes bytes u.done n) (Ok tt) w'.stack) next-at p))

    put-ends : (fault : IoFault) → (fault ≡ io.NoMemory → ⊥) → EachWrite w.stack range.device.0 (range.first + u.done) (next_bytes bytes u.done n) (Err fault) w'.stack → WritesInPieces base range.device.0 range.first bytes (Err fault) w'.stack
    put-ends fault kind p =
        subst (λ l. WritesInPieces base range.device.0 range.first l (Err fault) w'.stack) (next_bytes-rest bytes u.done n)
        (write-ends range.device.0 range.first (take (512 * u.done) bytes) (next_bytes bytes u.done n) front-whole u.put
        (drop (512 * n) (drop (512 * u.done) bytes)) fault kind
        (subst (λ k. EachWrite w.stack range.device.0 k (next_bytes bytes u.done n) (Err fault) w'.stack) next-at p))

    -- where memory ran out nothing more was written
    put-nothing : EachWrite w.stack range.device.0 (range.first + u.done) (next_bytes bytes u.done n) (Err io.NoMemory) w'.stack → WritesInPieces base range.device.0 range.first (take (512 * u.done) bytes) (Ok tt) w'.stack
    put-nothing p =
        let same : w.stack ≡ w'.stack = same-stack w.stack w'.stack (sym p.any.config) (sym p.any.ends.0) (sym p.any.capacity) (sym (p.any.short refl).0, sym (p.any.short refl).1) (sym p.any.restored) in
        subst (λ x. WritesInPieces base range.device.0 range.first (take (512 * u.done) bytes) (Ok tt) x) same u.put

    put-fails : (fault : IoFault) → u.done < range.count → EachWrite w.stack range.device.0 (range.first + u.done) (next_bytes bytes u.done n) (Err fault) w'.stack → WritesWhole base range bytes (Err fault) w'.stack
    put-fails (io.Stack why) some p = put-ends (io.Stack why) (λ e. cc) p
    put-fails (io.Device i) some p = put-ends (io.Device i) (λ e. cc) p
    put-fails io.NoMemory some p = (u.done, some, put-nothing p, p.any.ends.1)

  write-further : (w w' : World) → WriteSoFar base range bytes t w → Serves EachPart w t More w' → WriteSoFar base range bytes t w'
  write-further w w' u s =
      let own = has-served w t More w' u.order (serves-any w t More w' s) in
      let same = same-flight EachPart t w w' u.f u.order u.there More s in
      let n = next_count w s.f in
      let most : n ≤ s.f.rest.count = piece_len-within w.stack.config s.f.rest in
      let first : s.f.rest.first ≡ range.first + u.done = ap (λ (x : FlightRecord). x.rest.first) same ∙ u.at in
      let count : s.f.rest.count ≡ u.f.rest.count = ap (λ (x : FlightRecord). x.rest.count) same in
      record {
        f = next_flight s.f n s.answers.got;
        there = after-more EachPart t w w' u.f u.order u.there s;
        order = own.order;
        device = ap (λ (x : FlightRecord). x.rest.device) same ∙ u.device;
        first = ap (λ (x : FlightRecord). x.first) same ∙ u.first;
        done = u.done + n;
        at = omega (arith, first);
        left = omega (arith, count, u.left, most);
        work = ap (λ work. next_work work s.answers.got) (ap (λ (x : FlightRecord). x.work) same ∙ u.work);
        put = put-more w w' u n (omega (arith, count, u.left, most))
            (written-part base range bytes t w w' u s.f (Ok s.answers.got) s.answers.stack same (sym (ap (λ (y : World). y.stack) s.answers.leaves)) s.answers.asks);
      }

  write-over : (name : List ℕ) (first : ℕ) (answer : Result Reply IoFault) (w w' : World) → WriteSoFar base range bytes t w → Serves EachPart w t (Done answer) w' → Whole (a_write name first bytes) base range answer w'.stack
  write-over name first (Ok reply) w w' u s =
      let same = same-flight EachPart t w w' u.f u.order u.there (Done (Ok reply)) s in
      let n = next_count w s.f in
      let count : s.f.rest.count ≡ u.f.rest.count = ap (λ (x : FlightRecord). x.rest.count) same in
      let last : u.done + n ≡ range.count = omega (arith, s.answers.last, count, u.left) in
      let work : next_work s.f.work s.answers.got ≡ writes bytes = ap (λ work. next_work work s.answers.got) (ap (λ (x : FlightRecord). x.work) same ∙ u.work) in
      let is : reply ≡ Written = s.answers.replies ∙ ap reply_to work in
      let put = put-more w w' u n (omega (arith, last))
      (written-part base range bytes t w w' u s.f (Ok s.answers.got) s.answers.stack same (sym (ap (λ (y : World). y.stack) s.answers.leaves)) s.answers.asks) in
      let all : take (512 * (u.done + n)) bytes ≡ bytes = ap (λ k. take k bytes) (ap (λ k. 512 * k) last ∙ sym len) ∙ take-length bytes in
      subst (λ x. Whole (a_write name first bytes) base range (Ok x) w'.stack) (sym is) (subst (λ l. WritesInPieces base range.device.0 range.first l (Ok tt) w'.stack) all put)
  write-over name first (Err fault) w w' u s =
      let same = same-flight EachPart t w w' u.f u.order u.there (Done (Err fault)) s in
      let n = next_count w s.f in
      let most : n ≤ s.f.rest.count = piece_len-within w.stack.config s.f.rest in
      let count : s.f.rest.count ≡ u.f.rest.count = ap (λ (x : FlightRecord). x.rest.count) same in
      put-fails w w' u n (omega (arith, most, count, u.left)) fault (omega (arith, most, count, u.left, s.some))
      (written-part base range bytes t w w' u s.f (Err fault) s.answers.stack same (sym (ap (λ (y : World). y.stack) s.answers.leaves)) s.answers.asks)

  pub write-finishes : (name : List ℕ) (first : ℕ) (answer : Result Reply IoFault) (w w' : World) → WriteSoFar base range bytes t w → EndsRequest EachPart t answer w w' → Whole (a_write name first bytes) base range answer w'.stack
  write-finishes name first answer w w' u (at_once s) = write-over name first answer w w' u s
  write-finishes name first answer w w' u (later {v = v} s more) = write-finishes name first answer v w' (write-further w v u s) more

-- a write of which nothing was done yet
pub write-begun : (w : World) (name : List ℕ) (first : ℕ) (bytes : List ℕ) (t : ℕ) (v : World) → InOrder w → (b : Begins w (a_write name first bytes) t v) → WriteSoFar w.stack b.range bytes t v
write-begun w name first bytes t v order b =
    let r = a_write name first bytes in
    let new = newly w r t v order b in
    record {
      f = first_flight t b.range r;
      there = new.flight;
      order = new.order;
      device = refl;
      first = refl;
      done = 0;
      at = omega arith;
      left = omega arith;
      work = refl;
      put = subst (λ (x : StackRecord). WritesInPieces w.stack b.range.device.0 b.range.first [] (Ok tt) x) (sym new.stack) (write-none w.stack b.range.device.0 b.range.first);
    }
