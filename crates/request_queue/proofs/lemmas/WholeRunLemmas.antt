-- Steps of one request up to its last, with nothing in between.
use Rattle.std.proofs.Common.{◌≡◌, ◌≤◌, ℕ, ◌+◌, List, refl, ap, sym, ◌∙◌, subst, arith, Some, Result, Ok, Err}
use Rattle.block_device.specs.Device.{Device}
use Rattle.stack_rules.specs.Records.{Configuration}
use Rattle.stack_rules.specs.Names.{mapped}
use Rattle.stack_rules.specs.Rules.{IsLoaded}
use Rattle.stack_meaning.specs.declared.fault.IoFault.{IoFault}
use Rattle.stack_engine.specs.KeptBlocks.{ReadKeeps}
use Rattle.stack_engine.specs.Healing.{HasNoParity}
use Rattle.stack_engine.specs.Pieces.{EachPiece, MeetsVerity}
use Rattle.stack_meaning.specs.Meaning.{said_at}
use Rattle.stack_meaning.specs.Outcomes.{mismatch}
use Rattle.stack_meaning.specs.Reading.{Gets, MeetVerity}
use Rattle.stack_meaning.proofs.lemmas.FoundLemmas.{SomeOf-more}
use Rattle.stack_lines.specs.Touches.{EndsAtFailure, TouchesOnly, failures_by, failures_of, leaves_of}
use Rattle.stack_lines.proofs.lemmas.TouchLemmas.{touches-none, touches-then, touches-as}
use Rattle.stack_engine.specs.Stacks.{StackRecord, AnswerRecord}
use Rattle.stack_engine.proofs.lemmas.PieceLemmas.{piece_expected, pieces_expected, no-pieces, more-pieces, fault-pieces, piece-got}
use Rattle.request_queue.specs.declared.range.SectorRange.{SectorRange}
use Rattle.request_queue.specs.declared.reply.Progress.TheVariants.{More, Done}
use Rattle.request_queue.specs.declared.reply.Reply.{Reply}
use Rattle.request_queue.specs.declared.reply.Reply.TheVariants.{Sectors}
use Rattle.request_queue.specs.Requests.{RequestRecord, a_read, a_write}
use Rattle.request_queue.specs.Flights.{FlightRecord, reads, first_flight, next_flight, next_work, joint_answer, nothing, reply_to}
use Rattle.request_queue.specs.Parts.{EachPart, AsksPiece, read_part, part_of_work, done_of}
use Rattle.request_queue.specs.World.{World, Serves, Begins, EndsRequest, at_once, later, next_count}
use Rattle.request_queue.specs.Runs.{flight_of}
use Rattle.request_queue.specs.WholeRuns.{ReadsWhole, Whole, RunAnswers}
use Rattle.request_queue.proofs.lemmas.AdmissionLemmas.{admission-whole}
use Rattle.request_queue.proofs.lemmas.KeptLemmas.{KeepsSame, keeps-then}
use Rattle.request_queue.proofs.lemmas.PremiseLemmas.{serves-any}
use Rattle.request_queue.proofs.lemmas.BudgetLemmas.{InOrder, has-served, newly, piece_len-within}
use Rattle.request_queue.proofs.lemmas.ServedLemmas.{same-flight, after-more}
use Rattle.request_queue.proofs.lemmas.WholeWriteLemmas.{write-begun, write-finishes}

-- a read of count sectors from base on, of which a were read
pub record ReadSoFar (base : StackRecord) (range : SectorRange) (t : ℕ) (w : World) : Type 0 where
  pub f : FlightRecord
  pub there : flight_of w t ≡ Some f
  pub order : InOrder w
  pub config : w.stack.config ≡ base.config
  pub capacity : w.stack.capacity ≡ base.capacity
  pub device : f.rest.device ≡ range.device
  pub done : ℕ
  pub at : f.rest.first ≡ range.first + done
  pub left : done + f.rest.count ≡ range.count
  pub got : AnswerRecord
  pub work : f.work ≡ reads got
  pub gets : Gets (pieces_expected base.config (mapped range.device.0) range.first done) base.leaves w.stack.leaves (Ok got)
  pub touches : TouchesOnly (leaves_of base.config (mapped range.device.0)) base.leaves w.stack.leaves (Ok got)
  pub fails : (MeetsVerity base range.device.0 range.first done → HasNoParity base.config) → EndsAtFailure base.leaves w.stack.leaves (Ok got)
  pub keeps : KeepsSame base range.device.0 range.first done w.stack

-- what a piece did to the leaves
abbrev IsPiece : Configuration → ℕ → ℕ → ℕ → List Device → List Device → Result AnswerRecord IoFault → Type 0
IsPiece c d first n old new answer = Gets (piece_expected c (mapped d) first n) old new answer × TouchesOnly (leaves_of c (mapped d)) old new answer

-- the piece that a step of it reads, after the sectors that are read
read-part : (base : StackRecord) (range : SectorRange) (t : ℕ) (w w' : World) (u : ReadSoFar base range t w) (f : FlightRecord) (answer : Result AnswerRecord IoFault) (stack : StackRecord) → f ≡ u.f → stack ≡ w'.stack
    → AsksPiece EachPart w.stack f answer stack → EachPart w.stack range.device.0 (range.first + u.done) (read_part (next_count w f)) answer w'.stack
read-part base range t w w' u f answer stack same now p =
    let n = next_count w f in
    let work : f.work ≡ reads u.got = ap (λ (x : FlightRecord). x.work) same ∙ u.work in
    let device : f.rest.device.0 ≡ range.device.0 = ap (λ (x : FlightRecord). x.rest.device.0) same ∙ ap (λ d. d.0) u.device in
    let first : f.rest.first ≡ range.first + u.done = ap (λ (x : FlightRecord). x.rest.first) same ∙ u.at in
    subst (λ (x : StackRecord). EachPart w.stack range.device.0 (range.first + u.done) (read_part n) answer x) now
    (subst (λ s. EachPart w.stack range.device.0 s (read_part n) answer stack) first
    (subst (λ d. EachPart w.stack d f.rest.first (read_part n) answer stack) device
    (subst (λ x. EachPart w.stack f.rest.device.0 f.rest.first (part_of_work x (done_of f) n) answer stack) work p)))

-- a piece of a read that restores no unreadable block restores none
piece-unhealed : (base : StackRecord) (range : SectorRange) (t : ℕ) (w : World) (u : ReadSoFar base range t w) (n all : ℕ) → u.done + n ≤ all → (MeetsVerity base range.device.0 range.first all → HasNoParity base.config)
    → MeetsVerity w.stack range.device.0 (range.first + u.done) n → HasNoParity w.stack.config
piece-unhealed base range t w u n all inside none met =
    let here : MeetVerity (said_at base.config (mapped range.device.0)) (range.first + u.done) n = subst (λ (c : Configuration). MeetVerity (said_at c (mapped range.device.0)) (range.first + u.done) n) u.config met in
    subst HasNoParity (sym u.config) (none (SomeOf-more (λ s. (said_at base.config (mapped range.device.0) s).meets mismatch) range.first u.done n all inside here))

-- over the configuration that the read began with
piece-of : (base : StackRecord) (range : SectorRange) (t : ℕ) (w w' : World) (u : ReadSoFar base range t w) (n : ℕ) (answer : Result AnswerRecord IoFault)
    → EachPiece w.stack range.device.0 (range.first + u.done) n answer w'.stack → IsPiece base.config range.device.0 (range.first + u.done) n w.stack.leaves w'.stack.leaves answer
piece-of base range t w w' u n answer piece =
    subst (λ c. IsPiece c range.device.0 (range.first + u.done) n w.stack.leaves w'.stack.leaves answer) u.config
    (piece-got range.device.0 (range.first + u.done) n answer piece, piece.any.touches)

further : (base : StackRecord) (range : SectorRange) (t : ℕ) (w w' : World) → ReadSoFar base range t w → Serves EachPart w t More w' → ReadSoFar base range t w'
further base range t w w' u s =
    let own = has-served w t More w' u.order (serves-any w t More w' s) in
    let same = same-flight EachPart t w w' u.f u.order u.there More s in
    let n = next_count w s.f in
    let most : n ≤ s.f.rest.count = piece_len-within w.stack.config s.f.rest in
    let part = read-part base range t w w' u s.f (Ok s.answers.got) s.answers.stack same (sym (ap (λ (y : World). y.stack) s.answers.leaves)) s.answers.asks in
    let piece = piece-of base range t w w' u n (Ok s.answers.got) part.answered in
    let first : s.f.rest.first ≡ range.first + u.done = ap (λ (x : FlightRecord). x.rest.first) same ∙ u.at in
    let count : s.f.rest.count ≡ u.f.rest.count = ap (λ (x : FlightRecord). x.rest.count) same in
    record {
      f = next_flight s.f n s.answers.got;
      there = after-more EachPart t w w' u.f u.order u.there s;
      order = own.order;
      config = own.config ∙ u.config;
      capacity = part.answered.any.capacity ∙ u.capacity;
      device = ap (λ (x : FlightRecord). x.rest.device) same ∙ u.device;
      done = u.done + n;
      at = omega (arith, first);
      left = omega (arith, count, u.left, most);
      got = joint_answer u.got s.answers.got;
      work = ap (λ work. next_work work s.answers.got) (ap (λ (x : FlightRecord). x.work) same ∙ u.work);
      gets = more-pieces base.config (mapped range.device.0) range.first u.done n {before = u.got} u.gets {answer = s.answers.got} piece.0;
      touches = touches-as (Ok _) tt (touches-then u.touches piece.1);
      fails = λ none. part.answered.any.fails (piece-unhealed base range t w u n (u.done + n) (omega arith) none) ∙ u.fails (λ met. none (met.0, omega (arith, met.1), met.2));
      keeps = (keeps-then base w.stack w'.stack range.device.0 range.first u.done n (u.done + n) u.config (omega arith) u.keeps part.kept).same;
    }

whole-of : {v v' : StackRecord} (range : SectorRange) (answer : Result AnswerRecord IoFault) → v'.config ≡ v.config → v'.capacity ≡ v.capacity → Gets (pieces_expected v.config (mapped range.device.0) range.first range.count) v.leaves v'.leaves answer
    → TouchesOnly (leaves_of v.config (mapped range.device.0)) v.leaves v'.leaves answer → ((MeetsVerity v range.device.0 range.first range.count → HasNoParity v.config) → EndsAtFailure v.leaves v'.leaves answer) → ReadKeeps v range.device.0 range.first range.count v' → ReadsWhole v range answer v'
whole-of range answer config capacity p touches fails kept = record { config = config; capacity = capacity; moved = p.moved; may = p.may; touches = touches; fails = fails; kept = kept; exact = λ sure. p.exact (record { steady = sure.steady; agrees = sure.agrees }) }

-- its last step
read-over : (base : StackRecord) (range : SectorRange) (t : ℕ) (name : List ℕ) (first count : ℕ) (answer : Result Reply IoFault) (w w' : World) → ReadSoFar base range t w → Serves EachPart w t (Done answer) w'
    → Whole (a_read name first count) base range answer w'.stack
read-over base range t name first count (Ok reply) w w' u s =
    let own = has-served w t (Done (Ok reply)) w' u.order (serves-any w t (Done (Ok reply)) w' s) in
    let same = same-flight EachPart t w w' u.f u.order u.there (Done (Ok reply)) s in
    let n = next_count w s.f in
    let all = joint_answer u.got s.answers.got in
    let last : u.done + n ≡ range.count = omega (arith, s.answers.last, ap (λ (x : FlightRecord). x.rest.count) same, u.left) in
    let work : next_work s.f.work s.answers.got ≡ reads all = ap (λ work. next_work work s.answers.got) (ap (λ (x : FlightRecord). x.work) same ∙ u.work) in
    let is : reply ≡ Sectors all = s.answers.replies ∙ ap reply_to work in
    let part = read-part base range t w w' u s.f (Ok s.answers.got) s.answers.stack same (sym (ap (λ (y : World). y.stack) s.answers.leaves)) s.answers.asks in
    let piece = piece-of base range t w w' u n (Ok s.answers.got) part.answered in
    let gets = more-pieces base.config (mapped range.device.0) range.first u.done n {before = u.got} u.gets {answer = s.answers.got} piece.0 in
    let whole : ReadsWhole base range (Ok all) w'.stack =
    whole-of {v = base} {v' = w'.stack} range (Ok all) (own.config ∙ u.config) (part.answered.any.capacity ∙ u.capacity)
    (subst (λ k. Gets (pieces_expected base.config (mapped range.device.0) range.first k) base.leaves w'.stack.leaves (Ok all)) last gets) (touches-as (Ok all) tt (touches-then u.touches piece.1))
    (λ none. part.answered.any.fails (piece-unhealed base range t w u n range.count (omega (arith, last)) none) ∙ u.fails (λ met. none (met.0, omega (arith, met.1, last), met.2)))
    (keeps-then base w.stack w'.stack range.device.0 range.first u.done n range.count u.config (omega (arith, last)) u.keeps part.kept) in
    subst (λ x. Whole (a_read name first count) base range (Ok x) w'.stack) (sym is) whole
read-over base range t name first count (Err fault) w w' u s =
    let own = has-served w t (Done (Err fault)) w' u.order (serves-any w t (Done (Err fault)) w' s) in
    let same = same-flight EachPart t w w' u.f u.order u.there (Done (Err fault)) s in
    let n = next_count w s.f in
    let most : n ≤ s.f.rest.count = piece_len-within w.stack.config s.f.rest in
    let inside : u.done + n ≤ range.count = omega (arith, most, ap (λ (x : FlightRecord). x.rest.count) same, u.left) in
    let part = read-part base range t w w' u s.f (Err fault) s.answers.stack same (sym (ap (λ (y : World). y.stack) s.answers.leaves)) s.answers.asks in
    let piece = piece-of base range t w w' u n (Err fault) part.answered in
    whole-of {v = base} {v' = w'.stack} range (Err fault) (own.config ∙ u.config) (part.answered.any.capacity ∙ u.capacity)
    (fault-pieces base.config (mapped range.device.0) range.first u.done n {before = u.got} u.gets range.count fault inside piece.0)
    (touches-then u.touches piece.1) (λ none. part.answered.any.fails (piece-unhealed base range t w u n range.count inside none) ∙ ap (failures_by fault) (u.fails (λ met. none (met.0, omega (arith, met.1, inside), met.2))))
    (keeps-then base w.stack w'.stack range.device.0 range.first u.done n range.count u.config inside u.keeps part.kept)

read-ends : (base : StackRecord) (range : SectorRange) (t : ℕ) (name : List ℕ) (first count : ℕ) (answer : Result Reply IoFault) (w w' : World) → ReadSoFar base range t w → EndsRequest EachPart t answer w w'
    → Whole (a_read name first count) base range answer w'.stack
read-ends base range t name first count answer w w' u (at_once s) = read-over base range t name first count answer w w' u s
read-ends base range t name first count answer w w' u (later {v = v} s more) = read-ends base range t name first count answer v w' (further base range t w v u s) more

-- a read of which nothing was done yet
read-begun : (w : World) (name : List ℕ) (first count t : ℕ) (v : World) → InOrder w → (b : Begins w (a_read name first count) t v) → ReadSoFar w.stack b.range t v
read-begun w name first count t v order b =
    let r = a_read name first count in
    let new = newly w r t v order b in
    record {
      f = first_flight t b.range r;
      there = new.flight;
      order = new.order;
      config = ap (λ (x : StackRecord). x.config) new.stack;
      capacity = ap (λ (x : StackRecord). x.capacity) new.stack;
      device = refl;
      done = 0;
      at = omega arith;
      left = omega arith;
      got = nothing;
      work = refl;
      gets = subst (λ (x : StackRecord). Gets (pieces_expected w.stack.config (mapped b.range.device.0) b.range.first 0) w.stack.leaves x.leaves (Ok nothing)) (sym new.stack)
          (no-pieces w.stack.config (mapped b.range.device.0) b.range.first w.stack.leaves);
      touches = subst (λ (x : StackRecord). TouchesOnly (leaves_of w.stack.config (mapped b.range.device.0)) w.stack.leaves x.leaves (Ok nothing)) (sym new.stack)
          (touches-none (leaves_of w.stack.config (mapped b.range.device.0)) w.stack.leaves (Ok nothing) tt);
      fails = λ none. ap (λ (x : StackRecord). failures_of x.leaves) new.stack;
      keeps = λ none. ap (λ (x : StackRecord). x.kept) new.stack;
    }

-- ---- both

-- what is answered to a request that is served to its end at once
pub whole-answers : (w : World) (r : RequestRecord) (t : ℕ) (answer : Result Reply IoFault) (v w' : World) → IsLoaded w.stack.config → InOrder w → Begins w r t v → EndsRequest EachPart t answer v w' → RunAnswers w r (Ok answer) w'
whole-answers w (a_read name first count) t answer v w' loaded order b e =
    (b.range, b.admits, read-ends w.stack b.range t name first count answer v w' (read-begun w name first count t v order b) e)
whole-answers w (a_write name first bytes) t answer v w' loaded order b e = (
  b.range,
  b.admits,
  write-finishes w.stack loaded b.range bytes (admission-whole w name first bytes b.range b.admits) t name first answer v w' (write-begun w name first bytes t v order b) e,
)
