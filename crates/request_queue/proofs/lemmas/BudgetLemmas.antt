-- What an event does to each request, and what the steps of a request move in all.
use Rattle.std.proofs.Common.{◌≡◌, ◌≢◌, ◌⊎◌, inl, inr, ◌<◌, ◌≤◌, ◌==◌, ℕ, ◌+◌, ◌-◌, ◌*◌, true, false, Bool, List, [], ◌∷◌, refl, ap, sym, ◌∙◌, subst, arith, Option, Some, None, Result, Ok, Err}
use Rattle.std.specs.Prelude.{set, remove, find}
use Rattle.std.proofs.lemmas.Option.{get_or_from_slice_get}
use Rattle.std.proofs.Math.Nat.{mul-le-mul_right, add-mul}
use Rattle.dm_table.specs.declared.stack.Entry.{Entry}
use Rattle.stack_rules.specs.declared.refusal.LoadFault.{LoadFault}
use Rattle.stack_rules.specs.declared.refusal.RemoveFault.{RemoveFault}
use Rattle.stack_rules.specs.Records.{Configuration}
use Rattle.stack_meaning.specs.declared.fault.IoFault.{IoFault}
use Rattle.stack_engine.specs.Stacks.{StackRecord, AnswerRecord}
use Rattle.request_queue.specs.declared.fault.BusyOr.{BusyOr}
use Rattle.request_queue.specs.declared.fault.BusyOr.TheVariants.{Busy, Fault}
use Rattle.request_queue.specs.declared.fault.SubmitFault.{SubmitFault}
use Rattle.request_queue.specs.declared.range.SectorRange.{SectorRange}
use Rattle.request_queue.specs.declared.reply.Progress.{Progress}
use Rattle.request_queue.specs.declared.reply.Progress.TheVariants.{More, Done}
use Rattle.request_queue.specs.declared.reply.Reply.{Reply}
use Rattle.request_queue.specs.Ranges.{piece_len}
use Rattle.request_queue.specs.Requests.{RequestRecord}
use Rattle.request_queue.specs.Flights.{FlightRecord, WorkRecord, reads, writes, first_flight, next_flight, next_work, first_work, work_cost, has_ticket}
use Rattle.request_queue.specs.Parts.{PartRelation, AnyPart, AsksPiece, bytes_part, write_part, part_of_work, done_of, without_bytes, without_chains}
use Rattle.request_queue.specs.World.{World, world, Event, submit, step, read_bytes, write_piece, load, remove_device, run, sync, Step, IsAt, Rise, Begins, IsRequestRefused, Serves, ReadsBytes, PieceWritten, LoadsText, Removes, Syncs, EndsRequest, at_once, later, Runs, next_count}
use Rattle.request_queue.specs.Runs.{Turn, AreTurns, last, turns_total, is_step, flight_of, moved_of, moved_for, served_for, rest_of, due_of, rest_due, rest}
use Rattle.request_queue.proofs.lemmas.PartLemmas.{any-keeps, part_cost-work}
use Rattle.request_queue.proofs.lemmas.TicketLemmas.{test-same, test-other, at-ticket, find-at, find-removed, find-changed, others-set, others-remove, others-push, found-pushed, rise-push, rise-set, rise-remove}

-- the tickets in flight rise, up to those given
abbrev pub InOrder : World → Type 0
InOrder w = Rise 0 w.in_flight w.given

pub piece_len-within : (c : Configuration) (range : SectorRange) → piece_len c range ≤ range.count
piece_len-within c range = omega arith

-- ---- what one piece does to its own request

-- a request goes on with n sectors less
pub record Continues (f : FlightRecord) (n : ℕ) (f' : FlightRecord) : Type 0 where
  pub left : f'.rest.count + n ≡ f.rest.count
  pub device : f'.rest.device ≡ f.rest.device
  pub cost : (c : Configuration) (d : ℕ) → work_cost c d f'.work ≡ work_cost c d f.work
  pub some : 0 < f'.rest.count

-- it is over, or goes on
pub data Became (f : FlightRecord) (n : ℕ) : Option FlightRecord → Type 0 where
  is_over : Became f n None
  goes_on : (f' : FlightRecord) → Continues f n f' → Became f n (Some f')

-- its next piece was served
pub record HasServed (w : World) (t : ℕ) (w' : World) : Type 0 where
  pub f : FlightRecord
  pub is : flight_of w t ≡ Some f
  pub n : ℕ
  pub some : 1 ≤ n
  pub most : n ≤ f.rest.count
  pub config : w'.stack.config ≡ w.stack.config
  pub moved : moved_of w'.stack ≤ moved_of w.stack + n * work_cost w.stack.config f.rest.device.0 f.work
  pub became : Became f n (flight_of w' t)
  pub given : w'.given ≡ w.given
  pub order : InOrder w'
  pub others : (u : ℕ) → t ≢ u → flight_of w' u ≡ flight_of w u

work_cost-next : (c : Configuration) (d : ℕ) (work : WorkRecord) (got : AnswerRecord) → work_cost c d (next_work work got) ≡ work_cost c d work
work_cost-next c d (reads old) got = refl
work_cost-next c d (writes bytes) got = refl

module _ (w : World) (t i : ℕ) (f : FlightRecord) (at : IsAt w.in_flight t i f) (some : 1 ≤ next_count w f) (order : InOrder w) where
  own : f.ticket ≡ t
  own = at-ticket w.in_flight t i f at

  within : next_count w f ≤ f.rest.count
  within = piece_len-within w.stack.config f.rest

  moved-part : (stack : StackRecord) (answer : Result AnswerRecord IoFault) → AsksPiece AnyPart w.stack f answer stack → moved_of stack ≤ moved_of w.stack + next_count w f * work_cost w.stack.config f.rest.device.0 f.work
  moved-part stack answer p =
      let kept = any-keeps w.stack f.rest.device.0 f.rest.first (part_of_work f.work (done_of f) (next_count w f)) answer stack p in
      let most = part_cost-work w.stack.config f.rest.device.0 f.work (done_of f) (next_count w f) in
      omega (arith, kept.moved, most)

  same-config : (stack : StackRecord) (answer : Result AnswerRecord IoFault) → AsksPiece AnyPart w.stack f answer stack → stack.config ≡ w.stack.config
  same-config stack answer p = (any-keeps w.stack f.rest.device.0 f.rest.first (part_of_work f.work (done_of f) (next_count w f)) answer stack p).config

  -- it is over
  served-out : (stack : StackRecord) (answer : Result AnswerRecord IoFault) → AsksPiece AnyPart w.stack f answer stack → HasServed w t (world stack w.given (remove w.in_flight i))
  served-out stack answer p = record {
    f = f;
    is = (find-at 0 w.given t i w.in_flight f order at.is own).1;
    n = next_count w f;
    some = some;
    most = within;
    config = same-config stack answer p;
    moved = moved-part stack answer p;
    became = subst (Became f (next_count w f)) (sym (find-removed 0 w.given t i w.in_flight f order at.is own).1) is_over;
    given = refl;
    order = rise-remove 0 w.given w.in_flight i order;
    others = λ u e. others-remove u i w.in_flight f at.is (λ x. e (sym own ∙ x));
  }

  -- it goes on
  served-on : (stack : StackRecord) (got : AnswerRecord) → next_count w f < f.rest.count → AsksPiece AnyPart w.stack f (Ok got) stack
      → HasServed w t (world stack w.given (set w.in_flight i (next_flight f (next_count w f) got)))
  served-on stack got more p = record {
    f = f;
    is = (find-at 0 w.given t i w.in_flight f order at.is own).1;
    n = next_count w f;
    some = some;
    most = within;
    config = same-config stack (Ok got) p;
    moved = moved-part stack (Ok got) p;
    became = subst (Became f (next_count w f)) (sym (find-changed 0 w.given t i w.in_flight f (next_flight f (next_count w f) got) order at.is own own).1)
        (goes_on (next_flight f (next_count w f) got) (record { left = omega (arith, within); device = refl; cost = λ c d. work_cost-next c d f.work got; some = omega (arith, more) }));
    given = refl;
    order = rise-set 0 w.given w.in_flight i f (next_flight f (next_count w f) got) (ap (λ x. x.ticket) (sym (get_or_from_slice_get w.in_flight i f f at.is))) order;
    others = λ u e. others-set u i w.in_flight f (next_flight f (next_count w f) got) at.is (λ x. e (sym own ∙ x)) (λ x. e (sym own ∙ x));
  }

pub has-served : (w : World) (t : ℕ) (progress : Progress) (w' : World) → InOrder w → Serves AnyPart w t progress w' → HasServed w t w'
has-served w t More w' order s =
    subst (HasServed w t) (sym s.answers.leaves) (served-on w t s.i s.f s.at s.some order s.answers.stack s.answers.got s.answers.rest s.answers.asks)
has-served w t (Done (Ok reply)) w' order s =
    subst (HasServed w t) (sym s.answers.leaves) (served-out w t s.i s.f s.at s.some order s.answers.stack (Ok s.answers.got) s.answers.asks)
has-served w t (Done (Err fault)) w' order s =
    subst (HasServed w t) (sym s.answers.leaves) (served-out w t s.i s.f s.at s.some order s.answers.stack (Err fault) s.answers.asks)

some-not-none : (f : FlightRecord) (o : Option FlightRecord) → o ≡ Some f → o ≢ None
some-not-none f o e = λ none. let clash : None ≡ Some f = sym none ∙ e in cc

-- a request that goes on is still in flight
pub goes-on : (w : World) (t : ℕ) (w' : World) → InOrder w → Serves AnyPart w t More w' → flight_of w' t ≢ None
goes-on w t w' order s =
    let own : s.f.ticket ≡ t = at-ticket w.in_flight t s.i s.f s.at in
    let f' = next_flight s.f (next_count w s.f) s.answers.got in
    let found = (find-changed 0 w.given t s.i w.in_flight s.f f' order s.at.is own own).1 in
    subst (λ (x : World). flight_of x t ≢ None) (sym s.answers.leaves) (some-not-none f' _ found)

-- ---- what an event does to a request that it doesn't serve

pub record Kept (w : World) (t : ℕ) (w' : World) : Type 0 where
  pub same : flight_of w' t ≡ flight_of w t
  pub config : (flight_of w t ≡ None) ⊎ (w'.stack.config ≡ w.stack.config)
  pub given : w.given ≤ w'.given
  pub order : InOrder w'

kept-same : (w w' : World) (t : ℕ) → InOrder w → w' ≡ w → Kept w t w'
kept-same w w' t order e = subst (Kept w t) (sym e) (record { same = refl; config = inr refl; given = omega arith; order = order })

kept-then : (w v w' : World) (t : ℕ) → Kept w t v → Kept v t w' → Kept w t w'
kept-then w v w' t a b = record { same = b.same ∙ a.same; config = both a.config b.config; given = omega (arith, a.given, b.given); order = b.order }
  where
    both : (flight_of w t ≡ None) ⊎ (v.stack.config ≡ w.stack.config) → (flight_of v t ≡ None) ⊎ (w'.stack.config ≡ v.stack.config) → (flight_of w t ≡ None) ⊎ (w'.stack.config ≡ w.stack.config)
    both (inl none) c = inl none
    both (inr same) (inl none) = inl (sym a.same ∙ none)
    both (inr same) (inr more) = inr (more ∙ same)

kept-served : (w w' : World) (t u : ℕ) → u ≢ t → HasServed w u w' → Kept w t w'
kept-served w w' t u other s = record { same = s.others t other; config = inr s.config; given = omega (arith, s.given); order = s.order }

kept-begins : (w w' : World) (r : RequestRecord) (ticket t : ℕ) → InOrder w → t ≤ w.given → Begins w r ticket w' → Kept w t w'
kept-begins w w' r ticket t order old b =
    let f = first_flight (w.given + 1) b.range r in
    subst (Kept w t) (sym b.leaves) (record {
      same = others-push t w.in_flight f (λ e. omega (arith, old, e));
      config = inr refl;
      given = omega arith;
      order = rise-push 0 w.given w.in_flight f (omega arith) order;
    })

kept-refused : (w w' : World) (r : RequestRecord) (fault : SubmitFault) (t : ℕ) → InOrder w → IsRequestRefused w r fault w' → Kept w t w'
kept-refused w w' r fault t order s = kept-same w w' t order s.same

kept-bytes : (w w' : World) (d first bytes : ℕ) (reply : Result (Result (List ℕ) IoFault) SubmitFault) (t : ℕ) → InOrder w → ReadsBytes AnyPart w d first bytes reply w' → Kept w t w'
kept-bytes w w' d first bytes (Ok answer) t order s =
    let kept = any-keeps w.stack s.range.device.0 s.range.first (bytes_part s.range.count) (without_chains answer) s.stack s.asks in
    subst (Kept w t) (sym s.leaves) (record { same = refl; config = inr kept.config; given = omega arith; order = order })
kept-bytes w w' d first bytes (Err fault) t order s = kept-same w w' t order s.1

kept-written : (w w' : World) (d first : ℕ) (bytes : List ℕ) (result : Result Unit IoFault) (t : ℕ) → InOrder w → PieceWritten AnyPart w d first bytes result w' → Kept w t w'
kept-written w w' d first bytes result t order s =
    let kept = any-keeps w.stack d first (write_part bytes) (without_bytes result) s.stack s.asks in
    subst (Kept w t) (sym s.leaves) (record { same = refl; config = inr kept.config; given = omega arith; order = order })

kept-load : (w w' : World) (text : List Entry) (reply : Result Unit (BusyOr LoadFault)) (t : ℕ) → InOrder w → LoadsText w text reply w' → Kept w t w'
kept-load w w' text (Ok done) t order s =
    subst (Kept w t) (sym s.leaves) (record { same = refl; config = inl (ap (λ fs. find (has_ticket t) fs) s.idle); given = omega arith; order = order })
kept-load w w' text (Err Busy) t order s = kept-same w w' t order s.1
kept-load w w' text (Err (Fault fault)) t order s = kept-same w w' t order s.2

kept-removal : (w w' : World) (name : List ℕ) (reply : Result Unit (BusyOr RemoveFault)) (t : ℕ) → InOrder w → Removes w name reply w' → Kept w t w'
kept-removal w w' name (Ok done) t order s =
    subst (Kept w t) (sym s.leaves) (record { same = refl; config = inl (ap (λ fs. find (has_ticket t) fs) s.idle); given = omega arith; order = order })
kept-removal w w' name (Err Busy) t order s = kept-same w w' t order s.1
kept-removal w w' name (Err (Fault fault)) t order s = kept-same w w' t order s.2

kept-sync : (w w' : World) (reply : Result Unit IoFault) (t : ℕ) → InOrder w → Syncs w reply w' → Kept w t w'
kept-sync w w' (Ok done) t order s = subst (Kept w t) (sym s) (record { same = refl; config = inr refl; given = omega arith; order = order })
kept-sync w w' (Err fault) t order s = subst (Kept w t) (sym s.leaves) (record { same = refl; config = inr refl; given = omega arith; order = order })

kept-ends : (t u : ℕ) (answer : Result Reply IoFault) (w w' : World) → u ≢ t → InOrder w → EndsRequest AnyPart u answer w w' → Kept w t w'
kept-ends t u answer w w' other order (at_once s) = kept-served w w' t u other (has-served w u (Done answer) w' order s)
kept-ends t u answer w w' other order (later {v = v} s more) =
    let first = kept-served w v t u other (has-served w u More v order s) in
    kept-then w v w' t first (kept-ends t u answer v w' other first.order more)

kept-run : (w w' : World) (r : RequestRecord) (reply : Result (Result Reply IoFault) SubmitFault) (t : ℕ) → InOrder w → t ≤ w.given → Runs AnyPart w r reply w' → Kept w t w'
kept-run w w' r (Err fault) t order old s = kept-refused w w' r fault t order s
kept-run w w' r (Ok answer) t order old s =
    let first = kept-begins w s.begun r (w.given + 1) t order old s.begins in
    kept-then w s.begun w' t first (kept-ends t (w.given + 1) answer s.begun w' (λ e. omega (arith, old, e)) first.order s.ends)

-- ---- one event

pub data Turned (w : World) (t : ℕ) (e : Event) (w' : World) : Type 0 where
  own_turn : is_step t e ≡ true → HasServed w t w' → Turned w t e w'
  other_turn : is_step t e ≡ false → Kept w t w' → Turned w t e w'

turned-step : (w w' : World) (t u : ℕ) (progress : Progress) (b : Bool) → (u == t) ≡ b → InOrder w → HasServed w u w' → Turned w t (step u (Ok progress)) w'
turned-step w w' t u progress true e order s = own_turn e (subst (λ x. HasServed w x w') (test-same u t e) s)
turned-step w w' t u progress false e order s = other_turn e (kept-served w w' t u (test-other u t e) s)

-- an event serves a piece of the request, or leaves it as it was
pub turned : (w w' : World) (t : ℕ) (e : Event) → InOrder w → t ≤ w.given → Step AnyPart w e w' → Turned w t e w'
turned w w' t (submit r (Ok ticket)) order old s = other_turn refl (kept-begins w w' r ticket t order old s)
turned w w' t (submit r (Err fault)) order old s = other_turn refl (kept-refused w w' r fault t order s)
turned w w' t (step u (Ok progress)) order old s = turned-step w w' t u progress (u == t) refl order (has-served w u progress w' order s)
turned w w' t (step u (Err none)) order old s = other_turn refl (kept-same w w' t order s.1)
turned w w' t (read_bytes d first bytes reply) order old s = other_turn refl (kept-bytes w w' d first bytes reply t order s)
turned w w' t (write_piece d first bytes result) order old s = other_turn refl (kept-written w w' d first bytes result t order s)
turned w w' t (load text reply) order old s = other_turn refl (kept-load w w' text reply t order s)
turned w w' t (remove_device name reply) order old s = other_turn refl (kept-removal w w' name reply t order s)
turned w w' t (run r reply) order old s = other_turn refl (kept-run w w' r reply t order old s)
turned w w' t (sync reply) order old s = other_turn refl (kept-sync w w' reply t order s)

-- a request that was begun is in flight, and its steps come next
pub record Newly (w : World) (r : RequestRecord) (range : SectorRange) (ticket : ℕ) (w' : World) : Type 0 where
  pub flight : flight_of w' ticket ≡ Some (first_flight ticket range r)
  pub stack : w'.stack ≡ w.stack
  pub old : ticket ≤ w'.given
  pub order : InOrder w'

pub newly : (w : World) (r : RequestRecord) (ticket : ℕ) (w' : World) → InOrder w → (b : Begins w r ticket w') → Newly w r b.range ticket w'
newly w r ticket w' order b =
    let f = first_flight (w.given + 1) b.range r in
    subst (Newly w r b.range ticket) (sym b.leaves) (record {
      flight = found-pushed 0 w.given ticket w.in_flight f order (omega (arith, b.ticket_is)) (sym b.ticket_is) ∙ ap (λ t. Some (first_flight t b.range r)) (sym b.ticket_is);
      stack = refl;
      old = omega (arith, b.ticket_is);
      order = rise-push 0 w.given w.in_flight f (omega arith) order;
    })

pub begun-there : (w : World) (r : RequestRecord) (ticket : ℕ) (w' : World) → InOrder w → Begins w r ticket w' → flight_of w' ticket ≢ None
begun-there w r ticket w' order b = some-not-none (first_flight ticket b.range r) _ (newly w r ticket w' order b).flight

-- ---- sums over a run

-- what is counted at each turn, and what is left at the end, are no more than what was left at the start
pub within-run : (part : PartRelation) (count : World → Turn → ℕ) (left : World → ℕ) (Keeps : World → Type 0)
    → ((w : World) (x : Turn) → Keeps w → Step part w x.event x.after → (count w x + left x.after ≤ left w) × Keeps x.after)
    → (w : World) (turns : List Turn) → Keeps w → AreTurns part w turns → turns_total count w turns + left (last w turns) ≤ left w
within-run piece count left Keeps each w [] keeps r = omega arith
within-run piece count left Keeps each w (x ∷ more) keeps r =
    let here = each w x keeps r.0 in
    let later = within-run piece count left Keeps each x.after more here.1 r.1 in
    omega (arith, here.0, later)

-- what a law keeps of a world: tickets in order, t among those given
abbrev pub Knows : ℕ → World → Type 0
Knows t w = InOrder w × (t ≤ w.given)

due-same : (c c' : Configuration) (o o' : Option FlightRecord) → o' ≡ o → (o ≡ None) ⊎ (c' ≡ c) → due_of c' o' ≡ due_of c o
due-same c c' o o' e (inl none) = ap (due_of c') (e ∙ none) ∙ ap (due_of c) (sym none)
due-same c c' o o' e (inr same) = ap (due_of c') e ∙ ap (λ x. due_of x o) same

less-due : (a n left cost moved : ℕ) → a + n ≡ left → moved ≤ n * cost → moved + a * cost ≤ left * cost
less-due a n left cost moved e h = let all : (a + n) * cost ≡ a * cost + n * cost = add-mul a n cost in let whole : (a + n) * cost ≡ left * cost = ap (λ (k : ℕ). k * cost) e in omega (arith, h, all, whole)

due-became : (c c' : Configuration) (f : FlightRecord) (n moved : ℕ) (o : Option FlightRecord) → n ≤ f.rest.count → moved ≤ n * work_cost c f.rest.device.0 f.work → c' ≡ c → Became f n o
    → moved + due_of c' o ≤ due_of c (Some f)
due-became c c' f n moved o most h same is_over =
    let cost = work_cost c f.rest.device.0 f.work in
    let all : n * cost ≤ f.rest.count * cost = mul-le-mul_right cost most in
    omega (arith, h, all)
due-became c c' f n moved o most h same (goes_on f' k) =
    let cost = work_cost c f.rest.device.0 f.work in
    let cheap : work_cost c' f'.rest.device.0 f'.work ≡ cost = ap (λ x. work_cost x f'.rest.device.0 f'.work) same ∙ ap (λ d. work_cost c d.0 f'.work) k.device ∙ k.cost c f.rest.device.0 in
    subst (λ x. moved + f'.rest.count * x ≤ f.rest.count * cost) (sym cheap) (less-due f'.rest.count n f.rest.count cost moved k.left h)

pub rest-became : (f : FlightRecord) (n : ℕ) (o : Option FlightRecord) → 1 ≤ n → n ≤ f.rest.count → Became f n o → 1 + rest_of o ≤ f.rest.count
rest-became f n o some most is_over = omega (arith, some, most)
rest-became f n o some most (goes_on f' k) = omega (arith, some, k.left)

due-turn : (t : ℕ) (w : World) (x : Turn) → Turned w t x.event x.after → moved_for t w x + rest_due t x.after ≤ rest_due t w
due-turn t w x (own_turn is s) =
    let moved : moved_of x.after.stack - moved_of w.stack ≤ s.n * work_cost w.stack.config s.f.rest.device.0 s.f.work = omega (arith, s.moved) in
    rw is (subst (λ o. moved_of x.after.stack - moved_of w.stack + rest_due t x.after ≤ due_of w.stack.config o) (sym s.is)
    (due-became w.stack.config x.after.stack.config s.f s.n (moved_of x.after.stack - moved_of w.stack) (flight_of x.after t) s.most moved s.config s.became))
due-turn t w x (other_turn is k) =
    let same : rest_due t x.after ≡ rest_due t w = due-same w.stack.config x.after.stack.config (flight_of w t) (flight_of x.after t) k.same k.config in
    rw is (omega (arith, same))

rest-turn : (t : ℕ) (w : World) (x : Turn) → Turned w t x.event x.after → served_for t w x + rest t x.after ≤ rest t w
rest-turn t w x (own_turn is s) =
    rw is (subst (λ o. 1 + rest t x.after ≤ rest_of o) (sym s.is) (rest-became s.f s.n (flight_of x.after t) s.some s.most s.became))
rest-turn t w x (other_turn is k) = let same : rest t x.after ≡ rest t w = ap rest_of k.same in rw is (omega (arith, same))

pub knows-turn : (t : ℕ) (w : World) (e : Event) (w' : World) → t ≤ w.given → Turned w t e w' → Knows t w'
knows-turn t w e w' old (own_turn is s) = (s.order, omega (arith, old, s.given))
knows-turn t w e w' old (other_turn is k) = (k.order, omega (arith, old, k.given))

-- What the steps of a request move in a run is at most what is left of it times its read cost.
pub budget : (t : ℕ) (w : World) (turns : List Turn) → InOrder w → t ≤ w.given → AreTurns AnyPart w turns → turns_total (moved_for t) w turns + rest_due t (last w turns) ≤ rest_due t w
budget t w turns order old r =
    within-run AnyPart (moved_for t) (rest_due t) (Knows t)
    (λ v x k s. let turn = turned v x.after t x.event k.0 k.1 s in (due-turn t v x turn, knows-turn t v x.event x.after k.1 turn))
    w turns (order, old) r

-- It is served at most as often as it has sectors left.
pub few-steps : (t : ℕ) (w : World) (turns : List Turn) → InOrder w → t ≤ w.given → AreTurns AnyPart w turns → turns_total (served_for t) w turns + rest t (last w turns) ≤ rest t w
few-steps t w turns order old r =
    within-run AnyPart (served_for t) (rest t) (Knows t)
    (λ v x k s. let turn = turned v x.after t x.event k.0 k.1 s in (rest-turn t v x turn, knows-turn t v x.event x.after k.1 turn))
    w turns (order, old) r

-- The budget of a request from its submission on: its count times its cost.
pub whole-budget : (w : World) (r : RequestRecord) (t : ℕ) (v : World) (turns : List Turn) → InOrder w → (b : Begins w r t v) → AreTurns AnyPart v turns
    → turns_total (moved_for t) v turns ≤ b.range.count * work_cost w.stack.config b.range.device.0 (first_work r)
whole-budget w r t v turns order b r_run =
    let new = newly w r t v order b in
    let most : rest_due t v ≡ b.range.count * work_cost w.stack.config b.range.device.0 (first_work r) =
    ap (due_of v.stack.config) new.flight ∙ ap (λ (x : StackRecord). b.range.count * work_cost x.config b.range.device.0 (first_work r)) new.stack in
    let all = budget t v turns new.order new.old r_run in
    omega (arith, most, all)

-- It is served at most as often as it has sectors.
pub whole-steps : (w : World) (r : RequestRecord) (t : ℕ) (v : World) (turns : List Turn) → InOrder w → (b : Begins w r t v) → AreTurns AnyPart v turns
    → turns_total (served_for t) v turns + rest t (last v turns) ≤ b.range.count
whole-steps w r t v turns order b r_run =
    let new = newly w r t v order b in
    let most : rest t v ≡ b.range.count = ap rest_of new.flight in
    let all = few-steps t v turns new.order new.old r_run in
    omega (arith, most, all)

-- A request that an event doesn't serve is as it was.
pub untouched : (w w' : World) (t : ℕ) (e : Event) → InOrder w → t ≤ w.given → Step AnyPart w e w' → is_step t e ≡ false → flight_of w' t ≡ flight_of w t
untouched w w' t e order old s not = by (turned w w' t e order old s)
  where
    by : Turned w t e w' → flight_of w' t ≡ flight_of w t
    by (own_turn is served_it) = let clash : true ≡ false = sym is ∙ not in cc
    by (other_turn is k) = k.same
