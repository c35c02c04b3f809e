-- A request's own steps in a run, whatever is served in between.
use Rattle.std.proofs.Common.{◌≡◌, ◌==◌, ◌+◌, ◌<◌, ◌≤◌, ℕ, zero, suc, true, false, Bool, List, [], ◌∷◌, length, refl, ap, sym, ◌∙◌, subst, arith, inl, inr, ◌⊎◌, All, Option, Some, None, Result, Ok, Err}
use Rattle.std.specs.Prelude.{remove}
use Rattle.std.proofs.lemmas.List.Elements.{All-cons, All-head, All-nil, All-tail}
use Rattle.stack_rules.specs.Records.{Configuration}
use Rattle.stack_meaning.specs.declared.fault.IoFault.{IoFault}
use Rattle.stack_rules.specs.Names.{mapped}
use Rattle.stack_meaning.specs.Leaves.{AreSteady}
use Rattle.stack_lines.specs.Touches.{leaves_of}
use Rattle.stack_engine.specs.Stacks.{StackRecord, AnswerRecord}
use Rattle.request_queue.specs.declared.fault.BusyOr.TheVariants.{Busy, Fault}
use Rattle.request_queue.specs.declared.reply.Progress.{Progress}
use Rattle.request_queue.specs.declared.range.SectorRange.{SectorRange}
use Rattle.request_queue.specs.declared.reply.Progress.TheVariants.{More, Done}
use Rattle.request_queue.specs.declared.reply.Reply.{Reply}
use Rattle.request_queue.specs.Ranges.{IsCut, last_piece, next_piece, piece_len, range_after}
use Rattle.request_queue.specs.Requests.{RequestRecord}
use Rattle.request_queue.specs.Flights.{FlightRecord, first_flight, next_flight}
use Rattle.request_queue.specs.Parts.{PartRelation, AnyPart, SteadyPart, EachPart, AsksPiece, part_of_work, done_of}
use Rattle.request_queue.specs.World.{World, world, Event, submit, step, read_bytes, write_piece, load, remove_device, run, sync, Step, Serves, Begins, EndsRequest, at_once, later, next_count}
use Rattle.request_queue.specs.Runs.{Turn, AreTurns, last, turns_total, is_step, flight_of, served_for}
use Rattle.request_queue.specs.Laws.{AgreesBefore, Passage, passage, passages, ending_answer, answer_at_last, IsFlightServed, waits, goes_on, finishes, fails, IsPassageOver, RequestLaw, RunLaw, is_refusal, TurnLaw}
use Rattle.request_queue.proofs.lemmas.TicketLemmas.{test-same, at-ticket, find-at, find-changed, find-removed}
use Rattle.request_queue.proofs.lemmas.PremiseLemmas.{step-any, step-on, run-any}
use Rattle.request_queue.proofs.lemmas.PartLemmas.{each-steady}
use Rattle.request_queue.proofs.lemmas.BudgetLemmas.{InOrder, Knows, Turned, own_turn, other_turn, turned, knows-turn, newly, whole-budget, whole-steps, untouched}

-- a request that is over has no steps more
pub no-steps : (t : ℕ) (v : World) (turns : List Turn) → Knows t v → flight_of v t ≡ None → AreTurns AnyPart v turns → (passages t v turns ≡ []) × (answer_at_last t turns ≡ None)
no-steps t v [] knows none r = (refl, refl)
no-steps t v (x ∷ more) knows none r = by (turned v x.after t x.event knows.0 knows.1 r.0) (λ later still. no-steps t x.after more later still r.1)
  where
    by : Turned v t x.event x.after → (Knows t x.after → flight_of x.after t ≡ None → (passages t x.after more ≡ []) × (answer_at_last t more ≡ None))
        → (passages t v (x ∷ more) ≡ []) × (answer_at_last t (x ∷ more) ≡ None)
    by (own_turn is s) next = let clash : None ≡ Some s.f = sym none ∙ s.is in cc
    by (other_turn is k) next = rw is (next (k.order, omega (arith, knows.1, k.given)) (k.same ∙ none))

-- the step of a ticket
data Own (part : PartRelation) (t : ℕ) (v : World) (e : Event) (w' : World) : Type 0 where
  own_step : (progress : Progress) → e ≡ step t (Ok progress) → Serves part v t progress w' → Own part t v e w'

own-step : (part : PartRelation) (t : ℕ) (v : World) (e : Event) (w' : World) → is_step t e ≡ true → Step part v e w' → Own part t v e w'
own-step part t v (submit r reply) w' is s = let clash : false ≡ true = is in cc
own-step part t v (step u (Ok progress)) w' is s =
    let same = test-same u t is in
    own_step progress (ap (λ n. step n (Ok progress)) same) (subst (λ n. Serves part v n progress w') same s)
own-step part t v (step u (Err none)) w' is s = let clash : false ≡ true = is in cc
own-step part t v (read_bytes d first bytes reply) w' is s = let clash : false ≡ true = is in cc
own-step part t v (write_piece d first bytes result) w' is s = let clash : false ≡ true = is in cc
own-step part t v (load text reply) w' is s = let clash : false ≡ true = is in cc
own-step part t v (remove_device name reply) w' is s = let clash : false ≡ true = is in cc
own-step part t v (run r reply) w' is s = let clash : false ≡ true = is in cc
own-step part t v (sync reply) w' is s = let clash : false ≡ true = is in cc

module _ (part : PartRelation) (t : ℕ) (v : World) (v' : World) (f : FlightRecord) (order : InOrder v) (there : flight_of v t ≡ Some f) where
  -- the request that a step of its ticket serves
  pub same-flight : (progress : Progress) (s : Serves part v t progress v') → s.f ≡ f
  same-flight progress s =
      let found : flight_of v t ≡ Some s.f = (find-at 0 v.given t s.i v.in_flight s.f order s.at.is (at-ticket v.in_flight t s.i s.f s.at)).1 in
      let both : Some s.f ≡ Some f = sym found ∙ there in cc

  pub after-more : (s : Serves part v t More v') → flight_of v' t ≡ Some (next_flight s.f (next_count v s.f) s.answers.got)
  after-more s =
      let own : s.f.ticket ≡ t = at-ticket v.in_flight t s.i s.f s.at in
      let f' = next_flight s.f (next_count v s.f) s.answers.got in
      let found = (find-changed 0 v.given t s.i v.in_flight s.f f' order s.at.is own own).1 in
      subst (λ (y : World). flight_of y t ≡ Some f') (sym s.answers.leaves) found

  after-removal : (stack : StackRecord) (i : ℕ) (g : FlightRecord) → Rattle.request_queue.specs.World.IsAt v.in_flight t i g → v' ≡ world stack v.given (remove v.in_flight i) → flight_of v' t ≡ None
  after-removal stack i g at leaves =
      let own : g.ticket ≡ t = at-ticket v.in_flight t i g at in
      let none = (find-removed 0 v.given t i v.in_flight g order at.is own).1 in
      subst (λ (y : World). flight_of y t ≡ None) (sym leaves) none

-- one step of a request in front of those that follow
module _ (part : PartRelation) (t : ℕ) (v : World) (x : Turn) (more : List Turn) (f : FlightRecord) (order : InOrder v) (there : flight_of v t ≡ Some f) (is : is_step t x.event ≡ true) where
  step-in-front : (progress : Progress) → x.event ≡ step t (Ok progress) → Serves part v t progress x.after
      → ((g : FlightRecord) → flight_of x.after t ≡ Some g → IsFlightServed part g (passages t x.after more) (answer_at_last t more))
      → (flight_of x.after t ≡ None → (passages t x.after more ≡ []) × (answer_at_last t more ≡ None))
      → IsFlightServed part f (passages t v (x ∷ more)) (answer_at_last t (x ∷ more))
  step-in-front More e s next gone =
      let now : x.after.stack ≡ s.answers.stack = ap (λ (y : World). y.stack) s.answers.leaves in
      let ending : ending_answer x.event ≡ None = ap ending_answer e in
      let asks : AsksPiece part v.stack s.f (Ok s.answers.got) x.after.stack = subst (λ y. AsksPiece part v.stack s.f (Ok s.answers.got) y) (sym now) s.answers.asks in
      let rest = next (next_flight s.f (next_count v s.f) s.answers.got) (after-more part t v x.after f order there s) in
      let whole : IsFlightServed part s.f (passage v x ∷ passages t x.after more) (answer_at_last t more) = goes_on s.answers.got asks s.answers.rest rest in
      rw (is, ending) (subst (λ g. IsFlightServed part g (passage v x ∷ passages t x.after more) (answer_at_last t more)) (same-flight part t v x.after f order there More s) whole)
  step-in-front (Done (Ok reply)) e s next gone =
      let now : x.after.stack ≡ s.answers.stack = ap (λ (y : World). y.stack) s.answers.leaves in
      let ending : ending_answer x.event ≡ Some (Ok reply) = ap ending_answer e in
      let asks : AsksPiece part v.stack s.f (Ok s.answers.got) x.after.stack = subst (λ y. AsksPiece part v.stack s.f (Ok s.answers.got) y) (sym now) s.answers.asks in
      let none = (gone (after-removal part t v x.after f order there s.answers.stack s.i s.f s.at s.answers.leaves)).0 in
      let whole : IsFlightServed part s.f (passage v x ∷ []) (Some (Ok reply)) = finishes s.answers.got asks s.answers.last s.answers.replies in
      rw (is, ending, none) (subst (λ g. IsFlightServed part g (passage v x ∷ []) (Some (Ok reply))) (same-flight part t v x.after f order there (Done (Ok reply)) s) whole)
  step-in-front (Done (Err fault)) e s next gone =
      let now : x.after.stack ≡ s.answers.stack = ap (λ (y : World). y.stack) s.answers.leaves in
      let ending : ending_answer x.event ≡ Some (Err fault) = ap ending_answer e in
      let asks : AsksPiece part v.stack s.f (Err fault) x.after.stack = subst (λ y. AsksPiece part v.stack s.f (Err fault) y) (sym now) s.answers.asks in
      let none = (gone (after-removal part t v x.after f order there s.answers.stack s.i s.f s.at s.answers.leaves)).0 in
      let whole : IsFlightServed part s.f (passage v x ∷ []) (Some (Err fault)) = fails asks in
      rw (is, ending, none) (subst (λ g. IsFlightServed part g (passage v x ∷ []) (Some (Err fault))) (same-flight part t v x.after f order there (Done (Err fault)) s) whole)

-- parts of that kind, whatever the leaves answer
abbrev pub Includes : PartRelation → Type 0
Includes part = (w : World) (e : Event) (w' : World) → Step part w e w' → Step AnyPart w e w'

run-down : (part : PartRelation) → Includes part → (w : World) (turns : List Turn) → AreTurns part w turns → AreTurns AnyPart w turns
run-down part down w [] r = tt
run-down part down w (x ∷ more) r = (down w x.event x.after r.0, run-down part down x.after more r.1)

-- Whatever is served in between, a request is served by its own steps.
pub is-served : (part : PartRelation) → Includes part → (t : ℕ) (v : World) (turns : List Turn) (f : FlightRecord) → Knows t v → flight_of v t ≡ Some f → AreTurns part v turns
    → IsFlightServed part f (passages t v turns) (answer_at_last t turns)
is-served part down t v [] f knows there r = waits
is-served part down t v (x ∷ more) f knows there r = by turn (λ g at. is-served part down t x.after more g later at r.1)
  where
    turn : Turned v t x.event x.after
    turn = turned v x.after t x.event knows.0 knows.1 (down v x.event x.after r.0)

    later : Knows t x.after
    later = knows-turn t v x.event x.after knows.1 turn

    mine : is_step t x.event ≡ true → Own part t v x.event x.after → ((g : FlightRecord) → flight_of x.after t ≡ Some g → IsFlightServed part g (passages t x.after more) (answer_at_last t more))
        → IsFlightServed part f (passages t v (x ∷ more)) (answer_at_last t (x ∷ more))
    mine is (own_step progress e s) next =
        step-in-front part t v x more f knows.0 there is progress e s next (λ none. no-steps t x.after more later none (run-down part down x.after more r.1))

    by : Turned v t x.event x.after → ((g : FlightRecord) → flight_of x.after t ≡ Some g → IsFlightServed part g (passages t x.after more) (answer_at_last t more))
        → IsFlightServed part f (passages t v (x ∷ more)) (answer_at_last t (x ∷ more))
    by (own_turn is s) next = mine is (own-step part t v x.event x.after is r.0) next
    by (other_turn is k) next = rw is (next f (k.same ∙ there))

-- ---- the laws

-- While a request is in flight, the configuration stays.
one-configuration : (t : ℕ) (v : World) (turns : List Turn) → Knows t v → AreTurns AnyPart v turns → All (IsPassageOver v.stack.config) (passages t v turns)
one-configuration t v [] knows r = All-nil _
one-configuration t v (x ∷ more) knows r = by turn (one-configuration t x.after more later r.1)
  where
    turn : Turned v t x.event x.after
    turn = turned v x.after t x.event knows.0 knows.1 r.0

    later : Knows t x.after
    later = knows-turn t v x.event x.after knows.1 turn

    as-before : x.after.stack.config ≡ v.stack.config → All (IsPassageOver x.after.stack.config) (passages t x.after more) → All (IsPassageOver v.stack.config) (passages t x.after more)
    as-before same all = subst (λ (c : Configuration). All (IsPassageOver c) (passages t x.after more)) same all

    kept : (flight_of v t ≡ None) ⊎ (x.after.stack.config ≡ v.stack.config) → flight_of x.after t ≡ flight_of v t → All (IsPassageOver x.after.stack.config) (passages t x.after more) → All (IsPassageOver v.stack.config) (passages t x.after more)
    kept (inl none) still all = subst (All (IsPassageOver v.stack.config)) (sym (no-steps t x.after more later (still ∙ none) r.1).0) (All-nil _)
    kept (inr same) still all = as-before same all

    by : Turned v t x.event x.after → All (IsPassageOver x.after.stack.config) (passages t x.after more) → All (IsPassageOver v.stack.config) (passages t v (x ∷ more))
    by (own_turn is s) all = rw is (All-cons (IsPassageOver v.stack.config) (passage v x) (passages t x.after more) refl (as-before s.config all))
    by (other_turn is k) all = rw is (kept k.config k.same all)

-- its steps, counted
passages-count : (t : ℕ) (v : World) (turns : List Turn) → length (passages t v turns) ≡ turns_total (served_for t) v turns
passages-count t v [] = refl
passages-count t v (x ∷ more) = by (is_step t x.event) refl (passages-count t x.after more)
  where
    by : (b : Bool) → is_step t x.event ≡ b → length (passages t x.after more) ≡ turns_total (served_for t) x.after more → length (passages t v (x ∷ more)) ≡ turns_total (served_for t) v (x ∷ more)
    by true is same = rw is (omega (arith, same))
    by false is same = rw is (omega (arith, same))

some-pieces : (c : Configuration) (range : SectorRange) (n : ℕ) → IsCut c range n → 1 ≤ n
some-pieces c range zero cut = elim cut [ ]
some-pieces c range (suc zero) (last_piece whole) = omega arith
some-pieces c range (suc n) (next_piece less rest) = omega arith

-- a request is served in at most as many steps as its range has pieces
few-pieces : (part : PartRelation) (c : Configuration) (f : FlightRecord) (ps : List Passage) (answer : Option (Result Reply IoFault)) (n : ℕ)
    → IsFlightServed part f ps answer → All (IsPassageOver c) ps → IsCut c f.rest n → length ps ≤ n
few-pieces part c f [] answer n waits over cut = omega arith
few-pieces part c f (p ∷ more) answer n (goes_on got asks less rest) over cut =
    by n (All-head (IsPassageOver c) p more over) cut (λ m after. few-pieces part c (next_flight f (piece_len p.before.config f.rest) got) more answer m rest (All-tail (IsPassageOver c) p more over) after)
  where
    by : (k : ℕ) → p.before.config ≡ c → IsCut c f.rest k → ((m : ℕ) → IsCut c (next_flight f (piece_len p.before.config f.rest) got).rest m → length more ≤ m) → length (p ∷ more) ≤ k
    by zero same cut next = elim cut [ ]
    by (suc zero) same (last_piece whole) next = let long : piece_len c f.rest < f.rest.count = subst (λ x. piece_len x f.rest < f.rest.count) same less in absurd (omega (arith, whole, long))
    by (suc m) same (next_piece left cut) next = let after : IsCut c (range_after f.rest (piece_len p.before.config f.rest)) m = subst (λ x. IsCut c (range_after f.rest (piece_len x f.rest)) m) (sym same) cut in omega (arith, next m after)
few-pieces part c f (p ∷ []) answer n (finishes got asks end replies) over cut = some-pieces c f.rest n cut
few-pieces part c f (p ∷ []) answer n (fails asks) over cut = some-pieces c f.rest n cut

-- some leaves are steady before it
abbrev IsOn : (ℕ → Bool) → Passage → Type 0
IsOn these p = AreSteady these p.before.leaves

-- while turns go by, leaves that are steady stay so
passages-on : (these : ℕ → Bool) (t : ℕ) (v : World) (turns : List Turn) → AreSteady these v.stack.leaves → AreTurns EachPart v turns → All (IsOn these) (passages t v turns)
passages-on these t v [] steady r = All-nil _
passages-on these t v (x ∷ more) steady r = by (is_step t x.event) refl (passages-on these t x.after more (step-on these v x.event x.after r.0 steady) r.1)
  where
    by : (b : Bool) → is_step t x.event ≡ b → All (IsOn these) (passages t x.after more) → All (IsOn these) (passages t v (x ∷ more))
    by true is all = rw is (All-cons (IsOn these) (passage v x) (passages t x.after more) steady all)
    by false is all = rw is all

-- what holds of each step holds of it over steady leaves
asks-steady : (c : Configuration) (f : FlightRecord) (p : Passage) (answer : Result AnswerRecord IoFault) → p.before.config ≡ c → AreSteady (leaves_of c (mapped f.rest.device.0)) p.before.leaves → AgreesBefore c f.rest.device.0 p
    → AsksPiece EachPart p.before f answer p.after → AsksPiece SteadyPart p.before f answer p.after
asks-steady c f p answer same steady agrees asks =
    each-steady p.before f.rest.device.0 f.rest.first (part_of_work f.work (done_of f) (piece_len p.before.config f.rest)) answer p.after
    (subst (λ (x : Configuration). AreSteady (leaves_of x (mapped f.rest.device.0)) p.before.leaves) (sym same) steady)
    (subst (λ (x : Configuration). AgreesBefore x f.rest.device.0 p) (sym same) agrees) asks

steady-served : (c : Configuration) (f : FlightRecord) (ps : List Passage) (answer : Option (Result Reply IoFault)) → IsFlightServed EachPart f ps answer → All (IsPassageOver c) ps → All (IsOn (leaves_of c (mapped f.rest.device.0))) ps → All (AgreesBefore c f.rest.device.0) ps
    → IsFlightServed SteadyPart f ps answer
steady-served c f [] answer waits over on agrees = waits
steady-served c f (p ∷ more) answer (goes_on got asks less rest) over on agrees =
    goes_on got (asks-steady c f p (Ok got) (All-head (IsPassageOver c) p more over) (All-head (IsOn (leaves_of c (mapped f.rest.device.0))) p more on) (All-head (AgreesBefore c f.rest.device.0) p more agrees) asks) less
    (steady-served c (next_flight f (piece_len p.before.config f.rest) got) more answer rest (All-tail (IsPassageOver c) p more over) (All-tail (IsOn (leaves_of c (mapped f.rest.device.0))) p more on) (All-tail (AgreesBefore c f.rest.device.0) p more agrees))
steady-served c f (p ∷ []) answer (finishes got asks end replies) over on agrees =
    finishes got (asks-steady c f p (Ok got) (All-head (IsPassageOver c) p [] over) (All-head (IsOn (leaves_of c (mapped f.rest.device.0))) p [] on) (All-head (AgreesBefore c f.rest.device.0) p [] agrees) asks) end replies
steady-served c f (p ∷ []) answer (fails {fault = fault} asks) over on agrees = fails (asks-steady c f p (Err fault) (All-head (IsPassageOver c) p [] over) (All-head (IsOn (leaves_of c (mapped f.rest.device.0))) p [] on) (All-head (AgreesBefore c f.rest.device.0) p [] agrees) asks)

-- what a request gets that was begun
pub request-law : (w : World) (r : RequestRecord) (t : ℕ) (v : World) (turns : List Turn) → InOrder w → (b : Begins w r t v) → AreTurns EachPart v turns → RequestLaw w r t b.range v turns
request-law w r t v turns order b each =
    let new = newly w r t v order b in
    let knows : Knows t v = (new.order, new.old) in
    let low = run-any v turns each in
    let few = whole-steps w r t v turns order b low in
    let any = is-served AnyPart (λ w' e v' s. s) t v turns (first_flight t b.range r) knows new.flight low in
    let over : All (IsPassageOver w.stack.config) (passages t v turns) = subst (λ (s : StackRecord). All (IsPassageOver s.config) (passages t v turns)) new.stack (one-configuration t v turns knows low) in
    record {
      any = any;
      steady = λ steady agrees.
          let these = leaves_of w.stack.config (mapped b.range.device.0) in
          steady-served w.stack.config (first_flight t b.range r) (passages t v turns) (answer_at_last t turns) (is-served EachPart step-any t v turns (first_flight t b.range r) knows new.flight each)
          over (passages-on these t v turns (subst (λ (s : StackRecord). AreSteady these s.leaves) (sym new.stack) steady) each) agrees;
      config = over;
      steps = omega (arith, few, passages-count t v turns);
      pieces = λ n cut. few-pieces AnyPart w.stack.config (first_flight t b.range r) (passages t v turns) (answer_at_last t turns) n any over cut;
      moved = whole-budget w r t v turns order b low;
    }

-- the steps of a run, one turn after another
pub record StepsAlone (t : ℕ) (answer : Result Reply IoFault) (v w' : World) : Type 0 where
  pub turns : List Turn
  pub run : AreTurns EachPart v turns
  pub own : All (λ (x : Turn). is_step t x.event ≡ true) turns
  pub answered : answer_at_last t turns ≡ Some answer
  pub ends : last v turns ≡ w'

pub steps-alone : (t : ℕ) (answer : Result Reply IoFault) (v w' : World) → EndsRequest EachPart t answer v w' → StepsAlone t answer v w'
steps-alone t answer v w' (at_once s) =
    let own : (t == t) ≡ true = grind arith in
    let last_step : Turn = record { event = step t (Ok (Done answer)); after = w' } in
    record { turns = last_step ∷ []; run = (s, tt); own = All-cons (λ (x : Turn). is_step t x.event ≡ true) last_step [] own (All-nil _); answered = rw own refl; ends = refl }
steps-alone t answer v w' (later {v = mid} s more) =
    let own : (t == t) ≡ true = grind arith in
    let rest = steps-alone t answer mid w' more in
    let first_step : Turn = record { event = step t (Ok More); after = mid } in
    record { turns = first_step ∷ rest.turns; run = (s, rest.run); own = All-cons (λ (x : Turn). is_step t x.event ≡ true) first_step rest.turns own rest.own; answered = rw own rest.answered; ends = rest.ends }

-- what a request gets that is run
pub run-law : (w : World) (r : RequestRecord) (answer : Result Reply IoFault) (w' : World) → InOrder w → Step EachPart w (run r (Ok answer)) w' → RunLaw w r answer w'
run-law w r answer w' order s =
    let alone = steps-alone (w.given + 1) answer s.begun w' s.ends in
    record {
      begun = s.begun;
      begins = s.begins;
      turns = alone.turns;
      taken = alone.run;
      own = alone.own;
      law = request-law w r (w.given + 1) s.begun alone.turns order s.begins alone.run;
      answered = alone.answered;
      ends = alone.ends;
    }

-- a refusal leaves all as it was
pub refusal-same : (part : PartRelation) (w : World) (e : Event) (w' : World) → is_refusal e ≡ true → Step part w e w' → w' ≡ w
refusal-same part w (submit r (Ok ticket)) w' is s = let clash : false ≡ true = is in cc
refusal-same part w (submit r (Err fault)) w' is s = s.same
refusal-same part w (step t (Ok progress)) w' is s = let clash : false ≡ true = is in cc
refusal-same part w (step t (Err none)) w' is s = s.1
refusal-same part w (read_bytes d first bytes (Ok answer)) w' is s = let clash : false ≡ true = is in cc
refusal-same part w (read_bytes d first bytes (Err fault)) w' is s = s.1
refusal-same part w (write_piece d first bytes result) w' is s = let clash : false ≡ true = is in cc
refusal-same part w (load text (Ok done)) w' is s = let clash : false ≡ true = is in cc
refusal-same part w (load text (Err Busy)) w' is s = s.1
refusal-same part w (load text (Err (Fault fault))) w' is s = s.2
refusal-same part w (remove_device name (Ok done)) w' is s = let clash : false ≡ true = is in cc
refusal-same part w (remove_device name (Err Busy)) w' is s = s.1
refusal-same part w (remove_device name (Err (Fault fault))) w' is s = s.2
refusal-same part w (run r (Ok answer)) w' is s = let clash : false ≡ true = is in cc
refusal-same part w (run r (Err fault)) w' is s = s.same
refusal-same part w (sync reply) w' is s = let clash : false ≡ true = is in cc

pub order-kept : (w : World) (turns : List Turn) → InOrder w → AreTurns EachPart w turns → InOrder (last w turns)
order-kept w [] order r = order
order-kept w (x ∷ more) order r =
    let turn = turned w x.after 0 x.event order (omega arith) (step-any w x.event x.after r.0) in
    order-kept x.after more (knows-turn 0 w x.event x.after (omega arith) turn).0 r.1

pub turn-law : (w : World) (x : Turn) → InOrder w → Step EachPart w x.event x.after → TurnLaw w x
turn-law w x order s = record {
  others = λ t old other. untouched w x.after t x.event order old (step-any w x.event x.after s) other;
  refused = λ is. refusal-same EachPart w x.event x.after is s;
}
