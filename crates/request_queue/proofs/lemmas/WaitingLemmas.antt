-- Pieces that wait: each step serves one.
use Rattle.std.proofs.Common.{◌≡◌, ◌<◌, ◌≤◌, ℕ, zero, suc, ◌+◌, ◌-◌, Bool, true, false, nat_le, List, [], ◌∷◌, ◌++◌, get_or, set, refl, ap, sym, subst, arith, Some, Result, Ok, Err}
use Rattle.std.specs.Prelude.{remove, slice_get, sum_by, if◌then◌else◌}
use Rattle.std.proofs.lemmas.Bool.{le-leb, lt-leb}
use Rattle.std.proofs.lemmas.List.Sums.{sum_by_push, sum_by-set, sum_by-remove}
use Rattle.std.proofs.lemmas.Option.{slice_get_within, get_or_from_slice_get}
use Rattle.dm_table.specs.declared.stack.Entry.{Entry}
use Rattle.stack_rules.specs.declared.refusal.LoadFault.{LoadFault}
use Rattle.stack_rules.specs.declared.refusal.RemoveFault.{RemoveFault}
use Rattle.stack_rules.specs.Records.{Configuration}
use Rattle.stack_meaning.specs.declared.fault.IoFault.{IoFault}
use Rattle.stack_engine.specs.Stacks.{StackRecord, AnswerRecord}
use Rattle.request_queue.specs.declared.fault.BusyOr.{BusyOr}
use Rattle.request_queue.specs.declared.fault.BusyOr.TheVariants.{Busy, Fault}
use Rattle.request_queue.specs.declared.fault.SubmitFault.{SubmitFault}
use Rattle.request_queue.specs.declared.range.SectorRange.{SectorRange}
use Rattle.request_queue.specs.declared.reply.Progress.{Progress}
use Rattle.request_queue.specs.declared.reply.Progress.TheVariants.{More, Done}
use Rattle.request_queue.specs.declared.reply.Reply.{Reply}
use Rattle.request_queue.specs.Flights.{FlightRecord, first_flight, next_flight}
use Rattle.request_queue.specs.Parts.{AnyPart, AsksPiece, bytes_part, write_part, part_of_work, done_of, without_bytes, without_chains}
use Rattle.request_queue.specs.Ranges.{IsCut, last_piece, next_piece, piece_len, range_after}
use Rattle.request_queue.specs.Requests.{RequestRecord}
use Rattle.request_queue.specs.Runs.{Turn, AreTurns, last, turns_total}
use Rattle.request_queue.specs.Waiting.{pieces_within, pieces_of, waiting, pieces_asked, asked_by, asked_in_turn, served_by, served}
use Rattle.request_queue.specs.World.{World, world, Event, submit, step, read_bytes, write_piece, load, remove_device, run, sync, Step, IsAt, Begins, Serves, ReadsBytes, PieceWritten, LoadsText, Removes, Syncs, EndsRequest, at_once, later, Runs, admission, next_count}
use Rattle.request_queue.proofs.lemmas.BudgetLemmas.{piece_len-within}
use Rattle.request_queue.proofs.lemmas.PartLemmas.{any-keeps}

-- ---- pieces of one range

at-most : (b : Bool) (m n : ℕ) → m ≤ n → (if b then 1 else suc m) ≤ (if b then 1 else suc n)
at-most true m n h = omega arith
at-most false m n h = omega (arith, h)

some-one : (b : Bool) (m : ℕ) → 1 ≤ (if b then 1 else suc m)
some-one true m = omega arith
some-one false m = omega arith

-- more rounds find no fewer
within-more : (k m : ℕ) (c : Configuration) (range : SectorRange) → k ≤ m → pieces_within k c range ≤ pieces_within m c range
unfolding pieces_within
within-more zero m c range h = omega arith
within-more (suc k) zero c range h = absurd (omega (arith, h))
within-more (suc k) (suc m) c range h =
    let rest = range_after range (piece_len c range) in
    at-most (nat_le range.count (piece_len c range)) (pieces_within k c rest) (pieces_within m c rest) (within-more k m c rest (omega (arith, h)))

within-some : (k : ℕ) (c : Configuration) (range : SectorRange) → 0 < k → 1 ≤ pieces_within k c range
unfolding pieces_within
within-some zero c range h = absurd (omega (arith, h))
within-some (suc k) c range h = some-one (nat_le range.count (piece_len c range)) (pieces_within k c (range_after range (piece_len c range)))

-- one less, once a piece is served that isn't the last
within-less : (k : ℕ) (c : Configuration) (range : SectorRange) → k ≡ range.count → 1 ≤ piece_len c range → piece_len c range < range.count
    → suc (pieces_of c (range_after range (piece_len c range))) ≤ pieces_within k c range
unfolding pieces_within
within-less zero c range e some more = absurd (omega (arith, e, more))
within-less (suc k) c range e some more =
    let n = piece_len c range in
    let rest = range_after range n in
    let test : nat_le range.count n ≡ false = lt-leb range.count n more in
    let fewer : pieces_of c rest ≤ pieces_within k c rest = within-more (range.count - n) k c rest (omega (arith, e, some)) in
    let all : (if nat_le range.count n then 1 else suc (pieces_within k c rest)) ≡ suc (pieces_within k c rest) = rw test refl in
    omega (arith, all, fewer)

-- ---- a range that is cut

within-cut : (k : ℕ) (c : Configuration) (range : SectorRange) (n : ℕ) → n ≤ k → IsCut c range n → pieces_within k c range ≡ n
unfolding pieces_within
within-cut k c range zero h cut = elim cut [ ]
within-cut zero c range (suc n) h cut = absurd (omega (arith, h))
within-cut (suc k) c range (suc zero) h (last_piece whole) = let test : nat_le range.count (piece_len c range) ≡ true = le-leb range.count (piece_len c range) whole in rw test refl
within-cut (suc k) c range (suc n) h (next_piece less rest) =
    let test : nat_le range.count (piece_len c range) ≡ false = lt-leb range.count (piece_len c range) less in
    let more : pieces_within k c (range_after range (piece_len c range)) ≡ n = within-cut k c (range_after range (piece_len c range)) n (omega (arith, h)) rest in
    rw test (ap suc more)

-- a range is cut into as many pieces as are counted, however it is found out
pub pieces-cut : (c : Configuration) (range : SectorRange) (n : ℕ) → n ≤ range.count → IsCut c range n → pieces_of c range ≡ n
pieces-cut c range n h cut = within-cut range.count c range n h cut

-- ---- the requests in flight

abbrev left_of : Configuration → FlightRecord → ℕ
left_of c f = pieces_of c f.rest

abbrev waiting_of : Configuration → List FlightRecord → ℕ
waiting_of c fs = sum_by (λ f. pieces_of c f.rest) fs

left-removed : (c : Configuration) (fs : List FlightRecord) (i : ℕ) (f : FlightRecord) → slice_get fs i ≡ Some f → waiting_of c (remove fs i) + left_of c f ≡ waiting_of c fs
left-removed c fs i f at =
    let all : waiting_of c (remove fs i) + left_of c (get_or fs i f) ≡ waiting_of c fs = sum_by-remove (left_of c) fs i f (slice_get_within fs i f at) in
    let is : left_of c (get_or fs i f) ≡ left_of c f = ap (left_of c) (get_or_from_slice_get fs i f f at) in
    omega (arith, all, is)

left-changed : (c : Configuration) (fs : List FlightRecord) (i : ℕ) (f f' : FlightRecord) → slice_get fs i ≡ Some f → waiting_of c (set fs i f') + left_of c f ≡ waiting_of c fs + left_of c f'
left-changed c fs i f f' at =
    let all : waiting_of c (set fs i f') + left_of c (get_or fs i f) ≡ waiting_of c fs + left_of c f' = sum_by-set (left_of c) fs i f' f (slice_get_within fs i f at) in
    let is : left_of c (get_or fs i f) ≡ left_of c f = ap (left_of c) (get_or_from_slice_get fs i f f at) in
    omega (arith, all, is)

-- ---- one step

module _ (w : World) (t i : ℕ) (f : FlightRecord) (at : IsAt w.in_flight t i f) (some : 1 ≤ next_count w f) where
  same-config : (stack : StackRecord) (answer : Result AnswerRecord IoFault) → AsksPiece AnyPart w.stack f answer stack → stack.config ≡ w.stack.config
  same-config stack answer p = (any-keeps w.stack f.rest.device.0 f.rest.first (part_of_work f.work (done_of f) (next_count w f)) answer stack p).config

  -- it is over
  one-over : (stack : StackRecord) (answer : Result AnswerRecord IoFault) → AsksPiece AnyPart w.stack f answer stack → suc (waiting_of stack.config (remove w.in_flight i)) ≤ waiting w
  one-over stack answer p =
      let c = w.stack.config in
      let any : 1 ≤ left_of c f = within-some f.rest.count c f.rest (omega (arith, some, piece_len-within c f.rest)) in
      let all = left-removed c w.in_flight i f at.is in
      subst (λ (x : Configuration). suc (waiting_of x (remove w.in_flight i)) ≤ waiting w) (sym (same-config stack answer p)) (omega (arith, any, all))

  -- it goes on
  one-on : (stack : StackRecord) (got : AnswerRecord) → next_count w f < f.rest.count → AsksPiece AnyPart w.stack f (Ok got) stack → suc (waiting_of stack.config (set w.in_flight i (next_flight f (next_count w f) got))) ≤ waiting w
  one-on stack got more p =
      let c = w.stack.config in
      let f' = next_flight f (next_count w f) got in
      let less : suc (left_of c f') ≤ left_of c f = within-less f.rest.count c f.rest refl some more in
      let all = left-changed c w.in_flight i f f' at.is in
      subst (λ (x : Configuration). suc (waiting_of x (set w.in_flight i f')) ≤ waiting w) (sym (same-config stack (Ok got) p)) (omega (arith, less, all))

serves-one : (w : World) (t : ℕ) (progress : Progress) (w' : World) → Serves AnyPart w t progress w' → suc (waiting w') ≤ waiting w
serves-one w t More w' s = subst (λ (x : World). suc (waiting x) ≤ waiting w) (sym s.answers.leaves) (one-on w t s.i s.f s.at s.some s.answers.stack s.answers.got s.answers.rest s.answers.asks)
serves-one w t (Done (Ok reply)) w' s = subst (λ (x : World). suc (waiting x) ≤ waiting w) (sym s.answers.leaves) (one-over w t s.i s.f s.at s.some s.answers.stack (Ok s.answers.got) s.answers.asks)
serves-one w t (Done (Err fault)) w' s = subst (λ (x : World). suc (waiting x) ≤ waiting w) (sym s.answers.leaves) (one-over w t s.i s.f s.at s.some s.answers.stack (Err fault) s.answers.asks)

-- ---- one event

waits-same : (w w' : World) → w' ≡ w → waiting w' ≤ waiting w
waits-same w w' e = subst (λ (x : World). waiting x ≤ waiting w) (sym e) (omega arith)

-- no request is in flight before and after
waits-idle : (w : World) (stack : StackRecord) (w' : World) → w.in_flight ≡ [] → w' ≡ world stack w.given w.in_flight → waiting w' ≤ 0
waits-idle w stack w' idle leaves =
    let none : waiting_of stack.config w.in_flight ≡ 0 = ap (λ fs. waiting_of stack.config fs) idle in
    subst (λ (x : World). waiting x ≤ 0) (sym leaves) (omega (arith, none))

waits-begun : (w : World) (r : RequestRecord) (t : ℕ) (w' : World) → Begins w r t w' → waiting w' ≤ waiting w + pieces_asked w.stack.config (admission w r)
waits-begun w r t w' b =
    let c = w.stack.config in
    let f = first_flight (w.given + 1) b.range r in
    let pushed : waiting_of c (w.in_flight ++ f ∷ []) ≡ waiting w + left_of c f = sum_by_push (left_of c) w.in_flight f in
    let is : pieces_asked c (admission w r) ≡ pieces_of c b.range = ap (pieces_asked c) b.admits in
    subst (λ (x : World). waiting x ≤ waiting w + pieces_asked c (admission w r)) (sym b.leaves) (omega (arith, pushed, is))

waits-ends : (t : ℕ) (answer : Result Reply IoFault) (w w' : World) → EndsRequest AnyPart t answer w w' → waiting w' ≤ waiting w
waits-ends t answer w w' (at_once s) = omega (arith, serves-one w t (Done answer) w' s)
waits-ends t answer w w' (later {v = v} s more) = omega (arith, serves-one w t More v s, waits-ends t answer v w' more)

waits-run : (w : World) (r : RequestRecord) (reply : Result (Result Reply IoFault) SubmitFault) (w' : World) → Runs AnyPart w r reply w' → waiting w' ≤ waiting w + asked_by w (run r reply)
waits-run w r (Ok answer) w' s = omega (arith, waits-begun w r (w.given + 1) s.begun s.begins, waits-ends (w.given + 1) answer s.begun w' s.ends)
waits-run w r (Err fault) w' s = omega (arith, waits-same w w' s.same)

waits-bytes : (w : World) (d first bytes : ℕ) (reply : Result (Result (List ℕ) IoFault) SubmitFault) (w' : World) → ReadsBytes AnyPart w d first bytes reply w' → waiting w' ≤ waiting w
waits-bytes w d first bytes (Err fault) w' s = waits-same w w' s.1
waits-bytes w d first bytes (Ok answer) w' s =
    let kept = any-keeps w.stack s.range.device.0 s.range.first (bytes_part s.range.count) (without_chains answer) s.stack s.asks in
    subst (λ (x : World). waiting x ≤ waiting w) (sym s.leaves) (subst (λ (c : Configuration). waiting_of c w.in_flight ≤ waiting w) (sym kept.config) (omega arith))

waits-written : (w : World) (d first : ℕ) (bytes : List ℕ) (result : Result Unit IoFault) (w' : World) → PieceWritten AnyPart w d first bytes result w' → waiting w' ≤ waiting w
waits-written w d first bytes result w' s =
    let kept = any-keeps w.stack d first (write_part bytes) (without_bytes result) s.stack s.asks in
    subst (λ (x : World). waiting x ≤ waiting w) (sym s.leaves) (subst (λ (c : Configuration). waiting_of c w.in_flight ≤ waiting w) (sym kept.config) (omega arith))

waits-load : (w : World) (text : List Entry) (reply : Result Unit (BusyOr LoadFault)) (w' : World) → LoadsText w text reply w' → waiting w' ≤ waiting w
waits-load w text (Ok done) w' s = omega (arith, waits-idle w _ w' s.idle s.leaves)
waits-load w text (Err Busy) w' s = waits-same w w' s.1
waits-load w text (Err (Fault fault)) w' s = waits-same w w' s.2

waits-removal : (w : World) (name : List ℕ) (reply : Result Unit (BusyOr RemoveFault)) (w' : World) → Removes w name reply w' → waiting w' ≤ waiting w
waits-removal w name (Ok done) w' s = omega (arith, waits-idle w _ w' s.idle s.leaves)
waits-removal w name (Err Busy) w' s = waits-same w w' s.1
waits-removal w name (Err (Fault fault)) w' s = waits-same w w' s.2

waits-sync : (w : World) (reply : Result Unit IoFault) (w' : World) → Syncs w reply w' → waiting w' ≤ waiting w
waits-sync w (Ok done) w' s = subst (λ (x : World). waiting x ≤ waiting w) (sym s) (omega arith)
waits-sync w (Err fault) w' s = subst (λ (x : World). waiting x ≤ waiting w) (sym s.leaves) (omega arith)

-- an event serves a piece that waited, or none
waits-event : (w : World) (e : Event) (w' : World) → Step AnyPart w e w' → served_by e + waiting w' ≤ waiting w + asked_by w e
waits-event w (submit r (Ok t)) w' s = omega (arith, waits-begun w r t w' s)
waits-event w (submit r (Err fault)) w' s = omega (arith, waits-same w w' s.same)
waits-event w (step t (Ok progress)) w' s = omega (arith, serves-one w t progress w' s)
waits-event w (step t (Err none)) w' s = omega (arith, waits-same w w' s.1)
waits-event w (read_bytes d first bytes reply) w' s = omega (arith, waits-bytes w d first bytes reply w' s)
waits-event w (write_piece d first bytes result) w' s = omega (arith, waits-written w d first bytes result w' s)
waits-event w (load text reply) w' s = omega (arith, waits-load w text reply w' s)
waits-event w (remove_device name reply) w' s = omega (arith, waits-removal w name reply w' s)
waits-event w (run r reply) w' s = omega (arith, waits-run w r reply w' s)
waits-event w (sync reply) w' s = omega (arith, waits-sync w reply w' s)

-- ---- a list of them

pub few-pieces-served : (w : World) (turns : List Turn) → AreTurns AnyPart w turns → turns_total served w turns + waiting (last w turns) ≤ waiting w + turns_total asked_in_turn w turns
few-pieces-served w [] r = omega arith
few-pieces-served w (x ∷ more) r = omega (arith, waits-event w x.event x.after r.0, few-pieces-served x.after more r.1)
