-- What a run leaves of the leaves.
use Rattle.std.proofs.Common.{◌≡◌, ◌≤◌, Bool, true, false, IsTrue, ℕ, ◌+◌, ◌*◌, ◌/◌, List, [], ◌∷◌, length, take, map, get_or, refl, sym, ap, ◌∙◌, subst, arith, inl, inr, Option, Some, Result, Ok, Err}
use Rattle.std.proofs.lemmas.List.{length-take}
use Rattle.block_device.specs.Device.{Device}
use Rattle.dm_table.specs.declared.stack.Entry.{Entry}
use Rattle.stack_rules.specs.declared.refusal.LoadFault.{LoadFault}
use Rattle.stack_rules.specs.declared.refusal.RemoveFault.{RemoveFault}
use Rattle.stack_rules.specs.Names.{mapped}
use Rattle.stack_rules.specs.Records.{Configuration}
use Rattle.stack_meaning.specs.declared.fault.IoFault.{IoFault}
use Rattle.stack_meaning.specs.declared.fault.IoFault.TheVariants as io
use Rattle.stack_meaning.specs.Changes.{LeafSectors, KeepsOthers}
use Rattle.stack_meaning.specs.Leaves.{AreRead, fixed_part}
use Rattle.stack_meaning.specs.Meaning.{said_at}
use Rattle.stack_meaning.specs.Outcomes.{zero_sector}
use Rattle.stack_meaning.proofs.lemmas.ChangeLemmas.{Among, KeepsOthers-more, reached-first}
use Rattle.stack_meaning.proofs.lemmas.LeafListLemmas.{steady_kept}
use Rattle.stack_engine.specs.Laws.{AnsweredChainsAreGood, ForgedAnswersCollide}
use Rattle.stack_engine.specs.Stacks.{StackRecord, AnswerRecord}
use Rattle.stack_engine.specs.WritePieces.{WritesInPieces, piece_reached}
use Rattle.stack_lines.specs.Touches.{TouchesOnly, leaves_of}
use Rattle.stack_engine.proofs.lemmas.SyncLemmas.{synced-read, unsynced-read}
use Rattle.request_queue.specs.declared.fault.BusyOr.{BusyOr}
use Rattle.request_queue.specs.declared.fault.BusyOr.TheVariants.{Busy, Fault}
use Rattle.request_queue.specs.declared.fault.SubmitFault.{SubmitFault}
use Rattle.request_queue.specs.declared.range.SectorRange.{SectorRange}
use Rattle.request_queue.specs.declared.reply.Progress.{Progress}
use Rattle.request_queue.specs.declared.reply.Progress.TheVariants.{More, Done}
use Rattle.request_queue.specs.declared.reply.Reply.{Reply}
use Rattle.request_queue.specs.declared.reply.Reply.TheVariants.{Sectors, Written}
use Rattle.request_queue.specs.Changes.{StaysBut, part_changes, piece_changes, run_changes, changes_of, changes}
use Rattle.request_queue.specs.Flights.{FlightRecord}
use Rattle.request_queue.specs.Parts.{Part, read_part, bytes_part, write_part, AnyPart, EachPart, part_of_work, done_of, without_bytes}
use Rattle.request_queue.specs.Requests.{RequestRecord, a_read, a_write}
use Rattle.request_queue.specs.Runs.{Turn, AreTurns, last, flight_of}
use Rattle.request_queue.specs.Touching.{Leaves, leaves_under, part_touches, piece_touches, run_touches, touches_of, touches}
use Rattle.request_queue.specs.WholeRuns.{Whole}
use Rattle.request_queue.specs.World.{World, world, Event, submit, step, read_bytes, write_piece, load, remove_device, run, sync, Step, Serves, AnswersStep, ReadsBytes, PieceWritten, LoadsText, Removes, Syncs, Runs, admission, next_count}
use Rattle.request_queue.proofs.lemmas.BudgetLemmas.{InOrder, turned, knows-turn}
use Rattle.request_queue.proofs.lemmas.BytesLemmas.{bytes_range-ok}
use Rattle.request_queue.proofs.lemmas.ChainLemmas.{IsHonest, honest-turn}
use Rattle.request_queue.proofs.lemmas.PartLemmas.{each-any}
use Rattle.request_queue.proofs.lemmas.PremiseLemmas.{step-any}
use Rattle.request_queue.proofs.lemmas.TicketLemmas.{at-ticket, find-at}
use Rattle.request_queue.proofs.lemmas.WholeRunLemmas.{whole-answers}

-- What stays where these sectors may be changed and those leaves touched, and what no call changes of a leaf.
pub record Stays (these : LeafSectors) (those : Leaves) (old new : List Device) : Type 0 where
  pub fixed : map fixed_part new ≡ map fixed_part old
  pub but : StaysBut these old new
  pub leaf : (i : ℕ) (d : Device) → (those i → ⊥) → get_or new i d ≡ get_or old i d

stays-none : (these : LeafSectors) (those : Leaves) (leaves : List Device) → Stays these those leaves leaves
stays-none these those leaves = record { fixed = refl; but = record { size = λ i d h. refl; sector = λ i t d h out. refl; image = λ i d h out. refl }; leaf = λ i d out. refl }

stays-same : (these : LeafSectors) (those : Leaves) (old new : List Device) → new ≡ old → Stays these those old new
stays-same these those old new e = subst (Stays these those old) (sym e) (stays-none these those old)

-- reads that touch those leaves alone
stays-read : (these : LeafSectors) {those : Leaves} {n : ℕ} {old new : List Device} → ((i : ℕ) (d : Device) → (those i → ⊥) → get_or new i d ≡ get_or old i d) → AreRead old n new → Stays these those old new
stays-read these leaf a = record {
  fixed = a.moved.fixed;
  but = record {
    size = λ i d h. ap (λ (l : List (List ℕ)). length l) (a.images.image i d h);
    sector = λ i t d h out. ap (λ (l : List (List ℕ)). get_or l t zero_sector) (a.images.image i d h);
    image = λ i d h out. a.images.image i d h;
  };
  leaf = leaf;
}

unnamed : (b : Bool) → (IsTrue b → ⊥) → b ≡ false
unnamed true out = absurd (out refl)
unnamed false out = refl

-- the leaves beneath a device that is read
untouched-beneath : {A : Type 0} (c : Configuration) (d : ℕ) {old new : List Device} {result : Result A IoFault} → TouchesOnly (leaves_of c (mapped d)) old new result
    → (i : ℕ) (x : Device) → (leaves_under c d i → ⊥) → get_or new i x ≡ get_or old i x
untouched-beneath c d t i x out = t.leaf i x (unnamed (leaves_of c (mapped d) i) out)

stays-others : {these : LeafSectors} {old new : List Device} → map fixed_part new ≡ map fixed_part old → KeepsOthers these old new → Stays these (λ i. (t : ℕ) × these (i, t)) old new
stays-others fixed k = record {
  fixed = fixed;
  but = record { size = k.size; sector = k.sector; image = λ i d h out. ap (λ (x : Device). x.image) (k.leaf i d out) };
  leaf = λ i d out. k.leaf i d (λ t x. out (t, x));
}

stays-more : {these more : LeafSectors} {those others : Leaves} {old new : List Device} → Among these more → ((i : ℕ) → those i → others i) → Stays these those old new → Stays more others old new
stays-more among within s = record {
  fixed = s.fixed;
  but = record {
    size = s.but.size;
    sector = λ i t d h out. s.but.sector i t d h (λ x. out (among (i, t) x));
    image = λ i d h out. s.but.image i d h (λ t x. out t (among (i, t) x));
  };
  leaf = λ i d out. s.leaf i d (λ x. out (within i x));
}

stays-then : {these : LeafSectors} {those : Leaves} {old mid new : List Device} → Stays these those old mid → Stays these those mid new → Stays these those old new
stays-then {old = old} {mid = mid} a b = record {
  fixed = b.fixed ∙ a.fixed;
  but = record {
    size = λ i d h. b.but.size i d (steady_kept old mid a.fixed i d h) ∙ a.but.size i d h;
    sector = λ i t d h out. b.but.sector i t d (steady_kept old mid a.fixed i d h) out ∙ a.but.sector i t d h out;
    image = λ i d h out. b.but.image i d (steady_kept old mid a.fixed i d h) out ∙ a.but.image i d h out;
  };
  leaf = λ i d out. b.leaf i d out ∙ a.leaf i d out;
}

-- ---- one part

front-stays : (v : StackRecord) (d first : ℕ) (front bytes : List ℕ) (result : Result Unit IoFault) (v' : StackRecord) → length front ≤ length bytes → WritesInPieces v d first front result v'
    → Stays (part_changes v.config d first (write_part bytes)) (part_touches v.config d first (write_part bytes)) v.leaves v'.leaves
front-stays v d first front bytes result v' few p =
    let n : ℕ = length bytes / 512 in
    let fewer : length front / 512 ≤ n = omega (arith, few) in
    stays-others p.any.moved.moved.fixed (KeepsOthers-more {more = piece_reached v.config d first n} (reached-first (λ s. (said_at v.config (mapped d) s).reaches) first (length front / 512) n fewer) p.any.moved.others)

part-stays : (v : StackRecord) (d first : ℕ) (part : Part) (answer : Result AnswerRecord IoFault) (v' : StackRecord) → AnyPart v d first part answer v'
    → Stays (part_changes v.config d first part) (part_touches v.config d first part) v.leaves v'.leaves
part-stays v d first (read_part n) answer v' p = stays-read _ (untouched-beneath v.config d p.answered.touches) p.answered.moved
part-stays v d first (bytes_part n) answer v' p = stays-read _ (untouched-beneath v.config d p.answered.touches) p.answered.moved
part-stays v d first (write_part bytes) answer v' p = stays-others p.answered.moved.moved.fixed p.answered.moved.others

-- ---- one event

-- with another name for the world that it leaves
leaves-to : (these : LeafSectors) (those : Leaves) (old : List Device) (stack : StackRecord) (given : ℕ) (fs : List FlightRecord) (w' : World) → w' ≡ world stack given fs → Stays these those old stack.leaves → Stays these those old w'.stack.leaves
leaves-to these those old stack given fs w' e s = subst (λ (x : World). Stays these those old x.stack.leaves) (sym e) s

world-stays : (these : LeafSectors) (those : Leaves) (w w' : World) → w' ≡ w → Stays these those w.stack.leaves w'.stack.leaves
world-stays these those w w' e = stays-same these those w.stack.leaves w'.stack.leaves (ap (λ (x : World). x.stack.leaves) e)

-- what the next piece of a request may leave
abbrev PieceStays : World → Option FlightRecord → World → Type 0
PieceStays w o w' = Stays (piece_changes w o) (piece_touches w o) w.stack.leaves w'.stack.leaves

answers-stay : (w : World) (i : ℕ) (f : FlightRecord) (progress : Progress) (w' : World) → AnswersStep EachPart w i f progress w' → PieceStays w (Some f) w'
answers-stay w i f More w' s =
    subst (λ (x : World). PieceStays w (Some f) x) (sym s.leaves)
    (part-stays w.stack f.rest.device.0 f.rest.first (part_of_work f.work (done_of f) (next_count w f)) (Ok s.got) s.stack (each-any w.stack f.rest.device.0 f.rest.first (part_of_work f.work (done_of f) (next_count w f)) (Ok s.got) s.stack s.asks))
answers-stay w i f (Done (Ok reply)) w' s =
    subst (λ (x : World). PieceStays w (Some f) x) (sym s.leaves)
    (part-stays w.stack f.rest.device.0 f.rest.first (part_of_work f.work (done_of f) (next_count w f)) (Ok s.got) s.stack (each-any w.stack f.rest.device.0 f.rest.first (part_of_work f.work (done_of f) (next_count w f)) (Ok s.got) s.stack s.asks))
answers-stay w i f (Done (Err fault)) w' s =
    subst (λ (x : World). PieceStays w (Some f) x) (sym s.leaves)
    (part-stays w.stack f.rest.device.0 f.rest.first (part_of_work f.work (done_of f) (next_count w f)) (Err fault) s.stack (each-any w.stack f.rest.device.0 f.rest.first (part_of_work f.work (done_of f) (next_count w f)) (Err fault) s.stack s.asks))

serves-stay : (w : World) (t : ℕ) (progress : Progress) (w' : World) → InOrder w → Serves EachPart w t progress w' → PieceStays w (flight_of w t) w'
serves-stay w t progress w' order s =
    let found : flight_of w t ≡ Some s.f = (find-at 0 w.given t s.i w.in_flight s.f order s.at.is (at-ticket w.in_flight t s.i s.f s.at)).1 in
    subst (λ (o : Option FlightRecord). PieceStays w o w') (sym found) (answers-stay w s.i s.f progress w' s.answers)

whole-stays : (w : World) (r : RequestRecord) (range : SectorRange) (answer : Result Reply IoFault) (v' : StackRecord) → Whole r w.stack range answer v'
    → Stays (run_changes w r (Ok range)) (run_touches w r (Ok range)) w.stack.leaves v'.leaves
whole-stays w (a_read name first count) range (Ok (Sectors got)) v' p = stays-read _ (untouched-beneath w.stack.config range.device.0 p.touches) p.moved
whole-stays w (a_read name first count) range (Ok Written) v' p = absurd p
whole-stays w (a_read name first count) range (Err fault) v' p = stays-read _ (untouched-beneath w.stack.config range.device.0 p.touches) p.moved
whole-stays w (a_write name first bytes) range (Ok Written) v' p = front-stays w.stack range.device.0 range.first bytes bytes (Ok tt) v' (omega arith) p
whole-stays w (a_write name first bytes) range (Ok (Sectors got)) v' p = absurd p
whole-stays w (a_write name first bytes) range (Err (io.Stack fault)) v' p = front-stays w.stack range.device.0 range.first bytes bytes (Err (io.Stack fault)) v' (omega arith) p
whole-stays w (a_write name first bytes) range (Err (io.Device i)) v' p = front-stays w.stack range.device.0 range.first bytes bytes (Err (io.Device i)) v' (omega arith) p
whole-stays w (a_write name first bytes) range (Err io.NoMemory) v' p = front-stays w.stack range.device.0 range.first (take (512 * p.0) bytes) bytes (Ok tt) v' (omega (arith, length-take (512 * p.0) bytes)) p.2

run-stays : (w : World) (r : RequestRecord) (reply : Result (Result Reply IoFault) SubmitFault) (w' : World) → IsHonest w → InOrder w → Runs EachPart w r reply w'
    → Stays (run_changes w r (admission w r)) (run_touches w r (admission w r)) w.stack.leaves w'.stack.leaves
run-stays w r (Err fault) w' honest order s = world-stays _ _ w w' s.same
run-stays w r (Ok answer) w' honest order s =
    let p = whole-answers w r (w.given + 1) answer s.begun w' honest.loaded order s.begins s.ends in
    subst (λ (x : Result SectorRange SubmitFault). Stays (run_changes w r x) (run_touches w r x) w.stack.leaves w'.stack.leaves) (sym p.1) (whole-stays w r p.0 answer w'.stack p.2)

loads-stay : (these : LeafSectors) (those : Leaves) (w : World) (text : List Entry) (reply : Result Unit (BusyOr LoadFault)) (w' : World) → LoadsText w text reply w' → Stays these those w.stack.leaves w'.stack.leaves
loads-stay these those w text (Ok done) w' s = stays-same these those w.stack.leaves w'.stack.leaves (ap (λ (x : World). x.stack.leaves) s.leaves)
loads-stay these those w text (Err Busy) w' s = world-stays these those w w' s.1
loads-stay these those w text (Err (Fault fault)) w' s = world-stays these those w w' s.2

removes-stay : (these : LeafSectors) (those : Leaves) (w : World) (name : List ℕ) (reply : Result Unit (BusyOr RemoveFault)) (w' : World) → Removes w name reply w' → Stays these those w.stack.leaves w'.stack.leaves
removes-stay these those w name (Ok done) w' s = stays-same these those w.stack.leaves w'.stack.leaves (ap (λ (x : World). x.stack.leaves) s.leaves)
removes-stay these those w name (Err Busy) w' s = world-stays these those w w' s.1
removes-stay these those w name (Err (Fault fault)) w' s = world-stays these those w w' s.2

syncs-stay : (these : LeafSectors) (w : World) (reply : Result Unit IoFault) (w' : World) → Syncs w reply w' → Stays these (λ i. Unit {0}) w.stack.leaves w'.stack.leaves
syncs-stay these w (Ok done) w' s = subst (λ (x : World). Stays these (λ i. Unit {0}) w.stack.leaves x.stack.leaves) (sym s) (stays-read these (λ i d out. absurd (out tt)) (synced-read w.stack.leaves))
syncs-stay these w (Err fault) w' s = subst (λ (x : World). Stays these (λ i. Unit {0}) w.stack.leaves x.stack.leaves) (sym s.leaves) (stays-read these (λ i d out. absurd (out tt)) (unsynced-read w.stack.leaves s.after fault s.fails))

bytes-stay : (these : LeafSectors) (w : World) (d first size : ℕ) (reply : Result (Result (List ℕ) IoFault) SubmitFault) (w' : World) → ReadsBytes EachPart w d first size reply w'
    → Stays these (leaves_under w.stack.config d) w.stack.leaves w'.stack.leaves
bytes-stay these w d first size (Err fault) w' s = world-stays these _ w w' s.1
bytes-stay these w d first size (Ok answer) w' s =
    leaves-to these (leaves_under w.stack.config d) w.stack.leaves s.stack w.given w.in_flight w' s.leaves
    (subst (λ k. Stays these (leaves_under w.stack.config k) w.stack.leaves s.stack.leaves) (ap (λ (x : SectorRange). x.device.0) (sym (bytes_range-ok w.stack.config d first size s.range s.admits)))
    (stays-read these (untouched-beneath w.stack.config s.range.device.0 s.asks.answered.any.touches) s.asks.answered.any.moved))

written-stays : (w : World) (d first : ℕ) (bytes : List ℕ) (result : Result Unit IoFault) (w' : World) → PieceWritten EachPart w d first bytes result w'
    → Stays (part_changes w.stack.config d first (write_part bytes)) (part_touches w.stack.config d first (write_part bytes)) w.stack.leaves w'.stack.leaves
written-stays w d first bytes result w' s =
    leaves-to (part_changes w.stack.config d first (write_part bytes)) (part_touches w.stack.config d first (write_part bytes)) w.stack.leaves s.stack w.given w.in_flight w' s.leaves
    (part-stays w.stack d first (write_part bytes) (without_bytes result) s.stack (each-any w.stack d first (write_part bytes) (without_bytes result) s.stack s.asks))

-- what an event may leave
abbrev EventStays : World → Event → World → Type 0
EventStays w e w' = Stays (changes_of w e) (touches_of w e) w.stack.leaves w'.stack.leaves

pub event-stays : (w : World) (e : Event) (w' : World) → IsHonest w → InOrder w → Step EachPart w e w' → EventStays w e w'
event-stays w (submit r (Ok t)) w' honest order s = stays-same _ _ w.stack.leaves w'.stack.leaves (ap (λ (x : World). x.stack.leaves) s.leaves)
event-stays w (submit r (Err fault)) w' honest order s = world-stays _ _ w w' s.same
event-stays w (step t (Ok progress)) w' honest order s = serves-stay w t progress w' order s
event-stays w (step t (Err none)) w' honest order s = world-stays _ _ w w' s.1
event-stays w (read_bytes d first size reply) w' honest order s = bytes-stay _ w d first size reply w' s
event-stays w (write_piece d first bytes result) w' honest order s = written-stays w d first bytes result w' s
event-stays w (load text reply) w' honest order s = loads-stay _ _ w text reply w' s
event-stays w (remove_device name reply) w' honest order s = removes-stay _ _ w name reply w' s
event-stays w (run r reply) w' honest order s = run-stays w r reply w' honest order s
event-stays w (sync reply) w' honest order s = syncs-stay _ w reply w' s

-- ---- one event after another

-- what holds of each world holds of the next
pub next-honest : AnsweredChainsAreGood → ForgedAnswersCollide → (w : World) (x : Turn) → IsHonest w → InOrder w → Step EachPart w x.event x.after → IsHonest x.after × InOrder x.after
next-honest good forged w x honest order s =
    let any = step-any w x.event x.after s in
    ((honest-turn good forged w x.event x.after honest any).honest, (knows-turn 0 w x.event x.after (omega arith) (turned w x.after 0 x.event order (omega arith) any)).0)

pub all-stay : AnsweredChainsAreGood → ForgedAnswersCollide → (w : World) (turns : List Turn) → IsHonest w → InOrder w → AreTurns EachPart w turns → Stays (changes w turns) (touches w turns) w.stack.leaves (last w turns).stack.leaves
all-stay good forged w [] honest order r = stays-none _ _ w.stack.leaves
all-stay good forged w (x ∷ more) honest order r =
    let known = next-honest good forged w x honest order r.0 in
    let next = all-stay good forged x.after more known.0 known.1 r.1 in
    stays-then (stays-more (λ p h. inl h) (λ i h. inl h) (event-stays w x.event x.after honest order r.0)) (stays-more (λ p h. inr h) (λ i h. inr h) next)

pub images-stay : AnsweredChainsAreGood → ForgedAnswersCollide → (w : World) (turns : List Turn) → IsHonest w → InOrder w → AreTurns EachPart w turns → StaysBut (changes w turns) w.stack.leaves (last w turns).stack.leaves
images-stay good forged w turns honest order r = (all-stay good forged w turns honest order r).but
