-- What reads leave of the kept hash blocks, one after another, and what holds of those that are kept after any calls.
use Rattle.std.proofs.Common.{◌≡◌, ◌≤◌, ℕ, ◌+◌, ◌/◌, List, [], ◌∷◌, None, map, refl, sym, ap, ◌∙◌, subst, arith, Result, Ok, Err}
use Rattle.std.specs.List.{IsDistinct}
use Rattle.std.proofs.lemmas.Option.{IfSome_then}
use Rattle.std.proofs.lemmas.List.Elements.{All-nil}
use Rattle.block_device.specs.Device.{Device, synced}
use Rattle.dm_table.specs.declared.stack.Entry.{Entry}
use Rattle.stack_rules.specs.declared.refusal.LoadFault.{LoadFault}
use Rattle.stack_rules.specs.declared.refusal.RemoveFault.{RemoveFault}
use Rattle.stack_rules.specs.Names.{mapped}
use Rattle.stack_rules.specs.Records.{Configuration}
use Rattle.stack_meaning.specs.declared.fault.IoFault.{IoFault}
use Rattle.stack_meaning.specs.Leaves.{AreRead}
use Rattle.stack_meaning.specs.Meaning.{said_at}
use Rattle.stack_meaning.specs.Reading.{MeetVerity}
use Rattle.stack_lines.specs.Caches.{Capacity, IsCachedData}
use Rattle.stack_lines.proofs.lemmas.StoredLemmas.{stored-read}
use Rattle.stack_engine.specs.KeptBlocks.{AreChecked, ReadKeeps}
use Rattle.stack_engine.specs.Stacks.{StackRecord, AnswerRecord}
use Rattle.stack_engine.proofs.lemmas.SyncLemmas.{synced-read, unsynced-read}
use Rattle.request_queue.specs.declared.fault.BusyOr.{BusyOr}
use Rattle.request_queue.specs.declared.fault.BusyOr.TheVariants.{Busy, Fault}
use Rattle.request_queue.specs.declared.fault.SubmitFault.{SubmitFault}
use Rattle.request_queue.specs.declared.range.SectorRange.{SectorRange}
use Rattle.request_queue.specs.declared.reply.Progress.{Progress}
use Rattle.request_queue.specs.declared.reply.Progress.TheVariants.{More, Done}
use Rattle.request_queue.specs.declared.reply.Reply.{Reply}
use Rattle.request_queue.specs.Flights.{FlightRecord}
use Rattle.request_queue.specs.Laws.{KeepsChecked}
use Rattle.request_queue.specs.Parts.{Part, EachPart, bytes_part, write_part, part_of_work, done_of, without_bytes, without_chains}
use Rattle.request_queue.specs.Requests.{RequestRecord}
use Rattle.request_queue.specs.Runs.{Turn, AreTurns, last}
use Rattle.request_queue.specs.World.{World, Event, submit, step, read_bytes, write_piece, load, remove_device, run, sync, Step, AnswersStep, BytesRead, ReadsBytes, LoadsText, Removes, Syncs, Serves, EndsRequest, at_once, later, Runs, next_count}
use Rattle.request_queue.proofs.lemmas.BytesLemmas.{bytes_range-ok, meets-later}
use Rattle.request_queue.proofs.lemmas.PartLemmas.{any-keeps, each-any, part-checked}

-- ---- one read after another

-- where no `verity` line is on the way of n sectors those are kept that were
abbrev pub KeepsSame : StackRecord → ℕ → ℕ → ℕ → StackRecord → Type 0
KeepsSame w d first n w' = (MeetVerity (said_at w.config (mapped d)) first n → ⊥) → w'.kept ≡ w.kept

-- one that is on the way of the first sectors is on that of all
meets-first : (c : Configuration) (d first a n : ℕ) → a ≤ n → MeetVerity (said_at c (mapped d)) first a → MeetVerity (said_at c (mapped d)) first n
meets-first c d first a n within meets = (meets.0, omega (arith, within, meets.1), meets.2)

pub keeps-none : (w : StackRecord) (d first : ℕ) → AreChecked w → ReadKeeps w d first 0 w
keeps-none w d first checked = record { same = λ none. refl; checked = checked }

-- the next m sectors after the first a, of n in all
pub keeps-then : (w v w' : StackRecord) (d first a m n : ℕ) → v.config ≡ w.config → a + m ≤ n → KeepsSame w d first a v → ReadKeeps v d (first + a) m w' → ReadKeeps w d first n w'
keeps-then w v w' d first a m n config within p q = record {
  same = λ none.
      q.same (λ meets. none (meets-later w v d first a m n config within meets))
      ∙ p (λ meets. none (meets-first w.config d first a n (omega (arith, within)) meets));
  checked = q.checked;
}

-- a read at once, as one of its sectors
pub bytes-kept : (w : World) (d first size : ℕ) (answer : Result (List ℕ) IoFault) (w' : World) → BytesRead EachPart w d first size answer w' → ReadKeeps w.stack d first (size / 512) w'.stack
bytes-kept w d first size answer w' s =
    let same = bytes_range-ok w.stack.config d first size s.range s.admits in
    subst (λ (v : StackRecord). ReadKeeps w.stack d first (size / 512) v) (sym (ap (λ (x : World). x.stack) s.leaves))
    (subst (λ (x : SectorRange). ReadKeeps w.stack x.device.0 x.first x.count s.stack) (sym same) s.asks.kept)

-- ---- any calls

-- those that are kept, where leaves are read or synced
leaves-checked : {n : ℕ} (v : StackRecord) (leaves : List Device) → AreRead v.leaves n leaves → AreChecked v → AreChecked (record v { leaves = leaves })
leaves-checked v leaves read checked = record {
  few = checked.few;
  distinct = checked.distinct;
  each = λ i d below. stored-read read (checked.each i d below);
  last = IfSome_then v.last {P = IsCachedData v.config v.leaves} {Q = IsCachedData v.config leaves} checked.last (λ b. stored-read read);
  room = checked.room;
}

none-checked : (c : Configuration) (leaves : List Device) (capacity : Capacity) {restored : ℕ} → AreChecked (record { config = c; leaves = leaves; capacity = capacity; kept = []; last = None; restored = restored })
unfolding IsDistinct
none-checked c leaves capacity = record { few = omega arith; distinct = tt; each = All-nil _; last = tt; room = λ none. refl }

checked-same : (v v' : StackRecord) → v' ≡ v → AreChecked v → KeepsChecked v v'
checked-same v v' same checked = subst (KeepsChecked v) (sym same) (record { capacity = refl; checked = checked })

same-world : (w w' : World) → w' ≡ w → AreChecked w.stack → KeepsChecked w.stack w'.stack
same-world w w' same checked = checked-same w.stack w'.stack (ap (λ (x : World). x.stack) same) checked

pub checked-then : {v mid v' : StackRecord} → KeepsChecked v mid → KeepsChecked mid v' → KeepsChecked v v'
checked-then p q = record { capacity = q.capacity ∙ p.capacity; checked = q.checked }

part-keeps : (v : StackRecord) (d first : ℕ) (part : Part) (answer : Result AnswerRecord IoFault) (v' : StackRecord) → EachPart v d first part answer v' → KeepsChecked v v'
part-keeps v d first part answer v' p = record {
  capacity = (any-keeps v d first part answer v' (each-any v d first part answer v' p)).capacity;
  checked = part-checked v d first part answer v' p;
}

answers-keep : (w : World) (i : ℕ) (f : FlightRecord) (progress : Progress) (w' : World) → AnswersStep EachPart w i f progress w' → KeepsChecked w.stack w'.stack
answers-keep w i f More w' s =
    subst (λ (x : World). KeepsChecked w.stack x.stack) (sym s.leaves) (part-keeps w.stack f.rest.device.0 f.rest.first (part_of_work f.work (done_of f) (next_count w f)) (Ok s.got) s.stack s.asks)
answers-keep w i f (Done (Ok reply)) w' s =
    subst (λ (x : World). KeepsChecked w.stack x.stack) (sym s.leaves) (part-keeps w.stack f.rest.device.0 f.rest.first (part_of_work f.work (done_of f) (next_count w f)) (Ok s.got) s.stack s.asks)
answers-keep w i f (Done (Err fault)) w' s =
    subst (λ (x : World). KeepsChecked w.stack x.stack) (sym s.leaves) (part-keeps w.stack f.rest.device.0 f.rest.first (part_of_work f.work (done_of f) (next_count w f)) (Err fault) s.stack s.asks)

serves-keep : (w : World) (t : ℕ) (progress : Progress) (w' : World) → Serves EachPart w t progress w' → KeepsChecked w.stack w'.stack
serves-keep w t progress w' s = answers-keep w s.i s.f progress w' s.answers

ends-keep : (t : ℕ) (answer : Result Reply IoFault) (w w' : World) → EndsRequest EachPart t answer w w' → KeepsChecked w.stack w'.stack
ends-keep t answer w w' (at_once s) = serves-keep w t (Done answer) w' s
ends-keep t answer w w' (later {v = v} s more) = checked-then (serves-keep w t More v s) (ends-keep t answer v w' more)

bytes-keep : (w : World) (d first size : ℕ) (reply : Result (Result (List ℕ) IoFault) SubmitFault) (w' : World) → AreChecked w.stack → ReadsBytes EachPart w d first size reply w' → KeepsChecked w.stack w'.stack
bytes-keep w d first size (Err fault) w' checked s = same-world w w' s.1 checked
bytes-keep w d first size (Ok answer) w' checked s =
    subst (λ (x : World). KeepsChecked w.stack x.stack) (sym s.leaves) (part-keeps w.stack s.range.device.0 s.range.first (bytes_part s.range.count) (without_chains answer) s.stack s.asks)

loads-keep : (w : World) (text : List Entry) (reply : Result Unit (BusyOr LoadFault)) (w' : World) → AreChecked w.stack → LoadsText w text reply w' → KeepsChecked w.stack w'.stack
loads-keep w text (Ok done) w' checked s = subst (λ (x : World). KeepsChecked w.stack x.stack) (sym s.leaves) (record { capacity = refl; checked = none-checked _ w.stack.leaves w.stack.capacity })
loads-keep w text (Err Busy) w' checked s = same-world w w' s.1 checked
loads-keep w text (Err (Fault fault)) w' checked s = same-world w w' s.2 checked

removes-keep : (w : World) (name : List ℕ) (reply : Result Unit (BusyOr RemoveFault)) (w' : World) → AreChecked w.stack → Removes w name reply w' → KeepsChecked w.stack w'.stack
removes-keep w name (Ok done) w' checked s = subst (λ (x : World). KeepsChecked w.stack x.stack) (sym s.leaves) (record { capacity = refl; checked = none-checked _ w.stack.leaves w.stack.capacity })
removes-keep w name (Err Busy) w' checked s = same-world w w' s.1 checked
removes-keep w name (Err (Fault fault)) w' checked s = same-world w w' s.2 checked

syncs-keep : (w : World) (reply : Result Unit IoFault) (w' : World) → AreChecked w.stack → Syncs w reply w' → KeepsChecked w.stack w'.stack
syncs-keep w (Ok done) w' checked s =
    subst (λ (x : World). KeepsChecked w.stack x.stack) (sym s) (record { capacity = refl; checked = leaves-checked w.stack (map synced w.stack.leaves) (synced-read w.stack.leaves) checked })
syncs-keep w (Err fault) w' checked s =
    subst (λ (x : World). KeepsChecked w.stack x.stack) (sym s.leaves) (record { capacity = refl; checked = leaves-checked w.stack s.after (unsynced-read w.stack.leaves s.after fault s.fails) checked })

runs-keep : (w : World) (r : RequestRecord) (reply : Result (Result Reply IoFault) SubmitFault) (w' : World) → AreChecked w.stack → Runs EachPart w r reply w' → KeepsChecked w.stack w'.stack
runs-keep w r (Err fault) w' checked s = same-world w w' s.same checked
runs-keep w r (Ok answer) w' checked s =
    checked-then (checked-same w.stack s.begun.stack (ap (λ (x : World). x.stack) s.begins.leaves) checked) (ends-keep (w.given + 1) answer s.begun w' s.ends)

event-keeps : (w : World) (e : Event) (w' : World) → AreChecked w.stack → Step EachPart w e w' → KeepsChecked w.stack w'.stack
event-keeps w (submit r (Ok t)) w' checked s = checked-same w.stack w'.stack (ap (λ (x : World). x.stack) s.leaves) checked
event-keeps w (submit r (Err fault)) w' checked s = same-world w w' s.same checked
event-keeps w (step t (Ok progress)) w' checked s = serves-keep w t progress w' s
event-keeps w (step t (Err none)) w' checked s = same-world w w' s.1 checked
event-keeps w (read_bytes d first size reply) w' checked s = bytes-keep w d first size reply w' checked s
event-keeps w (write_piece d first bytes result) w' checked s =
    subst (λ (x : World). KeepsChecked w.stack x.stack) (sym s.leaves) (part-keeps w.stack d first (write_part bytes) (without_bytes result) s.stack s.asks)
event-keeps w (load text reply) w' checked s = loads-keep w text reply w' checked s
event-keeps w (remove_device name reply) w' checked s = removes-keep w name reply w' checked s
event-keeps w (run r reply) w' checked s = runs-keep w r reply w' checked s
event-keeps w (sync reply) w' checked s = syncs-keep w reply w' checked s

-- after any list of calls the kept blocks are checked
pub run-keeps : (w : World) (turns : List Turn) → AreChecked w.stack → AreTurns EachPart w turns → KeepsChecked w.stack (last w turns).stack
run-keeps w [] checked r = record { capacity = refl; checked = checked }
run-keeps w (x ∷ more) checked r = let one = event-keeps w x.event x.after checked r.0 in checked-then one (run-keeps x.after more one.checked r.1)
