-- The pieces of writes that steps serve, and what they leave.
use Rattle.std.proofs.Common.{◌≡◌, ℕ, ◌/◌, false, true, List, [], ◌∷◌, ◌++◌, length, All, refl, ap, sym, ◌∙◌, subst, Option, Some, Result, Ok, Err}
use Rattle.std.proofs.lemmas.List.Elements.{All-head, All-tail}
use Rattle.block_device.specs.Device.{Device}
use Rattle.dm_table.specs.declared.stack.Entry.{Entry}
use Rattle.stack_rules.specs.declared.refusal.LoadFault.{LoadFault}
use Rattle.stack_rules.specs.declared.refusal.RemoveFault.{RemoveFault}
use Rattle.stack_meaning.specs.declared.fault.Fault.{Fault as StackFault}
use Rattle.stack_meaning.specs.declared.fault.IoFault.{IoFault}
use Rattle.stack_meaning.specs.declared.fault.IoFault.TheVariants as io
use Rattle.stack_meaning.specs.Leaves.{steady_images}
use Rattle.stack_meaning.specs.May.{MayFault}
use Rattle.stack_meaning.specs.Outcomes.{Images}
use Rattle.stack_meaning.proofs.lemmas.ChangeLemmas.{differ-within}
use Rattle.stack_meaning.proofs.lemmas.LeafListLemmas.{AreSteady-kept, images-kept}
use Rattle.stack_rules.specs.Names.{mapped}
use Rattle.stack_lines.specs.Writing.{MayEnd}
use Rattle.stack_engine.specs.Laws.{AnsweredChainsAreGood, ForgedAnswersCollide}
use Rattle.stack_engine.specs.Stacks.{StackRecord, AnswerRecord}
use Rattle.stack_engine.specs.WritePieces.{EachWrite}
use Rattle.stack_engine.proofs.lemmas.SyncLemmas.{synced-read, unsynced-read}
use Rattle.request_queue.specs.declared.fault.BusyOr.{BusyOr}
use Rattle.request_queue.specs.declared.fault.BusyOr.TheVariants.{Busy, Fault}
use Rattle.request_queue.specs.declared.fault.SubmitFault.{SubmitFault}
use Rattle.request_queue.specs.declared.reply.Progress.{Progress}
use Rattle.request_queue.specs.declared.reply.Progress.TheVariants.{More, Done}
use Rattle.request_queue.specs.AsSteps.{is_run}
use Rattle.request_queue.specs.Flights.{FlightRecord}
use Rattle.request_queue.specs.Parts.{Part, read_part, bytes_part, write_part, EachPart, ending, part_of_work, done_of, without_bytes}
use Rattle.request_queue.specs.Puts.{WrittenPiece, part_pieces, next_pieces, piece_ending, pieces_in, pieces_written, IsOverSteady, ArePutOn, all_put, then_put}
use Rattle.request_queue.specs.Runs.{Turn, AreTurns, last, flight_of}
use Rattle.request_queue.specs.World.{World, Event, submit, step, read_bytes, write_piece, load, remove_device, run, sync, Step, AnswersStep, Serves, ReadsBytes, PieceWritten, LoadsText, Removes, Syncs, next_count}
use Rattle.request_queue.proofs.lemmas.BudgetLemmas.{InOrder}
use Rattle.request_queue.proofs.lemmas.ChainLemmas.{IsHonest}
use Rattle.request_queue.proofs.lemmas.ChangesLemmas.{event-stays, next-honest}
use Rattle.request_queue.proofs.lemmas.TicketLemmas.{at-ticket, find-at}

-- ---- lists of pieces

put-append : {base : List Device} {xs ys : List WrittenPiece} {old mid new : Images} → ArePutOn base xs old mid → ArePutOn base ys mid new → ArePutOn base (xs ++ ys) old new
put-append all_put q = q
put-append (then_put p more) q = then_put p (put-append more q)

none-put : {base : List Device} {old new : Images} → new ≡ old → ArePutOn base [] old new
none-put {base = base} {old = old} e = subst (ArePutOn base [] old) (sym e) all_put

-- of leaves of which fewer are steady
put-over : {base now : List Device} {pieces : List WrittenPiece} {old new : Images} → ((p : WrittenPiece) → IsOverSteady base p → IsOverSteady now p) → ArePutOn now pieces old new → ArePutOn base pieces old new
put-over steady all_put = all_put
put-over steady (then_put {p = p} one more) = then_put (record { exact = λ h. one.exact (steady p h); others = one.others; none = one.none }) (put-over steady more)

-- ---- one part

-- what some pieces leave of a stack's leaves
abbrev Leave : List WrittenPiece → StackRecord → StackRecord → Type 0
Leave pieces v v' = ArePutOn v.leaves pieces (steady_images v.leaves) (steady_images v'.leaves)

same-leaves : (v v' : StackRecord) → v'.leaves ≡ v.leaves → Leave [] v v'
same-leaves v v' e = none-put (ap steady_images e)

no-memory : (May : StackFault → Type 0) (old new : List Device) (result : Result Unit IoFault) → MayEnd May old new result → result ≡ Err io.NoMemory → new ≡ old
no-memory May old new (Ok done) ends e = let clash : Ok done ≡ Err io.NoMemory = e in cc
no-memory May old new (Err (io.Stack fault)) ends e = let clash : Err (io.Stack fault) ≡ Err io.NoMemory = e in cc
no-memory May old new (Err (io.Device i)) ends e = let clash : Err (io.Device i) ≡ Err io.NoMemory = e in cc
no-memory May old new (Err io.NoMemory) ends e = ends.0

write-puts : (v : StackRecord) (d first : ℕ) (bytes : List ℕ) (result : Result Unit IoFault) (v' : StackRecord) → EachWrite v d first bytes result v'
    → Leave (part_pieces v.config d first (write_part bytes) result) v v'
write-puts v d first bytes result v' p =
    then_put {mid = steady_images v'.leaves} (record {
      exact = λ steady. (p.steady steady).exact;
      others = differ-within v.leaves v'.leaves p.any.moved.moved.fixed p.any.moved.others;
      none = λ e. ap steady_images (no-memory (MayFault v.config (mapped d) first (length bytes / 512)) v.leaves v'.leaves result p.any.ends e);
    }) all_put

part-puts : (v : StackRecord) (d first : ℕ) (part : Part) (answer : Result AnswerRecord IoFault) (v' : StackRecord) → EachPart v d first part answer v' → Leave (part_pieces v.config d first part (ending answer)) v v'
part-puts v d first (read_part n) answer v' p = none-put (images-kept p.answered.any.moved)
part-puts v d first (bytes_part n) answer v' p = none-put (images-kept p.answered.any.moved)
part-puts v d first (write_part bytes) answer v' p = write-puts v d first bytes (ending answer) v' p.answered

-- ---- one event

abbrev LeaveOf : World → Event → World → Type 0
LeaveOf w e w' = Leave (pieces_in w e) w.stack w'.stack

answers-put : (w : World) (i : ℕ) (f : FlightRecord) (progress : Progress) (w' : World) → AnswersStep EachPart w i f progress w' → Leave (next_pieces w (Some f) (piece_ending progress)) w.stack w'.stack
answers-put w i f More w' s =
    subst (λ (x : World). Leave (next_pieces w (Some f) (Ok tt)) w.stack x.stack) (sym s.leaves)
    (part-puts w.stack f.rest.device.0 f.rest.first (part_of_work f.work (done_of f) (next_count w f)) (Ok s.got) s.stack s.asks)
answers-put w i f (Done (Ok reply)) w' s =
    subst (λ (x : World). Leave (next_pieces w (Some f) (Ok tt)) w.stack x.stack) (sym s.leaves)
    (part-puts w.stack f.rest.device.0 f.rest.first (part_of_work f.work (done_of f) (next_count w f)) (Ok s.got) s.stack s.asks)
answers-put w i f (Done (Err fault)) w' s =
    subst (λ (x : World). Leave (next_pieces w (Some f) (Err fault)) w.stack x.stack) (sym s.leaves)
    (part-puts w.stack f.rest.device.0 f.rest.first (part_of_work f.work (done_of f) (next_count w f)) (Err fault) s.stack s.asks)

serves-put : (w : World) (t : ℕ) (progress : Progress) (w' : World) → InOrder w → Serves EachPart w t progress w' → LeaveOf w (step t (Ok progress)) w'
serves-put w t progress w' order s =
    let found : flight_of w t ≡ Some s.f = (find-at 0 w.given t s.i w.in_flight s.f order s.at.is (at-ticket w.in_flight t s.i s.f s.at)).1 in
    subst (λ (o : Option FlightRecord). Leave (next_pieces w o (piece_ending progress)) w.stack w'.stack) (sym found) (answers-put w s.i s.f progress w' s.answers)

same-world : (w w' : World) → w' ≡ w → Leave [] w.stack w'.stack
same-world w w' e = same-leaves w.stack w'.stack (ap (λ (x : World). x.stack.leaves) e)

bytes-put : (w : World) (d first size : ℕ) (reply : Result (Result (List ℕ) IoFault) SubmitFault) (w' : World) → ReadsBytes EachPart w d first size reply w' → Leave [] w.stack w'.stack
bytes-put w d first size (Err fault) w' s = same-world w w' s.1
bytes-put w d first size (Ok answer) w' s = none-put (ap (λ (x : World). steady_images x.stack.leaves) s.leaves ∙ images-kept s.asks.answered.any.moved)

pub ending-same : (result : Result Unit IoFault) → ending (without_bytes result) ≡ result
ending-same (Ok done) = refl
ending-same (Err fault) = refl

written-put : (w : World) (d first : ℕ) (bytes : List ℕ) (result : Result Unit IoFault) (w' : World) → PieceWritten EachPart w d first bytes result w' → LeaveOf w (write_piece d first bytes result) w'
written-put w d first bytes result w' s =
    subst (λ (x : World). Leave (part_pieces w.stack.config d first (write_part bytes) result) w.stack x.stack) (sym s.leaves)
    (write-puts w.stack d first bytes result s.stack (subst (λ x. EachWrite w.stack d first bytes x s.stack) (ending-same result) s.asks.answered))

loads-put : (w : World) (text : List Entry) (reply : Result Unit (BusyOr LoadFault)) (w' : World) → LoadsText w text reply w' → Leave [] w.stack w'.stack
loads-put w text (Ok done) w' s = same-leaves w.stack w'.stack (ap (λ (x : World). x.stack.leaves) s.leaves)
loads-put w text (Err Busy) w' s = same-world w w' s.1
loads-put w text (Err (Fault fault)) w' s = same-world w w' s.2

removes-put : (w : World) (name : List ℕ) (reply : Result Unit (BusyOr RemoveFault)) (w' : World) → Removes w name reply w' → Leave [] w.stack w'.stack
removes-put w name (Ok done) w' s = same-leaves w.stack w'.stack (ap (λ (x : World). x.stack.leaves) s.leaves)
removes-put w name (Err Busy) w' s = same-world w w' s.1
removes-put w name (Err (Fault fault)) w' s = same-world w w' s.2

syncs-put : (w : World) (reply : Result Unit IoFault) (w' : World) → Syncs w reply w' → Leave [] w.stack w'.stack
syncs-put w (Ok done) w' s = none-put (ap (λ (x : World). steady_images x.stack.leaves) s ∙ images-kept (synced-read w.stack.leaves))
syncs-put w (Err fault) w' s = none-put (ap (λ (x : World). steady_images x.stack.leaves) s.leaves ∙ images-kept (unsynced-read w.stack.leaves s.after fault s.fails))

event-puts : (w : World) (e : Event) (w' : World) → is_run e ≡ false → InOrder w → Step EachPart w e w' → LeaveOf w e w'
event-puts w (submit r (Ok t)) w' unrun order s = same-leaves w.stack w'.stack (ap (λ (x : World). x.stack.leaves) s.leaves)
event-puts w (submit r (Err fault)) w' unrun order s = same-world w w' s.same
event-puts w (step t (Ok progress)) w' unrun order s = serves-put w t progress w' order s
event-puts w (step t (Err none)) w' unrun order s = same-world w w' s.1
event-puts w (read_bytes d first size reply) w' unrun order s = bytes-put w d first size reply w' s
event-puts w (write_piece d first bytes result) w' unrun order s = written-put w d first bytes result w' s
event-puts w (load text reply) w' unrun order s = loads-put w text reply w' s
event-puts w (remove_device name reply) w' unrun order s = removes-put w name reply w' s
event-puts w (run r (Ok answer)) w' unrun order s = let clash : true ≡ false = unrun in absurd cc
event-puts w (run r (Err fault)) w' unrun order s = same-world w w' s.same
event-puts w (sync reply) w' unrun order s = syncs-put w reply w' s

-- ---- one event after another

pub steps-put : AnsweredChainsAreGood → ForgedAnswersCollide → (w : World) (turns : List Turn) → IsHonest w → InOrder w → All (λ (x : Turn). is_run x.event ≡ false) turns → AreTurns EachPart w turns
    → ArePutOn w.stack.leaves (pieces_written w turns) (steady_images w.stack.leaves) (steady_images (last w turns).stack.leaves)
steps-put good forged w [] honest order unrun r = all_put
steps-put good forged w (x ∷ more) honest order unrun r =
    let known = next-honest good forged w x honest order r.0 in
    let fixed = (event-stays w x.event x.after honest order r.0).fixed in
    put-append (event-puts w x.event x.after (All-head (λ (y : Turn). is_run y.event ≡ false) x more unrun) order r.0)
    (put-over (λ p h. AreSteady-kept w.stack.leaves x.after.stack.leaves fixed h)
    (steps-put good forged x.after more known.0 known.1 (All-tail (λ (y : Turn). is_run y.event ≡ false) x more unrun) r.1))
