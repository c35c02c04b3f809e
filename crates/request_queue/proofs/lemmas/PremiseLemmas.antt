-- From what holds of each part: what holds over any leaves, and what holds over steady ones.
use Rattle.std.proofs.Common.{◌≡◌, ℕ, Bool, ◌+◌, List, [], ◌∷◌, map, sym, subst, Result, Ok, Err}
use Rattle.block_device.specs.Device.{Device, synced}
use Rattle.dm_table.specs.declared.stack.Entry.{Entry}
use Rattle.stack_rules.specs.declared.refusal.LoadFault.{LoadFault}
use Rattle.stack_rules.specs.declared.refusal.RemoveFault.{RemoveFault}
use Rattle.stack_meaning.specs.declared.fault.IoFault.{IoFault}
use Rattle.stack_meaning.specs.Leaves.{AllSteady, AreSteady}
use Rattle.stack_rules.specs.Names.{mapped}
use Rattle.stack_lines.specs.Touches.{leaves_of}
use Rattle.stack_engine.specs.Stacks.{StackRecord, AnswerRecord}
use Rattle.stack_engine.specs.Syncs.{FailsToSync}
use Rattle.stack_meaning.proofs.lemmas.LeafListLemmas.{AllSteady-kept, AreSteady-kept, some-steady}
use Rattle.stack_engine.proofs.lemmas.SyncLemmas.{synced-on, synced-steady, unsynced-on, unsynced-steady}
use Rattle.request_queue.specs.declared.fault.BusyOr.{BusyOr}
use Rattle.request_queue.specs.declared.fault.BusyOr.TheVariants.{Busy, Fault}
use Rattle.request_queue.specs.declared.fault.SubmitFault.{SubmitFault}
use Rattle.request_queue.specs.declared.reply.Progress.{Progress}
use Rattle.request_queue.specs.declared.reply.Progress.TheVariants.{More, Done}
use Rattle.request_queue.specs.declared.reply.Reply.{Reply}
use Rattle.request_queue.specs.Requests.{RequestRecord}
use Rattle.request_queue.specs.Flights.{FlightRecord}
use Rattle.request_queue.specs.Parts.{Part, PartRelation, AgreedPart, AnyPart, SteadyPart, EachPart, bytes_part, write_part, part_of_work, without_bytes, without_chains}
use Rattle.request_queue.specs.World.{World, Event, submit, step, read_bytes, write_piece, load, remove_device, run, sync, Step, Begins, AnswersStep, Serves, ReadsBytes, PieceWritten, LoadsText, Removes, Syncs, EndsRequest, at_once, later, Runs}
use Rattle.request_queue.specs.Runs.{Turn, AreTurns, last}
use Rattle.request_queue.proofs.lemmas.PartLemmas.{any-keeps, each-any, each-steady, steady-any-part}

-- parts of one kind are of the other, where a fact about the leaves goes on
abbrev pub Passes : PartRelation → PartRelation → (List Device → Type 0) → Type 0
Passes P Q F = (v : StackRecord) (d first : ℕ) (part : Part) (answer : Result AnswerRecord IoFault) (v' : StackRecord) → F v.leaves → P v d first part answer v' → Q v d first part answer v' × F v'.leaves

-- a fact about the leaves goes on where they are synced, and where one isn't
pub record OutlivesSyncs (F : List Device → Type 0) : Type 0 where
  pub synced : (leaves : List Device) → F leaves → F (map synced leaves)
  pub unsynced : (old new : List Device) (fault : IoFault) → FailsToSync old new fault → F old → F new

module _ (P Q : PartRelation) (F : List Device → Type 0) (pass : Passes P Q F) (outlives : OutlivesSyncs F) where
  answers-as : (w : World) (i : ℕ) (f : FlightRecord) (progress : Progress) (w' : World) → F w.stack.leaves → AnswersStep P w i f progress w' → AnswersStep Q w i f progress w' × F w'.stack.leaves
  answers-as w i f More w' h s =
      let p = pass w.stack f.rest.device.0 f.rest.first (part_of_work f.work _ _) (Ok s.got) s.stack h s.asks in
      (record { got = s.got; stack = s.stack; asks = p.0; rest = s.rest; leaves = s.leaves }, subst (λ (x : World). F x.stack.leaves) (sym s.leaves) p.1)
  answers-as w i f (Done (Ok reply)) w' h s =
      let p = pass w.stack f.rest.device.0 f.rest.first (part_of_work f.work _ _) (Ok s.got) s.stack h s.asks in
      (record { got = s.got; stack = s.stack; asks = p.0; last = s.last; replies = s.replies; leaves = s.leaves }, subst (λ (x : World). F x.stack.leaves) (sym s.leaves) p.1)
  answers-as w i f (Done (Err fault)) w' h s =
      let p = pass w.stack f.rest.device.0 f.rest.first (part_of_work f.work _ _) (Err fault) s.stack h s.asks in
      (record { stack = s.stack; asks = p.0; leaves = s.leaves }, subst (λ (x : World). F x.stack.leaves) (sym s.leaves) p.1)

  pub serves-as : (w : World) (t : ℕ) (progress : Progress) (w' : World) → F w.stack.leaves → Serves P w t progress w' → Serves Q w t progress w' × F w'.stack.leaves
  serves-as w t progress w' h s =
      let p = answers-as w s.i s.f progress w' h s.answers in
      (record { i = s.i; f = s.f; at = s.at; some = s.some; answers = p.0 }, p.1)

  ends-as : (t : ℕ) (answer : Result Reply IoFault) (w w' : World) → F w.stack.leaves → EndsRequest P t answer w w' → EndsRequest Q t answer w w' × F w'.stack.leaves
  ends-as t answer w w' h (at_once s) = let p = serves-as w t (Done answer) w' h s in (at_once p.0, p.1)
  ends-as t answer w w' h (later {v = v} s more) =
      let p = serves-as w t More v h s in
      let q = ends-as t answer v w' p.1 more in
      (later p.0 q.0, q.1)

  same-leaves : (w w' : World) → w' ≡ w → F w.stack.leaves → F w'.stack.leaves
  same-leaves w w' e h = subst (λ (x : World). F x.stack.leaves) (sym e) h

  begins-leaves : (w : World) (r : RequestRecord) (t : ℕ) (w' : World) → Begins w r t w' → F w.stack.leaves → F w'.stack.leaves
  begins-leaves w r t w' b h = subst (λ (x : World). F x.stack.leaves) (sym b.leaves) h

  loads-leaves : (w : World) (text : List Entry) (reply : Result Unit (BusyOr LoadFault)) (w' : World) → LoadsText w text reply w' → F w.stack.leaves → F w'.stack.leaves
  loads-leaves w text (Ok done) w' s h = subst (λ (x : World). F x.stack.leaves) (sym s.leaves) h
  loads-leaves w text (Err Busy) w' s h = same-leaves w w' s.1 h
  loads-leaves w text (Err (Fault fault)) w' s h = same-leaves w w' s.2 h

  removes-leaves : (w : World) (name : List ℕ) (reply : Result Unit (BusyOr RemoveFault)) (w' : World) → Removes w name reply w' → F w.stack.leaves → F w'.stack.leaves
  removes-leaves w name (Ok done) w' s h = subst (λ (x : World). F x.stack.leaves) (sym s.leaves) h
  removes-leaves w name (Err Busy) w' s h = same-leaves w w' s.1 h
  removes-leaves w name (Err (Fault fault)) w' s h = same-leaves w w' s.2 h

  syncs-leaves : (w : World) (reply : Result Unit IoFault) (w' : World) → Syncs w reply w' → F w.stack.leaves → F w'.stack.leaves
  syncs-leaves w (Ok done) w' s h = subst (λ (x : World). F x.stack.leaves) (sym s) (outlives.synced w.stack.leaves h)
  syncs-leaves w (Err fault) w' s h = subst (λ (x : World). F x.stack.leaves) (sym s.leaves) (outlives.unsynced w.stack.leaves s.after fault s.fails h)

  runs-as : (w : World) (r : RequestRecord) (reply : Result (Result Reply IoFault) SubmitFault) (w' : World) → F w.stack.leaves → Runs P w r reply w' → Runs Q w r reply w' × F w'.stack.leaves
  runs-as w r (Err fault) w' h s = (s, same-leaves w w' s.same h)
  runs-as w r (Ok answer) w' h s =
      let p = ends-as (w.given + 1) answer s.begun w' (begins-leaves w r (w.given + 1) s.begun s.begins h) s.ends in
      (record { begun = s.begun; begins = s.begins; ends = p.0 }, p.1)

  bytes-as : (w : World) (d first bytes : ℕ) (reply : Result (Result (List ℕ) IoFault) SubmitFault) (w' : World) → F w.stack.leaves → ReadsBytes P w d first bytes reply w' → ReadsBytes Q w d first bytes reply w' × F w'.stack.leaves
  bytes-as w d first bytes (Err fault) w' h s = (s, same-leaves w w' s.1 h)
  bytes-as w d first bytes (Ok answer) w' h s =
      let p = pass w.stack s.range.device.0 s.range.first (bytes_part s.range.count) (without_chains answer) s.stack h s.asks in
      (record { range = s.range; admits = s.admits; stack = s.stack; asks = p.0; leaves = s.leaves }, subst (λ (x : World). F x.stack.leaves) (sym s.leaves) p.1)

  written-as : (w : World) (d first : ℕ) (bytes : List ℕ) (result : Result Unit IoFault) (w' : World) → F w.stack.leaves → PieceWritten P w d first bytes result w' → PieceWritten Q w d first bytes result w' × F w'.stack.leaves
  written-as w d first bytes result w' h s =
      let p = pass w.stack d first (write_part bytes) (without_bytes result) s.stack h s.asks in
      (record { inside = s.inside; allowed = s.allowed; stack = s.stack; asks = p.0; leaves = s.leaves }, subst (λ (x : World). F x.stack.leaves) (sym s.leaves) p.1)

  -- an event, with parts of the other kind
  pub step-as : (w : World) (e : Event) (w' : World) → F w.stack.leaves → Step P w e w' → Step Q w e w' × F w'.stack.leaves
  step-as w (submit r (Ok t)) w' h s = (s, begins-leaves w r t w' s h)
  step-as w (submit r (Err fault)) w' h s = (s, same-leaves w w' s.same h)
  step-as w (step t (Ok progress)) w' h s = serves-as w t progress w' h s
  step-as w (step t (Err none)) w' h s = (s, same-leaves w w' s.1 h)
  step-as w (read_bytes d first bytes reply) w' h s = bytes-as w d first bytes reply w' h s
  step-as w (write_piece d first bytes result) w' h s = written-as w d first bytes result w' h s
  step-as w (load text reply) w' h s = (s, loads-leaves w text reply w' s h)
  step-as w (remove_device name reply) w' h s = (s, removes-leaves w name reply w' s h)
  step-as w (run r reply) w' h s = runs-as w r reply w' h s
  step-as w (sync reply) w' h s = (s, syncs-leaves w reply w' s h)

  pub run-as : (w : World) (turns : List Turn) → F w.stack.leaves → AreTurns P w turns → AreTurns Q w turns × F (last w turns).stack.leaves
  run-as w [] h r = (tt, h)
  run-as w (x ∷ more) h r =
      let p = step-as w x.event x.after h r.0 in
      let q = run-as x.after more p.1 r.1 in
      ((p.0, q.0), q.1)

-- ---- the two kinds

abbrev Anything : List Device → Type 0
Anything leaves = Unit {0}

outlives-any : OutlivesSyncs Anything
outlives-any = record { synced = λ leaves h. tt; unsynced = λ old new fault fails h. tt }

pass-any : Passes EachPart AnyPart Anything
pass-any v d first part answer v' h p = (each-any v d first part answer v' p, tt)

outlives-steady : OutlivesSyncs AllSteady
outlives-steady = record { synced = synced-steady; unsynced = unsynced-steady }

pass-steady : Passes EachPart AgreedPart AllSteady
pass-steady v d first part answer v' h p = (
  λ agrees. each-steady v d first part answer v' (some-steady (leaves_of v.config (mapped d)) v.leaves h) agrees p,
  AllSteady-kept v.leaves v'.leaves (any-keeps v d first part answer v' (each-any v d first part answer v' p)).fixed h,
)

pub serves-any : (w : World) (t : ℕ) (progress : Progress) (w' : World) → Serves EachPart w t progress w' → Serves AnyPart w t progress w'
serves-any w t progress w' s = (serves-as EachPart AnyPart Anything pass-any outlives-any w t progress w' tt s).0

pub step-any : (w : World) (e : Event) (w' : World) → Step EachPart w e w' → Step AnyPart w e w'
step-any w e w' s = (step-as EachPart AnyPart Anything pass-any outlives-any w e w' tt s).0

-- a fact that some leaves are steady goes on
outlives-on : (these : ℕ → Bool) → OutlivesSyncs (AreSteady these)
outlives-on these = record { synced = synced-on these; unsynced = unsynced-on these }

pass-on : (these : ℕ → Bool) → Passes EachPart EachPart (AreSteady these)
pass-on these v d first part answer v' h p = (p, AreSteady-kept v.leaves v'.leaves (any-keeps v d first part answer v' (each-any v d first part answer v' p)).fixed h)

pub step-on : (these : ℕ → Bool) (w : World) (e : Event) (w' : World) → Step EachPart w e w' → AreSteady these w.stack.leaves → AreSteady these w'.stack.leaves
step-on these w e w' s h = (step-as EachPart EachPart (AreSteady these) (pass-on these) (outlives-on these) w e w' h s).1

-- a run whatever the leaves answer
pub run-any : (w : World) (turns : List Turn) → AreTurns EachPart w turns → AreTurns AnyPart w turns
run-any w turns r = (run-as EachPart AnyPart Anything pass-any outlives-any w turns tt r).0

-- a run over steady leaves
pub run-steady : (w : World) (turns : List Turn) → AllSteady w.stack.leaves → AreTurns EachPart w turns → AreTurns AgreedPart w turns × AllSteady (last w turns).stack.leaves
run-steady w turns h r = run-as EachPart AgreedPart AllSteady pass-steady outlives-steady w turns h r

pass-steady-any : Passes SteadyPart AnyPart Anything
pass-steady-any v d first part answer v' h p = (steady-any-part v d first part answer v' p, tt)

pub step-steady-any : (w : World) (e : Event) (w' : World) → Step SteadyPart w e w' → Step AnyPart w e w'
step-steady-any w e w' s = (step-as SteadyPart AnyPart Anything pass-steady-any outlives-any w e w' tt s).0
