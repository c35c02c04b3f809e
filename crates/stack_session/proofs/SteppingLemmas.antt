-- Sessions over another relation of steps: whatever the leaves answer, over steady ones.
use Rattle.std.proofs.Common.{◌++◌, ◌≡◌, ℕ, Bool, List, [], ◌∷◌, refl, sym, subst, inl, inr, Result, Ok, Err}
use Rattle.block_device.specs.Device.{Device}
use Rattle.dm_table.specs.declared.stack.Entry.{Entry}
use Rattle.dm_table.specs.declared.fault.TextFault.{TextFault}
use Rattle.dm_table.specs.StackText.{stack_of}
use Rattle.stack_rules.specs.Names.{mapped}
use Rattle.stack_meaning.specs.Leaves.{AreSteady}
use Rattle.stack_meaning.proofs.lemmas.LeafListLemmas.{AreSteady-kept}
use Rattle.stack_engine.proofs.lemmas.SyncLemmas.{synced-on, unsynced-on}
use Rattle.stack_lines.specs.Touches.{leaves_of}
use Rattle.request_queue.specs.Parts.{AnyPart, EachPart}
use Rattle.request_queue.specs.Runs.{IsLed}
use Rattle.request_queue.specs.World.{World, Event, Step}
use Rattle.request_queue.proofs.lemmas.PartLemmas.{any-keeps, each-any, each-steady}
use Rattle.request_queue.proofs.lemmas.PremiseLemmas.{OutlivesSyncs, Passes, step-any, step-as}
use Rattle.stack_session.specs.declared.fault.SessionFault.{SessionFault}
use Rattle.stack_session.specs.declared.fault.SessionFault.TheVariants as fault
use Rattle.stack_session.specs.Session.{IsSession}
use Rattle.program_io.specs.Streams.{Streams}
use Rattle.stack_session.specs.QueueSessions.{IsQueueSession, SteadyBeneath}
use Rattle.stack_session.specs.Commands.{CommandRecord, nothing, load, run, submit, step, remove, cost, table, moved, usage, line_command}
use Rattle.stack_session.specs.Replies.{Stepping, WholeStep, RepliesToText, RepliesTo, Replies}
use Rattle.stack_session.proofs.ReplyingLemmas.{IsSession-as}
use Rattle.stack_session.proofs.lemmas.QueueRunLemmas.{lines-led}

-- each step of one relation is one of the other, and a fact about the leaves goes on
abbrev pub Yields : Stepping → Stepping → (List Device → Type 0) → Type 0
Yields a b P = (w : World) (e : Event) (w' : World) → P w.stack.leaves → a w e w' → b w e w' × P w'.stack.leaves

module _ (a b : Stepping) (P : List Device → Type 0) (yields : Yields a b P) where
  same-leaves : (w w' : World) → w' ≡ w → P w.stack.leaves → P w'.stack.leaves
  same-leaves w w' e p = subst (λ (x : World). P x.stack.leaves) (sym e) p

  text-as : (w : World) (r : Result (List Entry) TextFault) (reply : List ℕ) (w' : World) → P w.stack.leaves → RepliesToText a w r reply w' → RepliesToText b w r reply w' × P w'.stack.leaves
  text-as w (Err fault) reply w' p r = (r, same-leaves w w' r.1 p)
  text-as w (Ok entries) reply w' p r = let s = yields w _ w' p r.1 in ((r.0, s.0, r.2), s.1)

  command-as : (w : World) (c : CommandRecord) (reply : List ℕ) (w' : World) → P w.stack.leaves → RepliesTo a w c reply w' → RepliesTo b w c reply w' × P w'.stack.leaves
  command-as w nothing reply w' p r = (r, same-leaves w w' r.1 p)
  command-as w usage reply w' p r = (r, same-leaves w w' r.1 p)
  command-as w (load text) reply w' p (inl r) = let s = text-as w (stack_of text) reply w' p r in (inl s.0, s.1)
  command-as w (load text) reply w' p (inr none) = (inr none, same-leaves w w' none.0.1 p)
  command-as w (run r) reply w' p (inl s) = let t = yields w _ w' p s.1 in (inl (s.0, t.0, s.2), t.1)
  command-as w (run r) reply w' p (inr none) = (inr none, same-leaves w w' none.0.1 p)
  command-as w (submit r) reply w' p (inl s) = let t = yields w _ w' p s.1 in (inl (s.0, t.0, s.2), t.1)
  command-as w (submit r) reply w' p (inr none) = (inr none, same-leaves w w' none.0.1 p)
  command-as w (step ticket) reply w' p s = let t = yields w _ w' p s.1 in ((s.0, t.0, s.2), t.1)
  command-as w (remove name) reply w' p s = let t = yields w _ w' p s.1 in ((s.0, t.0, s.2), t.1)
  command-as w (cost name) reply w' p r = (r, same-leaves w w' r.1 p)
  command-as w (table name) reply w' p (inl r) = (inl r, same-leaves w w' r.1 p)
  command-as w (table name) reply w' p (inr none) = (inr none, same-leaves w w' none.0.1 p)
  command-as w moved reply w' p r = (r, same-leaves w w' r.1 p)

  line-as : (w : World) (line reply : List ℕ) (w' : World) → P w.stack.leaves → Replies a w line reply w' → Replies b w line reply w' × P w'.stack.leaves
  line-as w line reply w' p r = let s = command-as w (line_command line) reply w' p r.to in (record { to = s.0 }, s.1)

  -- a session over another relation of steps
  pub session-as : (first last : World) (old new : Streams) (result : Result Unit SessionFault) → P first.stack.leaves
      → IsSession (Replies a) first last old new result → IsSession (Replies b) first last old new result
  session-as first last old new result p s = IsSession-as (Replies a) (Replies b) (λ (w : World). P w.stack.leaves) line-as first last old new result p s

yields_any : Yields WholeStep (Step AnyPart) (λ leaves. Unit {0})
yields_any w e w' p s = (step-any w e w' s.each, tt)

-- each of the first leaves that was steady is so
abbrev StaySteady : List Device → List Device → Type 0
StaySteady first leaves = (these : ℕ → Bool) → AreSteady these first → AreSteady these leaves

stay-synced : (first : List Device) → OutlivesSyncs (StaySteady first)
stay-synced first = record {
  synced = λ leaves stay these sure. synced-on these leaves (stay these sure);
  unsynced = λ old new fault fails stay these sure. unsynced-on these old new fault fails (stay these sure);
}

pass-beneath : (first : List Device) → Passes EachPart (SteadyBeneath first) (StaySteady first)
pass-beneath first v d at part answer v' stay p = (
  λ sure agrees. each-steady v d at part answer v' (stay (leaves_of v.config (mapped d)) sure) agrees p,
  λ these sure. AreSteady-kept v.leaves v'.leaves (any-keeps v d at part answer v' (each-any v d at part answer v' p)).fixed (stay these sure),
)

yields_steady : (first : List Device) → Yields WholeStep (Step (SteadyBeneath first)) (StaySteady first)
yields_steady first w e w' stay s = step-as EachPart (SteadyBeneath first) (StaySteady first) (pass-beneath first) (stay-synced first) w e w' stay s.each

yields_each : Yields WholeStep (Step EachPart) (λ leaves. Unit {0})
yields_each w e w' p s = (s.each, tt)

session-led : (first last : World) (old new : Streams) (result : Result Unit SessionFault) → IsSession (Replies (Step EachPart)) first last old new result → IsLed EachPart first last
session-led first last old new (Ok done) s =
    let all = s.ok.holds.written.holds in lines-led EachPart first (all.whole ++ all.rest ∷ []) all.texts last all.run
session-led first last old new (Err fault.TooLong) s =
    let served = (s.too_long refl).holds.1.1.holds in lines-led EachPart first served.whole served.texts last served.run
session-led first last old new (Err fault.ReadFault) s =
    let served = (s.read_fault refl).holds.1.1.holds in lines-led EachPart first served.whole served.texts last served.run
session-led first last old new (Err fault.WriteFault) s =
    let served = (s.write_fault refl).holds.1 in lines-led EachPart first served.lines served.texts last served.run
session-led first last old new (Err fault.NoMemory) s =
    let served = (s.no_memory refl).holds.holds in lines-led EachPart first served.lines served.texts last served.run

-- all that is said of a session follows from what is known of each step
pub queue-session : (first last : World) (old new : Streams) (result : Result Unit SessionFault) → IsSession (Replies WholeStep) first last old new result → IsQueueSession first last old new result
queue-session first last old new result s = record {
  any = session-as WholeStep (Step AnyPart) (λ leaves. Unit {0}) yields_any first last old new result tt s;
  steady = session-as WholeStep (Step (SteadyBeneath first.stack.leaves)) (StaySteady first.stack.leaves) (yields_steady first.stack.leaves) first last old new result (λ these sure. sure) s;
  whole = s;
  led = session-led first last old new result (session-as WholeStep (Step EachPart) (λ leaves. Unit {0}) yields_each first last old new result tt s);
}
