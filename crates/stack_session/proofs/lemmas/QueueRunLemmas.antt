-- A session's lines as a run of the queue, of which its law speaks.
use Rattle.std.proofs.Common.{◌≡◌, ℕ, List, [], ◌∷◌, sym, subst, inl, inr, Result, Ok, Err}
use Rattle.dm_table.specs.declared.stack.Entry.{Entry}
use Rattle.dm_table.specs.declared.fault.TextFault.{TextFault}
use Rattle.dm_table.specs.StackText.{stack_of}
use Rattle.request_queue.specs.Parts.{PartRelation}
use Rattle.request_queue.specs.Runs.{IsLed}
use Rattle.request_queue.specs.World.{World, Step}
use Rattle.request_queue.specs.World as event
use Rattle.request_queue.proofs.lemmas.LedLemmas.{led-none, led-one, led-then}
use Rattle.stack_session.specs.Session.{ServesLines}
use Rattle.stack_session.specs.Commands.{CommandRecord, nothing, load, run, submit, step, remove, cost, table, moved, usage, line_command}
use Rattle.stack_session.specs.Replies.{RepliesToText, RepliesTo, Replies}

module _ (part : PartRelation) where
  no-turn : (w w' : World) → w' ≡ w → IsLed part w w'
  no-turn w w' same = subst (IsLed part w) (sym same) (led-none part w)

  text-led : (w : World) (r : Result (List Entry) TextFault) (reply : List ℕ) (w' : World) → RepliesToText (Step part) w r reply w' → IsLed part w w'
  text-led w (Err fault) reply w' r = no-turn w w' r.1
  text-led w (Ok entries) reply w' r = led-one part w (event.load entries r.0) w' r.1

  command-led : (w : World) (c : CommandRecord) (reply : List ℕ) (w' : World) → RepliesTo (Step part) w c reply w' → IsLed part w w'
  command-led w nothing reply w' r = no-turn w w' r.1
  command-led w usage reply w' r = no-turn w w' r.1
  command-led w (load text) reply w' (inl r) = text-led w (stack_of text) reply w' r
  command-led w (load text) reply w' (inr none) = no-turn w w' none.0.1
  command-led w (run r) reply w' (inl s) = led-one part w (event.run r s.0) w' s.1
  command-led w (run r) reply w' (inr none) = no-turn w w' none.0.1
  command-led w (submit r) reply w' (inl s) = led-one part w (event.submit r s.0) w' s.1
  command-led w (submit r) reply w' (inr none) = no-turn w w' none.0.1
  command-led w (step ticket) reply w' s = led-one part w (event.step ticket s.0) w' s.1
  command-led w (remove name) reply w' s = led-one part w (event.remove_device name s.0) w' s.1
  command-led w (cost name) reply w' r = no-turn w w' r.1
  command-led w (table name) reply w' (inl r) = no-turn w w' r.1
  command-led w (table name) reply w' (inr none) = no-turn w w' none.0.1
  command-led w moved reply w' r = no-turn w w' r.1

  -- lines that are served one after another are a run of the queue
  pub lines-led : (w : World) (lines replies : List (List ℕ)) (w' : World) → ServesLines (Replies (Step part)) w lines replies w' → IsLed part w w'
  lines-led w [] [] w' r = no-turn w w' r
  lines-led w [] (reply ∷ more) w' r = absurd r
  lines-led w (line ∷ lines) [] w' r = absurd r
  lines-led w (line ∷ lines) (reply ∷ more) w' r =
      led-then part w r.0 w' (command-led w (line_command line) reply r.0 r.1.to) (lines-led r.0 lines more w' r.2)
