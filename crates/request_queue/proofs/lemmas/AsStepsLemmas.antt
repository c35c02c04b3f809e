-- Calls as steps.
use Rattle.std.proofs.Common.{◌≡◌, ℕ, ◌+◌, true, false, List, [], ◌∷◌, ◌++◌, All, refl, ap, sym, ◌∙◌, subst, Result, Ok, Err}
use Rattle.std.proofs.lemmas.List.Elements.{All-append, All-cons, All-nil, All-weaker}
use Rattle.stack_meaning.specs.declared.fault.IoFault.{IoFault}
use Rattle.request_queue.specs.declared.reply.Reply.{Reply}
use Rattle.request_queue.specs.AsSteps.{AreAsSteps, none, as_it_was, in_steps, is_run, turn}
use Rattle.request_queue.specs.Parts.{EachPart}
use Rattle.request_queue.specs.Requests.{RequestRecord}
use Rattle.request_queue.specs.Runs.{Turn, AreTurns, last, is_step}
use Rattle.request_queue.specs.World.{World, Event, submit, step, read_bytes, write_piece, load, remove_device, run, sync, Step, RunsToEnd}
use Rattle.request_queue.proofs.lemmas.LedLemmas.{run-append, last-append}
use Rattle.request_queue.proofs.lemmas.ServedLemmas.{steps-alone}

abbrev IsNoRun : Turn → Type 0
IsNoRun x = is_run x.event ≡ false

-- steps that do what these calls do, among which none is a run
pub record Unrolled (w : World) (turns : List Turn) : Type 0 where
  pub steps : List Turn
  pub same : AreAsSteps w turns steps
  pub run : AreTurns EachPart w steps
  pub ends : last w steps ≡ last w turns
  pub none_runs : All (λ (x : Turn). is_run x.event ≡ false) steps

-- a step of a ticket is no run
step-no-run : (t : ℕ) (e : Event) → is_step t e ≡ true → is_run e ≡ false
step-no-run t (submit r reply) is = refl
step-no-run t (step u reply) is = refl
step-no-run t (read_bytes d first bytes reply) is = refl
step-no-run t (write_piece d first bytes result) is = refl
step-no-run t (load text reply) is = refl
step-no-run t (remove_device name reply) is = refl
step-no-run t (run r reply) is = let clash : false ≡ true = is in cc
step-no-run t (sync reply) is = refl

kept : (w : World) (x : Turn) (more : List Turn) → is_run x.event ≡ false → Step EachPart w x.event x.after → Unrolled x.after more → Unrolled w (x ∷ more)
kept w x more unrun s rest = record {
  steps = x ∷ rest.steps;
  same = as_it_was x unrun rest.same;
  run = (s, rest.run);
  ends = rest.ends;
  none_runs = All-cons IsNoRun x rest.steps unrun rest.none_runs;
}

ran : (w : World) (r : RequestRecord) (answer : Result Reply IoFault) (w' : World) (more : List Turn) → RunsToEnd EachPart w r answer w' → Unrolled w' more → Unrolled w (turn (run r (Ok answer)) w' ∷ more)
ran w r answer w' more s rest =
    let t = w.given + 1 in
    let alone = steps-alone t answer s.begun w' s.ends in
    let first = turn (submit r (Ok t)) s.begun in
    record {
      steps = first ∷ (alone.turns ++ rest.steps);
      same = in_steps {begun = s.begun} {own = alone.turns} {steps = rest.steps} r answer (record { each = alone.own; answered = alone.answered; ends = alone.ends }) rest.same;
      run = (s.begins, run-append EachPart s.begun alone.turns rest.steps alone.run (subst (λ (x : World). AreTurns EachPart x rest.steps) (sym alone.ends) rest.run));
      ends = last-append s.begun alone.turns rest.steps ∙ ap (λ (x : World). last x rest.steps) alone.ends ∙ rest.ends;
      none_runs = All-cons IsNoRun first (alone.turns ++ rest.steps) refl
          (All-append IsNoRun alone.turns rest.steps (All-weaker (λ (x : Turn). is_step t x.event ≡ true) IsNoRun (λ x is. step-no-run t x.event is) alone.turns alone.own) rest.none_runs);
    }

unroll-turn : (w : World) (e : Event) (w' : World) (more : List Turn) → Step EachPart w e w' → Unrolled w' more → Unrolled w (turn e w' ∷ more)
unroll-turn w (submit r reply) w' more s rest = kept w (turn (submit r reply) w') more refl s rest
unroll-turn w (step t reply) w' more s rest = kept w (turn (step t reply) w') more refl s rest
unroll-turn w (read_bytes d first bytes reply) w' more s rest = kept w (turn (read_bytes d first bytes reply) w') more refl s rest
unroll-turn w (write_piece d first bytes result) w' more s rest = kept w (turn (write_piece d first bytes result) w') more refl s rest
unroll-turn w (load text reply) w' more s rest = kept w (turn (load text reply) w') more refl s rest
unroll-turn w (remove_device name reply) w' more s rest = kept w (turn (remove_device name reply) w') more refl s rest
unroll-turn w (run r (Ok answer)) w' more s rest = ran w r answer w' more s rest
unroll-turn w (run r (Err fault)) w' more s rest = kept w (turn (run r (Err fault)) w') more refl s rest
unroll-turn w (sync reply) w' more s rest = kept w (turn (sync reply) w') more refl s rest

pub unrolled : (w : World) (turns : List Turn) → AreTurns EachPart w turns → Unrolled w turns
unrolled w [] r = record { steps = []; same = none; run = tt; ends = refl; none_runs = All-nil _ }
unrolled w (x ∷ more) r = unroll-turn w x.event x.after more r.0 (unrolled x.after more r.1)
