-- What lists of calls are as a whole.
use Rattle.std.proofs.Common.{◌≤◌, ◌+◌, List, subst}
use Rattle.stack_meaning.specs.Leaves.{steady_images}
use Rattle.stack_engine.specs.Laws.{AnsweredChainsAreGood, ForgedAnswersCollide}
use Rattle.request_queue.specs.ListLaws.{ListLaw, ListsLaw}
use Rattle.request_queue.specs.Parts.{EachPart}
use Rattle.request_queue.specs.Puts.{ArePutOn, pieces_written}
use Rattle.request_queue.specs.Runs.{Turn, AreTurns, last, turns_total}
use Rattle.request_queue.specs.Waiting.{asked_in_turn, served, waiting}
use Rattle.request_queue.specs.World.{World}
use Rattle.request_queue.proofs.lemmas.AsStepsLemmas.{unrolled}
use Rattle.request_queue.proofs.lemmas.BudgetLemmas.{InOrder}
use Rattle.request_queue.proofs.lemmas.ChainLemmas.{IsHonest, honest-run}
use Rattle.request_queue.proofs.lemmas.ChangesLemmas.{all-stay}
use Rattle.request_queue.proofs.lemmas.PremiseLemmas.{run-any}
use Rattle.request_queue.proofs.lemmas.PutLemmas.{steps-put}
use Rattle.request_queue.proofs.lemmas.ServedLemmas.{order-kept}
use Rattle.request_queue.proofs.lemmas.WaitingLemmas.{few-pieces-served}

list-law : AnsweredChainsAreGood → ForgedAnswersCollide → (w : World) (turns : List Turn) → IsHonest w → InOrder w → AreTurns EachPart w turns → ListLaw w turns
list-law good forged w turns honest order each =
    let u = unrolled w turns each in
    record {
      steps = u.steps;
      same = u.same;
      run = u.run;
      ends = u.ends;
      few = subst (λ (x : World). turns_total served w u.steps + waiting x ≤ waiting w + turns_total asked_in_turn w u.steps) u.ends (few-pieces-served w u.steps (run-any w u.steps u.run));
      puts = subst (λ (x : World). ArePutOn w.stack.leaves (pieces_written w u.steps) (steady_images w.stack.leaves) (steady_images x.stack.leaves)) u.ends
          (steps-put good forged w u.steps honest order u.none_runs u.run);
      leaf = (all-stay good forged w turns honest order each).leaf;
    }

-- every list of calls from a world whose tickets are in order, and which holds verified chains
pub lists-law : AnsweredChainsAreGood → ForgedAnswersCollide → (w : World) → InOrder w → IsHonest w → ListsLaw w
lists-law good forged w order honest = record {
  each = λ before done turns run. list-law good forged (last w before) turns (honest-run good forged w before honest (run-any w before done)) (order-kept w before order done) run;
}
