-- What holds of every run of a queue.
use Rattle.stack_engine.specs.KeptBlocks.{AreChecked}
use Rattle.stack_engine.specs.Laws.{AnsweredChainsAreGood, ForgedAnswersCollide, ForgedBytesCollide}
use Rattle.request_queue.specs.Laws.{QueueLaw}
use Rattle.request_queue.specs.Runs.{last}
use Rattle.request_queue.specs.World.{World}
use Rattle.request_queue.proofs.lemmas.BudgetLemmas.{InOrder}
use Rattle.request_queue.proofs.lemmas.BytesLemmas.{bytes-verified}
use Rattle.request_queue.proofs.lemmas.ChainLemmas.{IsHonest, honest-run, honest-turn}
use Rattle.request_queue.proofs.lemmas.ChangesLemmas.{images-stay}
use Rattle.request_queue.proofs.lemmas.KeptLemmas.{run-keeps}
use Rattle.request_queue.proofs.lemmas.PremiseLemmas.{run-any, step-any}
use Rattle.request_queue.proofs.lemmas.ServedLemmas.{order-kept, request-law, run-law, turn-law}

-- every run from a world whose tickets are in order, which holds verified chains, and whose kept hash blocks were checked
pub queue-law : AnsweredChainsAreGood → ForgedAnswersCollide → ForgedBytesCollide → (w : World) → InOrder w → IsHonest w → AreChecked w.stack → QueueLaw w
queue-law good forged unlike w order honest checked = record {
  requests = λ before done r t v b turns each. request-law (last w before) r t v turns (order-kept w before order done) b each;
  runs = λ before done r answer w' s. run-law (last w before) r answer w' (order-kept w before order done) s;
  turns = λ before done x s. turn-law (last w before) x (order-kept w before order done) s;
  chains = λ before done x s.
      (honest-turn good forged (last w before) x.event x.after (honest-run good forged w before honest (run-any w before done)) (step-any (last w before) x.event x.after s)).chains;
  bytes = λ before done d first size got w' s.
      bytes-verified unlike (last w before) (honest-run good forged w before honest (run-any w before done)).loaded d first size got w' s;
  images = λ before done turns each.
      images-stay good forged (last w before) turns (honest-run good forged w before honest (run-any w before done)) (order-kept w before order done) each;
  kept = λ turns each. run-keeps w turns checked each;
}
