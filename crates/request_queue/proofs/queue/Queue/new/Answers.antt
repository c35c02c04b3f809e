use Rattle.std.proofs.Common.{arith}
use Rattle.request_queue.proofs.lemmas.ChainLemmas.{idle-honest}
use Rattle.request_queue.proofs.lemmas.ListLawLemmas.{lists-law}
use Rattle.request_queue.proofs.lemmas.QueueLawLemmas.{queue-law}
use Rattle.request_queue.proofs.queue.Queue.new.Goals as goal

pub returns-clause-law : goal.returns-clause-law
returns-clause-law g c =
    queue-law c.answered_chains_are_good.ensures c.forged_answers_collide.ensures c.forged_bytes_collide.ensures _ (rw c.new.ensures.items (omega arith)) (idle-honest _ c.config-loaded.ensures.sound.loaded c.new.ensures.items)
    c.cached-kept.ensures.checked

pub returns-clause-lists : goal.returns-clause-lists
returns-clause-lists g c =
    lists-law c.answered_chains_are_good.ensures c.forged_answers_collide.ensures _ (rw c.new.ensures.items (omega arith)) (idle-honest _ c.config-loaded.ensures.sound.loaded c.new.ensures.items)
