use Rattle.std.proofs.lemmas.Result.{IfOk-weaker}
use Rattle.image_files.proofs.partitions.is_named.Goals as goal

pub returns-in-Label-clause-ok : goal.returns-in-Label-clause-ok
returns-in-Label-clause-ok c = rw c.in-Label.is (IfOk-weaker c.has_label.result _ _ (λ fits is. is) c.has_label.ensures.ok)
