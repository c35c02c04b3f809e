use Rattle.std.proofs.lemmas.Result.{IfErr-weaker, IfOk-weaker}
use Rattle.image_files.proofs.named_parts.open_part_named.Goals as goal

pub returns-in-Sectors-clause-ok : goal.returns-in-Sectors-clause-ok
returns-in-Sectors-clause-ok g c =
    rw c.in-Sectors.is (IfOk-weaker c.open_at.result _ _ (λ image opened. opened) (rw c.device_part.ensures at c.open_at.ensures.ok))

pub returns-in-Sectors-clause-err : goal.returns-in-Sectors-clause-err
returns-in-Sectors-clause-err g c =
    rw c.in-Sectors.is (IfErr-weaker c.open_at.result _ _ (λ fault refused. refused) (rw c.device_part.ensures at c.open_at.ensures.err))

pub returns-in-Partition-clause-ok : goal.returns-in-Partition-clause-ok
returns-in-Partition-clause-ok g c =
    rw c.in-Partition.is (IfOk-weaker c.open_partition.result _ _ (λ image opened. opened) c.open_partition.ensures.ok)

pub returns-in-Partition-clause-err : goal.returns-in-Partition-clause-err
returns-in-Partition-clause-err g c =
    rw c.in-Partition.is (IfErr-weaker c.open_partition.result _ _ (λ fault refused. refused) c.open_partition.ensures.err)
