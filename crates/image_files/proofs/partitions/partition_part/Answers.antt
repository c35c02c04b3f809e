use Rattle.std.proofs.Common.{inl, inr}
use Rattle.std.proofs.lemmas.Result.{IfErr-weaker, IfOk-weaker}
use Rattle.image_files.proofs.partitions.partition_part.Goals as goal

pub returns-in-Ok-clause-ok : goal.returns-in-Ok-clause-ok
returns-in-Ok-clause-ok g c =
    IfOk-weaker c.usable_part.result _ _ (λ part is. record { table = c.in-Ok.table; read = c.in-Ok.ensures.ok; has = is }) c.usable_part.ensures.ok

pub returns-in-Ok-clause-err : goal.returns-in-Ok-clause-err
returns-in-Ok-clause-err g c =
    IfErr-weaker c.usable_part.result _ _ (λ fault lacks. inr (record { table = c.in-Ok.table; read = c.in-Ok.ensures.ok; lacks = lacks })) c.usable_part.ensures.err

pub returns-in-Err-clause-err : goal.returns-in-Err-clause-err
returns-in-Err-clause-err g c = inl (record { cause = c.in-Err.fault; none = c.in-Err.ensures.err; is = c.table_fault.ensures })
