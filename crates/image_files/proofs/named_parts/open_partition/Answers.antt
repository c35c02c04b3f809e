use Rattle.std.proofs.Common.{inl, inr}
use Rattle.std.proofs.lemmas.Result.{IfErr-weaker, IfOk-weaker}
use Rattle.image_files.proofs.PlaceLemmas.{err-from}
use Rattle.image_files.proofs.named_parts.open_partition.Goals as goal

pub returns-in_err-part-clause-err : goal.returns-in_err-part-clause-err
returns-in_err-part-clause-err g c =
    err-from c.from_residual.result _ c.in_err-part.field-0.0 c.from_residual.ensures.1 (inl c.in_err-part.ensures.err)

pub returns-clause-ok : goal.returns-clause-ok
returns-clause-ok g c =
    IfOk-weaker c.open_at.result _ _
    (λ image opened. record { between = c.partition_under.new.images; part = c.in_ok-part.part; found = c.in_ok-part.ensures.ok; opened = opened })
    c.open_at.ensures.ok

pub returns-clause-err : goal.returns-clause-err
returns-clause-err g c =
    IfErr-weaker c.open_at.result _ _
    (λ fault refused. inr (record { between = c.partition_under.new.images; part = c.in_ok-part.part; found = c.in_ok-part.ensures.ok; refused = refused }))
    c.open_at.ensures.err
