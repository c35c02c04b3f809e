use Rattle.std.proofs.Common.{inl, inr}
use Rattle.std.proofs.lemmas.Result.{IfErr-weaker, IfOk-weaker}
use Rattle.image_files.proofs.PlaceLemmas.{err-from}
use Rattle.image_files.proofs.named_parts.partition_under.Goals as goal

pub returns-in_err-image-clause-err : goal.returns-in_err-image-clause-err
returns-in_err-image-clause-err g c =
    err-from c.from_residual.result _ c.in_err-image.field-0.0 c.from_residual.ensures.1 (inl c.in_err-image.ensures.opened)

pub returns-clause-ok : goal.returns-clause-ok
returns-clause-ok g c =
    IfOk-weaker c.partition_part.result _ _
    (λ part is. record { disk = c.in_ok-image.image; disk' = c.partition_part.new.disk; opened = c.in_ok-image.ensures.opened; is = is })
    c.partition_part.ensures.ok

pub returns-clause-err : goal.returns-clause-err
returns-clause-err g c =
    IfErr-weaker c.partition_part.result _ _
    (λ fault none. inr (record { disk = c.in_ok-image.image; disk' = c.partition_part.new.disk; opened = c.in_ok-image.ensures.opened; none = none }))
    c.partition_part.ensures.err
