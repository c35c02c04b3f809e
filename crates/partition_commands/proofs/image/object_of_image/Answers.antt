use Rattle.std.proofs.Common.{refl, inl, inr}
use Rattle.std.proofs.lemmas.Result.{IfErr-weaker, on_ok_weaker}
use Rattle.partition_commands.specs.declared.fault.PartitionsFault.TheVariants.{Open}
use Rattle.partition_commands.proofs.EndingLemmas.{err-from}
use Rattle.partition_commands.proofs.NoteLemmas.{on_err-any}
use Rattle.partition_commands.proofs.image.object_of_image.Goals as goal

pub returns-clause-ok : goal.returns-clause-ok
returns-clause-ok g c =
    on_ok_weaker c.list_object.result
    (λ prints. record { image = c.in_ok-image.image; device' = c.list_object.new.device; opened = c.in_ok-image.ensures.ok; prints = prints })
    c.list_object.ensures.ok

pub returns-clause-err : goal.returns-clause-err
returns-clause-err g c =
    IfErr-weaker c.list_object.result _ _
    (λ fault ended. inr (record { image = c.in_ok-image.image; device' = c.list_object.new.device; opened = c.in_ok-image.ensures.ok; ended = ended }))
    c.list_object.ensures.err

pub returns-in_err-image-clause-noted : goal.returns-in_err-image-clause-noted
returns-in_err-image-clause-noted g c = err-from c.from_residual.result _ (Open c.in_err-image.field-0.0) c.from_residual.ensures.1 (inl (tt, refl))

pub returns-clause-noted : goal.returns-clause-noted
returns-clause-noted g c =
    IfErr-weaker c.list_object.result _ _
    (λ fault noted. inr (record { image = c.in_ok-image.image; opened = c.in_ok-image.ensures.ok; noted = noted }))
    c.list_object.ensures.noted

pub returns-in_err-image-clause-quiet : goal.returns-in_err-image-clause-quiet
returns-in_err-image-clause-quiet g c = on_err-any c.from_residual.result _ (λ fault. inr refl)
