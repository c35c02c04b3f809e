use Rattle.std.proofs.Common.{refl, inl, inr}
use Rattle.std.proofs.lemmas.Result.{IfErr-weaker, on_ok_weaker}
use Rattle.partition_commands.specs.declared.fault.PartitionsFault.TheVariants.{Pin}
use Rattle.partition_commands.proofs.EndingLemmas.{err-from}
use Rattle.partition_commands.proofs.NoteLemmas.{on_err-any}
use Rattle.partition_commands.proofs.root_stack.pinned_stack_of_image.Goals as goal

pub returns-clause-ok : goal.returns-clause-ok
returns-clause-ok g c =
    on_ok_weaker c.root_stack_of_image.result
    (λ prints. record { between = c.trusted_in.new.images; trusted = c.in_ok-trusted.trusted; told = c.in_ok-trusted.ensures.ok; prints = prints })
    c.root_stack_of_image.ensures.ok

pub returns-in_err-trusted-clause-err : goal.returns-in_err-trusted-clause-err
returns-in_err-trusted-clause-err g c =
    err-from c.from_residual.result _ (Pin c.in_err-trusted.field-0.0) c.from_residual.ensures.1 (inl c.in_err-trusted.ensures.err)

pub returns-clause-err : goal.returns-clause-err
returns-clause-err g c =
    IfErr-weaker c.root_stack_of_image.result _ _
    (λ fault ended. inr (record { between = c.trusted_in.new.images; trusted = c.in_ok-trusted.trusted; told = c.in_ok-trusted.ensures.ok; ended = ended }))
    c.root_stack_of_image.ensures.err

pub returns-in_err-trusted-clause-noted : goal.returns-in_err-trusted-clause-noted
returns-in_err-trusted-clause-noted g c = err-from c.from_residual.result _ (Pin c.in_err-trusted.field-0.0) c.from_residual.ensures.1 (inl (tt, refl))

pub returns-clause-noted : goal.returns-clause-noted
returns-clause-noted g c =
    IfErr-weaker c.root_stack_of_image.result _ _
    (λ fault noted. elim noted [
      | inl none ↦ inl none
      | inr some ↦ inr (c.trusted_in.new.images, some)
    ])
    c.root_stack_of_image.ensures.noted

pub returns-in_err-trusted-clause-quiet : goal.returns-in_err-trusted-clause-quiet
returns-in_err-trusted-clause-quiet g c = on_err-any c.from_residual.result _ (λ fault. inr refl)
