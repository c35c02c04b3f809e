use Rattle.std.proofs.Common.{inl, inr, refl, sym, ◌∙◌}
use Rattle.std.proofs.lemmas.Bool.{false≢true}
use Rattle.std.proofs.lemmas.Slice.Eq.{bytes_eq-Decides}
use Rattle.stack_commands.specs.declared.fault.CommandFault.TheVariants.{Stream}
use Rattle.stack_commands.proofs.NoteLemmas.{device-notes, target-notes}
use Rattle.stack_commands.proofs.OpeningLemmas.{err-from}
use Rattle.stack_commands.proofs.streams.invoke_store.Goals as goal

pub returns-in_err-store_device-clause-err : goal.returns-in_err-store_device-clause-err
returns-in_err-store_device-clause-err g c =
    let same = (bytes_eq-Decides _ _).0 (sym c.eq.ensures ∙ c.if-eq.true) in
    err-from c.from_residual.result _ (Stream c.in_err-store_device.field-0.0) c.from_residual.ensures.1
    (inl (same, rw c.stack_file-file.ensures at c.in_err-store_device.ensures.err))

pub returns-in_err-store_file-clause-err : goal.returns-in_err-store_file-clause-err
returns-in_err-store_file-clause-err g c =
    err-from c.from_residual-in_err-store_file.result _ (Stream c.in_err-store_file.field-0.0) c.from_residual-in_err-store_file.ensures.1
    (inr (λ same. false≢true (sym c.if-eq.false ∙ c.eq.ensures ∙ (bytes_eq-Decides _ _).1 same), (refl, rw c.stack_file-file.ensures at c.in_err-store_file.ensures.err)))

pub returns-in_err-store_device-clause-noted : goal.returns-in_err-store_device-clause-noted
returns-in_err-store_device-clause-noted g c =
    inl ((bytes_eq-Decides _ _).0 (sym c.eq.ensures ∙ c.if-eq.true), device-notes _ _ _ _ c.stack_file-file.ensures c.in_err-store_device.ensures.noted)

pub returns-then-eq-clause-noted : goal.returns-then-eq-clause-noted
returns-then-eq-clause-noted g c =
    inl ((bytes_eq-Decides _ _).0 (sym c.eq.ensures ∙ c.if-eq.true), device-notes _ _ _ _ c.stack_file-file.ensures c.in_ok-store_device.ensures.noted)

pub returns-in_err-store_file-clause-noted : goal.returns-in_err-store_file-clause-noted
returns-in_err-store_file-clause-noted g c =
    inr (λ same. false≢true (sym c.if-eq.false ∙ c.eq.ensures ∙ (bytes_eq-Decides _ _).1 same), target-notes _ _ _ _ _ _ c.stack_file-file.ensures c.in_err-store_file.ensures.noted)

pub returns-clause-noted : goal.returns-clause-noted
returns-clause-noted g c =
    inr (λ same. false≢true (sym c.if-eq.false ∙ c.eq.ensures ∙ (bytes_eq-Decides _ _).1 same), target-notes _ _ _ _ _ _ c.stack_file-file.ensures c.in_ok-store_file.ensures.noted)
