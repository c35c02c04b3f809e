use Rattle.std.proofs.Common.{ℕ, List, ap, ◌∙◌, subst, inl, inr, refl, Some}
use Rattle.std.specs.Borrow.{Bor}
use Rattle.stack_commands.specs.declared.fault.CommandFault.TheVariants.{Io, Service, Stack}
use Rattle.stack_rules.specs.Records.{Configuration}
use Rattle.stack_engine.specs.Stacks.{StackRecord}
use Rattle.request_queue.specs.World.{World}
use Rattle.nbd_protocol.specs.Exports.{HasNoExport, IsExport, export_record}
use Rattle.transfer_commands.specs.Requests.{new_world}
use Rattle.stack_commands.proofs.OpeningLemmas.{err-from}
use Rattle.nbd_protocol.proofs.lemmas.ExportLemmas.{only-export}
use Rattle.stack_commands.proofs.ServeLemmas.{client-served}
use Rattle.stack_commands.proofs.nbd.serve_client.Goals as goal

pub returns-in_err-stack-clause-err : goal.returns-in_err-stack-clause-err
returns-in_err-stack-clause-err g c =
    err-from c.from_residual.result _ (Stack c.in_err-stack.field-0.0) c.from_residual.ensures.1 (inl ((refl, refl), inl c.in_err-stack.ensures.err))

pub returns-in_default-clause-err : goal.returns-in_default-clause-err
returns-in_default-clause-err g c =
    let at = c.config.ensures.value ∙ ap (λ (v : StackRecord). v.config) c.stack.ensures ∙ ap (λ (w : World). w.stack.config) c.new-queue.ensures.value ∙ ap (λ (v : StackRecord). v.config) c.keep_data.ensures in
    let none = subst (λ (n : List ℕ). HasNoExport c.config.result.now n) c.as_bytes.ensures.value c.in_default.ensures.none in
    inl (
      (refl, refl),
      inr (record {
        stack = c.in_ok-stack.stack;
        loaded = c.in_ok-stack.ensures.ok;
        none = subst (λ (x : Configuration). HasNoExport x c.args.device.name.now) at none;
        is = refl;
      }),
    )

pub returns-in_err-outcome-clause-err : goal.returns-in_err-outcome-clause-err
returns-in_err-outcome-clause-err g c =
    let e = export_record c.in-Some.export in
    let at = c.config.ensures.value ∙ ap (λ (v : StackRecord). v.config) c.stack.ensures in
    let named = ap (λ (b : Bor (List ℕ)). b.now) c.in-Some.ensures.some.1 ∙ c.as_bytes.ensures.value in
    err-from c.from_residual-in_err-outcome.result _ (Service c.in_err-outcome.field-0.0) c.from_residual-in_err-outcome.ensures.1
    (inr (inl (record {
      service = c.in_err-outcome.field-0.0;
      log = c.serve_noted-outcome.new.log;
      synced = c.sync_and_close-synced.result;
      served = client-served _ c.open_loaded.new.images _ c.in_ok-stack.stack c.new-queue.result c.serve_noted-outcome.new.queue e _ c.serve_noted-outcome.new.log _ _
          c.in_ok-stack.ensures.ok (c.new-queue.ensures.value ∙ ap new_world c.keep_data.ensures) (subst (λ (x : Configuration). IsExport x e) at c.in-Some.ensures.some.0) named c.in_err-outcome.ensures.served (rw c.into_stack.ensures at c.sync_and_close-synced.ensures);
      is = refl;
      written = λ is. c.in_err-outcome.ensures.writer.failed (ap Some is);
    })))

pub returns-in_err-synced-clause-err : goal.returns-in_err-synced-clause-err
returns-in_err-synced-clause-err g c =
    let e = export_record c.in-Some.export in
    let at = c.config.ensures.value ∙ ap (λ (v : StackRecord). v.config) c.stack.ensures in
    let named = ap (λ (b : Bor (List ℕ)). b.now) c.in-Some.ensures.some.1 ∙ c.as_bytes.ensures.value in
    err-from c.from_residual-in_err-synced.result _ (Io c.in_err-synced.field-0.0) c.from_residual-in_err-synced.ensures.1
    (inr (inr (inl (
      c.serve_noted-outcome.new.log,
      (
        _,
        client-served _ c.open_loaded.new.images _ c.in_ok-stack.stack c.new-queue.result c.serve_noted-outcome.new.queue e _ c.serve_noted-outcome.new.log _ _
            c.in_ok-stack.ensures.ok (c.new-queue.ensures.value ∙ ap new_world c.keep_data.ensures) (subst (λ (x : Configuration). IsExport x e) at c.in-Some.ensures.some.0) named c.in_ok-outcome.ensures.served (rw c.into_stack.ensures at c.in_err-synced.ensures),
      ),
    ))))

pub returns-then-tally-eq0-clause-ok : goal.returns-then-tally-eq0-clause-ok
returns-then-tally-eq0-clause-ok g c =
    let e = export_record c.in-Some.export in
    let at = c.config.ensures.value ∙ ap (λ (v : StackRecord). v.config) c.stack.ensures in
    let named = ap (λ (b : Bor (List ℕ)). b.now) c.in-Some.ensures.some.1 ∙ c.as_bytes.ensures.value in (
      c.serve_noted-outcome.new.log,
      c.if-tally-eq0.true,
      (
        _,
        client-served _ c.open_loaded.new.images _ c.in_ok-stack.stack c.new-queue.result c.serve_noted-outcome.new.queue e _ c.serve_noted-outcome.new.log _ _
            c.in_ok-stack.ensures.ok (c.new-queue.ensures.value ∙ ap new_world c.keep_data.ensures) (subst (λ (x : Configuration). IsExport x e) at c.in-Some.ensures.some.0) named c.in_ok-outcome.ensures.served (rw c.into_stack.ensures at c.in_ok-synced.ensures),
      ),
    )

pub returns-clause-err : goal.returns-clause-err
returns-clause-err g c =
    let e = export_record c.in-Some.export in
    let at = c.config.ensures.value ∙ ap (λ (v : StackRecord). v.config) c.stack.ensures in
    let named = ap (λ (b : Bor (List ℕ)). b.now) c.in-Some.ensures.some.1 ∙ c.as_bytes.ensures.value in
    inr (inr (inr (
      c.if-tally-eq0.false,
      (
        c.serve_noted-outcome.new.log,
        refl,
        (
          _,
          client-served _ c.open_loaded.new.images _ c.in_ok-stack.stack c.new-queue.result c.serve_noted-outcome.new.queue e _ c.serve_noted-outcome.new.log _ _
              c.in_ok-stack.ensures.ok (c.new-queue.ensures.value ∙ ap new_world c.keep_data.ensures) (subst (λ (x : Configuration). IsExport x e) at c.in-Some.ensures.some.0) named c.in_ok-outcome.ensures.served (rw c.into_stack.ensures at c.in_ok-synced.ensures),
        ),
      ),
    )))

pub serve_noted-outcome-requires : goal.serve_noted-outcome-requires
serve_noted-outcome-requires g c =
    let e = export_record c.in-Some.export in
    let at = c.config.ensures.value ∙ ap (λ (v : StackRecord). v.config) c.stack.ensures in
    only-export _ c.in-Some.export (subst (λ (x : Configuration). IsExport x e) at c.in-Some.ensures.some.0)
