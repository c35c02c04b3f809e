use Rattle.std.proofs.Common.{ℕ, List, ap, arith, sym, ◌∙◌, map, subst, inl, inr, refl, Some}
use Rattle.std.specs.Global.{Global}
use Rattle.std.specs.Prelude.{Vec}
use Rattle.nbd_protocol.specs.declared.export.Export.{Export}
use Rattle.stack_commands.specs.declared.fault.CommandFault.TheVariants.{Io, NoMemory, Service, Stack}
use Rattle.stack_rules.specs.Records.{Configuration}
use Rattle.stack_engine.specs.Stacks.{StackRecord}
use Rattle.nbd_protocol.specs.Exports.{export_records}
use Rattle.nbd_protocol.specs.Offers.{AreNames, Offers}
use Rattle.nbd_protocol.proofs.lemmas.ExportLemmas.{offers-exports}
use Rattle.transfer_commands.specs.Requests.{new_world}
use Rattle.stack_commands.proofs.OpeningLemmas.{err-from}
use Rattle.stack_commands.proofs.ServeLemmas.{exports-served}
use Rattle.stack_commands.proofs.nbd.serve_exports.Goals as goal

pub returns-in_err-stack-clause-err : goal.returns-in_err-stack-clause-err
returns-in_err-stack-clause-err g c =
    err-from c.from_residual.result _ (Stack c.in_err-stack.field-0.0) c.from_residual.ensures.1 (inl ((refl, refl), inl c.in_err-stack.ensures.err))

pub returns-in_err-names-clause-err : goal.returns-in_err-names-clause-err
returns-in_err-names-clause-err g c =
    err-from c.from_residual-in_err-names.result _ NoMemory c.from_residual-in_err-names.ensures.1
    (inl ((refl, refl), inr (record { stack = c.in_ok-stack.stack; loaded = c.in_ok-stack.ensures.ok; is = refl; refused = c.in_err-names.ensures.err })))

pub returns-in_err-exports-clause-err : goal.returns-in_err-exports-clause-err
returns-in_err-exports-clause-err g c =
    let refused = c.in_err-exports.ensures.err in
    err-from c.from_residual-in_err-exports.result _ NoMemory c.from_residual-in_err-exports.ensures.1
    (inl ((refl, refl), inr (record { stack = c.in_ok-stack.stack; loaded = c.in_ok-stack.ensures.ok; is = refl; refused = (refused.0, omega (arith, refused.1), refused.2) })))

pub serve_noted-outcome-requires : goal.serve_noted-outcome-requires
serve_noted-outcome-requires g c =
    let at = c.config-config.ensures.value ∙ ap (λ (v : StackRecord). v.config) c.stack.ensures in
    let names = map (λ (n : Vec ℕ Global). n.items) c.as_slice-listed.result.now in
    let held = subst (λ (l : List Export). Offers c.config-config.result.now names (export_records l)) (sym c.as_slice-offered.ensures.value) c.in_ok-exports.ensures.ok in
    let offered = subst (λ (x : Configuration). Offers x names (export_records c.as_slice-offered.result.now)) at held in
    offers-exports _ names c.as_slice-offered.result.now offered

pub returns-in_err-outcome-clause-err : goal.returns-in_err-outcome-clause-err
returns-in_err-outcome-clause-err g c =
    let at = c.config-config.ensures.value ∙ ap (λ (v : StackRecord). v.config) c.stack.ensures in
    let names = map (λ (n : Vec ℕ Global). n.items) c.as_slice-listed.result.now in
    let es = export_records c.as_slice-offered.result.now in
    let said = subst (λ (l : List (Vec ℕ Global)). AreNames c.config-config.result.now.devices (map (λ n. n.items) l)) (sym c.as_slice-listed.ensures.value) c.in_ok-names.ensures.ok in
    let named = subst (λ (x : Configuration). AreNames x.devices names) at said in
    let held = subst (λ (l : List Export). Offers c.config-config.result.now names (export_records l)) (sym c.as_slice-offered.ensures.value) c.in_ok-exports.ensures.ok in
    let offered = subst (λ (x : Configuration). Offers x names es) at held in
    err-from c.from_residual-in_err-outcome.result _ (Service c.in_err-outcome.field-0.0) c.from_residual-in_err-outcome.ensures.1
    (inr (inl (record {
      service = c.in_err-outcome.field-0.0;
      log = c.serve_noted-outcome.new.log;
      synced = c.sync_and_close-synced.result;
      served = exports-served _ c.open_loaded.new.images _ _ c.in_ok-stack.stack c.new-queue.result c.serve_noted-outcome.new.queue names es _ c.serve_noted-outcome.new.log _ _
          c.in_ok-stack.ensures.ok (c.new-queue.ensures.value ∙ ap new_world c.keep_data.ensures) named offered c.in_err-outcome.ensures.served (rw c.into_stack.ensures at c.sync_and_close-synced.ensures);
      is = refl;
      written = λ is. c.in_err-outcome.ensures.writer.failed (ap Some is);
    })))

pub returns-in_err-synced-clause-err : goal.returns-in_err-synced-clause-err
returns-in_err-synced-clause-err g c =
    let at = c.config-config.ensures.value ∙ ap (λ (v : StackRecord). v.config) c.stack.ensures in
    let names = map (λ (n : Vec ℕ Global). n.items) c.as_slice-listed.result.now in
    let es = export_records c.as_slice-offered.result.now in
    let said = subst (λ (l : List (Vec ℕ Global)). AreNames c.config-config.result.now.devices (map (λ n. n.items) l)) (sym c.as_slice-listed.ensures.value) c.in_ok-names.ensures.ok in
    let named = subst (λ (x : Configuration). AreNames x.devices names) at said in
    let held = subst (λ (l : List Export). Offers c.config-config.result.now names (export_records l)) (sym c.as_slice-offered.ensures.value) c.in_ok-exports.ensures.ok in
    let offered = subst (λ (x : Configuration). Offers x names es) at held in
    err-from c.from_residual-in_err-synced.result _ (Io c.in_err-synced.field-0.0) c.from_residual-in_err-synced.ensures.1
    (inr (inr (inl (
      c.serve_noted-outcome.new.log,
      (
        _,
        exports-served _ c.open_loaded.new.images _ _ c.in_ok-stack.stack c.new-queue.result c.serve_noted-outcome.new.queue names es _ c.serve_noted-outcome.new.log _ _
            c.in_ok-stack.ensures.ok (c.new-queue.ensures.value ∙ ap new_world c.keep_data.ensures) named offered c.in_ok-outcome.ensures.served (rw c.into_stack.ensures at c.in_err-synced.ensures),
      ),
    ))))

pub returns-then-tally-eq0-clause-ok : goal.returns-then-tally-eq0-clause-ok
returns-then-tally-eq0-clause-ok g c =
    let at = c.config-config.ensures.value ∙ ap (λ (v : StackRecord). v.config) c.stack.ensures in
    let names = map (λ (n : Vec ℕ Global). n.items) c.as_slice-listed.result.now in
    let es = export_records c.as_slice-offered.result.now in
    let said = subst (λ (l : List (Vec ℕ Global)). AreNames c.config-config.result.now.devices (map (λ n. n.items) l)) (sym c.as_slice-listed.ensures.value) c.in_ok-names.ensures.ok in
    let named = subst (λ (x : Configuration). AreNames x.devices names) at said in
    let held = subst (λ (l : List Export). Offers c.config-config.result.now names (export_records l)) (sym c.as_slice-offered.ensures.value) c.in_ok-exports.ensures.ok in
    let offered = subst (λ (x : Configuration). Offers x names es) at held in (
      c.serve_noted-outcome.new.log,
      c.if-tally-eq0.true,
      (
        _,
        exports-served _ c.open_loaded.new.images _ _ c.in_ok-stack.stack c.new-queue.result c.serve_noted-outcome.new.queue names es _ c.serve_noted-outcome.new.log _ _
            c.in_ok-stack.ensures.ok (c.new-queue.ensures.value ∙ ap new_world c.keep_data.ensures) named offered c.in_ok-outcome.ensures.served (rw c.into_stack.ensures at c.in_ok-synced.ensures),
      ),
    )

pub returns-clause-err : goal.returns-clause-err
returns-clause-err g c =
    let at = c.config-config.ensures.value ∙ ap (λ (v : StackRecord). v.config) c.stack.ensures in
    let names = map (λ (n : Vec ℕ Global). n.items) c.as_slice-listed.result.now in
    let es = export_records c.as_slice-offered.result.now in
    let said = subst (λ (l : List (Vec ℕ Global)). AreNames c.config-config.result.now.devices (map (λ n. n.items) l)) (sym c.as_slice-listed.ensures.value) c.in_ok-names.ensures.ok in
    let named = subst (λ (x : Configuration). AreNames x.devices names) at said in
    let held = subst (λ (l : List Export). Offers c.config-config.result.now names (export_records l)) (sym c.as_slice-offered.ensures.value) c.in_ok-exports.ensures.ok in
    let offered = subst (λ (x : Configuration). Offers x names es) at held in
    inr (inr (inr (
      c.if-tally-eq0.false,
      (
        c.serve_noted-outcome.new.log,
        refl,
        (
          _,
          exports-served _ c.open_loaded.new.images _ _ c.in_ok-stack.stack c.new-queue.result c.serve_noted-outcome.new.queue names es _ c.serve_noted-outcome.new.log _ _
              c.in_ok-stack.ensures.ok (c.new-queue.ensures.value ∙ ap new_world c.keep_data.ensures) named offered c.in_ok-outcome.ensures.served (rw c.into_stack.ensures at c.in_ok-synced.ensures),
        ),
      ),
    )))
