use Rattle.std.proofs.Common.{List, ℕ, ◌++◌, ◌∷◌, [], map, position, sym, ap, ◌∙◌, arith}
use Rattle.std.proofs.lemmas.Result.{err_from_is_err_and}
use Rattle.std.specs.Prelude.{is_none}
use Rattle.std.specs.Str.{bytes_eq}
use Rattle.dm_table.specs.declared.stack.Entry.{Entry}
use Rattle.stack_rules.specs.Records.{DeviceRecord}
use Rattle.stack_rules.specs.Rules.{replacement}
use Rattle.stack_loader.proofs.DuplicateNameLemmas.{new_more, old_more, none-of}
use Rattle.stack_loader.proofs.next.planned_devices.Goals as goal
use Rattle.stack_loader.proofs.next.planned_devices.Goals.{then-is_none+in_ok-push-2, else-is_none}

abbrev device_of : Entry → List ℕ → DeviceRecord
device_of e name = record { name = name; writable = e.writable; table = e.table }

pub loop-entry-preserved : goal.loop-entry-preserved
loop-entry-preserved c =
    let test = sym (ap is_none (c.place_of.ensures ∙ ap (λ n. position (λ d. bytes_eq d.name n) c.args.devices.now) c.as_slice.ensures)) ∙ none-of c.place_of.result c.is_none.result c.is_none.ensures in
    elim c.if-is_none.branch [
      | then-is_none+in_ok-push-2 w ↦
          new_more (map (replacement c.args.entries.now) c.args.devices.now) (λ e. is_none (position (λ d. bytes_eq d.name e.name) c.args.devices.now)) c.args.entries.now c.loop-entry.entry-index c.entry-item.result
          c.if-is_none.next.items c.loop-entry.next.items c.loop-entry-test.true c.entry-item.is (test ∙ w.if-is_none.true) c.loop-entry.invariant
          (ap (λ v. v.items) w.next-is ∙ w.in_ok-push-2.ensures.ok ∙ ap (λ (d : DeviceRecord). c.loop-entry.next.items ++ d ∷ []) (w.new.ensures ∙ ap (device_of c.entry-item.result) w.as_slice-then-is_none.ensures))
      | else-is_none w ↦
          ap (λ v. v.items) w.next-is ∙ old_more (map (replacement c.args.entries.now) c.args.devices.now) (λ e. is_none (position (λ d. bytes_eq d.name e.name) c.args.devices.now)) c.args.entries.now c.loop-entry.entry-index c.entry-item.result
          c.loop-entry.next.items c.loop-entry-test.true c.entry-item.is (test ∙ w.if-is_none.false) c.loop-entry.invariant
    ]

pub returns-in_err-push-clause-err : goal.returns-in_err-push-clause-err
returns-in_err-push-clause-err c =
    let was = err_from_is_err_and c.from_residual-in_err-push.result c.from_residual-in_err-push.ensures.1 in
    rw (was.1, was.2) (omega (arith, c.in_err-push.ensures.err.0))

pub returns-in_err-push-2-clause-err : goal.returns-in_err-push-2-clause-err
returns-in_err-push-2-clause-err c =
    let was = err_from_is_err_and c.from_residual-in_err-push-2.result c.from_residual-in_err-push-2.ensures.1 in
    rw (was.1, was.2) (omega (arith, c.in_err-push-2.ensures.err.0))
