use Rattle.std.proofs.Common.{inl, length, ltb-false, subst, sym, ◌∙◌}
use Rattle.std.proofs.lemmas.Result.{IfErr-weaker, IfOk-weaker}
use Rattle.block_device.specs.declared.open_fault.OpenFault.{OpenFault}
use Rattle.stack_files.specs.MappedFiles.{IsNoMap, most_map}
use Rattle.stack_files.proofs.MappedLemmas.{no-map, no-memory}
use Rattle.stack_files.proofs.mapped_file.lost_by.Goals as goal

pub returns-then-is_too_long-clause-err : goal.returns-then-is_too_long-clause-err
returns-then-is_too_long-clause-err c = inl (sym c.is_too_long.ensures ∙ c.if-is_too_long.true)

pub returns-in-Ok-clause-ok : goal.returns-in-Ok-clause-ok
returns-in-Ok-clause-ok c =
    let short = ltb-false most_map (length c.args.text.now) (sym c.is_too_long.ensures ∙ c.if-is_too_long.false) in
    IfOk-weaker c.lost_of.result _ _ (λ lost are. record { short = short; read = c.in-Ok.read; map_is = c.in-Ok.ensures.answer; lost_are = are }) c.lost_of.ensures.ok

pub returns-in-Ok-clause-err : goal.returns-in-Ok-clause-err
returns-in-Ok-clause-err c = IfErr-weaker c.lost_of.result _ _ (λ fault is. no-memory c.args.text.now c.args.sectors fault is.0 is.1) c.lost_of.ensures.err

pub returns-in-Err-clause-err : goal.returns-in-Err-clause-err
returns-in-Err-clause-err c =
    subst (λ (f : OpenFault). IsNoMap c.args.text.now c.args.sectors f) (sym c.map_ending.ensures) (no-map c.args.text.now c.args.sectors c.in-Err.fault c.in-Err.ensures.answer)
