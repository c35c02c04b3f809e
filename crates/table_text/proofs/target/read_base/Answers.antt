use Rattle.std.proofs.Common.{rules, sym, ◌∙◌, arith}
use Rattle.dm_table.specs.Arguments.{base_at}
use Rattle.dm_table.proofs.lemmas.NameLengthLemmas.{device-length}
use Rattle.table_text.proofs.ReadLemmas.{exit_kind, exit_memory}
use Rattle.table_text.proofs.target.read_base.Goals as goal

pub returns-then-not-is_device : goal.returns-then-not-is_device
unfolding base_at
returns-then-not-is_device c = search rules

pub returns-in_err-offset : goal.returns-in_err-offset
unfolding base_at
returns-in_err-offset c = exit_kind _ _ _ c.from_residual.ensures.1 (search rules)

pub returns-in_err-device : goal.returns-in_err-device
returns-in_err-device c =
    let short = device-length c.args.device.now (sym c.is_device.ensures ∙ c.if-not-is_device.false) in
    exit_memory _ _ c.in_err-device.field-0.0 c.from_residual-in_err-device.ensures.1 (omega (arith, c.in_err-device.ensures.err.0))

pub returns : goal.returns
unfolding base_at
returns c = search rules
