use Rattle.std.proofs.Common.{◌≡◌, ◌≤◌, ℕ, true, List, length, sym, ap, subst, arith}
use Rattle.std.proofs.lemmas.Result.{err_from_is_err_and}
use Rattle.dm_table.specs.Names.{is_mapped_name, most_name}
use Rattle.dm_table.specs.declared.table.Line.{Line}
use Rattle.dm_table.proofs.lemmas.NameLengthLemmas.{mapped_name-length}
use Rattle.stack_rules.specs.Records.{DeviceRecord}
use Rattle.stack_loader.proofs.next.copied_devices.Goals as goal

pub returns-in_err-copy-clause-err : goal.returns-in_err-copy-clause-err
returns-in_err-copy-clause-err c =
    let p = err_from_is_err_and c.from_residual-in_err-copy.result c.from_residual-in_err-copy.ensures.1 in
    let k = c.loop-device.device-index in
    let mapped = c.requires.names k c.device-item.result c.loop-device-test.true in
    let name = subst (λ (d : DeviceRecord). is_mapped_name d.name ≡ true) (sym c.device-item.is) mapped in
    let copied = ap (λ (bytes : List ℕ). length bytes) c.name.ensures in
    let short : length c.name.result.now ≤ most_name = omega (arith, copied, mapped_name-length c.device-item.result.name name) in
    let lines = ap (λ (lines : List Line). length lines) c.table.ensures in
    let few = subst (λ (d : DeviceRecord). length d.table ≤ 256) (sym c.device-item.is) (c.requires.lines k c.device-item.result c.loop-device-test.true) in
    rw (p.1, p.2) (omega (arith, c.in_err-copy.ensures.err short, lines, few))
