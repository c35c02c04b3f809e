use Rattle.std.proofs.Common.{◌≤◌, List, length, subst, sym}
use Rattle.std.specs.Prelude.{All, IsTrue}
use Rattle.std.proofs.lemmas.Result.{err_from_is_err_and}
use Rattle.dm_table.specs.Names.{is_mapped_name}
use Rattle.stack_rules.specs.Records.{DeviceRecord}
use Rattle.nbd_protocol.specs.Offers.{longest_name}
use Rattle.nbd_protocol.proofs.lemmas.ExportLemmas.{name-short}
use Rattle.nbd_protocol.proofs.offers.names_of.Goals as goal

pub returns-in_err-copied-clause-err : goal.returns-in_err-copied-clause-err
returns-in_err-copied-clause-err c =
    let device = c.device-item.result in
    let items = c.devices-device-items.ensures in
    let all = subst (λ (ds : List DeviceRecord). All (λ (d : DeviceRecord). IsTrue (is_mapped_name d.name)) ds) (sym items.value) items.loaded.mapped in
    let named : IsTrue (is_mapped_name device.name) = subst (λ (d : DeviceRecord). IsTrue (is_mapped_name d.name)) (sym c.device-item.is) (all c.loop-device.device-index device c.loop-device-test.true) in
    let short : length c.name.result.now ≤ longest_name = rw c.name.ensures (name-short device.name named) in
    let p = err_from_is_err_and c.from_residual.result c.from_residual.ensures.1 in
    rw p.1 (length c.name.result.now, short, c.in_err-copied.ensures.err.1)
