use Rattle.std.proofs.Common.{sym, refl, arith}
use Rattle.dm_table.specs.Parity.{fec_at}
use Rattle.table_text.proofs.ReadLemmas.{exit_kind, exit_memory}
use Rattle.table_text.proofs.VerityLemmas.{device_at-length}
use Rattle.table_text.proofs.parity_arguments.read_fec.Goals as goal

pub returns-in_err-device : goal.returns-in_err-device
unfolding fec_at
returns-in_err-device c = exit_kind _ _ _ c.from_residual.ensures.1 (rw c.in_err-device.ensures refl)

pub returns-in_err-check_device : goal.returns-in_err-check_device
unfolding fec_at
returns-in_err-check_device c = exit_kind _ _ _ c.from_residual-in_err-check_device.ensures.1 (rw (c.in_ok-device.ensures, c.in_err-check_device.ensures) refl)

pub returns-in_err-option_value : goal.returns-in_err-option_value
unfolding fec_at
returns-in_err-option_value c = exit_kind _ _ _ c.from_residual-in_err-option_value.ensures.1 (rw (c.in_ok-device.ensures, c.in_ok-check_device.ensures, c.in_err-option_value.ensures) refl)

pub returns-in_err-roots : goal.returns-in_err-roots
unfolding fec_at
returns-in_err-roots c = exit_kind _ _ _ c.from_residual-in_err-roots.ensures.1 (rw (c.in_ok-device.ensures, c.in_ok-check_device.ensures, c.in_ok-option_value.ensures, sym c.in_err-roots.ensures) refl)

pub returns-in_err-option_value-2 : goal.returns-in_err-option_value-2
unfolding fec_at
returns-in_err-option_value-2 c = exit_kind _ _ _ c.from_residual-in_err-option_value-2.ensures.1 (rw (c.in_ok-device.ensures, c.in_ok-check_device.ensures, c.in_ok-option_value.ensures, sym c.in_ok-roots.ensures, c.in_err-option_value-2.ensures) refl)

pub returns-in_err-blocks : goal.returns-in_err-blocks
unfolding fec_at
returns-in_err-blocks c = exit_kind _ _ _ c.from_residual-in_err-blocks.ensures.1 (rw (c.in_ok-device.ensures, c.in_ok-check_device.ensures, c.in_ok-option_value.ensures, sym c.in_ok-roots.ensures, c.in_ok-option_value-2.ensures, sym c.in_err-blocks.ensures) refl)

pub returns-in_err-option_value-3 : goal.returns-in_err-option_value-3
unfolding fec_at
returns-in_err-option_value-3 c = exit_kind _ _ _ c.from_residual-in_err-option_value-3.ensures.1 (rw (c.in_ok-device.ensures, c.in_ok-check_device.ensures, c.in_ok-option_value.ensures, sym c.in_ok-roots.ensures, c.in_ok-option_value-2.ensures, sym c.in_ok-blocks.ensures, c.in_err-option_value-3.ensures) refl)

pub returns-in_err-start : goal.returns-in_err-start
unfolding fec_at
returns-in_err-start c = exit_kind _ _ _ c.from_residual-in_err-start.ensures.1 (rw (c.in_ok-device.ensures, c.in_ok-check_device.ensures, c.in_ok-option_value.ensures, sym c.in_ok-roots.ensures, c.in_ok-option_value-2.ensures, sym c.in_ok-blocks.ensures, c.in_ok-option_value-3.ensures, sym c.in_err-start.ensures) refl)

pub returns-in_err-device-2 : goal.returns-in_err-device-2
returns-in_err-device-2 c =
    let short = device_at-length _ c.in_ok-check_device.ensures in
    exit_memory _ _ c.in_err-device-2.field-0.0 c.from_residual-in_err-device-2.ensures.1 (omega (arith, c.in_err-device-2.ensures.err.0))

pub returns : goal.returns
unfolding fec_at
returns c = rw (c.in_ok-device.ensures, c.in_ok-check_device.ensures, c.in_ok-option_value.ensures, sym c.in_ok-roots.ensures, c.in_ok-option_value-2.ensures, sym c.in_ok-blocks.ensures, c.in_ok-option_value-3.ensures, sym c.in_ok-start.ensures, c.in_ok-device-2.ensures.ok) refl
