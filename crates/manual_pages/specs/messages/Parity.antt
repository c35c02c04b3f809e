-- The sentences on parity that can't be written or compared.
use Rattle.std.specs.Prelude.{ℕ, List, codes, Option, Some, None}
use Rattle.fec_area.specs.declared.writing.ParityFault.{ParityFault}
use Rattle.fec_area.specs.declared.writing.ParityFault.TheVariants as parity

-- parity that can't be written or compared
unfoldable pub parity_message : ParityFault → Option (List ℕ)
parity_message (parity.TooSmall needed) = Some (codes "the parity file has fewer sectors than needed: check '--fec-roots'; 'format' extends it with '--grow'")
parity_message parity.ReadOnly = Some (codes "the parity file can't be written: check its permissions")
parity_message parity.Device = Some (codes "the parity file can't be read, written or synced: 'dmesg' may say why")
parity_message parity.NoMemory = None
