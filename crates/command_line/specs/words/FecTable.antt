-- What `table --fec FECNAME [--fec-roots N] [--no-superblock --blocks N --salt HEX] [--hash-offset BYTES] [--name NAME] [--root-hash-file FILE | --pin FILE] HASH [ROOT] DATANAME HASHNAME` says.
use Rattle.std.specs.Prelude.{Bool, List, Ok, ℕ}
use Rattle.command_line.specs.FecFiles.{FecDeviceRecord, fec_device_of, fec_device_record}
use Rattle.command_line.specs.FormatOptions.{OptionTexts}
use Rattle.command_line.specs.words.Table.{TableRecord, table_record, table_said}
use Rattle.command_line.specs.Misuses.{Reading, when}
use Rattle.command_line.specs.declared.words.fec_table.FecTableWords.{FecTableWords}

pub record FecTableRecord : Type 0 where
  pub table : TableRecord
  pub no_superblock : Bool
  pub fec : FecDeviceRecord

-- what `table` says without parity, and the parity
unfoldable pub fec_table_said : OptionTexts → List (List ℕ) → Reading FecTableRecord
fec_table_said texts words =
    when (fec_device_of texts.fec texts.fec_roots) (λ fec.
    when (table_said texts words) (λ table. Ok (record { table = table; no_superblock = texts.no_superblock; fec = fec })))

-- what the program's own value says
abbrev pub fec_table_record : FecTableWords → FecTableRecord
fec_table_record w = record { table = table_record w.table; no_superblock = w.no_superblock; fec = fec_device_record w.fec }
