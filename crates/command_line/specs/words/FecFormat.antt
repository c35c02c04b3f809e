-- What `format --fec FILE [--fec-roots N] [OPTIONS] DATA HASH` says.
use Rattle.std.specs.Prelude.{List, Ok, ℕ}
use Rattle.command_line.specs.FecFiles.{FecRecord, fec_file_of, fec_record}
use Rattle.command_line.specs.FormatOptions.{OptionTexts}
use Rattle.command_line.specs.words.Format.{FormatRecord, format_record, format_said}
use Rattle.command_line.specs.Misuses.{Reading, when}
use Rattle.command_line.specs.declared.words.fec_format.FecFormatWords.{FecFormatWords}

pub record FecFormatRecord : Type 0 where
  pub format : FormatRecord
  pub fec : FecRecord

-- what `format` says without parity, and the parity
unfoldable pub fec_format_said : OptionTexts → List (List ℕ) → Reading FecFormatRecord
fec_format_said texts words =
    when (fec_file_of texts.fec texts.fec_roots) (λ fec.
    when (format_said texts words) (λ format. Ok (record { format = format; fec = fec })))

-- what the program's own value says
abbrev pub fec_format_record : FecFormatWords → FecFormatRecord
fec_format_record w = record { format = format_record w.format; fec = fec_record w.fec }
