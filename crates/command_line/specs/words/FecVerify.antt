-- What `verify --fec FILE [--fec-roots N] [--no-superblock --salt HEX] [--hash-offset BYTES] [--root-hash-file FILE | --pin FILE] [--progress] DATA HASH [ROOT]` says.
use Rattle.std.specs.Prelude.{codes, Bool, List, Ok, ℕ}
use Rattle.command_line.specs.FecFiles.{FecRecord, fec_file_of, fec_record}
use Rattle.command_line.specs.FormatOptions.{OptionTexts}
use Rattle.command_line.specs.words.Verify.{VerifyRecord, verify_record, verify_said}
use Rattle.command_line.specs.Misuses.{Reading, refuse_if, when}
use Rattle.command_line.specs.declared.misuse.Cause.TheVariants.{WithFec}
use Rattle.command_line.specs.declared.words.fec_verify.FecVerifyWords.{FecVerifyWords}

pub record FecVerifyRecord : Type 0 where
  pub verify : VerifyRecord
  pub no_superblock : Bool
  pub fec : FecRecord

-- what `verify` says without parity and without `--all`, and the parity
unfoldable pub fec_verify_said : OptionTexts → List (List ℕ) → Reading FecVerifyRecord
fec_verify_said texts words =
    when (refuse_if texts.all (codes "--all") WithFec) (λ a.
    when (fec_file_of texts.fec texts.fec_roots) (λ fec.
    when (verify_said texts words) (λ verify. Ok (record { verify = verify; no_superblock = texts.no_superblock; fec = fec }))))

-- what the program's own value says
abbrev pub fec_verify_record : FecVerifyWords → FecVerifyRecord
fec_verify_record w = record { verify = verify_record w.verify; no_superblock = w.no_superblock; fec = fec_record w.fec }
