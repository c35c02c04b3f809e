-- What `assemble [--type TYPE] [--arch ARCH] [--fec] [--sector-size 512|4096] [--draw-from SEED] [--progress] [--pin FILE] OUT DATA` says.
use Rattle.std.specs.Prelude.{codes, option_map, Bool, List, Ok, Option, ℕ}
use Rattle.command_line.specs.DiskTypes.{arch_said, kind_said}
use Rattle.command_line.specs.FormatOptions.{OptionTexts, text_of}
use Rattle.command_line.specs.Misuses.{Reading, when}
use Rattle.command_line.specs.Positional.{no_more, positional}
use Rattle.command_line.specs.RootFiles.{RootFileRecord, root_choice_of, root_file_record}
use Rattle.command_line.specs.Values.{sector_size_of}
use Rattle.command_line.specs.declared.words.assemble.AssembleWords.{AssembleWords}

pub record AssembleRecord : Type 0 where
  pub disk_path : List ℕ
  pub data_path : List ℕ
  -- the data partition has the type `kind-arch`
  pub kind : List ℕ
  pub arch : List ℕ
  pub sector_size : ℕ
  pub parity : Bool
  -- what determines what is drawn, if it is given
  pub seed : Option (List ℕ)
  pub progress : Bool
  -- of the pin, if it is to be written
  pub file : Option RootFileRecord

unfoldable pub assemble_said : OptionTexts → List (List ℕ) → Reading AssembleRecord
assemble_said texts words =
    when (root_choice_of texts.pin texts.root_hash_file) (λ file.
    when (positional (codes "OUT") words) (λ disk_path.
    when (positional (codes "DATA") disk_path.1) (λ data_path.
    when (no_more data_path.1) (λ none.
    when (sector_size_of texts.sector_size) (λ sector_size.
    when (kind_said texts.kind) (λ kind.
    when (arch_said texts.arch) (λ arch.
    Ok (record {
      disk_path = disk_path.0;
      data_path = data_path.0;
      kind = kind;
      arch = arch;
      sector_size = sector_size;
      parity = texts.parity;
      seed = texts.draw_from;
      progress = texts.progress;
      file = file;
    }))))))))

-- what the program's own value says
abbrev pub assemble_record : AssembleWords → AssembleRecord
assemble_record w = record {
  disk_path = w.disk_path.now;
  data_path = w.data_path.now;
  kind = w.kind.now;
  arch = w.arch.now;
  sector_size = w.sector_size;
  parity = w.parity;
  seed = text_of w.seed;
  progress = w.progress;
  file = option_map root_file_record w.file;
}
