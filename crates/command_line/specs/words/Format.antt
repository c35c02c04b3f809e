-- What `format [--no-superblock | --pin FILE | --root-hash-file FILE] [OPTIONS] DATA HASH` says.
use Rattle.std.specs.Prelude.{◌&&◌, is_some, codes, option_map, Bool, List, Ok, Option, ℕ}
use Rattle.command_line.specs.FormatOptions.{OptionTexts}
use Rattle.command_line.specs.Misuses.{Reading, refuse_if, when}
use Rattle.command_line.specs.Positional.{no_more, positional}
use Rattle.command_line.specs.RootFiles.{RootFileRecord, root_choice_of, root_file_record}
use Rattle.command_line.specs.Values.{offset_of}
use Rattle.command_line.specs.declared.misuse.Cause.TheVariants.{WithNoSuperblock}
use Rattle.command_line.specs.declared.words.format.FormatWords.{FormatWords}

pub record FormatRecord : Type 0 where
  pub data_path : List ℕ
  pub hash_path : List ℕ
  pub hash_offset : ℕ
  pub no_superblock : Bool
  -- of the pin or the root hash, if one is to be written
  pub file : Option RootFileRecord
  pub grow : Bool
  pub progress : Bool

-- without an identifier if there is no superblock, which would hold it
unfoldable pub format_said : OptionTexts → List (List ℕ) → Reading FormatRecord
format_said texts words =
    when (root_choice_of texts.pin texts.root_hash_file) (λ file.
    when (positional (codes "DATA") words) (λ data_path.
    when (positional (codes "HASH") data_path.1) (λ hash_path.
    when (no_more hash_path.1) (λ none.
    when (refuse_if (texts.no_superblock && is_some texts.uuid) (codes "--uuid") WithNoSuperblock) (λ a.
    when (offset_of (codes "--hash-offset") texts.hash_offset) (λ hash_offset.
    Ok (record {
      data_path = data_path.0;
      hash_path = hash_path.0;
      hash_offset = hash_offset;
      no_superblock = texts.no_superblock;
      file = file;
      grow = texts.grow;
      progress = texts.progress;
    })))))))

-- what the program's own value says
abbrev pub format_record : FormatWords → FormatRecord
format_record w = record {
  data_path = w.data_path.now;
  hash_path = w.hash_path.now;
  hash_offset = w.hash_offset;
  no_superblock = w.no_superblock;
  file = option_map root_file_record w.file;
  grow = w.grow;
  progress = w.progress;
}
