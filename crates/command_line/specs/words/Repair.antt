-- What `repair [--no-superblock --salt HEX] [--check] [--fec FILE [--fec-roots N]] [--hash-offset BYTES] [--root-hash-file FILE | --pin FILE] DATA HASH [ROOT] [COPY..]` says.
use Rattle.std.specs.Prelude.{codes, Bool, List, Option, Ok, map, option_map, ℕ}
use Rattle.command_line.specs.FecFiles.{FecRecord, fec_choice_of, fec_record}
use Rattle.command_line.specs.FormatOptions.{OptionTexts}
use Rattle.command_line.specs.ImageCopies.{ImageCopyRecord, copies_of, image_copy_record, said_copies}
use Rattle.command_line.specs.Misuses.{Reading, when}
use Rattle.command_line.specs.OptionGroups.{tree_stated}
use Rattle.command_line.specs.Positional.{positional, root_or_pin_first}
use Rattle.command_line.specs.Values.{RootOrPinRecord, offset_of, root_or_pin_record}
use Rattle.command_line.specs.declared.words.repair.RepairWords.{RepairWords}

pub record RepairRecord : Type 0 where
  pub data_path : List ℕ
  pub hash_path : List ℕ
  pub root : RootOrPinRecord
  pub hash_offset : ℕ
  pub no_superblock : Bool
  pub check : Bool
  pub fec : Option FecRecord
  pub copies : List ImageCopyRecord

-- after the root, which is an argument unless a file or a pin holds it, are the copies
unfoldable pub repair_said : OptionTexts → List (List ℕ) → Reading RepairRecord
repair_said texts words =
    when (positional (codes "DATA") words) (λ data_path.
    when (positional (codes "HASH") data_path.1) (λ hash_path.
    when (tree_stated texts) (λ a.
    when (offset_of (codes "--hash-offset") texts.hash_offset) (λ hash_offset.
    when (fec_choice_of texts.fec texts.fec_roots) (λ fec.
    when (root_or_pin_first texts.pin texts.root_hash_file hash_path.1) (λ found.
    when (said_copies (copies_of data_path.0 hash_path.0 found.1)) (λ copies.
    Ok (record {
      data_path = data_path.0;
      hash_path = hash_path.0;
      root = found.0;
      hash_offset = hash_offset;
      no_superblock = texts.no_superblock;
      check = texts.check;
      fec = fec;
      copies = copies;
    }))))))))

-- what the program's own value says
abbrev pub repair_record : RepairWords → RepairRecord
repair_record w = record {
  data_path = w.data_path.now;
  hash_path = w.hash_path.now;
  root = root_or_pin_record w.root;
  hash_offset = w.hash_offset;
  no_superblock = w.no_superblock;
  check = w.check;
  fec = option_map fec_record w.fec;
  copies = map image_copy_record w.copies.items;
}
