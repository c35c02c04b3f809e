-- What `update [--no-index] [--progress] [--json] --pin FILE DATA HASH NEWDATA NEWHASH [DATACOPY HASHCOPY]..` says.
use Rattle.std.specs.Prelude.{codes, Bool, List, Ok, map, ℕ}
use Rattle.command_line.specs.FormatOptions.{OptionTexts}
use Rattle.command_line.specs.ImageCopies.{ImageCopyRecord, copies_and_last, image_copy_record, said_copies}
use Rattle.command_line.specs.Misuses.{Reading, when}
use Rattle.command_line.specs.Positional.{positional}
use Rattle.command_line.specs.Values.{pin_of}
use Rattle.command_line.specs.declared.words.update.UpdateWords.{UpdateWords}

pub record UpdateRecord : Type 0 where
  pub data_path : List ℕ
  pub hash_path : List ℕ
  pub release_hash : List ℕ
  pub pin : List ℕ
  pub copies : List ImageCopyRecord
  pub no_index : Bool
  pub progress : Bool
  pub json : Bool

-- the release is the last of the copies that are tried
unfoldable pub update_said : OptionTexts → List (List ℕ) → Reading UpdateRecord
update_said texts words =
    when (positional (codes "DATA") words) (λ data_path.
    when (positional (codes "HASH") data_path.1) (λ hash_path.
    when (positional (codes "NEWDATA") hash_path.1) (λ new_data.
    when (positional (codes "NEWHASH") new_data.1) (λ new_hash.
    when (pin_of texts.pin) (λ pin.
    when (said_copies (copies_and_last (record { data_path = new_data.0; hash_path = new_hash.0 }) new_hash.1)) (λ copies.
    Ok (record {
      data_path = data_path.0;
      hash_path = hash_path.0;
      release_hash = new_hash.0;
      pin = pin;
      copies = copies;
      no_index = texts.no_index;
      progress = texts.progress;
      json = texts.json;
    })))))))

-- what the program's own value says
abbrev pub update_record : UpdateWords → UpdateRecord
update_record w = record {
  data_path = w.data_path.now;
  hash_path = w.hash_path.now;
  release_hash = w.release_hash.now;
  pin = w.pin.now;
  copies = map image_copy_record w.copies.items;
  no_index = w.no_index;
  progress = w.progress;
  json = w.json;
}
