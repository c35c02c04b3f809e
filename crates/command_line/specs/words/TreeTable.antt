-- What `table --no-superblock --blocks N --salt HEX [OPTIONS] HASH [ROOT] DATANAME HASHNAME` says.
use Rattle.std.specs.Prelude.{codes, List, Option, Ok, ℕ}
use Rattle.command_line.specs.FormatOptions.{OptionTexts, text_of}
use Rattle.command_line.specs.Misuses.{Reading, when}
use Rattle.command_line.specs.OptionGroups.{tree_given}
use Rattle.command_line.specs.Positional.{device_names, positional, root_first}
use Rattle.command_line.specs.Values.{RootRecord, name_said, offset_of, root_record}
use Rattle.command_line.specs.declared.words.tree_table.TreeTableWords.{TreeTableWords}

pub record TreeTableRecord : Type 0 where
  pub hash_path : List ℕ
  pub root : RootRecord
  pub data_name : List ℕ
  pub hash_name : List ℕ
  pub hash_offset : ℕ
  pub name : Option (List ℕ)

-- with the number of data blocks and the salt, which no superblock says
unfoldable pub tree_table_said : OptionTexts → List (List ℕ) → Reading TreeTableRecord
tree_table_said texts words =
    when (positional (codes "HASH") words) (λ hash_path.
    when (tree_given texts) (λ a.
    when (offset_of (codes "--hash-offset") texts.hash_offset) (λ hash_offset.
    when (name_said texts.name) (λ name.
    when (root_first texts.root_hash_file hash_path.1) (λ found.
    when (device_names found.1) (λ names.
    Ok (record {
      hash_path = hash_path.0;
      root = found.0;
      data_name = names.0;
      hash_name = names.1;
      hash_offset = hash_offset;
      name = name;
    })))))))

-- what the program's own value says
abbrev pub tree_table_record : TreeTableWords → TreeTableRecord
tree_table_record w = record {
  hash_path = w.hash_path.now;
  root = root_record w.root;
  data_name = w.data_name.now;
  hash_name = w.hash_name.now;
  hash_offset = w.hash_offset;
  name = text_of w.name;
}
