-- What `diff [OPTIONS] HASH1 [ROOT1] HASH2 [ROOT2]` says.
use Rattle.std.specs.Prelude.{◌&&◌, not, codes, is_some, Bool, List, Option, Ok, ℕ}
use Rattle.command_line.specs.FormatOptions.{OptionTexts}
use Rattle.command_line.specs.Misuses.{Reading, refuse_if, when}
use Rattle.command_line.specs.OptionGroups.{tree_stated}
use Rattle.command_line.specs.Positional.{no_more, positional, word_or_file}
use Rattle.command_line.specs.Values.{RootOrPinRecord, offset_of, root_or_pin_record, root_or_pin_said, runs_said}
use Rattle.command_line.specs.declared.misuse.Cause.TheVariants.{Missing, WithOldPin, WithPin}
use Rattle.command_line.specs.declared.words.diff.DiffWords.{DiffWords}

pub record DiffRecord : Type 0 where
  pub old_path : List ℕ
  pub old_offset : ℕ
  pub old_root : RootOrPinRecord
  pub new_path : List ℕ
  pub new_offset : ℕ
  pub new_root : RootOrPinRecord
  pub no_superblock : Bool
  pub runs : Option ℕ
  pub all : Bool
  pub json : Bool

-- the root of the first tree, by one of its two options or its argument
unfoldable pub old_root_said : OptionTexts → List ℕ → Reading RootOrPinRecord
old_root_said texts word =
    when (refuse_if (is_some texts.old_pin && is_some texts.old_root_hash_file) (codes "--old-root-hash-file") WithOldPin) (λ a.
    root_or_pin_said (codes "--old-pin") texts.old_pin texts.old_root_hash_file (codes "ROOT1") word)

-- and that of the second
unfoldable pub new_root_said : OptionTexts → List ℕ → Reading RootOrPinRecord
new_root_said texts word =
    when (refuse_if (is_some texts.pin && is_some texts.root_hash_file) (codes "--root-hash-file") WithPin) (λ a.
    root_or_pin_said (codes "--pin") texts.pin texts.root_hash_file (codes "ROOT2") word)

-- of trees without superblocks the salt and the number of data blocks are given, and no pin is
unfoldable pub both_stated : OptionTexts → Reading (Unit {0})
both_stated texts =
    when (tree_stated texts) (λ a.
    when (refuse_if (texts.no_superblock && not (is_some texts.blocks)) (codes "--blocks") Missing) (λ b.
    refuse_if (texts.no_superblock && is_some texts.old_pin) (codes "--no-superblock") WithOldPin))

unfoldable pub diff_said : OptionTexts → List (List ℕ) → Reading DiffRecord
diff_said texts words =
    when (positional (codes "HASH1") words) (λ old_path.
    when (word_or_file texts.old_pin texts.old_root_hash_file (codes "ROOT1") old_path.1) (λ old_word.
    when (positional (codes "HASH2") old_word.1) (λ new_path.
    when (word_or_file texts.pin texts.root_hash_file (codes "ROOT2") new_path.1) (λ new_word.
    when (no_more new_word.1) (λ none.
    when (both_stated texts) (λ stated.
    when (offset_of (codes "--old-hash-offset") texts.old_hash_offset) (λ old_offset.
    when (offset_of (codes "--hash-offset") texts.hash_offset) (λ new_offset.
    when (old_root_said texts old_word.0) (λ old_root.
    when (new_root_said texts new_word.0) (λ new_root.
    when (runs_said texts.runs) (λ runs.
    Ok (record {
      old_path = old_path.0;
      old_offset = old_offset;
      old_root = old_root;
      new_path = new_path.0;
      new_offset = new_offset;
      new_root = new_root;
      no_superblock = texts.no_superblock;
      runs = runs;
      all = texts.all;
      json = texts.json;
    }))))))))))))

-- what the program's own value says
abbrev pub diff_record : DiffWords → DiffRecord
diff_record w = record {
  old_path = w.old_path.now;
  old_offset = w.old_offset;
  old_root = root_or_pin_record w.old_root;
  new_path = w.new_path.now;
  new_offset = w.new_offset;
  new_root = root_or_pin_record w.new_root;
  no_superblock = w.no_superblock;
  runs = w.runs;
  all = w.all;
  json = w.json;
}
