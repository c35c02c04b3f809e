-- The copies of an image, as words say them.
use Rattle.std.specs.Prelude.{◌≡◌, List, [], ◌∷◌, ◌++◌, codes, map, None, Option, Some, ℕ, option_map, if◌then◌else◌}
use Rattle.std.specs.Str.{bytes_eq}
use Rattle.command_line.specs.Misuses.{Reading, wanted}
use Rattle.command_line.specs.declared.misuse.Cause.TheVariants.{Missing}
use Rattle.command_line.specs.declared.image_copies.ImageCopy.{ImageCopy}

-- the paths of its data and of its hashes
pub record ImageCopyRecord : Type 0 where
  pub data_path : List ℕ
  pub hash_path : List ℕ

-- a copy that has its data and its hashes in one file
abbrev pub one_file : List ℕ → ImageCopyRecord
one_file path = record { data_path = path; hash_path = path }

-- two words for each copy
unfoldable pub copies_in_pairs : List (List ℕ) → Option (List ImageCopyRecord)
copies_in_pairs [] = Some []
copies_in_pairs (data_path ∷ []) = None
copies_in_pairs (data_path ∷ hash_path ∷ words) = option_map (λ more. record { data_path = data_path; hash_path = hash_path } ∷ more) (copies_in_pairs words)

-- of an image with these paths: a word for each copy where data and hashes have the same path, else two
unfoldable pub copies_of : List ℕ → List ℕ → List (List ℕ) → Option (List ImageCopyRecord)
copies_of data_path hash_path words = if bytes_eq data_path hash_path then Some (map one_file words) else copies_in_pairs words

-- the hash file of the last copy may be missing
abbrev pub said_copies : Option (List ImageCopyRecord) → Reading (List ImageCopyRecord)
said_copies copies = wanted (codes "HASHCOPY") Missing copies

-- two words for each copy, and one more copy after them
unfoldable pub copies_and_last : ImageCopyRecord → List (List ℕ) → Option (List ImageCopyRecord)
copies_and_last last words = option_map (λ copies. copies ++ last ∷ []) (copies_in_pairs words)

-- what the program's own value says
abbrev pub image_copy_record : ImageCopy → ImageCopyRecord
image_copy_record copy = record { data_path = copy.data_path.now; hash_path = copy.hash_path.now }

-- the program's own values are the copies that words say
abbrev pub AreCopies : Option (List ImageCopyRecord) → List ImageCopy → Type 0
AreCopies said copies = said ≡ Some (map image_copy_record copies)
