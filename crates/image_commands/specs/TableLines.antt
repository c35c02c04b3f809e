-- The table line of a hash image as the command `table` prints it.
use Rattle.std.specs.Prelude.{ℕ, List, [], ◌++◌, codes, Option, Some, None}
use Rattle.std.specs.Borrow.{Bor}
use Rattle.std.specs.Io.KnownBytes.{Appends}
use Rattle.dm_table.specs.declared.parity.Parity.{Parity}
use Rattle.program_io.specs.Counted.{CountedRecord}
use Rattle.verity_format.specs.declared.tree.VerityTree.{VerityTree}
use Rattle.verity_format.specs.Line.{LineNames, parity_of, text_room, verity_text}
use Rattle.verity_format.specs.Superblock.{SuperRecord}
use Rattle.verity_format.specs.Trees.{superblock_tree, tree_alone}
use Rattle.image_commands.specs.declared.table.LineTree.{LineTree}
use Rattle.image_commands.specs.declared.table.LineWords.{LineWords}
use Rattle.image_commands.specs.Places.{tree_start}

-- what makes a line a whole entry of a stack text, a read-only device of that name
abbrev pub entry_head : Option (Bor (List ℕ)) → List ℕ
entry_head (Some name) = name.now ++ codes ",,,ro,"
entry_head None = []

-- the device arguments of a line with that parity
abbrev pub line_names : LineWords → Option Parity → LineNames
line_names words parity = record { data_name = words.data_name.now; hash_name = words.hash_name.now; parity = parity }

-- the line of an image whose tree begins at that block of the hash device, and a newline; with a name the whole entry
abbrev pub named_line : Option (Bor (List ℕ)) → VerityTree → LineWords → ℕ → Option Parity → List ℕ
named_line name tree words start parity = entry_head name ++ (verity_text tree (line_names words parity) words.root.now.root start ++ codes "\n")

-- no allocation for that line is larger, in bytes
abbrev pub words_room : VerityTree → LineWords → ℕ → Option Parity → ℕ
words_room tree words start parity = text_room tree (line_names words parity) words.root.now.root start

-- of a tree that follows a superblock at that sector, and of one that begins there itself
abbrev pub placed_line : Option (Bor (List ℕ)) → SuperRecord → LineWords → ℕ → List ℕ
placed_line name s words first = named_line name (superblock_tree s) words (tree_start first s.hash_block 1) None

abbrev pub tree_line : Option (Bor (List ℕ)) → SuperRecord → LineWords → ℕ → List ℕ
tree_line name s words first = named_line name (tree_alone s) words (tree_start first s.hash_block 0) None

-- ---- as a call sees it

-- the line was written, or the whole entry
abbrev pub SaysNamedLine : {W : Type 0} → (W → Option (List ℕ)) → CountedRecord W → CountedRecord W → Option (Bor (List ℕ)) → LineTree → LineWords → Type 0
SaysNamedLine contents writer writer' name t words = Appends (contents writer.inner) (contents writer'.inner) (named_line name t.tree.now words t.start (parity_of t.parity))

-- no allocation for it is larger, in bytes
abbrev pub said_room : LineTree → LineWords → ℕ
said_room t words = words_room t.tree.now words t.start (parity_of t.parity)
