-- A tree made digest by digest, with one block of each level under construction.
use Rattle.std.specs.Prelude.{◌≡◌, ◌≤◌, ◌<◌, ◌^◌, ℕ, ◌+◌, ◌-◌, ◌/◌, ◌%◌, List, [], ◌∷◌, ◌++◌, length, map, replicate, take, Bool, true, false, not, ◌*◌, ◌&&◌, ◌==◌, if◌then◌else◌, nat_lt, Option, None, Some}
use Rattle.std.specs.Option.{unwrap_or}
use Rattle.std.specs.List.{range_with_len, All}
use Rattle.std.specs.List.Sorted.{IsPermutation}
use Rattle.allocation.specs.Refusal.{IsOutOfMemory}
use Rattle.tree_shape.specs.Digests.{digest}
use Rattle.tree_shape.specs.Shape.{ShapeRecord, IsShape, levels, position, area_blocks}
use Rattle.hash_tree.specs.Tree.{filled, area, root}
use Rattle.hash_tree.specs.Laws.{AreDigests}

-- where a level's next block will be stored, and the bytes that it has so far
pub record LevelRecord : Type 0 where
  pub next : ℕ
  pub bytes : List ℕ

-- a hash block with its number on the hash device
pub record PlacedRecord : Type 0 where
  pub block : ℕ
  pub bytes : List ℕ

-- the levels from level 0 up, the root if it is known, and the blocks that are done, in the order in which they were
pub record Grown : Type 0 where
  pub levels : List LevelRecord
  pub root : List ℕ
  pub placed : List PlacedRecord

-- the block of a level is done, and then what comes of its digest above
abbrev pub done : LevelRecord → List ℕ → Grown → Grown
done l bytes above = record {
  levels = record { next = l.next + 1; bytes = [] } ∷ above.levels;
  root = above.root;
  placed = record { block = l.next; bytes = bytes } ∷ above.placed;
}

-- A digest comes to a level: it is stored after the ones before it, and once they fill a block, the
-- block is done and its digest comes to the level above. Above the top level it is the root.
unfoldable pub grow : ℕ → List ℕ → List LevelRecord → List ℕ → List ℕ → Grown
grow size salt [] root d = record { levels = []; root = d; placed = [] }
grow size salt (l ∷ above) root d =
    if nat_lt (length (l.bytes ++ d)) size
    then record { levels = record l { bytes = l.bytes ++ d } ∷ above; root = root; placed = [] }
    else done l (l.bytes ++ d) (grow size salt above root (digest salt (l.bytes ++ d)))

-- first the one, and then the other
abbrev pub then_ : Grown → Grown → Grown
then_ g h = record h { placed = g.placed ++ h.placed }

-- the digests come one after the other
unfoldable pub grow_all : ℕ → List ℕ → List LevelRecord → List ℕ → List (List ℕ) → Grown
grow_all size salt levels root [] = record { levels = levels; root = root; placed = [] }
grow_all size salt levels root (d ∷ ds) =
    then_ (grow size salt levels root d) (grow_all size salt (grow size salt levels root d).levels (grow size salt levels root d).root ds)

-- the root, and the blocks that are done, in the order in which they were
pub record Closed : Type 0 where
  pub root : List ℕ
  pub placed : List PlacedRecord

-- a level's last block is done with zeros after its bytes, if it has any, and then what comes of its digest above
abbrev pub close_block : ℕ → List ℕ → ℕ → List ℕ → (Option (List ℕ) → Closed) → Closed
close_block size salt next [] above = above None
close_block size salt next (b ∷ bs) above =
    record (above (Some (digest salt (filled size (b ∷ bs))))) { placed = record { block = next; bytes = filled size (b ∷ bs) } ∷ (above (Some (digest salt (filled size (b ∷ bs))))).placed }

-- What is begun is done from level 0 up. To a level comes the digest of the block done beneath it, if there is one.
unfoldable pub close : ℕ → List ℕ → List LevelRecord → List ℕ → Option (List ℕ) → Closed
close size salt [] root coming = record { root = unwrap_or coming root; placed = [] }
close size salt (l ∷ above) root coming = close_block size salt l.next (l.bytes ++ unwrap_or coming []) (close size salt above root)

-- blocks with their numbers
abbrev pub numbered : ℕ → List (List ℕ) → List PlacedRecord
numbered n [] = []
numbered n (b ∷ bs) = record { block = n; bytes = b } ∷ numbered (n + 1) bs

-- a builder: the size of its blocks and the salt, how many digests are still to come, whether memory was refused, and what it made so far
pub record BuilderRecord : Type 0 where
  pub hash_block : ℕ
  pub salt : List ℕ
  pub left : ℕ
  pub failed : Bool
  pub levels : List LevelRecord
  pub root : List ℕ

-- the levels of a shape, with no digest yet
abbrev pub begun_levels : ShapeRecord → ℕ → ℕ → List LevelRecord
begun_levels s l n = map (λ l. record { next = position s l 0; bytes = [] }) (range_with_len l n)

-- that many blocks more can be numbered on each level
abbrev pub HaveRoom : ℕ → List LevelRecord → Type 0
HaveRoom n levels = All (λ l. l.next + n ≤ 2 ^ 60) levels

-- a builder without a digest
unfoldable pub begun_builder : ShapeRecord → List ℕ → BuilderRecord
begun_builder s salt = record {
  hash_block = s.hash_block;
  salt = salt;
  left = s.blocks;
  failed = false;
  levels = begun_levels s 0 (levels s);
  root = replicate 32 0;
}

-- what comes of some more digests
abbrev pub grown : BuilderRecord → List (List ℕ) → Grown
grown b ds = grow_all b.hash_block b.salt b.levels b.root ds

-- the builder after some more digests, and the blocks that they complete
unfoldable pub pushed : BuilderRecord → List (List ℕ) → BuilderRecord
pushed b ds = record b { left = b.left - length ds; levels = (grown b ds).levels; root = (grown b ds).root }

unfoldable pub completed : BuilderRecord → List (List ℕ) → List PlacedRecord
completed b ds = (grown b ds).placed

-- the builder and the blocks put out, after some more digests
pub record IsPushed (old : BuilderRecord) (ds : List (List ℕ)) (new : BuilderRecord) (before after : List PlacedRecord) : Type 0 where
  pub builder : new ≡ pushed old ds
  pub out : after ≡ before ++ completed old ds

-- room for a block of that size and a digest after it: no allocation for one block is larger
abbrev pub block_room : ℕ → ℕ
block_room size = size + 32

-- room for eight blocks and a digest: no allocation of a builder is larger
abbrev pub builder_room : BuilderRecord → ℕ
builder_room b = 8 * b.hash_block + 32

-- The builder remembers that an allocation was refused; if it remembered none before, one was refused now.
abbrev pub FailsToPush : BuilderRecord → BuilderRecord → Type 0
FailsToPush old new = (new.failed ≡ true) × (old.failed ≡ false → IsOutOfMemory (builder_room old))

-- some more digests were pushed, and the blocks that they complete put out
abbrev pub Pushes : BuilderRecord → List (List ℕ) → BuilderRecord → List PlacedRecord → List PlacedRecord → Type 0
Pushes old ds new before after = (new ≡ pushed old ds) × (after ≡ before ++ completed old ds)

-- bytes of digests are a number of whole blocks of that size
abbrev pub are_whole_blocks : ℕ → Bool
are_whole_blocks size = not (size == 0) && (size % 32 == 0)

-- there is a lowest level, and no block of it is begun
abbrev pub is_between : List LevelRecord → Bool
is_between [] = false
is_between (l ∷ above) = length l.bytes == 0

-- A whole block comes to the lowest level, if none is begun, and its digest to the level above.
unfoldable pub grow_block : ℕ → List ℕ → List LevelRecord → List ℕ → List ℕ → List ℕ → Grown
grow_block size salt [] root block d = record { levels = []; root = root; placed = [] }
grow_block size salt (l ∷ above) root block d = record {
  levels = record l { next = l.next + 1 } ∷ (grow size salt above root d).levels;
  root = (grow size salt above root d).root;
  placed = record { block = l.next; bytes = block } ∷ (grow size salt above root d).placed;
}

-- what comes of a whole block with its digest
abbrev pub grown_block : BuilderRecord → List ℕ → List ℕ → Grown
grown_block b block d = grow_block b.hash_block b.salt b.levels b.root block d

-- the builder after a whole block of the lowest level, and the blocks that it completes
unfoldable pub pushed_block : BuilderRecord → List ℕ → List ℕ → BuilderRecord
pushed_block b block d = record b { left = b.left - b.hash_block / 32; levels = (grown_block b block d).levels; root = (grown_block b block d).root }

unfoldable pub completed_block : BuilderRecord → List ℕ → List ℕ → List PlacedRecord
completed_block b block d = (grown_block b block d).placed

-- a whole block was pushed with its digest, and the blocks that it completes put out
abbrev pub PushesBlock : BuilderRecord → List ℕ → List ℕ → BuilderRecord → List PlacedRecord → List PlacedRecord → Type 0
PushesBlock old block d new before after = (new ≡ pushed_block old block d) × (after ≡ before ++ completed_block old block d)

-- the blocks that the end completes, and the root
unfoldable pub last_completed : BuilderRecord → List PlacedRecord
last_completed b = (close b.hash_block b.salt b.levels b.root None).placed

unfoldable pub built_root : BuilderRecord → List ℕ
built_root b = (close b.hash_block b.salt b.levels b.root None).root

-- the first ones of these blocks were written after those that were there before
pub record HasSome (before more after : List PlacedRecord) : Type 0 where
  pub count : ℕ
  pub is : after ≡ before ++ take count more

-- a hash block within the area of that shape
pub record IsAreaBlock (s : ShapeRecord) (p : PlacedRecord) : Type 0 where
  pub from : s.start ≤ p.block
  pub below : p.block < s.start + area_blocks s
  pub size : length p.bytes ≡ s.hash_block

-- all blocks that come out over all digests are those of the area, each once and at its place
pub record IsBuilt (s : ShapeRecord) (salt : List ℕ) (ds : List (List ℕ)) : Type 0 where
  pub area : IsPermutation (completed (begun_builder s salt) ds ++ last_completed (pushed (begun_builder s salt) ds)) (numbered s.start (area s.hash_block salt ds))
  pub root : built_root (pushed (begun_builder s salt) ds) ≡ root s.hash_block salt ds

-- the law of builders
abbrev pub BuildersMakeTheArea : Type 0
BuildersMakeTheArea = (s : ShapeRecord) → IsShape s → (salt : List ℕ) (ds : List (List ℕ)) → AreDigests s.blocks ds → IsBuilt s salt ds
