-- Block status in the context base:allocation (the protocol's document, NBD_CMD_BLOCK_STATUS and NBD_REPLY_TYPE_BLOCK_STATUS).
use Rattle.std.specs.Prelude.{◌≡◌, ◌≢◌, ◌⊎◌, ◌<◌, ◌≤◌, ℕ, ◌+◌, ◌-◌, ◌/◌, ◌%◌, Bool, false, not, IsTrue, List, Vec, [], ◌++◌, length, take, drop, replicate, Ok, Err, if◌then◌else◌}
use Rattle.std.specs.Global.{Global}
use Rattle.std.specs.Str.{bytes_eq}
use Rattle.stack_rules.specs.Names.{mapped}
use Rattle.stack_rules.specs.Records.{Configuration}
use Rattle.stack_meaning.specs.Meaning.{said_at}
use Rattle.nbd_server.specs.Content.{zero_block}
use Rattle.nbd_server.specs.Extents.{AreZeros, HasKind, HasOtherKind, is_same_kind, most_runs}
use Rattle.nbd_server.specs.declared.extent.ExtentKind.{ExtentKind}
use Rattle.nbd_server.specs.declared.extent.ExtentKind.TheVariants as known
use Rattle.nbd_protocol.specs.Exports.{ExportRecord}
use Rattle.nbd_protocol.specs.Numbers.{bytes32}
use Rattle.nbd_server.specs.Replies.{RequestOutcome}
use Rattle.nbd_server.specs.declared.status.BlockStatus.{BlockStatus}
use Rattle.nbd_server.specs.declared.status.ByteExtent.{ByteExtent}

-- how many sectors a byte range touches
abbrev pub touched : ℕ → ℕ → ℕ
touched offset length = (offset % 512 + length + 511) / 512

-- the flags of an extent: a hole that reads as zeros (3), or data (0)
abbrev pub status_flags : Bool → ℕ
status_flags zeros = if zeros then 3 else 0

-- the descriptor of an extent: its length and its flags
abbrev pub descriptor : BlockStatus → List ℕ
descriptor s = bytes32 s.count ++ bytes32 (status_flags s.zeros)

-- the lines make each sector that a byte range touches zeros
abbrev pub TouchZeros : Configuration → ExportRecord → ℕ → ℕ → Type 0
TouchZeros c e at count = AreZeros (said_at c (mapped e.device)) (at / 512) (touched at count)

-- each sector that a byte range touches is of that kind
abbrev pub TouchKind : Configuration → ExportRecord → ExtentKind → ℕ → ℕ → Type 0
TouchKind c e kind at count = (j : ℕ) → j < touched at count → HasKind c (mapped e.device) (at / 512 + j) kind

-- each sector that a byte range touches is on a verity line that ignores blocks of zeros
abbrev pub TouchIgnoring : Configuration → ExportRecord → ℕ → ℕ → Type 0
TouchIgnoring c e at count = TouchKind c e known.IgnoresZeros at count

-- byte `at` is of another kind
abbrev pub IsOtherKind : Configuration → ExportRecord → ExtentKind → ℕ → Type 0
IsOtherKind c e kind at = HasOtherKind (HasKind c (mapped e.device)) kind (at / 512)

-- An extent of at least one and at most `left` bytes from an offset on, all of one kind. It ends with them, before a byte of
-- another kind, or at a sector before which it joined so many runs.
pub record IsByteExtent (c : Configuration) (e : ExportRecord) (runs at left : ℕ) (extent : ByteExtent) : Type 0 where
  pub some : 0 < extent.count
  pub few : extent.count ≤ left
  pub zeros : extent.kind ≡ known.Zeros → TouchZeros c e at extent.count
  pub kind : TouchKind c e extent.kind at extent.count
  pub ends : (extent.count ≡ left) ⊎ ((at / 512 + runs ≤ (at + extent.count) / 512) ⊎ IsOtherKind c e extent.kind (at + extent.count))

-- such an extent, and how many of the runs are left
pub record IsJoinedExtent (c : Configuration) (e : ExportRecord) (runs at left : ℕ) (extent : ByteExtent) (rest : ℕ) : Type 0 where
  pub is : IsByteExtent c e runs at left extent
  pub runs_left : extent.count < left → at / 512 + runs ≤ (at + extent.count) / 512 + rest

-- ---- the status of an extent

-- By the lines alone: an extent is reported as zeros if it is on `zero` lines; after the first none is on lines that ignore zeros.
-- It joins the runs that are left, after those of the extents from `offset` on.
pub record IsLineStatus (c : Configuration) (e : ExportRecord) (offset at left : ℕ) (s : BlockStatus) : Type 0 where
  pub runs : ℕ
  pub runs_left : offset / 512 + most_runs ≤ at / 512 + runs
  pub extent : ByteExtent
  pub is : IsByteExtent c e runs at left extent
  pub count : s.count ≡ extent.count
  pub zeros : s.zeros ≡ is_same_kind extent.kind known.Zeros
  pub later : offset < at → extent.kind ≢ known.IgnoresZeros

-- The block of byte k, of bytes from offset `at` of the export on. Blocks end at multiples of their size.
abbrev pub block_first : ℕ → ℕ → ℕ
block_first at k = k - (at + k) % zero_block

abbrev pub block_at : ℕ → List ℕ → ℕ → List ℕ
block_at at bytes k = take (k + (zero_block - (at + k) % zero_block) - block_first at k) (drop (block_first at k) bytes)

-- whether it is zeros
abbrev pub is_zero_block : ℕ → List ℕ → ℕ → Bool
is_zero_block at bytes k = bytes_eq (block_at at bytes k) (replicate (length (block_at at bytes k)) 0)

-- the longest run of blocks with which bytes begin that are all zeros, or of which none is zeros
pub record IsRun (at : ℕ) (bytes : List ℕ) (s : BlockStatus) : Type 0 where
  pub some : 0 < s.count
  pub few : s.count ≤ length bytes
  pub zeros : IsTrue s.zeros → take s.count bytes ≡ replicate s.count 0
  pub blocks : (k : ℕ) → k < s.count → is_zero_block at bytes k ≡ s.zeros
  pub ends : (s.count ≡ length bytes) ⊎ (is_zero_block at bytes s.count ≡ not s.zeros)

-- by the bytes that were read from `first` on: a run of them; if they couldn't be read, all are data
abbrev pub IsReadStatus : ℕ → RequestOutcome → ℕ → ℕ → BlockStatus → Type 0
IsReadStatus first (Ok content) at left s = IsRun at (drop (at - first) content) s
IsReadStatus first (Err error) at left s = (s.zeros ≡ false) × (s.count ≡ left)

-- the status of at least one and at most `left` bytes from an offset on
pub record IsStatus (Is : ℕ → ℕ → BlockStatus → Type 0) (at left : ℕ) (s : BlockStatus) : Type 0 where
  pub some : 0 < s.count
  pub few : s.count ≤ left
  pub is : Is at left s

-- ---- the status of a byte range

-- adjacent extents from an offset on: how many bytes they cover, and their descriptors
pub data TellsEachStatus (Is : ℕ → ℕ → BlockStatus → Type 0) (offset count : ℕ) : ℕ → List ℕ → Type 0 where
  tells_none : TellsEachStatus Is offset count 0 []
  tells_more : {done : ℕ} {told : List ℕ} (s : BlockStatus) → TellsEachStatus Is offset count done told → done ≤ count → IsStatus Is (offset + done) (count - done) s → TellsEachStatus Is offset count (done + s.count) (told ++ descriptor s)

-- The status of a byte range: it covers at least the first bytes, and is one extent if one was requested. Otherwise it covers all
-- of them, has 1,024 extents, or ends at a byte for which `Ends` holds.
pub record HasStatus (Is : ℕ → ℕ → BlockStatus → Type 0) (Ends : ℕ → Type 0) (offset count : ℕ) (one : Bool) (told : List ℕ) : Type 0 where
  pub done : ℕ
  pub tells : TellsEachStatus Is offset count done told
  pub some : 0 < done
  pub few : done ≤ count
  pub small : length told ≤ 8192
  pub single : IsTrue one → length told ≡ 8
  pub ends : (done ≡ count) ⊎ ((length told ≡ 8192) ⊎ (IsTrue one ⊎ Ends (offset + done)))

-- the byte is on lines that ignore blocks of zeros
abbrev pub BeginsIgnoring : Configuration → ExportRecord → ℕ → Type 0
BeginsIgnoring c e at = HasKind c (mapped e.device) (at / 512) known.IgnoresZeros

-- the status of a byte range by the lines alone ends there before lines that ignore blocks of zeros, or after 65,536 runs
abbrev pub EndsByLines : Configuration → ExportRecord → ℕ → ℕ → Type 0
EndsByLines c e offset at = BeginsIgnoring c e at ⊎ (offset / 512 + most_runs ≤ at / 512)

-- the status by the lines alone
abbrev pub HasLineStatus : Configuration → ExportRecord → ℕ → ℕ → Bool → List ℕ → Type 0
HasLineStatus c e offset count one told = HasStatus (IsLineStatus c e offset) (EndsByLines c e offset) offset count one told

-- the status by bytes that were read: of all of them
abbrev pub HasReadStatus : RequestOutcome → ℕ → ℕ → Bool → List ℕ → Type 0
HasReadStatus outcome offset count one told = HasStatus (IsReadStatus offset outcome) (λ at. ⊥) offset count one told

-- both in memory
abbrev pub IsStatusOfLines : Configuration → ExportRecord → ℕ → ℕ → Bool → Vec ℕ Global → Type 0
IsStatusOfLines c e offset count one told = HasLineStatus c e offset count one told.items

abbrev pub IsStatusOfBytes : ℕ → List ℕ → Bool → Vec ℕ Global → Type 0
IsStatusOfBytes first content one told = HasReadStatus (Ok content) first (length content) one told.items
