-- The superblock of a hash image that begins at a sector of its file, and the tree after it.
use Rattle.std.specs.Prelude.{◌≡◌, ◌⊎◌, ℕ, ◌/◌, ◌%◌, ◌==◌, nat_lt, Bool, true, false, List, Option, Some, None, Result, Ok, Err, if◌then◌else◌}
use Rattle.block_device.specs.Call.{Call}
use Rattle.block_device.specs.Device.{Device}
use Rattle.image_pin.specs.declared.mismatch.Mismatch.{Mismatch}
use Rattle.image_pin.specs.declared.pin.Pin.{Pin}
use Rattle.image_pin.specs.declared.pinned.PinnedFault.{PinnedFault}
use Rattle.image_pin.specs.declared.pinned.PinnedFault.TheVariants as pinned
use Rattle.image_pin.specs.PinnedReads.{GivesNoPinned, GivesPinned, ReadsUnpinned, mismatch_of}
use Rattle.verity_format.specs.Superblock.{SuperRecord}
use Rattle.verity_format.specs.Verifying.{IsReadCause, IsReadFrom}
use Rattle.image_pin.specs.declared.finding.NoTree.{NoTree}
use Rattle.image_pin.specs.declared.finding.NoTree.TheVariants.{Unaligned, Unpinned, Unread}

-- a tree of such blocks may begin at that sector: it is the first one of such a block
abbrev pub is_aligned : ℕ → ℕ → Bool
is_aligned first size = if nat_lt size 512 then true else first % (size / 512) == 0

-- a tree of the pin may begin at that sector
abbrev pub may_begin : Option Pin → ℕ → Bool
may_begin None first = true
may_begin (Some pin) first = is_aligned first pin.hash_block

-- the superblock was read, it has the values of the pin, if there is one, and a hash block begins at its sector
pub record ReadsSuper (hash_dev : Device) (first : ℕ) (pin : Option Pin) (super : SuperRecord) : Type 0 where
  pub sector : List ℕ
  pub read : IsReadFrom hash_dev sector super
  pub pinned : mismatch_of pin super ≡ None
  pub aligned : is_aligned first super.hash_block ≡ true

-- it was read, it has the values of the pin, if there is one, and no hash block begins there
pub record IsSuperUnaligned (hash_dev : Device) (first : ℕ) (pin : Option Pin) : Type 0 where
  pub super : SuperRecord
  pub sector : List ℕ
  pub read : IsReadFrom hash_dev sector super
  pub pinned : mismatch_of pin super ≡ None
  pub unaligned : is_aligned first super.hash_block ≡ false

-- by the pin no hash block begins there, and nothing was read; or none does by the superblock
abbrev pub IsTreeUnaligned : Device → ℕ → Option Pin → Device → Type 0
IsTreeUnaligned hash_dev first pin hash_dev' = ((may_begin pin first ≡ false) × (hash_dev' ≡ hash_dev)) ⊎ IsSuperUnaligned hash_dev first pin

-- it was read, and differs from the pin in that value; of a device that isn't seen afterwards
abbrev pub IsTreeUnpinned : Device → Option Pin → Mismatch → Type 0
IsTreeUnpinned hash_dev pin mismatch = (hash_dev' : Device) × ReadsUnpinned hash_dev pin hash_dev' mismatch

-- why there is no tree: the pin's alignment comes first, then the superblock's own faults, its values, and its alignment
abbrev pub IsNoTree : Device → ℕ → Option Pin → Device → NoTree → Type 0
IsNoTree hash_dev first pin hash_dev' (Unread fault) = (may_begin pin first ≡ true) × IsReadCause hash_dev hash_dev' fault
IsNoTree hash_dev first pin hash_dev' Unaligned = IsTreeUnaligned hash_dev first pin hash_dev'
IsNoTree hash_dev first pin hash_dev' (Unpinned mismatch) = (may_begin pin first ≡ true) × ReadsUnpinned hash_dev pin hash_dev' mismatch

-- with which of these causes, if there is no superblock of the pin
abbrev pub unpinned_tree : PinnedFault → NoTree
unpinned_tree (pinned.Unread fault) = Unread fault
unpinned_tree (pinned.Unpinned mismatch) = Unpinned mismatch

-- ---- calls

-- a superblock of the pin was read, by one call, and no hash block begins at its sector
pub record GivesUnaligned {H : Type 0} (does : H → Call → H → Type 0) (old : H) (first : ℕ) (pin : Option Pin) (new : H) : Type 0 where
  pub super : SuperRecord
  pub given : GivesPinned does old pin super new
  pub unaligned : is_aligned first super.hash_block ≡ false

-- at most one call if there is no tree: none if by the pin no hash block begins there
abbrev pub GivesNoTree : {H : Type 0} → (H → Call → H → Type 0) → H → ℕ → Option Pin → H → NoTree → Type 0
GivesNoTree does old first pin new (Unread fault) = GivesNoPinned does old pin new (pinned.Unread fault)
GivesNoTree does old first pin new Unaligned = ((may_begin pin first ≡ false) × (new ≡ old)) ⊎ GivesUnaligned does old first pin new
GivesNoTree does old first pin new (Unpinned mismatch) = GivesNoPinned does old pin new (pinned.Unpinned mismatch)

-- all calls of finding a tree
abbrev pub CallsTree : {H : Type 0} → (H → Call → H → Type 0) → H → ℕ → Option Pin → H → Result SuperRecord NoTree → Type 0
CallsTree does old first pin new (Ok super) = GivesPinned does old pin super new × (is_aligned first super.hash_block ≡ true)
CallsTree does old first pin new (Err fault) = GivesNoTree does old first pin new fault
