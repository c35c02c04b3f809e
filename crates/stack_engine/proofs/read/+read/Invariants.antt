use Rattle.std.proofs.Common.{All, length, take, map, ◌-◌, ◌≡◌, ◌≤◌, ◌+◌, ◌/◌, ◌*◌, ◌%◌, ℕ, List, Ok, Some}
use Rattle.dm_table.specs.declared.parity.Parity.{Parity}
use Rattle.stack_rules.specs.Names.{mapped}
use Rattle.stack_rules.specs.Trees.{tree_of, zero_block}
use Rattle.tree_shape.specs.Shape.{levels}
use Rattle.stack_engine.specs.Erasures.{end_of, no_columns, record_of}
use Rattle.stack_engine.specs.Spares.{AreFoundUpTo, NamesLeaf}
use Rattle.stack_rules.specs.Descend.{depth}
use Rattle.block_device.specs.Call.{DeviceDoes}
use Rattle.stack_engine.specs.SectorCalls.{DataRead, LeadsTo, columns_of, data_of, digest_of, last_bytes, one_asked, place_in, sums_of, whole_data}
use Rattle.stack_engine.proofs.lemmas.MendLemmas.{IsSummed}
use Rattle.stack_engine.proofs.DecodeLemmas.{AreSummed}
use Rattle.stack_engine.proofs.JudgeLemmas.{IsDigestBeneath}
use Rattle.stack_engine.proofs.BlockCallLemmas.{BlocksUpTo}
use Rattle.stack_engine.proofs.SectorCallLemmas.{GivesUpTo}
use Rattle.stack_lines.specs.Sources.{source_depth}
use Rattle.stack_lines.specs.Walks.{block_in, IsWalked}
use Rattle.stack_lines.specs.Caches.{KeepsCache}
use Rattle.stack_engine.specs.Held.{IsHeld}
use Rattle.stack_lines.specs.Touches.{AsksOnly, leaves_of}
use Rattle.stack_engine.specs.Healing.{HasNoParity}
use Rattle.stack_engine.proofs.SpentLemmas.{IsCutBehind}
use Rattle.stack_engine.proofs.NextBlockLemmas.{AreChecked}
use Rattle.stack_engine.specs.Backings.{backing_of, served}
use Rattle.stack_engine.specs.Keeping.{ReadsAs}
use Rattle.stack_engine.specs.ReadSteps.{run_beneath, IsReadStep}
use Rattle.stack_engine.proofs.read.+read.Given as goal

-- 32 times the depth and a rank, of which 0 to 11 are left for the steps of a target: part of a unit takes 4, whole units 3; a data
-- block 11, the walk to it and a block of a row 10, its last step and a step of a path 9, reading it or a hash block on the way 8,
-- healing 7, a spare 6, one by erasures 5, and what these call less; a row and a hash block that may be kept 32 times their own depth
-- and 16, and a block that is checked 32 times its own depth and 15

abbrev pub decreases-read_lower : goal.decreases-read_lower
decreases-read_lower g l = 32 * depth l.config.now l.from.0 + 14

abbrev pub decreases-read_device : goal.decreases-read_device
decreases-read_device g l = 32 * depth l.config.now (mapped l.from.0.0) + 13

abbrev pub decreases-read_run : goal.decreases-read_run
decreases-read_run g l = 32 * source_depth l.config.now l.source + 12

-- the bytes so far are those of a read of so many sectors
abbrev pub invariant-read_device-loop-at : goal.invariant-read_device-loop-at
invariant-read_device-loop-at g l = record {
  whole : l.at % 512 ≡ 0;
  within : l.at ≤ length l.out;
  so_far : ReadsAs l.chains l.config (mapped l.from.0.0) l.from.1 (l.at / 512)
      (record { old = map g.D.BlockDev.state l.fn.backing.devices.items; new = map g.D.BlockDev.state l.backing.devices.items; before = l.fn.found.items; after = l.found.items }) (Ok (take l.at l.out));
  given : GivesUpTo (DeviceDoes g.D.BlockDev.state g.D.BlockDev.does) l.config l.from.0.0 l.from.1 (length l.fn.out / 512) (l.at / 512) (take l.at l.out) (served l.fn.backing) (served l.backing);
  step : IsReadStep l.config (run_beneath l.config (mapped l.from.0.0) l.from.1 (l.at / 512)) (backing_of g.D.BlockDev.state l.fn.backing) (backing_of g.D.BlockDev.state l.backing) (Ok tt);
  cut : IsCutBehind l.config l.from.0.0 l.from.1 (l.at / 512) (length l.fn.out / 512);
}

abbrev pub decreases-read_device-loop-at : goal.decreases-read_device-loop-at
decreases-read_device-loop-at g l = length l.initial.out - l.at

abbrev pub decreases-read_unit_part : goal.decreases-read_unit_part
decreases-read_unit_part g l = 32 * (depth l.config.now l.part.lower + 1) + 4

abbrev pub decreases-read_units : goal.decreases-read_units
decreases-read_units g l = 32 * (depth l.config.now l.part.lower + 1) + 3

abbrev pub decreases-read_block : goal.decreases-read_block
decreases-read_block g l = 32 * depth l.config.now (mapped l.part.device.0) + 11

abbrev pub decreases-walk : goal.decreases-walk
decreases-walk g l = 32 * depth l.config.now (mapped l.tree.now.device.0) + 10

abbrev pub decreases-read_data : goal.decreases-read_data
decreases-read_data g l = 32 * depth l.config.now (mapped l.tree.now.device.0) + 9

abbrev pub decreases-fetch_data : goal.decreases-fetch_data
decreases-fetch_data g l = 32 * depth l.config.now (mapped l.tree.now.device.0) + 8

abbrev pub decreases-hash_block : goal.decreases-hash_block
decreases-hash_block g l = 32 * depth l.config.now l.extent.lower + 16

abbrev pub decreases-read_checked : goal.decreases-read_checked
decreases-read_checked g l = 32 * depth l.config.now l.extent.lower + 15

-- what the path so far shows
abbrev pub invariant-walk-loop-level : goal.invariant-walk-loop-level
invariant-walk-loop-level g l = record {
  walked : IsWalked (block_in l.config l.verity l.index) l.level l.expected (map (λ b. b.items) l.path.items)
      (map g.D.BlockDev.state l.fn.backing.devices.items) (map g.D.BlockDev.state l.backing.devices.items);
  cached : KeepsCache l.config (map g.D.BlockDev.state l.backing.devices.items) l.fn.backing.cache l.backing.cache;
  touches : AsksOnly {A = Unit {0}} (HasNoParity l.config) (leaves_of l.config (mapped l.tree.device.0)) (map g.D.BlockDev.state l.fn.backing.devices.items) (map g.D.BlockDev.state l.backing.devices.items) (Ok tt);
  given : (last : List ℕ) × LeadsTo (DeviceDoes g.D.BlockDev.state g.D.BlockDev.does) l.config (whole_data (place_in l.verity l.tree l.index) (one_asked l.part)) (data_of (place_in l.verity l.tree l.index) l.level l.expected last (one_asked l.part))
      (served l.fn.backing) (served l.backing);
}

abbrev pub decreases-walk-loop-level : goal.decreases-walk-loop-level
decreases-walk-loop-level g l = l.level

abbrev pub decreases-path_block : goal.decreases-path_block
decreases-path_block g l = 32 * depth l.config.now (mapped l.tree.now.device.0) + 9

abbrev pub decreases-way_block : goal.decreases-way_block
decreases-way_block g l = 32 * depth l.config.now (mapped l.tree.now.device.0) + 8

abbrev pub decreases-walk_path : goal.decreases-walk_path
decreases-walk_path g l = 32 * depth l.config.now (mapped l.tree.now.device.0) + 10

abbrev pub decreases-read_blocks : goal.decreases-read_blocks
decreases-read_blocks g l = 32 * depth l.config.now (mapped l.part.device.0) + 11

-- what the blocks of the path so far show
abbrev pub invariant-walk_path-loop-left : goal.invariant-walk_path-loop-left
invariant-walk_path-loop-left g l = record {
  within : l.at ≤ length l.path.items;
  walked : IsWalked (block_in l.config l.verity l.index) l.left l.digest (map (λ b. b.bytes) (take l.at l.path.items))
      (map g.D.BlockDev.state l.fn.backing.devices.items) (map g.D.BlockDev.state l.backing.devices.items);
  held : All (IsHeld l.config (map g.D.BlockDev.state l.backing.devices.items)) l.path.items;
  cached : KeepsCache l.config (map g.D.BlockDev.state l.backing.devices.items) l.fn.backing.cache l.backing.cache;
  touches : AsksOnly {A = Unit {0}} (HasNoParity l.config) (leaves_of l.config (mapped l.tree.device.0)) (map g.D.BlockDev.state l.fn.backing.devices.items) (map g.D.BlockDev.state l.backing.devices.items) (Ok tt);
  given : (next : DataRead) → LeadsTo (DeviceDoes g.D.BlockDev.state g.D.BlockDev.does) l.config (whole_data (place_in l.verity l.tree l.index) next)
      (data_of (place_in l.verity l.tree l.index) l.left l.digest (last_bytes (take l.at l.path.items)) next) (served l.fn.backing) (served l.backing);
}

abbrev pub decreases-walk_path-loop-left : goal.decreases-walk_path-loop-left
decreases-walk_path-loop-left g l = l.left

abbrev pub decreases-read_row : goal.decreases-read_row
decreases-read_row g l = 32 * depth l.config.now l.from.0 + 16

abbrev pub decreases-read_beneath : goal.decreases-read_beneath
decreases-read_beneath g l = 32 * depth l.config.now l.lower + 15

-- the blocks so far were read, and those after them are as they were read last
abbrev pub invariant-read_blocks-checks : goal.invariant-read_blocks-checks
invariant-read_blocks-checks g l = record {
  checked : AreChecked l.config l.fn.part l.fn.chains l.fn.out l.read l.alone l.at l.out l.made l.path.items
      (map g.D.BlockDev.state l.fn.backing.devices.items) (map g.D.BlockDev.state l.backing.devices.items) l.fn.found.items l.found.items;
  cached : KeepsCache l.config (map g.D.BlockDev.state l.backing.devices.items) l.fn.backing.cache l.backing.cache;
  touches : AsksOnly {A = Unit {0}} (HasNoParity l.config) (leaves_of l.config (mapped l.fn.part.device.0)) (map g.D.BlockDev.state l.fn.backing.devices.items) (map g.D.BlockDev.state l.backing.devices.items) (Ok tt);
  given : BlocksUpTo (DeviceDoes g.D.BlockDev.state g.D.BlockDev.does) l.config l.fn.part (length l.fn.out / 512) l.read l.alone l.at l.out (served l.fn.backing) (served l.backing);
}

abbrev pub decreases-read_blocks-checks : goal.decreases-read_blocks-checks
decreases-read_blocks-checks g l = l.count - l.at

abbrev pub decreases-add_other : goal.decreases-add_other
decreases-add_other g l = 32 * depth l.config.now (mapped l.tree.now.device.0)

abbrev pub decreases-add_parity : goal.decreases-add_parity
decreases-add_parity g l = 32 * depth l.config.now (mapped l.tree.now.device.0)

abbrev pub decreases-mend : goal.decreases-mend
decreases-mend g l = 32 * depth l.config.now (mapped l.tree.now.device.0) + 6

abbrev pub decreases-settle_block : goal.decreases-settle_block
decreases-settle_block g l = 32 * depth l.config.now (mapped l.tree.now.device.0) + 10

abbrev pub decreases-heal : goal.decreases-heal
decreases-heal g l = 32 * depth l.config.now (mapped l.tree.now.device.0) + 7

-- the blocks at the positions so far were added
abbrev pub invariant-mend_only-loop-place : goal.invariant-mend_only-loop-place
invariant-mend_only-loop-place g l = record {
  within : l.place ≤ l.count;
  summed : (q : Parity) → l.verity.parity ≡ Some q → IsSummed (block_in l.config l.verity l.index) q l.place l.out (map g.D.BlockDev.state l.fn.backing.devices.items) (map g.D.BlockDev.state l.backing.devices.items);
  cached : KeepsCache l.config (map g.D.BlockDev.state l.backing.devices.items) l.fn.backing.cache l.backing.cache;
  touches : AsksOnly {A = Unit {0}} (HasNoParity l.config) (leaves_of l.config (mapped l.tree.device.0)) (map g.D.BlockDev.state l.fn.backing.devices.items) (map g.D.BlockDev.state l.backing.devices.items) (Ok tt);
  given : (q : Parity) → l.verity.parity ≡ Some q → LeadsTo (DeviceDoes g.D.BlockDev.state g.D.BlockDev.does) l.config (sums_of (place_in l.verity l.tree l.index) q 0 (zero_block l.verity)) (sums_of (place_in l.verity l.tree l.index) q l.place l.out)
      (served l.fn.backing) (served l.backing);
}

abbrev pub decreases-mend_only-loop-place : goal.decreases-mend_only-loop-place
decreases-mend_only-loop-place g l = l.count - l.place

abbrev pub decreases-mend_only : goal.decreases-mend_only
decreases-mend_only g l = 32 * depth l.config.now (mapped l.tree.now.device.0) + 1

abbrev pub decreases-mend_erased : goal.decreases-mend_erased
decreases-mend_erased g l = 32 * depth l.config.now (mapped l.tree.now.device.0) + 5

abbrev pub decreases-find_losses : goal.decreases-find_losses
decreases-find_losses g l = 32 * depth l.config.now (mapped l.tree.now.device.0) + 4

abbrev pub decreases-judge_other : goal.decreases-judge_other
decreases-judge_other g l = 32 * depth l.config.now (mapped l.tree.now.device.0) + 3

abbrev pub decreases-judge_block : goal.decreases-judge_block
decreases-judge_block g l = 32 * depth l.config.now (mapped l.tree.now.device.0) + 2

abbrev pub decreases-known_digest : goal.decreases-known_digest
decreases-known_digest g l = 32 * depth l.config.now (mapped l.tree.now.device.0) + 1

abbrev pub decreases-digest_beneath : goal.decreases-digest_beneath
decreases-digest_beneath g l = 32 * depth l.config.now (mapped l.tree.now.device.0)

abbrev pub decreases-stored_digest : goal.decreases-stored_digest
decreases-stored_digest g l = 32 * depth l.config.now (mapped l.tree.now.device.0)

abbrev pub decreases-restore : goal.decreases-restore
decreases-restore g l = 32 * depth l.config.now (mapped l.tree.now.device.0) + 2

abbrev pub decreases-decode : goal.decreases-decode
decreases-decode g l = 32 * depth l.config.now (mapped l.tree.now.device.0) + 1

abbrev pub decreases-add_kept : goal.decreases-add_kept
decreases-add_kept g l = 32 * depth l.config.now (mapped l.tree.now.device.0)

abbrev pub decreases-add_columns : goal.decreases-add_columns
decreases-add_columns g l = 32 * depth l.config.now (mapped l.tree.now.device.0)

-- the positions so far were judged
abbrev pub invariant-find_losses-loop-place : goal.invariant-find_losses-loop-place
invariant-find_losses-loop-place g l = record {
  within : l.place ≤ l.count;
  same : l.losses.lost ≡ l.lost;
  named : NamesLeaf (leaves_of l.config (mapped l.tree.device.0)) l.losses.failed;
  found : (q : Parity) → l.verity.parity ≡ Some q → AreFoundUpTo g.D.BlockDev.state (DeviceDoes g.D.BlockDev.state g.D.BlockDev.does) l.config (place_in l.verity l.tree l.lost.index) q l.place l.fn.backing l.backing (record_of l.losses);
  cached : KeepsCache l.config (map g.D.BlockDev.state l.backing.devices.items) l.fn.backing.cache l.backing.cache;
  touches : AsksOnly {A = Unit {0}} (HasNoParity l.config) (leaves_of l.config (mapped l.tree.device.0)) (map g.D.BlockDev.state l.fn.backing.devices.items) (map g.D.BlockDev.state l.backing.devices.items) (Ok tt);
}

abbrev pub decreases-find_losses-loop-place : goal.decreases-find_losses-loop-place
decreases-find_losses-loop-place g l = l.count - l.place

-- the hash blocks so far have their digests
abbrev pub invariant-digest_beneath-loop-height : goal.invariant-digest_beneath-loop-height
invariant-digest_beneath-loop-height g l = record {
  within : (l.last ≤ l.height) × (l.height ≤ levels (tree_of l.verity));
  known : IsDigestBeneath (block_in l.config l.verity l.index) (levels (tree_of l.verity) - l.height) l.digest (map g.D.BlockDev.state l.fn.backing.devices.items) (map g.D.BlockDev.state l.backing.devices.items);
  cached : KeepsCache l.config (map g.D.BlockDev.state l.backing.devices.items) l.fn.backing.cache l.backing.cache;
  touches : AsksOnly {A = Unit {0}} (HasNoParity l.config) (leaves_of l.config (mapped l.tree.device.0)) (map g.D.BlockDev.state l.fn.backing.devices.items) (map g.D.BlockDev.state l.backing.devices.items) (Ok tt);
  given : (j : ℕ) → LeadsTo (DeviceDoes g.D.BlockDev.state g.D.BlockDev.does) l.config (digest_of (place_in l.verity l.tree j) (end_of l.fn.end) 0 l.verity.root) (digest_of (place_in l.verity l.tree j) (end_of l.fn.end) (levels (tree_of l.verity) - l.height) l.digest) (served l.fn.backing) (served l.backing);
}

abbrev pub decreases-digest_beneath-loop-height : goal.decreases-digest_beneath-loop-height
decreases-digest_beneath-loop-height g l = l.height

-- the blocks at the positions so far were added
abbrev pub invariant-decode-loop-place : goal.invariant-decode-loop-place
invariant-decode-loop-place g l = record {
  within : l.place ≤ l.count;
  summed : (q : Parity) → l.verity.parity ≡ Some q → AreSummed (block_in l.config l.verity l.losses.lost.index) q l.losses.places.items l.place l.sums (map g.D.BlockDev.state l.fn.backing.devices.items) (map g.D.BlockDev.state l.backing.devices.items);
  cached : KeepsCache l.config (map g.D.BlockDev.state l.backing.devices.items) l.fn.backing.cache l.backing.cache;
  touches : AsksOnly {A = Unit {0}} (HasNoParity l.config) (leaves_of l.config (mapped l.tree.device.0)) (map g.D.BlockDev.state l.fn.backing.devices.items) (map g.D.BlockDev.state l.backing.devices.items) (Ok tt);
  given : (q : Parity) → l.verity.parity ≡ Some q → LeadsTo (DeviceDoes g.D.BlockDev.state g.D.BlockDev.does) l.config (columns_of (place_in l.verity l.tree l.losses.lost.index) q l.losses.places.items 0 (no_columns l.verity.data_block l.losses.places.items))
      (columns_of (place_in l.verity l.tree l.losses.lost.index) q l.losses.places.items l.place l.sums) (served l.fn.backing) (served l.backing);
}

abbrev pub decreases-decode-loop-place : goal.decreases-decode-loop-place
decreases-decode-loop-place g l = l.count - l.place
