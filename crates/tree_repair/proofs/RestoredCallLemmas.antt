-- The calls on the data device and the hash device of restoring a block by parity: reads.
use Rattle.std.proofs.Common.{◌≡◌, ◌*◌, ◌+◌, ◌-◌, ◌/◌, ◌++◌, ◌∷◌, [], ℕ, Bool, true, false, List, Result, Ok, Err, inl, inr, refl}
use Rattle.std.specs.Prelude.{if◌then◌else◌, nat_lt}
use Rattle.block_device.specs.Call.{Call, Read}
use Rattle.fec_area.specs.declared.layout.Layout.{Layout}
use Rattle.fec_area.specs.declared.restoring.LostBlock.{LostBlock}
use Rattle.fec_area.specs.declared.restoring.RestoreFault.{RestoreFault}
use Rattle.fec_area.specs.declared.restoring.RestoreFault.TheVariants.{TooManyLost, TooSmall, Device as DeviceFailed, NoMemory}
use Rattle.fec_area.specs.Correcting.{ReadsRound}
use Rattle.fec_area.specs.Given.{GivenBlock, Gives, data_read, data_reads, hash_read, hash_reads, round_indices}
use Rattle.fec_area.specs.GivenRestored.{GivesLost, RestoresOver, StopsRestoring, kept_indices}
use Rattle.fec_area.specs.Restoring.{IsRestoredBy}
use Rattle.tree_repair.specs.RepairCalls.{AreRepairCalls, IsNoWrite, MakesRepairCalls}
use Rattle.tree_repair.proofs.RepairCallLemmas.{are-more}

-- one read on one of two devices
read-if : (here : Bool) (first : ℕ) (bytes : List ℕ) (ok : Bool) → AreRepairCalls IsNoWrite true (if here then Read first bytes ok ∷ [] else [])
read-if true first bytes ok = refl
read-if false first bytes ok = refl

read-unless : (here : Bool) (first : ℕ) (bytes : List ℕ) (ok : Bool) → AreRepairCalls IsNoWrite true (if here then [] else Read first bytes ok ∷ [])
read-unless true first bytes ok = refl
read-unless false first bytes ok = refl

module _ (l : Layout) where
  data-one : (b : GivenBlock) (ok : Bool) → AreRepairCalls IsNoWrite true (data_read l b ok)
  data-one b ok = read-if (nat_lt b.index l.data_blocks) (b.index * (l.block / 512)) b.bytes ok

  hash-one : (b : GivenBlock) (ok : Bool) → AreRepairCalls IsNoWrite true (hash_read l b ok)
  hash-one b ok = read-unless (nat_lt b.index l.data_blocks) ((l.hash_first + (b.index - l.data_blocks)) * (l.block / 512)) b.bytes ok

  data-all : (blocks : List GivenBlock) → AreRepairCalls IsNoWrite true (data_reads l blocks)
  data-all [] = refl
  data-all (b ∷ more) = are-more IsNoWrite (data_read l b true) (data_reads l more) true (data-one b true) (data-all more)

  hash-all : (blocks : List GivenBlock) → AreRepairCalls IsNoWrite true (hash_reads l blocks)
  hash-all [] = refl
  hash-all (b ∷ more) = are-more IsNoWrite (hash_read l b true) (hash_reads l more) true (hash-one b true) (hash-all more)

module _ {D H : Type 0} (asks : D → Call → D → Type 0) (does : H → Call → H → Type 0) (d d' : D) (h h' : H) where
  -- both devices were only read
  abbrev pub AreRead : Type 0
  AreRead = MakesRepairCalls asks IsNoWrite true d d' × MakesRepairCalls does IsNoWrite true h h'

  read-none : d' ≡ d → h' ≡ h → AreRead
  read-none same_data same_hash = (record { calls = []; made = same_data; valid = refl }, record { calls = []; made = same_hash; valid = refl })

  read-given : (l : Layout) (indices : List ℕ) (F : List (List ℕ) → List (List ℕ) → Type 0) (ok : Bool) → Gives asks does l indices F d h d' h' ok → AreRead
  read-given l indices F true given = (
    record { calls = data_reads l given.blocks; made = given.of_data; valid = data-all l given.blocks },
    record { calls = hash_reads l given.blocks; made = given.of_hash; valid = hash-all l given.blocks },
  )
  read-given l indices F false given = (
    record {
      calls = data_reads l given.blocks ++ data_read l given.last false;
      made = given.of_data;
      valid = are-more IsNoWrite (data_reads l given.blocks) (data_read l given.last false) true (data-all l given.blocks) (data-one l given.last false);
    },
    record {
      calls = hash_reads l given.blocks ++ hash_read l given.last false;
      made = given.of_hash;
      valid = are-more IsNoWrite (hash_reads l given.blocks) (hash_read l given.last false) true (hash-all l given.blocks) (hash-one l given.last false);
    },
  )

  -- all blocks of a round and one of them again
  pub read-corrected : (l : Layout) (round index : ℕ) (ok : Bool) → ReadsRound asks does l round index d h d' h' ok → AreRead
  read-corrected l round index true given = read-given l (round_indices l round ++ index ∷ []) (λ x y. Unit {0}) true given
  read-corrected l round index false (inl same) = read-none same.0 same.1
  read-corrected l round index false (inr first) = read-given l (round_indices l round ++ index ∷ []) (λ x y. Unit {0}) false first

  module _ {P : Type 0} (reads : P → Call → P → Type 0) (sought : LostBlock) (bytes : List ℕ) (p p' : P) where
    read-lost : (ok : Bool) → GivesLost asks does reads sought bytes d h p d' h' p' ok → AreRead
    read-lost ok lost = read-given sought.layout.now (kept_indices sought) (λ x y. IsRestoredBy sought.layout.now x y lost.parity sought.lost.now sought.index bytes) ok lost.blocks

    read-stopped : (fault : RestoreFault) → StopsRestoring asks does reads sought bytes d h p d' h' p' fault → AreRead
    read-stopped (TooManyLost count) stopped = read-none stopped.0 stopped.1
    read-stopped (TooSmall needed) stopped = read-none stopped.0 stopped.1
    read-stopped NoMemory stopped = read-none stopped.0 stopped.1
    read-stopped DeviceFailed (inl none) = read-none none.2 none.3
    read-stopped DeviceFailed (inr lost) = read-lost false lost

    pub read-restored : {A : Type 0} (r : Result A RestoreFault) → RestoresOver asks does reads sought bytes d h p d' h' p' r → AreRead
    read-restored (Ok done) made = read-lost true made
    read-restored (Err fault) made = read-stopped fault made
