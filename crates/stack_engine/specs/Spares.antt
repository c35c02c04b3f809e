-- What the steps of a read of a block's spare say: of a position of its round, of the round's parity, and of the whole.
use Rattle.std.specs.Prelude.{◌≡◌, ◌⊎◌, ℕ, suc, ◌+◌, ◌-◌, ◌*◌, ◌/◌, ◌%◌, ◌==◌, ◌<◌, ◌≤◌, Bool, IsTrue, true, false, if◌then◌else◌, All, EachIndex, List, ◌∷◌, [], length, slice_index, replicate, Vec, Option, None, Some, IfSome, Result, Ok, Err}
use Rattle.std.specs.Global.{Global}
use Rattle.block_device.specs.Call.{Call}
use Rattle.block_device.specs.Device.{Device}
use Rattle.dm_table.specs.declared.parity.Parity.{Parity}
use Rattle.dm_table.specs.declared.verity.Verity.{Verity}
use Rattle.stack_rules.specs.Names.{size}
use Rattle.stack_rules.specs.Records.{Configuration}
use Rattle.stack_rules.specs.TargetRules.{greatest}
use Rattle.stack_rules.specs.Trees.{block_sectors, path_blocks, round_count, tree_of}
use Rattle.tree_shape.specs.Digests.{digest}
use Rattle.tree_shape.specs.Shape.{levels}
use Rattle.stack_meaning.specs.declared.fault.IoFault.{IoFault}
use Rattle.stack_meaning.specs.declared.fault.IoFault.TheVariants as io
use Rattle.stack_meaning.specs.Blocks.{hash_sectors}
use Rattle.stack_meaning.specs.Erasures.{digest_beneath, erasure_spare, is_lost, kept_block, known_digest}
use Rattle.stack_meaning.specs.Leaves.{AreRead, AreSteady, LeafFailed, steady_images}
use Rattle.stack_meaning.specs.Reading.{Ends}
use Rattle.stack_meaning.specs.Outcomes.{Images, Outcome, changed_outcome, mismatch, then_outcome}
use Rattle.stack_meaning.specs.Places.{Expected}
use Rattle.stack_meaning.specs.Spares.{BlockSources, added_block, covered_block, round_block, round_parity, spare_block, with_parity}
use Rattle.stack_lines.specs.declared.tree.Tree.{Tree}
use Rattle.stack_lines.specs.Walks.{AgreesAt, DataBlock, IsBlockOfDigest, IsTreeOf, block_in, block_leaves, sources_of, spare_expected}
use Rattle.stack_engine.specs.declared.backing.Backing.{Backing}
use Rattle.stack_engine.specs.declared.rows.JudgedBlock.{JudgedBlock}
use Rattle.stack_engine.specs.declared.spare.LostBlock.{LostBlock}
use Rattle.stack_engine.specs.declared.spare.Stored.{Stored}
use Rattle.stack_engine.specs.declared.losses.Judged.{Judged}
use Rattle.stack_engine.specs.declared.losses.Judged.TheVariants as is
use Rattle.stack_engine.specs.Erasures.{LossRecord, added_columns, added_parity, decoded_columns, first_whole, noted, own_loss}
use Rattle.stack_engine.specs.Healing.{healed_result}
use Rattle.stack_engine.specs.Backings.{leaves_in, served}
use Rattle.stack_engine.specs.ReadSteps.{GetsBy, ReadsOn, block_answer, data_wanted}
use Rattle.stack_engine.specs.Restored.{Served, after_spare}
use Rattle.stack_engine.specs.SectorCalls.{DataPlace, LeadsTo, ReadsBy, block_at, columns_of, data_of, judged_of, one_block, other_number, parity_first, place_in, spare_of, sums_of}

-- the parity of the round of a covered block is stored there, inside its device
pub record IsStoredAt (c : Configuration) (p : DataPlace) (q : Parity) (at : Stored) : Type 0 where
  pub on : p.on_parity ≡ Some at.lower
  pub first : at.first ≡ parity_first p q
  pub sectors : at.sectors ≡ block_sectors p.verity * q.roots
  pub inside : at.first + at.sectors ≤ size c at.lower

-- the most leaf sectors that are read for a sector of one of the three devices
abbrev pub sector_cost : DataBlock → ℕ
sector_cost b = greatest (b.on_data.cost ∷ b.on_hash.cost ∷ b.on_parity.cost ∷ [])

-- sums, to which the block at position i of the round was added, unless it is the lost one
abbrev pub other_wanted : DataBlock → Parity → ℕ → List ℕ → Expected (List ℕ)
other_wanted b q i sums = record {
  is = λ bytes. Unit {0};
  faults = λ fault. Unit {0};
  bytes_of = λ bytes. bytes;
  means = λ images. then_outcome (round_block b.verity q (sources_of b images) (b.index % round_count q) (b.index / round_count q) i) (λ block. Ok (added_block sums block));
  cost = if i == b.index / round_count q then 0 else block_sectors b.verity * sector_cost b;
  leaves = block_leaves b;
  agrees = AgreesAt b;
}

-- sums, to which the parity of the round was added
abbrev pub stored_wanted : DataBlock → Parity → List ℕ → Expected (List ℕ)
stored_wanted b q sums = record {
  is = λ bytes. Unit {0};
  faults = λ fault. Unit {0};
  bytes_of = λ bytes. bytes;
  means = λ images. then_outcome (round_parity b.verity q (sources_of b images) (b.index % round_count q)) (λ parity. Ok (with_parity q.roots sums parity));
  cost = block_sectors b.verity * q.roots * sector_cost b;
  leaves = block_leaves b;
  agrees = AgreesAt b;
}

-- the spare of a covered block of a line
abbrev pub spare_wanted : Configuration → Verity → LostBlock → Expected (List ℕ)
spare_wanted c v lost = spare_expected (λ bytes. bytes) (block_in c v lost.index) lost.digest

-- ---- as the only lost block of its round, or by erasures

abbrev pub only_outcome : Verity → BlockSources → Option Parity → ℕ → List ℕ → Outcome
only_outcome v below None j expected = Err mismatch
only_outcome v below (Some p) j expected = spare_block v p below j expected

-- whatever a line refuses, the attempt is one of another digest
abbrev pub vain_outcome : Outcome → Outcome
vain_outcome (Ok block) = Ok block
vain_outcome (Err fault) = Err mismatch

abbrev pub erased_outcome : Verity → BlockSources → Option Parity → ℕ → List ℕ → Outcome
erased_outcome v below None j expected = Err mismatch
erased_outcome v below (Some p) j expected = vain_outcome (erasure_spare v p below j expected)

-- what a block costs
abbrev pub block_cost : DataBlock → ℕ
block_cost b = block_sectors b.verity * sector_cost b

-- so many blocks cost at most this; without parity none is read
abbrev pub blocks_cost : DataBlock → Option Parity → ℕ → ℕ
blocks_cost b None n = 0
blocks_cost b (Some p) n = n * block_cost b

-- what is read of a block, and means that over the leaves' images
abbrev pub block_wanted : DataBlock → (List ℕ → Type 0) → ℕ → (Images → Outcome) → Expected (List ℕ)
block_wanted b is cost means = record {
  is = is;
  faults = λ fault. Unit {0};
  bytes_of = λ bytes. bytes;
  means = means;
  cost = cost;
  leaves = block_leaves b;
  agrees = AgreesAt b;
}

-- the block by the other blocks of its round and their parity
abbrev pub only_expected : DataBlock → List ℕ → Expected (List ℕ)
only_expected b expected =
    block_wanted b (IsBlockOfDigest (block_sectors b.verity) b.verity.salt expected) (blocks_cost b b.verity.parity 254) (λ images. only_outcome b.verity (sources_of b images) b.verity.parity b.index expected)

-- the block by the lost blocks of its round as erasures, for which the paths to the others are read too
abbrev pub erased_expected : DataBlock → List ℕ → Expected (List ℕ)
erased_expected b expected =
    block_wanted b (IsBlockOfDigest (block_sectors b.verity) b.verity.salt expected) (blocks_cost b b.verity.parity (254 * (path_blocks b.verity + 1)))
    (λ images. erased_outcome b.verity (sources_of b images) b.verity.parity b.index expected)

abbrev pub only_wanted : Configuration → Verity → LostBlock → Expected (List ℕ)
only_wanted c v lost = only_expected (block_in c v lost.index) lost.digest

abbrev pub erased_wanted : Configuration → Verity → LostBlock → Expected (List ℕ)
erased_wanted c v lost = erased_expected (block_in c v lost.index) lost.digest

-- the digest of covered block k as it is stored
abbrev pub stored_digest_wanted : Configuration → Verity → ℕ → Expected (List ℕ)
stored_digest_wanted c v k = let b = block_in c v k in block_wanted b (λ bytes. Unit {0}) (block_cost b) (λ images. changed_outcome (digest v.salt) (covered_block v (sources_of b images) k))

-- the digest beneath n hash blocks on the path to data block i, and the known one of covered block k
abbrev pub digest_wanted : Configuration → Verity → ℕ → ℕ → Expected (List ℕ)
digest_wanted c v i n = let b = block_in c v i in block_wanted b (λ bytes. Unit {0}) (n * (hash_sectors v * b.on_hash.cost)) (λ images. digest_beneath v (sources_of b images) i n)

abbrev pub known_digest_wanted : Configuration → Verity → ℕ → Expected (List ℕ)
known_digest_wanted c v k = let b = block_in c v k in block_wanted b (λ bytes. Unit {0}) (levels (tree_of v) * (hash_sectors v * b.on_hash.cost)) (λ images. known_digest v (sources_of b images) k)

-- the digest of covered block k that was read, and the calls
abbrev pub DigestBy : {D : Type 0} → (D → Call → D → Type 0) → Configuration → DataPlace → ℕ → Backing D → Backing D → Result (List ℕ) IoFault → Type 0
DigestBy does c p k old new (Ok made) = (block : List ℕ) × (made ≡ digest p.verity.salt block) × ReadsOn does c (block_at p k) old new (Ok block)
DigestBy does c p k old new (Err fault) = ReadsOn does c (block_at p k) old new (Err fault)

-- ---- judging

-- the leaves beneath a line are steady, and agree with what parity restores on them
pub record IsSure (b : DataBlock) (leaves : List Device) : Type 0 where
  pub steady : AreSteady (block_leaves b) leaves
  pub agrees : AgreesAt b (steady_images leaves)

-- the leaf that failed
abbrev pub failed_of : Judged → Option ℕ
failed_of is.Kept = None
failed_of is.Lost = None
failed_of (is.Unread leaf digest) = Some leaf

-- covered block k is so; if its leaf failed, that is its known digest
abbrev pub IsJudgedAs : Verity → BlockSources → ℕ → Judged → Type 0
IsJudgedAs v from k is.Kept = is_lost v from k ≡ false
IsJudgedAs v from k is.Lost = is_lost v from k ≡ true
IsJudgedAs v from k (is.Unread leaf digest) = known_digest v from k ≡ Ok digest

-- what it costs to judge a block
abbrev pub judge_cost : DataBlock → ℕ
judge_cost b = path_blocks b.verity * block_cost b

-- the leaf that is named failed
abbrev pub HasFailedLeaf : Option ℕ → List Device → List Device → Type 0
HasFailedLeaf failed old new = IfSome failed (λ leaf. (1 ≤ leaf) × LeafFailed (leaf - 1) old new)

-- it is one of these
abbrev pub NamesLeaf : (ℕ → Bool) → Option ℕ → Type 0
NamesLeaf these failed = IfSome failed (λ leaf. IsTrue (these (leaf - 1)))

-- covered block k was judged, over steady leaves as their images say
pub record IsJudged (c : Configuration) (v : Verity) (k : ℕ) (old new : List Device) (judged : Judged) : Type 0 where
  pub moved : AreRead old (judge_cost (block_in c v k)) new
  pub failed : HasFailedLeaf (failed_of judged) old new
  pub exact : IsSure (block_in c v k) old → IsJudgedAs v (sources_of (block_in c v k) (steady_images old)) k judged

-- the judging ended in that fault, which isn't one of a line
pub record IsUnjudged (b : DataBlock) (most : ℕ) (old new : List Device) (fault : IoFault) : Type 0 where
  pub moved : AreRead old most new
  pub may : Ends {A = Unit {0}} (λ x. ⊥) (λ other. ⊥) old new (Err fault)

-- the block at position i is judged next: that is covered block k, and no more blocks are lost so far than can be restored
pub record IsNext (q : Parity) (j i : ℕ) (l : LossRecord) (k : ℕ) : Type 0 where
  pub few : length l.places ≤ q.roots
  pub low : i < 255 - q.roots
  pub at : other_number q j i ≡ Some k

-- the calls that judge it lead to the positions after it; or to that fault
abbrev pub JudgesTo : {D : Type 0} → (D → Call → D → Type 0) → Configuration → DataPlace → Parity → ℕ → LossRecord → List ℕ → Served D → Served D → Result Judged IoFault → Type 0
JudgesTo does c p q i l expected old new (Ok judged) = LeadsTo does c (judged_of p q i l expected) (judged_of p q (suc i) (noted l i judged) expected) old new
JudgesTo does c p q i l expected old new (Err fault) = ReadsBy does c (judged_of p q i l expected) old new (Err fault)

-- whichever round it is judged for
abbrev pub JudgesBlock : {D : Type 0} → (D → Call → D → Type 0) → Configuration → Verity → Tree → ℕ → Backing D → Backing D → Result Judged IoFault → Type 0
JudgesBlock does c v tree k old new result =
    (j : ℕ) (q : Parity) (i : ℕ) (l : LossRecord) (expected : List ℕ) → IsNext q j i l k → JudgesTo does c (place_in v tree j) q i l expected (served old) (served new) result

-- The first m positions of the round of covered block j were judged one after another, and noted: each other block is so.
pub data AreNoted (q : Parity) (j : ℕ) (Is : ℕ → Judged → Type 0) : ℕ → LossRecord → Type 0 where
  own_noted : AreNoted q j Is 0 (own_loss (j / round_count q))
  none_noted : {m : ℕ} {l : LossRecord} → AreNoted q j Is m l → other_number q j m ≡ None → AreNoted q j Is (suc m) l
  one_noted : {m k : ℕ} {l : LossRecord} {judged : Judged} → AreNoted q j Is m l → other_number q j m ≡ Some k → Is k judged → AreNoted q j Is (suc m) (noted l m judged)

-- over steady leaves as their images say
pub record AreJudged (b : DataBlock) (q : Parity) (m : ℕ) (old new : List Device) (l : LossRecord) : Type 0 where
  pub moved : AreRead old (m * judge_cost b) new
  pub failed : HasFailedLeaf l.failed old new
  pub noted : AreNoted q b.index (λ k judged. IsSure b old → IsJudgedAs b.verity (sources_of b (steady_images old)) k judged) m l

-- so were the first m positions of the round of a block, with the calls
pub record AreFoundUpTo {D : Type 0} (state : D → Device) (does : D → Call → D → Type 0) (c : Configuration) (p : DataPlace) (q : Parity) (m : ℕ) (old new : Backing D) (l : LossRecord) : Type 0 where
  pub judged : AreJudged (block_in c p.verity p.index) q m (leaves_in state old) (leaves_in state new) l
  pub given : (expected : List ℕ) → LeadsTo does c (judged_of p q 0 (own_loss (p.index / round_count q)) expected) (judged_of p q m l expected) (served old) (served new)

-- all of them; or as many as show that more blocks are lost than a codeword has bytes of parity
pub record AreFound {D : Type 0} (state : D → Device) (does : D → Call → D → Type 0) (c : Configuration) (p : DataPlace) (q : Parity) (old new : Backing D) (l : LossRecord) : Type 0 where
  pub count : ℕ
  pub found : AreFoundUpTo state does c p q count old new l
  pub most : count ≤ 255 - q.roots
  pub all : (count ≡ 255 - q.roots) ⊎ (q.roots < length l.places)

-- or the judging ended in that fault
pub record AreUnfound {D : Type 0} (state : D → Device) (does : D → Call → D → Type 0) (c : Configuration) (p : DataPlace) (q : Parity) (old new : Backing D) (fault : IoFault) : Type 0 where
  pub judged : IsUnjudged (block_in c p.verity p.index) (254 * judge_cost (block_in c p.verity p.index)) (leaves_in state old) (leaves_in state new) fault
  pub given : (expected : List ℕ) → ReadsOn does c (judged_of p q 0 (own_loss (p.index / round_count q)) expected) old new (Err fault)

-- after the positions before i, the block at position i was judged, or the judging ended in a fault
abbrev pub FindsNext : {D : Type 0} → (D → Device) → (D → Call → D → Type 0) → Configuration → DataPlace → Parity → ℕ → LossRecord → LossRecord → Backing D → Backing D → Result Unit IoFault → Type 0
FindsNext {D = D} state does c p q i before after old new (Ok x) = (first : Backing D) → AreFoundUpTo state does c p q i first old before → AreFoundUpTo state does c p q (suc i) first new after
FindsNext {D = D} state does c p q i before after old new (Err fault) = (first : Backing D) → AreFoundUpTo state does c p q i first old before → AreUnfound state does c p q first new fault

-- ---- by the lost blocks

-- of the round of covered block j of a line: itself first, and others; those whose leaf failed are some of them
pub record AreLossesOf (v : Verity) (j : ℕ) (l : LossRecord) : Type 0 where
  pub some : 0 < length l.places
  pub own : (q : Parity) → v.parity ≡ Some q → slice_index l.places 0 ≡ j / round_count q
  pub inside : (q : Parity) → v.parity ≡ Some q → EachIndex l.places (λ k. slice_index l.places k < 255 - q.roots)
  pub unread : All (λ one. one.column < length l.places) l.unread

-- sums, to which the block at position i was added, unless it is lost
abbrev pub kept_wanted : DataBlock → Parity → List ℕ → ℕ → List ℕ → Expected (List ℕ)
kept_wanted b q places i sums =
    block_wanted b (λ bytes. Unit {0}) (block_cost b)
    (λ images. then_outcome (kept_block b.verity q (sources_of b images) (b.index % round_count q) places i) (λ block. Ok (added_columns b.verity.data_block places i block sums)))

-- sums, to which the parity was added
abbrev pub columns_wanted : DataBlock → Parity → List ℕ → List ℕ → Expected (List ℕ)
columns_wanted b q places sums =
    block_wanted b (λ bytes. Unit {0}) (q.roots * block_cost b)
    (λ images. then_outcome (round_parity b.verity q (sources_of b images) (b.index % round_count q)) (λ parity. Ok (added_parity places q.roots b.verity.data_block parity sums)))

-- the sums of the lost blocks
abbrev pub decoded_wanted : DataBlock → Parity → List ℕ → Expected (List ℕ)
decoded_wanted b q places = block_wanted b (λ bytes. Unit {0}) (255 * block_cost b) (λ images. decoded_columns b.verity q (sources_of b images) (b.index % round_count q) places)

-- the first of them, if they have their digests
abbrev pub restored_wanted : DataBlock → Parity → LossRecord → List ℕ → Expected (List ℕ)
restored_wanted b q l expected =
    block_wanted b (IsBlockOfDigest (block_sectors b.verity) b.verity.salt expected) (255 * block_cost b)
    (λ images. then_outcome (decoded_columns b.verity q (sources_of b images) (b.index % round_count q) l.places) (first_whole b.verity l expected))

-- the block at position i was added to sums, or can't be read: the calls
abbrev pub AddsColumns : {D : Type 0} → (D → Call → D → Type 0) → Configuration → DataPlace → Parity → List ℕ → ℕ → List ℕ → Backing D → Backing D → Result (List ℕ) IoFault → Type 0
AddsColumns does c p q places i sums old new (Ok added) = LeadsTo does c (columns_of p q places i sums) (columns_of p q places (suc i) added) (served old) (served new)
AddsColumns does c p q places i sums old new (Err fault) = ReadsOn does c (columns_of p q places i sums) old new (Err fault)

-- the line has parity that covers a block of that number
pub record IsCoveredBy (c : Configuration) (v : Verity) (tree : Tree) (k : ℕ) : Type 0 where
  pub lies : IsTreeOf c v tree
  pub parity : Parity
  pub has : v.parity ≡ Some parity
  pub inside : k < parity.blocks

-- the block at position i was added to sums, or can't be read: the calls
abbrev pub AddsTo : {D : Type 0} → (D → Call → D → Type 0) → Configuration → DataPlace → Parity → ℕ → List ℕ → Backing D → Backing D → Result (List ℕ) IoFault → Type 0
AddsTo does c p q i sums old new (Ok added) = LeadsTo does c (sums_of p q i sums) (sums_of p q (suc i) added) (served old) (served new)
AddsTo does c p q i sums old new (Err fault) = ReadsOn does c (sums_of p q i sums) old new (Err fault)

-- A block whose own read ended in that fault is healed: its spare, which is counted, and the calls that read it; or the fault.
pub record HealsBy {D : Type 0} (state : D → Device) (does : D → Call → D → Type 0) (c : Configuration) (p : DataPlace) (lost : LostBlock) (fault : IoFault) (old new : Backing D) (result : Result (Vec ℕ Global) IoFault) : Type 0 where
  pub spare : Result (Vec ℕ Global) IoFault
  pub is : result ≡ healed_result fault spare
  pub got : GetsBy state (spare_expected (λ block. block.items) (block_in c p.verity lost.index) lost.digest) old new spare
  pub read : Served D
  pub counted : served new ≡ after_spare (block_answer spare) read
  pub given : ReadsBy does c (spare_of p lost.digest) (served old) read (block_answer spare)

-- ---- a data block that was read together with others

-- it is ignored, and is zeros; or it has the digest, and stays as it was
pub record IsAnswered (judged : JudgedBlock) (block : List ℕ) (answer : Result (List ℕ) IoFault) : Type 0 where
  pub together : judged.alone ≡ false
  pub zeros : judged.ignored ≡ true → answer ≡ Ok (replicate (length block) 0)
  pub same : judged.ignored ≡ false → (judged.made ≡ judged.lost.digest) × (answer ≡ Ok block)

-- it has another one: its spare, which is counted, and the calls that read it; or the fault
pub record HealsRead {D : Type 0} (state : D → Device) (does : D → Call → D → Type 0) (c : Configuration) (p : DataPlace) (judged : JudgedBlock) (old new : Backing D) (answer : Result (List ℕ) IoFault) : Type 0 where
  pub together : judged.alone ≡ false
  pub used : judged.ignored ≡ false
  pub differs : judged.made ≡ judged.lost.digest → ⊥
  pub spare : Result (List ℕ) IoFault
  pub is : answer ≡ healed_result (io.Stack mismatch) spare
  pub got : GetsBy state (spare_wanted c p.verity judged.lost) old new spare
  pub read : Served D
  pub counted : served new ≡ after_spare spare read
  pub given : ReadsBy does c (spare_of p judged.lost.digest) (served old) read spare

-- they couldn't be read: it, read alone, and the calls that read it
pub record ReadsAlone {D : Type 0} (state : D → Device) (does : D → Call → D → Type 0) (c : Configuration) (p : DataPlace) (judged : JudgedBlock) (old new : Backing D) (answer : Result (List ℕ) IoFault) : Type 0 where
  pub alone : judged.alone ≡ true
  pub own : Result (Vec ℕ Global) IoFault
  pub is : answer ≡ block_answer own
  pub got : GetsBy state (data_wanted c p.verity judged.lost.index judged.lost.digest) old new own
  pub given : (last : List ℕ) → ReadsOn does c (data_of p 0 judged.lost.digest last one_block) old new (block_answer own)

abbrev pub SettlesBy : {D : Type 0} → (D → Device) → (D → Call → D → Type 0) → Configuration → DataPlace → JudgedBlock → List ℕ → Backing D → Backing D → Result (List ℕ) IoFault → Type 0
SettlesBy state does c p judged block old new answer = ((new ≡ old) × IsAnswered judged block answer) ⊎ (HealsRead state does c p judged old new answer ⊎ ReadsAlone state does c p judged old new answer)
