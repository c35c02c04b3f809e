-- What the steps of a read say: of a source, from its first sector on; of a leaf or a device, from sector `first` on; and of blocks.
-- They fill the buffer `out`, as it was before.
use Rattle.std.specs.Prelude.{◌≡◌, ℕ, ◌*◌, ◌/◌, ◌<◌, Bool, false, IsTrue, List, Option, Vec, Result, Ok, Err, is_ok, length, map, take, get_or}
use Rattle.std.specs.Global.{Global}
use Rattle.block_device.specs.Call.{Call}
use Rattle.block_device.specs.Device.{Device}
use Rattle.dm_table.specs.declared.verity.Verity.{Verity}
use Rattle.tree_shape.specs.Shape.{levels}
use Rattle.stack_rules.specs.declared.lower.Lower.{Lower}
use Rattle.stack_rules.specs.declared.lower.Lower.TheVariants.{Leaf}
use Rattle.stack_rules.specs.Records.{Configuration}
use Rattle.stack_rules.specs.Trees.{tree_of}
use Rattle.stack_meaning.specs.declared.fault.IoFault.{IoFault}
use Rattle.stack_meaning.specs.Found.{FoundRecord}
use Rattle.stack_meaning.specs.Leaves.{AreRead}
use Rattle.stack_meaning.specs.Meaning.{Said, said_at}
use Rattle.stack_meaning.specs.Places.{Expected, place_of, run_expected}
use Rattle.stack_meaning.specs.Reading.{Gets, IsPlain, MeetVerity, buffer_answer}
use Rattle.stack_lines.specs.declared.source.Source.{Source}
use Rattle.stack_lines.specs.declared.source.Source.TheVariants.{Below}
use Rattle.stack_lines.specs.declared.tree.Extent.{Extent}
use Rattle.stack_lines.specs.declared.tree.Tree.{Tree}
use Rattle.stack_lines.specs.Budgets.{ReadsAtMost, budget, source_budget}
use Rattle.stack_lines.specs.Caches.{IsLastBlock, KeepsCache}
use Rattle.stack_lines.specs.Sources.{source_said}
use Rattle.stack_lines.specs.Touches.{AsksOnly, leaves_of, source_leaves}
use Rattle.stack_lines.specs.Walks.{block_in, checked_expected, data_expected, way_cost, way_expected, GetsChain, IsWalked}
use Rattle.hash_tree.specs.Chain.{ChainRecord}
use Rattle.verified_cache.specs.Cache.{CachedBlock}
use Rattle.stack_engine.specs.declared.backing.Backing.{Backing}
use Rattle.stack_engine.specs.declared.path.WantedBlock.{WantedBlock}
use Rattle.stack_engine.specs.declared.path.WantedData.{WantedData}
use Rattle.stack_engine.specs.Backings.{BackingRecord, backing_of, leaves_in, served}
use Rattle.stack_engine.specs.Bytes.{GetsBytes}
use Rattle.stack_engine.specs.Healing.{HasNoParity}
use Rattle.stack_engine.specs.Premises.{CanRead}
use Rattle.stack_engine.specs.SectorCalls.{DataPlace, DataRead, ExpectedBlock, LeadsTo, ReadOf, ReadsBy, data_of, last_bytes, one_asked, sectors_of, way_of, whole_data}

-- the buffer can be filled from the source, where those chains were found before
abbrev pub CanFill : {D : Type 0} → (D → Device) → Configuration → Backing D → List FoundRecord → Source → List ℕ → Type 0
CanFill state c backing found source out = CanRead c (leaves_in state backing) backing.cache found source out

-- ---- what any read leaves

-- n sectors: what is said of each, from the first on, the leaves beneath them, and what a read of them costs
pub record SectorRun : Type 1 where
  pub said : ℕ → Said
  pub first : ℕ
  pub count : ℕ
  pub leaves : ℕ → Bool
  pub most : ℕ

-- of a source, from its first sector on
abbrev pub run_of : Configuration → Source → ℕ → SectorRun
run_of c source n = record { said = source_said c source; first = 0; count = n; leaves = source_leaves c source; most = source_budget c source n }

-- of a leaf or a device
abbrev pub run_beneath : Configuration → Lower → ℕ → ℕ → SectorRun
run_beneath c lower first n = record { said = said_at c lower; first = first; count = n; leaves = leaves_of c lower; most = budget c lower first n }

-- what a read of a run can't do: restore a block that can't be read
abbrev pub HealsNone : Configuration → SectorRun → Type 0
HealsNone c run = MeetVerity run.said run.first run.count → HasNoParity c

-- What a read of a run leaves, whatever it answers. It ends at the first device call that fails, unless parity may restore, and keeps
-- hash blocks only that are sound. Without a `verity` line on the way it is plain, the kept hash blocks stay, and nothing is restored.
pub record IsReadStep (c : Configuration) (run : SectorRun) (old new : BackingRecord) (result : Result Unit IoFault) : Type 0 where
  pub cached : KeepsCache c new.leaves old.cache new.cache
  pub plain : IsPlain run.said run.first run.count old.leaves new.leaves result
  pub same : (MeetVerity run.said run.first run.count → ⊥) → new.cache ≡ old.cache
  pub uncounted : (MeetVerity run.said run.first run.count → ⊥) → new.restored ≡ old.restored
  pub touches : AsksOnly (HealsNone c run) run.leaves old.leaves new.leaves result
  pub spent : ReadsAtMost run.most old.leaves new.leaves

abbrev pub StepFrom : {D : Type 0} → (D → Device) → Configuration → Source → List ℕ → Backing D → Backing D → Result Unit IoFault → Type 0
StepFrom state c source out old new result = IsReadStep c (run_of c source (length out / 512)) (backing_of state old) (backing_of state new) result

abbrev pub StepAt : {D : Type 0} → (D → Device) → Configuration → Lower → ℕ → List ℕ → Backing D → Backing D → Result Unit IoFault → Type 0
StepAt state c lower first out old new result = IsReadStep c (run_beneath c lower first (length out / 512)) (backing_of state old) (backing_of state new) result

-- ---- whatever the devices answer

-- the calls on the devices that read it, and the blocks that they restored
abbrev pub ReadsOn : {D : Type 0} → (D → Call → D → Type 0) → Configuration → ReadOf → Backing D → Backing D → Result (List ℕ) IoFault → Type 0
ReadsOn does c what old new answer = ReadsBy does c what (served old) (served new) answer

-- n sectors of a source
abbrev pub GivesFrom : {D : Type 0} → (D → Call → D → Type 0) → Configuration → Source → ℕ → Backing D → Backing D → Result (List ℕ) IoFault → Type 0
GivesFrom does c source n = ReadsOn does c (sectors_of source n)

-- n sectors of a leaf or a device
abbrev pub GivesAt : {D : Type 0} → (D → Call → D → Type 0) → Configuration → Lower → ℕ → ℕ → Backing D → Backing D → Result (List ℕ) IoFault → Type 0
GivesAt does c lower first n = GivesFrom does c (Below lower first) n

-- as many as fill a buffer, which may be none: then no call is made
pub record GivesAny {D : Type 0} (does : D → Call → D → Type 0) (c : Configuration) (from : Lower × ℕ) (out : List ℕ) (old new : Backing D) (answer : Result (List ℕ) IoFault) : Type 0 where
  pub none : length out ≡ 0 → (served new ≡ served old) × IsTrue (is_ok answer)
  pub some : 0 < length out → GivesAt does c from.0 from.1 (length out / 512) old new answer

-- the bytes of a block, or of a chain's data block; or the fault
abbrev pub block_answer : Result (Vec ℕ Global) IoFault → Result (List ℕ) IoFault
block_answer (Ok block) = Ok block.items
block_answer (Err fault) = Err fault

abbrev pub content_answer : Result ChainRecord IoFault → Result (List ℕ) IoFault
content_answer (Ok chain) = Ok chain.content
content_answer (Err fault) = Err fault

-- an extent as a block that has the digest
abbrev pub expected_in : Extent → List ℕ → List ℕ → ExpectedBlock
expected_in extent salt digest = record { extent = extent; salt = salt; digest = digest }

-- all of a block that is wanted
abbrev pub all_of : WantedData → WantedData
all_of wanted = record wanted { part = false }

-- the data block of a place that is wanted, after whatever hash block
abbrev pub GivesData : {D : Type 0} → (D → Call → D → Type 0) → Configuration → DataPlace → WantedData → Backing D → Backing D → Result (List ℕ) IoFault → Type 0
GivesData does c p wanted old new answer = (last : List ℕ) → ReadsOn does c (data_of p 0 wanted.digest last (one_asked wanted.part)) old new answer

-- a part alone is wanted of the data block that is kept, whose bytes are these
pub record IsKeptData (tree : Tree) (wanted : WantedData) (last : Option CachedBlock) (bytes : List ℕ) : Type 0 where
  pub part : IsTrue wanted.part
  pub kept : IsLastBlock last (record { device = tree.device.0; line = tree.line; level = 0; block = wanted.block }) wanted.digest bytes

-- the hash block on the way to a place, which is on the path; or the fault
abbrev pub GivesOnWay : {D : Type 0} → (D → Call → D → Type 0) → Configuration → DataPlace → WantedBlock → List CachedBlock → Backing D → Backing D → Result Unit IoFault → Type 0
GivesOnWay does c p wanted path old new result = (x : CachedBlock) → ReadsOn does c (way_of p wanted.level wanted.digest) old new (buffer_answer result ((get_or path wanted.at x).bytes))

-- The way to a place was walked: with the calls that read what is beneath it, whatever that is, all is read; or it ended by a fault.
abbrev pub WalksTo : {D : Type 0} → (D → Call → D → Type 0) → Configuration → DataPlace → List CachedBlock → Backing D → Backing D → Result (List ℕ) IoFault → Type 0
WalksTo does c p path old new (Ok expected) = (next : DataRead) → LeadsTo does c (whole_data p next) (data_of p 0 expected (last_bytes (take (levels (tree_of p.verity)) path)) next) (served old) (served new)
WalksTo does c p path old new (Err fault) = (next : DataRead) → ReadsOn does c (whole_data p next) old new (Err fault)

-- ---- of a leaf or a device

-- its bytes, or a fault, of a read whose chains were dropped
abbrev pub GotAt : {D : Type 0} → (D → Device) → Configuration → Lower → ℕ → List ℕ → Backing D → Backing D → Result (List ℕ) IoFault → Type 0
GotAt state c lower first out old new answer = GetsBytes c lower first (length out / 512) (leaves_in state old) (leaves_in state new) answer

-- n sectors of a leaf were read by one call, with whatever chains
pub record ReadsLeaf (c : Configuration) (leaf first n : ℕ) (old new : List Device) (result : Result Unit IoFault) (bytes : List ℕ) : Type 0 where
  pub got : (chains : List FoundRecord) → Gets (run_expected (place_of c (Leaf leaf)) chains first n) old new (buffer_answer result bytes)
  pub plain : IsPlain (said_at c (Leaf leaf)) first n old new result
  pub touches : AsksOnly (Unit {0}) (leaves_of c (Leaf leaf)) old new result

-- ---- of blocks

-- what is wanted, or a fault
abbrev pub GetsBy : {D A : Type 0} → (D → Device) → Expected A → Backing D → Backing D → Result A IoFault → Type 0
GetsBy state wanted old new result = Gets wanted (leaves_in state old) (leaves_in state new) result

-- the sectors of an extent as one block that has the digest
abbrev pub extent_wanted : Configuration → Extent → List ℕ → List ℕ → Expected (Vec ℕ Global)
extent_wanted c extent salt digest = checked_expected (λ block. block.items) (place_of c extent.lower) extent.first extent.sectors salt digest

-- a data block of a line of which that digest is expected
abbrev pub data_wanted : Configuration → Verity → ℕ → List ℕ → Expected (Vec ℕ Global)
data_wanted c v index digest = data_expected (λ block. block.items) (block_in c v index) digest

-- a hash block on the way to a data block
abbrev pub hash_wanted : Configuration → Verity → WantedBlock → Expected (Vec ℕ Global)
hash_wanted c v wanted = way_expected (λ block. block.items) (block_in c v wanted.block) wanted.level wanted.digest

abbrev pub way_wanted : Configuration → Verity → WantedBlock → Expected (List ℕ)
way_wanted c v wanted = way_expected (λ block. block) (block_in c v wanted.block) wanted.level wanted.digest

-- the chain of a data block, or a fault
abbrev pub ChainBy : {D : Type 0} → (D → Device) → Configuration → Verity → ℕ → Backing D → Backing D → Result ChainRecord IoFault → Type 0
ChainBy state c v index old new result = GetsChain (block_in c v index) (leaves_in state old) (leaves_in state new) result

-- the path shows the digest that is expected of a data block
abbrev pub WalkedBy : {D : Type 0} → (D → Device) → Configuration → Verity → ℕ → List CachedBlock → Backing D → Backing D → List ℕ → Type 0
WalkedBy state c v index path old new expected = IsWalked (block_in c v index) 0 expected (map (λ b. b.bytes) (take (levels (tree_of v)) path)) (leaves_in state old) (leaves_in state new)

-- at most all hash blocks on the way were read, and their spares
abbrev pub ReadsWay : {D : Type 0} → (D → Device) → Configuration → Verity → ℕ → Backing D → Backing D → Type 0
ReadsWay state c v index old new = AreRead (leaves_in state old) (levels (tree_of v) * way_cost (block_in c v index)) (leaves_in state new)
