-- The calls of reading a data block and the hash blocks on its path, and what they gave, whatever the devices return. The hash blocks
-- are read first, from the top level down, and nothing is read after a call that failed.
use Rattle.std.specs.Prelude.{◌≡◌, ◌⊎◌, ℕ, ◌+◌, ◌-◌, ◌*◌, ◌/◌, ◌<◌, Bool, true, false, List, Vec, [], ◌∷◌, ◌++◌, length, map, Result, Ok, Err}
use Rattle.std.specs.Global.{Global}
use Rattle.block_device.specs.Call.{Call, Calls, Read}
use Rattle.tree_shape.specs.Shape.{ShapeRecord, ancestor, levels, position}
use Rattle.hash_tree.specs.Chain.{ChainRecord}
use Rattle.verity_format.specs.declared.chains.ChainFault.{ChainFault}
use Rattle.verity_format.specs.declared.chains.ChainFault.TheVariants.{Device as DeviceFailed, NoMemory}

-- the read of the hash block of level l above data block i
abbrev pub path_read : ShapeRecord → ℕ → ℕ → List ℕ → Bool → Call
path_read shape i l bytes ok = Read (position shape l (ancestor shape (l + 1) i) * (shape.hash_block / 512)) bytes ok

-- the successful reads of those from level n - 1 down that gave these blocks
abbrev pub path_reads : ShapeRecord → ℕ → ℕ → List (List ℕ) → List Call
path_reads shape i n [] = []
path_reads shape i n (block ∷ more) = path_read shape i (n - 1) block true ∷ path_reads shape i (n - 1) more

-- all hash blocks on the path were read, each once
abbrev pub GivesPath : {H : Type 0} → (H → Call → H → Type 0) → ShapeRecord → ℕ → H → List (List ℕ) → H → Type 0
GivesPath does shape i old path new = Calls does old (path_reads shape i (levels shape) path) new

-- the first of them were read, and the read of the next one failed
pub record GivesPathPart {H : Type 0} (does : H → Call → H → Type 0) (shape : ShapeRecord) (i : ℕ) (old new : H) : Type 0 where
  pub path : List (List ℕ)
  pub last : List ℕ
  pub few : length path < levels shape
  pub made : Calls does old (path_reads shape i (levels shape) path ++ path_read shape i (levels shape - length path - 1) last false ∷ []) new

abbrev pub CallsPath : {H : Type 0} → (H → Call → H → Type 0) → ShapeRecord → ℕ → H → List (Vec ℕ Global) → Bool → H → Type 0
CallsPath does shape i old path true new = GivesPath does shape i old (map (λ b. b.items) path) new
CallsPath does shape i old path false new = GivesPathPart does shape i old new

-- the blocks of the chain are those that the reads gave
pub record GivesChain {D H : Type 0} (asks : D → Call → D → Type 0) (does : H → Call → H → Type 0) (shape : ShapeRecord) (i : ℕ) (d : D) (h : H) (d' : D) (h' : H) (chain : ChainRecord) : Type 0 where
  pub hash : GivesPath does shape i h chain.path h'
  pub made : asks d (Read (i * (shape.data_block / 512)) chain.content true) d'

-- the path was read, and the read of the data block failed
pub record GivesPathAlone {D H : Type 0} (asks : D → Call → D → Type 0) (does : H → Call → H → Type 0) (shape : ShapeRecord) (i : ℕ) (d : D) (h : H) (d' : D) (h' : H) : Type 0 where
  pub path : List (List ℕ)
  pub block : List ℕ
  pub hash : GivesPath does shape i h path h'
  pub made : asks d (Read (i * (shape.data_block / 512)) block false) d'

-- why no chain was read, by which calls
abbrev pub GivesNoChain : {D H : Type 0} → (D → Call → D → Type 0) → (H → Call → H → Type 0) → ShapeRecord → ℕ → D → H → D → H → ChainFault → Type 0
GivesNoChain asks does shape i d h d' h' DeviceFailed = ((d' ≡ d) × GivesPathPart does shape i h h') ⊎ GivesPathAlone asks does shape i d h d' h'
GivesNoChain asks does shape i d h d' h' NoMemory = (d' ≡ d) × (h' ≡ h)

-- all calls of reading a chain
abbrev pub CallsChain : {D H : Type 0} → (D → Call → D → Type 0) → (H → Call → H → Type 0) → ShapeRecord → ℕ → D → H → D → H → Result ChainRecord ChainFault → Type 0
CallsChain asks does shape i d h d' h' (Ok chain) = GivesChain asks does shape i d h d' h' chain
CallsChain asks does shape i d h d' h' (Err fault) = GivesNoChain asks does shape i d h d' h' fault
