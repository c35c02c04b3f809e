-- Contracts of reads of data blocks, from the root down.
use Rattle.std.specs.Prelude.{◌≡◌, ◌⊎◌, ℕ, zero, suc, ◌+◌, ◌*◌, ◌<◌, Bool, false, ◌||◌, List, [], ◌∷◌, ◌++◌, length, Option, None, Some, Result}
use Rattle.std.specs.Option.{option_map_or}
use Rattle.hash_tree.specs.Chain.{ChainRecord, HangsFrom, IsGood}
use Rattle.tree_shape.specs.Digests.{digest}
use Rattle.tree_shape.specs.Shape.{ancestor, levels}
use Rattle.block_device.specs.Device.{Device}
use Rattle.dm_table.specs.declared.table.Target.TheVariants.{Verity as verity_target}
use Rattle.dm_table.specs.declared.parity.Parity.{Parity}
use Rattle.dm_table.specs.declared.verity.Verity.{Verity}
use Rattle.stack_rules.specs.Records.{Configuration}
use Rattle.stack_rules.specs.Names.{named}
use Rattle.stack_rules.specs.Descend.{by_name, read_cost}
use Rattle.stack_rules.specs.TargetRules.{greatest}
use Rattle.stack_rules.specs.Trees.{tree_of, block_sectors, path_blocks, path_sectors, spare_blocks}
use Rattle.stack_rules.specs.targets.Verity.{mend_cost}
use Rattle.stack_meaning.specs.declared.fault.IoFault.{IoFault}
use Rattle.stack_lines.specs.declared.tree.Tree.{Tree}
use Rattle.stack_meaning.specs.Sectors.{SomeOf}
use Rattle.stack_meaning.specs.declared.fault.Fault.{Fault}
use Rattle.stack_meaning.specs.Agreement.{AgreesOn, LineAgrees}
use Rattle.stack_meaning.specs.Beneath.{below}
use Rattle.stack_meaning.specs.Outcomes.{Outcome, mismatch, Images}
use Rattle.stack_meaning.specs.Erasures.{covered_spare}
use Rattle.stack_meaning.specs.Spares.{BlockSources, healed_outcome, verified_blocks}
use Rattle.stack_meaning.specs.targets.Verity.{sources_over}
use Rattle.stack_meaning.specs.Blocks.{covered_hash, hash_sectors, hash_start, checked_span, data_block_at, block_below, verified_block, BlockMeets}
use Rattle.stack_meaning.specs.Leaves.{steady_images, AreRead}
use Rattle.stack_meaning.specs.Meaning.{Said, none_said, said_by_name}
use Rattle.stack_meaning.specs.Places.{Place, Expected}
use Rattle.stack_meaning.specs.Reading.{Gets, IsCertain}
use Rattle.stack_lines.specs.Standing.{name_stands_on}
use Rattle.stack_lines.specs.Sources.{parity_lower}
pub use Rattle.stack_lines.specs.Sources.{HasVerity}

-- ---- lines

-- where its blocks lie
pub record IsTreeOf (c : Configuration) (v : Verity) (tree : Tree) : Type 0 where
  pub is : HasVerity c tree.device.0 tree.line v
  pub on_data : named c v.data ≡ Some tree.data
  pub on_hash : named c v.hash ≡ Some tree.hash
  pub on_parity : parity_lower c v ≡ tree.parity
  pub shape_is : tree.shape ≡ tree_of v

-- it has a data block of that number
pub record HasDataBlock (c : Configuration) (v : Verity) (tree : Tree) (index : ℕ) : Type 0 where
  pub lies : IsTreeOf c v tree
  pub there : index < v.blocks

-- it has a block of that number that is verified, a data block or a hash block
pub record HasVerifiedBlock (c : Configuration) (v : Verity) (tree : Tree) (j : ℕ) : Type 0 where
  pub lies : IsTreeOf c v tree
  pub there : j < verified_blocks v

-- ---- one block

-- a block of n sectors that has the digest
abbrev pub IsBlockOfDigest : ℕ → List ℕ → List ℕ → List ℕ → Type 0
IsBlockOfDigest n salt expected block = (length block ≡ 512 * n) × (digest salt block ≡ expected)

-- the fault is that of a digest, or one of n sectors meets it
abbrev pub SpanMeets : Place → ℕ → ℕ → Fault → Type 0
SpanMeets place first n fault = (fault ≡ mismatch) ⊎ SomeOf (λ s. (place.said s).meets fault) first n

-- of n sectors of a place from the first on, as a block that has the digest
abbrev pub checked_expected : {A : Type 0} → (A → List ℕ) → Place → ℕ → ℕ → List ℕ → List ℕ → Expected A
checked_expected bytes_of place first n salt expected = record {
  is = λ x. IsBlockOfDigest n salt expected (bytes_of x);
  faults = SpanMeets place first n;
  bytes_of = bytes_of;
  means = λ images. checked_span (λ s. (place.said s).means images) first n salt expected;
  cost = n * place.cost;
  leaves = place.leaves;
  agrees = place.agrees;
}

-- ---- a data block

-- a block of a verity line: the places of its data blocks, of its hash blocks and of its parity, and its number among the covered
-- blocks, which begin with the data blocks
pub record DataBlock : Type 1 where
  pub verity : Verity
  pub on_data : Place
  pub on_hash : Place
  pub on_parity : Place
  pub index : ℕ

-- what a name means, as a place
abbrev pub place_named : Configuration → List ℕ → Place
place_named c name = record { said = said_by_name c name; cost = by_name c 0 (read_cost c) name; leaves = λ i. name_stands_on c i name; agrees = AgreesOn c (λ i. name_stands_on c i name) }

-- what the parity of a line means, as a place; without parity it has no leaves
abbrev pub parity_place : Configuration → Verity → Place
parity_place c v = record {
  said = below none_said (said_by_name c) (verity_target v) 2;
  cost = option_map_or (λ p. by_name c 0 (read_cost c) p.device) v.parity 0;
  leaves = λ i. option_map_or (λ p. name_stands_on c i p.device) v.parity false;
  agrees = AgreesOn c (λ i. option_map_or (λ p. name_stands_on c i p.device) v.parity false);
}

abbrev pub block_in : Configuration → Verity → ℕ → DataBlock
block_in c v i = record { verity = v; on_data = place_named c v.data; on_hash = place_named c v.hash; on_parity = parity_place c v; index = i }

-- the covered block of that number of the same line
abbrev pub at_number : DataBlock → ℕ → DataBlock
at_number b j = record b { index = j }

-- the semantics of sector t of base i: of the data, hash and parity devices, in order
abbrev pub base_said : DataBlock → ℕ → ℕ → Said
base_said b zero = b.on_data.said
base_said b (suc zero) = b.on_hash.said
base_said b (suc (suc i)) = b.on_parity.said

-- the sectors of the three devices over the leaves' images
abbrev pub sources_of : DataBlock → Images → BlockSources
sources_of b images = sources_over (base_said b) images

-- the leaves beneath the three devices
abbrev pub block_leaves : DataBlock → ℕ → Bool
block_leaves b i = b.on_data.leaves i || (b.on_hash.leaves i || b.on_parity.leaves i)

-- the images that its three devices are on agree, and so do the line's blocks with what parity restores in their place
pub record AgreesAt (b : DataBlock) (images : Images) : Type 0 where
  pub on_data : b.on_data.agrees images
  pub on_hash : b.on_hash.agrees images
  pub on_parity : b.on_parity.agrees images
  pub line : LineAgrees b.verity (sources_of b images)

-- the most leaf sectors that are read for a spare, from what is read for a sector of each device: 0 without parity
abbrev pub spare_cost_by : Verity → Option Parity → List ℕ → ℕ
spare_cost_by v None costs = 0
spare_cost_by v (Some parity) costs = spare_blocks v * block_sectors v * greatest costs

abbrev pub spare_cost : DataBlock → ℕ
spare_cost b = spare_cost_by b.verity b.verity.parity (b.on_data.cost ∷ b.on_hash.cost ∷ b.on_parity.cost ∷ [])

-- and for the block itself, if it is read once more
abbrev pub settled_cost : DataBlock → ℕ
settled_cost b = mend_cost b.verity b.verity.parity (b.on_data.cost ∷ b.on_hash.cost ∷ b.on_parity.cost ∷ [])

-- what it means over the leaves' images, where l levels are left and that digest is expected
abbrev pub means_below : DataBlock → Images → ℕ → List ℕ → Outcome
means_below b images l expected = block_below b.verity (sources_of b images) b.index l expected

-- of a block of n sectors of a place that has the digest, or of the spare of covered block j
abbrev pub healed_expected : {A : Type 0} → (A → List ℕ) → DataBlock → Place → ℕ → ℕ → ℕ → List ℕ → Expected A
healed_expected bytes_of b place first n j expected = record {
  is = λ x. IsBlockOfDigest n b.verity.salt expected (bytes_of x);
  faults = SpanMeets place first n;
  bytes_of = bytes_of;
  means = λ images. healed_outcome (checked_span (λ s. (place.said s).means images) first n b.verity.salt expected) (covered_spare b.verity (sources_of b images) b.verity.parity j expected);
  cost = n * place.cost + spare_cost b;
  leaves = block_leaves b;
  agrees = AgreesAt b;
}

-- of the hash block of level l on the path to a data block
abbrev pub way_expected : {A : Type 0} → (A → List ℕ) → DataBlock → ℕ → List ℕ → Expected A
way_expected bytes_of b l expected = healed_expected bytes_of b b.on_hash (hash_start b.verity l b.index) (hash_sectors b.verity) (covered_hash b.verity l (ancestor (tree_of b.verity) (l + 1) b.index)) expected

-- the most leaf sectors that are read for it
abbrev pub way_cost : DataBlock → ℕ
way_cost b = hash_sectors b.verity * b.on_hash.cost + spare_cost b

-- of what parity restores in its place, if that digest is expected of it; a fault of an attempt in vain isn't returned
abbrev pub spare_expected : {A : Type 0} → (A → List ℕ) → DataBlock → List ℕ → Expected A
spare_expected bytes_of b expected = record {
  is = λ x. IsBlockOfDigest (block_sectors b.verity) b.verity.salt expected (bytes_of x);
  faults = λ fault. Unit {0};
  bytes_of = bytes_of;
  means = λ images. covered_spare b.verity (sources_of b images) b.verity.parity b.index expected;
  cost = spare_cost b;
  leaves = block_leaves b;
  agrees = AgreesAt b;
}

-- of itself or its spare, if that digest is expected of it
abbrev pub data_expected : {A : Type 0} → (A → List ℕ) → DataBlock → List ℕ → Expected A
data_expected bytes_of b expected = record {
  is = λ x. IsBlockOfDigest (block_sectors b.verity) b.verity.salt expected (bytes_of x);
  faults = SpanMeets b.on_data (block_sectors b.verity * b.index) (block_sectors b.verity);
  bytes_of = bytes_of;
  means = λ images. data_block_at b.verity (sources_of b images) b.index expected;
  cost = block_sectors b.verity * b.on_data.cost + spare_cost b;
  leaves = block_leaves b;
  agrees = AgreesAt b;
}

-- of its chain
abbrev pub chain_expected : DataBlock → Expected ChainRecord
chain_expected b = record {
  is = λ chain. (chain.index ≡ b.index) × IsGood (tree_of b.verity) b.verity.salt b.verity.root chain;
  faults = BlockMeets b.verity (λ s. (b.on_data.said s).meets) (λ s. (b.on_hash.said s).meets) b.index;
  bytes_of = λ chain. chain.content;
  means = λ images. verified_block b.verity (sources_of b images) b.index;
  cost = block_sectors b.verity * b.on_data.cost + path_sectors b.verity * b.on_hash.cost + path_blocks b.verity * settled_cost b;
  leaves = block_leaves b;
  agrees = AgreesAt b;
}

abbrev pub GetsChain : DataBlock → List Device → List Device → Result ChainRecord IoFault → Type 0
GetsChain b old new result = Gets (chain_expected b) old new result

-- what holds once the path was read, if l levels are left and that digest is expected of the next block
pub record IsWalked (b : DataBlock) (l : ℕ) (expected : List ℕ) (path : List (List ℕ)) (old new : List Device) : Type 0 where
  pub count : length path + l ≡ levels (tree_of b.verity)
  pub moved : AreRead old (length path * way_cost b) new
  pub hangs : (rest : List (List ℕ)) (content : List ℕ) → length rest ≡ l → HangsFrom (tree_of b.verity) b.verity.salt b.index expected rest content
      → HangsFrom (tree_of b.verity) b.verity.salt b.index b.verity.root (path ++ rest) content
  pub exact : IsCertain (chain_expected b) old → (chain_expected b).means (steady_images old) ≡ means_below b (steady_images old) l expected
