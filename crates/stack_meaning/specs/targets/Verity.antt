-- `verity`: data blocks, each verified from the root hash down.
use Rattle.std.specs.Prelude.{◌≡◌, ℕ, ◌+◌, ◌/◌, ◌%◌, nat_lt, List, [], ◌∷◌, Contains, Ok}
use Rattle.hash_tree.specs.Chain.{ChainRecord, IsGood}
use Rattle.block_device.specs.Device.{Device}
use Rattle.dm_table.specs.declared.verity.Verity.{Verity}
use Rattle.stack_rules.specs.Trees.{tree_of, block_sectors}
use Rattle.stack_meaning.specs.Outcomes.{Images, then_outcome, part}
use Rattle.stack_meaning.specs.Found.{FoundRecord, Entry, found_entry}
use Rattle.stack_meaning.specs.Spares.{BlockSources}
use Rattle.stack_meaning.specs.Blocks.{verified_block, BlockMeets}
use Rattle.stack_meaning.specs.Leaves.{steady_images}
use Rattle.stack_meaning.specs.Said.{Said}
use Rattle.stack_meaning.specs.Putting.{done}
use Rattle.stack_meaning.specs.TargetMeaning.{TargetMeaning, own}

-- a chain that was found for this entry, and is valid for this `verity` line
pub record IsShown (chains : List FoundRecord) (entry : Entry) (v : Verity) (x : FoundRecord) : Type 0 where
  pub given : Contains chains x
  pub at : found_entry x ≡ entry
  pub good : IsGood (tree_of v) v.salt v.root x.chain

-- the part of a chain's content that is sector s of its line
abbrev pub content_part : Verity → ℕ → List ℕ → List ℕ
content_part v s content = part content (s % block_sectors v)

-- the sectors of the three devices of a line over these images, given the semantics of sector t of base i
abbrev pub sources_over : (ℕ → ℕ → Said) → Images → BlockSources
sources_over below images = record { on_data = λ t. (below 0 t).means images; on_hash = λ t. (below 1 t).means images; on_parity = λ t. (below 2 t).means images }

-- sector s of a `verity` line, which is line l of device d: that of its data block, verified from the root hash down;
-- it may be that of a valid chain that was found for it, and no write reaches it
abbrev pub verity_said : (ℕ → ℕ → Said) → ℕ → ℕ → Verity → ℕ → Said
verity_said below d l v s =
    let i = s / block_sectors v in
    record {
      means = λ images. then_outcome (verified_block v (sources_over below images) i) (λ block. Ok (content_part v s block));
      may = λ chains bytes. (x : FoundRecord) × IsShown chains (d, l, i) v x × (bytes ≡ content_part v s x.chain.content);
      meets = BlockMeets v (λ t. (below 0 t).meets) (λ t. (below 1 t).meets) i;
      entries = (d, l, i) ∷ [];
      reaches = [];
      encrypts = ⊥;
    }

-- a chain of a `verity` line over these leaves: it is valid, and if they determine its content it is the data block
pub record IsOfVerity (below : ℕ → ℕ → Said) (certain : List Device → Type 0) (leaves : List Device) (v : Verity) (chain : ChainRecord) : Type 0 where
  pub good : IsGood (tree_of v) v.salt v.root chain
  pub exact : certain leaves → verified_block v (sources_over below (steady_images leaves)) chain.index ≡ Ok chain.content

abbrev pub verity_meaning : Verity → TargetMeaning
verity_meaning line = record {
  meant = own (record {
    said = λ below d l. verity_said below d l line;
    put = λ reads puts s sectors images. done images;
    keeps = λ below certain leaves chain. IsOfVerity below certain leaves line chain;
  });
  together = λ s. nat_lt (s % block_sectors line + 1) (block_sectors line);
}
