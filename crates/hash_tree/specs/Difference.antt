-- Where two chains differ.
use Rattle.std.specs.Prelude.{◌≡◌, ◌≢◌, ℕ, ◌<◌, List, [], length, take, ◌⊎◌}
use Rattle.std.specs.List.{slice_index_or}
use Rattle.hash_tree.specs.declared.difference.Place.{Place}
use Rattle.hash_tree.specs.declared.difference.Place.TheVariants.{Hash, Content}
use Rattle.tree_shape.specs.Digests.{digest}
use Rattle.hash_tree.specs.Chain.{ChainRecord}

-- the lists differ at index k, and before it they don't
pub record FirstDiffer (a b : List (List ℕ)) (k : ℕ) : Type 0 where
  pub inside : k < length a
  pub above : take k a ≡ take k b
  pub differ : slice_index_or a k [] ≢ slice_index_or b k []

-- the chain has a block at that place
abbrev pub HasPlace : ChainRecord → Place → Type 0
HasPlace chain (Hash k) = k < length chain.path
HasPlace chain Content = Unit {0}

-- the block of the chain at that place
abbrev pub chain_at : ChainRecord → Place → List ℕ
chain_at chain (Hash k) = slice_index_or chain.path k []
chain_at chain Content = chain.content

-- the hash blocks above that place
abbrev pub path_above : ChainRecord → Place → List (List ℕ)
path_above chain (Hash k) = take k chain.path
path_above chain Content = chain.path

-- the chains have one index and one length, their blocks at the place differ, and above it none do
pub record IsTopmostDifference (a b : ChainRecord) (place : Place) : Type 0 where
  pub index : a.index ≡ b.index
  pub lengths : length a.path ≡ length b.path
  pub inside : HasPlace a place
  pub above : path_above a place ≡ path_above b place
  pub differ : chain_at a place ≢ chain_at b place

-- the chains have different indexes, or paths of different lengths, or no block that differs
abbrev pub HaveNoDifference : ChainRecord → ChainRecord → Type 0
HaveNoDifference a b = (a.index ≢ b.index) ⊎ ((length a.path ≢ length b.path) ⊎ ((a.path ≡ b.path) × (a.content ≡ b.content)))

-- two different blocks with one digest
pub record IsCollision (salt a b : List ℕ) : Type 0 where
  pub differ : a ≢ b
  pub same : digest salt a ≡ digest salt b
