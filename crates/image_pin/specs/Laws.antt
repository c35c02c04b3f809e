-- What a pin determines.
use Rattle.std.specs.Prelude.{◌≡◌, ◌⊎◌, ℕ, List, map}
use Rattle.tree_shape.specs.Digests.{digest}
use Rattle.tree_shape.specs.Shape.{IsShape, ShapeRecord}
use Rattle.hash_tree.specs.declared.difference.Place.{Place}
use Rattle.hash_tree.specs.Chain.{formed}
use Rattle.hash_tree.specs.Difference.{IsCollision, chain_at}
use Rattle.hash_tree.specs.Laws.{AreBlocks}
use Rattle.hash_tree.specs.Tree.{root}
use Rattle.verity_format.specs.Superblock.{shape_after}
use Rattle.image_pin.specs.declared.pin.Pin.{Pin}

-- the shape of the tree
abbrev pub shape_of : Pin → ShapeRecord
shape_of pin = shape_after pin.data_block pin.hash_block pin.blocks

-- the data blocks have the number and size that the pin states, and their tree has its root hash
pub record IsPinned (pin : Pin) (blocks : List (List ℕ)) : Type 0 where
  pub valid : IsShape (shape_of pin)
  pub are : AreBlocks pin.blocks pin.data_block blocks
  pub root : root pin.hash_block pin.salt (map (digest pin.salt) blocks) ≡ pin.root

-- at this place, the chains of block i are two different inputs with the same digest
abbrev pub CollideAt : Pin → List (List ℕ) → List (List ℕ) → ℕ → Place → Type 0
CollideAt pin a b i place = IsCollision pin.salt (chain_at (formed (shape_of pin) pin.salt a i) place) (chain_at (formed (shape_of pin) pin.salt b i) place)

-- two lists of data blocks with the same pin are equal, or exhibit such a collision
abbrev pub PinnedImagesAreEqual : Type 0
PinnedImagesAreEqual = (pin : Pin) (a b : List (List ℕ)) → IsPinned pin a → IsPinned pin b → (a ≡ b) ⊎ ((i : ℕ) × ((place : Place) × CollideAt pin a b i place))
