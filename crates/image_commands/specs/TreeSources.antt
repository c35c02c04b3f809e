-- Where the tree of an image is stated, and that tree.
use Rattle.std.specs.Prelude.{◌≡◌, ℕ, Bool, true, Option, None, IsSome}
use Rattle.block_device.specs.Device.{Device}
use Rattle.tree_shape.specs.Shape.{first_fault}
use Rattle.verity_format.specs.declared.formatting.FormatOptions.{FormatOptions}
use Rattle.verity_format.specs.declared.tree.VerityTree.{VerityTree}
use Rattle.verity_format.specs.Blocks.{IsFullRead}
use Rattle.verity_format.specs.Options.{superblock_with}
use Rattle.verity_format.specs.Superblock.{SuperRecord, shape_of}
use Rattle.verity_format.specs.Trees.{superblock_tree, tree_alone}
use Rattle.image_pin.specs.declared.pin.Pin.{Pin}
use Rattle.image_pin.specs.declared.trusted.TrustedRoot.{TrustedRoot}
use Rattle.image_pin.specs.Finding.{IsNoTree, ReadsSuper, is_aligned}
use Rattle.image_commands.specs.declared.tree_source.NoSource.{NoSource}
use Rattle.image_commands.specs.declared.tree_source.NoSource.TheVariants.{Shape, Stored}
use Rattle.image_commands.specs.declared.tree_source.SoughtTree.{SoughtTree}
use Rattle.image_commands.specs.declared.tree_source.TreeSource.{TreeSource}
use Rattle.image_commands.specs.declared.tree_source.TreeSource.TheVariants.{Options, Superblock}

-- the tree of the superblock, which must have the values of the pin, if there is one
abbrev pub stored_source : TrustedRoot → SoughtTree
stored_source trusted = record { source = Superblock trusted.pin; root = trusted.root }

-- the tree may begin at that sector, as far as that is known before a file is opened
abbrev pub may_seek : TreeSource → ℕ → Bool
may_seek (Superblock pin) first = true
may_seek (Options options) first = is_aligned first options.hash_block

-- the superblock was read, by one read, and the tree follows it
pub record IsStoredTree (hash_dev : Device) (first : ℕ) (pin : Option Pin) (hash_dev' : Device) (tree : VerityTree) : Type 0 where
  pub super : SuperRecord
  pub super_read : ReadsSuper hash_dev first pin super
  pub one : IsFullRead hash_dev 1 hash_dev'
  pub is : tree ≡ superblock_tree super

abbrev pub IsNotStored : Device → ℕ → Option Pin → Device → NoSource → Type 0
IsNotStored hash_dev first pin hash_dev' (Stored cause) = IsNoTree hash_dev first pin hash_dev' cause
IsNotStored hash_dev first pin hash_dev' Shape = ⊥

-- it is the tree of the options over so many sectors of data, and has a shape
pub record IsStatedTree (options : FormatOptions) (sectors : ℕ) (tree : VerityTree) : Type 0 where
  pub shape : first_fault (shape_of (superblock_with options sectors)) ≡ None
  pub is : tree ≡ tree_alone (superblock_with options sectors)

abbrev pub IsShapeless : FormatOptions → ℕ → NoSource → Type 0
IsShapeless options sectors (Stored cause) = ⊥
IsShapeless options sectors Shape = IsSome (first_fault (shape_of (superblock_with options sectors)))

-- the tree of a source; of options' tree nothing is read
abbrev pub IsTreeOf : TreeSource → ℕ → Device → ℕ → Device → VerityTree → Type 0
IsTreeOf (Superblock pin) sectors hash_dev first hash_dev' tree = IsStoredTree hash_dev first pin hash_dev' tree
IsTreeOf (Options options) sectors hash_dev first hash_dev' tree = IsStatedTree options sectors tree × (hash_dev' ≡ hash_dev)

abbrev pub IsNoTreeOf : TreeSource → ℕ → Device → ℕ → Device → NoSource → Type 0
IsNoTreeOf (Superblock pin) sectors hash_dev first hash_dev' fault = IsNotStored hash_dev first pin hash_dev' fault
IsNoTreeOf (Options options) sectors hash_dev first hash_dev' fault = IsShapeless options sectors fault × (hash_dev' ≡ hash_dev)

-- there is no tree for this cause, and a command ends with the fault that it has for it
abbrev pub IsSourceRefused : {F : Type 0} → (NoSource → F) → (NoSource → Type 0) → F → Type 0
IsSourceRefused fault_of IsNone fault = (cause : NoSource) × IsNone cause × (fault ≡ fault_of cause)
