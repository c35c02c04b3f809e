-- The meaning of a line with a target, as a record.
use Rattle.std.specs.Prelude.{ℕ, Bool, List}
use Rattle.hash_tree.specs.Chain.{ChainRecord}
use Rattle.block_device.specs.Device.{Device}
use Rattle.stack_meaning.specs.Said.{Said}
use Rattle.stack_meaning.specs.Putting.{Putting}

-- the meaning of a target that doesn't just pass sectors through; its functions get the semantics of sector t of base
-- i, and the effect of a write there
pub record OwnMeaning : Type 1 where
  -- the semantics of sector s of line l of device d, in the order d, l, s
  pub said : (ℕ → ℕ → Said) → ℕ → ℕ → ℕ → Said
  -- the effect of writing sectors from s on that are written together
  pub put : (ℕ → ℕ → Said) → (ℕ → ℕ → Putting) → ℕ → Putting
  -- what holds for a chain that belongs to the line, given when the leaves below the line determine its content
  pub keeps : (ℕ → ℕ → Said) → (List Device → Type 0) → List Device → ChainRecord → Type 0

-- each sector is passed through to the lower one, or has its own meaning
pub data Meant : Type 1 where
  handed : Meant
  own : OwnMeaning → Meant

pub record TargetMeaning : Type 1 where
  pub meant : Meant
  -- whether sector s and the next one are written together
  pub together : ℕ → Bool

-- the semantics of a sector, given those of the lower sector
abbrev pub said_as : Meant → Said → (ℕ → ℕ → Said) → ℕ → ℕ → ℕ → Said
said_as handed beneath below d l s = beneath
said_as (own m) beneath below d l s = m.said below d l s

abbrev pub put_as : Meant → Putting → (ℕ → ℕ → Said) → (ℕ → ℕ → Putting) → ℕ → Putting
put_as handed beneath reads puts s sectors images = beneath sectors images
put_as (own m) beneath reads puts s sectors images = m.put reads puts s sectors images

abbrev pub keeps_as : Meant → (ℕ → ℕ → Said) → (List Device → Type 0) → List Device → ChainRecord → Type 0
keeps_as handed below certain leaves chain = ⊥
keeps_as (own m) below certain leaves chain = m.keeps below certain leaves chain

abbrev pub IsHanded : Meant → Type 0
IsHanded handed = Unit {0}
IsHanded (own m) = ⊥
