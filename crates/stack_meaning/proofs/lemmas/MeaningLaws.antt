-- What holds of what a target means, whatever its kind is.
use Rattle.std.proofs.Common.{◌≡◌, ℕ, Bool, false, List, Contains, Ok}
use Rattle.hash_tree.specs.Chain.{ChainRecord}
use Rattle.block_device.specs.Device.{Device, IsSector}
use Rattle.dm_table.specs.Grammar.{IsTargetOfGrammar}
use Rattle.dm_table.specs.declared.table.Target.{Target}
use Rattle.dm_table.specs.declared.table.Target.TheVariants.{Verity as verity_target}
use Rattle.dm_table.specs.declared.verity.Verity.{Verity}
use Rattle.stack_rules.specs.Rules.{needs_read_only}
use Rattle.stack_meaning.specs.Outcomes.{Images, mismatch}
use Rattle.stack_meaning.specs.Found.{FoundRecord, Entry}
use Rattle.stack_meaning.specs.Leaves.{AreRead}
use Rattle.stack_meaning.specs.Said.{Said}
use Rattle.stack_meaning.specs.TargetMeaning.{OwnMeaning, Meant, handed, own}
use Rattle.stack_meaning.specs.targets.Verity.{IsShown}

abbrev pub HasMore : List FoundRecord → List FoundRecord → Type 0
HasMore u v = (x : FoundRecord) → Contains u x → Contains v x

abbrev pub IsMono : Said → Type 0
IsMono said = (u v : List FoundRecord) → HasMore u v → (b : List ℕ) → said.may u b → said.may v b

-- a sector means the same over both
abbrev pub IsAlike : Images → Images → Said → Type 0
IsAlike images other said = said.means images ≡ said.means other

-- a sector that has bytes has 512
abbrev pub IsSized : Images → Said → Type 0
IsSized images said = (b : List ℕ) → said.means images ≡ Ok b → IsSector b

-- what the sector may be shows that of each entry on its way
abbrev pub Shows : List FoundRecord → (Entry → Type 0) → Said → Type 0
Shows chains P said = (bytes : List ℕ) (entry : Entry) → said.may chains bytes → Contains said.entries entry → P entry

-- no block on the sector's way is checked
abbrev pub IsUnchecked : Said → Type 0
IsUnchecked said = said.meets mismatch → ⊥

-- Each holds of a sector of the line where it holds of each sector of each base.
pub record OwnLaws (target : Target) (m : OwnMeaning) : Type 1 where
  -- what may be read with some chains may be read with more
  pub mono : (below : ℕ → ℕ → Said) → ((i t : ℕ) → IsMono (below i t)) → (d l s : ℕ) → IsMono (m.said below d l s)
  pub alike : (images other : Images) (below : ℕ → ℕ → Said) → ((i t : ℕ) → IsAlike images other (below i t)) → (d l s : ℕ) → IsAlike images other (m.said below d l s)
  pub sized : IsTargetOfGrammar target → (images : Images) (below : ℕ → ℕ → Said) → ((i t : ℕ) → IsSized images (below i t)) → (d l s : ℕ) → IsSized images (m.said below d l s)
  -- an entry of the line itself is shown by a chain that is good for it
  pub shows : (chains : List FoundRecord) (P : Entry → Type 0) (below : ℕ → ℕ → Said) → ((i t : ℕ) → Shows chains P (below i t)) → (d l s : ℕ)
      → ((v : Verity) (x : FoundRecord) (i : ℕ) → target ≡ verity_target v → IsShown chains (d, l, i) v x → P (d, l, i)) → Shows chains P (m.said below d l s)
  -- and where it isn't one that can only be read
  pub unchecked : (len : ℕ) → needs_read_only len target ≡ false → (below : ℕ → ℕ → Said) → ((i t : ℕ) → IsUnchecked (below i t)) → (d l s : ℕ) → IsUnchecked (m.said below d l s)
  -- what it keeps of a chain still holds after the leaves are read
  pub later : (below : ℕ → ℕ → Said) (certain : List Device → Type 0) (old new : List Device) (n : ℕ) (chain : ChainRecord) → AreRead old n new → (certain new → certain old) → m.keeps below certain old chain → m.keeps below certain new chain

-- of what is handed on nothing has to hold
abbrev pub MeantLaws : Target → Meant → Type 1
MeantLaws target handed = Unit {1}
MeantLaws target (own m) = OwnLaws target m
