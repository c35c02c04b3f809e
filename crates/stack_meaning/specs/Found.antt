-- The chains that a read finds: each leads from the root hash of a `verity` line down to a data block.
use Rattle.std.specs.Prelude.{◌≡◌, ◌≢◌, ℕ, List, ◌++◌, Contains, All, AllPairs}
use Rattle.hash_tree.specs.Chain.{ChainRecord}
use Rattle.stack_meaning.specs.Sectors.{SomeOf}

-- a chain, and the line that it belongs to; devices and lines are numbered from 0
pub record FoundRecord : Type 0 where
  pub device : ℕ
  pub line : ℕ
  pub chain : ChainRecord

-- the position of a chain: its device, line and data block, numbered from 0
abbrev pub Entry : Type 0
Entry = ℕ × ℕ × ℕ

abbrev pub found_entry : FoundRecord → Entry
found_entry x = (x.device, x.line, x.chain.index)

-- no two chains have the same device, line and block
abbrev pub AreDistinct : List FoundRecord → Type 0
AreDistinct found = AllPairs (λ x y. found_entry x ≢ found_entry y) found

-- each chain is on the path of one of n sectors, given the entries on the path of each sector
abbrev pub AreUsed : (ℕ → List Entry) → ℕ → ℕ → List FoundRecord → Type 0
AreUsed entries first n found = All (λ x. SomeOf (λ s. Contains (entries s) (found_entry x)) first n) found

-- chains were appended, each on the path of one of n sectors
pub record HasGrown (entries : ℕ → List Entry) (first n : ℕ) (old new : List FoundRecord) : Type 0 where
  pub added : List FoundRecord
  pub is : new ≡ old ++ added
  pub used : AreUsed entries first n added
