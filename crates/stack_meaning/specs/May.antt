-- The possible results of a read over devices that return anything.
use Rattle.std.specs.Prelude.{ℕ, List}
use Rattle.stack_rules.specs.declared.lower.Lower.{Lower}
use Rattle.stack_rules.specs.Records.{Configuration}
use Rattle.stack_meaning.specs.Sectors.{SomeOf, IsRun}
use Rattle.stack_meaning.specs.declared.fault.Fault.{Fault}
use Rattle.stack_meaning.specs.Found.{FoundRecord, AreDistinct, AreUsed}
use Rattle.stack_meaning.specs.Meaning.{said_at}

-- a read of n sectors from `first` on may end in this fault
abbrev pub MayFault : Configuration → Lower → ℕ → ℕ → Fault → Type 0
MayFault c lower first n fault = SomeOf (λ s. (said_at c lower s).meets fault) first n

-- n sectors from `first` on may have these bytes with these chains, each of which is on the path of one of the
-- sectors
pub record MayRead (c : Configuration) (lower : Lower) (first n : ℕ) (bytes : List ℕ) (chains : List FoundRecord) : Type 0 where
  pub run : IsRun (λ s. (said_at c lower s).may chains) first n bytes
  pub used : AreUsed (λ s. (said_at c lower s).entries) first n chains

-- n sectors from `first` on may have these bytes with these distinct chains
pub record MayBe (c : Configuration) (lower : Lower) (first n : ℕ) (bytes : List ℕ) (chains : List FoundRecord) : Type 0 where
  pub read : MayRead c lower first n bytes chains
  pub distinct : AreDistinct chains
