-- Places that sectors are read from, and the expected result of a read.
use Rattle.std.specs.Prelude.{ℕ, ◌*◌, Bool, List}
use Rattle.block_device.specs.Device.{Device}
use Rattle.stack_rules.specs.declared.lower.Lower.{Lower}
use Rattle.stack_rules.specs.Records.{Configuration}
use Rattle.stack_rules.specs.Descend.{read_cost}
use Rattle.stack_meaning.specs.Agreement.{AgreesOn}
use Rattle.stack_meaning.specs.Sectors.{SomeOf, IsRun}
use Rattle.stack_meaning.specs.declared.fault.Fault.{Fault}
use Rattle.stack_meaning.specs.Outcomes.{Outcome, Images, span}
use Rattle.stack_meaning.specs.Found.{FoundRecord}
use Rattle.stack_meaning.specs.LeavesBeneath.{stands_on}
use Rattle.stack_meaning.specs.Meaning.{Said, said_at}

-- the semantics of each sector of a place, the most leaf sectors that are read for one, the leaves below, and that over images of
-- these no restored block is another one than the stored block
pub record Place : Type 1 where
  pub said : ℕ → Said
  pub cost : ℕ
  pub leaves : ℕ → Bool
  pub agrees : Images → Type 0

-- a leaf or device as a place
abbrev pub place_of : Configuration → Lower → Place
place_of c lower = record { said = said_at c lower; cost = read_cost c lower; leaves = λ i. stands_on c i lower; agrees = AgreesOn c (λ i. stands_on c i lower) }

-- what is expected of a result: the values that it may have, the faults possible instead, its bytes, their meaning
-- over the leaves' images, the most leaf sectors that are read for it, the leaves below, and what their images must agree on
pub record Expected (A : Type 0) : Type 1 where
  pub is : A → Type 0
  pub faults : Fault → Type 0
  pub bytes_of : A → List ℕ
  pub means : Images → Outcome
  pub cost : ℕ
  pub leaves : ℕ → Bool
  pub agrees : Images → Type 0

-- the bytes of n sectors of a place from `first` on, with these chains
abbrev pub run_expected : Place → List FoundRecord → ℕ → ℕ → Expected (List ℕ)
run_expected place chains first n = record {
  is = IsRun (λ s. (place.said s).may chains) first n;
  faults = λ fault. SomeOf (λ s. (place.said s).meets fault) first n;
  bytes_of = λ bytes. bytes;
  means = λ images. span (λ s. (place.said s).means images) first n;
  cost = n * place.cost;
  leaves = place.leaves;
  agrees = place.agrees;
}

-- the states before and after a read: the leaves, and the chains that were found
pub record LeafRead : Type 0 where
  pub old : List Device
  pub new : List Device
  pub before : List FoundRecord
  pub after : List FoundRecord
