-- Contracts of reads.
use Rattle.std.specs.Prelude.{◌≡◌, ℕ, ◌-◌, ◌≤◌, List, Result, Ok, Err}
use Rattle.std.specs.List.{slice_index_or}
use Rattle.allocation.specs.Refusal.{IsOutOfMemory}
use Rattle.block_device.specs.Device.{Device}
use Rattle.stack_rules.specs.declared.lower.Lower.{Lower}
use Rattle.stack_rules.specs.Records.{Configuration}
use Rattle.stack_meaning.specs.declared.fault.IoFault.{IoFault}
use Rattle.stack_meaning.specs.declared.fault.IoFault.TheVariants as io
use Rattle.stack_meaning.specs.declared.fault.Fault.{Fault}
use Rattle.stack_meaning.specs.Outcomes.{mismatch, Outcome}
use Rattle.stack_meaning.specs.Leaves.{steady_images, AreSteady, AreRead, LeafFailed}
use Rattle.stack_meaning.specs.Memory.{largest_allocation}
use Rattle.stack_meaning.specs.Sectors.{SomeOf}
use Rattle.stack_meaning.specs.Changes.{reached}
use Rattle.stack_meaning.specs.Meaning.{Said}
use Rattle.stack_meaning.specs.Stops.{ReadStops}
use Rattle.stack_meaning.specs.Found.{HasGrown}
use Rattle.stack_meaning.specs.Kept.{AllKept}
use Rattle.stack_meaning.specs.Places.{Place, place_of, Expected, run_expected, LeafRead}

-- how a call ends, whatever the leaves return: with a permitted value or with a possible fault; the number of a leaf
-- that failed counts from 1, and `NoMemory` means that an allocation failed
abbrev pub Ends : {A : Type 0} → (A → Type 0) → (Fault → Type 0) → List Device → List Device → Result A IoFault → Type 0
Ends Is May old new (Ok x) = Is x
Ends Is May old new (Err (io.Stack fault)) = May fault
Ends Is May old new (Err (io.Device i)) = (1 ≤ i) × LeafFailed (i - 1) old new
Ends Is May old new (Err io.NoMemory) = IsOutOfMemory largest_allocation

-- the result if the leaves below are steady: the meaning, unless a device or an allocation failed
abbrev pub Answers : {A : Type 0} → (A → List ℕ) → Outcome → Result A IoFault → Type 0
Answers bytes_of meaning (Ok x) = meaning ≡ Ok (bytes_of x)
Answers bytes_of meaning (Err (io.Stack fault)) = meaning ≡ Err fault
Answers bytes_of meaning (Err (io.Device i)) = Unit {0}
Answers bytes_of meaning (Err io.NoMemory) = Unit {0}

-- the leaves below are steady; and if a `verity` line may be met, of what is stored or may be restored in place of a block no two share a
-- digest
pub record IsCertain {A : Type 0} (wanted : Expected A) (leaves : List Device) : Type 0 where
  pub steady : AreSteady wanted.leaves leaves
  pub agrees : wanted.faults mismatch → wanted.agrees (steady_images leaves)

-- the effect of a call on the leaves, and its result
pub record Gets {A : Type 0} (wanted : Expected A) (old new : List Device) (result : Result A IoFault) : Type 0 where
  pub moved : AreRead old wanted.cost new
  pub may : Ends wanted.is wanted.faults old new result
  pub exact : IsCertain wanted old → Answers wanted.bytes_of (wanted.means (steady_images old)) result

-- the bytes of the buffer that was filled, or the fault
abbrev pub buffer_answer : Result Unit IoFault → List ℕ → Result (List ℕ) IoFault
buffer_answer (Ok x) bytes = Ok bytes
buffer_answer (Err fault) bytes = Err fault

-- a `verity` line is on the path of one of n sectors from `first` on
abbrev pub MeetVerity : (ℕ → Said) → ℕ → ℕ → Type 0
MeetVerity said first n = SomeOf (λ s. (said s).meets mismatch) first n

-- a read of n sectors from `first` on allocates memory only if a `verity` line is on their path; otherwise, it leaves
-- each leaf unchanged that none of the sectors reaches, and a fault ends it where it occurs
pub record IsPlain (said : ℕ → Said) (first n : ℕ) (old new : List Device) (result : Result Unit IoFault) : Type 0 where
  pub memory : result ≡ Err io.NoMemory → MeetVerity said first n
  pub leaf : (MeetVerity said first n → ⊥) → (i : ℕ) (d : Device) → ((t : ℕ) → reached (λ s. (said s).reaches) first n (i, t) → ⊥) → slice_index_or new i d ≡ slice_index_or old i d
  pub stops : (MeetVerity said first n → ⊥) → ReadStops said first n old new result

-- a read of n sectors of a place from `first` on; each sector may have its bytes with the chains present after the
-- read
pub record Finds (place : Place) (c : Configuration) (first n : ℕ) (did : LeafRead) (answer : Result (List ℕ) IoFault) : Type 0 where
  pub got : Gets (run_expected place did.after first n) did.old did.new answer
  pub grown : HasGrown (λ s. (place.said s).entries) first n did.before did.after
  pub kept : AllKept c did.new did.after

-- a read of n sectors of a leaf or device from `first` on
abbrev pub Reads : Configuration → Lower → ℕ → ℕ → LeafRead → Result (List ℕ) IoFault → Type 0
Reads c lower first n did answer = Finds (place_of c lower) c first n did answer
