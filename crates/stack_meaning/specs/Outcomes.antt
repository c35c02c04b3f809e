-- The contents of a sector: bytes, or a fault.
use Rattle.std.specs.Prelude.{ℕ, zero, suc, ◌*◌, List, [], ◌++◌, take, drop, Result, Ok, Err, All}
use Rattle.block_device.specs.Device.{filled_sector, IsSector}
use Rattle.stack_meaning.specs.declared.fault.Fault.{Fault}
use Rattle.stack_meaning.specs.declared.fault.Fault.TheVariants.{ErrorTarget, Mismatch}

-- why a sector has no bytes
abbrev pub error_target : Fault
error_target = ErrorTarget

abbrev pub mismatch : Fault
mismatch = Mismatch

-- the sectors of each leaf, in order
abbrev pub Images : Type 0
Images = List (List (List ℕ))

-- each sector has 512 bytes
abbrev pub AreWhole : Images → Type 0
AreWhole images = All (λ image. All IsSector image) images

-- a leaf and one of its sectors, numbered from 0
abbrev pub LeafSector : Type 0
LeafSector = ℕ × ℕ

-- the bytes, or the fault in their place
abbrev pub Outcome : Type 0
Outcome = Result (List ℕ) Fault

unfoldable pub zero_sector : List ℕ
zero_sector = filled_sector 0

-- a function applied to the bytes, if there are any
abbrev pub changed_outcome : (List ℕ → List ℕ) → Outcome → Outcome
changed_outcome f (Ok bytes) = Ok (f bytes)
changed_outcome f (Err fault) = Err fault

abbrev pub joint_outcome : Outcome → Outcome → Outcome
joint_outcome (Ok a) (Ok b) = Ok (a ++ b)
joint_outcome (Ok a) (Err fault) = Err fault
joint_outcome (Err fault) b = Err fault

-- n sectors concatenated, or the fault of the first sector that has one
abbrev pub span : (ℕ → Outcome) → ℕ → ℕ → Outcome
span at first zero = Ok []
span at first (suc n) = joint_outcome (at first) (span at (suc first) n)

-- the next step applied to the bytes, or the fault
abbrev pub then_outcome : Outcome → (List ℕ → Outcome) → Outcome
then_outcome (Ok bytes) next = next bytes
then_outcome (Err fault) next = Err fault

-- sector j of the bytes
abbrev pub part : List ℕ → ℕ → List ℕ
part bytes j = take 512 (drop (512 * j) bytes)
