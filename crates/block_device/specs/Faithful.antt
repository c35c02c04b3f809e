-- Files that return what was written to them. No contract of the system's calls says whether a file does, nor what it holds. Both
-- are opaque, and what calls do to a faithful file (`KeepsFaith`) is the assumption: no other crate can unfold or refute it, so what is
-- proved of a steady file is proved under it, and only under it.
use Rattle.std.specs.Prelude.{◌≡◌, ◌+◌, ◌/◌, ◌%◌, ◌≤◌, ℕ, Bool, false, IsTrue, List, length, take, drop}
use Rattle.std.specs.List.{concat}
use Rattle.std.specs.declared.fs.File.{File}
use Rattle.std.proofs.Common.{refl}
use Rattle.std.proofs.lemmas.Bool.{false≢true}
use Rattle.block_device.specs.Call.{Call, Read, Sync, Write}
use Rattle.block_device.specs.Device.{Device, IsWhole, run_of, sectors_of, spliced, zeros_image}
use Rattle.block_device.specs.FileCalls.{Called}
use Rattle.block_device.specs.Whole.{whole_zeros}

-- from this state of the open file on, reads return what was written, and nobody else writes the file
pub is_faithful : File → Bool
is_faithful file = false

-- its first n sectors
pub held_by : File → ℕ → List (List ℕ)
held_by file n = zeros_image n

-- what a call leaves of the sectors that a file holds
abbrev pub HoldsAfter : Bool → List (List ℕ) → Call → List (List ℕ) → Type 0
HoldsAfter faithful old (Read first bytes ok) new =
    (IsTrue faithful → new ≡ old)
    × (IsTrue ok → IsTrue faithful → bytes ≡ concat (run_of old first (length bytes / 512)))
HoldsAfter faithful old (Write first bytes ok) new =
    (IsTrue faithful → take first new ≡ take first old)
    × (IsTrue faithful → drop (first + length bytes / 512) new ≡ drop (first + length bytes / 512) old)
    × (IsTrue ok → IsTrue faithful → new ≡ spliced old first (sectors_of (length bytes / 512) bytes))
HoldsAfter faithful old (Sync ok) new = new ≡ old

-- the call is one of whole sectors, which are among the first n
abbrev pub LiesWithin : ℕ → Call → Type 0
LiesWithin n (Read first bytes ok) = (length bytes % 512 ≡ 0) × (first + length bytes / 512 ≤ n)
LiesWithin n (Write first bytes ok) = (length bytes % 512 ≡ 0) × (first + length bytes / 512 ≤ n)
LiesWithin n (Sync ok) = Unit {0}

-- what a call on a file means for it
pub record KeepsFaith (old : File) (call : Call) (new : File) (n : ℕ) : Type 0 where
  pub faithful : is_faithful new ≡ is_faithful old
  pub holds : HoldsAfter (is_faithful old) (held_by old n) call (held_by new n)

-- for this crate's proofs alone
unsettled : (file : File) → IsTrue (is_faithful file) → ⊥
unfolding is_faithful
unsettled file h = false≢true h

pub called-keeps_faith : (old : File) (call : Call) (new : File) (n : ℕ) → LiesWithin n call → Called old call new → KeepsFaith old call new n
unfolding is_faithful held_by
called-keeps_faith old (Read first bytes ok) new n within called = record { faithful = refl; holds = (λ faithful. absurd (unsettled old faithful), λ done faithful. absurd (unsettled old faithful)) }
called-keeps_faith old (Write first bytes ok) new n within called = record { faithful = refl; holds = (λ faithful. absurd (unsettled old faithful), λ faithful. absurd (unsettled old faithful), λ done faithful. absurd (unsettled old faithful)) }
called-keeps_faith old (Sync ok) new n within called = record { faithful = refl; holds = refl }

-- the image of a device in a file is whole
pub whole_held : (d : Device) (file : File) → d.image ≡ held_by file d.size → IsWhole d
unfolding held_by
whole_held d file is = whole_zeros d is
