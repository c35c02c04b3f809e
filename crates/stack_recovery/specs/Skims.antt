-- The pieces of a pass over a mapped device in large pieces, which skips ahead after a read that failed.
use Rattle.std.specs.Prelude.{◌≡◌, ◌≢◌, ℕ, ◌+◌, ◌-◌, min, Bool, true, false, List, [], ◌∷◌, ◌++◌, length, replicate}
use Rattle.std.specs.List.{flat_map}
use Rattle.block_device.specs.Call.{Call}
use Rattle.stack_meaning.specs.declared.fault.IoFault.TheVariants.{NoMemory}
use Rattle.stack_engine.specs.Stacks.{StackRecord}
use Rattle.stack_recovery.specs.Copies.{image_after}
use Rattle.stack_recovery.specs.Handing.{calls_found}
use Rattle.stack_recovery.specs.PassPieces.{IsNextPiece, Pass}
use Rattle.stack_recovery.specs.Skips.{skip_after}
use Rattle.stack_recovery.specs.Surveys.{Finding, IsPieceSurveyed, PieceRead, again, copied, had, kept, lost, probed, trimmed}

-- a piece, and how many sectors after it are skipped
pub record Skim : Type 0 where
  pub piece : PieceRead
  pub skip : ℕ

-- whether the sectors of a piece were read, now or before
abbrev pub is_read : Finding → Bool
is_read (had bytes) = true
is_read (lost fault) = false
is_read (again fault) = false
is_read (probed behind bytes) = false
is_read (trimmed behind fault) = false
is_read copied = false
is_read kept = true

-- whether a read of the piece failed
abbrev pub is_failed : Finding → Bool
is_failed (again fault) = true
is_failed other = false

-- the marks of the sectors of a piece and of those that are skipped after it, and of several pieces
abbrev pub marks_of : Skim → List Bool
marks_of s = replicate s.piece.count (is_read s.piece.found) ++ replicate s.skip false

abbrev pub skim_marks : List Skim → List Bool
skim_marks skims = flat_map marks_of skims

-- whether the sectors are in failed pieces
abbrev pub failed_of : Skim → List Bool
failed_of s = replicate s.piece.count (is_failed s.piece.found) ++ replicate s.skip false

abbrev pub skim_failed : List Skim → List Bool
skim_failed skims = flat_map failed_of skims

-- The pieces are read in order, from sector `first` of device d on, and leave the stack w'. Sectors that are skipped aren't read.
abbrev pub IsSkimOver : List Bool → ℕ → ℕ → StackRecord → List Skim → StackRecord → Type 0
IsSkimOver marks d first w [] w' = w' ≡ w
IsSkimOver marks d first w (s ∷ more) w' = IsPieceSurveyed marks d first w s.piece × IsSkimOver marks d (first + length (marks_of s)) s.piece.after more w'

-- Each piece is that of at most 128 sectors. After a failed read `wanted` sectors are skipped, or those up to the end of the
-- piece's run of unread sectors. No sector is lost in such a pass.
abbrev pub IsSkimFound : Pass → ℕ → ℕ → ℕ → Finding → ℕ → Type 0
IsSkimFound p first wanted n (had bytes) skip = IsNextPiece p first 128 n × (skip ≡ 0)
IsSkimFound p first wanted n (lost fault) skip = ⊥
IsSkimFound p first wanted n (again fault) skip = (fault ≢ NoMemory) × (next : IsNextPiece p first 128 n) × (skip ≡ min wanted (next.end - (first + n)))
IsSkimFound p first wanted n (probed behind bytes) skip = ⊥
IsSkimFound p first wanted n (trimmed behind fault) skip = ⊥
IsSkimFound p first wanted n copied skip = ⊥
IsSkimFound p first wanted n kept skip = skip ≡ 0

-- the pieces one after the other, from sector `first` on and with `wanted` sectors to be skipped after a failed read, and later at
-- most so many
abbrev pub AreSkims : ℕ → Pass → ℕ → ℕ → List Skim → Type 0
AreSkims most p first wanted [] = Unit {0}
AreSkims most p first wanted (s ∷ more) = IsSkimFound p first wanted s.piece.count s.piece.found s.skip × AreSkims most p (first + length (marks_of s)) (skip_after most wanted s.piece.found) more

-- how many sectors are to be skipped after these pieces
abbrev pub skip_from : ℕ → ℕ → List Skim → ℕ
skip_from most wanted [] = wanted
skip_from most wanted (s ∷ more) = skip_from most (skip_after most wanted s.piece.found) more

-- the image after the pieces, from sector `first` on
abbrev pub skim_image : ℕ → List Skim → List (List ℕ) → List (List ℕ)
skim_image first [] image = image
skim_image first (s ∷ more) image = skim_image (first + length (marks_of s)) more (image_after first s.piece.found s.piece.count image)

-- the calls on the output device for the pieces, from sector `first` on
abbrev pub skim_calls : ℕ → List Skim → List Call
skim_calls first [] = []
skim_calls first (s ∷ more) = calls_found first s.piece.found ++ skim_calls (first + length (marks_of s)) more
