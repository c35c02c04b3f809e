-- Laws of the pieces of a pass.
use Rattle.std.specs.Prelude.{◌≡◌, ℕ, ◌+◌, ◌≤◌, Bool, false, List, [], ◌∷◌, length, sum}
use Rattle.stack_lines.specs.Touches.{failures_of}
use Rattle.stack_engine.specs.Healing.{HasNoParity}
use Rattle.stack_engine.specs.Stacks.{StackRecord}
use Rattle.stack_recovery.specs.PassPieces.{ArePassPieces, IsNextPiece, Pass, Scanned}
use Rattle.stack_recovery.specs.Skims.{AreSkims, IsSkimOver, Skim, marks_of}
use Rattle.stack_recovery.specs.Surveys.{Finding, PieceRead, again, copied, had, kept, lost, probed, trimmed}

-- a piece that is read is the one of at most 128 sectors; sectors that were read before are in none
abbrev pub IsLongestPiece : Pass → ℕ → ℕ → Finding → Type 0
IsLongestPiece p first n kept = Unit {0}
IsLongestPiece p first n other = IsNextPiece p first 128 n

-- each piece of a pass in large pieces is the one of at most 128 sectors
abbrev pub AreLongestPieces : Pass → ℕ → List Skim → Type 0
AreLongestPieces p first [] = Unit {0}
AreLongestPieces p first (s ∷ more) = IsLongestPiece p first s.piece.count s.piece.found × AreLongestPieces p (first + length (marks_of s)) more

-- In such a pass each piece has at most 128 sectors, and no other limit.
abbrev pub SkimmedPiecesAreLongest : Type 0
SkimmedPiecesAreLongest = (most : ℕ) (p : Pass) (first wanted : ℕ) (skims : List Skim) → AreSkims most p first wanted skims → AreLongestPieces p first skims

-- no sector is skipped after a piece
abbrev pub AreUnskipped : List Skim → Type 0
AreUnskipped [] = Unit {0}
AreUnskipped (s ∷ more) = (s.skip ≡ 0) × AreUnskipped more

-- A second pass in large pieces skips nothing, so each sector that it doesn't read is in a piece whose read failed.
abbrev pub SweepsTryAll : Type 0
SweepsTryAll = (p : Pass) (first : ℕ) (skims : List Skim) → AreSkims 0 p first 0 skims → AreUnskipped skims

-- ---- without scraping

-- no sectors are unscraped by it, or read backwards
abbrev pub IsScraped : Finding → Type 0
IsScraped (trimmed behind fault) = ⊥
IsScraped copied = ⊥
IsScraped other = Unit {0}

abbrev pub AreScraped : List PieceRead → Type 0
AreScraped [] = Unit {0}
AreScraped (r ∷ more) = IsScraped r.found × AreScraped more

-- A pass that scrapes leaves no sector unscraped.
abbrev pub PassesScrape : Type 0
PassesScrape = (scan : Scanned) (p : Pass) (reads : List PieceRead) → scan.no_scrape ≡ false → ArePassPieces scan p reads → AreScraped reads

-- ---- failing reads

-- how many reads of a piece failed
abbrev pub failed_reads : Finding → ℕ
failed_reads (had bytes) = 0
failed_reads (lost fault) = 1
failed_reads (again fault) = 1
failed_reads (probed behind bytes) = 0
failed_reads (trimmed behind fault) = 1
failed_reads copied = 0
failed_reads kept = 0

-- how many pieces of the first pass failed
abbrev pub failed_pieces : List Skim → ℕ
failed_pieces [] = 0
failed_pieces (s ∷ more) = failed_reads s.piece.found + failed_pieces more

-- Without parity, until the first pass has reached its end, the leaves fail at most once for each of its pieces that failed.
abbrev pub FailuresAreFew : Type 0
FailuresAreFew = (marks : List Bool) (d first : ℕ) (w : StackRecord) (skims : List Skim) (w' : StackRecord) → HasNoParity w.config → IsSkimOver marks d first w skims w'
    → sum (failures_of w'.leaves) ≤ sum (failures_of w.leaves) + failed_pieces skims
