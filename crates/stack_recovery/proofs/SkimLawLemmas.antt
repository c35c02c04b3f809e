-- The pieces of a pass in large pieces.
use Rattle.std.proofs.Common.{◌≡◌, ℕ, ◌+◌, [], ◌∷◌, length, refl, subst, arith}
use Rattle.stack_recovery.specs.PassLaws.{IsLongestPiece, SkimmedPiecesAreLongest, SweepsTryAll}
use Rattle.stack_recovery.specs.PassPieces.{Pass}
use Rattle.stack_recovery.specs.Skims.{AreSkims, IsSkimFound, marks_of}
use Rattle.stack_recovery.specs.Skips.{skip_after}
use Rattle.stack_recovery.specs.Surveys.{Finding, again, copied, had, kept, lost, probed, trimmed}

longest-found : (p : Pass) (first wanted n : ℕ) (found : Finding) (skip : ℕ) → IsSkimFound p first wanted n found skip → IsLongestPiece p first n found
longest-found p first wanted n (had bytes) skip h = h.0
longest-found p first wanted n (lost fault) skip h = absurd h
longest-found p first wanted n (again fault) skip h = h.1
longest-found p first wanted n (probed behind bytes) skip h = absurd h
longest-found p first wanted n (trimmed behind fault) skip h = absurd h
longest-found p first wanted n copied skip h = absurd h
longest-found p first wanted n kept skip h = tt

pub skimmed-longest : SkimmedPiecesAreLongest
skimmed-longest most p first wanted [] h = tt
skimmed-longest most p first wanted (s ∷ more) h = (longest-found p first wanted s.piece.count s.piece.found s.skip h.0, skimmed-longest most p (first + length (marks_of s)) (skip_after most wanted s.piece.found) more h.1)

-- ---- a pass that skips nothing

unskipped : (p : Pass) (first n : ℕ) (found : Finding) (skip : ℕ) → IsSkimFound p first 0 n found skip → skip ≡ 0
unskipped p first n (had bytes) skip h = h.1
unskipped p first n (lost fault) skip h = absurd h
unskipped p first n (again fault) skip h = omega (arith, h.2)
unskipped p first n (probed behind bytes) skip h = absurd h
unskipped p first n (trimmed behind fault) skip h = absurd h
unskipped p first n copied skip h = absurd h
unskipped p first n kept skip h = h

pub still-none : (found : Finding) → skip_after 0 0 found ≡ 0
still-none (had bytes) = omega arith
still-none (lost fault) = refl
still-none (again fault) = omega arith
still-none (probed behind bytes) = refl
still-none (trimmed behind fault) = refl
still-none copied = refl
still-none kept = refl

pub sweeps-all : SweepsTryAll
sweeps-all p first [] h = tt
sweeps-all p first (s ∷ more) h = (
  unskipped p first s.piece.count s.piece.found s.skip h.0,
  sweeps-all p (first + length (marks_of s)) more (subst (λ (w : ℕ). AreSkims 0 p (first + length (marks_of s)) w more) (still-none s.piece.found) h.1),
)
