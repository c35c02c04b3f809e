-- Blocks that must have a digest.
use Rattle.std.specs.Prelude.{ℕ, List, Ok, Err, if◌then◌else◌}
use Rattle.std.specs.Str.{bytes_eq}
use Rattle.tree_shape.specs.Digests.{digest}
use Rattle.stack_meaning.specs.Outcomes.{Outcome, mismatch, span, then_outcome}

-- the block if it has the expected digest, and otherwise the fault Mismatch
abbrev pub checked : List ℕ → List ℕ → List ℕ → Outcome
checked salt expected block = if bytes_eq (digest salt block) expected then Ok block else Err mismatch

-- n sectors from `first` on as a verified block, or the fault of the first of them that has one
abbrev pub checked_span : (ℕ → Outcome) → ℕ → ℕ → List ℕ → List ℕ → Outcome
checked_span at first n salt expected = then_outcome (span at first n) (checked salt expected)
