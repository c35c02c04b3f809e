-- Blocks that agree with what parity restores in their place.
use Rattle.std.specs.Prelude.{◌≡◌, ◌⊎◌, ℕ, ◌<◌, ◌≤◌, Bool, IsTrue, List, length, Some, Ok}
use Rattle.tree_shape.specs.Digests.{digest}
use Rattle.dm_table.specs.declared.parity.Parity.{Parity}
use Rattle.dm_table.specs.declared.table.Line.{Line}
use Rattle.dm_table.specs.declared.table.Target.TheVariants.{Verity as verity_target}
use Rattle.dm_table.specs.declared.verity.Verity.{Verity}
use Rattle.stack_rules.specs.Lines.{IsLine}
use Rattle.stack_rules.specs.Records.{Configuration}
use Rattle.stack_meaning.specs.Beneath.{below}
use Rattle.stack_meaning.specs.LeavesBeneath.{target_leaves}
use Rattle.stack_meaning.specs.Meaning.{none_said, said_by_name}
use Rattle.stack_meaning.specs.Outcomes.{Images}
use Rattle.stack_meaning.specs.Spares.{BlockSources, covered_block, restored_block, verified_blocks}
use Rattle.stack_meaning.specs.Erasures.{decoded_block}
use Rattle.stack_meaning.specs.targets.Verity.{sources_over}

-- what may be read as covered block j: the block as it is stored; or what parity restores in its place, by exclusive-or, or by the code
-- if blocks at any of these positions are lost
abbrev pub IsCandidate : Verity → Parity → BlockSources → ℕ → List ℕ → Type 0
IsCandidate v p from j block =
    (covered_block v from j ≡ Ok block)
    ⊎ ((restored_block v p from j ≡ Ok block) ⊎ ((lost : List ℕ) × (length lost ≤ p.roots) × (decoded_block v p from j lost ≡ Ok block)))

-- two such blocks with one digest are the same
abbrev pub BlockAgrees : Verity → Parity → BlockSources → ℕ → Type 0
BlockAgrees v p from j = (one other : List ℕ) → IsCandidate v p from j one → IsCandidate v p from j other → digest v.salt one ≡ digest v.salt other → one ≡ other

-- so do the data blocks and hash blocks of a line, if it has parity
abbrev pub LineAgrees : Verity → BlockSources → Type 0
LineAgrees v from = (p : Parity) → v.parity ≡ Some p → (j : ℕ) → j < verified_blocks v → BlockAgrees v p from j

-- over these images, so do those of each `verity` line that is on no other leaves than these
abbrev pub AgreesOn : Configuration → (ℕ → Bool) → Images → Type 0
AgreesOn c these images =
    (d l : ℕ) (line : Line) (v : Verity) → IsLine c d l line → line.target ≡ verity_target v → ((i : ℕ) → IsTrue (target_leaves c (verity_target v) i) → IsTrue (these i))
    → LineAgrees v (sources_over (below none_said (said_by_name c) (verity_target v)) images)
