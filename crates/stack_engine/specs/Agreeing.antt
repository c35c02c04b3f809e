-- What an exact read asks of the images beneath `verity` lines with parity.
use Rattle.std.specs.Prelude.{◌≡◌, ◌≢◌, ℕ, Bool, List, ◌++◌}
use Rattle.tree_shape.specs.Digests.{digest}
use Rattle.dm_table.specs.declared.verity.Verity.{Verity}
use Rattle.stack_rules.specs.Records.{Configuration}
use Rattle.stack_meaning.specs.Agreement.{AgreesOn}
use Rattle.stack_meaning.specs.Outcomes.{Images}
use Rattle.stack_engine.specs.Healing.{HasNoParity}
use Rattle.stack_engine.specs.Laws.{IsSha256Collision}

-- nothing, if no `verity` line has parity
abbrev pub ImagesAgreeWithoutParity : Type 0
ImagesAgreeWithoutParity = (c : Configuration) → HasNoParity c → (these : ℕ → Bool) (images : Images) → AgreesOn c these images

-- if a block and another one that is restored in its place have one digest, they are two different inputs of one digest
abbrev pub DisagreeingBlocksCollide : Type 0
DisagreeingBlocksCollide = (v : Verity) (own restored : List ℕ) → restored ≢ own → digest v.salt restored ≡ digest v.salt own → IsSha256Collision (v.salt ++ restored) (v.salt ++ own)
