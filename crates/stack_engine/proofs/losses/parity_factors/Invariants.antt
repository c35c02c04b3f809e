use Rattle.std.proofs.Common.{◌≡◌, ◌<◌, ◌+◌, ◌-◌, ℕ, length}
use Rattle.std.specs.Prelude.{slice_index}
use Rattle.reed_solomon.specs.Factors.{erasure_factor}
use Rattle.stack_engine.proofs.losses.parity_factors.Given as goal

abbrev pub invariant-loop-k : goal.invariant-loop-k
invariant-loop-k l = (length l.ends ≡ 24) × ((k : ℕ) → k < l.k → slice_index l.ends k ≡ erasure_factor l.places l.place (255 - l.roots + k))
