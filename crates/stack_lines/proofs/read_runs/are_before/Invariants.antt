use Rattle.std.proofs.Common.{◌≡◌, ◌<◌, get_or, ℕ}
use Rattle.stack_meaning.specs.Found.{FoundRecord}
use Rattle.stack_lines.proofs.read_runs.are_before.Given as goal

-- those that were looked at are
abbrev pub invariant-loop-one : goal.invariant-loop-one
invariant-loop-one l = (k : ℕ) (x : FoundRecord) → k < l.one-index → (get_or l.found k x).device ≡ l.device → (get_or l.found k x).line ≡ l.line → (get_or l.found k x).chain.index < l.index
