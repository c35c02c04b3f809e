use Rattle.std.proofs.Common.{◌≡◌, ◌<◌, get_or, ℕ}
use Rattle.stack_meaning.specs.Found.{FoundRecord, found_entry}
use Rattle.stack_lines.proofs.tree.find.Given as goal

-- none of those that were looked at is of that block
abbrev pub invariant-loop-one : goal.invariant-loop-one
invariant-loop-one l = record {
  at : l.at ≡ l.one-index;
  none : (k : ℕ) → k < l.one-index → (x : FoundRecord) → found_entry (get_or l.found k x) ≡ (l.device, l.line, l.index) → ⊥;
}
