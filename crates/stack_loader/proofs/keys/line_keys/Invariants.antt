use Rattle.std.proofs.Common.{◌≡◌, ◌++◌, drop}
use Rattle.stack_config.specs.Keys.{keys_from}
use Rattle.stack_loader.proofs.keys.line_keys.Given as goal

-- the keys that were made, and those that are left
abbrev pub invariant-loop-i : goal.invariant-loop-i
invariant-loop-i l = l.list.items ++ keys_from l.i (drop l.i l.lines) ≡ keys_from 0 l.lines
