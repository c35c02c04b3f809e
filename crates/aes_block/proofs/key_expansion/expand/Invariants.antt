use Rattle.std.proofs.Common.{◌≡◌, ◌-◌, ◌*◌, take}
use Rattle.aes_block.specs.KeyExpansion.{expansion}
use Rattle.aes_block.proofs.key_expansion.expand.Given as goal

-- the words so far
abbrev pub invariant-loop-i : goal.invariant-loop-i
invariant-loop-i l = take (4 * l.i) l.schedule ≡ expansion l.nk l.fn.key (l.i - l.nk)
