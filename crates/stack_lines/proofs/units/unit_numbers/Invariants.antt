use Rattle.std.proofs.Common.{◌≡◌, ℕ, ◌+◌, ◌<◌, length, get_or}
use Rattle.stack_meaning.specs.Units.{crypt_unit_number}
use Rattle.stack_lines.proofs.units.unit_numbers.Given as goal

-- the numbers so far
abbrev pub invariant-loop-j : goal.invariant-loop-j
invariant-loop-j l = record {
  long : length l.numbers ≡ 16;
  made : (i : ℕ) → i < l.j → get_or l.numbers i 0 ≡ crypt_unit_number l.units (l.k + i);
}
