use Rattle.std.proofs.Common.{◌+◌, ◌*◌, ◌/◌, length, min}
use Rattle.aes_block.proofs.lemmas.PartLemmas.{IsWrittenTo}
use Rattle.xts_sector.specs.Units.{unit}
use Rattle.stack_meaning.specs.Units.{encrypted_unit}
use Rattle.stack_lines.proofs.units.encrypt.Given as goal

-- the units so far
abbrev pub invariant-loop-i : goal.invariant-loop-i
invariant-loop-i l = IsWrittenTo l.size (λ j. encrypted_unit l.part.units l.part.key.now (l.k + j) (unit l.size l.fn.units j)) l.fn.units l.units (min (16 * l.i) (length l.fn.units / l.size))
