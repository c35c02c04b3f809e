use Rattle.std.proofs.Common.{get_or}
use Rattle.aes_block.proofs.lemmas.BlockLemmas.{IsWritten}
use Rattle.xts_sector.specs.Tweak.{unit_number}
use Rattle.xts_sector.proofs.first_tweaks.put_numbers.Given as goal

-- the numbers so far
abbrev pub invariant-loop-j : goal.invariant-loop-j
invariant-loop-j l = IsWritten (λ k. unit_number (get_or l.numbers k 0)) l.fn.blocks l.blocks l.j
