use Rattle.aes_block.proofs.lemmas.PartLemmas.{IsWrittenTo}
use Rattle.aes_lanes.specs.Planes.{plane}
use Rattle.aes_lanes.proofs.planes.write_blocks.Given as goal

-- the vectors so far
abbrev pub invariant-loop-i : goal.invariant-loop-i
invariant-loop-i l = IsWrittenTo 32 (plane l.vectors) l.fn.blocks l.blocks l.i
