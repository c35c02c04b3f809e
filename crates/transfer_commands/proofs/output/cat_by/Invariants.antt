use Rattle.std.proofs.Common.{◌-◌, ◌+◌, ◌*◌, ◌≤◌}
use Rattle.stack_recovery.specs.Pieces.{IsPieceLimit}
use Rattle.transfer_commands.specs.Cats.{cat_side}
use Rattle.transfer_commands.proofs.CatLemmas.{IsCatting}
use Rattle.transfer_commands.proofs.output.cat_by.Given as goal

-- the sectors before this one were written out
abbrev pub invariant-pieces : goal.invariant-pieces
invariant-pieces g l = record {
  catting : IsCatting l.fn.d.0 l.fn.range.first (l.at - l.fn.range.first) l.end (cat_side l.fn.stack (g.W.Write.contents l.fn.writer.inner)) (cat_side l.stack (g.W.Write.contents l.writer.inner)) l.piece_limit;
  from : l.fn.range.first ≤ l.at;
  within : l.at ≤ l.end;
  piece_limit : IsPieceLimit l.piece_limit.most;
}

-- a piece that is lost in part makes the next one shorter
abbrev pub decreases-pieces : goal.decreases-pieces
decreases-pieces g l = 256 * (l.end - l.at) + l.piece_limit.most
