use Rattle.std.proofs.Common.{sym, ap, ◌∙◌, refl}
use Rattle.aes_block.specs.Rounds.{inv_shift_rows, inv_sub_bytes, add_round_key}
use Rattle.aes_lanes.specs.Constant.{add_constant}
use Rattle.aes_lanes.specs.Planes.{lane_block}
use Rattle.aes_lanes.proofs.ConstantLemmas.{length-add_constant}
use Rattle.aes_lanes.proofs.ShiftLemmas.{shifted-zero, shifted-less, shifted-add_constant}
use Rattle.aes_lanes.proofs.rounds.last_inverse_round.Goals as goal

pub returns-clause-blocks : goal.returns-clause-blocks
returns-clause-blocks c = λ k copies j h.
    let x = lane_block c.args.q.now j in
    let less = sym (shifted-zero (add_constant x)) ∙ shifted-less 0 1 (add_constant x) (length-add_constant x) refl ∙ ap inv_shift_rows (shifted-add_constant 1 x) in
    sym (shifted-zero (lane_block c.add_round_key.result j))
    ∙ c.add_round_key.ensures.blocks 0 k copies j h
    ∙ ap (λ b. add_round_key b k) (shifted-zero (lane_block c.inv_sub_bytes_with_constant-substituted.result j) ∙ c.inv_sub_bytes_with_constant-substituted.ensures.blocks j h ∙ ap inv_sub_bytes less)
