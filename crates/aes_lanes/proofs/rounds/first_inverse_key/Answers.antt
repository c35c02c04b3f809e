use Rattle.std.proofs.Common.{ap, ◌∙◌, refl, arith}
use Rattle.aes_block.specs.Rounds.{add_round_key}
use Rattle.aes_lanes.specs.Constant.{add_constant}
use Rattle.aes_lanes.specs.Planes.{lane_block, shifted}
use Rattle.aes_lanes.proofs.ConstantLemmas.{length-add_round_key, add_constant-twice, add_round_key-constant}
use Rattle.aes_lanes.proofs.ShiftLemmas.{length-block_of, shifted-around, shifted-zero, shifted-back}
use Rattle.aes_lanes.proofs.rounds.first_inverse_key.Goals as goal

pub returns-clause-blocks : goal.returns-clause-blocks
returns-clause-blocks c = λ s k same copies j h.
    let x = lane_block c.args.q.now j in
    let once = lane_block c.inv_shift_rows-once.result j in
    let back = ap (shifted 2) (c.inv_shift_rows-back.ensures.blocks j h) ∙ shifted-back 1 2 once (length-block_of c.inv_shift_rows-once.result j) refl
    ∙ ap (shifted 1) (c.inv_shift_rows-once.ensures.blocks j h) ∙ shifted-back 0 1 x (length-block_of c.args.q.now j) refl ∙ shifted-zero x in
    ap add_constant (shifted-around s 2 (lane_block c.add_round_key.result j) (length-block_of c.add_round_key.result j) (omega (arith, same)) ∙ c.add_round_key.ensures.blocks 2 (add_constant k) copies j h ∙ ap (λ b. add_round_key b (add_constant k)) back ∙ add_round_key-constant x k)
    ∙ add_constant-twice (add_round_key x k) (length-add_round_key x k)
