use Rattle.std.proofs.Common.{◌≡◌, ℕ, ◌+◌, ◌%◌, sym, ap, ◌∙◌, refl, arith}
use Rattle.aes_block.specs.Rounds.{inv_shift_rows, inv_sub_bytes, add_round_key, inv_mix_columns}
use Rattle.aes_lanes.specs.Constant.{add_constant}
use Rattle.aes_lanes.specs.Planes.{lane_block, shifted}
use Rattle.aes_lanes.proofs.ConstantLemmas.{length-add_round_key, length-add_constant, add_constant-twice, inv_mix_columns-constant, add_round_key-constant}
use Rattle.aes_lanes.proofs.ShiftLemmas.{ahead_lt, length-block_of, shifted-around, shifted-less, shifted-inv_sub_bytes, shifted-add_constant}
use Rattle.aes_lanes.proofs.rounds.inverse_round.Goals as goal

pub returns-clause-blocks : goal.returns-clause-blocks
returns-clause-blocks c = λ after k same copies j h.
    let t = c.args.shifts in
    let s : ℕ = after + 1 in
    let x = lane_block c.args.q.now j in
    let within : t % 4 ≡ after % 4 = omega (arith, same, c.requires.shifts) in
    let less = shifted-around t after (add_constant x) (length-add_constant x) within ∙ shifted-less after s (add_constant x) (length-add_constant x) refl ∙ ap inv_shift_rows (shifted-add_constant s x) in
    -- the state after InvShiftRows and InvSubBytes
    let v = inv_sub_bytes (inv_shift_rows (add_constant (shifted s x))) in
    let substituted = ap (shifted t) (c.inv_sub_bytes_with_constant-substituted.ensures.blocks j h) ∙ shifted-inv_sub_bytes t (add_constant x) ∙ ap inv_sub_bytes less in
    let keyed = c.add_round_key-keyed.ensures.blocks t (add_constant k) copies j h ∙ ap (λ b. add_round_key b (add_constant k)) substituted ∙ add_round_key-constant v k in
    let u = shifted t (lane_block c.add_round_key-keyed.result j) in
    ap add_constant (sym (shifted-around t after (lane_block c.inv_mix_columns.result j) (length-block_of c.inv_mix_columns.result j) within) ∙ c.inv_mix_columns.ensures.blocks j h)
    ∙ sym (inv_mix_columns-constant u (λ r c hr hc. ahead_lt _ t j r c hr hc))
    ∙ ap inv_mix_columns (ap add_constant keyed ∙ add_constant-twice (add_round_key v k) (length-add_round_key v k))
