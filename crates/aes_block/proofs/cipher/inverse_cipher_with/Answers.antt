use Rattle.std.proofs.Common.{◌≡◌, ◌-◌, ◌*◌, ◌<◌, ◌∙◌, drop, ap, sym, arith}
use Rattle.std.proofs.lemmas.List.{length-take-le, length-drop}
use Rattle.aes_block.specs.State.{IsBlock}
use Rattle.aes_block.specs.Rounds.{add_round_key, inv_shift_rows, inv_sub_bytes, inv_mix_columns}
use Rattle.aes_block.proofs.KeyScheduleLemmas.{IsBytes-round_key}
use Rattle.aes_block.specs.Columns.{state_of_columns}
use Rattle.aes_block.specs.KeyExpansion.{round_key}
use Rattle.aes_block.specs.Cipher.{inverse_rounds, inverse_cipher_with}
use Rattle.aes_block.proofs.lemmas.CipherLemmas.{inverse_rounds_more}
use Rattle.aes_block.proofs.RoundLemmas.{IsBlock-inv_sub_bytes, IsBlock-inv_shift_rows, inv_mix_columns-keyed}
use Rattle.aes_block.proofs.StateColumnLemmas.{IsBlock-state_of_columns}
use Rattle.aes_block.proofs.cipher.inverse_cipher_with.Goals as goal

pub loop-i-preserved : goal.loop-i-preserved
loop-i-preserved c =
    let w = c.args.schedule.now in
    let n = c.loop-i.i - 1 in
    let s = state_of_columns c.loop-i.state in
    let k = round_key w n in
    let left : 0 < n = omega arith in
    let back = inv_sub_bytes (inv_shift_rows s) in
    let is_block = IsBlock-inv_sub_bytes (inv_shift_rows s) (IsBlock-inv_shift_rows s (IsBlock-state_of_columns c.loop-i.state)) in
    let key : IsBlock k = record {
      len = length-take-le 16 (drop (16 * n) w) (omega (arith, length-drop (16 * n) w, c.requires.schedule));
      bytes = IsBytes-round_key w n (λ i. (c.type_inv.schedule i).fits);
    } in
    let unmixed : state_of_columns c.round_key-in-loop-i.result ≡ inv_mix_columns k = c.round_key-in-loop-i.ensures ∙ c.requires.unmixed n (omega arith) in
    let next = c.inverse_round-state.ensures ∙ ap (add_round_key (inv_mix_columns back)) unmixed ∙ inv_mix_columns-keyed back k is_block key in
    ap (inverse_rounds w (n - 1)) next ∙ sym (inverse_rounds_more w n s left) ∙ c.loop-i.invariant

pub returns : goal.returns
unfolding inverse_cipher_with
returns c =
    let done : c.loop-i.i - 1 ≡ 0 = omega arith in
    let all = rw done at c.loop-i.invariant in
    cc all
