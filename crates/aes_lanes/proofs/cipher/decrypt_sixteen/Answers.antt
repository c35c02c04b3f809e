use Rattle.std.proofs.Common.{◌≡◌, ℕ, ◌+◌, ◌-◌, ◌%◌, sym, ap, ◌∙◌, refl, arith}
use Rattle.aes_block.specs.Blocks.{block}
use Rattle.aes_block.specs.KeyExpansion.{round_key}
use Rattle.aes_block.specs.Rounds.{add_round_key}
use Rattle.aes_block.specs.Cipher.{inverse_rounds, inverse_cipher_with}
use Rattle.aes_block.proofs.lemmas.BlockLemmas.{joined-same}
use Rattle.aes_block.proofs.lemmas.CipherLemmas.{inverse_rounds_more}
use Rattle.aes_lanes.specs.Constant.{add_constant}
use Rattle.aes_lanes.specs.Planes.{lane_block, shifted}
use Rattle.aes_lanes.proofs.KeyLemmas.{AreCopies-first, AreCopies-later}
use Rattle.aes_lanes.proofs.cipher.decrypt_sixteen.Goals as goal

pub loop-i-init : goal.loop-i-init
loop-i-init c = record {
  planes = c.first_inverse_key-state.ensures.planes;
  blocks = λ w hold j h.
      let n = c.args.rounds in
      let all : n - 1 + 1 ≡ n = omega (arith, c.requires.rounds) in
      ap (λ m. inverse_rounds w (n - 1) (add_constant (shifted m (lane_block c.first_inverse_key-state.result j)))) all
      ∙ ap (inverse_rounds w (n - 1)) (c.first_inverse_key-state.ensures.blocks n (round_key w n) (omega (arith, c.requires.rounds)) (AreCopies-later n w c.args.keys.now _ 2 n hold c.planes.ensures (omega (arith, c.requires.rounds)) (omega arith) (omega (arith, c.requires.rounds))) j h
      ∙ ap (λ s. add_round_key s (round_key w n)) (c.planes_of.ensures.blocks j h));
}

pub loop-i-preserved : goal.loop-i-preserved
loop-i-preserved c = record {
  planes = c.inverse_round-state.ensures.planes;
  blocks = λ w hold j h.
      let n : ℕ = c.loop-i.i - 1 in
      let after : n - 1 + 1 ≡ n = omega arith in
      let x = lane_block c.loop-i.state j in
      ap (λ m. inverse_rounds w (n - 1) (add_constant (shifted m (lane_block c.inverse_round-state.result j)))) after
      ∙ ap (inverse_rounds w (n - 1)) (c.inverse_round-state.ensures.blocks n (round_key w n) refl (AreCopies-later c.args.rounds w c.args.keys.now _ (n % 4) n hold c.planes-in-loop-i.ensures (omega arith) (omega arith) refl) j h)
      ∙ sym (inverse_rounds_more w n (add_constant (shifted (n + 1) x)) (omega arith))
      ∙ c.loop-i.invariant.blocks w hold j h;
}

pub returns : goal.returns
unfolding inverse_cipher_with
returns c = λ w hold.
    let n = c.args.rounds in
    let none : c.loop-i.i - 1 ≡ 0 = omega arith in
    c.write_blocks.ensures
    ∙ joined-same (lane_block c.last_inverse_round-last.result) (λ j. inverse_cipher_with n w (block c.args.blocks.now j)) 16 (λ j h.
    let all = rw none at (c.loop-i.invariant.blocks w hold j h) in
    c.last_inverse_round-last.ensures.blocks (round_key w 0) (AreCopies-first n w c.args.keys.now _ hold c.planes-2.ensures) j h ∙ all)
