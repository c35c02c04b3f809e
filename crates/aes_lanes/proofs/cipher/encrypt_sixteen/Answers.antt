use Rattle.std.proofs.Common.{◌≡◌, ℕ, ◌+◌, ◌-◌, ◌%◌, sym, ap, ◌∙◌, refl, arith}
use Rattle.aes_block.specs.Blocks.{block}
use Rattle.aes_block.specs.KeyExpansion.{round_key}
use Rattle.aes_block.specs.Rounds.{sub_bytes, shift_rows, mix_columns, add_round_key}
use Rattle.aes_block.specs.Cipher.{state_after, cipher_with}
use Rattle.aes_block.proofs.lemmas.BlockLemmas.{joined-same}
use Rattle.aes_block.proofs.lemmas.CipherLemmas.{state_after_more}
use Rattle.aes_lanes.specs.Planes.{lane_block, shifted}
use Rattle.aes_lanes.proofs.KeyLemmas.{AreCopies-first, AreCopies-later}
use Rattle.aes_lanes.proofs.ShiftLemmas.{shifted-zero}
use Rattle.aes_lanes.proofs.cipher.encrypt_sixteen.Goals as goal

pub loop-i-init : goal.loop-i-init
loop-i-init c = record {
  planes = c.add_round_key-state.ensures.planes;
  blocks = λ w hold j h.
      c.add_round_key-state.ensures.blocks 0 (round_key w 0) (AreCopies-first c.args.rounds w c.args.keys.now _ hold c.planes.ensures) j h
      ∙ ap (λ s. add_round_key s (round_key w 0)) (shifted-zero _ ∙ c.planes_of.ensures.blocks j h);
}

pub loop-i-preserved : goal.loop-i-preserved
loop-i-preserved c = record {
  planes = c.round-state.ensures.planes;
  blocks = λ w hold j h.
      let i = c.loop-i.i in
      let s : ℕ = i - 1 in
      let old = block c.args.blocks.now j in
      let after : i + 1 - 1 ≡ s + 1 = omega arith in
      let now : i ≡ i + 1 - 1 = omega arith in
      ap (λ n. shifted n (lane_block c.round-state.result j)) after
      ∙ c.round-state.ensures.blocks s (round_key w i) (omega arith) (AreCopies-later c.args.rounds w c.args.keys.now _ (i % 4) i hold c.planes-in-loop-i.ensures (omega arith) (omega arith) refl) j h
      ∙ ap (λ x. add_round_key (mix_columns (shift_rows (sub_bytes x))) (round_key w i)) (c.loop-i.invariant.blocks w hold j h)
      ∙ sym (state_after_more w old i (omega arith))
      ∙ ap (state_after w old) now;
}

pub returns : goal.returns
unfolding cipher_with
returns c = λ w hold.
    let n = c.args.rounds in
    let done : c.loop-i.i - 1 ≡ n - 1 = omega arith in
    c.write_blocks.ensures
    ∙ joined-same (lane_block c.last_round-last.result) (λ j. cipher_with n w (block c.args.blocks.now j)) 16 (λ j h.
    c.last_round-last.ensures.blocks (c.loop-i.i - 1) (round_key w n) (omega (arith, done, c.requires.rounds)) (AreCopies-later n w c.args.keys.now _ 2 n hold c.planes-2.ensures (omega (arith, c.requires.rounds)) (omega arith) (omega (arith, c.requires.rounds))) j h
    ∙ ap (λ x. add_round_key (shift_rows (sub_bytes x)) (round_key w n)) (c.loop-i.invariant.blocks w hold j h ∙ ap (state_after w (block c.args.blocks.now j)) done))
