use Rattle.std.proofs.Common.{◌≡◌, ℕ, ◌+◌, ◌*◌, ◌-◌, ◌++◌, length, sym, ap, ◌∙◌, refl, arith}
use Rattle.std.proofs.lemmas.Slice.{take-put_mid}
use Rattle.aes_block.specs.Blocks.{block, joined}
use Rattle.aes_block.specs.KeyExpansion.{round_key}
use Rattle.aes_block.specs.Rounds.{inv_mix_columns}
use Rattle.aes_block.proofs.lemmas.BlockLemmas.{joined_more, block-joined, block-take}
use Rattle.aes_block.proofs.StateColumnLemmas.{length-unmixed}
use Rattle.aes_block.proofs.key_expansion.unmixed.Goals as goal

pub loop-round-init : goal.loop-round-init
unfolding joined
loop-round-init c = refl

pub loop-round-preserved : goal.loop-round-preserved
loop-round-preserved c =
    let w = c.args.schedule.now in
    let n = c.loop-round.round in
    let now = c.loop-round.unmixed in
    let out = c.copy_from_slice.new.self in
    let is : out ≡ inv_mix_columns (round_key w n) = cc in
    let long : length out ≡ 16 = ap length is ∙ length-unmixed (round_key w n) in
    let put = take-put_mid (16 * n) (16 * n + 16 - 16 * n) now out (16 * (n + 1)) (omega (arith, long)) (omega arith) in
    put ∙ ap (λ xs. xs ++ out) c.loop-round.invariant ∙ ap (λ xs. joined (λ r. inv_mix_columns (round_key w r)) n ++ xs) is ∙ sym (joined_more (λ r. inv_mix_columns (round_key w r)) n)

pub returns : goal.returns
returns c r h =
    let w = c.args.schedule.now in
    let keys = λ (i : ℕ). inv_mix_columns (round_key w i) in
    let done : c.loop-round.round ≡ 15 = omega arith in
    sym (block-take c.loop-round.unmixed (16 * c.loop-round.round) r (omega arith))
    ∙ ap (λ bytes. block bytes r) (c.loop-round.invariant ∙ ap (joined keys) done)
    ∙ block-joined keys 15 r (λ i k. length-unmixed (round_key w i)) h
