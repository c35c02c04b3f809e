use Rattle.std.proofs.Common.{◌≡◌, ℕ, ◌+◌, ◌-◌, ◌*◌, ◌/◌, length, take, drop, ap, ◌∙◌, arith}
use Rattle.std.proofs.lemmas.List.{length-take-le, length-drop}
use Rattle.aes_block.specs.Blocks.{block, cipher_blocks}
use Rattle.aes_block.specs.KeyExpansion.{rounds}
use Rattle.aes_block.specs.Cipher.{inverse_cipher, inverse_cipher_with}
use Rattle.aes_block.proofs.lemmas.BlockLemmas.{joined-same}
use Rattle.aes_block.proofs.lemmas.PartLemmas.{IsWrittenTo-none}
use Rattle.aes_block.proofs.lemmas.CipherLemmas.{cipher-inverse_cipher}
use Rattle.aes_block.proofs.lemmas.CipherBlocksLemmas.{length-inverse_cipher, inverse_cipher_blocks_undone}
use Rattle.aes_lanes.proofs.VectorLemmas.{length-block, IsBytes-block}
use Rattle.aes_lanes.proofs.BlocksLemmas.{rounds_between, HoldKeys-with, inverse_cipher-with, part_written, inverse_rest_written}
use Rattle.aes_lanes.proofs.blocks.decrypt_blocks.Goals as goal

pub decrypt_sixteen-requires : goal.decrypt_sixteen-requires
decrypt_sixteen-requires c =
    let len = c.schedule-schedule.ensures.len in
    let between = rounds_between c.args.key.now c.schedule-schedule.ensures.key.0 in
    let a : ℕ = 256 * c.loop-i.i in
    let size : a + 256 - a ≡ 256 = omega arith in
    record {
      blocks = length-take-le (a + 256 - a) (drop a c.loop-i.blocks) (omega (arith, length-drop a c.loop-i.blocks, c.loop-i.auto, c.loop-i-test.true)) ∙ size;
      rounds = (omega (arith, len, between), omega (arith, len, between));
    }

pub loop-i-init : goal.loop-i-init
loop-i-init c = record { bytes = λ i. (c.type_inv.blocks i).fits; written = IsWrittenTo-none 16 _ _ }

pub loop-i-preserved : goal.loop-i-preserved
loop-i-preserved c =
    let key = c.args.key.now in
    let w = c.schedule-schedule.result.now in
    let now = c.loop-i.blocks in
    let a : ℕ = 256 * c.loop-i.i in
    let k : ℕ = a + 256 - a in
    let part = take k (drop a now) in
    let n : ℕ = length w / 16 - 1 in
    let count : n ≡ rounds key = omega (arith, c.schedule-schedule.ensures.len) in
    let next : 16 * c.loop-i.i + 16 ≡ 16 * (c.loop-i.i + 1) = omega arith in
    let made = c.decrypt_sixteen.ensures w (HoldKeys-with key w c.args.keys.now n c.schedule-schedule.ensures.value count c.requires.keys) in
    let same = joined-same (λ j. inverse_cipher_with n w (block part j)) (λ j. inverse_cipher key (block part j)) 16 (λ j h. inverse_cipher-with key w (block part j) n c.schedule-schedule.ensures.value count) in
    record {
      bytes = c.loop-i.invariant.bytes;
      written = rw (← next) (part_written (inverse_cipher key) (length-inverse_cipher key) c.args.blocks.now now (16 * c.loop-i.i) 16 a k (omega arith) (omega arith) (omega (arith, c.loop-i.auto, c.loop-i-test.true))
          c.decrypt_sixteen.new.blocks (made ∙ same) c.loop-i.invariant.written);
    }

pub returns-clause-value : goal.returns-clause-value
returns-clause-value c =
    inverse_rest_written c.args.key.now c.args.blocks.now c.loop-i.blocks c.decrypt_blocks.new.bytes c.loop-i.i (omega arith) c.requires.whole c.loop-i.auto.blocks c.decrypt_blocks.ensures.value c.loop-i.invariant.written

pub returns-clause-inverse : goal.returns-clause-inverse
returns-clause-inverse c =
    let key = c.args.key.now in
    let old = c.args.blocks.now in
    ap (cipher_blocks key) (inverse_rest_written key old c.loop-i.blocks c.decrypt_blocks.new.bytes c.loop-i.i (omega arith) c.requires.whole c.loop-i.auto.blocks c.decrypt_blocks.ensures.value c.loop-i.invariant.written)
    ∙ inverse_cipher_blocks_undone key old c.requires.whole (λ j h.
    cipher-inverse_cipher key (block old j) c.schedule-schedule.ensures.key.1 (record { len = length-block old j (omega arith); bytes = IsBytes-block old j c.loop-i.invariant.bytes }))
