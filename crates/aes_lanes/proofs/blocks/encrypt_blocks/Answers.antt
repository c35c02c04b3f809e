use Rattle.std.proofs.Common.{◌≡◌, ℕ, ◌+◌, ◌-◌, ◌*◌, ◌/◌, length, take, drop, ap, ◌∙◌, arith}
use Rattle.std.proofs.lemmas.List.{length-take-le, length-drop}
use Rattle.aes_block.specs.Blocks.{block, inverse_cipher_blocks}
use Rattle.aes_block.specs.KeyExpansion.{rounds}
use Rattle.aes_block.specs.Cipher.{cipher, cipher_with}
use Rattle.aes_block.proofs.lemmas.BlockLemmas.{joined-same}
use Rattle.aes_block.proofs.lemmas.PartLemmas.{IsWrittenTo-none}
use Rattle.aes_block.proofs.lemmas.CipherLemmas.{inverse_cipher-cipher}
use Rattle.aes_block.proofs.lemmas.CipherBlocksLemmas.{length-cipher, cipher_blocks_undone}
use Rattle.aes_lanes.proofs.VectorLemmas.{length-block, IsBytes-block}
use Rattle.aes_lanes.proofs.BlocksLemmas.{rounds_between, HoldKeys-with, cipher-with, part_written, rest_written}
use Rattle.aes_lanes.proofs.blocks.encrypt_blocks.Goals as goal

pub encrypt_sixteen-requires : goal.encrypt_sixteen-requires
encrypt_sixteen-requires c =
    let len = c.schedule-schedule.ensures.len in
    let between = rounds_between c.args.key.now c.schedule-schedule.ensures.key.0 in
    let a : ℕ = 256 * c.loop-i.i in
    let size : a + 256 - a ≡ 256 = omega arith in
    record {
      blocks = length-take-le (a + 256 - a) (drop a c.loop-i.blocks) (omega (arith, length-drop a c.loop-i.blocks, c.loop-i.auto, c.loop-i-test.true)) ∙ size;
      rounds = (omega (arith, len, between), omega (arith, len, between));
    }

pub loop-i-init : goal.loop-i-init
loop-i-init c = record { bytes = λ i. (c.type_inv.blocks i).fits; written = IsWrittenTo-none 16 _ _ }

pub loop-i-preserved : goal.loop-i-preserved
loop-i-preserved c =
    let key = c.args.key.now in
    let w = c.schedule-schedule.result.now in
    let now = c.loop-i.blocks in
    let a : ℕ = 256 * c.loop-i.i in
    let k : ℕ = a + 256 - a in
    let part = take k (drop a now) in
    let n : ℕ = length w / 16 - 1 in
    let count : n ≡ rounds key = omega (arith, c.schedule-schedule.ensures.len) in
    let next : 16 * c.loop-i.i + 16 ≡ 16 * (c.loop-i.i + 1) = omega arith in
    let made = c.encrypt_sixteen.ensures w (HoldKeys-with key w c.args.keys.now n c.schedule-schedule.ensures.value count c.requires.keys) in
    let same = joined-same (λ j. cipher_with n w (block part j)) (λ j. cipher key (block part j)) 16 (λ j h. cipher-with key w (block part j) n c.schedule-schedule.ensures.value count) in
    record {
      bytes = c.loop-i.invariant.bytes;
      written = rw (← next) (part_written (cipher key) (length-cipher key) c.args.blocks.now now (16 * c.loop-i.i) 16 a k (omega arith) (omega arith) (omega (arith, c.loop-i.auto, c.loop-i-test.true))
          c.encrypt_sixteen.new.blocks (made ∙ same) c.loop-i.invariant.written);
    }

pub returns-clause-value : goal.returns-clause-value
returns-clause-value c =
    rest_written c.args.key.now c.args.blocks.now c.loop-i.blocks c.encrypt_blocks.new.bytes c.loop-i.i (omega arith) c.requires.whole c.loop-i.auto.blocks c.encrypt_blocks.ensures.value c.loop-i.invariant.written

pub returns-clause-inverse : goal.returns-clause-inverse
returns-clause-inverse c =
    let key = c.args.key.now in
    let old = c.args.blocks.now in
    ap (inverse_cipher_blocks key) (rest_written key old c.loop-i.blocks c.encrypt_blocks.new.bytes c.loop-i.i (omega arith) c.requires.whole c.loop-i.auto.blocks c.encrypt_blocks.ensures.value c.loop-i.invariant.written)
    ∙ cipher_blocks_undone key old c.requires.whole (λ j h.
    inverse_cipher-cipher key (block old j) c.schedule-schedule.ensures.key.1 (record { len = length-block old j (omega arith); bytes = IsBytes-block old j c.loop-i.invariant.bytes }))
