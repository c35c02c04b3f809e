-- Each part is written right after what is written already.
use Rattle.std.proofs.Common.{◌≡◌, ◌∙◌, ap, ℕ, length, List, arith}
use Rattle.std.specs.Int.{w16, w32, w64, to_le_bytes}
use Rattle.tree_shape.specs.Algorithms.{algorithm_name}
use Rattle.verity_format.specs.Superblock.{IsSuperblock, SuperRecord, Carries}
use Rattle.verity_format.proofs.lemmas.SpellingLemmas.{written, carried-spelling, put_at}
use Rattle.verity_format.proofs.superblock.Superblock.encode.Goals as goal

pub returns-clause-value : goal.returns-clause-value
returns-clause-value c =
    let s : SuperRecord = c.args.self.now in
    let shape = c.shape-shape.ensures.value in
    let salt : c.bytes-salt.result.now ≡ s.salt = c.bytes-salt.ensures.value ∙ c.salt-salt.ensures in
    let valid : IsSuperblock s = record { uuid = c.uuid.ensures.size; shape = c.shape-shape.ensures.valid; salt = omega (arith, ap length salt, c.bytes-salt.ensures.size) } in
    written s valid c.put.new.bytes c.put-2.new.bytes c.put-3.new.bytes c.put-4.new.bytes c.put-5.new.bytes c.put-6.new.bytes c.put-7.new.bytes c.put-8.new.bytes c.put-9.new.bytes c.put-10.new.bytes
    c.put.ensures
    (c.put-2.ensures ∙ ap (put_at c.put.new.bytes 8) c.to_le_bytes.ensures)
    (c.put-3.ensures ∙ ap (put_at c.put-2.new.bytes 12) c.to_le_bytes-2.ensures)
    (c.put-4.ensures ∙ ap (put_at c.put-3.new.bytes 16) c.uuid.ensures.value)
    (c.put-5.ensures ∙ ap (put_at c.put-4.new.bytes 32) (c.name.ensures.value ∙ ap algorithm_name c.algorithm-algorithm.ensures))
    (c.put-6.ensures ∙ ap (put_at c.put-5.new.bytes 64) (c.to_le_bytes-3.ensures ∙ ap (to_le_bytes w32) (c.data_block.ensures.value ∙ ap (λ t. t.data_block) shape)))
    (c.put-7.ensures ∙ ap (put_at c.put-6.new.bytes 68) (c.to_le_bytes-4.ensures ∙ ap (to_le_bytes w32) (c.hash_block.ensures.value ∙ ap (λ t. t.hash_block) shape)))
    (c.put-8.ensures ∙ ap (put_at c.put-7.new.bytes 72) (c.to_le_bytes-5.ensures ∙ ap (to_le_bytes w64) (c.blocks-2.ensures.value ∙ ap (λ t. t.blocks) shape)))
    (c.put-9.ensures ∙ ap (put_at c.put-8.new.bytes 80) (c.to_le_bytes-6.ensures ∙ ap (λ xs. to_le_bytes w16 (length xs)) salt))
    (c.put-10.ensures ∙ ap (put_at c.put-9.new.bytes 88) salt)

pub returns-clause-carried : goal.returns-clause-carried
returns-clause-carried c =
    let s : SuperRecord = c.args.self.now in
    let salt : c.bytes-salt.result.now ≡ s.salt = c.bytes-salt.ensures.value ∙ c.salt-salt.ensures in
    let valid : IsSuperblock s = record { uuid = c.uuid.ensures.size; shape = c.shape-shape.ensures.valid; salt = omega (arith, ap length salt, c.bytes-salt.ensures.size) } in
    let P : List ℕ → Type 0 = λ bytes. Carries s bytes in
    rw (returns-clause-value c) (carried-spelling s valid)
