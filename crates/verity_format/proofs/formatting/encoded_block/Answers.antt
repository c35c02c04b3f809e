use Rattle.std.proofs.Common.{◌≡◌, ◌+◌, ◌-◌, ◌∙◌, ◌++◌, ℕ, List, ap, sym, length, drop, replicate, arith}
use Rattle.std.proofs.lemmas.List.{take_at, drop-replicate, length-append, length-replicate}
use Rattle.verity_format.specs.Superblock.{SuperRecord, spelling}
use Rattle.verity_format.specs.Image.{first_block}
use Rattle.verity_format.proofs.lemmas.SizeLemmas.{block-size}
use Rattle.verity_format.proofs.formatting.encoded_block.Goals as goal

-- the superblock written at the beginning of zeros
first_block-is : (s : SuperRecord) (e old new : List ℕ) → new ≡ e ++ drop (0 + length e) old → e ≡ spelling s → length e ≡ 512 → old ≡ replicate s.hash_block 0 → new ≡ first_block s
first_block-is s e old new is value size zeros =
    let at : 0 + length e ≡ 512 = omega (arith, size) in
    is
    ∙ ap (λ n. e ++ drop n old) at
    ∙ ap (λ xs. e ++ drop 512 xs) zeros
    ∙ ap (λ xs. e ++ xs) (drop-replicate 512 s.hash_block 0)
    ∙ ap (λ xs. xs ++ replicate (s.hash_block - 512) 0) value

pub returns-clause-value : goal.returns-clause-value
returns-clause-value c =
    let s : SuperRecord = c.args.params.now in
    let zeros : c.deref_mut.result.now ≡ replicate s.hash_block 0 =
    c.deref_mut.ensures.value ∙ c.in_ok-block.ensures.ok ∙ ap (λ n. replicate n 0) (c.hash_block.ensures.value ∙ ap (λ t. t.hash_block) c.shape-shape.ensures.value) in
    let size : length c.encode.result ≡ 512 = c.encode.ensures.carried.size in
    let kept : length c.put.new.bytes ≡ c.in_ok-block.block.len = c.put.auto.bytes ∙ c.deref_mut.ensures.len in
    take_at c.put.new.bytes (drop (length c.put.new.bytes) c.in_ok-block.block.items) c.in_ok-block.block.len kept
    ∙ first_block-is s c.encode.result c.deref_mut.result.now c.put.new.bytes c.put.ensures c.encode.ensures.value size zeros

pub returns-clause-size : goal.returns-clause-size
returns-clause-size c =
    let s : SuperRecord = c.args.params.now in
    let size : length c.encode.result ≡ 512 = c.encode.ensures.carried.size in
    let spelled : length (spelling s) ≡ 512 = ap length (sym c.encode.ensures.value) ∙ size in
    let least = (block-size s.hash_block c.shape-shape.ensures.valid.hash_size).least_bytes in
    ap length (returns-clause-value c) ∙ length-append (spelling s) (replicate (s.hash_block - 512) 0) ∙ omega (arith, spelled, least, length-replicate {A = ℕ} (s.hash_block - 512) 0)
