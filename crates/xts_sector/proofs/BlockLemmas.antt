-- Sums of blocks.
use Rattle.std.proofs.Common.{◌≡◌, ℕ, ◌+◌, ◌*◌, ◌<◌, List, length, take, drop, get_or, bit_xor, sym, ap, ◌∙◌, arith}
use Rattle.std.specs.Int.Bits.{xor_assoc, xor_self, xor_zero_r}
use Rattle.std.proofs.lemmas.List.FromFn.{length-map-range_with_len, get_or-map-range_with_len, fill_by_all}
use Rattle.std.proofs.lemmas.List.{get_or-take, get_or-drop, length-take-le, length-drop, take_all, drop-drop}
use Rattle.aes_block.specs.Blocks.{block, joined}
use Rattle.aes_block.proofs.lemmas.BlockLemmas.{joined-same, joined-block, block-take}
use Rattle.xts_sector.specs.Blocks.{add_blocks}

pub length-add_blocks : (a b : List ℕ) → length (add_blocks a b) ≡ 16
unfolding add_blocks
length-add_blocks a b = length-map-range_with_len (λ k. bit_xor (get_or a k 0) (get_or b k 0)) 0 16

pub get_or-add_blocks : (a b : List ℕ) (k : ℕ) → k < 16 → get_or (add_blocks a b) k 0 ≡ bit_xor (get_or a k 0) (get_or b k 0)
unfolding add_blocks
get_or-add_blocks a b k h = get_or-map-range_with_len (λ k. bit_xor (get_or a k 0) (get_or b k 0)) 0 16 k k 0 h (omega arith)

xor_twice : (a b : ℕ) → bit_xor (bit_xor a b) b ≡ a
xor_twice a b =
    let e1 = xor_assoc a b b in
    let e2 = xor_self b in
    let e3 = xor_zero_r a in
    cc (e1, e2, e3)

-- what is added twice is gone
pub add_blocks-add_blocks : (a b : List ℕ) → length a ≡ 16 → add_blocks (add_blocks a b) b ≡ a
unfolding add_blocks
add_blocks-add_blocks a b len =
    sym (fill_by_all (λ k. bit_xor (get_or (add_blocks a b) k 0) (get_or b k 0)) a 16 0 len
    (λ k h.
    let at = get_or-add_blocks a b k h in
    let twice = xor_twice (get_or a k 0) (get_or b k 0) in
    cc (at, twice)))

get_or-block : (bytes : List ℕ) (j k : ℕ) → k < 16 → get_or (block bytes j) k 0 ≡ get_or bytes (16 * j + k) 0
get_or-block bytes j k h = get_or-take 16 (drop (16 * j) bytes) k 0 h ∙ get_or-drop (16 * j) bytes k 0

-- the sums of the bytes of two blocks are those of the blocks
pub two_sums : (a b out : List ℕ) → length a ≡ 32 → length b ≡ 32 → length out ≡ 32 → ((k : ℕ) → k < 32 → get_or out k 0 ≡ bit_xor (get_or a k 0) (get_or b k 0))
    → out ≡ joined (λ j. add_blocks (block a j) (block b j)) 2
unfolding add_blocks
two_sums a b out long_a long_b long same =
    let sums = λ (j : ℕ). add_blocks (block a j) (block b j) in
    let size = λ (j : ℕ) (h : j < 2). length-take-le 16 (drop (16 * j) out) (omega (arith, h, long, length-drop (16 * j) out)) in
    sym (joined-block out 2 (omega (arith, long)) ∙ take_all 32 out (omega (arith, long)))
    ∙ joined-same (block out) sums 2 (λ j h.
    fill_by_all (λ k. bit_xor (get_or (block a j) k 0) (get_or (block b j) k 0)) (block out j) 16 0 (size j h)
    (λ k hk.
    let byte_a = get_or-block a j k hk in
    let byte_b = get_or-block b j k hk in
    get_or-block out j k hk ∙ same (16 * j + k) (omega (arith, h, hk)) ∙ ap (λ x. bit_xor x (get_or b (16 * j + k) 0)) (sym byte_a) ∙ ap (bit_xor (get_or (block a j) k 0)) (sym byte_b)))

-- a block of a part, of bytes that are as before from the part on
pub block-part : (old now : List ℕ) (m n a k j : ℕ) → a ≡ 16 * m → k ≡ 16 * n → drop (16 * m) now ≡ drop (16 * m) old → j < n → block (take k (drop a now)) j ≡ block old (m + j)
block-part old now m n a k j at wide rest h =
    let from : drop a now ≡ drop (16 * m) old = ap (λ x. drop x now) at ∙ rest in
    let to : 16 * m + 16 * j ≡ 16 * (m + j) = omega arith in
    block-take (drop a now) k j (omega (arith, wide, h)) ∙ ap (λ xs. block xs j) from ∙ ap (take 16) (drop-drop (16 * j) (16 * m) old ∙ ap (λ x. drop x old) to)
