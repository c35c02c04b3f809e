-- The tweaks of the first blocks of units, sixteen at once.
use Rattle.std.proofs.Common.{◌≡◌, ℕ, ◌+◌, ◌-◌, ◌*◌, ◌/◌, ◌%◌, ◌<◌, ◌≤◌, ◌≢◌, ◌^◌, List, ◌++◌, length, take, drop, get_or, min, ap, ◌∙◌, arith}
use Rattle.std.proofs.lemmas.List.{length-take-le, length-drop, get_or-take, get_or-drop, take_all, take-append-le, drop-append-le}
use Rattle.std.proofs.lemmas.List.FromFn.{length-map-range_with_len}
use Rattle.aes_block.specs.Blocks.{block, joined, cipher_blocks}
use Rattle.aes_block.specs.Cipher.{cipher}
use Rattle.aes_block.proofs.lemmas.BlockLemmas.{length-joined, block-joined, block-take}
use Rattle.aes_block.proofs.lemmas.CipherBlocksLemmas.{length-cipher}
use Rattle.xts_sector.specs.Tweak.{unit_number}
use Rattle.xts_sector.specs.Xts.{tweak}
use Rattle.xts_sector.specs.FirstTweaks.{HoldTweaks}

pub length-unit_number : (n : ℕ) → length (unit_number n) ≡ 16
unfolding unit_number
length-unit_number n = length-map-range_with_len (λ k. n / 256 ^ k % 256) 0 16

-- one block, enciphered as whole blocks are
pub cipher_blocks-one : (key b : List ℕ) → length b ≡ 16 → cipher_blocks key b ≡ cipher key b
unfolding cipher_blocks joined
cipher_blocks-one key b len =
    ap (λ n. joined (λ j. cipher key (block b j)) (n / 16)) len ∙ ap (cipher key) (take_all 16 b (omega (arith, len)))

-- a block of bytes of which the first e were enciphered
pub block-enciphered : (key bytes out : List ℕ) (e j : ℕ) → e ≤ length bytes → e % 16 ≡ 0 → 16 * j + 16 ≤ e → out ≡ cipher_blocks key (take e bytes) → block (out ++ drop e bytes) j ≡ cipher key (block bytes j)
unfolding cipher_blocks
block-enciphered key bytes out e j fits whole h is =
    let part = take e bytes in
    let m : ℕ = e / 16 in
    let blocks = λ (i : ℕ). cipher key (block part i) in
    let made : out ≡ joined blocks m = is ∙ ap (λ n. joined blocks (n / 16)) (length-take-le e bytes fits) in
    let len : length out ≡ 16 * m = ap length made ∙ length-joined blocks m (λ i k. length-cipher key (block part i)) in
    let at = drop-append-le (16 * j) out (drop e bytes) (omega (arith, len, whole, h)) in
    let front = take-append-le 16 (drop (16 * j) out) (drop e bytes) (omega (arith, len, whole, h, length-drop (16 * j) out)) in
    ap (take 16) at ∙ front ∙ ap (λ bs. block bs j) made ∙ block-joined blocks m j (λ i k. length-cipher key (block part i)) (omega (arith, h)) ∙ ap (cipher key) (block-take bytes e j h)

-- ---- which tweaks are at hand

pub HoldTweaks-none : (key numbers tweaks : List ℕ) → 0 % 16 ≢ 0 → HoldTweaks key numbers (0 - 1) tweaks
HoldTweaks-none key numbers tweaks h = absurd (h (omega arith))

pub HoldTweaks-next : (key numbers tweaks : List ℕ) (i : ℕ) → HoldTweaks key numbers i tweaks → HoldTweaks key numbers (i + 1 - 1) tweaks
HoldTweaks-next key numbers tweaks i hold = let same : i + 1 - 1 ≡ i = omega arith in rw same hold

-- the next unit of the same sixteen
pub HoldTweaks-same : (key numbers tweaks : List ℕ) (i : ℕ) → i % 16 ≢ 0 → HoldTweaks key numbers (i - 1) tweaks → HoldTweaks key numbers i tweaks
HoldTweaks-same key numbers tweaks i inside hold k same low = hold k (omega (arith, same, inside)) low

-- sixteen units that begin
pub HoldTweaks-made : (key numbers tweaks : List ℕ) (i e : ℕ) → i % 16 ≡ 0 → e ≡ min (length numbers) (i + 16)
    → ((j : ℕ) → j < length (take (e - i) (drop i numbers)) → block tweaks j ≡ tweak key (get_or (take (e - i) (drop i numbers)) j 0) 0) → HoldTweaks key numbers i tweaks
HoldTweaks-made key numbers tweaks i e begins end made k same low =
    let part = take (e - i) (drop i numbers) in
    let j : ℕ = k % 16 in
    let place : i + j ≡ k = omega (arith, begins, same) in
    let inside : j < e - i = omega (arith, place, low, end) in
    let long : length part ≡ e - i = length-take-le (e - i) (drop i numbers) (omega (arith, end, length-drop i numbers)) in
    let number : get_or part j 0 ≡ get_or numbers k 0 = get_or-take (e - i) (drop i numbers) j 0 inside ∙ get_or-drop i numbers j 0 ∙ ap (λ x. get_or numbers x 0) place in
    made j (omega (arith, inside, long)) ∙ ap (λ n. tweak key n 0) number
