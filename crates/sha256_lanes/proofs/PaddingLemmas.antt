-- The bytes of a padded message, by their places.
use Rattle.std.proofs.Common.{◌≡◌, ℕ, suc, ◌<◌, ◌≤◌, ◌+◌, ◌-◌, ◌*◌, ◌/◌, ◌%◌, ◌^◌, List, ◌∷◌, ◌++◌, length, take, drop, replicate, get_or, arith, refl, sym, ap, ◌∙◌, length-append, length-drop}
use Rattle.std.proofs.lemmas.List.{ext_get_or, get_or_append_left, get_or-replicate, get_or-append_right, get_or-take, get_or-drop, length-replicate, length-take-le, take-append-le, drop-append-le}
use Rattle.std.proofs.Math.Seq.{drop-append-add}
use Rattle.std.specs.Int.{to_be_bytes, w64}
use borrow.Rule.Slice.PartMut.{put_mid, post_of}
use Rattle.sha2.specs.Sha256.{padded_message, word_at}
use Rattle.sha256_lanes.specs.Lanes.{message}
use Rattle.sha256_lanes.proofs.LaneLemmas.{below_eight}

-- the length of a padded message
pub length-padded_message : (m : List ℕ) → length (padded_message m) ≡ (length m + 72) / 64 * 64
length-padded_message m =
    let z : ℕ = (119 - length m % 64) % 64 in
    let zeros : List ℕ = replicate z 0 in
    let field : List ℕ = to_be_bytes w64 (length m * 8 % 2 ^ 64) in
    let count : length zeros ≡ z = length-replicate z 0 in
    let tail : length (zeros ++ field) ≡ length zeros + 8 = length-append zeros field in
    let all : length (padded_message m) ≡ length m + suc (length (zeros ++ field)) = length-append m (0x80 ∷ zeros ++ field) in
    omega arith

-- the last 8 bytes are the length field
pub get_or-padded_length : (m : List ℕ) (k e : ℕ) → e + 8 ≡ (length m + 72) / 64 * 64 → e ≤ k
    → get_or (padded_message m) k 0 ≡ get_or (to_be_bytes w64 (length m * 8 % 2 ^ 64)) (k - e) 0
get_or-padded_length m k e end le =
    let z : ℕ = (119 - length m % 64) % 64 in
    let field : List ℕ = to_be_bytes w64 (length m * 8 % 2 ^ 64) in
    let before : length m + 1 + z ≡ e = omega arith in
    let step : k - length m ≡ suc (k - length m - 1) = omega arith in
    get_or-append_right m (0x80 ∷ replicate z 0 ++ field) (length m) k 0 refl (omega arith)
    ∙ ap (λ (i : ℕ). get_or (0x80 ∷ replicate z 0 ++ field) i 0) step
    ∙ get_or-append_right (replicate z 0) field z (k - length m - 1) 0 (length-replicate z 0) (omega arith)
    ∙ ap (λ (i : ℕ). get_or field i 0) (omega arith)

-- the bytes before the length field: the two parts, a bit 1 and zeros
pub get_or-padded_first : (p b : List ℕ) (k : ℕ) → k < length p → get_or (padded_message (p ++ b)) k 0 ≡ get_or p k 0
get_or-padded_first p b k lt = get_or_append_left (p ++ b) _ 0 k (omega (arith, length-append p b)) ∙ get_or_append_left p b 0 k lt

pub get_or-padded_second : (p b : List ℕ) (k : ℕ) → length p ≤ k → k < length p + length b → get_or (padded_message (p ++ b)) k 0 ≡ get_or b (k - length p) 0
get_or-padded_second p b k le lt = get_or_append_left (p ++ b) _ 0 k (omega (arith, length-append p b)) ∙ get_or-append_right p b (length p) k 0 refl le

pub get_or-padded_one : (m : List ℕ) (k : ℕ) → k ≡ length m → get_or (padded_message m) k 0 ≡ 0x80
get_or-padded_one m k e =
    let rest : List ℕ = 0x80 ∷ replicate ((119 - length m % 64) % 64) 0 ++ to_be_bytes w64 (length m * 8 % 2 ^ 64) in
    let none : k - length m ≡ 0 = omega arith in
    get_or-append_right m rest (length m) k 0 refl (omega arith) ∙ ap (λ (i : ℕ). get_or rest i 0) none

pub get_or-padded_zero : (m : List ℕ) (k : ℕ) → length m < k → k + 8 < (length m + 72) / 64 * 64 → get_or (padded_message m) k 0 ≡ 0
get_or-padded_zero m k lt before =
    let z : ℕ = (119 - length m % 64) % 64 in
    let zeros : List ℕ = replicate z 0 in
    let field : List ℕ = to_be_bytes w64 (length m * 8 % 2 ^ 64) in
    let count : length zeros ≡ z = length-replicate z 0 in
    let step : k - length m ≡ suc (k - length m - 1) = omega arith in
    get_or-append_right m (0x80 ∷ zeros ++ field) (length m) k 0 refl (omega arith)
    ∙ ap (λ (i : ℕ). get_or (0x80 ∷ zeros ++ field) i 0) step
    ∙ get_or_append_left zeros field 0 (k - length m - 1) (omega arith)
    ∙ get_or-replicate z (k - length m - 1) 0 0 (omega arith)

-- 64 bytes that are p's from a on
pub part_at : (out p : List ℕ) (a : ℕ) → length out ≡ 64 → a + 64 ≤ length p
    → ((k : ℕ) → k < 64 → get_or out k 0 ≡ get_or p (a + k) 0) → out ≡ take 64 (drop a p)
part_at out p a long fits same =
    let part : length (take 64 (drop a p)) ≡ 64 = length-take-le 64 (drop a p) (omega (arith, length-drop a p)) in
    ext_get_or 0 out (take 64 (drop a p)) (long ∙ sym part)
    (λ i h.
    let lt : i < 64 = omega arith in
    same i lt ∙ sym (get_or-take 64 (drop a p) i 0 lt ∙ get_or-drop a p i 0))

-- 64 bytes of a block, in the padded message
pub part_of_block : (p b : List ℕ) (a from : ℕ) → a ≡ length p + from → from + 64 ≤ length b
    → take 64 (drop from b) ≡ take 64 (drop a (padded_message (p ++ b)))
part_of_block p b a from at fits =
    let z : ℕ = (119 - length (p ++ b) % 64) % 64 in
    let rest : List ℕ = 0x80 ∷ replicate z 0 ++ to_be_bytes w64 (length (p ++ b) * 8 % 2 ^ 64) in
    let here : drop a (p ++ b) ≡ drop from b = rw at (drop-append-add p b from) in
    let inner : drop a ((p ++ b) ++ rest) ≡ drop from b ++ rest = drop-append-le a (p ++ b) rest (omega (arith, length-append p b)) ∙ ap (λ (x : List ℕ). x ++ rest) here in
    sym (ap (λ (x : List ℕ). take 64 x) inner ∙ take-append-le 64 (drop from b) rest (omega (arith, length-drop from b)))

-- the length of block j
pub length-block : (b : List ℕ) (size j : ℕ) → j < 8 → length b ≡ 8 * size → length (take size (drop (j * size) b)) ≡ size
length-block b size j lt whole =
    let fits : j * size + size ≤ 8 * size = below_eight (λ i. i * size + size ≤ 8 * size) (omega arith) (omega arith) (omega arith) (omega arith) (omega arith) (omega arith) (omega arith) (omega arith) j lt in
    length-take-le size (drop (j * size) b) (omega (arith, length-drop (j * size) b))

-- the length of message j
pub length-message : (p b : List ℕ) (size j : ℕ) → j < 8 → length b ≡ 8 * size → length (message p b size j) ≡ length p + size
length-message p b size j lt whole = omega (arith, length-append p (take size (drop (j * size) b)), length-block b size j lt whole)

-- 64 bytes of block j where the blocks are stored, in its padded message
pub part_of_message : (p b : List ℕ) (size j a from : ℕ) → j < 8 → length b ≡ 8 * size → a ≡ length p + from → from + 64 ≤ size
    → take 64 (drop (from + j * size) b) ≡ take 64 (drop a (padded_message (message p b size j)))
part_of_message p b size j a from lt whole at fits =
    let x : List ℕ = take size (drop (j * size) b) in
    let long : length x ≡ size = length-block b size j lt whole in
    let room : j * size + size ≤ 8 * size = below_eight (λ i. i * size + size ≤ 8 * size) (omega arith) (omega arith) (omega arith) (omega arith) (omega arith) (omega arith) (omega arith) (omega arith) j lt in
    let part : length (take 64 (drop (from + j * size) b)) ≡ 64 = length-take-le 64 (drop (from + j * size) b) (omega (arith, length-drop (from + j * size) b)) in
    part_at (take 64 (drop (from + j * size) b)) x from part (omega arith)
    (λ k h.
    let in_block : from + k < size = omega arith in
    get_or-take 64 (drop (from + j * size) b) k 0 h ∙ get_or-drop (from + j * size) b k 0
    ∙ ap (λ (i : ℕ). get_or b i 0) (omega arith)
    ∙ sym (get_or-take size (drop (j * size) b) (from + k) 0 in_block ∙ get_or-drop (j * size) b (from + k) 0))
    ∙ part_of_block p x a from at (omega arith)

-- a byte of 64
cell : (d : List ℕ) (a n m : ℕ) → n < 64 → m ≡ a + n → get_or (take 64 (drop a d)) n 0 ≡ get_or d m 0
cell d a n m lt e = get_or-take 64 (drop a d) n 0 lt ∙ get_or-drop a d n 0 ∙ ap (λ (i : ℕ). get_or d i 0) (omega arith)

-- a word of 64 bytes, where they are stored
pub word_at-part : (d : List ℕ) (a i m : ℕ) → i + 4 ≤ 64 → m ≡ a + i → word_at (take 64 (drop a d)) i ≡ word_at d m
word_at-part d a i m fits e =
    rw (cell d a i m (omega arith) e, cell d a (i + 1) (m + 1) (omega arith) (omega arith), cell d a (i + 2) (m + 2) (omega arith) (omega arith), cell d a (i + 3) (m + 3) (omega arith) (omega arith)) refl

-- the message blocks of eight messages, one after another
pub row_at : (out p b : List ℕ) (size index j : ℕ) → j < 8 → length b ≡ 8 * size → length out ≡ 512
    → index < (length p + size + 72) / 64
    → ((k : ℕ) → k < 512 → get_or out k 0 ≡ get_or (padded_message (message p b size (k / 64))) (index * 64 + k % 64) 0)
    → take 64 (drop (j * 64) out) ≡ take 64 (drop (index * 64) (padded_message (message p b size j)))
row_at out p b size index j lt whole long inside same =
    let m : List ℕ = message p b size j in
    let size_of : length m ≡ length p + size = length-message p b size j lt whole in
    let part : length (take 64 (drop (j * 64) out)) ≡ 64 = length-take-le 64 (drop (j * 64) out) (omega (arith, length-drop (j * 64) out)) in
    part_at (take 64 (drop (j * 64) out)) (padded_message m) (index * 64) part (omega (arith, length-padded_message m))
    (λ k h.
    let row : (j * 64 + k) / 64 ≡ j = omega arith in
    let place : (j * 64 + k) % 64 ≡ k = omega arith in
    cell out (j * 64) k (j * 64 + k) h refl ∙ rw (row, place) at (same (j * 64 + k) (omega arith)))

-- a write to a part
pub put_mid-before : (a n : ℕ) (xs ys : List ℕ) (k : ℕ) → k < a → a ≤ length xs → get_or (put_mid a n xs ys) k 0 ≡ get_or xs k 0
put_mid-before a n xs ys k lt fits =
    get_or_append_left (take a xs) (ys ++ post_of a n xs) 0 k (omega (arith, length-take-le a xs fits)) ∙ get_or-take a xs k 0 lt

pub put_mid-at : (a n : ℕ) (xs ys : List ℕ) (k : ℕ) → a ≤ length xs → a ≤ k → k < a + length ys → get_or (put_mid a n xs ys) k 0 ≡ get_or ys (k - a) 0
put_mid-at a n xs ys k fits le lt =
    get_or-append_right (take a xs) (ys ++ post_of a n xs) a k 0 (length-take-le a xs fits) le
    ∙ get_or_append_left ys (post_of a n xs) 0 (k - a) (omega arith)
