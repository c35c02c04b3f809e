-- Blocks cut from bytes, and bytes joined from blocks.
use Rattle.std.proofs.Common.{◌≡◌, ◌≤◌, ◌<◌, ◌/◌, ◌%◌, ◌*◌, ◌+◌, ◌-◌, ℕ, zero, suc, sym, ap, ◌∙◌, inl, inr, arith, List, [], ◌∷◌, ◌++◌, length, get_or, take, drop, map, replicate, zero-add, append_assoc}
use Rattle.std.proofs.Math.Nat.{mod-add-div, mul-le-mul_left, mul_comm, mul-zero, mul-suc}
use borrow.Rule.Slice.PartMut.{put_mid}
use Rattle.std.proofs.Math.Seq.{take-add, take-append-add, drop-append-add}
use Rattle.std.proofs.lemmas.Bool.{cases_lt}
use Rattle.std.proofs.lemmas.List.{length-take-le, length-drop, length-append, length-replicate, take_all, take_at, take-append-le, drop-append-le, drop-drop, take-replicate, append-nil, ext_get_or}
use Rattle.std.proofs.lemmas.List.FromFn.{length-map-range_with_len, get_or-map-range_with_len}
use Rattle.std.proofs.lemmas.List.Elements.{All-head, All-tail, All-from_get_or}
use Rattle.std.proofs.lemmas.Grind.{div_ceil_times}
use Rattle.std.specs.Int.{div_ceil}
use Rattle.std.specs.List.{concat, range_with_len, All}
use Rattle.hash_tree.specs.Tree.{filled, cut}

-- each of the lists has n elements
abbrev pub AllOf : ℕ → List (List ℕ) → Type 0
AllOf n xs = All (λ x. length x ≡ n) xs

pub length-concat : (n : ℕ) (xs : List (List ℕ)) → AllOf n xs → length (concat xs) ≡ n * length xs
length-concat n [] all = sym (mul-zero n)
length-concat n (x ∷ xs) all =
    let first : length x ≡ n = All-head (λ x. length x ≡ n) x xs all in
    let rest : length (concat xs) ≡ n * length xs = length-concat n xs (All-tail (λ x. length x ≡ n) x xs all) in
    let sum : length (x ++ concat xs) ≡ length x + length (concat xs) = length-append x (concat xs) in
    omega (arith, first, rest, sum, mul-suc n (length xs))

-- element k of lists of one length, joined
pub piece-concat : (n : ℕ) (xs : List (List ℕ)) (zs : List ℕ) (k : ℕ) → AllOf n xs → k < length xs → take n (drop (n * k) (concat xs ++ zs)) ≡ get_or xs k []
piece-concat n [] zs k all inside = absurd (omega arith)
piece-concat n (x ∷ xs) zs zero all inside =
    let first : length x ≡ n = All-head (λ x. length x ≡ n) x xs all in
    rw (mul-zero, append_assoc) (take_at x (concat xs ++ zs) n first)
piece-concat n (x ∷ xs) zs (suc k) all inside =
    let first : length x ≡ n = All-head (λ x. length x ≡ n) x xs all in
    let at : n * suc k ≡ length x + n * k = omega (arith, mul-suc n k, first) in
    rw (at, append_assoc, drop-append-add x (concat xs ++ zs) (n * k)) (piece-concat n xs zs k (All-tail (λ x. length x ≡ n) x xs all) (omega arith))

-- the first bytes filled with zeros are the first bytes of what is filled with zeros
filled-take : (size m : ℕ) (ys : List ℕ) → size ≤ length ys + m → filled size (take size ys) ≡ take size (ys ++ replicate m 0)
filled-take size m ys room =
    elim (cases_lt (length ys) size) [
      | inl short ↦
          let all : take size ys ≡ ys = take_all size ys (omega arith) in
          let more : size ≡ length ys + (size - length ys) = omega arith in
          rw all (sym (ap (λ n. take n (ys ++ replicate m 0)) more
          ∙ take-append-add ys (replicate m 0) (size - length ys)
          ∙ ap (λ zeros. ys ++ zeros) (take-replicate (size - length ys) m 0 (omega arith))))
      | inr long ↦
          let whole : length (take size ys) ≡ size = length-take-le size ys long in
          let none : size - length (take size ys) ≡ 0 = omega (arith, whole) in
          ap (λ n. take size ys ++ replicate n 0) none ∙ append-nil (take size ys) ∙ sym (take-append-le size ys (replicate m 0) long)
    ]

-- the bytes with zeros up to that many blocks
abbrev pub padded : ℕ → ℕ → List ℕ → List ℕ
padded size blocks bytes = bytes ++ replicate (size * blocks - length bytes) 0

pub length-padded : (size blocks : ℕ) (bytes : List ℕ) → length bytes ≤ size * blocks → length (padded size blocks bytes) ≡ size * blocks
length-padded size blocks bytes room =
    omega (arith, length-append bytes (replicate (size * blocks - length bytes) 0), length-replicate {A = ℕ} (size * blocks - length bytes) 0)

-- block i of the bytes, filled with zeros
filled-block : (size blocks i : ℕ) (bytes : List ℕ) → size * i ≤ length bytes → length bytes ≤ size * blocks → i < blocks
    → filled size (take size (drop (size * i) bytes)) ≡ take size (drop (size * i) (padded size blocks bytes))
filled-block size blocks i bytes begun room inside =
    let rest : length (drop (size * i) bytes) ≡ length bytes - size * i = length-drop (size * i) bytes in
    let most : size * suc i ≤ size * blocks = mul-le-mul_left size inside in
    let m = size * blocks - length bytes in
    filled-take size m (drop (size * i) bytes) (omega (arith, rest, most, mul-suc size i))
    ∙ ap (take size) (sym (drop-append-le (size * i) bytes (replicate m 0) begun))

-- the blocks that bytes are cut into hold them, and the last one is begun
pub cut-room : (n size : ℕ) → 0 < size → n ≤ size * div_ceil n size
cut-room n size some = let both = div_ceil_times n size some in grind (arith, both)

pub cut-begun : (n size i : ℕ) → 0 < size → i < div_ceil n size → size * i < n
cut-begun n size i some inside =
    let both = div_ceil_times n size some in
    let most : size * suc i ≤ size * div_ceil n size = mul-le-mul_left size inside in
    omega (arith, both.1, most, mul-suc size i, mul_comm size (div_ceil n size))

pub length-cut : (size : ℕ) (bytes : List ℕ) → length (cut size bytes) ≡ div_ceil (length bytes) size
unfolding cut
length-cut size bytes = length-map-range_with_len (λ i. filled size (take size (drop (size * i) bytes))) 0 (div_ceil (length bytes) size)

-- block i of the bytes with zeros after them
pub get_or-cut : (size i : ℕ) (bytes : List ℕ) → 0 < size → i < div_ceil (length bytes) size
    → get_or (cut size bytes) i [] ≡ take size (drop (size * i) (padded size (div_ceil (length bytes) size) bytes))
unfolding cut
get_or-cut size i bytes some inside =
    get_or-map-range_with_len (λ i. filled size (take size (drop (size * i) bytes))) 0 (div_ceil (length bytes) size) i i [] inside (zero-add i)
    ∙ filled-block size (div_ceil (length bytes) size) i bytes (omega (arith, cut-begun (length bytes) size i some inside)) (cut-room (length bytes) size some) inside

pub cut-sized : (size : ℕ) (bytes : List ℕ) → 0 < size → AllOf size (cut size bytes)
cut-sized size bytes some =
    All-from_get_or (λ x. length x ≡ size) (cut size bytes) [] (λ i below.
    let q = div_ceil (length bytes) size in
    let inside : i < q = omega (arith, length-cut size bytes, below) in
    let most : size * suc i ≤ size * q = mul-le-mul_left size inside in
    let whole = length-padded size q bytes (cut-room (length bytes) size some) in
    let rest = length-drop (size * i) (padded size q bytes) in
    ap length (get_or-cut size i bytes some inside)
    ∙ length-take-le size (drop (size * i) (padded size q bytes)) (omega (arith, whole, rest, most, mul-suc size i)))

-- pieces in a row, joined
pieces-concat : (size : ℕ) (f : ℕ → List ℕ) (z : List ℕ) (n a : ℕ) → ((i : ℕ) → i < a + n → f i ≡ take size (drop (size * i) z))
    → concat (map f (range_with_len a n)) ≡ take (size * n) (drop (size * a) z)
pieces-concat size f z zero a each = ap (λ k. take k (drop (size * a) z)) (sym (mul-zero size))
pieces-concat size f z (suc n) a each =
    let more : size * (a + 1) ≡ size * a + size = grind arith in
    let sum : size * suc n ≡ size + size * n = omega (arith, mul-suc size n) in
    let rest : concat (map f (range_with_len (a + 1) n)) ≡ take (size * n) (drop (size * (a + 1)) z) = pieces-concat size f z n (a + 1) (λ i below. each i (omega arith)) in
    let first : f a ≡ take size (drop (size * a) z) = each a (omega arith) in
    let apart : drop (size * (a + 1)) z ≡ drop size (drop (size * a) z) = ap (λ k. drop k z) more ∙ sym (drop-drop size (size * a) z) in
    rw (first, rest, apart, sum) (sym (take-add size (size * n) (drop (size * a) z)))

-- the blocks joined are the bytes with zeros after them
pub concat-cut : (size : ℕ) (bytes : List ℕ) → 0 < size → concat (cut size bytes) ≡ padded size (div_ceil (length bytes) size) bytes
unfolding cut
concat-cut size bytes some =
    let q = div_ceil (length bytes) size in
    let z = padded size q bytes in
    let whole : length z ≡ size * q = length-padded size q bytes (cut-room (length bytes) size some) in
    pieces-concat size (λ i. filled size (take size (drop (size * i) bytes))) z q 0
    (λ i below. filled-block size q i bytes (omega (arith, cut-begun (length bytes) size i some (omega arith))) (cut-room (length bytes) size some) (omega arith))
    ∙ ap (λ k. take (size * q) (drop k z)) (mul-zero size)
    ∙ take_all (size * q) z (omega (arith, whole))

-- a whole number of blocks
pub div_ceil-whole : (size n : ℕ) → 0 < size → div_ceil (size * n) size ≡ n
div_ceil-whole size n some =
    let both = div_ceil_times (size * n) size some in
    let q = div_ceil (size * n) size in
    elim (cases_lt q n) [
      | inl less ↦ let most : size * suc q ≤ size * n = mul-le-mul_left size less in absurd (omega (arith, both.0, most, mul-suc size q, mul_comm size q))
      | inr more ↦ elim (cases_lt n q) [
        | inl less ↦ let most : size * suc n ≤ size * q = mul-le-mul_left size less in absurd (omega (arith, both.1, most, mul-suc size n, mul_comm size q))
        | inr fewer ↦ omega arith
      ]
    ]

-- blocks joined and cut are themselves
pub cut-concat : (size : ℕ) (blocks : List (List ℕ)) → 0 < size → AllOf size blocks → cut size (concat blocks) ≡ blocks
cut-concat size blocks some all =
    let whole : length (concat blocks) ≡ size * length blocks = length-concat size blocks all in
    let count : div_ceil (length (concat blocks)) size ≡ length blocks = ap (λ n. div_ceil n size) whole ∙ div_ceil-whole size (length blocks) some in
    ext_get_or [] (cut size (concat blocks)) blocks (length-cut size (concat blocks) ∙ count)
    (λ i below.
    let inside : i < div_ceil (length (concat blocks)) size = omega (arith, length-cut size (concat blocks), below) in
    get_or-cut size i (concat blocks) some inside
    ∙ piece-concat size blocks (replicate (size * div_ceil (length (concat blocks)) size - length (concat blocks)) 0) i all (omega (arith, inside, count)))

-- what is cut without a rest
pub div_ceil-exact : (n size : ℕ) → 0 < size → n % size ≡ 0 → div_ceil n size ≡ n / size
div_ceil-exact n size some none = omega (arith, none)

pub get_or-cut_whole : (size i : ℕ) (bytes : List ℕ) → 0 < size → length bytes % size ≡ 0 → i < length bytes / size
    → get_or (cut size bytes) i [] ≡ take size (drop (size * i) bytes)
get_or-cut_whole size i bytes some none inside =
    let q = div_ceil (length bytes) size in
    let count : q ≡ length bytes / size = div_ceil-exact (length bytes) size some none in
    let full : size * (length bytes / size) ≡ length bytes = omega (arith, mod-add-div (length bytes) size, none) in
    let no_rest : size * q - length bytes ≡ 0 = let e : size * q ≡ length bytes = ap (λ k. size * k) count ∙ full in omega (arith, e) in
    get_or-cut size i bytes some (omega (arith, inside, count))
    ∙ ap (λ k. take size (drop (size * i) (bytes ++ replicate k 0))) no_rest
    ∙ ap (λ z. take size (drop (size * i) z)) (append-nil bytes)

-- what is written into a list's middle ends what precedes it
pub take-put_mid : {X : Type 0} (a n : ℕ) (xs ys : List X) → a ≤ length xs → length ys ≡ n → take (a + n) (put_mid a n xs ys) ≡ take a xs ++ ys
take-put_mid a n xs ys inside long =
    let front : length (take a xs ++ ys) ≡ a + n = length-append (take a xs) ys ∙ omega (arith, length-take-le a xs inside, long) in
    ap (take (a + n)) (sym (append_assoc (take a xs) ys (drop n (drop a xs)))) ∙ take_at (take a xs ++ ys) (drop n (drop a xs)) (a + n) front
