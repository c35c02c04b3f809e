-- The key schedule: a step of the expansion in a longer array, and that all of it is bytes.
use Rattle.std.proofs.Common.{◌≡◌, ℕ, zero, suc, ◌+◌, ◌-◌, ◌*◌, ◌/◌, ◌%◌, ◌<◌, ◌≤◌, ◌==◌, ◌&&◌, Bool, true, false, cond, List, [], ◌∷◌, ◌++◌, length, take, drop, map, get_or, bit_xor, sym, ap, ◌∙◌, inl, inr, refl, arith}
use Rattle.std.specs.List.{range_with_len}
use Rattle.std.proofs.lemmas.Bool.{cases_lt}
use Rattle.std.proofs.lemmas.List.{append-nil, append_assoc, take_at, get_or_past, get_or-map, length-map, drop-take, take-take}
use Rattle.std.proofs.lemmas.List.FromFn.{length-map-range_with_len, get_or-map-range_with_len}
use Rattle.aes_block.specs.Field.{sub_byte, power_of_x}
use Rattle.aes_block.specs.State.{IsBytes}
use Rattle.aes_block.specs.KeyExpansion.{word, rot_word, sub_word, add_words, round_constant, key_term, with_word, expansion, key_schedule, round_key, key_words, rounds}
use Rattle.aes_block.specs.Key.{IsKeyLength}
use Rattle.aes_block.proofs.BytesLemmas.{IsBytes-take, IsBytes-drop, IsBytes-append}
use Rattle.aes_block.proofs.lemmas.FieldLemmas.{xor_byte, power_of_x_lt}
use Rattle.aes_block.proofs.SubByteLemmas.{sub_byte_lt}

-- ---- a longer array

-- a word of the first n bytes
pub word-take : (bytes : List ℕ) (n i : ℕ) → 4 * i + 4 ≤ n → word (take n bytes) i ≡ word bytes i
word-take bytes n i h =
    let more : 4 * i + (n - 4 * i) ≡ n = omega arith in
    let front : drop (4 * i) (take n bytes) ≡ take (n - 4 * i) (drop (4 * i) bytes) = rw more at (drop-take (4 * i) (n - 4 * i) bytes) in
    ap (take 4) front ∙ take-take 4 (n - 4 * i) (drop (4 * i) bytes) (omega arith)

-- one word more
pub expansion_more : (nk : ℕ) (key : List ℕ) (i : ℕ) → nk ≤ i → expansion nk key (i + 1 - nk) ≡ with_word nk (expansion nk key (i - nk)) i
expansion_more nk key i h =
    let e : i + 1 - nk ≡ suc (i - nk) = omega arith in
    let at : nk + (i - nk) ≡ i = omega arith in
    rw e (ap (with_word nk (expansion nk key (i - nk))) at)

-- one word more, in an array that holds the words up to i
pub with_word-take : (nk : ℕ) (bytes words : List ℕ) (i : ℕ) → 0 < nk → nk ≤ i → take (4 * i) bytes ≡ words
    → take (4 * i) bytes ++ add_words (word bytes (i - nk)) (key_term nk (word bytes (i - 1)) i) ≡ with_word nk words i
unfolding with_word
with_word-take nk bytes words i pos h same =
    let back = word-take bytes (4 * i) (i - nk) (omega arith) in
    let last = word-take bytes (4 * i) (i - 1) (omega arith) in
    rw (← same, back, last) refl

-- the expansion begins with the key
expansion_splits : (nk : ℕ) (key : List ℕ) (n : ℕ) → (rest : List ℕ) × (expansion nk key n ≡ key ++ rest)
unfolding with_word
expansion_splits nk key zero = ([], sym (append-nil key))
expansion_splits nk key (suc n) =
    let before = expansion_splits nk key n in
    let words = expansion nk key n in
    let added = add_words (word words (nk + n - nk)) (key_term nk (word words (nk + n - 1)) (nk + n)) in
    (before.0 ++ added, ap (λ ws. ws ++ added) before.1 ∙ append_assoc key before.0 added)

-- the key schedule begins with the key
pub take-key_schedule : (key : List ℕ) → take (length key) (key_schedule key) ≡ key
unfolding key_schedule
take-key_schedule key =
    let splits = expansion_splits (key_words key) key (4 * (rounds key + 1) - key_words key) in
    ap (take (length key)) splits.1 ∙ take_at key splits.0 (length key) refl

-- the number of words of a key
pub key_words_between : (n : ℕ) → IsKeyLength n → (n ≡ 4 * (n / 4)) × (4 ≤ n / 4) × (n / 4 ≤ 8)
key_words_between n h = elim h [ inl e ↦ rw e (omega arith, omega arith, omega arith) | inr e ↦ rw e (omega arith, omega arith, omega arith) ]

-- ---- bytes

IsBytes-sub_word : (w : List ℕ) → IsBytes w → IsBytes (sub_word w)
IsBytes-sub_word w h i = elim (cases_lt i (length w)) [
  | inl lt ↦ let at = get_or-map sub_byte w i 0 0 lt in omega (arith, at, sub_byte_lt (get_or w i 0) (h i))
  | inr le ↦ let at = get_or_past (map sub_byte w) i 0 (omega (arith, length-map w sub_byte, le)) in omega (arith, at)
]

IsBytes-add_words : (v w : List ℕ) → IsBytes v → IsBytes w → IsBytes (add_words v w)
IsBytes-add_words v w hv hw i =
    let f = λ (k : ℕ). bit_xor (get_or v k 0) (get_or w k 0) in
    elim (cases_lt i 4) [
      | inl lt ↦ let at = get_or-map-range_with_len f 0 4 i i 0 lt (omega arith) in omega (arith, at, xor_byte (get_or v i 0) (get_or w i 0) (hv i) (hw i))
      | inr le ↦ let at = get_or_past (map f (range_with_len 0 4)) i 0 (omega (arith, length-map-range_with_len f 0 4, le)) in omega (arith, at)
    ]

IsBytes-four : (a b c d : ℕ) → a < 256 → b < 256 → c < 256 → d < 256 → IsBytes (a ∷ b ∷ c ∷ d ∷ [])
IsBytes-four a b c d ha hb hc hd zero = ha
IsBytes-four a b c d ha hb hc hd (suc zero) = hb
IsBytes-four a b c d ha hb hc hd (suc (suc zero)) = hc
IsBytes-four a b c d ha hb hc hd (suc (suc (suc zero))) = hd
IsBytes-four a b c d ha hb hc hd (suc (suc (suc (suc i)))) = omega arith

IsBytes-cond : (b : Bool) (xs ys : List ℕ) → IsBytes xs → IsBytes ys → IsBytes (cond b xs ys)
IsBytes-cond true xs ys hx hy = hx
IsBytes-cond false xs ys hx hy = hy

IsBytes-key_term : (nk : ℕ) (w : List ℕ) (i : ℕ) → IsBytes w → IsBytes (key_term nk w i)
unfolding key_term
IsBytes-key_term nk w i h =
    let turned = IsBytes-four (get_or w 1 0) (get_or w 2 0) (get_or w 3 0) (get_or w 0 0) (h 1) (h 2) (h 3) (h 0) in
    let constant = IsBytes-four (power_of_x (i / nk - 1)) 0 0 0 (power_of_x_lt (i / nk - 1)) (omega arith) (omega arith) (omega arith) in
    IsBytes-cond (i % nk == 0) (add_words (sub_word (rot_word w)) (round_constant (i / nk))) (cond (nk == 8 && i % nk == 4) (sub_word w) w)
    (IsBytes-add_words (sub_word (rot_word w)) (round_constant (i / nk)) (IsBytes-sub_word (rot_word w) turned) constant)
    (IsBytes-cond (nk == 8 && i % nk == 4) (sub_word w) w (IsBytes-sub_word w h) h)

IsBytes-word : (bytes : List ℕ) (i : ℕ) → IsBytes bytes → IsBytes (word bytes i)
IsBytes-word bytes i h = IsBytes-take (drop (4 * i) bytes) 4 (IsBytes-drop bytes (4 * i) h)

IsBytes-expansion : (nk : ℕ) (key : List ℕ) (n : ℕ) → IsBytes key → IsBytes (expansion nk key n)
unfolding with_word
IsBytes-expansion nk key zero h = h
IsBytes-expansion nk key (suc n) h =
    let words = expansion nk key n in
    let before = IsBytes-expansion nk key n h in
    IsBytes-append words (add_words (word words (nk + n - nk)) (key_term nk (word words (nk + n - 1)) (nk + n))) before
    (IsBytes-add_words (word words (nk + n - nk)) (key_term nk (word words (nk + n - 1)) (nk + n)) (IsBytes-word words (nk + n - nk) before)
    (IsBytes-key_term nk (word words (nk + n - 1)) (nk + n) (IsBytes-word words (nk + n - 1) before)))

-- the key schedule of bytes is bytes
pub IsBytes-key_schedule : (key : List ℕ) → IsBytes key → IsBytes (key_schedule key)
unfolding key_schedule
IsBytes-key_schedule key h = IsBytes-expansion (key_words key) key (4 * (rounds key + 1) - key_words key) h

pub IsBytes-round_key : (w : List ℕ) (r : ℕ) → IsBytes w → IsBytes (round_key w r)
IsBytes-round_key w r h = IsBytes-take (drop (16 * r) w) 16 (IsBytes-drop w (16 * r) h)
