-- The key expansion (FIPS 197, 5.2). Words are stored consecutively, four bytes each.
use Rattle.std.specs.Prelude.{ℕ, zero, suc, ◌+◌, ◌-◌, ◌*◌, ◌/◌, ◌%◌, ◌==◌, ◌&&◌, List, [], ◌∷◌, ◌++◌, length, map, take, drop, slice_index, bit_xor, if◌then◌else◌}
use Rattle.std.specs.List.{range_with_len}
use Rattle.aes_block.specs.Field.{power_of_x, sub_byte}

-- word i of a list of bytes
abbrev pub word : List ℕ → ℕ → List ℕ
word bytes i = take 4 (drop (4 * i) bytes)

-- 5.2: ROTWORD
abbrev pub rot_word : List ℕ → List ℕ
rot_word w = slice_index w 1 ∷ slice_index w 2 ∷ slice_index w 3 ∷ slice_index w 0 ∷ []

-- 5.2: SUBWORD
abbrev pub sub_word : List ℕ → List ℕ
sub_word w = map sub_byte w

-- the sum of two words
abbrev pub add_words : List ℕ → List ℕ → List ℕ
add_words v w = map (λ k. bit_xor (slice_index v k) (slice_index w k)) (range_with_len 0 4)

-- 5.2: the round constant of index j: the byte x^(j - 1) and three zeros
abbrev pub round_constant : ℕ → List ℕ
round_constant j = power_of_x (j - 1) ∷ 0 ∷ 0 ∷ 0 ∷ []

-- 5.2: the term added to word i - nk to give word i, for a key of nk words, where w is word i - 1
unfoldable pub key_term : ℕ → List ℕ → ℕ → List ℕ
key_term nk w i = if i % nk == 0 then add_words (sub_word (rot_word w)) (round_constant (i / nk)) else (if nk == 8 && i % nk == 4 then sub_word w else w)

-- 5.2: the words before word i, followed by word i
unfoldable pub with_word : ℕ → List ℕ → ℕ → List ℕ
with_word nk words i = words ++ add_words (word words (i - nk)) (key_term nk (word words (i - 1)) i)

-- 5.2: the nk words of the key and the n words that follow
abbrev pub expansion : ℕ → List ℕ → ℕ → List ℕ
expansion nk key zero = key
expansion nk key (suc n) = with_word nk (expansion nk key n) (nk + n)

-- 5, table 3: Nk, the number of words of a key
abbrev pub key_words : List ℕ → ℕ
key_words key = length key / 4

-- 5, table 3: Nr, the number of rounds
abbrev pub rounds : List ℕ → ℕ
rounds key = key_words key + 6

-- 5.2: the 4 * (Nr + 1) words of the key schedule
unfoldable pub key_schedule : List ℕ → List ℕ
key_schedule key = expansion (key_words key) key (4 * (rounds key + 1) - key_words key)

-- round key r: four words
abbrev pub round_key : List ℕ → ℕ → List ℕ
round_key schedule r = take 16 (drop (16 * r) schedule)
