-- Parts of lists of bytes are lists of bytes.
use Rattle.std.proofs.Common.{ℕ, ◌+◌, ◌-◌, List, ◌++◌, length, take, drop, inl, inr, refl, arith}
use Rattle.std.proofs.lemmas.Bool.{cases_lt}
use Rattle.std.proofs.lemmas.List.{get_or_past, get_or-take, get_or-drop, get_or_append_left, get_or-append_right, length-take}
use Rattle.aes_block.specs.State.{IsBytes}

pub IsBytes-take : (bytes : List ℕ) (n : ℕ) → IsBytes bytes → IsBytes (take n bytes)
IsBytes-take bytes n h i = elim (cases_lt i n) [
  | inl lt ↦ let at = get_or-take n bytes i 0 lt in omega (arith, at, h i)
  | inr le ↦ let at = get_or_past (take n bytes) i 0 (omega (arith, length-take n bytes, le)) in omega (arith, at)
]

pub IsBytes-drop : (bytes : List ℕ) (n : ℕ) → IsBytes bytes → IsBytes (drop n bytes)
IsBytes-drop bytes n h i = let at = get_or-drop n bytes i 0 in omega (arith, at, h (n + i))

pub IsBytes-append : (xs ys : List ℕ) → IsBytes xs → IsBytes ys → IsBytes (xs ++ ys)
IsBytes-append xs ys hx hy i = elim (cases_lt i (length xs)) [
  | inl lt ↦ let at = get_or_append_left xs ys 0 i lt in omega (arith, at, hx i)
  | inr le ↦ let at = get_or-append_right xs ys (length xs) i 0 refl le in omega (arith, at, hy (i - length xs))
]
