-- Units and data blocks, and the pieces of a transfer.
use Rattle.std.proofs.Common.{◌≡◌, ◌⊎◌, ℕ, suc, ◌+◌, ◌-◌, ◌*◌, ◌/◌, ◌%◌, ◌<◌, ◌≤◌, ◌&&◌, Bool, true, false, List, Option, Some, refl, sym, ap, ◌∙◌, inl, inr, arith}
use Rattle.std.proofs.lemmas.Bool.{and_left, and_right, cases_lt, false≢true, ne_eqb}
use Rattle.std.proofs.lemmas.Nat.{div-add-mod', mod-mul-add}
use Rattle.dm_table.specs.declared.table.Line.{Line}
use Rattle.stack_rules.specs.declared.lower.Lower.{Lower}
use Rattle.stack_rules.specs.Descend.{known}
use Rattle.stack_rules.specs.Names.{mapped, named}
use Rattle.stack_rules.specs.Records.{Configuration}
use Rattle.stack_rules.specs.Rules.{IsLoaded}
use Rattle.stack_meaning.specs.Beneath.{said_or}
use Rattle.alignment.specs.Ends.{data_beneath, ends_units, is_last, unit_of_line}
use Rattle.alignment.specs.Laws.{LieInLine, LieInUnit, SomeEnd, in_own, beneath, two_lens}
use Rattle.alignment.specs.Lengths.{aligned_len, last_end}
use Rattle.alignment.proofs.LastLemmas.{last-few, last-finds, last-is, len-all, len-last, len-most}
use Rattle.alignment.proofs.lemmas.EndLemmas.{ends-line, ends_by_name}

-- ---- within a unit

mod-more : (u w j : ℕ) → w % u + j < u → (w + j) % u ≡ w % u + j
mod-more u w j low =
    let split : w + j ≡ w / u * u + (w % u + j) = omega (arith, div-add-mod' w u) in
    ap (λ (k : ℕ). k % u) split ∙ mod-mul-add (w / u) u (w % u + j) low

not-last : (u w j n : ℕ) → w % u + n ≤ u → suc j < n → is_last u (w + j) ≡ false
not-last u w j n small low =
    let place : (w + j) % u ≡ w % u + j = mod-more u w j (omega (arith, small, low)) in
    ne_eqb ((w + j) % u) (u - 1) (λ same. let no : ⊥ = omega (arith, place, same, small, low) in no)

own-end : (c : Configuration) (d l s n j : ℕ) (line : Line) → IsLoaded c → LieInLine c d l line s n → (s - line.start) % unit_of_line line.target + n ≤ unit_of_line line.target → suc j < n → ends_units c (mapped d) (s + j) ≡ false
own-end c d l s n j line loaded lies small low =
    ends-line c d l s j line loaded lies.found lies.start (omega (arith, lies.ends, low))
    ∙ and_left (is_last (unit_of_line line.target) (s - line.start + j)) (said_or true (ends_by_name c) (data_beneath line.target (s - line.start + j))) (not-last (unit_of_line line.target) (s - line.start) j n small low)

below-end : (c : Configuration) (d l s n t j : ℕ) (line : Line) (name : List ℕ) (lower : Lower) → IsLoaded c → LieInLine c d l line s n → ((i : ℕ) → i < n → data_beneath line.target (s - line.start + i) ≡ Some (name, t + i)) → named c name ≡ Some lower
    → ends_units c lower (t + j) ≡ false → suc j < n → ends_units c (mapped d) (s + j) ≡ false
below-end c d l s n t j line name lower loaded lies side is goes_on low =
    let own : Bool = is_last (unit_of_line line.target) (s - line.start + j) in
    ends-line c d l s j line loaded lies.found lies.start (omega (arith, lies.ends, low))
    ∙ ap (λ (o : Option (List ℕ × ℕ)). is_last (unit_of_line line.target) (s - line.start + j) && said_or true (ends_by_name c) o) (side j (omega (arith, low)))
    ∙ ap (λ (o : Option Lower). is_last (unit_of_line line.target) (s - line.start + j) && known {A = ℕ → Bool} (λ k. true) (ends_units c) o (t + j)) is
    ∙ and_right own (ends_units c lower (t + j)) goes_on

-- of the sectors that lie in one unit or data block, none but the last ends all of them
goes-on : (c : Configuration) (lower : Lower) (s n : ℕ) → IsLoaded c → LieInUnit c lower s n → (j : ℕ) → suc j < n → ends_units c lower (s + j) ≡ false
goes-on c lower s n loaded (in_own {d = d} {l = l} {line = line} lies small) j low = own-end c d l s n j line loaded lies small low
goes-on c lower s n loaded (beneath {d = d} {l = l} {t = t} {line = line} {name = name} {lower = under} lies side is more) j low =
    below-end c d l s n t j line name under loaded lies side is (goes-on c under t n loaded more j low) low

-- ---- pieces

pub split-none : (c : Configuration) (d first rest most s n : ℕ) → IsLoaded c → most < rest → SomeEnd c d first most → LieInUnit c (mapped d) s n
    → s < first + aligned_len c d first rest most → s + n ≤ first + aligned_len c d first rest most
split-none c d first rest most s n loaded many some unit begins =
    let ends : ℕ → Bool = ends_units c (mapped d) in
    let m : ℕ = aligned_len c d first rest most in
    let found = last-finds (ends_units c (mapped d)) first most some.0 some.1 some.2 in
    let is : m ≡ last_end (ends_units c (mapped d)) first most = len-last c d first rest most many (last_end (ends_units c (mapped d)) first most) refl (omega (arith, found.0)) in
    elim (cases_lt (first + m) (s + n)) [
      | inl over ↦
          let j : ℕ = first + m - 1 - s in
          let at : s + j ≡ first + (last_end (ends_units c (mapped d)) first most - 1) = omega (arith, is, begins, found.0) in
          let low : suc j < n = omega (arith, over, begins, is, found.0) in
          absurd (false≢true (sym (goes-on c (mapped d) s n loaded unit j low) ∙ ap ends at ∙ found.1))
      | inr within ↦ within
    ]

module _ (c : Configuration) (d first rest most : ℕ) (some : 0 < most) where
  len-some : (f r : ℕ) → 0 < r → 0 < aligned_len c d f r most
  len-some f r left = elim (cases_lt most r) [
    | inl many ↦ elim (cases_lt 0 (last_end (ends_units c (mapped d)) f most)) [
      | inl found ↦ let is = len-last c d f r most many (last_end (ends_units c (mapped d)) f most) refl found in omega (arith, is, found)
      | inr none ↦ let is = len-most c d f r most many (omega (arith, none)) in omega (arith, is, some)
    ]
    | inr few ↦ let is = len-all c d f r most few in omega (arith, is, left)
  ]

  -- the second piece, after one that ends units
  then-far : (m n : ℕ) → most < rest → 0 < m → m ≡ last_end (ends_units c (mapped d)) first most → aligned_len c d (first + m) (rest - m) most ≡ n → (m + n ≡ rest) ⊎ (most < m + n)
  then-far m n many begun is next =
      let few = last-few (ends_units c (mapped d)) first most in
      elim (cases_lt most (rest - m)) [
        | inl more ↦ elim (cases_lt 0 (last_end (ends_units c (mapped d)) (first + m) most)) [
          | inl found ↦
              let e : ℕ = last_end (ends_units c (mapped d)) (first + m) most in
              let second : n ≡ e = sym next ∙ len-last c d (first + m) (rest - m) most more e refl found in
              let end = last-is (ends_units c (mapped d)) (first + m) most found in
              elim (cases_lt most (m + n)) [
                | inl far ↦ inr far
                | inr near ↦
                    let k : ℕ = m + n - 1 in
                    let at : first + k ≡ first + m + (e - 1) = omega (arith, second, found) in
                    let first_one = last-finds (ends_units c (mapped d)) first most k (omega (arith, near, begun)) (ap (ends_units c (mapped d)) at ∙ end) in
                    let no : ⊥ = omega (arith, first_one.0, is, second, found) in
                    absurd no
              ]
          | inr none ↦ let second = len-most c d (first + m) (rest - m) most more (omega (arith, none)) in inr (omega (arith, second, next, begun))
        ]
        | inr last ↦ let second = len-all c d (first + m) (rest - m) most last in inl (omega (arith, second, next, few, is, many))
      ]

  two : (m n : ℕ) → aligned_len c d first rest most ≡ m → aligned_len c d (first + m) (rest - m) most ≡ n → (m + n ≡ rest) ⊎ (most < m + n)
  two m n is next = elim (cases_lt most rest) [
    | inl many ↦ elim (cases_lt 0 (last_end (ends_units c (mapped d)) first most)) [
      | inl found ↦ let at : m ≡ last_end (ends_units c (mapped d)) first most = sym is ∙ len-last c d first rest most many (last_end (ends_units c (mapped d)) first most) refl found in then-far m n many (omega (arith, at, found)) at next
      | inr none ↦
          let at : m ≡ most = sym is ∙ len-most c d first rest most many (omega (arith, none)) in
          let more = len-some (first + m) (rest - m) (omega (arith, at, many)) in
          inr (omega (arith, at, more, next))
    ]
    | inr few ↦
        let all : m ≡ rest = sym is ∙ len-all c d first rest most few in
        let second = len-all c d (first + m) (rest - m) most (omega (arith, all)) in
        inl (omega (arith, all, second, next))
  ]

pub two-go-far : (c : Configuration) (d first rest most : ℕ) → 0 < most → (two_lens c d first rest most ≡ rest) ⊎ (most < two_lens c d first rest most)
two-go-far c d first rest most some = two c d first rest most some (aligned_len c d first rest most) (aligned_len c d (first + aligned_len c d first rest most) (rest - aligned_len c d first rest most) most) refl refl
