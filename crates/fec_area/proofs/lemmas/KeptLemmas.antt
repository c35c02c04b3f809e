-- What one lost block costs at most: a round has one block at each place of the message.
use Rattle.std.proofs.Common.{◌≡◌, ℕ, ◌+◌, ◌-◌, ◌*◌, ◌%◌, ◌<◌, ◌≤◌, Bool, true, false, cond, not, List, inl, inr, ap, arith}
use Rattle.std.specs.Prelude.{count_by}
use Rattle.std.specs.List.{range_with_len}
use Rattle.std.proofs.Math.Nat.{mod-lt}
use Rattle.std.proofs.lemmas.Bool.{and_parts, cases_Bool, cases_lt, cond-false}
use Rattle.fec_area.specs.declared.layout.Layout.{Layout}
use Rattle.fec_area.specs.Asking.{is_among, is_kept, kept_data, kept_hash, sum_to}
use Rattle.fec_area.specs.Layouts.{IsLayout, covered_blocks, code_rounds}
use Rattle.fec_area.specs.Restoring.{is_beside, round_of}
use Rattle.fec_area.proofs.RestoringLemmas.{beside-round, rounds-room}
use Rattle.fec_area.proofs.SumLemmas.{count-sum, sum-le, sum-most, sum-none, sum-rounds, sum-same, sum-split}

-- how many of one covered block are kept, and of the first n
abbrev kept_one : Layout → List ℕ → ℕ → ℕ → ℕ
kept_one l lost index j = cond (is_kept l lost index j) 1 0

abbrev kept_to : Layout → List ℕ → ℕ → ℕ → ℕ
kept_to l lost index n = sum_to (kept_one l lost index) n

one-most : (b : Bool) → cond b 1 0 ≤ 1
one-most true = omega arith
one-most false = omega arith

-- of a block of another round none
other-round : (l : Layout) (lost : List ℕ) (index j : ℕ) → (j % code_rounds l ≡ round_of l index → ⊥) → kept_one l lost index j ≡ 0
other-round l lost index j apart = elim (cases_Bool (is_kept l lost index j)) [
  | inl taken ↦ absurd (apart (beside-round l index j (and_parts (is_beside l index j) (not (is_among lost j)) taken).0))
  | inr other ↦ cond-false (is_kept l lost index j) 1 0 other
]

round-few : (l : Layout) (lost : List ℕ) (index : ℕ) → IsLayout l → 0 < code_rounds l → kept_to l lost index (covered_blocks l) ≤ 255 - l.roots
round-few l lost index valid some =
    let n = code_rounds l in
    let r = round_of l index in
    let m : ℕ = 255 - l.roots in
    let f : ℕ → ℕ = kept_one l lost index in
    let room = rounds-room l valid in
    let swap : n * m ≡ m * n = grind arith in
    let more : sum_to f (covered_blocks l) ≤ sum_to f (m * n) = sum-le f (covered_blocks l) (m * n) (omega (arith, room, swap)) in
    let rounds : sum_to f (m * n) ≡ sum_to (λ i. f (i * n + r)) m = sum-rounds f n r m (mod-lt index some) (λ j apart. other-round l lost index j apart) in
    let most : sum_to (λ i. f (i * n + r)) m ≤ m = sum-most (λ i. f (i * n + r)) m (λ i h. one-most (is_kept l lost index (i * n + r))) in
    omega (arith, more, rounds, most)

covered-few : (l : Layout) (lost : List ℕ) (index : ℕ) → IsLayout l → kept_to l lost index (covered_blocks l) ≤ 255 - l.roots
covered-few l lost index valid = elim (cases_lt 0 (code_rounds l)) [
  | inl some ↦ round-few l lost index valid some
  | inr none ↦
      let zero : code_rounds l ≡ 0 = omega (arith, none) in
      let nothing : code_rounds l * (255 - l.roots) ≡ 0 * (255 - l.roots) = ap (λ n. n * (255 - l.roots)) zero in
      let empty : covered_blocks l ≡ 0 = omega (arith, nothing, rounds-room l valid) in
      let same : kept_to l lost index (covered_blocks l) ≡ kept_to l lost index 0 = ap (λ n. kept_to l lost index n) empty in
      let sum = sum-none (kept_one l lost index) in
      omega (arith, same, sum)
]

-- of both devices
pub kept-few : (l : Layout) → IsLayout l → (lost : List ℕ) → (index : ℕ) → kept_data l lost index + kept_hash l lost index ≤ 255 - l.roots
unfolding kept_data kept_hash
kept-few l valid lost index =
    let d = l.data_blocks in
    let h = l.hash_blocks in
    let p = is_kept l lost index in
    let f : ℕ → ℕ = kept_one l lost index in
    let of_data : count_by p (range_with_len 0 d) * 1 ≡ sum_to (λ k. cond (p (0 + k)) 1 0) d = count-sum p 0 d 1 in
    let here : sum_to (λ k. cond (p (0 + k)) 1 0) d ≡ sum_to f d = sum-same (λ k. cond (p (0 + k)) 1 0) f d (λ k lt.
    let at : 0 + k ≡ k = omega arith in
    ap (λ j. cond (p j) 1 0) at) in
    let of_hash : count_by p (range_with_len d h) * 1 ≡ sum_to (λ k. f (d + k)) h = count-sum p d h 1 in
    let split : sum_to f (covered_blocks l) ≡ sum_to f d + sum_to (λ k. f (d + k)) h = sum-split f d h in
    let few = covered-few l lost index valid in
    omega (arith, of_data, here, of_hash, split, few)

pub kept_data-few : (l : Layout) → IsLayout l → (lost : List ℕ) → (index : ℕ) → kept_data l lost index ≤ 255 - l.roots
kept_data-few l valid lost index = omega (arith, kept-few l valid lost index)

pub kept_hash-few : (l : Layout) → IsLayout l → (lost : List ℕ) → (index : ℕ) → kept_hash l lost index ≤ 255 - l.roots
kept_hash-few l valid lost index = omega (arith, kept-few l valid lost index)
