-- Sequences of parts of one size: whole parts are their parts joined, and a loop over them adds one at a time.
use Rattle.std.proofs.Common.{◌≡◌, ℕ, zero, suc, ◌+◌, ◌*◌, ◌<◌, ◌≤◌, List, ◌++◌, length, take, drop, sym, ap, ◌∙◌, inl, inr, refl, arith}
use Rattle.std.proofs.lemmas.Bool.{cases_lt}
use Rattle.std.proofs.lemmas.List.{append-nil, append_assoc, length-append, length-drop, take_all, take-append-le, drop_at, drop-append-le, drop-drop}
use Rattle.std.proofs.Math.Nat.{mul-le-mul_left}
use Rattle.std.proofs.Math.Seq.{take-add}
use Rattle.std.proofs.lemmas.Slice.{take-put_mid, drop-put_mid}
use borrow.Rule.Slice.PartMut.{put_mid}
use Rattle.aes_block.specs.Blocks.{joined}
use Rattle.aes_block.proofs.lemmas.BlockLemmas.{joined-same}

-- the parts before part m and then the rest
pub joined-add : (f : ℕ → List ℕ) (m n : ℕ) → joined f (m + n) ≡ joined f m ++ joined (λ j. f (m + j)) n
unfolding joined
joined-add f m zero = let e : m + 0 ≡ m = omega arith in rw e (sym (append-nil (joined f m)))
joined-add f m (suc n) =
    let e : m + suc n ≡ suc (m + n) = omega arith in
    rw e (ap (λ xs. xs ++ f (m + n)) (joined-add f m n) ∙ append_assoc (joined f m) (joined (λ j. f (m + j)) n) (f (m + n)))

-- what a step leaves of bytes: the first m parts written, and the rest as it was
pub record IsWrittenTo (size : ℕ) (parts : ℕ → List ℕ) (old now : List ℕ) (m : ℕ) : Type 0 where
  pub front : take (size * m) now ≡ joined parts m
  pub rest : drop (size * m) now ≡ drop (size * m) old

module _ (size : ℕ) where
  pub length-joined_parts : (f : ℕ → List ℕ) (m : ℕ) → ((j : ℕ) → j < m → length (f j) ≡ size) → length (joined f m) ≡ size * m
  unfolding joined
  length-joined_parts f zero long = omega arith
  length-joined_parts f (suc m) long =
      omega (arith, length-append (joined f m) (f m), length-joined_parts f m (λ j h. long j (omega arith)), long m (omega arith))

  pub part-joined : (f : ℕ → List ℕ) (m j : ℕ) → ((j : ℕ) → j < m → length (f j) ≡ size) → j < m → take size (drop (size * j) (joined f m)) ≡ f j
  unfolding joined
  part-joined f zero j long h = absurd (omega arith)
  part-joined f (suc m) j long h =
      let front = length-joined_parts f m (λ i k. long i (omega arith)) in
      elim (cases_lt j m) [
        | inl below ↦
            let room : size * (j + 1) ≤ size * m = mul-le-mul_left size (omega (arith, below)) in
            let at = drop-append-le (size * j) (joined f m) (f m) (omega (arith, front, room)) in
            let rest = take-append-le size (drop (size * j) (joined f m)) (f m) (omega (arith, front, room, length-drop (size * j) (joined f m))) in
            ap (take size) at ∙ rest ∙ part-joined f m j (λ i k. long i (omega arith)) below
        | inr above ↦
            let last : j ≡ m = omega arith in
            let at = drop_at (joined f m) (f m) (size * j) (rw last front) in
            let fits : length (f m) ≤ size = omega (arith, long m (omega arith)) in
            ap (take size) at ∙ take_all size (f m) fits ∙ ap f (sym last)
      ]

  pub joined-part : (bytes : List ℕ) (m : ℕ) → joined (λ j. take size (drop (size * j) bytes)) m ≡ take (size * m) bytes
  unfolding joined
  joined-part bytes zero = let e : size * 0 ≡ 0 = omega arith in rw e refl
  joined-part bytes (suc m) =
      let e : size * suc m ≡ size * m + size = omega arith in
      ap (λ xs. xs ++ take size (drop (size * m) bytes)) (joined-part bytes m) ∙ sym (take-add (size * m) size bytes) ∙ ap (λ n. take n bytes) (sym e)

  pub IsWrittenTo-none : (parts : ℕ → List ℕ) (old : List ℕ) → IsWrittenTo size parts old old 0
  unfolding joined
  IsWrittenTo-none parts old = let e : size * 0 ≡ 0 = omega arith in record { front = rw e refl; rest = refl }

  -- n parts more, written at a
  pub IsWrittenTo-more : (parts : ℕ → List ℕ) (old now out : List ℕ) (m n a k : ℕ) → a ≡ size * m → k ≡ size * n → a + k ≤ length now
      → out ≡ joined (λ j. parts (m + j)) n → length out ≡ k → IsWrittenTo size parts old now m → IsWrittenTo size parts old (put_mid a k now out) (m + n)
  IsWrittenTo-more parts old now out m n a k at wide fits same long written =
      let next : size * (m + n) ≡ a + k = omega (arith, at, wide) in
      let put = take-put_mid a k now out (size * (m + n)) (omega (arith, next, long)) (omega (arith, fits)) in
      let past = drop-put_mid a k now out (size * (m + n)) (omega (arith, next)) (omega (arith, fits)) long in
      let on : a + k ≡ size * m + k = ap (λ x. x + k) at in
      record {
        front = put ∙ ap (λ n. take n now ++ out) at ∙ ap (λ xs. xs ++ out) written.front ∙ ap (λ xs. joined parts m ++ xs) same ∙ sym (joined-add parts m n);
        rest = past ∙ ap (λ n. drop n now) (next ∙ on) ∙ sym (drop-drop k (size * m) now) ∙ ap (drop k) written.rest ∙ drop-drop k (size * m) old ∙ ap (λ n. drop n old) (sym (next ∙ on));
      }

  pub IsWrittenTo-all : (parts : ℕ → List ℕ) (old now : List ℕ) (m : ℕ) → length now ≡ size * m → IsWrittenTo size parts old now m → now ≡ joined parts m
  IsWrittenTo-all parts old now m len written = sym (take_all (size * m) now (omega (arith, len))) ∙ written.front

  -- two maps of parts, each by the number of the part, of which the second undoes the first on each part
  module _ (f g : ℕ → List ℕ → List ℕ) (bytes : List ℕ) (m : ℕ) (whole : length bytes ≡ size * m) (long : (j : ℕ) → j < m → length (f j (take size (drop (size * j) bytes))) ≡ size)
      (undone : (j : ℕ) → j < m → g j (f j (take size (drop (size * j) bytes))) ≡ take size (drop (size * j) bytes)) where
    pub parts_undone : joined (λ j. g j (take size (drop (size * j) (joined (λ i. f i (take size (drop (size * i) bytes))) m)))) m ≡ bytes
    parts_undone =
        let out = joined (λ i. f i (take size (drop (size * i) bytes))) m in
        joined-same (λ j. g j (take size (drop (size * j) out))) (λ j. take size (drop (size * j) bytes)) m (λ j h.
        ap (g j) (part-joined (λ i. f i (take size (drop (size * i) bytes))) m j long h) ∙ undone j h)
        ∙ joined-part bytes m ∙ take_all (size * m) bytes (omega (arith, whole))
