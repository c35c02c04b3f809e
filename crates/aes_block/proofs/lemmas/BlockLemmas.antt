-- Sequences of blocks: whole blocks are their blocks joined, and a loop over them adds one at a time.
use Rattle.std.proofs.Common.{◌≡◌, ℕ, zero, suc, ◌+◌, ◌-◌, ◌*◌, ◌<◌, ◌≤◌, List, ◌++◌, length, take, drop, sym, ap, ◌∙◌, inl, inr, refl, arith}
use Rattle.std.proofs.lemmas.Bool.{cases_lt}
use Rattle.std.proofs.lemmas.List.{length-append, length-drop, take_all, take-append-le, drop_at, drop-append-le, drop-drop, drop-take, take-take}
use Rattle.std.proofs.Math.Seq.{take-add}
use Rattle.std.proofs.lemmas.Slice.{take-put_mid, drop-put_mid}
use borrow.Rule.Slice.PartMut.{put_mid}
use Rattle.aes_block.specs.Blocks.{block, joined}

-- ---- joined blocks

pub joined-same : (f g : ℕ → List ℕ) (m : ℕ) → ((j : ℕ) → j < m → f j ≡ g j) → joined f m ≡ joined g m
unfolding joined
joined-same f g zero same = refl
joined-same f g (suc m) same =
    let front = joined-same f g m (λ j h. same j (omega arith)) in
    let last = same m (omega arith) in
    cc (front, last)

pub length-joined : (f : ℕ → List ℕ) (m : ℕ) → ((j : ℕ) → j < m → length (f j) ≡ 16) → length (joined f m) ≡ 16 * m
unfolding joined
length-joined f zero long = omega arith
length-joined f (suc m) long =
    omega (arith, length-append (joined f m) (f m), length-joined f m (λ j h. long j (omega arith)), long m (omega arith))

-- block j of joined blocks is the j-th
pub block-joined : (f : ℕ → List ℕ) (m j : ℕ) → ((j : ℕ) → j < m → length (f j) ≡ 16) → j < m → block (joined f m) j ≡ f j
unfolding joined
block-joined f zero j long h = absurd (omega arith)
block-joined f (suc m) j long h =
    let front = length-joined f m (λ i k. long i (omega arith)) in
    elim (cases_lt j m) [
      | inl below ↦
          let at = drop-append-le (16 * j) (joined f m) (f m) (omega (arith, front)) in
          let rest = take-append-le 16 (drop (16 * j) (joined f m)) (f m) (omega (arith, front, length-drop (16 * j) (joined f m))) in
          ap (take 16) at ∙ rest ∙ block-joined f m j (λ i k. long i (omega arith)) below
      | inr above ↦
          let last : j ≡ m = omega arith in
          let at = drop_at (joined f m) (f m) (16 * j) (omega (arith, front)) in
          let fits : length (f m) ≤ 16 = omega (arith, long m (omega arith)) in
          ap (take 16) at ∙ take_all 16 (f m) fits ∙ ap f (sym last)
    ]

-- a block of the first n bytes
pub block-take : (bytes : List ℕ) (n j : ℕ) → 16 * j + 16 ≤ n → block (take n bytes) j ≡ block bytes j
block-take bytes n j h =
    let more : 16 * j + (n - 16 * j) ≡ n = omega arith in
    let front : drop (16 * j) (take n bytes) ≡ take (n - 16 * j) (drop (16 * j) bytes) = rw more at (drop-take (16 * j) (n - 16 * j) bytes) in
    ap (take 16) front ∙ take-take 16 (n - 16 * j) (drop (16 * j) bytes) (omega arith)

-- the first k blocks of a unit, joined, are its first bytes
pub joined-block : (unit : List ℕ) (k : ℕ) → 16 * k ≤ length unit → joined (block unit) k ≡ take (16 * k) unit
unfolding joined
joined-block unit zero h = refl
joined-block unit (suc k) h =
    let front = joined-block unit k (omega arith) in
    let more = take-add (16 * k) 16 unit in
    let e : 16 * suc k ≡ 16 * k + 16 = omega arith in
    ap (λ xs. xs ++ block unit k) front ∙ sym more ∙ ap (λ n. take n unit) (sym e)

pub joined_more : (f : ℕ → List ℕ) (m : ℕ) → joined f (m + 1) ≡ joined f m ++ f m
unfolding joined
joined_more f m =
    let e : m + 1 ≡ suc m = omega arith in
    rw e refl

-- ---- a loop that writes over each block

-- what a step leaves of a unit: the first blocks written, and the rest as it was
pub record IsWritten (blocks : ℕ → List ℕ) (old now : List ℕ) (m : ℕ) : Type 0 where
  pub front : take (16 * m) now ≡ joined blocks m
  pub rest : drop (16 * m) now ≡ drop (16 * m) old

pub IsWritten-none : (blocks : ℕ → List ℕ) (old : List ℕ) → IsWritten blocks old old 0
unfolding joined
IsWritten-none blocks old = record { front = refl; rest = refl }

-- the block that comes next is still as it was
pub block-written : (blocks : ℕ → List ℕ) (old now : List ℕ) (m : ℕ) → IsWritten blocks old now m → block now m ≡ block old m
block-written blocks old now m written = ap (take 16) written.rest

pub IsWritten-more : (blocks : ℕ → List ℕ) (old now out : List ℕ) (m : ℕ) → 16 * m + 16 ≤ length now → out ≡ blocks m → length out ≡ 16
    → IsWritten blocks old now m → IsWritten blocks old (put_mid (16 * m) (16 * m + 16 - 16 * m) now out) (m + 1)
IsWritten-more blocks old now out m fits same long written =
    let next : 16 * (m + 1) ≡ 16 * m + 16 = omega arith in
    let put = take-put_mid (16 * m) (16 * m + 16 - 16 * m) now out (16 * (m + 1)) (omega (arith, long)) (omega arith) in
    let past = drop-put_mid (16 * m) (16 * m + 16 - 16 * m) now out (16 * (m + 1)) (omega arith) (omega arith) (omega (arith, long)) in
    record {
      front = put ∙ ap (λ xs. xs ++ out) written.front ∙ ap (λ xs. joined blocks m ++ xs) same ∙ sym (joined_more blocks m);
      rest = past ∙ ap (λ n. drop n now) next ∙ sym (drop-drop 16 (16 * m) now) ∙ ap (drop 16) written.rest ∙ drop-drop 16 (16 * m) old ∙ ap (λ n. drop n old) (sym next);
    }

pub IsWritten-all : (blocks : ℕ → List ℕ) (old now : List ℕ) (m : ℕ) → length now ≡ 16 * m → IsWritten blocks old now m → now ≡ joined blocks m
IsWritten-all blocks old now m len written = sym (take_all (16 * m) now (omega (arith, len))) ∙ written.front
