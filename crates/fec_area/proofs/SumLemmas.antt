-- Sums over the first numbers, and over those of a round.
use Rattle.std.proofs.Common.{◌≡◌, ◌≢◌, ℕ, ◌+◌, ◌*◌, ◌%◌, ◌<◌, ◌≤◌, ◌-◌, zero, suc, Bool, true, false, cond, inl, inr, refl, sym, ap, ◌∙◌, arith}
use Rattle.std.specs.Prelude.{count_by}
use Rattle.std.specs.List.{range_with_len}
use Rattle.std.proofs.lemmas.Bool.{cases_eq}
use Rattle.std.proofs.lemmas.List.Sums.{sum_by-cons}
use Rattle.std.proofs.lemmas.Nat.{mod-mul-add}
use Rattle.fec_area.specs.Asking.{sum_to}

pub sum-none : (f : ℕ → ℕ) → sum_to f 0 ≡ 0
unfolding sum_to
sum-none f = refl

sum-suc : (f : ℕ → ℕ) (n : ℕ) → sum_to f (suc n) ≡ sum_to f n + f n
unfolding sum_to
sum-suc f n = refl

pub sum-next : (f : ℕ → ℕ) (n : ℕ) → sum_to f n + f n ≡ sum_to f (n + 1)
sum-next f n =
    let e : suc n ≡ n + 1 = omega arith in
    sym (sum-suc f n) ∙ ap (λ k. sum_to f k) e

pub sum-same : (f g : ℕ → ℕ) (n : ℕ) → ((k : ℕ) → k < n → f k ≡ g k) → sum_to f n ≡ sum_to g n
unfolding sum_to
sum-same f g zero same = refl
sum-same f g (suc n) same =
    let front = sum-same f g n (λ k h. same k (omega arith)) in
    let last = same n (omega arith) in
    cc (front, last)

pub sum-zero : (f : ℕ → ℕ) (n : ℕ) → ((k : ℕ) → k < n → f k ≡ 0) → sum_to f n ≡ 0
unfolding sum_to
sum-zero f zero none = refl
sum-zero f (suc n) none =
    let front = sum-zero f n (λ k h. none k (omega arith)) in
    let last = none n (omega arith) in
    omega (arith, front, last)

pub sum-split : (f : ℕ → ℕ) (a n : ℕ) → sum_to f (a + n) ≡ sum_to f a + sum_to (λ k. f (a + k)) n
sum-split f a zero =
    let e : a + 0 ≡ a = omega arith in
    let none = sum-none (λ k. f (a + k)) in
    ap (λ k. sum_to f k) e ∙ omega (arith, none)
sum-split f a (suc n) =
    let e : a + suc n ≡ suc (a + n) = omega arith in
    let front = sum-split f a n in
    let last = sum-suc f (a + n) in
    let more : sum_to (λ k. f (a + k)) (suc n) ≡ sum_to (λ k. f (a + k)) n + f (a + n) = sum-suc (λ k. f (a + k)) n in
    ap (λ k. sum_to f k) e ∙ omega (arith, front, last, more)

pub sum-le : (f : ℕ → ℕ) (a n : ℕ) → a ≤ n → sum_to f a ≤ sum_to f n
sum-le f a n le =
    let e : a + (n - a) ≡ n = omega arith in
    let split = sum-split f a (n - a) in
    let whole : sum_to f (a + (n - a)) ≡ sum_to f n = ap (λ k. sum_to f k) e in
    omega (arith, split, whole)

-- of summands that are at most 1
pub sum-most : (f : ℕ → ℕ) (n : ℕ) → ((k : ℕ) → k < n → f k ≤ 1) → sum_to f n ≤ n
unfolding sum_to
sum-most f zero few = omega arith
sum-most f (suc n) few =
    let front = sum-most f n (λ k h. few k (omega arith)) in
    let last = few n (omega arith) in
    omega (arith, front, last)

-- past some number nothing is added
pub sum-past : (f : ℕ → ℕ) (a n : ℕ) → a ≤ n → ((k : ℕ) → a ≤ k → f k ≡ 0) → sum_to f n ≡ sum_to f a
sum-past f a n le none =
    let e : a + (n - a) ≡ n = omega arith in
    let split = sum-split f a (n - a) in
    let whole : sum_to f (a + (n - a)) ≡ sum_to f n = ap (λ k. sum_to f k) e in
    let rest : sum_to (λ k. f (a + k)) (n - a) ≡ 0 = sum-zero (λ k. f (a + k)) (n - a) (λ k h. none (a + k) (omega arith)) in
    omega (arith, split, whole, rest)

-- a sum with one summand
sum-one : (f : ℕ → ℕ) (n p : ℕ) → p < n → ((k : ℕ) → k < n → k ≢ p → f k ≡ 0) → sum_to f n ≡ f p
sum-one f zero p h none = absurd (omega arith)
sum-one f (suc n) p h none =
    elim (cases_eq p n) [
      | inl at ↦
          let front = sum-zero f n (λ k lt. none k (omega arith) (λ q. absurd (omega (arith, q, at, lt)))) in
          let same : f p ≡ f n = ap f at in
          omega (arith, sum-suc f n, front, same)
      | inr apart ↦
          let other : p ≢ n = apart in
          let front = sum-one f n p (omega arith) (λ k lt ne. none k (omega arith) ne) in
          let last = none n (omega arith) (λ q. other (sym q)) in
          omega (arith, sum-suc f n, front, last)
    ]

-- Of each r-th number of n the summand counts, where these follow one another m times.
pub sum-rounds : (f : ℕ → ℕ) (n r m : ℕ) → r < n → ((k : ℕ) → k % n ≢ r → f k ≡ 0) → sum_to f (m * n) ≡ sum_to (λ i. f (i * n + r)) m
sum-rounds f n r zero lt none =
    let e : 0 * n ≡ 0 = omega arith in
    ap (λ k. sum_to f k) e ∙ sum-none f ∙ sym (sum-none (λ i. f (i * n + r)))
sum-rounds f n r (suc m) lt none =
    let e : suc m * n ≡ m * n + n = grind arith in
    let split = sum-split f (m * n) n in
    let front = sum-rounds f n r m lt none in
    let last : sum_to (λ k. f (m * n + k)) n ≡ f (m * n + r) = sum-one (λ k. f (m * n + k)) n r lt (λ k h apart. none (m * n + k) (λ q. apart (sym (mod-mul-add m n k h) ∙ q))) in
    let more : sum_to (λ i. f (i * n + r)) (suc m) ≡ sum_to (λ i. f (i * n + r)) m + f (m * n + r) = sum-suc (λ i. f (i * n + r)) m in
    ap (λ k. sum_to f k) e ∙ omega (arith, split, front, last, more)

times : (b : Bool) (s : ℕ) → cond b 1 0 * s ≡ cond b s 0
times true s = omega arith
times false s = omega arith

sum-times : (x y s : ℕ) → (x + y) * s ≡ x * s + y * s
sum-times x y s = grind arith

-- a count of numbers that follow one another, times s
pub count-sum : (p : ℕ → Bool) (a n s : ℕ) → count_by p (range_with_len a n) * s ≡ sum_to (λ k. cond (p (a + k)) s 0) n
count-sum p a zero s =
    let none : 0 * s ≡ 0 = omega arith in
    none ∙ sym (sum-none (λ k. cond (p (a + k)) s 0))
count-sum p a (suc n) s =
    let f = λ (k : ℕ). cond (p (a + k)) s 0 in
    let rest = range_with_len (a + 1) n in
    let cons : count_by p (range_with_len a (suc n)) ≡ cond (p a) 1 0 + count_by p rest = sum_by-cons (λ x. cond (p x) 1 0) a rest in
    let here : a + 0 ≡ a = omega arith in
    let first : f 0 ≡ cond (p a) s 0 = ap (λ k. cond (p k) s 0) here in
    let same : sum_to (λ k. cond (p (a + 1 + k)) s 0) n ≡ sum_to (λ k. f (1 + k)) n = sum-same (λ k. cond (p (a + 1 + k)) s 0) (λ k. f (1 + k)) n (λ k h.
    let next : a + 1 + k ≡ a + (1 + k) = omega arith in
    ap (λ j. cond (p j) s 0) next) in
    let e : 1 + n ≡ suc n = omega arith in
    let split = sum-split f 1 n in
    let whole : sum_to f (1 + n) ≡ sum_to f (suc n) = ap (λ k. sum_to f k) e in
    let one : sum_to f 1 ≡ sum_to f 0 + f 0 = sum-suc f 0 in
    let none = sum-none f in
    let all : cond (p a) s 0 + sum_to (λ k. cond (p (a + 1 + k)) s 0) n ≡ sum_to f (suc n) = omega (arith, first, same, split, whole, one, none) in
    ap (λ k. k * s) cons
    ∙ sum-times (cond (p a) 1 0) (count_by p rest) s
    ∙ ap (λ q. q + count_by p rest * s) (times (p a) s)
    ∙ ap (λ q. cond (p a) s 0 + q) (count-sum p (a + 1) n s)
    ∙ all
