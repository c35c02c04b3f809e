-- How many sectors the blocks over some data blocks take.
use Rattle.std.proofs.Common.{◌≡◌, ◌≤◌, ◌<◌, ◌+◌, ◌-◌, ◌*◌, ◌/◌, ◌%◌, ◌^◌, ℕ, zero, suc, refl, ap, ◌∙◌, subst, arith, inl, inr, add-one}
use Rattle.std.specs.Int.{div_ceil}
use Rattle.std.proofs.Math.Nat.{lt_of_mul-lt-mul_right, mul-le-mul_right, pow-zero, div-mul-le_self}
use Rattle.std.proofs.lemmas.Bool.{cases_lt}
use Rattle.std.proofs.lemmas.Grind.{div_ceil_times}
use Rattle.tree_shape.specs.Shape.{ShapeRecord, IsShape, ancestor, level_blocks, per_block}
use Rattle.tree_shape.proofs.lemmas.ShapeLemmas.{pow_pos}
use Rattle.tree_path.proofs.lemmas.SpanLemmas.{lower-mod, power-more, whole}
use Rattle.tree_repair.specs.AccessBudgets.{data_over, hash_over, hash_up_to, left_of, sectors_over}
use Rattle.tree_path.specs.Unused.{digests_in}
use Rattle.tree_repair.specs.Runs.{size_at}
use Rattle.tree_repair.proofs.RowLemmas.{per_block-some}

pub times-next : (x d : ℕ) → suc x * d ≡ x * d + d
times-next x d = grind arith

pub times-more : (x d : ℕ) → (x + 1) * d ≡ x * d + d
times-more x d = grind arith

-- ---- a quotient that is rounded up

module _ (d : ℕ) (some : 0 < d) where
  pub ceil-more : (n m : ℕ) → n ≤ m → div_ceil n d ≤ div_ceil m d
  ceil-more n m le =
      let low : div_ceil n d * d < n + d = (div_ceil_times n d some).1 in
      let high : m ≤ div_ceil m d * d = (div_ceil_times m d some).0 in
      let less : div_ceil n d < suc (div_ceil m d) = lt_of_mul-lt-mul_right d (omega (arith, low, high, times-next (div_ceil m d) d, le)) in
      omega (arith, less)

  pub ceil-next : (n : ℕ) → 0 < n → suc (div_ceil (n - d) d) ≤ div_ceil n d
  ceil-next n more =
      let low : div_ceil (n - d) d * d < n - d + d = (div_ceil_times (n - d) d some).1 in
      let high : n ≤ div_ceil n d * d = (div_ceil_times n d some).0 in
      elim (cases_lt n d) [
        | inl few ↦
            let none : div_ceil (n - d) d < 1 = lt_of_mul-lt-mul_right d (omega (arith, low, few)) in
            let one : 0 < div_ceil n d = lt_of_mul-lt-mul_right d (omega (arith, high, more)) in
            omega (arith, none, one)
        | inr many ↦
            let less : div_ceil (n - d) d < div_ceil n d = lt_of_mul-lt-mul_right d (omega (arith, low, high, many)) in
            omega (arith, less)
      ]

  pub inside-ceil : (b k : ℕ) → k < div_ceil b d → k * d < b
  inside-ceil b k below =
      let low : div_ceil b d * d < b + d = (div_ceil_times b d some).1 in
      let most : suc k * d ≤ div_ceil b d * d = mul-le-mul_right d below in
      omega (arith, low, most, times-next k d)

pub ceil-one : (n : ℕ) → div_ceil n 1 ≡ n
ceil-one n = omega (arith, (div_ceil_times n 1 (omega arith)).0, (div_ceil_times n 1 (omega arith)).1)

level-is : (s : ShapeRecord) (l : ℕ) → level_blocks s l ≡ div_ceil s.blocks (per_block s ^ (l + 1))
unfolding level_blocks
level-is s l = refl

ancestor-is : (s : ShapeRecord) (m i : ℕ) → ancestor s m i ≡ i / per_block s ^ m
unfolding ancestor
ancestor-is s m i = refl

-- ---- over n data blocks

module _ (s : ShapeRecord) (valid : IsShape s) where
  pub power-some : (h : ℕ) → 0 < per_block s ^ h
  power-some h = pow_pos (per_block s) h (per_block-some s valid)

  pub sectors-more : (h n m : ℕ) → n ≤ m → sectors_over s h n ≤ sectors_over s h m
  sectors-more h n m le = mul-le-mul_right (size_at s h / 512) (ceil-more (per_block s ^ h) (power-some h) n m le)

  -- one block more
  pub sectors-next : (h n : ℕ) → 0 < n → sectors_over s h (n - per_block s ^ h) + size_at s h / 512 ≤ sectors_over s h n
  sectors-next h n some =
      let d : ℕ = per_block s ^ h in
      let k : ℕ = size_at s h / 512 in
      let most : suc (div_ceil (n - d) d) * k ≤ div_ceil n d * k = mul-le-mul_right k (ceil-next d (power-some h) n some) in
      omega (arith, most, times-next (div_ceil (n - d) d) k)

  pub data-more : (h n m : ℕ) → n ≤ m → data_over s h n ≤ data_over s h m
  data-more zero n m le = sectors-more zero n m le
  data-more (suc l) n m le = omega arith

  pub hash-more : (h n m : ℕ) → n ≤ m → hash_over s h n ≤ hash_over s h m
  hash-more zero n m le = omega arith
  hash-more (suc l) n m le = sectors-more (suc l) n m le

  pub up_to-more : (h n m : ℕ) → n ≤ m → hash_up_to s h n ≤ hash_up_to s h m
  up_to-more zero n m le = omega arith
  up_to-more (suc l) n m le = omega (arith, sectors-more (suc l) n m le, up_to-more l n m le)

  pub up_to-higher : (l h n : ℕ) → l ≤ h → hash_up_to s l n ≤ hash_up_to s h n
  up_to-higher l zero n le = (let none : l ≡ zero = omega (arith, le) in rw none (omega arith))
  up_to-higher l (suc h) n le = elim (cases_lt l (suc h)) [
    | inl less ↦ omega (arith, up_to-higher l h n (omega (arith, less)))
    | inr not ↦ (let same : l ≡ suc h = omega (arith, le, not) in rw same (omega arith))
  ]

  pub data-all : (n : ℕ) → sectors_over s zero n ≡ n * (s.data_block / 512)
  data-all n = ap (λ (d : ℕ). div_ceil n d * (s.data_block / 512)) (pow-zero (per_block s)) ∙ ap (λ (k : ℕ). k * (s.data_block / 512)) (ceil-one n)

  -- a row of x data blocks is among those that are left
  pub data-row : (h x n q : ℕ) → x ≤ q → x ≤ n → data_over s h x + data_over s h (n - q) ≤ data_over s h n
  data-row zero x n q few inside =
      let k : ℕ = s.data_block / 512 in
      let parts : (x + (n - q)) * k ≡ x * k + (n - q) * k = grind arith in
      let most : (x + (n - q)) * k ≤ n * k = mul-le-mul_right k (omega (arith, few, inside)) in
      omega (arith, parts, most, data-all x, data-all (n - q), data-all n)
  data-row (suc l) x n q few inside = omega arith

  -- the way to one row more
  pub ways-next : (h n most : ℕ) → 0 < n → sectors_over s (suc h) (n - per_block s ^ suc h) * most + most * (s.hash_block / 512) ≤ sectors_over s (suc h) n * most
  ways-next h n most some =
      let k : ℕ = s.hash_block / 512 in
      let less : ℕ = sectors_over s (suc h) (n - per_block s ^ suc h) in
      let all : (less + k) * most ≤ sectors_over s (suc h) n * most = mul-le-mul_right most (sectors-next (suc h) n some) in
      let parts : (less + k) * most ≡ less * most + most * k = grind arith in
      omega (arith, all, parts)

  -- ---- from a block on

  -- block k of a height has data
  pub block-some : (h k : ℕ) → k < digests_in s h → k * per_block s ^ h < s.blocks
  block-some zero k below = (let one : per_block s ^ zero ≡ 1 = pow-zero (per_block s) in rw one (omega (arith, below)))
  block-some (suc l) k below =
      let count : level_blocks s l ≡ div_ceil s.blocks (per_block s ^ suc l) = level-is s l ∙ ap (λ (n : ℕ). div_ceil s.blocks (per_block s ^ n)) (add-one l) in
      inside-ceil (per_block s ^ suc l) (power-some (suc l)) s.blocks k (subst (λ (n : ℕ). k < n) count below)

  pub left-some : (h k : ℕ) → k < digests_in s h → 0 < left_of s h k
  left-some h k below = omega (arith, block-some h k below)

  pub left-above : (h i : ℕ) → i < s.blocks → 0 < left_of s h (ancestor s h i)
  left-above h i inside = omega (arith, inside, div-mul-le_self i (per_block s ^ h), ap (λ (n : ℕ). n * per_block s ^ h) (ancestor-is s h i))

pub left-next : (s : ShapeRecord) (h k : ℕ) → left_of s h (k + 1) ≡ left_of s h k - per_block s ^ h
left-next s h k = omega (arith, times-more k (per_block s ^ h))

-- from data block i on, at which a block begins
pub left-at : (s : ShapeRecord) → IsShape s → (h i : ℕ) → i % per_block s ^ h ≡ 0 → left_of s h (ancestor s h i) ≡ s.blocks - i
left-at s valid h i begins =
    let at : i ≡ i / per_block s ^ h * per_block s ^ h = whole i (per_block s ^ h) (pow_pos (per_block s) h (per_block-some s valid)) begins in
    omega (arith, at, ap (λ (n : ℕ). n * per_block s ^ h) (ancestor-is s h i))

-- a block that begins before the end of its row ends by then
pub block-fits : (p : ℕ) → 0 < p → (h first i : ℕ) → first % p ^ (h + 1) ≡ 0 → i % p ^ h ≡ 0 → i < first + p ^ (h + 1) → i + p ^ h ≤ first + p ^ (h + 1)
block-fits p some h first i row begins below =
    let d : ℕ = p ^ h in
    let more : ℕ = p ^ (h + 1 - h) in
    let positive : 0 < d = pow_pos p h some in
    let at : i ≡ i / d * d = whole i d positive begins in
    let from : first ≡ first / d * d = whole first d positive (lower-mod p some first h (h + 1) (omega arith) row) in
    let high : p ^ (h + 1) ≡ more * d = power-more p h (h + 1) (omega arith) in
    let sum : (first / d + more) * d ≡ first / d * d + more * d = grind arith in
    let less : i / d < first / d + more = lt_of_mul-lt-mul_right d (omega (arith, at, from, high, sum, below)) in
    let most : suc (i / d) * d ≤ (first / d + more) * d = mul-le-mul_right d less in
    omega (arith, at, from, high, sum, most, times-next (i / d) d)
