-- Data blocks of one subtree.
use Rattle.std.proofs.Common.{◌≡◌, ◌≢◌, ◌≤◌, ◌<◌, ◌+◌, ◌-◌, ◌*◌, ◌/◌, ◌%◌, ◌^◌, ℕ, suc, sym, ap, ◌∙◌, arith, inl, inr, add-one}
use Rattle.std.proofs.Math.Nat.{mul-le-mul_right, mul_assoc, pow-succ'}
use Rattle.std.proofs.lemmas.Bool.{cases_lt}
use Rattle.std.proofs.lemmas.Nat.{pow-add, mod_below, div-add-mod', div-mul-add, mod-mul-add}
use Rattle.tree_shape.proofs.lemmas.ShapeLemmas.{pow_pos}

-- what has no rest is as many times as its quotient
pub whole : (a b : ℕ) → 0 < b → a % b ≡ 0 → a ≡ a / b * b
whole a b some none = omega (arith, div-add-mod' a b)

pub whole-mod : (q b : ℕ) → 0 < b → (q * b) % b ≡ 0
whole-mod q b some = let plain : q * b ≡ q * b + 0 = omega arith in ap (λ n. n % b) plain ∙ mod-mul-add q b 0 some

pub whole-div : (q b : ℕ) → 0 < b → q * b / b ≡ q
whole-div q b some = let plain : q * b ≡ q * b + 0 = omega arith in ap (λ n. n / b) plain ∙ div-mul-add q b 0 some

-- a power is as often in a higher one
pub power-more : (p k m : ℕ) → k ≤ m → p ^ m ≡ p ^ (m - k) * p ^ k
power-more p k m le = (let e : m ≡ m - k + k = omega arith in ap (λ n. p ^ n) e) ∙ pow-add p (m - k) k

pub power-least : (p k m : ℕ) → 0 < p → k ≤ m → p ^ k ≤ p ^ m
power-least p k m some le =
    let one : 1 ≤ p ^ (m - k) = omega (arith, pow_pos p (m - k) some) in
    let more : 1 * p ^ k ≤ p ^ (m - k) * p ^ k = mul-le-mul_right (p ^ k) one in
    omega (arith, more, power-more p k m le)

-- a subtree of level k begins at i, and none of the next one
pub top-here : (p i rest k : ℕ) → 0 < p → i ≡ rest * p ^ k → rest % p ≢ 0 → i % p ^ suc k ≢ 0
top-here p i rest k some is apart none =
    let q : ℕ = i / p ^ suc k in
    let cut : q * p ^ suc k ≡ q * p * p ^ k = ap (λ n. q * n) (pow-succ' p k) ∙ sym (mul_assoc q p (p ^ k)) in
    let both : rest * p ^ k ≡ q * p * p ^ k = sym is ∙ whole i (p ^ suc k) (pow_pos p (suc k) some) none ∙ cut in
    let same : rest ≡ q * p = sym (whole-div rest (p ^ k) (pow_pos p k some)) ∙ ap (λ n. n / p ^ k) both ∙ whole-div (q * p) (p ^ k) (pow_pos p k some) in
    apart (ap (λ n. n % p) same ∙ whole-mod q p some)

-- one level higher
pub top-more : (p i rest k : ℕ) → 0 < p → i ≡ rest * p ^ k → rest % p ≡ 0 → i ≡ rest / p * p ^ (k + 1)
top-more p i rest k some is none =
    is ∙ ap (λ n. n * p ^ k) (whole rest p some none) ∙ mul_assoc (rest / p) p (p ^ k) ∙ ap (λ n. rest / p * n) (sym (pow-succ' p k)) ∙ ap (λ n. rest / p * p ^ n) (sym (add-one k))

module _ (p : ℕ) (some : 0 < p) where
  -- what a higher power divides a lower one does
  pub lower-mod : (a k m : ℕ) → k ≤ m → a % p ^ m ≡ 0 → a % p ^ k ≡ 0
  lower-mod a k m le none =
      let q : ℕ = a / p ^ m in
      let is : a ≡ q * p ^ m = whole a (p ^ m) (pow_pos p m some) none in
      let cut : q * p ^ m ≡ q * p ^ (m - k) * p ^ k = ap (λ n. q * n) (power-more p k m le) ∙ sym (mul_assoc q (p ^ (m - k)) (p ^ k)) in
      ap (λ n. n % p ^ k) (is ∙ cut) ∙ whole-mod (q * p ^ (m - k)) (p ^ k) (pow_pos p k some)

  -- a block of a subtree that begins at block a has the same blocks above it
  pub along : (a i k m : ℕ) → k ≤ m → a % p ^ k ≡ 0 → a ≤ i → i < a + p ^ k → i / p ^ m ≡ a / p ^ m
  along a i k m le begins from below =
      let b : ℕ = p ^ k in
      let r : ℕ = p ^ (m - k) in
      let big : ℕ = p ^ m in
      let is : big ≡ r * b = power-more p k m le in
      let u : ℕ = a / b in
      let at : a ≡ u * b = whole a b (pow_pos p k some) begins in
      let x : ℕ = u / r in
      let z : ℕ = u % r in
      let zr : z < r = mod_below u r (pow_pos p (m - k) some) in
      let ux : x * r + z ≡ u = div-add-mod' u r in
      let room : z * b + b ≤ r * b = (let most : suc z * b ≤ r * b = product-le (suc z) r b zr in let next : suc z * b ≡ z * b + b = grind arith in omega (arith, most, next)) in
      let ax : a ≡ x * big + z * b = at ∙ ap (λ n. n * b) (sym ux) ∙ (let e : (x * r + z) * b ≡ x * (r * b) + z * b = grind arith in e) ∙ ap (λ n. x * n + z * b) (sym is) in
      let rest : ℕ = i - a in
      let ix : i ≡ x * big + (z * b + rest) = omega (arith, ax) in
      ap (λ n. n / big) ix ∙ div-mul-add x big (z * b + rest) (omega (arith, room, is, below))
      ∙ sym (ap (λ n. n / big) ax ∙ div-mul-add x big (z * b) (omega (arith, room, is, pow_pos p k some)))
    where
      product-le : (c d e : ℕ) → c ≤ d → c * e ≤ d * e
      product-le c d e le = mul-le-mul_right e le

  -- the block after a subtree that begins at block a has the same blocks above it, unless it begins one of theirs
  pub behind : (a k m : ℕ) → k ≤ m → a % p ^ k ≡ 0 → (a + p ^ k) % p ^ m ≢ 0 → (a + p ^ k) / p ^ m ≡ a / p ^ m
  behind a k m le begins apart =
      let b : ℕ = p ^ k in
      let r : ℕ = p ^ (m - k) in
      let big : ℕ = p ^ m in
      let is : big ≡ r * b = power-more p k m le in
      let u : ℕ = a / b in
      let at : a ≡ u * b = whole a b (pow_pos p k some) begins in
      let x : ℕ = u / r in
      let z : ℕ = u % r in
      let zr : z < r = mod_below u r (pow_pos p (m - k) some) in
      let ux : x * r + z ≡ u = div-add-mod' u r in
      let ax : a ≡ x * big + z * b = at ∙ ap (λ n. n * b) (sym ux) ∙ (let e : (x * r + z) * b ≡ x * (r * b) + z * b = grind arith in e) ∙ ap (λ n. x * n + z * b) (sym is) in
      let next : a + b ≡ x * big + suc z * b = ap (λ n. n + b) ax ∙ (let e : x * big + z * b + b ≡ x * big + suc z * b = grind arith in e) in
      elim (cases_lt (suc z) r) [
        | inl less ↦
            let room : suc z * b + b ≤ r * b = (let most : suc (suc z) * b ≤ r * b = product-le (suc (suc z)) r b less in let more : suc (suc z) * b ≡ suc z * b + b = grind arith in omega (arith, most, more)) in
            let low : suc z * b < big = omega (arith, room, is, pow_pos p k some) in
            let low' : z * b < big = (let more : suc z * b ≡ z * b + b = grind arith in omega (arith, low, more)) in
            ap (λ n. n / big) next ∙ div-mul-add x big (suc z * b) low ∙ sym (ap (λ n. n / big) ax ∙ div-mul-add x big (z * b) low')
        | inr all ↦
            let last : suc z ≡ r = omega (arith, all, zr) in
            let whole_next : a + b ≡ suc x * big = next ∙ ap (λ n. x * big + n * b) last ∙ ap (λ n. x * big + n) (sym is) ∙ (let e : x * big + big ≡ suc x * big = grind arith in e) in
            absurd (apart (ap (λ n. n % big) whole_next ∙ whole-mod (suc x) big (pow_pos p m some)))
      ]
    where
      product-le : (c d e : ℕ) → c ≤ d → c * e ≤ d * e
      product-le c d e le = mul-le-mul_right e le
