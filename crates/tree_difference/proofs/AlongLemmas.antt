-- Data blocks that have the same hash blocks above them.
use Rattle.std.proofs.Common.{◌≡◌, ◌≢◌, ◌≤◌, ◌<◌, ◌+◌, ◌-◌, ◌*◌, ◌/◌, ◌%◌, ◌^◌, ℕ, suc, refl, sym, ap, ◌∙◌, arith, inl, inr, ◌⊎◌}
use Rattle.std.proofs.Math.Nat.{zero-mul}
use Rattle.std.proofs.lemmas.Nat.{div-add-mod', div-mul-add, mod_below}
use Rattle.std.proofs.lemmas.Bool.{cases_lt}
use Rattle.block_device.specs.Device.{Device}
use Rattle.tree_shape.specs.Shape.{ShapeRecord, IsShape, levels, ancestor, per_block}
use Rattle.tree_shape.proofs.lemmas.ShapeFactLemmas.{quotient-le, two}
use Rattle.tree_shape.proofs.lemmas.ShapeLemmas.{pow_pos}
use Rattle.hash_tree.proofs.lemmas.LawLemmas.{levels-least}
use Rattle.tree_path.proofs.lemmas.PathLemmas.{digest_on-along, leads-along, leads-higher, stored-along, stored-higher}
use Rattle.tree_path.proofs.lemmas.SpanLemmas.{behind, lower-mod, whole, whole-mod, power-least}
use Rattle.tree_difference.specs.declared.walk.Walk.{Walk}
use Rattle.tree_difference.specs.Walks.{IsOn}

ancestor-is : (s : ShapeRecord) (m i : ℕ) → ancestor s m i ≡ i / per_block s ^ m
unfolding ancestor
ancestor-is s m i = refl

-- both trees have as many digests in a hash block
pub record HasWidth (w : Walk) (p : ℕ) : Type 0 where
  pub first : per_block w.first.shape ≡ p
  pub second : per_block w.second.shape ≡ p

pub first-same : (w : Walk) (p i j m : ℕ) → HasWidth w p → i / p ^ m ≡ j / p ^ m → ancestor w.first.shape m i ≡ ancestor w.first.shape m j
first-same w p i j m h same =
    ancestor-is w.first.shape m i ∙ ap (λ (n : ℕ). i / n ^ m) h.first ∙ same ∙ sym (ap (λ (n : ℕ). j / n ^ m) h.first) ∙ sym (ancestor-is w.first.shape m j)

pub second-same : (w : Walk) (p i j m : ℕ) → HasWidth w p → i / p ^ m ≡ j / p ^ m → ancestor w.second.shape m i ≡ ancestor w.second.shape m j
second-same w p i j m h same =
    ancestor-is w.second.shape m i ∙ ap (λ (n : ℕ). i / n ^ m) h.second ∙ same ∙ sym (ap (λ (n : ℕ). j / n ^ m) h.second) ∙ sym (ancestor-is w.second.shape m j)

pub on-along : (w : Walk) (d e : Device) (p i j k : ℕ) → HasWidth w p → ((m : ℕ) → k < m → i / p ^ m ≡ j / p ^ m) → IsOn w d e i k → IsOn w d e j k
on-along w d e p i j k h same on = record {
  first_leads = leads-along w.first i j k (λ m low. first-same w p i j m h (same m low)) on.first_leads;
  second_leads = leads-along w.second i j k (λ m low. second-same w p i j m h (same m low)) on.second_leads;
  first_stored = λ steady. stored-along w.first i j k (λ m low. first-same w p i j m h (same m low)) d.image (on.first_stored steady);
  second_stored = λ steady. stored-along w.second i j k (λ m low. second-same w p i j m h (same m low)) e.image (on.second_stored steady);
  differ = λ m low most is. on.differ m low most
      (digest_on-along w.first i j m (first-same w p i j m h (same m low)) ∙ is ∙ sym (digest_on-along w.second i j m (second-same w p i j m h (same m low))));
}

pub on-higher : (w : Walk) (d e : Device) (i k m : ℕ) → k ≤ m → IsOn w d e i k → IsOn w d e i m
on-higher w d e i k m le on = record {
  first_leads = leads-higher w.first i k m le on.first_leads;
  second_leads = leads-higher w.second i k m le on.second_leads;
  first_stored = λ steady. stored-higher w.first d.image i k m le (on.first_stored steady);
  second_stored = λ steady. stored-higher w.second e.image i k m le (on.second_stored steady);
  differ = λ n low most. on.differ n (omega (arith, le, low)) most;
}

-- above the levels of a tree there is one block
pub none-above : (s : ShapeRecord) → IsShape s → (i m : ℕ) → i < s.blocks → levels s ≤ m → i / per_block s ^ m ≡ 0
none-above s valid i m inside high =
    let some : 0 < per_block s = omega (arith, two s valid) in
    let big : ℕ = per_block s ^ m in
    let less : i / big ≤ (s.blocks - 1) / big = quotient-le i (s.blocks - 1) big (pow_pos (per_block s) m some) (omega arith) in
    let none : (s.blocks - 1) / per_block s ^ levels s ≡ 0 = (levels-least s valid).0 in
    let lower : (s.blocks - 1) < per_block s ^ levels s = below (s.blocks - 1) (per_block s ^ levels s) (pow_pos (per_block s) (levels s) some) none in
    let wide : per_block s ^ levels s ≤ big = power-least (per_block s) (levels s) m some high in
    let zero_over : (s.blocks - 1) / big ≡ 0 = over (s.blocks - 1) big (omega (arith, lower, wide)) in
    omega (arith, less, zero_over)
  where
    below : (n b : ℕ) → 0 < b → n / b ≡ 0 → n < b
    below n b some none = omega (arith, mod_below n b some, div-add-mod' n b, (let e : n / b * b ≡ 0 = ap (λ q. q * b) none ∙ zero-mul b in e))

    over : (n b : ℕ) → n < b → n / b ≡ 0
    over n b low = (let e : n ≡ 0 * b + n = omega (arith, zero-mul b) in ap (λ q. q / b) e) ∙ div-mul-add 0 b n low

-- a subtree begins there that none of the levels above begins at
abbrev pub IsTop : ℕ → ℕ → ℕ → ℕ → Type 0
IsTop p most i k = (k ≡ most) ⊎ (i % p ^ suc k ≢ 0)

-- after a subtree that begins at a, what is a top there has the same blocks above it
pub next-same : (p most a b k : ℕ) → 0 < p → a % p ^ b ≡ 0 → b ≤ most → k ≤ most → ((m : ℕ) → most < m → (a + p ^ b) / p ^ m ≡ a / p ^ m) → IsTop p most (a + p ^ b) k
    → (b ≤ k) × ((m : ℕ) → k < m → (a + p ^ b) / p ^ m ≡ a / p ^ m)
next-same p most a b k some begins few high above (inl top) = (omega (arith, top, few), λ m low. above m (omega (arith, top, low)))
next-same p most a b k some begins few high above (inr apart) = (lowest, λ m low. behind p some a b m (omega (arith, low, lowest)) begins (λ all. apart (lower-mod p some (a + p ^ b) (suc k) m (omega (arith, low)) all)))
  where
    none : (a + p ^ b) % p ^ b ≡ 0
    none =
        let size : ℕ = p ^ b in
        let u : ℕ = a / size in
        let at : a ≡ u * size = whole a size (pow_pos p b some) begins in
        let next : a + size ≡ suc u * size = ap (λ n. n + size) at ∙ (let e : u * size + size ≡ suc u * size = grind arith in e) in
        ap (λ n. n % size) next ∙ whole-mod (suc u) size (pow_pos p b some)

    lowest : b ≤ k
    lowest = elim (cases_lt k b) [
      | inl low ↦ absurd (apart (lower-mod p some (a + p ^ b) (suc k) b (omega (arith, low)) none))
      | inr le ↦ le
    ]
