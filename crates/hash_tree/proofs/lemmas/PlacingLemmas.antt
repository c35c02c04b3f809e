-- What a device holds after all blocks of a list were written in any order, and the least block that differs.
use Rattle.std.specs.Prelude.{◌≡◌, ◌≢◌, ◌≤◌, ◌<◌, ◌+◌, ℕ, zero, suc, List, [], ◌∷◌, ◌++◌, length, get_or, min, Option, None, Some, ◌⊎◌, ◌==◌}
use Rattle.std.proofs.Common.{refl, sym, ap, ◌∙◌, arith, inl, inr, eqb-true, subst}
use Rattle.std.proofs.lemmas.Bool.{eqb-false, cases_Bool, cases_lt}
use Rattle.std.proofs.lemmas.List.Elements.{All-head, All-tail, All-cons, All-nil, All-push, Contains-append_left, Contains-append_right}
use Rattle.std.proofs.lemmas.List.Sorted.{All-permutation, Contains-permutation, IsPermutation-sym}
use Rattle.std.specs.List.{All, Contains}
use Rattle.std.specs.List.Sorted.{IsPermutation}
use Rattle.hash_tree.specs.Building.{PlacedRecord, numbered}
use Rattle.hash_tree.specs.Placing.{put, written, DiffersFirst, IsLeastDiffering, lesser}

-- blocks after blocks
pub written-append : (device : ℕ → List ℕ) (ps qs : List PlacedRecord) → written device (ps ++ qs) ≡ written (written device ps) qs
unfolding written
written-append device [] qs = refl
written-append device (p ∷ ps) qs = written-append (put device p) ps qs

-- devices that hold the same, block by block
pub written-same : (ps : List PlacedRecord) (a b : ℕ → List ℕ) → ((i : ℕ) → a i ≡ b i) → (i : ℕ) → written a ps i ≡ written b ps i
unfolding written
written-same [] a b same i = same i
written-same (p ∷ ps) a b same i =
    written-same ps (put a p) (put b p) (λ j. elim (cases_Bool (j == p.block)) [
      | inl here ↦ rw here refl
      | inr other ↦ rw other (same j)
    ]) i

-- all blocks of number i have these bytes, and there is one, or the device holds them already
written-is : (ps : List PlacedRecord) (device : ℕ → List ℕ) (i : ℕ) (bytes : List ℕ) → All (λ p. p.block ≡ i → p.bytes ≡ bytes) ps
    → Contains ps (record { block = i; bytes = bytes }) ⊎ (device i ≡ bytes) → written device ps i ≡ bytes
unfolding written
written-is [] device i bytes all (inl (k, inside, is)) = absurd (omega (arith, inside))
written-is [] device i bytes all (inr here) = here
written-is (p ∷ ps) device i bytes all there =
    let rest = All-tail (λ p. p.block ≡ i → p.bytes ≡ bytes) p ps all in
    let first : p.block ≡ i → p.bytes ≡ bytes = All-head (λ p. p.block ≡ i → p.bytes ≡ bytes) p ps all in
    elim (cases_Bool (i == p.block)) [
      | inl same ↦ written-is ps (put device p) i bytes rest (inr (rw same (first (sym (eqb-true i p.block same)))))
      | inr other ↦
          let kept : put device p i ≡ device i = rw other refl in
          written-is ps (put device p) i bytes rest (elim there [
            | inl (zero, inside, is) ↦ absurd (eqb-false i p.block other (sym (ap (λ (p : PlacedRecord). p.block) is)))
            | inl (suc k, inside, is) ↦ inl (k, omega (arith, inside), is)
            | inr here ↦ inr (kept ∙ here)
          ])
    ]

-- Blocks with their numbers.
pub numbered-inside : (n : ℕ) (bs : List (List ℕ)) → All (λ p. (n ≤ p.block) × (p.block < n + length bs)) (numbered n bs)
numbered-inside n [] = All-nil (λ p. (n ≤ p.block) × (p.block < n + 0))
numbered-inside n (b ∷ bs) =
    All-cons (λ p. (n ≤ p.block) × (p.block < n + suc (length bs))) (record { block = n; bytes = b }) (numbered (n + 1) bs) (omega arith, omega arith)
    (λ k d inside. let one = numbered-inside (n + 1) bs k d inside in (omega (arith, one.0), omega (arith, one.1)))

numbered-is : (n : ℕ) (bs : List (List ℕ)) (k : ℕ) → All (λ p. p.block ≡ n + k → p.bytes ≡ get_or bs k []) (numbered n bs)
numbered-is n [] k = All-nil (λ p. p.block ≡ n + k → p.bytes ≡ [])
numbered-is n (b ∷ bs) zero =
    All-cons (λ p. p.block ≡ n + 0 → p.bytes ≡ b) (record { block = n; bytes = b }) (numbered (n + 1) bs) (λ same. refl)
    (λ j d inside. λ same. let one = numbered-inside (n + 1) bs j d inside in absurd (omega (arith, one.0, same)))
numbered-is n (b ∷ bs) (suc k) =
    All-cons (λ p. p.block ≡ n + suc k → p.bytes ≡ get_or bs k []) (record { block = n; bytes = b }) (numbered (n + 1) bs) (λ same. absurd (omega (arith, same)))
    (λ j d inside. λ same. numbered-is (n + 1) bs k j d inside (omega (arith, same)))

numbered-has : (n : ℕ) (bs : List (List ℕ)) (k : ℕ) → k < length bs → Contains (numbered n bs) (record { block = n + k; bytes = get_or bs k [] })
numbered-has n [] k inside = absurd (omega (arith, inside))
numbered-has n (b ∷ bs) zero inside = (0, omega arith, let same : n ≡ n + 0 = omega arith in ap (λ n. record { block = n; bytes = b }) same)
numbered-has n (b ∷ bs) (suc k) inside =
    let same : n + 1 + k ≡ n + suc k = omega arith in
    let (j, low, is) = subst (λ m. Contains (numbered (n + 1) bs) (record { block = m; bytes = get_or bs k [] })) same (numbered-has (n + 1) bs k (omega (arith, inside))) in
    (suc j, omega (arith, low), is)

-- what holds of each element holds of one that is there
has-All : (P : PlacedRecord → Type 0) (ps : List PlacedRecord) (p : PlacedRecord) → All P ps → Contains ps p → P p
has-All P ps p all (j, low, is) = subst P is (all j p low)

-- All blocks of a list, each with its number, in any order.
module _ (n : ℕ) (bs : List (List ℕ)) (ps : List PlacedRecord) (all : IsPermutation ps (numbered n bs)) (device : ℕ → List ℕ) where
  back : IsPermutation (numbered n bs) ps
  back = IsPermutation-sym ps (numbered n bs) all

  -- once they are written they are stored there
  pub written-inside : (k : ℕ) → k < length bs → written device ps (n + k) ≡ get_or bs k []
  written-inside k inside =
      written-is ps device (n + k) (get_or bs k [])
      (All-permutation (λ p. p.block ≡ n + k → p.bytes ≡ get_or bs k []) (numbered n bs) ps back (numbered-is n bs k))
      (inl (Contains-permutation (numbered n bs) ps (record { block = n + k; bytes = get_or bs k [] }) back (numbered-has n bs k inside)))

  -- if none differs, they are stored there
  pub same-inside : IsLeastDiffering device ps None → (k : ℕ) → k < length bs → device (n + k) ≡ get_or bs k []
  same-inside none k inside =
      has-All (λ p. device p.block ≡ p.bytes) (numbered n bs) _ (All-permutation (λ p. device p.block ≡ p.bytes) ps (numbered n bs) all none) (numbered-has n bs k inside)

  -- if block n + k is the least that differs, it does, and those before it are stored there
  pub least-inside : (k : ℕ) → IsLeastDiffering device ps (Some (n + k)) → k < length bs → (device (n + k) ≢ get_or bs k []) × ((j : ℕ) → j < k → device (n + j) ≡ get_or bs j [])
  least-inside k first inside =
      let is : first.bytes ≡ get_or bs k [] =
      has-All (λ p. p.block ≡ n + k → p.bytes ≡ get_or bs k []) (numbered n bs) _ (numbered-is n bs k) (Contains-permutation ps (numbered n bs) _ all first.here) refl in (
        λ same. first.differ (same ∙ sym is),
        λ j less. has-All (λ p. p.block < n + k → device p.block ≡ p.bytes) (numbered n bs) _
            (All-permutation (λ p. p.block < n + k → device p.block ≡ p.bytes) ps (numbered n bs) all first.below) (numbered-has n bs j (omega (arith, less, inside))) (omega (arith, less)),
      )

  -- and the least that differs is one of them
  pub least-among : (m : ℕ) → IsLeastDiffering device ps (Some m) → (n ≤ m) × (m < n + length bs)
  least-among m first =
      has-All (λ p. (n ≤ p.block) × (p.block < n + length bs)) (numbered n bs) _ (numbered-inside n bs) (Contains-permutation ps (numbered n bs) _ all first.here)

-- One more block that is compared.
module _ (device : ℕ → List ℕ) (ps : List PlacedRecord) (p : PlacedRecord) where
  pub least-same : (best : Option ℕ) → device p.block ≡ p.bytes → IsLeastDiffering device ps best → IsLeastDiffering device (ps ++ p ∷ []) best
  least-same None same none = All-push (λ p. device p.block ≡ p.bytes) ps p none same
  least-same (Some n) same first = record {
    bytes = first.bytes;
    here = Contains-append_left ps (p ∷ []) _ first.here;
    differ = first.differ;
    below = All-push (λ p. p.block < n → device p.block ≡ p.bytes) ps p first.below (λ less. same);
  }

  -- a block that differs, before all that did
  least-new : device p.block ≢ p.bytes → All (λ q. q.block < p.block → device q.block ≡ q.bytes) ps → DiffersFirst device (ps ++ p ∷ []) p.block
  least-new differ below = record {
    bytes = p.bytes;
    here = Contains-append_right ps (p ∷ []) p (0, omega arith, refl);
    differ = differ;
    below = All-push (λ q. q.block < p.block → device q.block ≡ q.bytes) ps p below (λ less. absurd (omega (arith, less)));
  }

  pub least-first : device p.block ≢ p.bytes → IsLeastDiffering device ps None → IsLeastDiffering device (ps ++ p ∷ []) (Some p.block)
  least-first differ none = least-new differ (λ k d inside. λ less. none k d inside)

  pub least-less : (n : ℕ) → device p.block ≢ p.bytes → p.block < n → IsLeastDiffering device ps (Some n) → IsLeastDiffering device (ps ++ p ∷ []) (Some p.block)
  least-less n differ low first = least-new differ (λ k d inside. λ less. first.below k d inside (omega (arith, less, low)))

  pub least-more : (n : ℕ) → n ≤ p.block → IsLeastDiffering device ps (Some n) → IsLeastDiffering device (ps ++ p ∷ []) (Some n)
  least-more n high first = record {
    bytes = first.bytes;
    here = Contains-append_left ps (p ∷ []) _ first.here;
    differ = first.differ;
    below = All-push (λ q. q.block < n → device q.block ≡ q.bytes) ps p first.below (λ less. absurd (omega (arith, less, high)));
  }

  pub least-next : (best : Option ℕ) → device p.block ≢ p.bytes → IsLeastDiffering device ps best → IsLeastDiffering device (ps ++ p ∷ []) (Some (lesser best p.block))
  least-next None differ none = least-first differ none
  least-next (Some n) differ first =
      elim (cases_lt p.block n) [
        | inl low ↦ let is : p.block ≡ min n p.block = omega (arith, low) in subst (λ m. IsLeastDiffering device (ps ++ p ∷ []) (Some m)) is (least-less n differ low first)
        | inr high ↦ let is : n ≡ min n p.block = omega (arith, high) in subst (λ m. IsLeastDiffering device (ps ++ p ∷ []) (Some m)) is (least-more n high first)
      ]

-- the order in which blocks are compared doesn't matter
pub least-permutation : (device : ℕ → List ℕ) (ps qs : List PlacedRecord) → IsPermutation ps qs → (best : Option ℕ) → IsLeastDiffering device ps best → IsLeastDiffering device qs best
least-permutation device ps qs same None none = All-permutation (λ p. device p.block ≡ p.bytes) ps qs same none
least-permutation device ps qs same (Some n) first = record {
  bytes = first.bytes;
  here = Contains-permutation ps qs _ same first.here;
  differ = first.differ;
  below = All-permutation (λ p. p.block < n → device p.block ≡ p.bytes) ps qs same first.below;
}

pub numbered-sized : (n size : ℕ) (bs : List (List ℕ)) → All (λ b. length b ≡ size) bs → All (λ p. length p.bytes ≡ size) (numbered n bs)
numbered-sized n size [] all = All-nil (λ p. length p.bytes ≡ size)
numbered-sized n size (b ∷ bs) all =
    All-cons (λ p. length p.bytes ≡ size) (record { block = n; bytes = b }) (numbered (n + 1) bs) (All-head (λ b. length b ≡ size) b bs all)
    (numbered-sized (n + 1) size bs (All-tail (λ b. length b ≡ size) b bs all))

pub length-numbered : (n : ℕ) (bs : List (List ℕ)) → length (numbered n bs) ≡ length bs
length-numbered n [] = refl
length-numbered n (b ∷ bs) = ap suc (length-numbered (n + 1) bs)
