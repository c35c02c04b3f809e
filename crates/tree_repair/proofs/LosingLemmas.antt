-- Lost blocks in other orders, and those of one round alone.
use Rattle.std.proofs.Common.{◌≡◌, ◌<◌, ◌≤◌, ◌+◌, ◌-◌, ◌*◌, ◌%◌, ℕ, zero, suc, Bool, true, false, ◌&&◌, cond, List, [], ◌∷◌, length, take, drop, get_or, get_or-drop, length-drop, zero-add, ltb, leb, max, arith, refl, sym, ap, ◌∙◌, subst, inl, inr}
use Rattle.std.specs.Prelude.{count_by, nat_lt, not, ◌==◌}
use Rattle.std.specs.List.{AllWithin, Contains}
use Rattle.std.specs.List.Sorted.{IsPermutation}
use Rattle.std.proofs.lemmas.List.{get_or-take, get_or_default, length-take-le}
use Rattle.std.proofs.lemmas.List.Sums.{sum_by-cons}
use Rattle.std.proofs.lemmas.List.Sorted.{Contains-permutation, sum_by-IsPermutation}
use Rattle.std.proofs.lemmas.Bool.{cases_lt, false≢true, leb-false, ltb-true}
use Rattle.std.proofs.lemmas.Bool.Decides.{eqb_tells}
use Rattle.std.proofs.Math.Bool.{and-false}
use Rattle.std.proofs.Math.Nat.{zero-mul}
use Rattle.std.proofs.lemmas.Grind.{div_ceil_times}
use Rattle.block_device.specs.Device.{Device}
use Rattle.fec_area.specs.declared.layout.Layout.{Layout}
use Rattle.fec_area.specs.declared.restoring.RestoreFault.{RestoreFault}
use Rattle.fec_area.specs.declared.restoring.RestoreFault.TheVariants.{TooManyLost, TooSmall, Device as DeviceFailed, NoMemory}
use Rattle.fec_area.specs.Layouts.{IsLayout, code_rounds, covered_blocks}
use Rattle.fec_area.specs.Restoring.{IsAmong, IsMadeAgain, IsRestoreCause, is_beside, round_of}
use Rattle.tree_repair.specs.declared.bad.BadBlock.{BadBlock}
use Rattle.tree_repair.specs.Losing.{AreLostAlike}
use Rattle.tree_repair.specs.Runs.{Job}
use Rattle.tree_repair.specs.ParitySearches.{AreSought, IsBlockUnmade, IsMadeOther, IsSoughtAt, IsTried, IsVain, trial}
use Rattle.tree_repair.specs.Worlds.{RepairWorld}
use Rattle.tree_path.specs.Path.{PathRecord}

-- ---- those that pass a test are between two places

not-counted : (p : ℕ → Bool) (x : ℕ) (xs : List ℕ) → p x ≡ false → count_by p xs ≡ count_by p (x ∷ xs)
not-counted p x xs fails = sym (sum_by-cons (λ y. cond (p y) 1 0) x xs ∙ ap (λ (b : Bool). cond b 1 0 + count_by p xs) fails ∙ zero-add (count_by p xs))

counted-behind : (p : ℕ → Bool) (a : ℕ) (xs : List ℕ) → ((k : ℕ) → k < a → k < length xs → p (get_or xs k 0) ≡ false) → count_by p (drop a xs) ≡ count_by p xs
counted-behind p zero xs none = refl
counted-behind p (suc a) [] none = refl
counted-behind p (suc a) (x ∷ xs) none =
    counted-behind p a xs (λ k before inside. none (suc k) (omega (arith, before)) (omega (arith, inside))) ∙ not-counted p x xs (none 0 (omega arith) (omega arith))

counted-before : (p : ℕ → Bool) (b : ℕ) (xs : List ℕ) → ((k : ℕ) → b ≤ k → k < length xs → p (get_or xs k 0) ≡ false) → count_by p (take b xs) ≡ count_by p xs
counted-before p zero [] none = refl
counted-before p zero (x ∷ xs) none =
    counted-before p zero xs (λ k behind inside. none (suc k) (omega arith) (omega (arith, inside))) ∙ not-counted p x xs (none 0 (omega arith) (omega arith))
counted-before p (suc b) [] none = refl
counted-before p (suc b) (x ∷ xs) none =
    let f : ℕ → ℕ = λ y. cond (p y) 1 0 in
    sum_by-cons f x (take b xs) ∙ ap (λ (n : ℕ). cond (p x) 1 0 + n) (counted-before p b xs (λ k behind inside. none (suc k) (omega (arith, behind)) (omega (arith, inside)))) ∙ sym (sum_by-cons f x xs)

-- nothing before place a passes, and nothing from the nth place after it on
record IsApart (p : ℕ → Bool) (xs : List ℕ) (a n : ℕ) : Type 0 where
  some : n ≤ length (drop a xs)
  before : (k : ℕ) → k < a → k < length xs → p (get_or xs k 0) ≡ false
  behind : (k : ℕ) → n ≤ k → k < length (drop a xs) → p (get_or (drop a xs) k 0) ≡ false

counted-between : (p : ℕ → Bool) (xs : List ℕ) (a n : ℕ) → IsApart p xs a n → count_by p (take n (drop a xs)) ≡ count_by p xs
counted-between p xs a n apart = counted-before p n (drop a xs) apart.behind ∙ counted-behind p a xs apart.before

from : (p : ℕ → Bool) (xs : List ℕ) (a n k : ℕ) → IsApart p xs a n → k < length xs → p (get_or xs k 0) ≡ true → a ≤ k
from p xs a n k apart inside passes = elim (cases_lt k a) [ inl early ↦ absurd (false≢true (sym (apart.before k early inside) ∙ passes)) | inr late ↦ late ]

until : (p : ℕ → Bool) (xs : List ℕ) (a n k : ℕ) → IsApart p xs a n → k < length (drop a xs) → p (get_or (drop a xs) k 0) ≡ true → k < n
until p xs a n k apart inside passes = elim (cases_lt k n) [ inl early ↦ early | inr late ↦ absurd (false≢true (sym (apart.behind k late inside) ∙ passes)) ]

among-between : (p : ℕ → Bool) (xs : List ℕ) (a n j : ℕ) → IsApart p xs a n → p j ≡ true → IsAmong xs j → IsAmong (take n (drop a xs)) j
among-between p xs a n j apart passes (k, (inside, is)) =
    let low : a ≤ k = from p xs a n k apart inside (ap p is ∙ passes) in
    let at : a + (k - a) ≡ k = omega (arith, low) in
    let there : get_or (drop a xs) (k - a) 0 ≡ j = get_or-drop a xs (k - a) 0 ∙ ap (λ (m : ℕ). get_or xs m 0) at ∙ is in
    let here : k - a < length (drop a xs) = omega (arith, length-drop a xs, low, inside) in
    let high : k - a < n = until p xs a n (k - a) apart here (ap p there ∙ passes) in
    (k - a, (omega (arith, length-take-le n (drop a xs) apart.some, high), get_or-take n (drop a xs) (k - a) 0 high ∙ there))

-- ---- those of one round are together if the numbers are in the order of their rounds

other-test : (a b c : Bool) → b ≡ false → (a && b && c) ≡ false
other-test a b c fails = rw (fails, and-false) refl

-- a block of another round isn't beside
other-round : (l : Layout) (index j : ℕ) → (j % code_rounds l ≡ round_of l index → ⊥) → is_beside l index j ≡ false
other-round l index j other = other-test (nat_lt j (covered_blocks l)) (j % code_rounds l == round_of l index) (not (j == index)) (elim (eqb_tells (j % code_rounds l) (round_of l index)) [ inl same ↦ absurd (other same.1) | inr apart ↦ apart.0 ])

pub alike-between : (l : Layout) (index : ℕ) (xs : List ℕ) (a n : ℕ) → n ≤ length (drop a xs) → AllWithin (λ j. j % code_rounds l < round_of l index) xs 0 a
    → AllWithin (λ j. round_of l index < j % code_rounds l) (drop a xs) n (length (drop a xs)) → AreLostAlike l index (take n (drop a xs)) xs
alike-between l index xs a n some below above =
    let apart : IsApart (is_beside l index) xs a n = record {
      some = some;
      before = λ k early inside. other-round l index (get_or xs k 0) (λ same. let less : get_or xs k 0 % code_rounds l < round_of l index = below k 0 (omega arith) early in omega (arith, less, same));
      behind = λ k late inside. other-round l index (get_or (drop a xs) k 0) (λ same. let more : round_of l index < get_or (drop a xs) k 0 % code_rounds l = above k 0 late inside in omega (arith, more, same));
    } in
    record {
      count = ap (λ (m : ℕ). m + 1) (counted-between (is_beside l index) xs a n apart);
      among = λ j beside here. among-between (is_beside l index) xs a n j apart beside here;
    }

positive : (a r d : ℕ) → 0 < a → a ≤ r * d → 1 ≤ r
positive a zero d some few = absurd (omega (arith, zero-mul d, some, few))
positive a (suc r) d some few = omega arith

-- there is a round where a block is covered
some-rounds : (l : Layout) (index : ℕ) → IsLayout l → index < covered_blocks l → max (code_rounds l) 1 ≡ code_rounds l
some-rounds l index valid inside =
    let d : ℕ = 255 - l.roots in
    let some : 0 < d = omega (arith, valid.few) in
    let one : 1 ≤ code_rounds l = positive (covered_blocks l) (code_rounds l) d (omega (arith, inside)) (div_ceil_times (covered_blocks l) d some).0 in
    omega (arith, one)

-- so by the number of rounds that is at hand
pub run-alike : (l : Layout) (index rounds : ℕ) (xs : List ℕ) (a n : ℕ) → IsLayout l → index < covered_blocks l → rounds ≡ max (code_rounds l) 1 → n ≤ length (drop a xs)
    → AllWithin (λ j. ltb (j % rounds) (index % rounds) ≡ true) xs 0 a → AllWithin (λ j. leb (j % rounds) (index % rounds) ≡ false) (drop a xs) n (length (drop a xs)) → AreLostAlike l index (take n (drop a xs)) xs
run-alike l index rounds xs a n valid inside is some before behind =
    let same : rounds ≡ code_rounds l = is ∙ some-rounds l index valid inside in
    alike-between l index xs a n some
    (λ k d low high. subst (λ (r : ℕ). get_or xs k d % r < index % r) same (ltb-true _ _ (before k d low high)))
    (λ k d low high. subst (λ (r : ℕ). index % r < get_or (drop a xs) k d % r) same (leb-false _ _ (behind k d low high)))

-- ---- another order

among-permuted : (xs ys : List ℕ) (j : ℕ) → IsPermutation xs ys → IsAmong xs j → IsAmong ys j
among-permuted xs ys j permuted (k, (inside, is)) =
    let there : Contains ys j = Contains-permutation xs ys j permuted (k, inside, get_or_default xs k j 0 inside ∙ is) in
    (there.0, (there.1, get_or_default ys there.0 0 j there.1 ∙ there.2))

pub alike-permuted : (l : Layout) (index : ℕ) (xs ys : List ℕ) → IsPermutation xs ys → AreLostAlike l index ys xs
alike-permuted l index xs ys permuted = record {
  count = ap (λ (n : ℕ). n + 1) (sum_by-IsPermutation (λ x. cond (is_beside l index x) 1 0) xs ys permuted);
  among = λ j beside here. among-permuted xs ys j permuted here;
}

-- ---- what is said by some is said by all

pub cause-alike : (l : Layout) (index : ℕ) (some all : List ℕ) (d h p d' h' p' : Device) (fault : RestoreFault) → AreLostAlike l index some all
    → IsRestoreCause l some index d h p d' h' p' fault → IsRestoreCause l all index d h p d' h' p' fault
cause-alike l index some all d h p d' h' p' (TooManyLost count) alike cause = (cause.0 ∙ alike.count, cause.1, cause.2)
cause-alike l index some all d h p d' h' p' (TooSmall needed) alike cause = cause
cause-alike l index some all d h p d' h' p' DeviceFailed alike cause = cause
cause-alike l index some all d h p d' h' p' NoMemory alike cause = cause

pub made-alike : (l : Layout) (index : ℕ) (some all bytes : List ℕ) (data_image hash_image parity_image : List (List ℕ)) → AreLostAlike l index some all
    → IsMadeAgain l data_image hash_image parity_image some index bytes → IsMadeAgain l data_image hash_image parity_image all index bytes
made-alike l index some all bytes data_image hash_image parity_image alike made = λ former_data former_hash before.
    made former_data former_hash (record { whole = before.whole; stands = before.stands; same = λ j beside not. before.same j beside (λ here. not (alike.among j beside here)) })

module _ (j : Job) (l : Layout) (some all : List ℕ) (alike : (index : ℕ) → AreLostAlike l index some all) where
  unmade-alike : (w w' : RepairWorld) (p p' : Device) (k : ℕ) → IsBlockUnmade (trial l some w w' p p') k → IsBlockUnmade (trial l all w w' p p') k
  unmade-alike w w' p p' k unmade = (unmade.0, (unmade.1.0, cause-alike l k some all _ _ _ _ _ _ unmade.0 (alike k) unmade.1.1))

  other-alike : (salt digest_is : List ℕ) (w w' : RepairWorld) (p p' : Device) (k : ℕ) → IsMadeOther salt digest_is (trial l some w w' p p') k → IsMadeOther salt digest_is (trial l all w w' p p') k
  other-alike salt digest_is w w' p p' k other = record {
    bytes = other.bytes;
    other = other.other;
    made = λ one two three. made-alike l k some all other.bytes _ _ _ (alike k) (other.made one two three);
  }

  vain-alike : (path : PathRecord) (h i : ℕ) (w w' : RepairWorld) (p p' : Device) → IsVain j path h i (trial l some w w' p p') → IsVain j path h i (trial l all w w' p p')
  vain-alike path h i w w' p p' (inl off) = inl off
  vain-alike path h i w w' p p' (inr (k, (at, inl unmade))) = inr (k, (at, inl (unmade-alike w w' p p' k unmade)))
  vain-alike path h i w w' p p' (inr (k, (at, inr other))) = inr (k, (at, inr (other-alike _ _ w w' p p' k other)))

  tried-alike : (h i : ℕ) (w w' : RepairWorld) (p p' : Device) (back : Bool) → IsTried j h i (trial l some w w' p p') back → IsTried j h i (trial l all w w' p p') back
  tried-alike h i w w' p p' true tried = tried
  tried-alike h i w w' p p' false (left, inl vain) = (
    record { image = left.image; parity = left.parity },
    inl (record {
      p = vain.p;
      way = vain.way;
      vain =
          let v = vain.vain in
          record {
            between = v.between;
            parity_between = v.parity_between;
            first = record { image = v.first.image; parity = v.first.parity };
            rest = record { image = v.rest.image; parity = v.rest.parity };
            vain = vain-alike vain.p h i w v.between p v.parity_between v.vain;
          };
    }),
  )
  tried-alike h i w w' p p' false (left, inr good) = (record { image = left.image; parity = left.parity }, inr good)

  sought-alike : (h i : ℕ) (w w' : RepairWorld) (p p' : Device) (found back : Bool) → IsSoughtAt j h i (trial l some w w' p p') found back → IsSoughtAt j h i (trial l all w w' p p') found back
  sought-alike h i w w' p p' true back (not, left) = (not, record { image = left.image; parity = left.parity })
  sought-alike h i w w' p p' false back (inl (not, (left, far))) = inl (not, (record { image = left.image; parity = left.parity }, far))
  sought-alike h i w w' p p' false back (inr behind) =
      inr (record { between = behind.between; read = behind.read; tried = tried-alike h i behind.between w' p p' back behind.tried })

  pub all-sought-alike : (bs : List BadBlock) (w w' : RepairWorld) (p p' : Device) (hash_came : Bool) → AreSought j l some bs w w' p p' hash_came → AreSought j l all bs w w' p p' hash_came
  all-sought-alike [] w w' p p' hash_came none = none
  all-sought-alike (b ∷ more) w w' p p' hash_came (a, (q, (back, (rest, (is, (here, others)))))) =
      (a, (q, (back, (rest, (is, (sought-alike b.place.height b.place.index w a p q b.found back here, all-sought-alike more a w' q p' rest others))))))
