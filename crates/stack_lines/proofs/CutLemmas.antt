-- Where the puts of runs and of devices may be cut in two.
use Rattle.std.proofs.Common.{◌≡◌, ℕ, ◌+◌, ◌-◌, ◌*◌, ◌/◌, ◌%◌, ◌<◌, ◌≤◌, ◌⊎◌, Bool, false, List, ◌++◌, length, take, drop, sym, ap, ◌∙◌, inl, inr, arith}
use Rattle.std.proofs.lemmas.Bool.{cases_lt}
use Rattle.std.proofs.lemmas.List.{length-append, length-take-le, length-drop, take-append-drop, append_assoc, nil_from_length}
use Rattle.std.proofs.lemmas.Nat.{div-add-mod', mod-mul-add, mod_below}
use Rattle.std.proofs.Math.Nat.{add-mul, mul_assoc}
use Rattle.stack_rules.specs.declared.lower.Lower.TheVariants.{Leaf as leaf}
use Rattle.stack_rules.specs.Descend.{descend}
use Rattle.stack_rules.specs.Records.{Configuration}
use Rattle.stack_rules.specs.Names.{mapped}
use Rattle.stack_rules.specs.Rules.{IsLoaded}
use Rattle.stack_meaning.specs.Units.{per_unit}
use Rattle.stack_meaning.proofs.lemmas.UnitSizeLemmas.{per_unit-some}
use Rattle.stack_lines.specs.declared.cuts.Steps.{Steps}
use Rattle.stack_lines.specs.declared.source.CryptPart.{CryptPart}
use Rattle.stack_lines.specs.declared.source.Source.{Source}
use Rattle.stack_lines.specs.declared.source.Source.TheVariants.{Units}
use Rattle.stack_lines.specs.Cuts.{EndsStep, PutsInSteps}
use Rattle.stack_meaning.specs.Outcomes.{Images}
use Rattle.stack_meaning.specs.Meaning.{said_at}
use Rattle.stack_meaning.specs.Puts.{Put, then_put, Putting, in_one_run, unit_put, in_unit, put_on}
use Rattle.stack_lines.specs.Sources.{AreUnits, IsServed}
use Rattle.stack_lines.specs.Writing.{crypt_put, source_put, SourceMayWrite}
use Rattle.stack_lines.proofs.StripeLemmas.{part-ends}
use Rattle.stack_lines.proofs.lemmas.WriteSourceLemmas.{served-put}
use Rattle.stack_lines.proofs.lemmas.PutLemmas.{then_assoc, then_same, put-apart, device-apart, leaf-append}
use Rattle.stack_meaning.proofs.lemmas.UnitLemmas.{unit-more}

-- ---- steps

-- steps that end with units end after whole units
step-unit : (size skip u n : ℕ) → 0 < u → size % u ≡ 0 → skip % u ≡ 0 → (skip + n) % size ≡ 0 → n % u ≡ 0
step-unit size skip u n some even begins ends =
    let q : ℕ = (skip + n) / size in
    let p : ℕ = size / u in
    let all : q * size ≡ skip + n = omega (arith, div-add-mod' (skip + n) size, ends) in
    let parts : p * u ≡ size = omega (arith, div-add-mod' size u, even) in
    let grouped : q * p * u ≡ q * (p * u) = mul_assoc q p u in
    let turned : q * (p * u) ≡ q * size = ap (λ (k : ℕ). q * k) parts in
    let split : skip + n ≡ q * p * u + 0 = omega (arith, all, grouped, turned) in
    sym (unit-more u skip n some begins).1 ∙ ap (λ (k : ℕ). k % u) split ∙ mod-mul-add (q * p) u 0 some

-- the steps after a sectors
pub step-later : (size a n : ℕ) → 0 < size → (a + n) % size ≡ 0 → (a % size + n) % size ≡ 0
step-later size a n some ends =
    let r : ℕ = a % size + n in
    let split : a + n ≡ (a / size + r / size) * size + r % size = omega (arith, div-add-mod' a size, div-add-mod' r size, add-mul (a / size) (r / size) size) in
    sym (mod-mul-add (a / size + r / size) size (r % size) (mod_below r size some)) ∙ ap (λ (k : ℕ). k % size) (sym split) ∙ ends

-- ---- runs

pub leaf-cut : (c : Configuration) (i first n : ℕ) (steps : Steps) → PutsInSteps (put_on c (leaf i)) first n steps
unfolding descend
leaf-cut c i first n steps xs ys images some more fits ends = leaf-append i first xs ys images

pub units-cut : (c : Configuration) (x : CryptPart) (n : ℕ) (steps : Steps) → AreUnits c x n → steps.size % per_unit x.units ≡ 0 → steps.skip % per_unit x.units ≡ 0 → PutsInSteps (source_put c (Units x)) 0 n steps
units-cut c x n steps units even begins xs ys images some more fits ends =
    let u : ℕ = per_unit x.units in
    let some_u : 0 < u = omega (arith, per_unit-some x.units) in
    let g : ℕ → Putting = unit_put (λ i t. (said_at c x.lower t).means i) (put_on c x.lower) x.units x.key.now in
    let tog : ℕ → Bool = in_unit x.units in
    let w : ℕ = x.first + 0 in
    let whole : length xs % u ≡ 0 = step-unit steps.size steps.skip u (length xs) some_u even begins ends in
    let place = unit-more u x.first (length xs) some_u units.aligned in
    let end : w + length xs ≡ x.first + length xs = omega arith in
    let cut : tog (w + length xs - 1) ≡ false = part-ends u (w + length xs) some_u (omega (arith, some)) (ap (λ (k : ℕ). k % u) end ∙ place.1 ∙ whole) in
    let at : w + length xs ≡ x.first + (0 + length xs) = omega arith in
    put-apart g tog w xs ys images (inr (inr cut)) ∙ ap (λ (k : ℕ). then_put (crypt_put c x.lower x.units x.key.now w xs images) (crypt_put c x.lower x.units x.key.now k ys)) at

-- ---- devices

module _ (c : Configuration) (d first at n : ℕ) (source : Source) (steps : Steps) (loaded : IsLoaded c) (size : 0 < steps.size) (may : SourceMayWrite c source) (apart : (at ≡ 0) ⊎ (in_one_run c d (first + at - 1) ≡ false))
    (before : PutsInSteps (put_on c (mapped d)) first at steps) (r : IsServed c d (first + at) n source)
    (cut : PutsInSteps (source_put c source) 0 n (record { size = steps.size; skip = (steps.skip + at) % steps.size })) where
  -- sectors are cut where the run begins
  at-run : (xs ys : List (List ℕ)) (images : Images) → length xs ≡ at → put_on c (mapped d) first (xs ++ ys) images ≡ then_put (put_on c (mapped d) first xs images) (put_on c (mapped d) (first + length xs) ys)
  at-run xs ys images is =
      device-apart c loaded.valid d first xs ys images (elim apart [
        | inl none ↦ inl (nil_from_length xs (is ∙ none))
        | inr end ↦ inr (inr (ap (λ (k : ℕ). in_one_run c d (first + k - 1)) is ∙ end))
      ])

  -- within the run
  in-run : (xs ys : List (List ℕ)) (images : Images) → 0 < length xs → 0 < length ys → length xs + length ys ≤ n → EndsStep steps (at + length xs)
      → put_on c (mapped d) (first + at) (xs ++ ys) images ≡ then_put (put_on c (mapped d) (first + at) xs images) (put_on c (mapped d) (first + at + length xs) ys)
  in-run xs ys images some more fits ends =
      let zero_on : first + at + 0 ≡ first + at = omega arith in
      let both : 0 + length (xs ++ ys) ≤ n = omega (arith, length-append xs ys, fits) in
      let all : 0 < length (xs ++ ys) = omega (arith, length-append xs ys, some) in
      let same : steps.skip + (at + length xs) ≡ steps.skip + at + length xs = omega arith in
      let there : 0 + length xs ≡ length xs = omega arith in
      let end = step-later steps.size (steps.skip + at) (length xs) size (ap (λ (k : ℕ). k % steps.size) (sym same) ∙ ends) in
      ap (λ (k : ℕ). put_on c (mapped d) k (xs ++ ys) images) (sym zero_on)
      ∙ served-put c d (first + at) n 0 source (xs ++ ys) images loaded all both may r
      ∙ cut xs ys images some more fits end
      ∙ ap (λ (k : ℕ). then_put (source_put c source 0 xs images) (source_put c source k ys)) there
      ∙ ap (λ (p : Put). then_put p (source_put c source (length xs) ys)) (sym (served-put c d (first + at) n 0 source xs images loaded some (omega (arith, fits)) may r))
      ∙ then_same (put_on c (mapped d) (first + at + 0) xs images) _ _ (λ i. sym (served-put c d (first + at) n (length xs) source ys i loaded more fits may r))
      ∙ ap (λ (k : ℕ). then_put (put_on c (mapped d) k xs images) (put_on c (mapped d) (first + at + length xs) ys)) zero_on

  -- before the run
  early : (xs ys : List (List ℕ)) (images : Images) → 0 < length xs → length xs < at → at < length xs + length ys → EndsStep steps (length xs)
      → put_on c (mapped d) first (xs ++ ys) images ≡ then_put (put_on c (mapped d) first xs images) (put_on c (mapped d) (first + length xs) ys)
  early xs ys images some low high ends =
      let k : ℕ = at - length xs in
      let y1 = take k ys in
      let y2 = drop k ys in
      let l1 : length y1 ≡ k = length-take-le k ys (omega (arith, high)) in
      let front : length (xs ++ y1) ≡ at = omega (arith, length-append xs y1, l1, low) in
      let back : first + length xs + length y1 ≡ first + length (xs ++ y1) = omega (arith, length-append xs y1) in
      let end : first + length xs + length y1 - 1 ≡ first + at - 1 = omega (arith, l1, low) in
      let join : y1 ++ y2 ≡ ys = take-append-drop k ys in
      let rest : (i : Images) → put_on c (mapped d) (first + length xs) ys i ≡ then_put (put_on c (mapped d) (first + length xs) y1 i) (put_on c (mapped d) (first + length (xs ++ y1)) y2) =
      λ i.
      ap (λ (l : List (List ℕ)). put_on c (mapped d) (first + length xs) l i) (sym join)
      ∙ device-apart c loaded.valid d (first + length xs) y1 y2 i (elim apart [
        | inl none ↦ absurd (omega (arith, none, low))
        | inr cut ↦ inr (inr (ap (in_one_run c d) end ∙ cut))
      ])
      ∙ ap (λ (j : ℕ). then_put (put_on c (mapped d) (first + length xs) y1 i) (put_on c (mapped d) j y2)) back in
      ap (λ (l : List (List ℕ)). put_on c (mapped d) first (xs ++ l) images) (sym join)
      ∙ ap (λ (l : List (List ℕ)). put_on c (mapped d) first l images) (sym (append_assoc xs y1 y2))
      ∙ at-run (xs ++ y1) y2 images front
      ∙ ap (λ (p : Put). then_put p (put_on c (mapped d) (first + length (xs ++ y1)) y2)) (before xs y1 images some (omega (arith, l1, low)) (omega (arith, l1, low)) ends)
      ∙ then_assoc (put_on c (mapped d) first xs images) (put_on c (mapped d) (first + length xs) y1) (put_on c (mapped d) (first + length (xs ++ y1)) y2)
      ∙ then_same (put_on c (mapped d) first xs images) _ _ (λ i. sym (rest i))

  -- sectors that end after the begin of the run
  late : (xs ys : List (List ℕ)) (images : Images) → at < length xs → 0 < length ys → length xs + length ys ≤ at + n → EndsStep steps (length xs)
      → put_on c (mapped d) first (xs ++ ys) images ≡ then_put (put_on c (mapped d) first xs images) (put_on c (mapped d) (first + length xs) ys)
  late xs ys images high more fits ends =
      let a = take at xs in
      let x = drop at xs in
      let la : length a ≡ at = length-take-le at xs (omega (arith, high)) in
      let lx : length x ≡ length xs - at = length-drop at xs in
      let join : a ++ x ≡ xs = take-append-drop at xs in
      let whole : at + length x ≡ length xs = omega (arith, lx, high) in
      let here : first + length a ≡ first + at = omega (arith, la) in
      let there : first + at + length x ≡ first + length xs = omega (arith, whole) in
      let rest : (i : Images) → put_on c (mapped d) (first + length a) (x ++ ys) i ≡ then_put (put_on c (mapped d) (first + length a) x i) (put_on c (mapped d) (first + length xs) ys) =
      λ i.
      ap (λ (j : ℕ). put_on c (mapped d) j (x ++ ys) i) here
      ∙ in-run x ys i (omega (arith, lx, high)) more (omega (arith, lx, high, fits)) (ap (λ (j : ℕ). (steps.skip + j) % steps.size) whole ∙ ends)
      ∙ ap (λ (j : ℕ). then_put (put_on c (mapped d) j x i) (put_on c (mapped d) (first + at + length x) ys)) (sym here)
      ∙ ap (λ (j : ℕ). then_put (put_on c (mapped d) (first + length a) x i) (put_on c (mapped d) j ys)) there in
      ap (λ (l : List (List ℕ)). put_on c (mapped d) first (l ++ ys) images) (sym join)
      ∙ ap (λ (l : List (List ℕ)). put_on c (mapped d) first l images) (append_assoc a x ys)
      ∙ at-run a (x ++ ys) images la
      ∙ then_same (put_on c (mapped d) first a images) _ _ (λ i. rest i)
      ∙ sym (then_assoc (put_on c (mapped d) first a images) (put_on c (mapped d) (first + length a) x) (put_on c (mapped d) (first + length xs) ys))
      ∙ ap (λ (p : Put). then_put p (put_on c (mapped d) (first + length xs) ys)) (sym (at-run a x images la))
      ∙ ap (λ (l : List (List ℕ)). then_put (put_on c (mapped d) first l images) (put_on c (mapped d) (first + length xs) ys)) join

  pub device-cut : PutsInSteps (put_on c (mapped d)) first (at + n) steps
  device-cut xs ys images some more fits ends = elim (cases_lt at (length xs + length ys)) [
    | inr all ↦ before xs ys images some more all ends
    | inl some_behind ↦ elim (cases_lt (length xs) at) [
      | inl low ↦ early xs ys images some low some_behind ends
      | inr high ↦ elim (cases_lt at (length xs)) [
        | inl behind ↦ late xs ys images behind more fits ends
        | inr least ↦ at-run xs ys images (omega (arith, high, least))
      ]
    ]
  ]
