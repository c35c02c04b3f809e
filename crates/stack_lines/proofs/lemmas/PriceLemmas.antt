-- Prices of runs: of runs that are cut, of the sectors of one line, and of sectors that are looked at in parts.
use Rattle.std.proofs.Common.{◌≡◌, ℕ, zero, suc, ◌+◌, ◌-◌, ◌*◌, ◌/◌, ◌%◌, ◌<◌, ◌≤◌, ◌⊎◌, Bool, true, false, cond, nat_lt, ◌&&◌, List, Option, Some, refl, sym, ap, ◌∙◌, arith, inl, inr}
use Rattle.std.specs.Option.{option_map_or}
use Rattle.std.proofs.lemmas.Bool.{lt-ltb, le-ltb}
use Rattle.std.proofs.lemmas.Nat.{mod-mul-add, div-add-mod'}
use Rattle.std.proofs.Math.Nat.{add-mul}
use Rattle.dm_table.specs.declared.crypt.Crypt.{Crypt}
use Rattle.dm_table.specs.declared.table.Line.{Line}
use Rattle.dm_table.specs.declared.table.Target.{Target}
use Rattle.dm_table.specs.declared.table.Target.TheVariants.{Zero, Error, Crypt as crypt_target, Verity as verity_target}
use Rattle.stack_rules.specs.declared.lower.Lower.{Lower}
use Rattle.stack_rules.specs.declared.lower.Lower.TheVariants.{Leaf as leaf, Device as device}
use Rattle.stack_rules.specs.Records.{Configuration}
use Rattle.stack_rules.specs.Names.{mapped, lines_of}
use Rattle.stack_rules.specs.Descend.{descend, by_name, known, most_devices, depth, read_cost}
use Rattle.stack_rules.specs.Lines.{line_at, IsLine}
use Rattle.stack_rules.specs.Rules.{IsLoaded, IsValid, most_depth}
use Rattle.stack_rules.proofs.lemmas.UnrollLemmas.{IsLocal, descend-rule, falls-at}
use Rattle.stack_rules.proofs.lemmas.ValidLemmas.{depth-low}
use Rattle.stack_meaning.specs.declared.units.CryptUnits.{CryptUnits}
use Rattle.stack_meaning.specs.Sectors.{on_found, sector_rule}
use Rattle.stack_meaning.specs.Beneath.{beneath, HandsOn}
use Rattle.stack_meaning.specs.Puts.{together, in_one_run, in_unit}
use Rattle.stack_meaning.specs.Units.{units_of}
use Rattle.stack_meaning.proofs.lemmas.LineLemmas.{found-more}
use Rattle.stack_meaning.proofs.lemmas.SectorLemmas.{AsksOfNames, sector_rule-local}
use Rattle.stack_lines.specs.declared.source.CryptPart.{CryptPart}
use Rattle.stack_lines.specs.declared.source.Source.{Source}
use Rattle.stack_lines.specs.declared.source.VerityPart.{VerityPart}
use Rattle.stack_lines.specs.declared.source.Source.TheVariants.{Below, Units, UnitPart, Zeros, Fails, Block, Blocks}
use Rattle.stack_lines.specs.Sources.{ComeFrom, IsPartOf, IsPlacedAt, IsServed}
use Rattle.stack_lines.specs.Prices.{Pricing, Prices, run_and_behind, by_runs, price_rule, priced, priced_by_name, part_price, crypt_price, source_price}

-- ---- runs

cond-plus : (b : Bool) (x y x' y' z : ℕ) → x ≡ x' + z → y ≡ y' + z → cond b x y ≡ cond b x' y' + z
cond-plus true x y x' y' z p q = p
cond-plus false x y x' y' z p q = q

cond-alike : (b b' : Bool) (x y x' y' : ℕ) → b ≡ b' → x ≡ x' → y ≡ y' → cond b x y ≡ cond b' x' y'
cond-alike true true x y x' y' e p q = p
cond-alike true false x y x' y' e p q = cc
cond-alike false true x y x' y' e p q = cc
cond-alike false false x y x' y' e p q = q

-- a split after a sectors more than the run has so far
behind-cut : (tog : ℕ → Bool) (price : Pricing) (s k a b : ℕ) → tog (s + k + a) ≡ false
    → run_and_behind tog price s k (suc (a + b)) ≡ run_and_behind tog price s k a + run_and_behind tog price (s + k + a + 1) 0 b
behind-cut tog price s k zero b cut =
    let at : s + k + 0 ≡ s + k = omega arith in
    let next : s + suc k ≡ s + k + 0 + 1 = omega arith in
    let none : 0 + b ≡ b = omega arith in
    ap (λ (n : ℕ). run_and_behind tog price s k (suc n)) none
    ∙ ap (λ (t : Bool). cond t (run_and_behind tog price s (suc k) b) (price s (suc k) + run_and_behind tog price (s + suc k) 0 b)) (ap tog (sym at) ∙ cut)
    ∙ ap (λ (n : ℕ). price s (suc k) + run_and_behind tog price n 0 b) next
behind-cut tog price s k (suc a) b cut =
    let more : suc a + b ≡ suc (a + b) = omega arith in
    let one : s + k + suc a ≡ s + suc k + a = omega arith in
    let two : s + k + suc a ≡ s + suc k + 0 + a = omega arith in
    let last : s + suc k + a + 1 ≡ s + k + suc a + 1 = omega arith in
    let last' : s + suc k + 0 + a + 1 ≡ s + k + suc a + 1 = omega arith in
    let rest : ℕ = run_and_behind tog price (s + k + suc a + 1) 0 b in
    let longer : run_and_behind tog price s (suc k) (suc (a + b)) ≡ run_and_behind tog price s (suc k) a + rest =
    behind-cut tog price s (suc k) a b (ap tog (sym one) ∙ cut) ∙ ap (λ (n : ℕ). run_and_behind tog price s (suc k) a + run_and_behind tog price n 0 b) last in
    let other : run_and_behind tog price (s + suc k) 0 (suc (a + b)) ≡ run_and_behind tog price (s + suc k) 0 a + rest =
    behind-cut tog price (s + suc k) 0 a b (ap tog (sym two) ∙ cut) ∙ ap (λ (n : ℕ). run_and_behind tog price (s + suc k) 0 a + run_and_behind tog price n 0 b) last' in
    ap (λ (n : ℕ). run_and_behind tog price s k (suc n)) more
    ∙ cond-plus (tog (s + k)) (run_and_behind tog price s (suc k) (suc (a + b))) (price s (suc k) + run_and_behind tog price (s + suc k) 0 (suc (a + b))) (run_and_behind tog price s (suc k) a) (price s (suc k) + run_and_behind tog price (s + suc k) 0 a) rest longer (omega (arith, other))

-- sectors cut where two don't go down together
abbrev pub CutAt : (ℕ → Bool) → ℕ → ℕ → ℕ → Type 0
CutAt tog s a b = (a ≡ 0) ⊎ ((b ≡ 0) ⊎ (tog (s + a - 1) ≡ false))

pub runs-apart : (tog : ℕ → Bool) (price : Pricing) (s a b : ℕ) → CutAt tog s a b → by_runs tog price s (a + b) ≡ by_runs tog price s a + by_runs tog price (s + a) b
runs-apart tog price s zero b cut =
    let at : s ≡ s + 0 = omega arith in
    let none : 0 + b ≡ b = omega arith in
    let sum : by_runs tog price (s + 0) b ≡ 0 + by_runs tog price (s + 0) b = omega arith in
    ap (by_runs tog price s) none ∙ ap (λ (k : ℕ). by_runs tog price k b) at ∙ sum
runs-apart tog price s (suc a) zero cut =
    let none : suc a + 0 ≡ suc a = omega arith in
    let sum : by_runs tog price s (suc a) ≡ by_runs tog price s (suc a) + 0 = omega arith in
    ap (by_runs tog price s) none ∙ sum
runs-apart tog price s (suc a) (suc b) cut = elim cut [
  | inl none ↦ absurd (omega (arith, none))
  | inr other ↦ elim other [
    | inl none ↦ absurd (omega (arith, none))
    | inr apart ↦
        let all : suc a + suc b ≡ suc (suc (a + b)) = omega arith in
        let last : s + suc a - 1 ≡ s + 0 + a = omega arith in
        let next : s + 0 + a + 1 ≡ s + suc a = omega arith in
        ap (by_runs tog price s) all
        ∙ behind-cut tog price s 0 a b (ap tog (sym last) ∙ apart)
        ∙ ap (λ (n : ℕ). run_and_behind tog price s 0 a + run_and_behind tog price n 0 b) next
  ]
]

-- sectors all of which go down together are one run
behind-one : (tog : ℕ → Bool) (price : Pricing) (s k n : ℕ) → ((j : ℕ) → j < n → tog (s + k + j) ≡ true) → run_and_behind tog price s k n ≡ price s (suc k + n)
behind-one tog price s k zero all = let e : suc k ≡ suc k + 0 = omega arith in ap (price s) e
behind-one tog price s k (suc n) all =
    let at : s + k ≡ s + k + 0 = omega arith in
    let e : suc (suc k) + n ≡ suc k + suc n = omega arith in
    ap (λ (t : Bool). cond t (run_and_behind tog price s (suc k) n) (price s (suc k) + run_and_behind tog price (s + suc k) 0 n)) (ap tog at ∙ all 0 (omega arith))
    ∙ behind-one tog price s (suc k) n (λ j h. let on : s + suc k + j ≡ s + k + suc j = omega arith in ap tog on ∙ all (suc j) (omega (arith, h)))
    ∙ ap (price s) e

pub runs-one : (tog : ℕ → Bool) (price : Pricing) (s n : ℕ) → 0 < n → ((j : ℕ) → suc j < n → tog (s + j) ≡ true) → by_runs tog price s n ≡ price s n
runs-one tog price s zero some all = absurd (omega (arith, some))
runs-one tog price s (suc n) some all =
    let e : suc 0 + n ≡ suc n = omega arith in
    behind-one tog price s 0 n (λ j h. let on : s + 0 + j ≡ s + j = omega arith in ap tog on ∙ all j (omega (arith, h))) ∙ ap (price s) e

-- sectors that go down together alike cost the same at two places, where their runs do
module _ (tog tog' : ℕ → Bool) (f g : Pricing) (s t most : ℕ) (togs : (j : ℕ) → suc j < most → tog (s + j) ≡ tog' (t + j)) (prices : (j n : ℕ) → 0 < n → j + n ≤ most → f (s + j) n ≡ g (t + j) n) where
  behind-alike : (p k n : ℕ) → p + suc k + n ≤ most → run_and_behind tog f (s + p) k n ≡ run_and_behind tog' g (t + p) k n
  behind-alike p k zero fits = prices p (suc k) (omega arith) (omega (arith, fits))
  behind-alike p k (suc n) fits =
      let here : s + p + k ≡ s + (p + k) = omega arith in
      let there : t + (p + k) ≡ t + p + k = omega arith in
      let next : s + p + suc k ≡ s + (p + suc k) = omega arith in
      let next' : t + (p + suc k) ≡ t + p + suc k = omega arith in
      let one : f (s + p) (suc k) ≡ g (t + p) (suc k) = prices p (suc k) (omega arith) (omega (arith, fits)) in
      let rest : run_and_behind tog f (s + p + suc k) 0 n ≡ run_and_behind tog' g (t + p + suc k) 0 n =
      ap (λ (q : ℕ). run_and_behind tog f q 0 n) next ∙ behind-alike (p + suc k) 0 n (omega (arith, fits)) ∙ ap (λ (q : ℕ). run_and_behind tog' g q 0 n) next' in
      cond-alike (tog (s + p + k)) (tog' (t + p + k)) (run_and_behind tog f (s + p) (suc k) n) (f (s + p) (suc k) + run_and_behind tog f (s + p + suc k) 0 n) (run_and_behind tog' g (t + p) (suc k) n) (g (t + p) (suc k) + run_and_behind tog' g (t + p + suc k) 0 n) (ap tog here ∙ togs (p + k) (omega (arith, fits)) ∙ ap tog' there) (behind-alike p (suc k) n (omega (arith, fits))) (omega (arith, one, rest))

  pub runs-alike : by_runs tog f s most ≡ by_runs tog' g t most
  runs-alike = go most refl
    where
      go : (n : ℕ) → most ≡ n → by_runs tog f s n ≡ by_runs tog' g t n
      go zero e = refl
      go (suc n) e =
          let at : s ≡ s + 0 = omega arith in
          let at' : t + 0 ≡ t = omega arith in
          ap (λ (q : ℕ). run_and_behind tog f q 0 n) at ∙ behind-alike 0 0 n (omega (arith, e)) ∙ ap (λ (q : ℕ). run_and_behind tog' g q 0 n) at'

-- ---- sectors in parts: units and data blocks

pub within-step : (u w j : ℕ) → w % u + j < u → (w + j) % u ≡ w % u + j
within-step u w j h =
    let at : w + j ≡ w / u * u + (w % u + j) = omega (arith, div-add-mod' w u) in
    ap (λ (k : ℕ). k % u) at ∙ mod-mul-add (w / u) u (w % u + j) h

-- sector s and the next one are those of one of them, where each has u sectors
abbrev pub in_step : ℕ → ℕ → Bool
in_step u s = nat_lt (s % u + 1) u

module _ (u : ℕ) (price : Pricing) (several : 0 < u) where
  -- some sectors of one of them
  pub step-once : (w n : ℕ) → 0 < n → w % u + n ≤ u → by_runs (in_step u) price w n ≡ price w n
  step-once w n some fits =
      runs-one (in_step u) price w n some (λ j h.
      let at : (w + j) % u ≡ w % u + j = within-step u w j (omega (arith, h, fits)) in
      lt-ltb ((w + j) % u + 1) u (omega (arith, at, h, fits)))

  -- one of them, and what is after it
  pub step-next : (w : ℕ) → w % u ≡ 0 → (w + u) % u ≡ 0
  step-next w begins =
      let at : w + u ≡ (w / u + 1) * u + 0 = omega (arith, div-add-mod' w u, begins, add-mul (w / u) 1 u) in
      ap (λ (k : ℕ). k % u) at ∙ mod-mul-add (w / u + 1) u 0 several

  pub step-apart : (w b : ℕ) → w % u ≡ 0 → by_runs (in_step u) price w (u + b) ≡ price w u + by_runs (in_step u) price (w + u) b
  step-apart w b begins =
      let last : w + u - 1 ≡ w + (u - 1) = omega (arith, several) in
      let end : (w + (u - 1)) % u ≡ w % u + (u - 1) = within-step u w (u - 1) (omega (arith, begins, several)) in
      let cut : in_step u (w + u - 1) ≡ false = ap (in_step u) last ∙ le-ltb ((w + (u - 1)) % u + 1) u (omega (arith, end, begins, several)) in
      let one : by_runs (in_step u) price w u ≡ price w u = step-once w u several (omega (arith, begins)) in
      runs-apart (in_step u) price w u b (inr (inr cut)) ∙ ap (λ (k : ℕ). k + by_runs (in_step u) price (w + u) b) one

-- so many of them, each of one price
pub steps-each : (u price : ℕ) → 0 < u → (q w : ℕ) → w % u ≡ 0 → by_runs (in_step u) (λ (s k : ℕ). price) w (q * u) ≡ q * price
steps-each u price several zero w begins =
    let none : 0 * u ≡ 0 = omega arith in
    let free : 0 ≡ 0 * price = omega arith in
    ap (by_runs (in_step u) (λ (s k : ℕ). price) w) none ∙ free
steps-each u price several (suc q) w begins =
    let more : suc q ≡ q + 1 = omega arith in
    let all : suc q * u ≡ u + q * u = omega (arith, ap (λ (k : ℕ). k * u) more, add-mul q 1 u) in
    let next : (w + u) % u ≡ 0 = step-next u (λ (s k : ℕ). price) several w begins in
    let rest : by_runs (in_step u) (λ (s k : ℕ). price) (w + u) (q * u) ≡ q * price = steps-each u price several q (w + u) next in
    ap (by_runs (in_step u) (λ (s k : ℕ). price) w) all ∙ step-apart u (λ (s k : ℕ). price) several w (q * u) begins ∙ (omega (arith, rest, ap (λ (k : ℕ). k * price) more, add-mul q 1 price))

-- ---- devices

-- A line's price asks only what those beneath cost; it is theirs where the line hands on, nothing on a `zero` or `error`
-- line, and that of its units on a `crypt` line.
pub record ArePrices (c : Configuration) (p : Prices) : Type 0 where
  pub asks : AsksOfNames p.line
  pub hands : (at : List ℕ → Pricing) (d l : ℕ) (target : Target) (s n : ℕ) (q : List ℕ × ℕ) → HandsOn target → beneath target s ≡ Some q → p.line at d l target s n ≡ at q.0 q.1 n
  pub zeros : (at : List ℕ → Pricing) (d l s n : ℕ) → p.line at d l Zero s n ≡ 0
  pub fails : (at : List ℕ → Pricing) (d l s n : ℕ) → p.line at d l Error s n ≡ 0
  pub units : (at : List ℕ → Pricing) (d l : ℕ) (crypt : Crypt) → p.line at d l (crypt_target crypt) ≡ p.unit (by_name c 0 (read_cost c) crypt.base.device) (at crypt.base.device) (units_of crypt)

pub priced-leaf : (c : Configuration) (p : Prices) (i s n : ℕ) → priced c p (leaf i) s n ≡ p.leaf n
unfolding descend
priced-leaf c p i s n = refl

module _ (c : Configuration) (p : Prices) (are : ArePrices c p) where
  rule-local : IsLocal c (price_rule c p)
  rule-local f g (leaf i) all = refl
  rule-local f g (device d) all =
      ap (λ (h : Pricing). λ (s n : ℕ). by_runs (in_one_run c d.0) h s n)
      (sector_rule-local c (λ (n : ℕ). 0) (λ (i s n : ℕ). n) p.line are.asks f g (device d) all)

  pub priced-rule : IsValid c → (x : Lower) → priced c p x ≡ price_rule c p (priced c p) x
  priced-rule valid x =
      let low : (y : Lower) → depth c y < most_devices = λ y. let l : depth c y ≤ most_depth = depth-low c valid y in omega (arith, l) in
      descend-rule c (λ (s n : ℕ). 0) (price_rule c p) rule-local (depth c) (falls-at c low) x (let l : depth c x ≤ most_depth = depth-low c valid x in omega (arith, l))

  -- the sectors of a device, cut where two of them don't go down together
  pub priced-apart : IsValid c → (d s a b : ℕ) → CutAt (in_one_run c d) s a b → priced c p (mapped d) s (a + b) ≡ priced c p (mapped d) s a + priced c p (mapped d) (s + a) b
  priced-apart valid d s a b cut =
      let f : Pricing = sector_rule c (λ (n : ℕ). 0) (λ (i s n : ℕ). n) p.line (priced c p) (mapped d) in
      let rule = priced-rule valid (mapped d) in
      ap (λ (h : Pricing). h s (a + b)) rule
      ∙ runs-apart (in_one_run c d) f s a b cut
      ∙ ap (λ (h : Pricing). h s a + h (s + a) b) (sym rule)

  -- the sectors of one line
  priced-line : IsValid c → (d s l n : ℕ) (line : Line) → line_at c d s ≡ Some (l, line) → line.start ≤ s → s + n ≤ line.start + line.length
      → priced c p (mapped d) s n ≡ by_runs (together line.target) (p.line (priced_by_name c p) d l line.target) (s - line.start) n
  priced-line valid d s l n line found start fits =
      let f : Pricing = sector_rule c (λ (n : ℕ). 0) (λ (i s n : ℕ). n) p.line (priced c p) (mapped d) in
      let g : Pricing = p.line (priced_by_name c p) d l line.target in
      let at : (j : ℕ) → j < n → line_at c d (s + j) ≡ Some (l, line) = λ j h. found-more 0 (lines_of c d) s (s + j) (l, line) found (omega arith) (omega (arith, h, fits)) in
      let within : (j : ℕ) → s + j - line.start ≡ s - line.start + j = λ j. omega (arith, start) in
      ap (λ (h : Pricing). h s n) (priced-rule valid (mapped d))
      ∙ runs-alike (in_one_run c d) (together line.target) f g s (s - line.start) n
      (λ j h.
      let inside : nat_lt (suc (s + j)) (line.start + line.length) ≡ true = lt-ltb (suc (s + j)) (line.start + line.length) (omega (arith, h, fits)) in
      ap (λ (q : Option (ℕ × Line)). option_map_or (λ p. nat_lt (suc (s + j)) (p.1.start + p.1.length) && together p.1.target (s + j - p.1.start)) q false) (at j (omega (arith, h)))
      ∙ ap (λ (b : Bool). b && together line.target (s + j - line.start)) inside
      ∙ ap (together line.target) (within j))
      (λ j k some h.
      ap (λ (q : Option (ℕ × Line)). on_found (λ (n : ℕ). 0) (p.line (priced_by_name c p)) d (s + j) q k) (at j (omega (arith, some, h)))
      ∙ ap (λ (w : ℕ). g w k) (within j))

  -- ---- where the sectors come from

  module _ (d l : ℕ) (line : Line) (is : IsLine c d l line) (w n : ℕ) (some : 0 < n) where
    -- a target of which all sectors go down together, and cost nothing
    none : (target : Target) → ((i : ℕ) → together target (w + i) ≡ true) → p.line (priced_by_name c p) d l target w n ≡ 0 → line.target ≡ target
        → by_runs (together line.target) (p.line (priced_by_name c p) d l line.target) w n ≡ 0
    none target all free come =
        ap (λ (t : Target). by_runs (together t) (p.line (priced_by_name c p) d l t) w n) come
        ∙ runs-one (together target) (p.line (priced_by_name c p) d l target) w n some (λ i h. all i) ∙ free

    verity-priced : (x : VerityPart) → line.target ≡ verity_target x.verity.now → IsPlacedAt d l x → x.first ≡ w → by_runs (together line.target) (p.line (priced_by_name c p) d l line.target) w n ≡ part_price c p x n
    verity-priced x target place first =
        ap (λ (t : Target). by_runs (together t) (p.line (priced_by_name c p) d l t) w n) target
        ∙ ap (λ (k : ℕ). by_runs (together (verity_target x.verity.now)) (p.line (priced_by_name c p) k l (verity_target x.verity.now)) w n) (sym place.0)
        ∙ ap (λ (k : ℕ). by_runs (together (verity_target x.verity.now)) (p.line (priced_by_name c p) x.device.0 k (verity_target x.verity.now)) w n) (sym place.1)
        ∙ ap (λ (k : ℕ). part_price c p (record x { first = k }) n) (sym first)

    crypt-priced : (u : CryptPart) → IsPartOf c line.target u → u.first ≡ w → by_runs (together line.target) (p.line (priced_by_name c p) d l line.target) w n ≡ crypt_price c p u n
    crypt-priced u of first =
        ap (λ (t : Target). by_runs (together t) (p.line (priced_by_name c p) d l t) w n) of.is
        ∙ ap (λ (f : Pricing). by_runs (in_unit (units_of of.crypt)) f w n) (are.units (priced_by_name c p) d l of.crypt)
        ∙ ap (λ (o : Option Lower). by_runs (in_unit (units_of of.crypt)) (p.unit (known 0 (read_cost c) o) (known {A = Pricing} (λ s n. 0) (priced c p) o) (units_of of.crypt)) w n) of.named
        ∙ ap (λ (x : CryptUnits). by_runs (in_unit x) (p.unit (read_cost c u.lower) (priced c p u.lower) x) w n) (sym of.units)
        ∙ ap (λ (k : ℕ). crypt_price c p (record u { first = k }) n) (sym first)

    come-priced : (source : Source) → ComeFrom c (d, l) line.target w n source → by_runs (together line.target) (p.line (priced_by_name c p) d l line.target) w n ≡ source_price c p source n
    come-priced (Below lower first) come =
        let on = come.1 in
        let at : w + 0 ≡ w = omega arith in
        let first_is : first + 0 ≡ first = omega arith in
        runs-one (together line.target) (p.line (priced_by_name c p) d l line.target) w n some (λ i h. come.2 i h)
        ∙ are.hands (priced_by_name c p) d l line.target w n (on.name, first + 0) come.0 (ap (beneath line.target) (sym at) ∙ on.under 0 some)
        ∙ ap (λ (o : Option Lower). known {A = Pricing} (λ (s n : ℕ). 0) (priced c p) o (first + 0) n) on.is
        ∙ ap (λ (k : ℕ). priced c p lower k n) first_is
    come-priced (Units u) come = crypt-priced u come.0 come.1
    come-priced (UnitPart u) come = crypt-priced u come.0 come.1
    come-priced Zeros come = none Zero (λ i. refl) (are.zeros (priced_by_name c p) d l w n) come
    come-priced Fails come = none Error (λ i. refl) (are.fails (priced_by_name c p) d l w n) come
    come-priced (Block x) come = verity-priced x come.0 come.1 come.2
    come-priced (Blocks x) come = verity-priced x come.0 come.1 come.2

  -- the sectors of a device, where they come from
  pub served-priced : (d s n : ℕ) (source : Source) → IsLoaded c → 0 < n → IsServed c d s n source → priced c p (mapped d) s n ≡ source_price c p source n
  served-priced d s n source loaded some r =
      priced-line loaded.valid d s r.number n r.line r.found r.start r.fits ∙ come-priced d r.number r.line r.is (s - r.line.start) n some source r.come
