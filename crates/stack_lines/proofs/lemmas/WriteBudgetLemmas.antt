-- What writes cost: several runs at once no more than one after the other, and the units of a line.
use Rattle.std.proofs.Common.{◌≡◌, ℕ, zero, suc, ◌+◌, ◌-◌, ◌*◌, ◌/◌, ◌%◌, ◌<◌, ◌≤◌, Bool, true, cond, nat_lt, List, Option, Some, None, refl, sym, ap, ◌∙◌, arith, inl, inr}
use Rattle.std.proofs.lemmas.Bool.{cases_lt, lt-ltb, le-ltb}
use Rattle.std.proofs.lemmas.Nat.{div-add-mod', div-mul-add}
use Rattle.std.proofs.Math.Nat.{add-mul}
use Rattle.std.proofs.Math.Path.{fun_ext}
use Rattle.dm_table.specs.declared.crypt.Crypt.{Crypt}
use Rattle.stack_meaning.specs.declared.units.CryptUnits.{CryptUnits}
use Rattle.dm_table.specs.declared.table.Line.{Line}
use Rattle.dm_table.specs.declared.table.Target.{Target}
use Rattle.dm_table.specs.declared.table.Target.TheVariants.{Crypt as crypt_target}
use Rattle.stack_rules.specs.declared.lower.Lower.{Lower}
use Rattle.stack_rules.specs.declared.lower.Lower.TheVariants.{Leaf as leaf, Device as device}
use Rattle.stack_rules.specs.Records.{Configuration}
use Rattle.stack_rules.specs.Names.{mapped, named, names}
use Rattle.stack_rules.specs.Descend.{descend, after_steps, most_devices, known, by_name, read_cost}
use Rattle.stack_rules.specs.Lines.{line_at}
use Rattle.stack_rules.specs.Rules.{IsLoaded, IsValid}
use Rattle.stack_rules.specs.Units.{crypt_of}
use Rattle.stack_meaning.proofs.lemmas.UnitSizeLemmas.{per_unit-some}
use Rattle.stack_rules.proofs.lemmas.UnrollLemmas.{AllOf, all_and}
use Rattle.stack_meaning.specs.Beneath.{beneath, said_or, HandsOn}
use Rattle.stack_meaning.specs.MeaningOf.{meaning_of}
use Rattle.stack_meaning.specs.Puts.{together, in_one_run}
use Rattle.stack_meaning.specs.Sectors.{on_found, sector_rule}
use Rattle.stack_meaning.specs.TargetMeaning.{Meant, handed, own, IsHanded}
use Rattle.stack_meaning.specs.Units.{units_of, per_unit, unit_first}
use Rattle.stack_meaning.proofs.lemmas.LineLemmas.{line-start}
use Rattle.stack_meaning.proofs.lemmas.SectorLemmas.{AsksOfNames, said_or-same}
use Rattle.stack_meaning.proofs.lemmas.UnitLemmas.{unit-more}
use Rattle.stack_lines.specs.declared.source.CryptPart.{CryptPart}
use Rattle.stack_lines.specs.declared.source.Source.{Source}
use Rattle.stack_lines.specs.Sources.{IsServed}
use Rattle.stack_lines.specs.Prices.{Pricing, by_runs, price_as, price_rule}
use Rattle.stack_lines.specs.WriteBudgets.{Counter, of_reads, of_writes, leaf_count, change_count, unit_count, own_count, line_count, write_prices, write_budget, crypt_write_budget, source_write_budget}
use Rattle.stack_lines.proofs.RunCostLemmas.{CostsLess, cond-below, runs-less}
use Rattle.stack_lines.proofs.SideLemmas.{beneath-more, in-line, in-line-together}
use Rattle.stack_lines.proofs.StripeLemmas.{part-ends}
use Rattle.stack_lines.proofs.lemmas.PriceLemmas.{CutAt, runs-apart, in_step, step-once, step-next, step-apart, ArePrices, priced-leaf, priced-apart, served-priced}

-- ---- lines

own-same : (c : Configuration) (k : Counter) (at at' : List ℕ → Pricing) (target : Target) (s n : ℕ) → AllOf (λ name. at name ≡ at' name) (names target) → own_count c k at (crypt_of target) s n ≡ own_count c k at' (crypt_of target) s n
own-same c k at at' (crypt_target crypt) s n (all_and same more) = ap (λ (h : Pricing). unit_count k (by_name c 0 (read_cost c) crypt.base.device) h (units_of crypt) s n) same
own-same c k at at' target s n all = refl

line_count-asks : (c : Configuration) (k : Counter) → AsksOfNames (line_count c k)
line_count-asks c k at at' d l target s all =
    ap (λ (f : ℕ → ℕ). λ (n : ℕ). price_as (meaning_of target).meant f (own_count c k at (crypt_of target) s n) n) (said_or-same (λ (n : ℕ). 0) at at' target s all)
    ∙ fun_ext (λ (n : ℕ). ap (λ (once : ℕ). price_as (meaning_of target).meant (said_or (λ (n : ℕ). 0) at' (beneath target s)) once n) (own-same c k at at' target s n all))

line_count-beneath : (c : Configuration) (k : Counter) (at : List ℕ → Pricing) (d l : ℕ) (target : Target) (s n : ℕ) (p : List ℕ × ℕ) → HandsOn target → beneath target s ≡ Some p → line_count c k at d l target s n ≡ at p.0 p.1 n
line_count-beneath c k at d l target s n p hands e = go (meaning_of target).meant hands
  where
    go : (m : Meant) → IsHanded m → price_as m (said_or (λ (n : ℕ). 0) at (beneath target s)) (own_count c k at (crypt_of target) s n) n ≡ at p.0 p.1 n
    go handed h = ap (λ (o : Option (List ℕ × ℕ)). said_or (λ (n : ℕ). 0) at o n) e
    go (own m) h = absurd h

are-written : (c : Configuration) (k : Counter) → ArePrices c (write_prices c k)
are-written c k = record { asks = line_count-asks c k; hands = line_count-beneath c k; zeros = λ at d l s n. refl; fails = λ at d l s n. refl; units = λ at d l crypt. refl }

-- ---- devices

leaf-less : (k : Counter) (a b : ℕ) → leaf_count k (a + b) ≤ leaf_count k a + leaf_count k b
leaf-less of_reads a b = omega arith
leaf-less of_writes a b = omega arith

known-less : (f : Lower → Pricing) → ((x : Lower) → CostsLess (f x)) → (o : Option Lower) → CostsLess (known {A = Pricing} (λ s n. 0) f o)
known-less f all None s a b = omega arith
known-less f all (Some x) s a b = all x s a b

-- a part of a unit that is a part of a longer one is cut as that one is
cut-less : (u a b more : ℕ) → cond (nat_lt (a + b) u) more 0 ≤ cond (nat_lt a u) more 0
cut-less u a b more = elim (cases_lt a u) [
  | inl low ↦ let is : cond (nat_lt a u) more 0 ≡ more = ap (λ (t : Bool). cond t more 0) (lt-ltb a u low) in let most : cond (nat_lt (a + b) u) more 0 ≤ more = cond-below (nat_lt (a + b) u) more 0 more (λ e. omega arith) (omega arith) in omega (arith, is, most)
  | inr high ↦ let none : cond (nat_lt (a + b) u) more 0 ≡ 0 = ap (λ (t : Bool). cond t more 0) (le-ltb (a + b) u (omega (arith, high))) in omega (arith, none)
]

own-less : (c : Configuration) (k : Counter) (at : List ℕ → Pricing) (o : Option Crypt) (w a b : ℕ) → own_count c k at o w (a + b) ≤ own_count c k at o w a + own_count c k at o (w + a) b
own-less c k at None w a b = omega arith
own-less c k at (Some crypt) w a b = omega (arith, cut-less (per_unit (units_of crypt)) a b (change_count k (by_name c 0 (read_cost c) crypt.base.device) (units_of crypt)))

line-less : (c : Configuration) (k : Counter) (at : List ℕ → Pricing) → ((name : List ℕ) → CostsLess (at name)) → (d l : ℕ) (target : Target) (w a b : ℕ) → ((j : ℕ) → j < a → together target (w + j) ≡ true)
    → line_count c k at d l target w (a + b) ≤ line_count c k at d l target w a + line_count c k at d l target (w + a) b
line-less c k at all d l target w a b tog = go (meaning_of target).meant (λ h. h)
  where
    handed-less : HandsOn target → (o : Option (List ℕ × ℕ)) → beneath target w ≡ o
        → said_or (λ (n : ℕ). 0) at (beneath target w) (a + b) ≤ said_or (λ (n : ℕ). 0) at (beneath target w) a + said_or (λ (n : ℕ). 0) at (beneath target (w + a)) b
    handed-less hands None e = let none : said_or (λ (n : ℕ). 0) at (beneath target w) (a + b) ≡ 0 = ap (λ (o : Option (List ℕ × ℕ)). said_or (λ (n : ℕ). 0) at o (a + b)) e in omega (arith, none)
    handed-less hands (Some p) e =
        let whole : said_or (λ (n : ℕ). 0) at (beneath target w) (a + b) ≡ at p.0 p.1 (a + b) = ap (λ (o : Option (List ℕ × ℕ)). said_or (λ (n : ℕ). 0) at o (a + b)) e in
        let front : said_or (λ (n : ℕ). 0) at (beneath target w) a ≡ at p.0 p.1 a = ap (λ (o : Option (List ℕ × ℕ)). said_or (λ (n : ℕ). 0) at o a) e in
        let rest : said_or (λ (n : ℕ). 0) at (beneath target (w + a)) b ≡ at p.0 (p.1 + a) b = ap (λ (o : Option (List ℕ × ℕ)). said_or (λ (n : ℕ). 0) at o b) (beneath-more target w a p hands tog e) in
        omega (arith, whole, front, rest, all p.0 p.1 a b)

    go : (m : Meant) → (IsHanded m → HandsOn target)
        → price_as m (said_or (λ (n : ℕ). 0) at (beneath target w)) (own_count c k at (crypt_of target) w (a + b)) (a + b)
        ≤ price_as m (said_or (λ (n : ℕ). 0) at (beneath target w)) (own_count c k at (crypt_of target) w a) a
        + price_as m (said_or (λ (n : ℕ). 0) at (beneath target (w + a))) (own_count c k at (crypt_of target) (w + a) b) b
    go handed up = handed-less (up tt) (beneath target w) refl
    go (own m) up = own-less c k at (crypt_of target) w a b

module _ (c : Configuration) (k : Counter) (valid : IsValid c) where
  found-less : (at : List ℕ → Pricing) → ((name : List ℕ) → CostsLess (at name)) → (d s a b : ℕ) → ((j : ℕ) → j < a → in_one_run c d (s + j) ≡ true) → (o : Option (ℕ × Line)) → line_at c d s ≡ o
      → on_found (λ (n : ℕ). 0) (line_count c k at) d s (line_at c d s) (a + b) ≤ on_found (λ (n : ℕ). 0) (line_count c k at) d s (line_at c d s) a + on_found (λ (n : ℕ). 0) (line_count c k at) d (s + a) (line_at c d (s + a)) b
  found-less at all d s a b tog None e =
      let none : on_found (λ (n : ℕ). 0) (line_count c k at) d s (line_at c d s) (a + b) ≡ 0 = ap (λ (o : Option (ℕ × Line)). on_found (λ (n : ℕ). 0) (line_count c k at) d s o (a + b)) e in
      omega (arith, none)
  found-less at all d s a b tog (Some p) e =
      let w : ℕ = s - p.1.start in
      let start : p.1.start ≤ s = line-start c d s p valid e in
      let next : s + a - p.1.start ≡ w + a = omega (arith, start) in
      let whole : on_found (λ (n : ℕ). 0) (line_count c k at) d s (line_at c d s) (a + b) ≡ line_count c k at d p.0 p.1.target w (a + b) = ap (λ (o : Option (ℕ × Line)). on_found (λ (n : ℕ). 0) (line_count c k at) d s o (a + b)) e in
      let front : on_found (λ (n : ℕ). 0) (line_count c k at) d s (line_at c d s) a ≡ line_count c k at d p.0 p.1.target w a = ap (λ (o : Option (ℕ × Line)). on_found (λ (n : ℕ). 0) (line_count c k at) d s o a) e in
      let rest : on_found (λ (n : ℕ). 0) (line_count c k at) d (s + a) (line_at c d (s + a)) b ≡ line_count c k at d p.0 p.1.target (w + a) b =
      ap (λ (o : Option (ℕ × Line)). on_found (λ (n : ℕ). 0) (line_count c k at) d (s + a) o b) (in-line c d p s e a tog) ∙ ap (λ (t : ℕ). line_count c k at d p.0 p.1.target t b) next in
      let less = line-less c k at all d p.0 p.1.target w a b (λ j h.
      let here : w + j ≡ s + j - p.1.start = omega (arith, start) in
      ap (together p.1.target) here ∙ in-line-together c d p s e a tog j h) in
      omega (arith, whole, front, rest, less)

  steps-less : (n : ℕ) (x : Lower) → CostsLess (after_steps (λ (s n : ℕ). 0) (price_rule c (write_prices c k)) n x)
  steps-less zero x s a b = omega arith
  steps-less (suc n) (leaf i) s a b = leaf-less k a b
  steps-less (suc n) (device d) s a b =
      let below : Lower → Pricing = after_steps (λ (s n : ℕ). 0) (price_rule c (write_prices c k)) n in
      let at : List ℕ → Pricing = by_name c (λ (s n : ℕ). 0) below in
      runs-less (in_one_run c d.0) (sector_rule c (λ (n : ℕ). 0) (λ (i s n : ℕ). n) (line_count c k) below (device d))
      (λ t x y tog. found-less at (λ name. known-less below (steps-less n) (named c name)) d.0 t x y tog (line_at c d.0 t) refl) s a b

  pub write-less : (x : Lower) → CostsLess (write_budget c k x)
  unfolding descend
  write-less x s a b = steps-less (suc most_devices) x s a b

pub write_budget-leaf : (c : Configuration) (k : Counter) (i s n : ℕ) → write_budget c k (leaf i) s n ≡ leaf_count k n
write_budget-leaf c k i s n = priced-leaf c (write_prices c k) i s n

-- the sectors of a device, cut where two of them don't go down together
pub write_budget-apart : (c : Configuration) (k : Counter) → IsValid c → (d s a b : ℕ) → CutAt (in_one_run c d) s a b → write_budget c k (mapped d) s (a + b) ≡ write_budget c k (mapped d) s a + write_budget c k (mapped d) (s + a) b
write_budget-apart c k valid d s a b cut = priced-apart c (write_prices c k) (are-written c k) valid d s a b cut

-- the sectors of a device, where they go
pub served-write_budget : (c : Configuration) (k : Counter) (d s n : ℕ) (source : Source) → IsLoaded c → 0 < n → IsServed c d s n source → write_budget c k (mapped d) s n ≡ source_write_budget c k source n
served-write_budget c k d s n source loaded some r = served-priced c (write_prices c k) (are-written c k) d s n source loaded some r

-- ---- units of a line

module _ (c : Configuration) (k : Counter) (x : CryptPart) where
  abbrev units : CryptUnits
  units = x.units

  abbrev lower : Lower
  lower = x.lower

  abbrev unit_price : Pricing
  unit_price = unit_count k (read_cost c lower) (write_budget c k lower) units

  some-unit : 0 < per_unit units
  some-unit = omega (arith, per_unit-some units)

  has-written : (n : ℕ) → crypt_write_budget c k x n ≡ by_runs (in_step (per_unit units)) unit_price x.first n
  has-written n = refl

  -- one that is written whole
  whole-is : (w : ℕ) → unit_price w (per_unit units) ≡ write_budget c k lower (unit_first units w) (per_unit units)
  whole-is w =
      let u : ℕ = per_unit units in
      let none : cond (nat_lt u u) (change_count k (read_cost c lower) units) 0 ≡ 0 = ap (λ (t : Bool). cond t (change_count k (read_cost c lower) units) 0) (le-ltb u u (omega arith)) in
      omega (arith, none)

  -- a part of one
  pub part-written : (n : ℕ) → 0 < n → n < per_unit units → x.first % per_unit units + n ≤ per_unit units
      → crypt_write_budget c k x n ≡ change_count k (read_cost c lower) units + write_budget c k lower (unit_first units x.first) (per_unit units)
  part-written n some few fits =
      let u : ℕ = per_unit units in
      let cut : cond (nat_lt n u) (change_count k (read_cost c lower) units) 0 ≡ change_count k (read_cost c lower) units = ap (λ (t : Bool). cond t (change_count k (read_cost c lower) units) 0) (lt-ltb n u few) in
      omega (arith, has-written n, step-once u unit_price some-unit x.first n some fits, cut)

  module _ (aligned : x.first % per_unit units ≡ 0) where
    pub whole-written : crypt_write_budget c k x (per_unit units) ≡ write_budget c k lower (unit_first units x.first) (per_unit units)
    whole-written = let u : ℕ = per_unit units in omega (arith, has-written u, step-once u unit_price some-unit x.first u some-unit (omega (arith, aligned)), whole-is x.first)

    -- after a sectors, which are whole units
    unit-cut : (a n : ℕ) → a % per_unit units ≡ 0 → CutAt (in_step (per_unit units)) x.first a n
    unit-cut zero n even = inl refl
    unit-cut (suc a) n even =
        let u : ℕ = per_unit units in
        inr (inr (part-ends u (x.first + suc a) some-unit (omega arith) ((unit-more u x.first (suc a) some-unit aligned).1 ∙ even)))

    -- one more of them
    pub units-next : (a : ℕ) → a % per_unit units ≡ 0 → crypt_write_budget c k x (a + per_unit units) ≡ crypt_write_budget c k x a + write_budget c k lower (unit_first units x.first + a) (per_unit units)
    units-next a even =
        let u : ℕ = per_unit units in
        let place = unit-more u x.first a some-unit aligned in
        let begins : (x.first + a) % u ≡ 0 = place.1 ∙ even in
        let sum : (x.first / u + a / u) * u ≡ x.first / u * u + a / u * u = add-mul (x.first / u) (a / u) u in
        let rows : (x.first + a) / u * u ≡ (x.first / u + a / u) * u = ap (λ (q : ℕ). q * u) place.0 in
        let there : unit_first units (x.first + a) ≡ unit_first units x.first + a = omega (arith, rows, sum, div-add-mod' a u, even) in
        let one = step-once u unit_price some-unit (x.first + a) u some-unit (omega (arith, begins)) in
        let under : write_budget c k lower (unit_first units (x.first + a)) u ≡ write_budget c k lower (unit_first units x.first + a) u = ap (λ (t : ℕ). write_budget c k lower t u) there in
        omega (arith, has-written (a + u), has-written a, runs-apart (in_step u) unit_price x.first a u (unit-cut a u even), one, whole-is (x.first + a), under)

    -- some of them cost no more than all
    pub units-most : (a n : ℕ) → a % per_unit units ≡ 0 → a ≤ n → crypt_write_budget c k x a ≤ crypt_write_budget c k x n
    units-most a n even few =
        let u : ℕ = per_unit units in
        let split : a + (n - a) ≡ n = omega (arith, few) in
        let all : by_runs (in_step u) unit_price x.first n ≡ by_runs (in_step u) unit_price x.first (a + (n - a)) = ap (by_runs (in_step u) unit_price x.first) (sym split) in
        omega (arith, has-written a, has-written n, all, runs-apart (in_step u) unit_price x.first a (n - a) (unit-cut a (n - a) even))

  -- put at once they cost no more than one after the other
  at-once : (valid : IsValid c) (q w n : ℕ) → w % per_unit units ≡ 0 → n ≡ per_unit units + q * per_unit units → write_budget c k lower (unit_first units w) n ≤ by_runs (in_step (per_unit units)) unit_price w n
  at-once valid zero w n begins count =
      let u : ℕ = per_unit units in
      let one : n ≡ u = omega (arith, count) in
      let beneath_one : write_budget c k lower (unit_first units w) n ≡ write_budget c k lower (unit_first units w) u = ap (write_budget c k lower (unit_first units w)) one in
      let here : by_runs (in_step u) unit_price w n ≡ by_runs (in_step u) unit_price w u = ap (by_runs (in_step u) unit_price w) one in
      omega (arith, beneath_one, here, step-once u unit_price some-unit w u some-unit (omega (arith, begins)), whole-is w)
  at-once valid (suc q) w n begins count =
      let u : ℕ = per_unit units in
      let r : ℕ = u + q * u in
      let more : suc q ≡ q + 1 = omega arith in
      let all : suc q * u ≡ u + q * u = omega (arith, ap (λ (j : ℕ). j * u) more, add-mul q 1 u) in
      let split : n ≡ u + r = omega (arith, count, all) in
      let beneath_all : write_budget c k lower (unit_first units w) n ≡ write_budget c k lower (unit_first units w) (u + r) = ap (write_budget c k lower (unit_first units w)) split in
      let here : by_runs (in_step u) unit_price w n ≡ by_runs (in_step u) unit_price w (u + r) = ap (by_runs (in_step u) unit_price w) split in
      let next = step-next u unit_price some-unit w begins in
      let place = unit-more u w u some-unit begins in
      let sum : (w / u + u / u) * u ≡ w / u * u + u / u * u = add-mul (w / u) (u / u) u in
      let rows : (w + u) / u * u ≡ (w / u + u / u) * u = ap (λ (j : ℕ). j * u) place.0 in
      let one : u / u ≡ 1 = (let is_one : u ≡ 1 * u + 0 = omega arith in ap (λ (j : ℕ). j / u) is_one ∙ div-mul-add 1 u 0 some-unit) in
      let there : unit_first units (w + u) ≡ unit_first units w + u = omega (arith, rows, sum, ap (λ (j : ℕ). j * u) one) in
      let rest : write_budget c k lower (unit_first units (w + u)) r ≤ by_runs (in_step u) unit_price (w + u) r = at-once valid q (w + u) r next refl in
      let under : write_budget c k lower (unit_first units (w + u)) r ≡ write_budget c k lower (unit_first units w + u) r = ap (λ (t : ℕ). write_budget c k lower t r) there in
      omega (arith, beneath_all, here, write-less c k valid lower (unit_first units w) u r, whole-is w, rest, under, step-apart u unit_price some-unit w r begins)

  pub units-at-once : (n : ℕ) → IsValid c → x.first % per_unit units ≡ 0 → n % per_unit units ≡ 0 → 0 < n → write_budget c k lower (unit_first units x.first) n ≤ crypt_write_budget c k x n
  units-at-once n valid aligned whole some = go (n / per_unit units) refl
    where
      go : (q : ℕ) → n / per_unit units ≡ q → write_budget c k lower (unit_first units x.first) n ≤ crypt_write_budget c k x n
      go zero e = let none : n / per_unit units * per_unit units ≡ 0 * per_unit units = ap (λ (j : ℕ). j * per_unit units) e in absurd (omega (arith, none, div-add-mod' n (per_unit units), whole, some))
      go (suc q) e =
          let more : suc q ≡ q + 1 = omega arith in
          let rows : n / per_unit units * per_unit units ≡ (q + 1) * per_unit units = ap (λ (j : ℕ). j * per_unit units) (e ∙ more) in
          let count : n ≡ per_unit units + q * per_unit units = omega (arith, rows, add-mul q 1 (per_unit units), div-add-mod' n (per_unit units), whole) in
          omega (arith, has-written n, at-once valid q x.first n aligned count)
