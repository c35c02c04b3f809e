-- Budgets: of runs that are cut, of the sectors of one line, and of units and data blocks.
use Rattle.std.proofs.Common.{◌≡◌, ℕ, ◌+◌, ◌*◌, ◌%◌, ◌<◌, ◌≤◌, List, [], ◌∷◌, map, Option, Some, None, refl, sym, ap, ◌∙◌, arith}
use Rattle.std.specs.Option.{option_map_or}
use Rattle.std.proofs.Math.Nat.{mul_assoc}
use Rattle.dm_table.specs.declared.crypt.Crypt.{Crypt}
use Rattle.dm_table.specs.declared.parity.Parity.{Parity}
use Rattle.dm_table.specs.declared.table.Target.{Target}
use Rattle.dm_table.specs.declared.table.Target.TheVariants.{Crypt as crypt_target, Verity as verity_target}
use Rattle.dm_table.specs.declared.verity.Verity.{Verity}
use Rattle.stack_rules.specs.declared.lower.Lower.TheVariants.{Leaf as leaf}
use Rattle.stack_rules.specs.Records.{Configuration}
use Rattle.stack_rules.specs.Names.{mapped}
use Rattle.stack_rules.specs.Descend.{by_name, line_read_cost, read_cost}
use Rattle.stack_rules.specs.Rules.{IsLoaded, IsValid}
use Rattle.stack_rules.specs.Trees.{block_sectors, path_blocks, path_sectors}
use Rattle.stack_rules.specs.targets.Verity.{mend_cost, parity_bases}
use Rattle.stack_meaning.specs.Units.{units_of, per_unit}
use Rattle.stack_meaning.proofs.lemmas.UnitSizeLemmas.{per_unit-some, per_unit-of}
use Rattle.stack_meaning.specs.Beneath.{beneath, said_or, HandsOn}
use Rattle.stack_meaning.specs.TargetMeaning.{Meant, handed, own, IsHanded}
use Rattle.stack_meaning.specs.MeaningOf.{meaning_of}
use Rattle.stack_meaning.specs.Puts.{in_one_run}
use Rattle.stack_meaning.proofs.lemmas.SectorLemmas.{AsksOfNames, said_or-same}
use Rattle.stack_lines.specs.declared.source.CryptPart.{CryptPart}
use Rattle.stack_lines.specs.declared.source.Source.{Source}
use Rattle.stack_lines.specs.declared.source.VerityPart.{VerityPart}
use Rattle.stack_lines.specs.Sources.{IsServed}
use Rattle.stack_lines.specs.Walks.{block_in, chain_expected}
use Rattle.stack_lines.specs.Prices.{Pricing, price_as, by_runs}
use Rattle.stack_lines.specs.Budgets.{line_price, read_prices, budget, crypt_budget, part_budget, source_budget}
use Rattle.stack_lines.proofs.lemmas.PriceLemmas.{CutAt, in_step, step-once, steps-each, ArePrices, priced-leaf, priced-apart, served-priced}

-- ---- devices

line_price-asks : (c : Configuration) → AsksOfNames (line_price c)
line_price-asks c at at' d l target s all =
    ap (λ (f : ℕ → ℕ). λ (n : ℕ). price_as (meaning_of target).meant f (line_read_cost (by_name c 0 (read_cost c)) target) n) (said_or-same (λ (n : ℕ). 0) at at' target s all)

-- a line that hands on the sectors beneath
line_price-beneath : (c : Configuration) (at : List ℕ → Pricing) (d l : ℕ) (target : Target) (s n : ℕ) (p : List ℕ × ℕ) → HandsOn target → beneath target s ≡ Some p → line_price c at d l target s n ≡ at p.0 p.1 n
line_price-beneath c at d l target s n p hands e = go (meaning_of target).meant hands
  where
    go : (m : Meant) → IsHanded m → price_as m (said_or (λ (n : ℕ). 0) at (beneath target s)) (line_read_cost (by_name c 0 (read_cost c)) target) n ≡ at p.0 p.1 n
    go handed h = ap (λ (o : Option (List ℕ × ℕ)). said_or (λ (n : ℕ). 0) at o n) e
    go (own m) h = absurd h

line_price-units : (c : Configuration) (at : List ℕ → Pricing) (d l : ℕ) (crypt : Crypt) → line_price c at d l (crypt_target crypt) ≡ (read_prices c).unit (by_name c 0 (read_cost c) crypt.base.device) (at crypt.base.device) (units_of crypt)
line_price-units c at d l crypt = let f : ℕ → Pricing = λ u s n. u * by_name c 0 (read_cost c) crypt.base.device in ap f (sym (per_unit-of crypt))

are-read : (c : Configuration) → ArePrices c (read_prices c)
are-read c = record { asks = line_price-asks c; hands = line_price-beneath c; zeros = λ at d l s n. refl; fails = λ at d l s n. refl; units = line_price-units c }

pub budget-leaf : (c : Configuration) (i s n : ℕ) → budget c (leaf i) s n ≡ n
budget-leaf c i s n = priced-leaf c (read_prices c) i s n

-- the sectors of a device, cut where two of them don't go down together
pub budget-apart : (c : Configuration) → IsValid c → (d s a b : ℕ) → CutAt (in_one_run c d) s a b → budget c (mapped d) s (a + b) ≡ budget c (mapped d) s a + budget c (mapped d) (s + a) b
budget-apart c valid d s a b cut = priced-apart c (read_prices c) (are-read c) valid d s a b cut

-- the sectors of a device, where they come from
pub served-budget : (c : Configuration) (d s n : ℕ) (source : Source) → IsLoaded c → 0 < n → IsServed c d s n source → budget c (mapped d) s n ≡ source_budget c source n
served-budget c d s n source loaded some r = served-priced c (read_prices c) (are-read c) d s n source loaded some r

-- ---- units and data blocks of a line

module _ (c : Configuration) (u : CryptPart) (n : ℕ) where
  -- so many units
  pub units-budget : (q : ℕ) → u.first % per_unit u.units ≡ 0 → q * per_unit u.units ≡ n → crypt_budget c u n ≡ n * read_cost c u.lower
  units-budget q begins count =
      let size : ℕ = per_unit u.units in
      ap (by_runs (in_step size) (λ (s k : ℕ). size * read_cost c u.lower) u.first) (sym count)
      ∙ steps-each size (size * read_cost c u.lower) (omega (arith, per_unit-some u.units)) q u.first begins
      ∙ sym (mul_assoc q size (read_cost c u.lower))
      ∙ ap (λ (k : ℕ). k * read_cost c u.lower) count

  -- a part of one unit
  pub unit-budget : 0 < n → u.first % per_unit u.units + n ≤ per_unit u.units → crypt_budget c u n ≡ per_unit u.units * read_cost c u.lower
  unit-budget some fits = step-once (per_unit u.units) (λ (s k : ℕ). per_unit u.units * read_cost c u.lower) (omega (arith, per_unit-some u.units)) u.first n some fits

module _ (c : Configuration) (x : VerityPart) (n : ℕ) where
  -- so many data blocks
  pub blocks-budget : (q : ℕ) → 0 < block_sectors x.verity.now → x.first % block_sectors x.verity.now ≡ 0 → q * block_sectors x.verity.now ≡ n → part_budget c x n ≡ q * line_read_cost (by_name c 0 (read_cost c)) (verity_target x.verity.now)
  blocks-budget q several begins count =
      let u : ℕ = block_sectors x.verity.now in
      let one : ℕ = line_read_cost (by_name c 0 (read_cost c)) (verity_target x.verity.now) in
      ap (by_runs (in_step u) (λ (s k : ℕ). one) x.first) (sym count) ∙ steps-each u one several q x.first begins

  -- a part of one data block
  pub block-budget : 0 < n → x.first % block_sectors x.verity.now + n ≤ block_sectors x.verity.now → part_budget c x n ≡ line_read_cost (by_name c 0 (read_cost c)) (verity_target x.verity.now)
  block-budget some fits = step-once (block_sectors x.verity.now) (λ (s k : ℕ). line_read_cost (by_name c 0 (read_cost c)) (verity_target x.verity.now)) (omega (arith, some, fits)) x.first n some fits

-- ---- one data block

-- its chain and the spares of its blocks cost what a sector of its line does
pub chain-cost : (c : Configuration) (v : Verity) (i : ℕ) → (chain_expected (block_in c v i)).cost ≡ line_read_cost (by_name c 0 (read_cost c)) (verity_target v)
chain-cost c v i = ap (λ (k : ℕ). block_sectors v * at v.data + path_sectors v * at v.hash + path_blocks v * k) (spare v.parity)
  where
    at : List ℕ → ℕ
    at = by_name c 0 (read_cost c)

    spare : (o : Option Parity) → mend_cost v o (at v.data ∷ at v.hash ∷ option_map_or (λ p. at p.device) o 0 ∷ []) ≡ mend_cost v o (at v.data ∷ at v.hash ∷ map at (map (λ base. base.device) (parity_bases o)))
    spare None = refl
    spare (Some p) = refl
