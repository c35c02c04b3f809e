-- Sectors of a line that go down together lie side by side beneath.
use Rattle.std.proofs.Common.{◌≡◌, ℕ, zero, suc, ◌+◌, ◌-◌, ◌*◌, ◌/◌, ◌%◌, ◌<◌, true, false, nat_lt, ◌&&◌, List, [], ◌∷◌, length, Option, Some, None, sym, ap, ◌∙◌, arith}
use Rattle.std.specs.Prelude.{slice_get, option_map}
use Rattle.std.specs.Option.{option_map_or}
use Rattle.std.proofs.lemmas.Bool.{ltb-true, and_parts}
use Rattle.dm_table.specs.declared.table.Base.{Base}
use Rattle.dm_table.specs.declared.table.Line.{Line}
use Rattle.dm_table.specs.declared.table.Target.{Target}
use Rattle.dm_table.specs.declared.table.Target.TheVariants.{Linear, Striped, Zero, Error, Crypt as crypt_target, Verity as verity_target, Unstriped as unstriped_target}
use Rattle.stack_rules.specs.Records.{Configuration}
use Rattle.stack_rules.specs.Names.{lines_of}
use Rattle.stack_rules.specs.Lines.{line_at}
use Rattle.stack_meaning.specs.Beneath.{beneath, HandsOn}
use Rattle.stack_meaning.specs.Puts.{together, in_one_run}
use Rattle.stack_meaning.proofs.lemmas.LineLemmas.{found-more}
use Rattle.stack_lines.proofs.StripeLemmas.{chunk-more}
use Rattle.stack_lines.proofs.lemmas.PriceLemmas.{within-step}

-- sectors that go down together lie in one chunk
within-chunk : (k w a : ℕ) → ((j : ℕ) → j < suc a → nat_lt ((w + j) % k + 1) k ≡ true) → w % k + suc a < k
within-chunk k w zero all =
    let at : w + 0 ≡ w = omega arith in
    let low : (w + 0) % k + 1 < k = ltb-true ((w + 0) % k + 1) k (all 0 (omega arith)) in
    let same : (w + 0) % k ≡ w % k = ap (λ (x : ℕ). x % k) at in
    omega (arith, low, same)
within-chunk k w (suc a) all =
    let before : w % k + suc a < k = within-chunk k w a (λ j h. all j (omega (arith, h))) in
    let here : (w + suc a) % k ≡ w % k + suc a = within-step k w (suc a) before in
    let low : (w + suc a) % k + 1 < k = ltb-true ((w + suc a) % k + 1) k (all (suc a) (omega arith)) in
    omega (arith, here, low)

-- a place so many sectors further on, and sector t from a base's first on
abbrev further : List ℕ × ℕ → ℕ → Option (List ℕ × ℕ)
further p a = Some (p.0, p.1 + a)

abbrev from_base : ℕ → Base → List ℕ × ℕ
from_base t b = (b.device, b.offset + t)

further-same : (p q : List ℕ × ℕ) (a : ℕ) → q ≡ p → further q a ≡ further p a
further-same p q a same = ap (λ (x : List ℕ × ℕ). further x a) same

on-stripe : (bases : List Base) (k row r a : ℕ) (p : List ℕ × ℕ) → option_map (from_base (row + r)) (slice_get bases k) ≡ Some p → option_map (from_base (row + (r + a))) (slice_get bases k) ≡ further p a
on-stripe bases k row r a p e = go (slice_get bases k) e
  where
    go : (o : Option Base) → option_map (from_base (row + r)) o ≡ Some p → option_map (from_base (row + (r + a))) o ≡ further p a
    go None none = cc
    go (Some b) some =
        let same : from_base (row + r) b ≡ p = cc in
        let plus : b.offset + (row + (r + a)) ≡ b.offset + (row + r) + a = omega arith in
        let at : (t : ℕ) → Option (List ℕ × ℕ) = λ t. Some (b.device, t) in
        ap at plus ∙ further-same p (from_base (row + r) b) a same

pub beneath-more : (target : Target) (w a : ℕ) (p : List ℕ × ℕ) → HandsOn target → ((j : ℕ) → j < a → together target (w + j) ≡ true) → beneath target w ≡ Some p → beneath target (w + a) ≡ further p a
beneath-more target w zero p hands tog e =
    let at : w + 0 ≡ w = omega arith in
    let to : p.1 ≡ p.1 + 0 = omega arith in
    let place : (t : ℕ) → Option (List ℕ × ℕ) = λ t. Some (p.0, t) in
    ap (beneath target) at ∙ e ∙ ap place to
beneath-more (Linear base) w (suc a) p hands tog e =
    let same : from_base w base ≡ p = cc in
    let plus : base.offset + (w + suc a) ≡ base.offset + w + suc a = omega arith in
    let at : (t : ℕ) → Option (List ℕ × ℕ) = λ t. Some (base.device, t) in
    ap at plus ∙ further-same p (from_base w base) (suc a) same
beneath-more (Striped chunk bases) w (suc a) p hands tog e =
    let same = chunk-more chunk w (suc a) (within-chunk chunk w a tog) in
    let n : ℕ = length bases in
    ap (λ (q : ℕ). option_map (from_base (q / n * chunk + (w + suc a) % chunk)) (slice_get bases (q % n))) same.0
    ∙ ap (λ (r : ℕ). option_map (from_base (w / chunk / n * chunk + r)) (slice_get bases (w / chunk % n))) same.1
    ∙ on-stripe bases (w / chunk % n) (w / chunk / n * chunk) (w % chunk) (suc a) p e
beneath-more (unstriped_target line) w (suc a) p hands tog e =
    let same = chunk-more line.chunk w (suc a) (within-chunk line.chunk w a tog) in
    let row : ℕ = (w / line.chunk * line.stripes + line.stripe) * line.chunk in
    ap (λ (q : ℕ). option_map (from_base ((q * line.stripes + line.stripe) * line.chunk + (w + suc a) % line.chunk)) (slice_get (line.base ∷ []) 0)) same.0
    ∙ ap (λ (r : ℕ). option_map (from_base (row + r)) (slice_get (line.base ∷ []) 0)) same.1
    ∙ on-stripe (line.base ∷ []) 0 row (w % line.chunk) (suc a) p e
beneath-more Zero w (suc a) p hands tog e = absurd hands
beneath-more Error w (suc a) p hands tog e = absurd hands
beneath-more (crypt_target line) w (suc a) p hands tog e = absurd hands
beneath-more (verity_target line) w (suc a) p hands tog e = absurd hands

-- ---- sectors of a device that go down together

module _ (c : Configuration) (d : ℕ) (p : ℕ × Line) where
  -- with the next one
  one-more : (t : ℕ) → line_at c d t ≡ Some p → in_one_run c d t ≡ true → (nat_lt (suc t) (p.1.start + p.1.length) ≡ true) × (together p.1.target (t - p.1.start) ≡ true)
  one-more t here is =
      and_parts (nat_lt (suc t) (p.1.start + p.1.length)) (together p.1.target (t - p.1.start))
      (sym (ap (λ (o : Option (ℕ × Line)). option_map_or (λ q. nat_lt (suc t) (q.1.start + q.1.length) && together q.1.target (t - q.1.start)) o false) here) ∙ is)

  -- they lie in one line
  pub in-line : (s : ℕ) → line_at c d s ≡ Some p → (a : ℕ) → ((j : ℕ) → j < a → in_one_run c d (s + j) ≡ true) → line_at c d (s + a) ≡ Some p
  in-line s e zero all = let at : s + 0 ≡ s = omega arith in ap (line_at c d) at ∙ e
  in-line s e (suc a) all =
      let here = in-line s e a (λ j h. all j (omega (arith, h))) in
      let low : suc (s + a) < p.1.start + p.1.length = ltb-true (suc (s + a)) (p.1.start + p.1.length) (one-more (s + a) here (all a (omega arith))).0 in
      found-more 0 (lines_of c d) s (s + suc a) p e (omega arith) (omega (arith, low))

  -- and go down together there
  pub in-line-together : (s : ℕ) → line_at c d s ≡ Some p → (a : ℕ) → ((j : ℕ) → j < a → in_one_run c d (s + j) ≡ true) → (j : ℕ) → j < a → together p.1.target (s + j - p.1.start) ≡ true
  in-line-together s e a all j h = (one-more (s + j) (in-line s e j (λ i low. all i (omega (arith, low, h)))) (all j h)).1
