-- Runs of whole data blocks, and the first of these.
use Rattle.std.proofs.Common.{◌≡◌, ℕ, zero, suc, ◌+◌, ◌-◌, ◌*◌, ◌/◌, ◌%◌, ◌<◌, ◌≤◌, Bool, true, false, nat_lt, ◌&&◌, Option, refl, sym, ap, ◌∙◌, arith, inr}
use Rattle.std.specs.Option.{option_map_or}
use Rattle.std.proofs.lemmas.Bool.{le-ltb}
use Rattle.std.proofs.lemmas.Nat.{div-add-mod'}
use Rattle.dm_table.specs.declared.table.Line.{Line}
use Rattle.dm_table.specs.declared.table.Target.{Target}
use Rattle.stack_rules.specs.Records.{Configuration}
use Rattle.stack_rules.specs.Names.{lines_of}
use Rattle.stack_rules.specs.Trees.{block_sectors}
use Rattle.stack_lines.specs.declared.source.VerityPart.{VerityPart}
use Rattle.stack_lines.specs.declared.source.Source.TheVariants.{Block, Blocks}
use Rattle.stack_meaning.specs.Puts.{together, in_one_run}
use Rattle.stack_meaning.proofs.lemmas.LineLemmas.{found-more}
use Rattle.stack_lines.specs.Sources.{EndsRun, IsServed}
use Rattle.stack_lines.proofs.lemmas.PriceLemmas.{within-step}

-- whole blocks, at least one, are no fewer than one
whole-some : (u n : ℕ) → n % u ≡ 0 → 0 < n → u ≤ n
whole-some u n whole some = go (n / u) refl
  where
    go : (q : ℕ) → n / u ≡ q → u ≤ n
    go zero e = let none : n / u * u ≡ 0 * u = ap (λ (k : ℕ). k * u) e in absurd (omega (arith, div-add-mod' n u, whole, some, none))
    go (suc q) e = let more : n / u * u ≡ suc q * u = ap (λ (k : ℕ). k * u) e in omega (arith, div-add-mod' n u, whole, more)

-- the first block of a run
pub first-served : (c : Configuration) (d s n : ℕ) (x : VerityPart) → 0 < n → IsServed c d s n (Blocks x) → (block_sectors x.verity.now ≤ n) × IsServed c d s (block_sectors x.verity.now) (Block x)
first-served c d s n x some r =
    let blocks = r.come.3 in
    let few : block_sectors x.verity.now ≤ n = whole-some (block_sectors x.verity.now) n blocks.whole some in (
      few,
      record {
        number = r.number;
        line = r.line;
        found = r.found;
        is = r.is;
        start = r.start;
        fits = omega (arith, r.fits, few);
        come = (r.come.0, r.come.1, r.come.2, record { of = blocks.of; within = omega (arith, blocks.aligned); inside = omega (arith, blocks.inside, few) });
      },
    )

-- which ends where the next sector doesn't go down together with its last one
pub first-ends : (c : Configuration) (d s n most : ℕ) (x : VerityPart) → 0 < n → IsServed c d s n (Blocks x) → 0 < block_sectors x.verity.now → EndsRun (in_one_run c d) s most (block_sectors x.verity.now)
first-ends c d s n most x some r several =
    let u : ℕ = block_sectors x.verity.now in
    let w : ℕ = s - r.line.start in
    let aligned : w % u ≡ 0 = ap (λ (k : ℕ). k % u) (sym r.come.2) ∙ r.come.3.aligned in
    let few : u ≤ n = (first-served c d s n x some r).0 in
    let at : s + u - 1 - r.line.start ≡ w + (u - 1) = omega (arith, r.start, several) in
    let last : (w + (u - 1)) % u ≡ w % u + (u - 1) = within-step u w (u - 1) (omega (arith, aligned, several)) in
    let whole : Bool = nat_lt (suc (s + u - 1)) (r.line.start + r.line.length) in
    inr (
    ap (λ (q : Option (ℕ × Line)). option_map_or (λ p. nat_lt (suc (s + u - 1)) (p.1.start + p.1.length) && together p.1.target (s + u - 1 - p.1.start)) q false)
    (found-more 0 (lines_of c d) s (s + u - 1) (r.number, r.line) r.found (omega (arith, several)) (omega (arith, several, few, r.fits)))
    ∙ ap (λ (t : Target). whole && together t (s + u - 1 - r.line.start)) r.come.0
    ∙ ap (λ (k : ℕ). whole && nat_lt (k % u + 1) u) at
    ∙ ap (λ (t : Bool). whole && t) (le-ltb ((w + (u - 1)) % u + 1) u (omega (arith, last, aligned, several)))
    ∙ and-false whole
    )
  where
    and-false : (x : Bool) → (x && false) ≡ false
    and-false true = refl
    and-false false = refl
