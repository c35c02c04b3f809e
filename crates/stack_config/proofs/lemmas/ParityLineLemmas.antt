-- What a loaded configuration gives of the parity of a verity line.
use Rattle.std.proofs.Common.{subst, ◌≡◌, ◌+◌, ◌-◌, ◌*◌, ◌≤◌, ◌<◌, ℕ, refl, sym, ap, ◌∙◌, Bool, true, false, not, ◌==◌, nat_lt, List, map, Option, Some, arith}
use Rattle.std.specs.Prelude.{IfSome}
use Rattle.std.specs.List.{AllByRecursion, list_any}
use Rattle.std.proofs.Math.Nat.{mul-le-mul_right}
use Rattle.std.proofs.lemmas.Bool.{eqb-true, ltb-false}
use Rattle.tree_shape.specs.Shape.{area_blocks}
use Rattle.dm_table.specs.Grammar.{IsTargetOfGrammar, IsVerityOfGrammar}
use Rattle.dm_table.specs.Parity.{IsParityOfGrammar}
use Rattle.dm_table.specs.declared.parity.Parity.{Parity}
use Rattle.dm_table.specs.declared.table.Base.{Base}
use Rattle.dm_table.specs.declared.table.Line.{Line}
use Rattle.dm_table.specs.declared.table.Target.{Target}
use Rattle.dm_table.specs.declared.table.Target.TheVariants.{Verity}
use Rattle.dm_table.specs.declared.verity.Verity.{Verity as VerityRecord}
use Rattle.stack_rules.specs.declared.lower.Lower.{Lower}
use Rattle.stack_rules.specs.Records.{Configuration}
use Rattle.stack_rules.specs.Names.{mapped, named, names, size}
use Rattle.stack_rules.specs.TargetRules.{Range}
use Rattle.stack_rules.specs.Trees.{tree_of, line_data_sectors, block_sectors, covered_sectors, parity_sectors, round_count}
use Rattle.stack_rules.specs.Descend.{depth}
use Rattle.stack_rules.specs.Lines.{IsLine}
use Rattle.stack_rules.specs.Rules.{IsLoaded, ends_past, is_beyond, is_unprotected}
use Rattle.stack_rules.specs.targets.Verity.{is_unprotected_by, parity_bases, parity_ranges}
use Rattle.stack_rules.proofs.lemmas.RangeLemmas.{parity_ranges-some}
use Rattle.stack_rules.proofs.lemmas.ValidLineLemmas.{or-false}
use Rattle.stack_config.proofs.lemmas.LoadedLineLemmas.{line-grammar, names-known, names-shallower, range-inside, sound-line}

-- the parity of a line of device d, and where what it covers and it itself lie
pub record IsParityLine (c : Configuration) (d : ℕ) (verity : VerityRecord) (p : Parity) (hash parity : Lower) : Type 0 where
  pub parity_named : named c p.device ≡ Some parity
  pub grammar : IsParityOfGrammar p
  pub one_size : verity.data_block ≡ verity.hash_block
  pub covers : verity.blocks + area_blocks (tree_of verity) ≤ p.blocks
  pub hash_inside : covered_sectors verity p ≤ size c hash
  pub inside : parity_sectors verity p ≤ size c parity
  pub shallower : depth c parity < depth c (mapped d)

-- blocks from `first` on, up to one of k
scaled : (sectors first n k room : ℕ) → first + n ≤ k → k * sectors ≤ room → sectors * first + sectors * n ≤ room
scaled sectors first n k room low fits =
    let more : (first + n) * sectors ≤ k * sectors = mul-le-mul_right sectors low in
    let split : (first + n) * sectors ≡ sectors * first + sectors * n = grind arith in
    omega (arith, more, split, fits)

module _ (c : Configuration) (d : ℕ) (verity : VerityRecord) (p : Parity) (hash parity : Lower) (line : IsParityLine c d verity p hash parity) where
  -- each covered block of the hash device lies inside it
  pub covered_hash-inside : (j : ℕ) → j < p.blocks → verity.blocks ≤ j → block_sectors verity * (verity.start + (j - verity.blocks)) + block_sectors verity ≤ size c hash
  covered_hash-inside j low past =
      let room = scaled (block_sectors verity) (verity.start + (j - verity.blocks)) 1 (verity.start + (p.blocks - verity.blocks)) (size c hash) (omega (arith, low, past)) line.hash_inside in
      let one : block_sectors verity * 1 ≡ block_sectors verity = omega arith in
      omega (arith, room, one)

  -- and the parity of each round inside its device
  pub round_parity-inside : (n : ℕ) → n < round_count p → block_sectors verity * (p.start + n * p.roots) + block_sectors verity * p.roots ≤ size c parity
  round_parity-inside n low =
      let more : (n + 1) * p.roots ≤ round_count p * p.roots = mul-le-mul_right p.roots (omega (arith, low)) in
      let split : (n + 1) * p.roots ≡ n * p.roots + p.roots = grind arith in
      scaled (block_sectors verity) (p.start + n * p.roots) p.roots (p.start + round_count p * p.roots) (size c parity) (omega (arith, more, split)) line.inside

-- ---- lines with parity

not-not : (b : Bool) → not b ≡ false → b ≡ true
not-not true h = refl
not-not false h = let clash : true ≡ false = h in cc

module _ (c : Configuration) (d l : ℕ) (line : Line) (v : VerityRecord) (p : Parity) (loaded : IsLoaded c) (is : IsLine c d l line) (target : line.target ≡ Verity v) (has : v.parity ≡ Some p) where
  -- what holds of all names of the line holds of the device of its parity
  third : (P : List ℕ → Type 0) → AllByRecursion P (names line.target) → P p.device
  third P all =
      let each : AllByRecursion P (names (Verity v)) = subst (λ (t : Target). AllByRecursion P (names t)) target all in
      (subst (λ (o : Option Parity). AllByRecursion P (map (λ (base : Base). base.device) (parity_bases o))) has each.1.1).0

  -- no block is left out
  protected : (v.data_block ≡ v.hash_block) × (v.blocks + area_blocks (tree_of v) ≤ p.blocks)
  protected =
      let rule : is_unprotected_by v v.parity ≡ false = sym (ap (is_unprotected line.length) target) ∙ (sound-line c d l line loaded.valid is).1.protected in
      let all : ℕ = v.blocks + area_blocks (tree_of v) in
      let both = or-false (not (v.data_block == v.hash_block)) (nat_lt p.blocks all) (sym (ap (is_unprotected_by v) has) ∙ rule) in
      (eqb-true v.data_block v.hash_block (not-not (v.data_block == v.hash_block) both.0), ltb-false p.blocks all both.1)

  -- the covered blocks and the parity end within their devices
  ranged : (ends_past c v.hash (covered_sectors v p) ≡ false) × (ends_past c p.device (parity_sectors v p) ≡ false)
  ranged =
      let rule : is_beyond c line.length (Verity v) ≡ false = sym (ap (is_beyond c line.length) target) ∙ (sound-line c d l line loaded.valid is).1.inside in
      let past : List Range → Bool = list_any (λ range. ends_past c range.0 range.1) in
      let more = or-false (ends_past c v.data (line_data_sectors v)) (past (parity_ranges v v.parity)) rule in
      or-false (ends_past c v.hash (covered_sectors v p)) (ends_past c p.device (parity_sectors v p)) (sym (parity_ranges-some c v p (sym has)) ∙ more.1)

  pub parity-line : (hash : Lower) → named c v.hash ≡ Some hash → (parity : Lower) × IsParityLine c d v p hash parity
  parity-line hash on_hash =
      let known = third (λ name. (y : Lower) × (named c name ≡ Some y)) (names-known c d l line loaded.valid is) in
      let parity : Lower = known.0 in
      let size = protected in
      let room = ranged in
      let grammar : IsVerityOfGrammar v = subst IsTargetOfGrammar target (line-grammar c d l line loaded is).target in (
        parity,
        record {
          parity_named = known.1;
          grammar = subst (λ (o : Option Parity). IfSome o IsParityOfGrammar) has grammar.parity;
          one_size = size.0;
          covers = size.1;
          hash_inside = range-inside c v.hash hash (covered_sectors v p) on_hash room.0;
          inside = range-inside c p.device parity (parity_sectors v p) known.1 room.1;
          shallower = third (λ name. (y : Lower) → named c name ≡ Some y → depth c y < depth c (mapped d)) (names-shallower c d l line loaded.valid is) parity known.1;
        },
      )
