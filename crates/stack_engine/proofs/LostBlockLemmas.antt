-- A block of a line with parity, and its round.
use Rattle.std.proofs.Common.{◌≡◌, ℕ, ◌-◌, ◌*◌, ◌%◌, ◌<◌, ◌≤◌, Some, None, inl, inr, sym, ap, ◌∙◌, arith}
use Rattle.std.proofs.Math.Nat.{mod-lt, mul-le-mul_right}
use Rattle.std.proofs.lemmas.Bool.{cases_lt}
use Rattle.std.proofs.lemmas.Grind.{div_ceil_times}
use Rattle.dm_table.specs.declared.parity.Parity.{Parity}
use Rattle.dm_table.specs.declared.verity.Verity.{Verity}
use Rattle.stack_rules.specs.Records.{Configuration}
use Rattle.stack_rules.specs.Rules.{IsLoaded}
use Rattle.stack_rules.specs.Trees.{block_sectors, round_count}
use Rattle.stack_lines.specs.Covered.{HasParity, HasRound}
use Rattle.stack_lines.specs.Walks.{HasDataBlock, HasVerifiedBlock}
use Rattle.stack_lines.specs.declared.tree.Tree.{Tree}
use Rattle.stack_lines.proofs.lemmas.VerityLineLemmas.{data-whole, parity-there}

some-rounds : (q : Parity) → q.roots ≤ 24 → 0 < q.blocks → 0 < round_count q
some-rounds q few some = elim (cases_lt 0 (round_count q)) [
  | inl more ↦ more
  | inr none ↦
      let room = (div_ceil_times q.blocks (255 - q.roots) (omega (arith, few))).0 in
      let no_rounds : round_count q ≡ 0 = omega (arith, none) in
      let nothing : round_count q * (255 - q.roots) ≡ 0 * (255 - q.roots) = ap (λ (n : ℕ). n * (255 - q.roots)) no_rounds in
      absurd (omega (arith, nothing, room, some))
]

-- a data block is one that is verified
pub data-verified : {c : Configuration} {v : Verity} {tree : Tree} {i : ℕ} → HasDataBlock c v tree i → HasVerifiedBlock c v tree i
data-verified block = record { lies = block.lies; there = omega (arith, block.there) }

module _ (c : Configuration) (v : Verity) (tree : Tree) (i : ℕ) (loaded : IsLoaded c) (block : HasVerifiedBlock c v tree i) (q : Parity) (has : v.parity ≡ Some q) where
  line : HasParity c v q tree
  line = record { lies = block.lies; has = has }

  -- its parity covers the block
  pub block-covered : i < q.blocks
  block-covered = let it = parity-there c v q tree loaded line in omega (arith, block.there, it.2.covers)

  pub rounds-some : 0 < round_count q
  rounds-some = let it = parity-there c v q tree loaded line in some-rounds q it.2.grammar.most_roots (omega (arith, block-covered))

  -- the round of the block
  pub block-round : HasRound c v q tree (i % round_count q)
  block-round = record { line = line; there = mod-lt i rounds-some }

  -- its parity has at most 192 sectors
  pub parity-few : block_sectors v * q.roots ≤ 192
  parity-few =
      let it = parity-there c v q tree loaded line in
      let size = data-whole c tree.device.0 tree.line v loaded block.lies.is in
      let most : block_sectors v * q.roots ≤ 8 * q.roots = mul-le-mul_right q.roots size.most in
      omega (arith, most, it.2.grammar.most_roots)

  -- and is stored somewhere
  pub parity-stored : tree.parity ≡ None → ⊥
  parity-stored none =
      let it = parity-there c v q tree loaded line in
      let clash : None ≡ Some it.0 = sym none ∙ it.1 in
      cc
