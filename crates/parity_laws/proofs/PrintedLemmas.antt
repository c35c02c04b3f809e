-- A printed line has as much parity as a load asks for.
use Rattle.std.proofs.Common.{◌≡◌, ◌∙◌, ◌≤◌, ◌==◌, ◌||◌, ℕ, List, None, Some, not, nat_lt, false, ap, refl, subst, sym, arith}
use Rattle.std.specs.Prelude.{◌+◌}
use Rattle.std.proofs.lemmas.Bool.Decides.{nat_tests}
use Rattle.dm_table.specs.declared.parity.Parity.{Parity}
use Rattle.dm_table.specs.declared.verity.CorruptionMode.TheVariants.{Fail}
use Rattle.dm_table.specs.declared.verity.Verity.{Verity}
use Rattle.stack_rules.specs.targets.Verity.{is_unprotected_by}
use Rattle.stack_rules.specs.Trees.{tree_of}
use Rattle.tree_shape.specs.Shape.{ShapeRecord, area_blocks, level_blocks, levels, shape_with}
use Rattle.verity_format.specs.declared.tree.VerityTree.{VerityTree}
use Rattle.verity_format.specs.Line.{LineNames}
use Rattle.parity_laws.specs.PrintedLines.{PrintedParityIsLoaded}

tests : (a b m n : ℕ) → a ≡ b → n ≤ m → (not (a == b) || nat_lt m n) ≡ false
tests a b m n same fits = grind (arith, nat_tests)

covers : (v : Verity) (p : Parity) → v.parity ≡ Some p → v.data_block ≡ v.hash_block → v.blocks + area_blocks (tree_of v) ≤ p.blocks → is_unprotected_by v v.parity ≡ false
covers v p is size fits = ap (is_unprotected_by v) is ∙ tests v.data_block v.hash_block p.blocks (v.blocks + area_blocks (tree_of v)) size fits

-- a tree's number of blocks doesn't depend on where it begins
area-at : (s : ShapeRecord) (start : ℕ) → area_blocks (shape_with s.data_block s.hash_block s.blocks start) ≡ area_blocks s
unfolding area_blocks level_blocks levels
area-at s start = refl

-- the target of a printed line
printed : VerityTree → LineNames → List ℕ → ℕ → Verity
printed tree names root start = record {
  «data» = names.data_name;
  hash = names.hash_name;
  data_block = tree.shape.data_block;
  hash_block = tree.shape.hash_block;
  blocks = tree.shape.blocks;
  start = start;
  root = root;
  salt = tree.salt;
  ignore_zero_blocks = false;
  corruption = Fail;
  in_tasklet = false;
  parity = names.parity;
  signature_key = None;
}

pub printed-loaded : PrintedParityIsLoaded
unfolding printed
printed-loaded tree names root start p is size fits =
    covers (printed tree names root start) p is size (subst (λ (n : ℕ). tree.shape.blocks + n ≤ p.blocks) (sym (area-at tree.shape start)) fits)
