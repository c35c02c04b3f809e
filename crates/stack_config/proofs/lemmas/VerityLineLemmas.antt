-- What a loaded configuration gives of each verity line.
use Rattle.std.proofs.Common.{subst, ◌≡◌, ◌+◌, ◌*◌, ◌/◌, ◌≤◌, ◌<◌, ℕ, zero, suc, refl, sym, ap, ◌∙◌, Bool, true, false, ◌&&◌, Some, None, arith}
use Rattle.std.specs.List.{list_any}
use Rattle.std.proofs.Math.Nat.{mul-le-mul_right}
use Rattle.std.proofs.lemmas.Bool.{ltb-false}
use Rattle.tree_shape.specs.Shape.{IsShape, first_fault, area_end, blocks_sectors}
use Rattle.tree_shape.proofs.lemmas.ShapeFaultLemmas.{first_fault-none}
use Rattle.dm_table.specs.Grammar.{IsTargetOfGrammar, IsVerityOfGrammar}
use Rattle.dm_table.specs.declared.table.Line.{Line}
use Rattle.dm_table.specs.declared.table.Target.TheVariants.{Verity}
use Rattle.dm_table.specs.declared.verity.Verity.{Verity as VerityRecord}
use Rattle.stack_rules.specs.declared.lower.Lower.{Lower}
use Rattle.stack_rules.specs.Records.{Configuration}
use Rattle.stack_rules.specs.Names.{mapped, named, size, may_write}
use Rattle.stack_rules.specs.Trees.{tree_of, line_data_sectors, line_tree_sectors, block_sectors, path_sectors}
use Rattle.stack_rules.specs.Descend.{by_name, depth, line_read_cost, read_cost}
use Rattle.stack_rules.specs.Lines.{IsLine}
use Rattle.stack_rules.specs.Rules.{IsLoaded, ends_past, is_beyond, is_uncovered, is_tree_beyond, needs_read_only}
use Rattle.stack_rules.specs.targets.Verity.{parity_ranges}
use Rattle.stack_rules.proofs.lemmas.RangeLemmas.{is_beyond-verity}
use Rattle.stack_rules.proofs.lemmas.ValidLineLemmas.{or-false}
use Rattle.stack_config.proofs.lemmas.LoadedLineLemmas.{sound-line, line-grammar, size-most, range-inside, names-known, names-shallower, line-read-cost, name-cost}

-- a line of device d, whose data blocks and tree lie on those two
pub record IsVerityLine (c : Configuration) (d : ℕ) (line : Line) (verity : VerityRecord) (below hash : Lower) : Type 0 where
  pub below_named : named c verity.data ≡ Some below
  pub hash_named : named c verity.hash ≡ Some hash
  pub grammar : IsVerityOfGrammar verity
  pub shape : IsShape (tree_of verity)
  pub covers : line.length ≤ line_data_sectors verity
  pub below_inside : line_data_sectors verity ≤ size c below
  pub hash_inside : line_tree_sectors verity ≤ size c hash
  pub read_only : may_write c (mapped d) ≡ false
  pub below_shallower : depth c below < depth c (mapped d)
  pub hash_shallower : depth c hash < depth c (mapped d)
  pub cost : block_sectors verity * read_cost c below + path_sectors verity * read_cost c hash ≤ read_cost c (mapped d)

some-blocks : (n size len : ℕ) → 0 < len → len ≤ blocks_sectors n size → 1 ≤ n
some-blocks zero size len some low = let no : ⊥ = omega (arith, some, low) in absurd no
some-blocks (suc n) size len some low = omega arith

and-true : (b : Bool) → (b && true) ≡ false → b ≡ false
and-true true h = h
and-true false h = refl

pub verity-line : (c : Configuration) (d l : ℕ) (line : Line) (verity : VerityRecord) → IsLoaded c → IsLine c d l line → line.target ≡ Verity verity → (below : Lower) × (hash : Lower) × IsVerityLine c d line verity below hash
verity-line c d l line verity loaded is has =
    let names = rw has at (names-known c d l line loaded.valid is) in
    let below : Lower = names.0.0 in
    let hash : Lower = names.1.0.0 in
    let below-means : named c verity.data ≡ Some below = names.0.1 in
    let hash-means : named c verity.hash ≡ Some hash = names.1.0.1 in
    let s = (sound-line c d l line loaded.valid is).1 in
    let grammar : IsVerityOfGrammar verity = subst IsTargetOfGrammar has (line-grammar c d l line loaded is).target in
    let covers : line.length ≤ line_data_sectors verity = ltb-false (line_data_sectors verity) line.length (sym (ap (is_uncovered line.length) has) ∙ s.covered) in
    let ends = or-false (ends_past c verity.data (line_data_sectors verity)) (list_any (λ range. ends_past c range.0 range.1) (parity_ranges verity verity.parity)) (sym (is_beyond-verity c line.length verity) ∙ sym (ap (is_beyond c line.length) has) ∙ s.inside) in
    let room = range-inside c verity.data below (line_data_sectors verity) below-means ends.0 in
    let hash-room = range-inside c verity.hash hash (line_tree_sectors verity) hash-means (sym (ap (is_tree_beyond c) has) ∙ s.tree) in
    let shallower = rw has at (names-shallower c d l line loaded.valid is) in
    let read : line_read_cost (by_name c 0 (read_cost c)) (Verity verity) ≤ read_cost c (mapped d) = rw has at (line-read-cost c d l line loaded.valid is) in
    let below-cost = name-cost c (read_cost c) verity.data below below-means in
    let hash-cost = name-cost c (read_cost c) verity.hash hash hash-means in (
      below,
      hash,
      record {
        below_named = below-means;
        hash_named = hash-means;
        grammar = grammar;
        shape = record {
          data_size = grammar.places.data_block;
          hash_size = grammar.places.hash_block;
          some = some-blocks verity.blocks verity.data_block line.length s.some covers;
          data_fits = omega (arith, room, size-most c loaded below);
          tree_fits = omega (arith, hash-room, size-most c loaded hash);
        };
        covers = covers;
        below_inside = room;
        hash_inside = hash-room;
        read_only = and-true (may_write c (mapped d)) (sym (ap (λ t. may_write c (mapped d) && needs_read_only line.length t) has) ∙ s.read_only);
        below_shallower = shallower.0 below below-means;
        hash_shallower = shallower.1.0 hash hash-means;
        cost = omega (arith, read, ap (λ (k : ℕ). block_sectors verity * k) below-cost, ap (λ (k : ℕ). path_sectors verity * k) hash-cost);
      },
    )

-- so its shape can be made
pub verity-shape : (c : Configuration) (d : ℕ) (line : Line) (verity : VerityRecord) (below hash : Lower) → IsVerityLine c d line verity below hash → first_fault (tree_of verity) ≡ None
verity-shape c d line verity below hash v = first_fault-none (tree_of verity) v.shape

-- block k of n blocks of that size that lie in some room
block-inside : (n k size room : ℕ) → k < n → blocks_sectors n size ≤ room → blocks_sectors k size + size / 512 ≤ room
block-inside n k size room low fits =
    let more : (k + 1) * (size / 512) ≤ n * (size / 512) = mul-le-mul_right (size / 512) (omega (arith, low)) in
    let split : (k + 1) * (size / 512) ≡ k * (size / 512) + size / 512 = grind arith in
    omega (arith, more, split, fits)

-- each data block lies inside the data device, and each hash block of the tree inside the hash device
pub data_block-inside : (c : Configuration) (d : ℕ) (line : Line) (verity : VerityRecord) (below hash : Lower) → IsVerityLine c d line verity below hash
    → (k : ℕ) → k < verity.blocks → blocks_sectors k verity.data_block + block_sectors verity ≤ size c below
data_block-inside c d line verity below hash v k low = block-inside verity.blocks k verity.data_block (size c below) low v.below_inside

pub hash_block-inside : (c : Configuration) (d : ℕ) (line : Line) (verity : VerityRecord) (below hash : Lower) → IsVerityLine c d line verity below hash
    → (k : ℕ) → k < area_end (tree_of verity) → blocks_sectors k verity.hash_block + verity.hash_block / 512 ≤ size c hash
hash_block-inside c d line verity below hash v k low = block-inside (area_end (tree_of verity)) k verity.hash_block (size c hash) low v.hash_inside
