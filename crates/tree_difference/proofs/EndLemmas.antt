-- The loop's calls, and its end.
use Rattle.std.proofs.Common.{◌≡◌, ◌≤◌, ◌<◌, ◌+◌, ◌-◌, ◌*◌, ◌/◌, ◌^◌, ℕ, min, Bool, true, false, List, [], ◌∷◌, length, Option, sym, ap, ◌∙◌, subst, arith}
use Rattle.std.specs.Io.KnownBytes.{Appends}
use Rattle.block_device.specs.Device.{Device}
use Rattle.tree_shape.specs.Shape.{ShapeRecord, per_block}
use Rattle.tree_shape.proofs.lemmas.ShapeFactLemmas.{two}
use Rattle.tree_shape.proofs.lemmas.ShapeFaultLemmas.{blocks-le}
use Rattle.tree_shape.proofs.lemmas.ShapeLemmas.{pow_pos}
use Rattle.verity_format.specs.Blocks.{IsFullRead}
use Rattle.tree_path.specs.Spans.{IsTopAt}
use Rattle.runs.specs.declared.kind.Kind.{Kind}
use Rattle.runs.specs.declared.kind.Kind.TheVariants.{Changed}
use Rattle.runs.specs.declared.run.Run.{Run}
use Rattle.runs.specs.Limits.{limited_lines}
use Rattle.runs.specs.Kinds.{State, count_of, is_state, one_if}
use Rattle.tree_difference.specs.declared.difference.Totals.{Totals}
use Rattle.tree_difference.specs.declared.fault.DifferenceFault.{DifferenceFault}
use Rattle.tree_difference.specs.declared.fault.DifferenceFault.TheVariants.{Image, Unaligned, Unpinned, Unlike, Hash, NoMemory, Write}
use Rattle.tree_difference.specs.declared.walk.Walk.{Walk}
use Rattle.tree_difference.specs.Causes.{IsWalkCause}
use Rattle.tree_difference.specs.Comparisons.{Compares, ReadsDiffering, DifferenceWorld, compared_totals}
use Rattle.tree_difference.specs.Differences.{HaveTrees, IsComparisonCause, rest_run, trees_in}
use Rattle.tree_difference.specs.Rests.{last_runs}
use Rattle.tree_difference.specs.Walks.{AreSameTrees}
use Rattle.tree_difference.proofs.RestLemmas.{listed-rest, rest_by}
use Rattle.tree_difference.proofs.UnderwayLemmas.{IsUnderway, Progress, width}

weight-most : (b : Bool) → one_if b ≤ 1
weight-most true = omega arith
weight-most false = omega arith

count_of-most : (kind : Kind) (xs : List State) → count_of kind xs ≤ length xs
count_of-most kind [] = omega arith
count_of-most kind (x ∷ xs) = omega (arith, weight-most (is_state kind x), count_of-most kind xs)

-- a walk's cause is the comparison's
pub walk-comparison : (w : Walk) (d e d' e' : Device) (failed : Bool) (fault : DifferenceFault) → IsWalkCause w d e d' e' fault → IsComparisonCause w d e d' e' failed fault
walk-comparison w d e d' e' failed (Hash tree level number) h = h
walk-comparison w d e d' e' failed (Image tree f) h = h
walk-comparison w d e d' e' failed (Unaligned tree) h = absurd h
walk-comparison w d e d' e' failed (Unpinned tree mismatch) h = absurd h
walk-comparison w d e d' e' failed (Unlike f) h = absurd h
walk-comparison w d e d' e' failed NoMemory h = absurd h
walk-comparison w d e d' e' failed Write h = absurd h

pub top-is : (w0 w : Walk) (d e : Device) (at top : ℕ) → HaveTrees w0 d e → AreSameTrees w0 w → IsTopAt (per_block w.shape) w.levels at top → IsTopAt (width w0) w0.levels at top
top-is w0 w d e at top have trees is =
    subst (λ (n : ℕ). IsTopAt (width w0) n at top) trees.levels (subst (λ (s : ShapeRecord). IsTopAt (per_block s) w.levels at top) (trees.shape ∙ have.of.shape) is)

pub blocks-few : (w0 : Walk) (d e : Device) → HaveTrees w0 d e → w0.blocks ≤ 2 ^ 54
blocks-few w0 d e have = omega (arith, have.of.blocks, (blocks-le w0.first.shape have.first_valid).0)

module _ (w0 w : Walk) (d e : Device) (have : HaveTrees w0 d e) (i : DifferenceWorld) (most : Option ℕ) (g : Progress) (u : IsUnderway w0 w i most g) where
  pub changed-few : g.changed ≤ g.at
  changed-few = omega (arith, u.counted, u.here, count_of-most Changed u.compared)

  made : ℕ → ℕ → ℕ → ℕ → Totals
  made a b c x = record { same = a; changed = b; removed = c; added = x }

  totals-are : g.at ≡ w0.blocks → (totals : Totals) → totals ≡ record { same = w.blocks - g.changed; changed = g.changed; removed = w.first.shape.blocks - w.blocks; added = w.second.shape.blocks - w.blocks } → totals ≡ compared_totals (trees_in w0) u.compared
  unfolding made
  totals-are end totals is =
      let first : w.first.shape.blocks ≡ w0.first.shape.blocks = ap (λ (s : ShapeRecord). s.blocks) u.trees.first.shape_is in
      let second : w.second.shape.blocks ≡ w0.second.shape.blocks = ap (λ (s : ShapeRecord). s.blocks) u.trees.second.shape_is in
      let same : w.blocks - g.changed ≡ min w0.first.shape.blocks w0.second.shape.blocks - count_of Changed u.compared = omega (arith, u.trees.blocks, have.of.blocks, u.counted) in
      let removed : w.first.shape.blocks - w.blocks ≡ w0.first.shape.blocks - w0.second.shape.blocks = omega (arith, u.trees.blocks, have.of.blocks, first) in
      let added : w.second.shape.blocks - w.blocks ≡ w0.second.shape.blocks - w0.first.shape.blocks = omega (arith, u.trees.blocks, have.of.blocks, second) in
      is ∙ ap (λ (n : ℕ). made n g.changed (w.first.shape.blocks - w.blocks) (w.second.shape.blocks - w.blocks)) same
      ∙ ap (λ (n : ℕ). made (min w0.first.shape.blocks w0.second.shape.blocks - count_of Changed u.compared) n (w.first.shape.blocks - w.blocks) (w.second.shape.blocks - w.blocks)) u.counted
      ∙ ap (λ (n : ℕ). made (min w0.first.shape.blocks w0.second.shape.blocks - count_of Changed u.compared) (count_of Changed u.compared) n (w.second.shape.blocks - w.blocks)) removed
      ∙ ap (λ (n : ℕ). made (min w0.first.shape.blocks w0.second.shape.blocks - count_of Changed u.compared) (count_of Changed u.compared) (w0.first.shape.blocks - w0.second.shape.blocks) n) added

  -- which run comes last doesn't depend on the walk
  rest-same : rest_run w ≡ rest_by w0.blocks w0.first.shape.blocks w0.second.shape.blocks
  rest-same =
      ap (λ (b : ℕ). rest_by b w.first.shape.blocks w.second.shape.blocks) u.trees.blocks
      ∙ ap (λ (n : ℕ). rest_by w0.blocks n w.second.shape.blocks) (ap (λ (s : ShapeRecord). s.blocks) u.trees.first.shape_is)
      ∙ ap (rest_by w0.blocks w0.first.shape.blocks) (ap (λ (s : ShapeRecord). s.blocks) u.trees.second.shape_is)

  pub underway-all : g.at ≡ w0.blocks → (totals : Totals) → totals ≡ record { same = w.blocks - g.changed; changed = g.changed; removed = w.first.shape.blocks - w.blocks; added = w.second.shape.blocks - w.blocks }
      → (new : Option (List ℕ)) → Appends i.printed' new (limited_lines g.tally.limit (last_runs g.tally.last (rest_run w))) → Compares (trees_in w0) (record i { printed' = new }) most totals
  underway-all end totals is new told = record {
    compared = u.compared;
    count = sym u.here ∙ end ∙ have.of.blocks;
    seen = record { seen = u.seen.seen; stored = u.seen.stored };
    totals_are = totals-are end totals is;
    printed_are = listed-rest w0.blocks w0.first.shape.blocks w0.second.shape.blocks most u.compared g.tally i.printed i.printed' new have.of.blocks (sym u.here ∙ end) u.listed
        (subst (λ (r : Option (Run Kind)). Appends i.printed' new (limited_lines g.tally.limit (last_runs g.tally.last r))) rest-same told);
  }

  pub reads-all : (new : Option (List ℕ)) → ReadsDiffering (trees_in w0) (record i { printed' = new }) 0 0
  reads-all new = record {
    entries = u.entries;
    entered = u.entered;
    first_read = (let e : length u.entries * (w0.first.shape.hash_block / 512) ≡ 0 + length u.entries * (w0.first.shape.hash_block / 512) = omega arith in subst (λ (n : ℕ). IsFullRead i.first n i.first') e u.first_read);
    second_read = (let e : length u.entries * (w0.second.shape.hash_block / 512) ≡ 0 + length u.entries * (w0.second.shape.hash_block / 512) = omega arith in subst (λ (n : ℕ). IsFullRead i.second n i.second') e u.second_read);
  }

-- a subtree has a data block
pub span-some : (w0 : Walk) (d e : Device) (level count rest : ℕ) → HaveTrees w0 d e → count ≡ min (per_block w0.shape ^ level) rest → 1 ≤ rest → 1 ≤ count
span-some w0 d e level count rest have is some =
    let wide : 0 < per_block w0.shape = omega (arith, two w0.first.shape have.first_valid, ap per_block have.of.shape) in
    omega (arith, is, pow_pos (per_block w0.shape) level wide, some)
