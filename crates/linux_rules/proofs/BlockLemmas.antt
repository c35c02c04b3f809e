-- Logical blocks, from the devices of the lowest depth up.
use Rattle.std.proofs.Common.{◌≡◌, ◌+◌, ◌≤◌, ◌<◌, ℕ, max, List, [], ◌∷◌, ◌++◌, refl, sym, ap, ◌∙◌, length, take, slice_index, arith, length-set}
use Rattle.std.specs.Prelude.{slice_set}
use Rattle.std.specs.List.{AllByRecursion}
use Rattle.std.proofs.Math.Decide.{dec_le}
use Rattle.std.proofs.lemmas.List.{get_or-set_same, get_or-set_other, get_or_past}
use Rattle.std.proofs.Math.Seq.{take-append_seam}
use Rattle.dm_table.specs.declared.table.Target.TheVariants.{Verity as verity_target}
use Rattle.stack_rules.specs.declared.lower.Lower.{Lower}
use Rattle.stack_rules.specs.declared.lower.Lower.TheVariants.{Leaf as leaf, Device as device}
use Rattle.stack_rules.specs.Records.{Configuration}
use Rattle.stack_rules.specs.Names.{mapped, names, lowers_of, lines_of}
use Rattle.stack_rules.specs.Descend.{depth, descend, cost_rule, greatest}
use Rattle.stack_rules.specs.Rules.{IsValid, most_depth}
use Rattle.stack_rules.proofs.lemmas.UnrollLemmas.{turn, falls-at}
use Rattle.stack_rules.proofs.lemmas.CostRuleLemmas.{IsLineLocal, costs-same, cost_rule-local, cost-rule}
use Rattle.stack_rules.proofs.lemmas.LowerLemmas.{IsInside, lowers-inside}
use Rattle.stack_rules.proofs.lemmas.ValidLemmas.{depth-low, past_end}
use Rattle.linux_rules.specs.Blocks.{line_block, logical_block, unit_block, data_block, table_block, block_in, AreBlocks}

line_block-local : IsLineLocal line_block
line_block-local cost other (verity_target line) all = rw all.0 refl
line_block-local cost other target all = ap (λ costs. max (max (greatest costs) 1) (max (unit_block target) (data_block target))) (costs-same cost other (names target) all)

both : {X : Type 0} (P Q R : X → Type 0) → ((x : X) → P x → Q x → R x) → (xs : List X) → AllByRecursion P xs → AllByRecursion Q xs → AllByRecursion R xs
both P Q R f [] p q = tt
both P Q R f (x ∷ xs) p q = (f x p.0 q.0, both P Q R f xs p.1 q.1)

pub taken : {X : Type 0} (n : ℕ) (xs ys : List X) → length xs ≡ n → take n (xs ++ ys) ≡ xs
taken n xs ys is = ap (λ n. take n (xs ++ ys)) (sym is) ∙ take-append_seam xs ys

-- no device has depth 0
pub blocks-none : (c : Configuration) (blocks : List ℕ) → AreBlocks c 0 blocks
unfolding descend
blocks-none c blocks = λ d low less. absurd (omega (arith, less))

logical-leaf : (c : Configuration) (i : ℕ) → logical_block c (leaf i) ≡ 1
unfolding descend
logical-leaf c i = refl

logical-past : (c : Configuration) (d : ℕ) → length c.devices ≤ d → logical_block c (mapped d) ≡ 0
unfolding descend
logical-past c d past = rw (past_end d c.devices past) refl

-- what a loop over the devices has made: the blocks of depth k, and of depth k + 1 those of the first i
pub record SettlesSoFar (c : Configuration) (k i : ℕ) (blocks : List ℕ) : Type 0 where
  pub below : AreBlocks c k blocks
  pub done : (d : ℕ) → d < i → d < length blocks → depth c (mapped d) ≤ k + 1 → slice_index blocks d ≡ logical_block c (mapped d)

pub settles_none : (c : Configuration) (k : ℕ) (blocks : List ℕ) → AreBlocks c k blocks → SettlesSoFar c k 0 blocks
settles_none c k blocks are = record { below = are; done = λ d low. absurd (omega (arith, low)) }

pub settles_all : (c : Configuration) (k i : ℕ) (blocks : List ℕ) → length blocks ≤ i → SettlesSoFar c k i blocks → AreBlocks c (k + 1) blocks
settles_all c k i blocks past so-far = λ d low deep. so-far.done d (omega (arith, low, past)) low deep

module _ (c : Configuration) (valid : IsValid c) where
  shallow : (x : Lower) → depth c x ≤ most_depth
  shallow x = depth-low c valid x

  -- a device's block, where those of the devices beneath are known
  block-of : (k d : ℕ) (blocks : List ℕ) → length blocks ≡ length c.devices → AreBlocks c k blocks → depth c (mapped d) ≤ k + 1 → table_block c (block_in blocks) (lines_of c d) ≡ logical_block c (mapped d)
  block-of k d blocks count are deep =
      cost_rule-local c line_block line_block-local (block_in blocks) (logical_block c) (mapped d)
      (turn (λ y both. at y both.0 both.1) (lowers_of c (mapped d))
      (both (λ y. depth c y < depth c (mapped d)) (IsInside c) (λ y. (depth c y < depth c (mapped d)) × IsInside c y) (λ y p q. (p, q)) (lowers_of c (mapped d))
      (falls-at c (λ x. let low = shallow x in omega (arith, low)) (mapped d)) (lowers-inside c d)))
      ∙ sym (cost-rule c line_block line_block-local shallow (mapped d))
    where
      at : (y : Lower) → depth c y < depth c (mapped d) → IsInside c y → block_in blocks y ≡ logical_block c y
      at (leaf i) less inside = sym (logical-leaf c i)
      at (device e) less inside = are e.0 (omega (arith, inside, count)) (omega (arith, less, deep))

  pub settles_more : (k i value : ℕ) (blocks : List ℕ) → length blocks ≡ length c.devices → i < length blocks → value ≡ table_block c (block_in blocks) (lines_of c i)
      → SettlesSoFar c k i blocks → SettlesSoFar c k (i + 1) (slice_set blocks i value)
  settles_more k i value blocks count inside is so-far = record {
    below = λ d low deep. at d (omega (arith, deep)) (λ other. so-far.below d (omega (arith, low, length-set {A = ℕ} blocks i value)) deep);
    done = λ d first low deep. at d deep (λ other. so-far.done d (omega (arith, first, other)) (omega (arith, low, length-set {A = ℕ} blocks i value)) deep);
  }
    where
      at : (d : ℕ) → depth c (mapped d) ≤ k + 1 → ((d ≡ i → ⊥) → slice_index blocks d ≡ logical_block c (mapped d)) → slice_index (slice_set blocks i value) d ≡ logical_block c (mapped d)
      at d deep other = go (dec_le i d) (dec_le d i)
        where
          apart : (d ≡ i → ⊥) → slice_index (slice_set blocks i value) d ≡ logical_block c (mapped d)
          apart differ = get_or-set_other blocks i d value 0 differ ∙ other differ

          go : Dec (i ≤ d) → Dec (d ≤ i) → slice_index (slice_set blocks i value) d ≡ logical_block c (mapped d)
          go (yes after) (yes before) =
              let same : i ≡ d = omega (arith, after, before) in
              ap (λ d. slice_index (slice_set blocks i value) d) (sym same) ∙ get_or-set_same blocks i value 0 inside ∙ is
              ∙ ap (λ d. table_block c (block_in blocks) (lines_of c d)) same ∙ block-of k d blocks count so-far.below deep
          go (no less) before = apart (λ same. less (omega (arith, same)))
          go after (no more) = apart (λ same. more (omega (arith, same)))

  -- all blocks
  pub blocks-all : (k : ℕ) (blocks : List ℕ) → length blocks ≡ length c.devices → most_depth ≤ k → AreBlocks c k blocks → (x : Lower) → block_in blocks x ≡ logical_block c x
  blocks-all k blocks count deep are (leaf i) = sym (logical-leaf c i)
  blocks-all k blocks count deep are (device d) = go (dec_le (length blocks) d.0)
    where
      go : Dec (length blocks ≤ d.0) → block_in blocks (device d) ≡ logical_block c (device d)
      go (yes past) = get_or_past blocks d.0 0 past ∙ sym (logical-past c d.0 (omega (arith, past, count)))
      go (no inside) = are d.0 (grind (arith, inside)) (let low = shallow (mapped d.0) in omega (arith, low, deep))
