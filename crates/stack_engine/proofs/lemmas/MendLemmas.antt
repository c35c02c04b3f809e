-- A block by its round: the sum of the other blocks, one after another, and of their parity.
use Rattle.std.proofs.Common.{◌≡◌, ℕ, zero, suc, ◌+◌, ◌-◌, ◌*◌, ◌/◌, ◌%◌, ◌<◌, ◌≤◌, Bool, cond, nat_eq, List, [], ◌∷◌, length, Option, Some, None, Ok, Err, refl, sym, ap, ◌∙◌, arith, inl, inr}
use Rattle.std.proofs.lemmas.Bool.{cases_Bool, cases_lt}
use Rattle.std.proofs.lemmas.Bool.Decides.{eqb_tells}
use Rattle.std.proofs.Math.Nat.{add-mul, mul-le-mul_right, mul_assoc, mul_comm}
use Rattle.block_device.specs.Device.{Device}
use Rattle.tree_shape.specs.Digests.{digest}
use Rattle.dm_table.specs.declared.parity.Parity.{Parity}
use Rattle.stack_rules.specs.Trees.{block_sectors, round_count, zero_block}
use Rattle.stack_meaning.specs.declared.fault.Fault.{Fault}
use Rattle.stack_meaning.specs.declared.fault.IoFault.{IoFault}
use Rattle.stack_meaning.specs.declared.fault.IoFault.TheVariants as io
use Rattle.stack_meaning.specs.Blocks.{checked}
use Rattle.stack_meaning.specs.Leaves.{steady_images, AreRead}
use Rattle.stack_meaning.specs.Outcomes.{Images, Outcome, mismatch, then_outcome}
use Rattle.stack_meaning.specs.Reading.{Gets, IsCertain}
use Rattle.stack_meaning.specs.Spares.{added_block, restored_block, round_block, round_parity, summed_blocks, with_parity}
use Rattle.stack_meaning.proofs.lemmas.CheckedLemmas.{checked-same}
use Rattle.stack_engine.proofs.HealLemmas.{checked-other}
use Rattle.stack_meaning.proofs.lemmas.LeafListLemmas.{AreRead-none, AreRead-then, AreRead-more, images-kept}
use Rattle.stack_meaning.proofs.lemmas.RunLemmas.{certain-for, fault_passes}
use Rattle.stack_lines.specs.Walks.{DataBlock, sources_of}
use Rattle.stack_engine.specs.Spares.{blocks_cost, only_expected, only_outcome, other_wanted, sector_cost, stored_wanted}

-- ---- sums

-- after a fault there are no sums
pub summed-stays : (first : List ℕ) (at : ℕ → Outcome) (fault : Fault) (m n : ℕ) → m ≤ n → summed_blocks first at m ≡ Err fault → summed_blocks first at n ≡ Err fault
unfolding summed_blocks
summed-stays first at fault m zero low is =
    let same : m ≡ 0 = omega (arith, low) in
    ap (λ (k : ℕ). summed_blocks first at k) (sym same) ∙ is
summed-stays first at fault m (suc n) low is = elim (cases_lt n m) [
  | inl last ↦
      let same : m ≡ suc n = omega (arith, last, low) in
      ap (λ (k : ℕ). summed_blocks first at k) (sym same) ∙ is
  | inr more ↦ ap (λ (x : Outcome). then_outcome x (λ sums. then_outcome (at n) (λ block. Ok (added_block sums block)))) (summed-stays first at fault m n more is)
]

summed-next : (first : List ℕ) (at : ℕ → Outcome) (m : ℕ) (sums : List ℕ) → summed_blocks first at m ≡ Ok sums → summed_blocks first at (suc m) ≡ then_outcome (at m) (λ block. Ok (added_block sums block))
unfolding summed_blocks
summed-next first at m sums is = ap (λ (x : Outcome). then_outcome x (λ sums. then_outcome (at m) (λ block. Ok (added_block sums block)))) is

summed-begin : (first : List ℕ) (at : ℕ → Outcome) → summed_blocks first at 0 ≡ Ok first
unfolding summed_blocks
summed-begin first at = refl

-- ---- the block

-- what makes it certain with one digest makes it so with any
only-sure : {b : DataBlock} {leaves : List Device} (expected : List ℕ) → IsCertain (only_expected b expected) leaves → IsCertain (only_expected b []) leaves
only-sure expected sure = record { steady = sure.steady; agrees = sure.agrees }

-- the other blocks at the first m positions of the round were added
pub record IsSummed (b : DataBlock) (q : Parity) (m : ℕ) (sums : List ℕ) (old new : List Device) : Type 0 where
  pub count : ℕ
  pub most : count ≤ m
  pub skipped : b.index / round_count q < m → count + 1 ≤ m
  pub moved : AreRead old (count * (block_sectors b.verity * sector_cost b)) new
  pub exact : IsCertain (only_expected b []) old → summed_blocks (zero_block b.verity) (round_block b.verity q (sources_of b (steady_images old)) (b.index % round_count q) (b.index / round_count q)) m ≡ Ok sums

module _ (b : DataBlock) (q : Parity) (has : b.verity.parity ≡ Some q) (some : 2 ≤ q.roots) (few : q.roots ≤ 24) (low : b.index / round_count q < 255 - q.roots) where
  abbrev at_images : Images → ℕ → Outcome
  at_images images = round_block b.verity q (sources_of b images) (b.index % round_count q) (b.index / round_count q)

  abbrev unit : ℕ
  unit = block_sectors b.verity * sector_cost b

  -- what 254 blocks cost
  unit-cost : (k : ℕ) → k ≤ 254 → k * unit ≤ (only_expected b []).cost
  unit-cost k most =
      let all : k * unit ≤ 254 * unit = mul-le-mul_right unit most in
      let is : (only_expected b []).cost ≡ 254 * unit = ap (λ (o : Option Parity). blocks_cost b o 254) has in
      omega (arith, all, is)

  stored-units : block_sectors b.verity * q.roots * sector_cost b ≡ q.roots * unit
  stored-units = ap (λ (k : ℕ). k * sector_cost b) (mul_comm (block_sectors b.verity) q.roots) ∙ mul_assoc q.roots (block_sectors b.verity) (sector_cost b)

  only-is : (images : Images) (expected : List ℕ) → only_outcome b.verity (sources_of b images) b.verity.parity b.index expected ≡ then_outcome (restored_block b.verity q (sources_of b images) b.index) (checked b.verity.salt expected)
  only-is images expected = ap (λ (o : Option Parity). only_outcome b.verity (sources_of b images) o b.index expected) has

  -- by what was summed
  only-summed : (images : Images) (expected : List ℕ) (x : Outcome) → summed_blocks (zero_block b.verity) (at_images images) (255 - q.roots) ≡ x
      → only_outcome b.verity (sources_of b images) b.verity.parity b.index expected
      ≡ then_outcome (then_outcome x (λ sums. then_outcome (round_parity b.verity q (sources_of b images) (b.index % round_count q)) (λ parity. Ok (with_parity q.roots sums parity)))) (checked b.verity.salt expected)
  only-summed images expected x is =
      only-is images expected
      ∙ ap (λ (y : Outcome). then_outcome (then_outcome y (λ sums. then_outcome (round_parity b.verity q (sources_of b images) (b.index % round_count q)) (λ parity. Ok (with_parity q.roots sums parity)))) (checked b.verity.salt expected)) is

  -- none of them yet
  pub summed-none : (leaves : List Device) → IsSummed b q 0 (zero_block b.verity) leaves leaves
  summed-none leaves = record {
    count = 0;
    most = omega arith;
    skipped = λ below. absurd (omega (arith, below));
    moved = AreRead-none _ leaves;
    exact = λ sure. summed-begin (zero_block b.verity) (at_images (steady_images leaves));
  }

  module _ {m : ℕ} {sums : List ℕ} {old mid : List Device} (p : IsSummed b q m sums old mid) where
    -- the sums go on with what is meant at the next position
    next-exact : IsCertain (only_expected b []) old → (x : Outcome) → (other_wanted b q m sums).means (steady_images mid) ≡ x → summed_blocks (zero_block b.verity) (at_images (steady_images old)) (suc m) ≡ x
    next-exact sure x is =
        let images : steady_images mid ≡ steady_images old = images-kept p.moved in
        summed-next (zero_block b.verity) (at_images (steady_images old)) m sums (p.exact sure)
        ∙ ap (λ (i : Images). then_outcome (at_images i m) (λ block. Ok (added_block sums block))) (sym images) ∙ is

    pub summed-more : {new : List Device} {added : List ℕ} → Gets (other_wanted b q m sums) mid new (Ok added) → IsSummed b q (suc m) added old new
    summed-more {new = new} {added = added} got = elim (eqb_tells m (b.index / round_count q)) [
      | inl lost ↦
          let none : (other_wanted b q m sums).cost ≡ 0 = ap (λ (t : Bool). cond t 0 unit) lost.0 in
          record {
            count = p.count;
            most = omega (arith, p.most);
            skipped = λ below. omega (arith, p.most);
            moved = AreRead-more (omega (arith, none)) (AreRead-then p.moved got.moved);
            exact = exact got;
          }
      | inr other ↦
          let one : (other_wanted b q m sums).cost ≡ unit = ap (λ (t : Bool). cond t 0 unit) other.0 in
          let more : (p.count + 1) * unit ≡ p.count * unit + 1 * unit = add-mul p.count 1 unit in
          record {
            count = p.count + 1;
            most = omega (arith, p.most);
            skipped = λ below. let before : b.index / round_count q < m = elim (cases_lt (b.index / round_count q) m) [ inl less ↦ less | inr past ↦ let same : m ≡ b.index / round_count q = omega (arith, past, below) in absurd (other.1 same) ] in omega (arith, p.skipped before);
            moved = AreRead-more (omega (arith, one, more)) (AreRead-then p.moved got.moved);
            exact = exact got;
          }
    ]
      where
        exact : Gets (other_wanted b q m sums) mid new (Ok added) → IsCertain (only_expected b []) old → summed_blocks (zero_block b.verity) (at_images (steady_images old)) (suc m) ≡ Ok added
        exact got sure = next-exact sure (Ok added) (got.exact (certain-for (other_wanted b q m sums) p.moved (λ i on. on) (λ meets. tt) (λ images agrees. agrees) sure))

    -- a block that can't be read
    pub summed-fails : {new : List Device} (expected : List ℕ) (fault : IoFault) → m < 255 - q.roots → Gets (other_wanted b q m sums) mid new (Err fault) → Gets (only_expected b expected) old new (Err fault)
    summed-fails expected fault inside got =
        let less : (other_wanted b q m sums).cost ≤ unit = elim (cases_Bool (nat_eq m (b.index / round_count q))) [
          | inl lost ↦ let none : (other_wanted b q m sums).cost ≡ 0 = ap (λ (t : Bool). cond t 0 unit) lost in omega (arith, none)
          | inr other ↦ let one : (other_wanted b q m sums).cost ≡ unit = ap (λ (t : Bool). cond t 0 unit) other in omega (arith, one)
        ] in
        let more : (p.count + 1) * unit ≡ p.count * unit + 1 * unit = add-mul p.count 1 unit in
        let most = unit-cost (p.count + 1) (omega (arith, p.most, inside, some)) in
        fault_passes {wanted = other_wanted b q m sums} {wanted' = only_expected b expected} fault got p.moved (omega (arith, less, more, most))
        (λ x meets. tt) (λ i on. on) (λ images agrees. agrees)
        (λ sure x is.
        only-summed (steady_images old) expected (Err x)
        (summed-stays (zero_block b.verity) (at_images (steady_images old)) x (suc m) (255 - q.roots) (omega (arith, inside)) (next-exact (only-sure expected sure) (Err x) is)))

  -- all of them
  module _ (expected : List ℕ) {sums : List ℕ} {m : ℕ} (all : m ≡ 255 - q.roots) {old mid : List Device} (p : IsSummed b q m sums old mid) where
    all-cost : p.count * unit + (stored_wanted b q sums).cost ≤ (only_expected b []).cost
    all-cost =
        let skipped = p.skipped (omega (arith, low, all)) in
        let more : (p.count + q.roots) * unit ≡ p.count * unit + q.roots * unit = add-mul p.count q.roots unit in
        let most = unit-cost (p.count + q.roots) (omega (arith, skipped, all, few)) in
        omega (arith, more, most, stored-units)

    end-exact : IsCertain (only_expected b expected) old → (x : Outcome) → (stored_wanted b q sums).means (steady_images mid) ≡ x → only_outcome b.verity (sources_of b (steady_images old)) b.verity.parity b.index expected ≡ then_outcome x (checked b.verity.salt expected)
    end-exact sure x is =
        let images : steady_images mid ≡ steady_images old = images-kept p.moved in
        only-summed (steady_images old) expected (Ok sums) (ap (λ (k : ℕ). summed_blocks (zero_block b.verity) (at_images (steady_images old)) k) (sym all) ∙ p.exact (only-sure expected sure))
        ∙ ap (λ (y : Outcome). then_outcome y (checked b.verity.salt expected)) (ap (λ (i : Images). (stored_wanted b q sums).means i) (sym images) ∙ is)

    pub stored-fails : {new : List Device} (fault : IoFault) → Gets (stored_wanted b q sums) mid new (Err fault) → Gets (only_expected b expected) old new (Err fault)
    stored-fails fault got =
        fault_passes {wanted = stored_wanted b q sums} {wanted' = only_expected b expected} fault got p.moved all-cost
        (λ x meets. tt) (λ i on. on) (λ images agrees. agrees) (λ sure x is. end-exact sure (Err x) is)

    -- it has the digest
    pub only-ends : {new : List Device} {bytes : List ℕ} → Gets (stored_wanted b q sums) mid new (Ok bytes) → length bytes ≡ 512 * block_sectors b.verity → digest b.verity.salt bytes ≡ expected
        → Gets (only_expected b expected) old new (Ok bytes)
    only-ends {bytes = bytes} got len good = record {
      moved = AreRead-more all-cost (AreRead-then p.moved got.moved);
      may = (len, good);
      exact = λ sure. end-exact sure (Ok bytes) (got.exact (certain-for (stored_wanted b q sums) p.moved (λ i on. on) (λ meets. tt) (λ images agrees. agrees) sure)) ∙ checked-same b.verity.salt expected bytes good;
    }

    -- it has another one
    pub only-differs : {new : List Device} {bytes : List ℕ} → Gets (stored_wanted b q sums) mid new (Ok bytes) → (digest b.verity.salt bytes ≡ expected → ⊥)
        → Gets (only_expected b expected) old new (Err (io.Stack mismatch))
    only-differs {bytes = bytes} got other = record {
      moved = AreRead-more all-cost (AreRead-then p.moved got.moved);
      may = tt;
      exact = λ sure. end-exact sure (Ok bytes) (got.exact (certain-for (stored_wanted b q sums) p.moved (λ i on. on) (λ meets. tt) (λ images agrees. agrees) sure)) ∙ checked-other b.verity.salt expected bytes other;
    }

-- without parity there is none
pub only-none : (b : DataBlock) (expected : List ℕ) (leaves : List Device) → b.verity.parity ≡ None → Gets (only_expected b expected) leaves leaves (Err (io.Stack mismatch))
only-none b expected leaves none = record {
  moved = AreRead-none _ leaves;
  may = tt;
  exact = λ sure. ap (λ (o : Option Parity). only_outcome b.verity (sources_of b (steady_images leaves)) o b.index expected) none;
}
