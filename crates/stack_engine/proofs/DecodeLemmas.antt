-- The lost blocks of a round as erasures: what is read of the others and of the parity.
use Rattle.std.proofs.Common.{◌≡◌, ℕ, zero, suc, ◌+◌, ◌-◌, ◌*◌, ◌/◌, ◌%◌, ◌<◌, ◌≤◌, Bool, true, false, ◌&&◌, cond, nat_eq, nat_lt, List, length, Option, Some, None, Result, Ok, Err, inl, inr, refl, sym, ap, ◌∙◌, arith, subst}
use Rattle.std.specs.Prelude.{slice_index, option_map}
use Rattle.std.specs.Str.{bytes_eq}
use Rattle.std.proofs.lemmas.Bool.{and_parts, cases_Bool}
use Rattle.std.proofs.lemmas.Bool.Decides.{eqb_tells}
use Rattle.std.proofs.lemmas.Slice.Eq.{bytes_eq-Decides}
use Rattle.std.proofs.Math.Nat.{add-mul, mul-le-mul_left, mul-le-mul_right, mul_assoc, mul_comm}
use Rattle.block_device.specs.Device.{Device}
use Rattle.tree_shape.specs.Digests.{digest}
use Rattle.dm_table.specs.declared.parity.Parity.{Parity}
use Rattle.dm_table.specs.declared.verity.Verity.{Verity}
use Rattle.stack_rules.specs.Descend.{read_cost}
use Rattle.stack_rules.specs.Records.{Configuration}
use Rattle.stack_rules.specs.Rules.{IsLoaded}
use Rattle.stack_rules.specs.Trees.{block_sectors, round_count, zero_block}
use Rattle.stack_meaning.specs.declared.fault.Fault.{Fault}
use Rattle.stack_meaning.specs.declared.fault.IoFault.{IoFault}
use Rattle.stack_meaning.specs.declared.fault.IoFault.TheVariants as io
use Rattle.stack_meaning.specs.Erasures.{is_among, kept_block}
use Rattle.stack_meaning.specs.Leaves.{steady_images, AreRead}
use Rattle.stack_meaning.specs.Outcomes.{Images, Outcome, mismatch, span, then_outcome}
use Rattle.stack_meaning.specs.Places.{Place, place_of, run_expected}
use Rattle.stack_meaning.specs.Reading.{Gets, IsCertain}
use Rattle.stack_meaning.specs.Spares.{covered_block, parity_start, place_number, round_block, round_parity}
use Rattle.stack_meaning.proofs.lemmas.DecodedLemmas.{index-among}
use Rattle.stack_meaning.proofs.lemmas.LeafListLemmas.{AreRead-none, AreRead-then, AreRead-more, images-kept}
use Rattle.stack_meaning.proofs.lemmas.RunLemmas.{certain-for, fault_passes}
use Rattle.stack_lines.specs.declared.tree.Extent.{Extent}
use Rattle.stack_lines.specs.declared.tree.Tree.{Tree}
use Rattle.stack_lines.specs.Walks.{AgreesAt, DataBlock, IsBlockOfDigest, IsTreeOf, block_in, block_leaves, sources_of}
use Rattle.stack_lines.proofs.lemmas.VerityLineLemmas.{parity-place}
use Rattle.stack_engine.specs.declared.spare.Stored.{Stored}
use Rattle.stack_engine.specs.Bytes.{GetsBytes}
use Rattle.stack_engine.specs.Erasures.{LossRecord, added_columns, added_parity, are_whole, column, decoded_columns, first_whole, no_columns, summed_columns}
use Rattle.stack_engine.specs.SectorCalls.{other_at, place_in}
use Rattle.stack_engine.specs.Spares.{AreLossesOf, IsStoredAt, IsSure, block_cost, block_wanted, columns_wanted, decoded_wanted, kept_wanted, restored_wanted, sector_cost}
use Rattle.stack_engine.proofs.ColumnSumLemmas.{columns-zeros, summed-begin, summed-failed, summed-next}
use Rattle.stack_engine.proofs.JudgeLemmas.{certain-sure, sure-for}
use Rattle.stack_engine.proofs.lemmas.RoundLemmas.{extent_means, other-means, other-of, parity-of}

-- ---- the sums

-- the blocks at the first m positions that aren't lost were added
pub record AreSummed (b : DataBlock) (q : Parity) (places : List ℕ) (m : ℕ) (sums : List ℕ) (old new : List Device) : Type 0 where
  pub moved : AreRead old (m * block_cost b) new
  pub exact : IsSure b old → summed_columns b.verity q (sources_of b (steady_images old)) (b.index % round_count q) places m ≡ Ok sums

pub sums-begin : (b : DataBlock) (q : Parity) (places : List ℕ) (leaves : List Device) → AreSummed b q places 0 (no_columns b.verity.data_block places) leaves leaves
sums-begin b q places leaves = record { moved = AreRead-none _ leaves; exact = λ sure. summed-begin b.verity q (sources_of b (steady_images leaves)) (b.index % round_count q) places }

module _ (b : DataBlock) (q : Parity) (few : q.roots ≤ 24) (places : List ℕ) {m : ℕ} {sums : List ℕ} {old mid : List Device} (p : AreSummed b q places m sums old mid) where
  abbrev columns_at : Images → ℕ → Outcome
  columns_at images = summed_columns b.verity q (sources_of b images) (b.index % round_count q) places

  abbrev whole_means : Images → Outcome
  whole_means images = decoded_columns b.verity q (sources_of b images) (b.index % round_count q) places

  next-means : IsSure b old → (x : Outcome) → (kept_wanted b q places m sums).means (steady_images mid) ≡ x → columns_at (steady_images old) (suc m) ≡ x
  next-means sure x is =
      summed-next b.verity q (sources_of b (steady_images old)) (b.index % round_count q) places m sums (p.exact sure)
      ∙ ap (λ (i : Images). (kept_wanted b q places m sums).means i) (sym (images-kept p.moved)) ∙ is

  pub sums-more : {new : List Device} {added : List ℕ} → Gets (kept_wanted b q places m sums) mid new (Ok added) → AreSummed b q places (suc m) added old new
  sums-more {added = added} got =
      let all : (m + 1) * block_cost b ≡ m * block_cost b + 1 * block_cost b = add-mul m 1 (block_cost b) in
      let next : suc m ≡ m + 1 = omega arith in
      record {
        moved = AreRead-more (omega (arith, all, ap (λ k. k * block_cost b) next)) (AreRead-then p.moved got.moved);
        exact = λ sure. next-means sure (Ok added) (got.exact (sure-for b (kept_wanted b q places m sums) p.moved (λ i on. on) (λ images all. all) sure));
      }

  decoded-sure : {leaves : List Device} → IsCertain (decoded_wanted b q places) leaves → IsSure b leaves
  decoded-sure sure = certain-sure b (λ bytes. Unit {0}) (255 * block_cost b) whole_means sure

  -- a block that can't be read
  pub sums-stop : {new : List Device} (fault : IoFault) → m < 255 - q.roots → Gets (kept_wanted b q places m sums) mid new (Err fault) → Gets (decoded_wanted b q places) old new (Err fault)
  sums-stop fault low got =
      let up : (m + 1) * block_cost b ≤ 255 * block_cost b = mul-le-mul_right (block_cost b) (omega (arith, low)) in
      let all : (m + 1) * block_cost b ≡ m * block_cost b + 1 * block_cost b = add-mul m 1 (block_cost b) in
      let rest : 255 - q.roots - suc m + suc m ≡ 255 - q.roots = omega (arith, low) in
      fault_passes {wanted = kept_wanted b q places m sums} {wanted' = decoded_wanted b q places} fault got p.moved (omega (arith, up, all))
      (λ x meets. tt) (λ i on. on) (λ images agrees. agrees)
      (λ sure x is.
      let failed = summed-failed b.verity q (sources_of b (steady_images old)) (b.index % round_count q) places (suc m) (255 - q.roots - suc m) x (next-means (decoded-sure sure) (Err x) is) in
      ap (λ (o : Outcome). then_outcome o (λ sums. then_outcome (round_parity b.verity q (sources_of b (steady_images old)) (b.index % round_count q)) (λ parity. Ok (added_parity places q.roots b.verity.data_block parity sums))))
      (ap (columns_at (steady_images old)) (sym rest) ∙ failed))

  -- all of them, and then the parity
  module _ (all : m ≡ 255 - q.roots) where
    end-means : IsSure b old → (x : Outcome) → (columns_wanted b q places sums).means (steady_images mid) ≡ x → whole_means (steady_images old) ≡ x
    end-means sure x is =
        ap (λ (o : Outcome). then_outcome o (λ sums. then_outcome (round_parity b.verity q (sources_of b (steady_images old)) (b.index % round_count q)) (λ parity. Ok (added_parity places q.roots b.verity.data_block parity sums))))
        (ap (columns_at (steady_images old)) (sym all) ∙ p.exact sure)
        ∙ ap (λ (i : Images). (columns_wanted b q places sums).means i) (sym (images-kept p.moved)) ∙ is

    end-cost : m * block_cost b + q.roots * block_cost b ≤ 255 * block_cost b
    end-cost =
        let up : (m + q.roots) * block_cost b ≤ 255 * block_cost b = mul-le-mul_right (block_cost b) (omega (arith, all, few)) in
        omega (arith, up, add-mul m q.roots (block_cost b))

    pub sums-end : {new : List Device} (result : Result (List ℕ) IoFault) → Gets (columns_wanted b q places sums) mid new result → Gets (decoded_wanted b q places) old new result
    sums-end (Ok x) got = record {
      moved = AreRead-more end-cost (AreRead-then p.moved got.moved);
      may = tt;
      exact = λ sure. end-means (decoded-sure sure) (Ok x) (got.exact (sure-for b (columns_wanted b q places sums) p.moved (λ i on. on) (λ images all. all) (decoded-sure sure)));
    }
    sums-end (Err fault) got =
        fault_passes {wanted = columns_wanted b q places sums} {wanted' = decoded_wanted b q places} fault got p.moved end-cost (λ x meets. tt) (λ i on. on) (λ images agrees. agrees) (λ sure x is. end-means (decoded-sure sure) (Err x) is)

-- ---- the block

module _ (b : DataBlock) (q : Parity) (l : LossRecord) (expected : List ℕ) where
  abbrev restored_means : Images → Outcome
  restored_means images = then_outcome (decoded_columns b.verity q (sources_of b images) (b.index % round_count q) l.places) (first_whole b.verity l expected)

  restored-sure : {leaves : List Device} → IsCertain (restored_wanted b q l expected) leaves → IsCertain (decoded_wanted b q l.places) leaves
  restored-sure sure = record { steady = sure.steady; agrees = sure.agrees }

  pub restored-fails : {old new : List Device} (fault : IoFault) → Gets (decoded_wanted b q l.places) old new (Err fault) → Gets (restored_wanted b q l expected) old new (Err fault)
  restored-fails {old = old} fault got =
      fault_passes {wanted = decoded_wanted b q l.places} {wanted' = restored_wanted b q l expected} fault got (AreRead-none 0 old) (omega arith) (λ x meets. tt) (λ i on. on) (λ images agrees. agrees)
      (λ sure x is. ap (λ (o : Outcome). then_outcome o (first_whole b.verity l expected)) is)

  module _ {old new : List Device} {sums : List ℕ} (got : Gets (decoded_wanted b q l.places) old new (Ok sums)) where
    restored-by : IsCertain (restored_wanted b q l expected) old → (t : Bool) → are_whole b.verity l expected sums ≡ t → restored_means (steady_images old) ≡ cond t (Ok (column b.verity.data_block sums 0)) (Err mismatch)
    restored-by sure t e = ap (λ (o : Outcome). then_outcome o (first_whole b.verity l expected)) (got.exact (restored-sure sure)) ∙ ap (λ u. cond u (Ok (column b.verity.data_block sums 0)) (Err mismatch)) e

    pub restored-whole : are_whole b.verity l expected sums ≡ true → length (column b.verity.data_block sums 0) ≡ 512 * block_sectors b.verity → Gets (restored_wanted b q l expected) old new (Ok (column b.verity.data_block sums 0))
    restored-whole whole len = record {
      moved = got.moved;
      may = (len, (bytes_eq-Decides (digest b.verity.salt (column b.verity.data_block sums 0)) expected).0 (and_parts (bytes_eq (digest b.verity.salt (column b.verity.data_block sums 0)) expected) _ whole).0);
      exact = λ sure. restored-by sure true whole;
    }

    pub restored-differs : are_whole b.verity l expected sums ≡ false → Gets (restored_wanted b q l expected) old new (Err (io.Stack mismatch))
    restored-differs other = record { moved = got.moved; may = tt; exact = λ sure. restored-by sure false other }

-- ---- what is read

-- a position that isn't lost isn't the block's own
pub kept-apart : (v : Verity) (q : Parity) (j : ℕ) (l : LossRecord) (i : ℕ) → AreLossesOf v j l → v.parity ≡ Some q → is_among l.places i ≡ false → nat_eq i (j / round_count q) ≡ false
kept-apart v q j l i losses has kept = elim (eqb_tells i (j / round_count q)) [
  | inl same ↦
      let own : slice_index l.places 0 ≡ i = losses.own q has ∙ sym same.1 in
      let clash : true ≡ false = sym (index-among l.places 0 losses.some) ∙ ap (λ x. is_among l.places x) own ∙ kept in
      cc
  | inr other ↦ other.0
]

module _ (c : Configuration) (v : Verity) (tree : Tree) (loaded : IsLoaded c) (is : IsTreeOf c v tree) (index : ℕ) (q : Parity) where
  abbrev b : DataBlock
  b = block_in c v index

  module _ (places : List ℕ) (i : ℕ) (sums : List ℕ) where
    -- a lost one is zeros
    pub kept-lost : (leaves : List Device) → is_among places i ≡ true → Gets (kept_wanted b q places i sums) leaves leaves (Ok sums)
    kept-lost leaves lost = record {
      moved = AreRead-none _ leaves;
      may = tt;
      exact = λ sure.
          ap (λ (t : Bool). then_outcome (cond t (Ok (zero_block v)) (cond (nat_lt (place_number q (index % round_count q) i) q.blocks) (covered_block v (sources_of b (steady_images leaves)) (place_number q (index % round_count q) i)) (Ok (zero_block v)))) (λ block. Ok (added_columns v.data_block places i block sums))) lost
          ∙ ap Ok (columns-zeros v.data_block places i v.data_block sums);
    }

    module _ (kept : is_among places i ≡ false) (apart : nat_eq i (index / round_count q) ≡ false) where
      -- another is what is stored there
      kept-means : (images : Images) → kept_block v q (sources_of b images) (index % round_count q) places i ≡ extent_means c v (other_at (place_in v tree index) q i) images
      kept-means images =
          let other : Outcome = cond (nat_lt (place_number q (index % round_count q) i) q.blocks) (covered_block v (sources_of b images) (place_number q (index % round_count q) i)) (Ok (zero_block v)) in
          ap (λ (t : Bool). cond t (Ok (zero_block v)) other) kept
          ∙ sym (ap (λ (t : Bool). cond t (Ok (zero_block v)) other) apart)
          ∙ other-means c v tree loaded is index q i images

      pub kept-none : (leaves : List Device) → other_at (place_in v tree index) q i ≡ None → Gets (kept_wanted b q places i sums) leaves leaves (Ok sums)
      kept-none leaves none = record {
        moved = AreRead-none _ leaves;
        may = tt;
        exact = λ sure.
            ap (λ (x : Outcome). then_outcome x (λ block. Ok (added_columns v.data_block places i block sums))) (kept-means (steady_images leaves) ∙ ap (λ (o : Option Extent). extent_means c v o (steady_images leaves)) none)
            ∙ ap Ok (columns-zeros v.data_block places i v.data_block sums);
      }

      module _ (e : Extent) (at : other_at (place_in v tree index) q i ≡ Some e) (n : ℕ) (count : n ≡ e.sectors) where
        kept-cost : n * read_cost c e.lower ≤ block_cost b
        kept-cost =
            let of = other-of c v tree loaded is index q i e at in
            let same : n ≡ block_sectors v = count ∙ of.1 in
            let less : n * read_cost c e.lower ≤ n * sector_cost b = mul-le-mul_left n of.2.cost in
            let more : n * sector_cost b ≡ block_cost b = ap (λ k. k * sector_cost b) same in
            omega (arith, less, more)

        kept-exact : (images : Images) (x : Outcome) → span (λ s. ((place_of c e.lower).said s).means images) e.first n ≡ x → (kept_wanted b q places i sums).means images ≡ then_outcome x (λ block. Ok (added_columns v.data_block places i block sums))
        kept-exact images x got =
            ap (λ (y : Outcome). then_outcome y (λ block. Ok (added_columns v.data_block places i block sums)))
            (kept-means images ∙ ap (λ (o : Option Extent). extent_means c v o images) at ∙ ap (λ k. span (λ s. ((place_of c e.lower).said s).means images) e.first k) (sym count) ∙ got)

        pub kept-read : {old new : List Device} {block : List ℕ} → GetsBytes c e.lower e.first n old new (Ok block) → Gets (kept_wanted b q places i sums) old new (Ok (added_columns v.data_block places i block sums))
        kept-read {old = old} {block = block} gets = record {
          moved = AreRead-more kept-cost gets.got.moved;
          may = tt;
          exact = λ sure. kept-exact (steady_images old) (Ok block)
              (gets.got.exact (certain-for (run_expected (place_of c e.lower) gets.chains e.first n) {wanted' = kept_wanted b q places i sums} (AreRead-none 0 old) (other-of c v tree loaded is index q i e at).2.leaves (λ meets. tt) (other-of c v tree loaded is index q i e at).2.agrees sure));
        }

        pub kept-unread : {old new : List Device} (fault : IoFault) → GetsBytes c e.lower e.first n old new (Err fault) → Gets (kept_wanted b q places i sums) old new (Err fault)
        kept-unread {old = old} fault gets =
            fault_passes {wanted = run_expected (place_of c e.lower) gets.chains e.first n} {wanted' = kept_wanted b q places i sums} fault gets.got (AreRead-none 0 old) (omega (arith, kept-cost))
            (λ x meets. tt) (other-of c v tree loaded is index q i e at).2.leaves (other-of c v tree loaded is index q i e at).2.agrees (λ sure x is. kept-exact (steady_images old) (Err x) is)

  -- the parity of the round
  module _ (places sums : List ℕ) (at : Stored) (stored : IsStoredAt c (place_in v tree index) q at) (n : ℕ) (count : n ≡ at.sectors) where
    columns-cost : n * read_cost c at.lower ≤ q.roots * block_cost b
    columns-cost =
        let same : n ≡ block_sectors v * q.roots = count ∙ stored.sectors in
        let less : n * read_cost c at.lower ≤ n * sector_cost b = mul-le-mul_left n (parity-of c v tree loaded is index at.lower stored.on).cost in
        let more : n * sector_cost b ≡ q.roots * block_cost b = ap (λ k. k * sector_cost b) (same ∙ mul_comm (block_sectors v) q.roots) ∙ mul_assoc q.roots (block_sectors v) (sector_cost b) in
        omega (arith, less, more)

    columns-exact : (images : Images) (x : Outcome) → span (λ s. ((place_of c at.lower).said s).means images) at.first n ≡ x → (columns_wanted b q places sums).means images ≡ then_outcome x (λ parity. Ok (added_parity places q.roots v.data_block parity sums))
    columns-exact images x got =
        let same : b.on_parity ≡ place_of c at.lower = parity-place c v tree is at.lower stored.on in
        ap (λ (y : Outcome). then_outcome y (λ parity. Ok (added_parity places q.roots v.data_block parity sums)))
        (ap (λ (p : Place). span (λ s. (p.said s).means images) (parity_start v q (index % round_count q)) (block_sectors v * q.roots)) same
        ∙ ap (λ k. span (λ s. ((place_of c at.lower).said s).means images) k (block_sectors v * q.roots)) (sym stored.first)
        ∙ ap (λ k. span (λ s. ((place_of c at.lower).said s).means images) at.first k) (sym (count ∙ stored.sectors)) ∙ got)

    pub columns-read : {old new : List Device} {parity : List ℕ} → GetsBytes c at.lower at.first n old new (Ok parity) → Gets (columns_wanted b q places sums) old new (Ok (added_parity places q.roots v.data_block parity sums))
    columns-read {old = old} {parity = parity} gets = record {
      moved = AreRead-more columns-cost gets.got.moved;
      may = tt;
      exact = λ sure. columns-exact (steady_images old) (Ok parity)
          (gets.got.exact (certain-for (run_expected (place_of c at.lower) gets.chains at.first n) {wanted' = columns_wanted b q places sums} (AreRead-none 0 old) (parity-of c v tree loaded is index at.lower stored.on).leaves (λ meets. tt) (parity-of c v tree loaded is index at.lower stored.on).agrees sure));
    }

    pub columns-unread : {old new : List Device} (fault : IoFault) → GetsBytes c at.lower at.first n old new (Err fault) → Gets (columns_wanted b q places sums) old new (Err fault)
    columns-unread {old = old} fault gets =
        fault_passes {wanted = run_expected (place_of c at.lower) gets.chains at.first n} {wanted' = columns_wanted b q places sums} fault gets.got (AreRead-none 0 old) (omega (arith, columns-cost))
        (λ x meets. tt) (parity-of c v tree loaded is index at.lower stored.on).leaves (parity-of c v tree loaded is index at.lower stored.on).agrees (λ sure x is. columns-exact (steady_images old) (Err x) is)
