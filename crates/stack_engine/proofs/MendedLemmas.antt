-- The spare of a block: the reads that restore it, as the only lost one of its round or by erasures.
use Rattle.std.proofs.Common.{◌≡◌, ℕ, suc, ◌+◌, ◌-◌, ◌*◌, ◌/◌, ◌%◌, ◌<◌, ◌≤◌, Bool, true, false, cond, List, [], ◌∷◌, length, Option, Some, None, Result, Ok, Err, inl, inr, refl, sym, ap, ◌∙◌, arith, subst}
use Rattle.std.specs.Prelude.{is_some}
use Rattle.std.proofs.Math.Nat.{add-mul, mul-le-mul_right, mul_assoc}
use Rattle.block_device.specs.Device.{Device}
use Rattle.tree_shape.specs.Digests.{digest}
use Rattle.tree_shape.specs.Shape.{IsShape, levels}
use Rattle.dm_table.specs.declared.parity.Parity.{Parity}
use Rattle.dm_table.specs.declared.verity.Verity.{Verity}
use Rattle.stack_rules.specs.Trees.{block_sectors, path_blocks, round_count, tree_of}
use Rattle.stack_meaning.specs.declared.fault.Fault.{Fault}
use Rattle.stack_meaning.specs.declared.fault.IoFault.{IoFault}
use Rattle.stack_meaning.specs.declared.fault.IoFault.TheVariants as io
use Rattle.stack_meaning.specs.Checked.{checked}
use Rattle.stack_meaning.specs.Erasures.{covered_spare, erasure_spare, erasures_by, round_losses}
use Rattle.stack_meaning.specs.Leaves.{steady_images, AreRead}
use Rattle.stack_meaning.specs.Outcomes.{Images, Outcome, mismatch, then_outcome}
use Rattle.stack_meaning.specs.Places.{Expected}
use Rattle.stack_meaning.specs.Reading.{Gets, IsCertain}
use Rattle.stack_meaning.specs.Spares.{BlockSources, healed_outcome, restored_block, spare_block, verified_blocks}
use Rattle.stack_meaning.proofs.lemmas.CheckedLemmas.{checked-digest, checked-is, then-parts}
use Rattle.stack_meaning.proofs.lemmas.ErasureLemmas.{erasures-parts}
use Rattle.stack_meaning.proofs.lemmas.LeafListLemmas.{AreRead-none, AreRead-then, AreRead-more, failed_earlier, failed_later, images-kept}
use Rattle.stack_lines.specs.Walks.{DataBlock, sources_of, spare_cost, spare_cost_by, spare_expected}
use Rattle.stack_engine.specs.declared.losses.Judged.{Judged}
use Rattle.stack_engine.specs.Erasures.{LossRecord, are_whole, column, decoded_columns, first_whole, vain_fault}
use Rattle.stack_engine.specs.Healing.{IsHealed, IsSettled, healed_result}
use Rattle.stack_engine.specs.Spares.{AreJudged, AreNoted, HasFailedLeaf, IsJudgedAs, IsSure, IsUnjudged, block_cost, blocks_cost, erased_expected, erased_outcome, judge_cost, only_expected, only_outcome, restored_wanted, sector_cost, vain_outcome}
use Rattle.stack_engine.proofs.ErasedLemmas.{many-erased, restored-erased, unrestored-erased}
use Rattle.stack_engine.proofs.JudgeLemmas.{certain-sure, sure-for}
use Rattle.stack_engine.proofs.LossLemmas.{noted-as}

-- a block that is whole
whole-is : (v : Verity) (l : LossRecord) (expected sums bytes : List ℕ) → first_whole v l expected sums ≡ Ok bytes → (are_whole v l expected sums ≡ true) × (column v.data_block sums 0 ≡ bytes)
whole-is v l expected sums bytes e = by (are_whole v l expected sums) refl e
  where
    by : (t : Bool) → are_whole v l expected sums ≡ t → cond t (Ok (column v.data_block sums 0)) (Err mismatch) ≡ Ok bytes → (are_whole v l expected sums ≡ true) × (column v.data_block sums 0 ≡ bytes)
    by true e h = (e, cc)
    by false e h = let clash : Err mismatch ≡ Ok bytes = h in cc

-- ---- by erasures

module _ (b : DataBlock) (q : Parity) (has : b.verity.parity ≡ Some q) where
  -- what it costs
  erased-cost : (expected : List ℕ) → (erased_expected b expected).cost ≡ 254 * judge_cost b + 254 * block_cost b
  erased-cost expected =
      let p : ℕ = path_blocks b.verity in
      ap (λ (o : Option Parity). blocks_cost b o (254 * (p + 1))) has
      ∙ mul_assoc 254 (p + 1) (block_cost b)
      ∙ ap (λ x. 254 * x) (add-mul p 1 (block_cost b))
      ∙ both (p * block_cost b) (block_cost b)
    where
      both : (x y : ℕ) → 254 * (x + 1 * y) ≡ 254 * x + 254 * y
      both x y = omega arith

  block-judged : block_cost b ≤ judge_cost b
  block-judged = omega (arith, add-mul (levels (tree_of b.verity)) 1 (block_cost b))

  judged-most : (m : ℕ) → m ≤ 253 → m * judge_cost b ≤ 253 * judge_cost b
  judged-most m low = mul-le-mul_right (judge_cost b) low

  erased-means : (images : Images) (expected : List ℕ) → (erased_expected b expected).means images ≡ vain_outcome (erasure_spare b.verity q (sources_of b images) b.index expected)
  erased-means images expected = ap (λ (o : Option Parity). erased_outcome b.verity (sources_of b images) o b.index expected) has

  module _ (some : 2 ≤ q.roots) (few : q.roots ≤ 24) (inside : b.index < q.blocks) (shape : IsShape (tree_of b.verity)) (expected : List ℕ) where
    erased-sure : {leaves : List Device} → IsCertain (erased_expected b expected) leaves → IsSure b leaves
    erased-sure sure = record { steady = sure.steady; agrees = sure.agrees tt }

    noted-sure : {m : ℕ} {old new : List Device} {l : LossRecord} → AreJudged b q m old new l → IsSure b old → AreNoted q b.index (IsJudgedAs b.verity (sources_of b (steady_images old))) m l
    noted-sure judged sure = noted-as (λ k judged f. f sure) judged.noted

    -- more are lost than can be restored
    pub erased-many : {m : ℕ} {old new : List Device} (l : LossRecord) → AreJudged b q m old new l → m ≤ 255 - q.roots → q.roots < length l.places → Gets (erased_expected b expected) old new (Err (vain_fault l.failed))
    erased-many {m = m} {old = old} {new = new} l judged most many = go l.failed refl judged.failed
      where
        cost : m * judge_cost b ≤ (erased_expected b expected).cost
        cost = omega (arith, erased-cost expected, judged-most m (omega (arith, most, some)))

        go : (o : Option ℕ) → l.failed ≡ o → HasFailedLeaf o old new → Gets (erased_expected b expected) old new (Err (vain_fault o))
        go None e h = record {
          moved = AreRead-more cost judged.moved;
          may = tt;
          exact = λ sure.
              let it = erased-sure sure in
              erased-means (steady_images old) expected
              ∙ many-erased b.verity q few (sources_of b (steady_images old)) b.index inside shape (λ k low. it.agrees.line q has k low) l m most (noted-sure judged it) e many expected;
        }
        go (Some leaf) e h = record { moved = AreRead-more cost judged.moved; may = h; exact = λ sure. tt }

    -- all were judged, and then restored
    pub erased-all : {m : ℕ} {old mid new : List Device} (l : LossRecord) → AreJudged b q m old mid l → m ≡ 255 - q.roots → length l.places ≤ q.roots → (answer : Result (List ℕ) IoFault) → Gets (restored_wanted b q l expected) mid new answer
        → Gets (erased_expected b expected) old new (healed_result (vain_fault l.failed) answer)
    erased-all {m = m} {old = old} {mid = mid} {new = new} l judged all enough answer got = go answer got
      where
        moved : AreRead mid (255 * block_cost b) new → AreRead old (erased_expected b expected).cost new
        moved more = AreRead-more (omega (arith, erased-cost expected, judged-most m (omega (arith, all, some)), block-judged)) (AreRead-then judged.moved more)

        now-sure : IsSure b old → IsCertain (restored_wanted b q l expected) mid
        now-sure = sure-for b (restored_wanted b q l expected) judged.moved (λ i on. on) (λ images all. all)

        from : BlockSources
        from = sources_of b (steady_images old)

        -- what is restored, over the images of before
        as-before : (x : Outcome) → (restored_wanted b q l expected).means (steady_images mid) ≡ x → then_outcome (decoded_columns b.verity q from (b.index % round_count q) l.places) (first_whole b.verity l expected) ≡ x
        as-before x is = ap (λ (i : Images). (restored_wanted b q l expected).means i) (sym (images-kept judged.moved)) ∙ is

        noted : IsSure b old → AreNoted q b.index (IsJudgedAs b.verity from) (255 - q.roots) l
        noted sure = subst (λ k. AreNoted q b.index (IsJudgedAs b.verity from) k l) all (noted-sure judged sure)

        restored : (bytes : List ℕ) → IsSure b old → then_outcome (decoded_columns b.verity q from (b.index % round_count q) l.places) (first_whole b.verity l expected) ≡ Ok bytes → erasure_spare b.verity q from b.index expected ≡ Ok bytes
        restored bytes sure e =
            let sums = then-parts (decoded_columns b.verity q from (b.index % round_count q) l.places) (first_whole b.verity l expected) bytes e in
            let whole = whole-is b.verity l expected sums.0 bytes sums.2 in
            restored-erased b.verity q few from b.index inside shape (λ k low. sure.agrees.line q has k low) l (noted sure) enough expected sums.0 sums.1 whole.0 ∙ ap Ok whole.1

        failed : (fault : IoFault) (o : Option ℕ) → l.failed ≡ o → HasFailedLeaf o old mid → Gets (restored_wanted b q l expected) mid new (Err fault) → Gets (erased_expected b expected) old new (healed_result {A = List ℕ} (vain_fault o) (Err fault))
        failed (io.Stack fault) None e h q' = record {
          moved = moved q'.moved;
          may = tt;
          exact = λ sure.
              let it = erased-sure sure in
              erased-means (steady_images old) expected
              ∙ unrestored-erased b.verity q few from b.index inside shape (λ k low. it.agrees.line q has k low) l (noted it) enough e expected fault (as-before (Err fault) (q'.exact (now-sure it)));
        }
        failed (io.Stack fault) (Some leaf) e h q' = record { moved = moved q'.moved; may = (h.0, failed_earlier q'.moved.moved h.1); exact = λ sure. tt }
        failed (io.Device i) None e h q' = record { moved = moved q'.moved; may = (q'.may.0, failed_later judged.moved.moved q'.moved.moved q'.may.1); exact = λ sure. tt }
        failed (io.Device i) (Some leaf) e h q' = record { moved = moved q'.moved; may = (h.0, failed_earlier q'.moved.moved h.1); exact = λ sure. tt }
        failed io.NoMemory None e h q' = record { moved = moved q'.moved; may = q'.may; exact = λ sure. tt }
        failed io.NoMemory (Some leaf) e h q' = record { moved = moved q'.moved; may = q'.may; exact = λ sure. tt }

        go : (answer : Result (List ℕ) IoFault) → Gets (restored_wanted b q l expected) mid new answer → Gets (erased_expected b expected) old new (healed_result (vain_fault l.failed) answer)
        go (Ok bytes) q' = record {
          moved = moved q'.moved;
          may = q'.may;
          exact = λ sure.
              let it = erased-sure sure in
              erased-means (steady_images old) expected ∙ ap vain_outcome (restored bytes it (as-before (Ok bytes) (q'.exact (now-sure it))));
        }
        go (Err fault) q' = failed fault l.failed refl judged.failed q'

    -- or the judging ended in a fault
    pub erased-unfound : {old new : List Device} (fault : IoFault) → IsUnjudged b (254 * judge_cost b) old new fault → Gets (erased_expected b expected) old new (Err fault)
    erased-unfound {old = old} {new = new} fault p = go fault p
      where
        cost : 254 * judge_cost b ≤ (erased_expected b expected).cost
        cost = omega (arith, erased-cost expected)

        go : (fault : IoFault) → IsUnjudged b (254 * judge_cost b) old new fault → Gets (erased_expected b expected) old new (Err fault)
        go (io.Stack other) p = absurd p.may
        go (io.Device i) p = record { moved = AreRead-more cost p.moved; may = p.may; exact = λ sure. tt }
        go io.NoMemory p = record { moved = AreRead-more cost p.moved; may = p.may; exact = λ sure. tt }

-- without parity there is none
pub erased-none : (b : DataBlock) (expected : List ℕ) (leaves : List Device) → b.verity.parity ≡ None → Gets (erased_expected b expected) leaves leaves (Err (io.Stack mismatch))
erased-none b expected leaves none = record {
  moved = AreRead-none _ leaves;
  may = tt;
  exact = λ sure. ap (λ (o : Option Parity). erased_outcome b.verity (sources_of b (steady_images leaves)) o b.index expected) none;
}

-- ---- the spare

-- it is the one, or else the other
both-spares : (v : Verity) (from : BlockSources) (o : Option Parity) (j : ℕ) (expected : List ℕ) → covered_spare v from o j expected ≡ healed_outcome (only_outcome v from o j expected) (erased_outcome v from o j expected)
both-spares v from None j expected = refl
both-spares v from (Some p) j expected = go (spare_block v p from j expected) (erasure_spare v p from j expected)
  where
    go : (x y : Outcome) → healed_outcome x y ≡ healed_outcome x (vain_outcome y)
    go (Ok block) y = refl
    go (Err fault) (Ok block) = refl
    go (Err fault) (Err other) = refl

vain-ok : (x : Outcome) (bytes : List ℕ) → vain_outcome x ≡ Ok bytes → x ≡ Ok bytes
vain-ok (Ok block) bytes e = e
vain-ok (Err fault) bytes e = let clash : Err mismatch ≡ Ok bytes = e in cc

module _ (b : DataBlock) (expected : List ℕ) where
  abbrev wanted : Expected (List ℕ)
  wanted = spare_expected (λ (x : List ℕ). x) b expected

  abbrev only_at : Images → Outcome
  only_at images = only_outcome b.verity (sources_of b images) b.verity.parity b.index expected

  abbrev erased_at : Images → Outcome
  erased_at images = erased_outcome b.verity (sources_of b images) b.verity.parity b.index expected

  spare-sure : {leaves : List Device} → IsCertain wanted leaves → IsSure b leaves
  spare-sure sure = record { steady = sure.steady; agrees = sure.agrees tt }

  only-certain : {leaves : List Device} → IsCertain wanted leaves → IsCertain (only_expected b expected) leaves
  only-certain sure = record { steady = sure.steady; agrees = sure.agrees }

  spare-by : (images : Images) (x : Outcome) → only_at images ≡ x → wanted.means images ≡ healed_outcome x (erased_at images)
  spare-by images x e = both-spares b.verity (sources_of b images) b.verity.parity b.index expected ∙ ap (λ (o : Outcome). healed_outcome o (erased_at images)) e

  costs : (o : Option Parity) → b.verity.parity ≡ o → (only_expected b expected).cost + (erased_expected b expected).cost ≤ wanted.cost
  costs None none =
      let one : (only_expected b expected).cost ≡ 0 = ap (λ (o : Option Parity). blocks_cost b o 254) none in
      let two : (erased_expected b expected).cost ≡ 0 = ap (λ (o : Option Parity). blocks_cost b o (254 * (path_blocks b.verity + 1))) none in
      omega (arith, one, two)
  costs (Some q) has =
      let p : ℕ = path_blocks b.verity in
      let one : (only_expected b expected).cost ≡ 254 * block_cost b = ap (λ (o : Option Parity). blocks_cost b o 254) has in
      let two : (erased_expected b expected).cost ≡ 254 * (p + 1) * block_cost b = ap (λ (o : Option Parity). blocks_cost b o (254 * (p + 1))) has in
      let all : wanted.cost ≡ 254 * (p + 2) * block_sectors b.verity * sector_cost b = ap (λ (o : Option Parity). spare_cost_by b.verity o (b.on_data.cost ∷ b.on_hash.cost ∷ b.on_parity.cost ∷ [])) has in
      let whole : 254 * (p + 2) * block_sectors b.verity * sector_cost b ≡ 254 * (p + 2) * block_cost b = mul_assoc (254 * (p + 2)) (block_sectors b.verity) (sector_cost b) in
      let parts : 254 + 254 * (p + 1) ≡ 254 * (p + 2) = omega arith in
      let split : (254 + 254 * (p + 1)) * block_cost b ≡ 254 * block_cost b + 254 * (p + 1) * block_cost b = add-mul 254 (254 * (p + 1)) (block_cost b) in
      omega (arith, one, two, all, whole, split, ap (λ k. k * block_cost b) parts)

  cost-all : (only_expected b expected).cost + (erased_expected b expected).cost ≤ wanted.cost
  cost-all = costs b.verity.parity refl

  -- as the only lost block
  pub spare-only : {old new : List Device} (bytes : List ℕ) → Gets (only_expected b expected) old new (Ok bytes) → Gets wanted old new (Ok bytes)
  spare-only {old = old} bytes got = record {
    moved = AreRead-more (omega (arith, cost-all)) got.moved;
    may = got.may;
    exact = λ sure. spare-by (steady_images old) (Ok bytes) (got.exact (only-certain sure));
  }

  -- or its fault stays
  pub spare-settled : {old new : List Device} (fault : IoFault) → IsSettled b.verity.parity fault → Gets (only_expected b expected) old new (Err fault) → Gets wanted old new (Err fault)
  spare-settled {old = old} (io.Stack fault) settled got = record {
    moved = AreRead-more (omega (arith, cost-all)) got.moved;
    may = tt;
    exact = λ sure.
        let none = no-parity b.verity.parity settled in
        ap (λ (o : Option Parity). covered_spare b.verity (sources_of b (steady_images old)) o b.index expected) none
        ∙ sym (ap (λ (o : Option Parity). only_outcome b.verity (sources_of b (steady_images old)) o b.index expected) none)
        ∙ got.exact (only-certain sure);
  }
    where
      no-parity : (o : Option Parity) → is_some o ≡ false → o ≡ None
      no-parity None lacks = refl
      no-parity (Some p) lacks = let clash : true ≡ false = lacks in cc
  spare-settled (io.Device i) settled got = record { moved = AreRead-more (omega (arith, cost-all)) got.moved; may = got.may; exact = λ sure. tt }
  spare-settled io.NoMemory settled got = record { moved = AreRead-more (omega (arith, cost-all)) got.moved; may = got.may; exact = λ sure. tt }

  -- or by erasures
  spare-moved : {old mid new : List Device} → AreRead old (only_expected b expected).cost mid → AreRead mid (erased_expected b expected).cost new → AreRead old wanted.cost new
  spare-moved one two = AreRead-more cost-all (AreRead-then one two)

  erased-certain : {m : ℕ} {old mid : List Device} → AreRead old m mid → IsSure b old → IsCertain (erased_expected b expected) mid
  erased-certain moved = sure-for b (erased_expected b expected) moved (λ i on. on) (λ images all. all)

  -- over the images of before
  erased-before : {m : ℕ} {old mid : List Device} → AreRead old m mid → (x : Outcome) → erased_at (steady_images mid) ≡ x → erased_at (steady_images old) ≡ x
  erased-before moved x is = ap erased_at (sym (images-kept moved)) ∙ is

  module _ {old : List Device} (verified : b.index < verified_blocks b.verity) where
    -- a block that is restored in both ways is the same
    one-restored : (bytes : List ℕ) → IsSure b old → erased_at (steady_images old) ≡ Ok bytes → wanted.means (steady_images old) ≡ Ok bytes
    one-restored bytes sure made =
        both-spares b.verity from b.verity.parity b.index expected ∙ ap (λ (o : Outcome). healed_outcome (only_at (steady_images old)) o) made ∙ go b.verity.parity refl made
      where
        from : BlockSources
        from = sources_of b (steady_images old)

        by : (q : Parity) → b.verity.parity ≡ Some q → (x : Outcome) → spare_block b.verity q from b.index expected ≡ x → erasure_spare b.verity q from b.index expected ≡ Ok bytes → healed_outcome x (Ok bytes) ≡ Ok bytes
        by q has (Err fault) one two = refl
        by q has (Ok block) one two =
            let sum = then-parts (restored_block b.verity q from b.index) (checked b.verity.salt expected) block one in
            let code = then-parts (erasures_by b.verity q from b.index (round_losses b.verity q from b.index)) (checked b.verity.salt expected) bytes two in
            let restored : restored_block b.verity q from b.index ≡ Ok block = sum.1 ∙ ap Ok (checked-is b.verity.salt expected sum.0 block sum.2) in
            let decoded = erasures-parts b.verity q from b.index (round_losses b.verity q from b.index) bytes (code.1 ∙ ap Ok (checked-is b.verity.salt expected code.0 bytes code.2)) in
            let same : digest b.verity.salt block ≡ digest b.verity.salt bytes = checked-digest b.verity.salt expected sum.0 block sum.2 ∙ sym (checked-digest b.verity.salt expected code.0 bytes code.2) in
            ap Ok (sure.agrees.line q has b.index verified block bytes (inr (inl restored)) (inr (inr (round_losses b.verity q from b.index, decoded.0, decoded.1))) same)

        go : (o : Option Parity) → b.verity.parity ≡ o → erased_outcome b.verity from o b.index expected ≡ Ok bytes → healed_outcome (only_outcome b.verity from o b.index expected) (Ok bytes) ≡ Ok bytes
        go None none h = let clash : Err mismatch ≡ Ok bytes = h in cc
        go (Some q) has h = by q has (spare_block b.verity q from b.index expected) refl (vain-ok (erasure_spare b.verity q from b.index expected) bytes h)

  module _ {old mid new : List Device} (verified : b.index < verified_blocks b.verity) where
    -- it was restored
    restored-by : (alone : IoFault) → Gets (only_expected b expected) old mid (Err alone) → (bytes : List ℕ) → Gets (erased_expected b expected) mid new (Ok bytes) → Gets wanted old new (Ok bytes)
    restored-by alone own bytes got = record {
      moved = spare-moved own.moved got.moved;
      may = got.may;
      exact = λ sure. one-restored verified bytes (spare-sure sure) (erased-before own.moved (Ok bytes) (got.exact (erased-certain own.moved (spare-sure sure))));
    }

    -- or not
    unrestored-by : (alone vain : IoFault) → IsHealed b.verity.parity alone → Gets (only_expected b expected) old mid (Err alone) → Gets (erased_expected b expected) mid new (Err vain) → Gets wanted old new (healed_result {A = List ℕ} alone (Err vain))
    unrestored-by (io.Stack fault) (io.Stack vain) heals own got = record {
      moved = spare-moved own.moved got.moved;
      may = tt;
      exact = λ sure.
          spare-by (steady_images old) (Err fault) (own.exact (only-certain sure))
          ∙ ap (λ (o : Outcome). healed_outcome (Err fault) o) (erased-before own.moved (Err vain) (got.exact (erased-certain own.moved (spare-sure sure))));
    }
    unrestored-by (io.Stack fault) (io.Device i) heals own got = record { moved = spare-moved own.moved got.moved; may = (got.may.0, failed_later own.moved.moved got.moved.moved got.may.1); exact = λ sure. tt }
    unrestored-by (io.Stack fault) io.NoMemory heals own got = record { moved = spare-moved own.moved got.moved; may = got.may; exact = λ sure. tt }
    unrestored-by (io.Device i) (io.Stack vain) heals own got = record { moved = spare-moved own.moved got.moved; may = (own.may.0, failed_earlier got.moved.moved own.may.1); exact = λ sure. tt }
    unrestored-by (io.Device i) (io.Device j) heals own got = record { moved = spare-moved own.moved got.moved; may = (own.may.0, failed_earlier got.moved.moved own.may.1); exact = λ sure. tt }
    unrestored-by (io.Device i) io.NoMemory heals own got = record { moved = spare-moved own.moved got.moved; may = got.may; exact = λ sure. tt }
    unrestored-by io.NoMemory vain heals own got = let clash : false ≡ true = heals in absurd cc

    pub spare-mended : (alone : IoFault) (answer : Result (List ℕ) IoFault) → IsHealed b.verity.parity alone → Gets (only_expected b expected) old mid (Err alone) → Gets (erased_expected b expected) mid new answer → Gets wanted old new (healed_result alone answer)
    spare-mended alone (Ok bytes) heals own got = restored-by alone own bytes got
    spare-mended alone (Err vain) heals own got = unrestored-by alone vain heals own got
