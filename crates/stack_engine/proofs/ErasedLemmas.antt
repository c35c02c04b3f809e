-- What a judged round restores is what the code restores of the blocks that are lost by the images.
use Rattle.std.proofs.Common.{◌≡◌, ◌≢◌, ℕ, zero, suc, ◌+◌, ◌-◌, ◌*◌, ◌/◌, ◌%◌, ◌<◌, ◌≤◌, Bool, true, false, not, ◌&&◌, ◌||◌, cond, nat_eq, nat_lt, List, [], ◌∷◌, ◌++◌, length, Option, Some, None, Result, Ok, Err, inl, inr, refl, sym, ap, ◌∙◌, arith, subst}
use Rattle.std.specs.Prelude.{slice_index, is_some}
use Rattle.std.specs.List.{list_all}
use Rattle.std.specs.Str.{bytes_eq}
use Rattle.std.proofs.lemmas.Bool.{and_parts, le-ltb, lt-ltb}
use Rattle.std.proofs.lemmas.List.{get_or_append_left}
use Rattle.std.proofs.lemmas.Nat.{div-mul-add, mod-mul-add, div-add-mod'}
use Rattle.std.proofs.lemmas.Slice.Eq.{bytes_eq-Decides}
use Rattle.std.proofs.Math.Nat.{add-mul, mod-lt, mul-add, mul-le-mul_right, mul_assoc}
use Rattle.block_device.specs.Device.{Device}
use Rattle.tree_shape.specs.Digests.{digest}
use Rattle.tree_shape.specs.Shape.{IsShape, levels}
use Rattle.dm_table.specs.declared.parity.Parity.{Parity}
use Rattle.dm_table.specs.declared.verity.Verity.{Verity}
use Rattle.stack_rules.specs.Trees.{block_sectors, path_blocks, round_count, spare_blocks, tree_of, zero_block}
use Rattle.stack_meaning.specs.declared.fault.Fault.{Fault}
use Rattle.stack_meaning.specs.declared.fault.IoFault.{IoFault}
use Rattle.stack_meaning.specs.declared.fault.IoFault.TheVariants as io
use Rattle.stack_meaning.specs.Agreement.{BlockAgrees}
use Rattle.stack_meaning.specs.Checked.{checked}
use Rattle.stack_meaning.specs.Erasures.{PathEnd, covered_spare, decoded_block, digest_at, erasure_spare, erasures_by, is_lost, is_lost_beside, is_lost_by, kept_block, known_digest, lost_places, path_end, round_losses}
use Rattle.stack_meaning.specs.Leaves.{steady_images, AreRead}
use Rattle.stack_meaning.specs.Outcomes.{Images, Outcome, changed_outcome, mismatch, then_outcome}
use Rattle.stack_meaning.specs.Reading.{Gets, IsCertain}
use Rattle.stack_meaning.specs.Spares.{BlockSources, covered_block, healed_outcome, place_number, restored_block, spare_block, verified_blocks}
use Rattle.stack_meaning.proofs.lemmas.CheckedLemmas.{checked-digest, checked-is, checked-same, then-parts}
use Rattle.stack_meaning.proofs.lemmas.ErasureLemmas.{erasures-parts}
use Rattle.stack_meaning.proofs.lemmas.FewerLossesLemmas.{fewer-losses}
use Rattle.stack_meaning.proofs.lemmas.LeafListLemmas.{AreRead-none, AreRead-then, AreRead-more, failed_earlier, failed_later, images-kept}
use Rattle.stack_meaning.proofs.lemmas.SpareLemmas.{place-below, rounds-some}
use Rattle.stack_lines.specs.Walks.{DataBlock, sources_of, spare_cost, spare_cost_by, spare_expected}
use Rattle.stack_engine.specs.declared.losses.Judged.{Judged}
use Rattle.stack_engine.specs.declared.losses.Unread.{Unread}
use Rattle.stack_engine.specs.Erasures.{LossRecord, are_whole, column, decoded_columns, first_whole, vain_fault}
use Rattle.stack_engine.specs.Healing.{IsHealed, IsSettled, healed_result}
use Rattle.stack_engine.specs.SectorCalls.{other_number}
use Rattle.stack_engine.specs.Spares.{AreJudged, AreNoted, HasFailedLeaf, IsJudgedAs, IsSure, IsUnjudged, block_cost, blocks_cost, erased_expected, erased_outcome, judge_cost, only_expected, only_outcome, restored_wanted, vain_outcome}
use Rattle.stack_engine.proofs.ColumnSumLemmas.{decoded-column}
use Rattle.stack_engine.proofs.HealLemmas.{checked-other}
use Rattle.stack_engine.proofs.JudgeLemmas.{certain-sure, sure-for}
use Rattle.stack_engine.proofs.LossLemmas.{AreBelow, IsUnread, keep, length-selected, losses-grow, lost-other, none-unread, noted-as, noted-below, other-is, places-lost, select-noted, unread-noted}
use Rattle.stack_engine.proofs.PathEndLemmas.{end-verified}

-- ---- blocks that the code restores

or-right : (x y : Bool) → (x || y) ≡ false → y ≡ false
or-right true y e = let clash : true ≡ false = e in cc
or-right false y e = e

not-false : (b : Bool) → not b ≡ false → b ≡ true
not-false true e = refl
not-false false e = let clash : true ≡ false = e in cc

outcome_bytes : Outcome → List ℕ
outcome_bytes (Ok bytes) = bytes
outcome_bytes (Err fault) = []

outcome-ok : (x : Outcome) (bytes : List ℕ) → x ≡ Ok bytes → outcome_bytes x ≡ bytes
unfolding outcome_bytes
outcome-ok (Ok own) bytes e = let same : own ≡ bytes = cc in same
outcome-ok (Err fault) bytes e = let clash : Err fault ≡ Ok bytes = e in cc

-- a known digest is that of a verified block
known-end : (v : Verity) (from : BlockSources) (k : ℕ) (expected : List ℕ) → known_digest v from k ≡ Ok expected → (end : PathEnd) × (path_end v k ≡ Some end)
known-end v from k expected e = go (path_end v k) refl e
  where
    go : (o : Option PathEnd) → path_end v k ≡ o → digest_at v from o ≡ Ok expected → (end : PathEnd) × (path_end v k ≡ Some end)
    go None at h = let clash : Err mismatch ≡ Ok expected = h in cc
    go (Some end) at h = (end, at)

-- a block that isn't lost has its known digest
kept-digest : (v : Verity) (from : BlockSources) (k : ℕ) (expected : List ℕ) → is_lost v from k ≡ false → known_digest v from k ≡ Ok expected → (stored : List ℕ) × (covered_block v from k ≡ Ok stored) × (digest v.salt stored ≡ expected)
kept-digest v from k expected kept known = go (covered_block v from k) refl
  where
    by : (x : Outcome) → covered_block v from k ≡ x → is_lost_by v.salt x (Ok expected) ≡ false
    by x e = sym (ap (λ (o : Outcome). is_lost_by v.salt o (known_digest v from k)) e ∙ ap (λ (o : Outcome). is_lost_by v.salt x o) known) ∙ kept

    go : (x : Outcome) → covered_block v from k ≡ x → (stored : List ℕ) × (x ≡ Ok stored) × (digest v.salt stored ≡ expected)
    go (Ok stored) e = (stored, refl, (bytes_eq-Decides (digest v.salt stored) expected).0 (not-false (bytes_eq (digest v.salt stored) expected) (by (Ok stored) e)))
    go (Err fault) e = let clash : true ≡ false = by (Err fault) e in cc

module _ (v : Verity) (q : Parity) (few : q.roots ≤ 24) (from : BlockSources) (j : ℕ) (inside : j < q.blocks) (shape : IsShape (tree_of v)) (agrees : (k : ℕ) → k < verified_blocks v → BlockAgrees v q from k) where
  abbrev n : ℕ
  n = j % round_count q

  abbrev own : ℕ
  own = j / round_count q

  low-round : n < round_count q
  low-round = mod-lt j (rounds-some q j few inside)

  -- its own position is the first
  losses-first : (m : ℕ) → (0 < length (lost_places v q from j m)) × (slice_index (lost_places v q from j m) 0 ≡ own)
  unfolding lost_places
  losses-first zero = (omega arith, refl)
  losses-first (suc m) = go (losses-first m) (is_lost_beside v q from j m)
    where
      go : (0 < length (lost_places v q from j m)) × (slice_index (lost_places v q from j m) 0 ≡ own) → (t : Bool)
          → (0 < length (cond t (lost_places v q from j m ++ (m ∷ [])) (lost_places v q from j m))) × (slice_index (cond t (lost_places v q from j m ++ (m ∷ [])) (lost_places v q from j m)) 0 ≡ own)
      go before true =
          let same : slice_index (lost_places v q from j m ++ (m ∷ [])) 0 ≡ slice_index (lost_places v q from j m) 0 = get_or_append_left (lost_places v q from j m) (m ∷ []) 0 0 before.0 in
          (some (lost_places v q from j m) m before.0, same ∙ before.1)
        where
          some : (xs : List ℕ) (m : ℕ) → 0 < length xs → 0 < length (xs ++ (m ∷ []))
          some [] m h = absurd (omega (arith, h))
          some (x ∷ xs) m h = omega arith
      go before false = before

  -- no more are lost than can be restored
  by-few : (lost : List ℕ) → length lost ≤ q.roots → erasures_by v q from j lost ≡ decoded_block v q from j lost
  by-few lost low = ap (λ b. cond b (Err mismatch) (decoded_block v q from j lost)) (le-ltb q.roots (length lost) low)

  module _ (l : LossRecord) (noted : AreNoted q j (IsJudgedAs v from) (255 - q.roots) l) (enough : length l.places ≤ q.roots) where
    below : AreBelow own (255 - q.roots) l
    below = noted-below noted

    -- what is restored of the first
    own-column : decoded_block v q from j l.places ≡ changed_outcome (λ sums. column v.data_block sums 0) (decoded_columns v q from n l.places)
    own-column = decoded-column v q from j l.places 0 below.some (sym below.first)

    module _ (sums : List ℕ) (decoded : decoded_columns v q from n l.places ≡ Ok sums) where
      abbrev block : ℕ → List ℕ
      block i = outcome_bytes (decoded_block v q from (place_number q n i) l.places)

      column-of : (a : ℕ) → a < length l.places → decoded_block v q from (place_number q n (slice_index l.places a)) l.places ≡ Ok (column v.data_block sums a)
      column-of a low =
          decoded-column v q from (place_number q n (slice_index l.places a)) l.places a low (div-mul-add (slice_index l.places a) (round_count q) n low-round)
          ∙ ap (λ x. changed_outcome (λ s. column v.data_block s a) (decoded_columns v q from x l.places)) (mod-mul-add (slice_index l.places a) (round_count q) n low-round)
          ∙ ap (λ (o : Outcome). changed_outcome (λ s. column v.data_block s a) o) decoded

      block-of : (a : ℕ) → a < length l.places → block (slice_index l.places a) ≡ column v.data_block sums a
      block-of a low = outcome-ok (decoded_block v q from (place_number q n (slice_index l.places a)) l.places) (column v.data_block sums a) (column-of a low)

      -- each lost block that is as stored has its known digest, and is restored so
      abbrev test : Unread → Bool
      test one = bytes_eq (digest v.salt (column v.data_block sums one.column)) one.digest

      stored-unread : (a : ℕ) → a < length l.places → IsUnread v q from j test a (slice_index l.places a) → keep v q from j (slice_index l.places a) ≡ false
          → kept_block v q from n [] (slice_index l.places a) ≡ Ok (column v.data_block sums a)
      stored-unread a low unread dropped =
          let i : ℕ = slice_index l.places a in
          let k : ℕ = unread.number in
          let other = other-is q j i k unread.at in
          let kept : is_lost v from k ≡ false = sym (lost-other v q from j i k unread.at) ∙ or-right (nat_eq i own) (is_lost_beside v q from j i) dropped in
          let stored = kept-digest v from k unread.one.digest kept unread.known in
          let end = known-end v from k unread.one.digest unread.known in
          let verified = (end-verified v shape k end.0 end.1).verified in
          let made : digest v.salt (column v.data_block sums a) ≡ unread.one.digest = ap (λ x. digest v.salt (column v.data_block sums x)) (sym unread.column) ∙ (bytes_eq-Decides (digest v.salt (column v.data_block sums unread.one.column)) unread.one.digest).0 unread.passes in
          let restored : decoded_block v q from k l.places ≡ Ok (column v.data_block sums a) = ap (λ x. decoded_block v q from x l.places) other.is ∙ column-of a low in
          let same : stored.0 ≡ column v.data_block sums a = agrees k verified stored.0 (column v.data_block sums a) (inl stored.1) (inr (inr (l.places, enough, restored))) (stored.2 ∙ sym made) in
          let number : place_number q n i ≡ k = sym other.is in
          ap (λ b. cond b (covered_block v from (place_number q n i)) (Ok (zero_block v))) (lt-ltb (place_number q n i) q.blocks (subst (λ x. x < q.blocks) other.is other.inside))
          ∙ ap (λ x. covered_block v from x) number ∙ stored.1 ∙ ap Ok same

      module _ (whole : list_all test l.unread ≡ true) where
        stored-at : (a : ℕ) → a < length l.places → keep v q from j (slice_index l.places a) ≡ false → kept_block v q from n [] (slice_index l.places a) ≡ Ok (block (slice_index l.places a))
        stored-at a low dropped = elim (unread-noted v q from j test noted whole a low) [
          | inl lost ↦ let clash : true ≡ false = sym lost ∙ dropped in cc
          | inr unread ↦ stored-unread a low unread dropped ∙ ap Ok (sym (block-of a low))
        ]

        abbrev left : List ℕ
        left = round_losses v q from j

        restored-left : decoded_block v q from j left ≡ Ok (column v.data_block sums 0)
        restored-left =
            let is = select-noted v q from j noted in
            let first = losses-first (255 - q.roots) in
            let distinct = below.distinct in
            let bound : (a : ℕ) → a < length l.places → slice_index l.places a < 255 - q.roots = λ a low. elim (below.each a low) [
              | inl same ↦ subst (λ x. x < 255 - q.roots) (sym same) own-low
              | inr less ↦ less
            ] in
            let fewer = fewer-losses v q few from n low-round l.places (keep v q from j) block distinct bound (λ a low. column-of a low ∙ ap Ok (sym (block-of a low))) stored-at in
            let place : decoded_block v q from (place_number q n (slice_index left 0)) left ≡ Ok (block (slice_index left 0))
            = subst (λ (xs : List ℕ). 0 < length xs → decoded_block v q from (place_number q n (slice_index xs 0)) xs ≡ Ok (block (slice_index xs 0))) is (λ low. fewer 0 low) first.0 in
            let number : place_number q n (slice_index left 0) ≡ j = ap (λ x. place_number q n x) first.1 ∙ div-add-mod' j (round_count q) in
            let own_block : block (slice_index left 0) ≡ column v.data_block sums 0 = ap block (first.1 ∙ sym below.first) ∙ block-of 0 below.some in
            ap (λ x. decoded_block v q from x left) (sym number) ∙ place ∙ ap Ok own_block
          where
            own-low : own < 255 - q.roots
            own-low = place-below q j few inside

        left-few : length left ≤ q.roots
        left-few =
            let is = select-noted v q from j noted in
            omega (arith, enough, ap (λ (xs : List ℕ). length xs) is, length-selected (keep v q from j) l.places (length l.places))

    -- it is what the code restores of the lost blocks
    pub restored-erased : (expected sums : List ℕ) → decoded_columns v q from n l.places ≡ Ok sums → are_whole v l expected sums ≡ true → erasure_spare v q from j expected ≡ Ok (column v.data_block sums 0)
    restored-erased expected sums decoded whole =
        let parts = and_parts (bytes_eq (digest v.salt (column v.data_block sums 0)) expected) (list_all (λ one. bytes_eq (digest v.salt (column v.data_block sums one.column)) one.digest) l.unread) whole in
        let good = (bytes_eq-Decides (digest v.salt (column v.data_block sums 0)) expected).0 parts.0 in
        ap (λ (x : Outcome). then_outcome x (checked v.salt expected)) (by-few (round_losses v q from j) (left-few sums decoded parts.1) ∙ restored-left sums decoded parts.1)
        ∙ checked-same v.salt expected (column v.data_block sums 0) good

    module _ (none : l.failed ≡ None) where
      all : l.places ≡ round_losses v q from j
      all = places-lost v q from j noted none

      own-decoded : (x : Outcome) → decoded_columns v q from n l.places ≡ x → erasures_by v q from j (round_losses v q from j) ≡ changed_outcome (λ s. column v.data_block s 0) x
      own-decoded x e =
          ap (λ (xs : List ℕ). erasures_by v q from j xs) (sym all) ∙ by-few l.places enough ∙ own-column ∙ ap (λ (o : Outcome). changed_outcome (λ s. column v.data_block s 0) o) e

      -- if no leaf failed, what isn't restored by the code isn't restored
      pub unrestored-erased : (expected : List ℕ) (fault : Fault) → then_outcome (decoded_columns v q from n l.places) (first_whole v l expected) ≡ Err fault → vain_outcome (erasure_spare v q from j expected) ≡ Err mismatch
      unrestored-erased expected fault e = go (decoded_columns v q from n l.places) refl e
        where
          tests : (sums : List ℕ) → are_whole v l expected sums ≡ bytes_eq (digest v.salt (column v.data_block sums 0)) expected
          tests sums =
              ap (λ (xs : List Unread). bytes_eq (digest v.salt (column v.data_block sums 0)) expected && list_all (λ one. bytes_eq (digest v.salt (column v.data_block sums one.column)) one.digest) xs) (none-unread v q from j noted none)
              ∙ and-true (bytes_eq (digest v.salt (column v.data_block sums 0)) expected)
            where
              and-true : (b : Bool) → (b && true) ≡ b
              and-true true = refl
              and-true false = refl

          vain : (sums : List ℕ) (t : Bool) → bytes_eq (digest v.salt (column v.data_block sums 0)) expected ≡ t → cond t (Ok (column v.data_block sums 0)) (Err mismatch) ≡ Err fault → vain_outcome (cond t (Ok (column v.data_block sums 0)) (Err mismatch)) ≡ Err mismatch
          vain sums true same h = let clash : Ok (column v.data_block sums 0) ≡ Err fault = h in cc
          vain sums false same h = refl

          go : (x : Outcome) → decoded_columns v q from n l.places ≡ x → then_outcome x (first_whole v l expected) ≡ Err fault → vain_outcome (erasure_spare v q from j expected) ≡ Err mismatch
          go (Err other) is h = ap (λ (o : Outcome). vain_outcome (then_outcome o (checked v.salt expected))) (own-decoded (Err other) is)
          go (Ok sums) is h =
              let t : Bool = bytes_eq (digest v.salt (column v.data_block sums 0)) expected in
              ap (λ (o : Outcome). vain_outcome (then_outcome o (checked v.salt expected))) (own-decoded (Ok sums) is)
              ∙ vain sums t refl (sym (ap (λ b. cond b (Ok (column v.data_block sums 0)) (Err mismatch)) (tests sums)) ∙ h)

  -- more are lost
  pub many-erased : (l : LossRecord) (m : ℕ) → m ≤ 255 - q.roots → AreNoted q j (IsJudgedAs v from) m l → l.failed ≡ None → q.roots < length l.places → (expected : List ℕ) → vain_outcome (erasure_spare v q from j expected) ≡ Err mismatch
  many-erased l m most noted none many expected =
      let rest : 255 - q.roots - m + m ≡ 255 - q.roots = omega (arith, most) in
      let grown = losses-grow v q from j m (255 - q.roots - m) in
      let all = places-lost v q from j noted none in
      let more : q.roots < length (round_losses v q from j) = omega (arith, many, grown, ap (λ (xs : List ℕ). length xs) all, ap (λ k. length (lost_places v q from j k)) rest) in
      ap (λ b. vain_outcome (then_outcome (cond b (Err mismatch) (decoded_block v q from j (round_losses v q from j))) (checked v.salt expected))) (lt-ltb q.roots (length (round_losses v q from j)) more)
