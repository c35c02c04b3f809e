-- Beneath hash blocks that are whole all data come back.
use Rattle.std.proofs.Common.{◌≡◌, ◌≤◌, ◌<◌, ◌+◌, ◌-◌, ◌++◌, ℕ, zero, suc, Bool, true, List, [], add-one, sym, ap, ◌∙◌, subst, arith, inl, inr, ◌⊎◌}
use Rattle.std.specs.List.{flat_map}
use Rattle.std.proofs.lemmas.Bool.{cases_lt}
use Rattle.block_device.specs.Device.{Device}
use Rattle.fec_area.specs.declared.layout.Layout.{Layout}
use Rattle.fec_area.specs.Layouts.{covered, covered_blocks, parity_sectors}
use Rattle.fec_area.specs.Restoring.{IsAmong, lost_count}
use Rattle.fec_area.proofs.LayoutLemmas.{covered-data}
use Rattle.hash_tree.specs.Laws.{FormedChainsAreGood}
use Rattle.tree_shape.specs.Digests.{digest}
use Rattle.tree_shape.specs.Shape.{ShapeRecord, IsShape, ancestor, position}
use Rattle.tree_path.specs.Laws.{Collide}
use Rattle.tree_path.specs.Path.{PathRecord, digest_on, stored_block}
use Rattle.tree_path.proofs.lemmas.PathLemmas.{digest_on-along, leads-along}
use Rattle.verity_format.proofs.lemmas.DeviceLemmas.{only_read-none}
use Rattle.tree_survey.specs.Surveys.{IsWay}
use Rattle.verity_format.specs.Blocks.{block_at}
use Rattle.tree_repair.specs.Beyond.{HaveCountedNone, IsUnderBad}
use Rattle.tree_repair.specs.Parity.{IsCoveredAt}
use Rattle.tree_repair.specs.Passes.{IsPass, bad_of}
use Rattle.tree_repair.specs.Repairs.{job_of}
use Rattle.tree_repair.specs.Runs.{Job, Visit, VisitsAll}
use Rattle.tree_repair.specs.ParitySearches.{IsCutOff}
use Rattle.tree_repair.specs.WithinParity.{DataUnderWholeTreeComeBack, FormerImage, HasTreeSizes, HasWholeTree, IsAsFormed, IsDamaged, IsFormerOf}
use Rattle.tree_repair.specs.Worlds.{IsImageUnfailed, RepairWorld}
use Rattle.tree_repair.proofs.ApartLemmas.{above-from}
use Rattle.tree_repair.proofs.BeyondLemmas.{all-visits}
use Rattle.tree_repair.proofs.FormerLemmas.{former-digest}
use Rattle.tree_repair.proofs.NoneLostLemmas.{pass-formed}
use Rattle.tree_repair.proofs.NumberLemmas.{of-hash}
use Rattle.tree_repair.proofs.RunLemmas.{runs-read, runs-then, world-none}
use Rattle.tree_repair.proofs.StayFormedLemmas.{runs-kept}
use Rattle.tree_repair.proofs.UnfailedLemmas.{image-sure, sure-before}
use Rattle.tree_repair.proofs.UnknownLemmas.{among-or, beside-inside}
use Rattle.tree_repair.proofs.WithinParityLemmas.{HoldsParity, holds-first, holds-last, holds-later, sure-last, unreached}

-- a covered data block of the tree is the one of its number
data-at : (s : ShapeRecord) → IsShape s → (l : Layout) → HasTreeSizes s l → (i : ℕ) → i < s.blocks → i < l.data_blocks → IsCoveredAt s l zero i i
data-at s valid l fits i inside low =
    let under : i < covered_blocks l = omega (arith, low) in
    record {
      place = record { valid = valid; inside = inside; high = omega arith };
      size = fits.data_size;
      inside = under;
      is = record { is_covered = under; bytes = λ data_image hash_image. covered-data l data_image hash_image i low };
    }

module _ (form : FormedChainsAreGood) (j : Job) (valid : IsShape j.tree.shape) (f : FormerImage) (former : IsFormerOf j.tree f) (l : Layout) (fits : HasTreeSizes j.tree.shape l) where
  -- a hash block of the tree that is as it was has the digest to which a way leads
  module _ (g i n : ℕ) (at : IsCoveredAt j.tree.shape l (g + 1) i n) (p : PathRecord) (way : IsWay j.tree i (g + 1) p) (w : RepairWorld) where
    stored-good : IsAsFormed l f w n → (digest j.tree.salt (stored_block j.tree.shape w.hash_dev.image g i) ≡ digest_on p i (g + 1)) ⊎ Collide j.tree.salt
    stored-good is =
        let place : ℕ = position j.tree.shape g (ancestor j.tree.shape (g + 1) i) in
        let up : IsCoveredAt j.tree.shape l (suc g) i n = subst (λ (h : ℕ). IsCoveredAt j.tree.shape l h i n) (add-one g) at in
        let stored : stored_block j.tree.shape w.hash_dev.image g i ≡ covered l f.data_image f.hash_image n =
        ap (λ (size : ℕ). block_at w.hash_dev.image size place) (sym up.size) ∙ sym (up.is.bytes w.data_dev.image w.hash_dev.image) ∙ is in
        elim (former-digest j.tree valid f former form l (g + 1) i n at p way) [
          | inl good ↦ inl (ap (digest j.tree.salt) stored ∙ good)
          | inr clash ↦ inr clash
        ]

  module _ (w : RepairWorld) (p : Device) (holds : HoldsParity j.tree.shape l f w p) (tree : HasWholeTree j.tree.shape l f w) where
    -- what isn't a data block is as it was, at each moment
    hash-kept : (vs : List Visit) (a : RepairWorld) (n : ℕ) → VisitsAll j vs w a → IsImageUnfailed w a → n < covered_blocks l → l.data_blocks ≤ n → IsAsFormed l f a n ⊎ Collide j.tree.salt
    hash-kept vs a n runs sure inside high = runs-kept form j valid f former l fits vs w a runs sure holds.ready n inside (tree.whole n high)

    -- so no hash block above a data block is another one than it should be
    cut-clash : (vs : List Visit) (a : RepairWorld) (h i beside : ℕ) → VisitsAll j vs w a → IsImageUnfailed w a → i < j.tree.shape.blocks
        → ancestor j.tree.shape (h + 1) beside ≡ ancestor j.tree.shape (h + 1) i → IsCutOff j.tree beside h a.hash_dev → Collide j.tree.salt
    cut-clash vs a h i beside runs sure inside same cut =
        let s : ShapeRecord = j.tree.shape in
        let g : ℕ = cut.l in
        let above : (m : ℕ) → g + 1 ≤ m → ancestor s m beside ≡ ancestor s m i =
        λ m high. above-from s valid (m - (h + 1)) (h + 1) m i beside (omega (arith, high, cut.above)) same in
        let here : ancestor s (g + 1) beside ≡ ancestor s (g + 1) i = above (g + 1) (omega arith) in
        let way : IsWay j.tree i (g + 1) cut.p = record {
          is = cut.way.is;
          few = cut.way.few;
          leads = leads-along cut.p beside i (g + 1) (subst (λ (x : ShapeRecord). (m : ℕ) → g + 1 < m → ancestor x m beside ≡ ancestor x m i) (sym cut.way.is.shape_is) (λ m high. above m (omega (arith, high)))) cut.way.leads;
        } in
        let number = tree.tree.covers g i (record { valid = valid; inside = inside; high = cut.way.few }) in
        let up : IsCoveredAt s l (suc g) i number.0 = subst (λ (x : ℕ). IsCoveredAt s l x i number.0) (add-one g) number.1 in
        let a_holds : HoldsParity s l f a p = holds-later j valid l f vs w a p p runs (only_read-none p) sure holds in
        let stand : cut.block ≡ stored_block s a.hash_dev.image g i =
        cut.stand a_holds.ready.hash_ready.steady ∙ ap (λ (m : ℕ). block_at a.hash_dev.image s.hash_block (position s g m)) here in
        let digests : digest_on cut.p i (g + 1) ≡ digest_on cut.p beside (g + 1) =
        sym (digest_on-along cut.p beside i (g + 1) (subst (λ (x : ShapeRecord). ancestor x (g + 1) beside ≡ ancestor x (g + 1) i) (sym cut.way.is.shape_is) here)) in
        elim (hash-kept vs a number.0 runs sure number.1.inside (of-hash l holds.kept.layout (position s g (ancestor s (g + 1) i)) number.0 up.is).0) [
          | inr clash ↦ clash
          | inl is ↦ elim (stored-good g i number.0 number.1 cut.p way a is) [
            | inr clash ↦ clash
            | inl good ↦ absurd (cut.bad (ap (digest j.tree.salt) stand ∙ good ∙ digests))
          ]
        ]

    module _ (before : List Visit) (last w' : RepairWorld) (p' : Device) (runs : VisitsAll j before w last) (sure : IsImageUnfailed w w') (write : j.write ≡ true) where
      under-clash : (h i : ℕ) → i < j.tree.shape.blocks → IsUnderBad j h i last w' → Collide j.tree.salt
      under-clash h i inside under =
          let behind = runs-read j under.part.later under.a under.b w' under.read under.part.behind in
          cut-clash (before ++ under.part.earlier) under.a h i under.beside (runs-then j before under.part.earlier w last under.a runs under.part.before) (sure-before j under.part.later w under.a w' behind sure) inside under.same under.cut

      module _ (q : Device) (again : Bool) (pass : IsPass j l last w' q p' again) (holds-here : HoldsParity j.tree.shape l f last q) (none : HaveCountedNone last w' q p') where
        us : (us : List Visit) × VisitsAll j us pass.behind w'
        us = all-visits j l pass.sought.lost (flat_map (bad_of j) pass.visits) pass.behind w' q p' pass.hash_came pass.sought.sought

        -- the last pass knows all that is damaged
        all-known : (n : ℕ) → n < covered_blocks l → IsDamaged l f pass.behind n → IsAmong pass.sought.lost n ⊎ Collide j.tree.salt
        all-known n inside damaged = elim (cases_lt n l.data_blocks) [
          | inr high ↦ elim (hash-kept (before ++ pass.visits) pass.behind n (runs-then j before pass.visits w last pass.behind runs pass.runs) (sure-before j us.0 w pass.behind w' us.1 sure) inside high) [
            | inl is ↦ absurd (damaged is)
            | inr clash ↦ inr clash
          ]
          | inl low ↦ elim (among-or pass.sought.lost n) [
            | inl there ↦ inl there
            | inr unknown ↦
                let of_tree : n < j.tree.shape.blocks = omega (arith, low, tree.tree.data_blocks) in
                elim (unreached form j valid f former l fits last w' q p' again pass holds-here none [] us.0 pass.behind n (world-none pass.behind) us.1 unknown damaged zero n (data-at j.tree.shape valid l fits n of_tree low)) [
                  | inl under ↦ inr (under-clash zero n of_tree under)
                  | inr clash ↦ inr clash
                ]
          ]
        ]

        pub data-formed : parity_sectors l ≤ q.size → (i : ℕ) → i < l.data_blocks → (IsAmong pass.sought.lost i → lost_count l pass.sought.lost i ≤ l.roots)
            → IsAsFormed l f w' i ⊎ Collide j.tree.salt
        data-formed room i low few =
            let of_tree : i < j.tree.shape.blocks = omega (arith, low, tree.tree.data_blocks) in
            elim (pass-formed form j valid write f former l fits last w' q p' again pass holds-here none room zero i i (data-at j.tree.shape valid l fits i of_tree low) few (λ n beside. all-known n (beside-inside l i n beside))) [
              | inl is ↦ inl is
              | inr rest ↦ elim rest [
                | inl under ↦ inr (under-clash zero i of_tree under)
                | inr clash ↦ inr clash
              ]
            ]

pub data-back : FormedChainsAreGood → DataUnderWholeTreeComeBack
data-back form plan write l f w w' p p' r tree room i low few =
    let passes = r.seeks.ends.passes in
    data-formed form (job_of plan true) r.seeks.lies.valid f r.former l r.sizes w p (holds-first plan l f w w' p p' r) tree passes.earlier passes.last w' p' passes.before (image-sure w w' p p' r.unfailed) write
    passes.last_parity r.seeks.ends.again passes.pass (holds-last plan l f w w' p p' r) (sure-last plan l f w w' p p' r) (omega (arith, room, passes.parity_read.read.same.size)) i low few
