-- What is lost after the last pass is past what parity can restore.
use Rattle.std.proofs.Common.{◌≡◌, ◌≤◌, ◌<◌, ◌+◌, ℕ, zero, suc, true, false, Bool, List, [], ◌++◌, sym, ap, ◌∙◌, subst, arith, inl, inr, ◌⊎◌}
use Rattle.std.specs.List.{flat_map}
use Rattle.block_device.specs.Device.{Device}
use Rattle.fec_area.specs.declared.layout.Layout.{Layout}
use Rattle.fec_area.specs.declared.restoring.RestoreFault.TheVariants.{TooManyLost, TooSmall, Device as DeviceFailed, NoMemory}
use Rattle.fec_area.specs.Layouts.{IsProtected, covered, covered_blocks}
use Rattle.fec_area.specs.Restoring.{IsAmong, round_of}
use Rattle.fec_area.proofs.RestoringLemmas.{round-below}
use Rattle.hash_tree.specs.Laws.{FormedChainsAreGood}
use Rattle.tree_shape.specs.Digests.{digest}
use Rattle.tree_shape.specs.Shape.{ShapeRecord, IsShape, levels}
use Rattle.tree_path.specs.Laws.{Collide}
use Rattle.tree_path.specs.Path.{PathRecord, digest_on}
use Rattle.verity_format.proofs.lemmas.DeviceLemmas.{only_read-none, steady-then}
use Rattle.tree_survey.specs.Surveys.{IsWay}
use Rattle.verity_format.specs.Blocks.{IsOnlyRead}
use Rattle.tree_repair.specs.declared.bad.BadBlock.{BadBlock}
use Rattle.tree_repair.specs.declared.repair.Plan.{Plan}
use Rattle.tree_repair.specs.Beyond.{HaveCountedNone, IsUnderBad}
use Rattle.tree_repair.specs.Coverage.{IsPassedBy}
use Rattle.tree_repair.specs.Parity.{IsCoveredAt}
use Rattle.tree_repair.specs.Passes.{IsPass, bad_of}
use Rattle.tree_repair.specs.Repairs.{job_of}
use Rattle.tree_repair.specs.Runs.{Job, Visit, VisitsAll, size_at}
use Rattle.tree_repair.specs.ParitySearches.{IsBlockUnmade, IsCutOff, IsLeft, IsMadeOther, IsOffPlace, IsSoughtAt, IsTriedBehind, IsVain, IsVainFirst, Trial, trial}
use Rattle.tree_repair.specs.WithinParity.{FormerImage, HasTreeSizes, IsDamaged, IsFormerOf, IsTrialSettled, IsParityKept, IsRoundPast, IsSettledWithin, IsSoughtWithin, IsSureRepair, IsUnreached, LostBlocksWithinParityComeBack, Stage, stage}
use Rattle.tree_repair.specs.Worlds.{IsImageUnfailed, IsWorldRead, RepairWorld}
use Rattle.tree_repair.proofs.ApartLemmas.{above-same}
use Rattle.tree_repair.proofs.BeyondLemmas.{all-visits}
use Rattle.tree_repair.proofs.ExcuseLemmas.{passed-for}
use Rattle.tree_repair.proofs.FormerLemmas.{former-digest, former-whole}
use Rattle.tree_repair.proofs.RecordedLemmas.{IsRecordedIn, formed-on, recorded-beside, recorded-known, visited-formed, visited-or}
use Rattle.tree_repair.proofs.RunLemmas.{parity-none, runs-read, runs-then}
use Rattle.tree_repair.proofs.WantedBlockLemmas.{IsTriedIn, recorded-tried}
use Rattle.tree_repair.proofs.StandLemmas.{IsReady, image-ready}
use Rattle.tree_repair.proofs.StayFormedLemmas.{runs-ready-sure}
use Rattle.tree_repair.proofs.UnfailedLemmas.{counting-read, counting-runs, image-sure, none-failed, none-left, none-right, sure-after, sure-before, unfailed}
use Rattle.tree_repair.proofs.UnknownLemmas.{IsUnknownBeside, all-or, beside-inside}

-- ---- what the devices are at each moment of a run

pub record HoldsParity (s : ShapeRecord) (l : Layout) (f : FormerImage) (w : RepairWorld) (p : Device) : Type 0 where
  pub ready : IsReady s w
  pub kept : IsParityKept l f p

pub holds-later : (j : Job) → IsShape j.tree.shape → (l : Layout) (f : FormerImage) (vs : List Visit) (a b : RepairWorld) (p q : Device) → VisitsAll j vs a b → IsOnlyRead p q → IsImageUnfailed a b
    → HoldsParity j.tree.shape l f a p → HoldsParity j.tree.shape l f b q
holds-later j valid l f vs a b p q runs read sure holds = record {
  ready = runs-ready-sure j valid vs a b runs sure holds.ready;
  kept = record {
    layout = holds.kept.layout;
    steady = steady-then read.same holds.kept.steady;
    stands = subst (IsProtected l f.data_image f.hash_image) (sym (read.image holds.kept.steady)) holds.kept.stands;
  };
}

-- all visits of a pass
pub pass-run : (j : Job) (l : Layout) (w w' : RepairWorld) (p p' : Device) (again : Bool) → IsPass j l w w' p p' again → (us : List Visit) × VisitsAll j us w w'
pass-run j l w w' p p' again pass =
    let us = all-visits j l pass.sought.lost (flat_map (bad_of j) pass.visits) pass.behind w' p p' pass.hash_came pass.sought.sought in
    (pass.visits ++ us.0, runs-then j pass.visits us.0 w pass.behind w' pass.runs us.1)

pub holds-first : (plan : Plan) (l : Layout) (f : FormerImage) (w w' : RepairWorld) (p p' : Device) (r : IsSureRepair plan l f w w' p p') → HoldsParity plan.tree.shape l f w p
holds-first plan l f w w' p p' r = record {
  ready = image-ready plan.tree.shape w (record { valid = r.seeks.lies.valid; steady = r.steady; data_fits = r.seeks.lies.data_fits; tree_fits = r.seeks.lies.tree_fits });
  kept = r.parity;
}

-- the passes before the last, and the last one, counted no failure
module _ (plan : Plan) (l : Layout) (f : FormerImage) (w w' : RepairWorld) (p p' : Device) (r : IsSureRepair plan l f w w' p p') where
  pub sure-last : HaveCountedNone r.seeks.ends.passes.last w' r.seeks.ends.passes.last_parity p'
  sure-last =
      let passes = r.seeks.ends.passes in
      none-right w passes.last w' p passes.last_parity p' (counting-runs (job_of plan true) passes.earlier w passes.last p passes.last_parity passes.before passes.parity_read) r.unfailed

  pub sure-earlier : IsImageUnfailed w r.seeks.ends.passes.last
  sure-earlier =
      let passes = r.seeks.ends.passes in
      let pass = pass-run (job_of plan true) l passes.last w' passes.last_parity p' r.seeks.ends.again passes.pass in
      sure-before (job_of plan true) pass.0 w passes.last w' pass.1 (image-sure w w' p p' r.unfailed)

  pub holds-last : HoldsParity plan.tree.shape l f r.seeks.ends.passes.last r.seeks.ends.passes.last_parity
  holds-last =
      let passes = r.seeks.ends.passes in
      holds-later (job_of plan true) r.seeks.lies.valid l f passes.earlier w passes.last p passes.last_parity passes.before passes.parity_read.read sure-earlier (holds-first plan l f w w' p p' r)

-- ---- a pass

module _ (form : FormedChainsAreGood) (j : Job) (valid : IsShape j.tree.shape) (f : FormerImage) (former : IsFormerOf j.tree f) (l : Layout) (fits : HasTreeSizes j.tree.shape l) where
  size-is : (h : ℕ) → l.block ≡ size_at j.tree.shape h
  size-is zero = fits.data_size
  size-is (suc g) = fits.hash_size

  -- other bytes than the lost block's are made only where a damaged block isn't known, or two inputs have one digest
  other-unknown : (t : Trial) (p : PathRecord) (h i k : ℕ) → HoldsParity j.tree.shape t.layout f t.w t.parity_dev → IsCoveredAt j.tree.shape t.layout h i k → IsWay j.tree i h p
      → IsMadeOther j.tree.salt (digest_on p i h) t k
      → IsUnknownBeside f t k ⊎ Collide j.tree.salt
  other-unknown t p h i k holds at way made =
      elim (all-or f t k (covered_blocks t.layout)) [
        | inr unknown ↦ inl unknown
        | inl same ↦
            let bytes_are : made.bytes ≡ covered t.layout f.data_image f.hash_image k =
            made.made holds.ready.data_ready.steady holds.ready.hash_ready.steady holds.kept.steady f.data_image f.hash_image (record {
              whole = former-whole j.tree valid f former form t.layout h i k at;
              stands = holds.kept.stands (round_of t.layout k) (round-below t.layout k holds.kept.layout at.inside);
              same = λ n beside unknown. same n (beside-inside t.layout k n beside) beside unknown;
            }) in
            elim (former-digest j.tree valid f former form t.layout h i k at p way) [
              | inr clash ↦ inr clash
              | inl good ↦ absurd (made.other (ap (digest j.tree.salt) bytes_are ∙ good))
            ]
      ]

  module _ (w w' : RepairWorld) (p p' : Device) (again : Bool) (pass : IsPass j l w w' p p' again) (holds : HoldsParity j.tree.shape l f w p) (none : HaveCountedNone w w' p p') where
    abbrev recorded : List BadBlock
    recorded = flat_map (bad_of j) pass.visits

    abbrev lost : List ℕ
    lost = pass.sought.lost

    abbrev st : Stage
    st = stage w pass.behind w'

    us : (us : List Visit) × VisitsAll j us pass.behind w'
    us = all-visits j l lost recorded pass.behind w' p p' pass.hash_came pass.sought.sought

    sure-visits : IsImageUnfailed w pass.behind
    sure-visits = sure-before j us.0 w pass.behind w' us.1 (image-sure w w' p p' none)

    pub sure-behind : IsImageUnfailed pass.behind w'
    sure-behind = sure-after j pass.visits w pass.behind w' pass.runs (image-sure w w' p p' none)

    holds-behind : HoldsParity j.tree.shape l f pass.behind p
    holds-behind = holds-later j valid l f pass.visits w pass.behind p p pass.runs (only_read-none p) sure-visits holds

    -- a hash block above it wasn't good when its turn came
    passed-by : (h i : ℕ) → IsPassedBy j h i pass.visits w pass.behind → IsUnderBad j h i w w'
    passed-by h i by = record {
      beside = by.beside;
      same = by.same;
      a = by.a;
      b = by.b;
      part = record { earlier = by.earlier; later = by.later ++ us.0; before = by.before; behind = runs-then j by.later us.0 by.b pass.behind w' by.behind us.1 };
      read = by.read;
      cut = passed-for j h i pass.visits w pass.behind by sure-visits.hash_none;
    }

    -- to a block that is damaged later, and doesn't count as lost, the pass didn't come
    pub unreached : (vs later : List Visit) (a : RepairWorld) (n : ℕ) → VisitsAll j vs pass.behind a → VisitsAll j later a w' → (IsAmong lost n → ⊥) → IsDamaged l f a n → IsUnreached j l n st
    unreached vs later a n runs rest unknown damaged h i at =
        elim (pass.looked h i at.place.high at.place.inside) [
          | inr by ↦ inl (passed-by h i by)
          | inl seen ↦ elim (visited-formed form j valid f former l fits h i n at pass.visits w pass.behind pass.runs sure-visits holds.ready seen) [
            | inl known ↦ absurd (unknown (recorded-known j.tree.shape valid l holds.kept.layout h i n at known.0 recorded lost pass.sought.are known.1))
            | inr is ↦ elim (formed-on form j valid f former l fits h i n at vs pass.behind a runs (sure-before j later pass.behind a w' rest sure-behind) holds-behind.ready is) [
              | inl now ↦ absurd (damaged now)
              | inr clash ↦ inr clash
            ]
          ]
        ]

    -- ---- a block that is sought

    module _ (h i : ℕ) (at_in : IsRecordedIn j.tree.shape h i false recorded) (high : h ≤ levels j.tree.shape) (x : IsTriedIn j l lost h i pass.behind w' p p') where
      none-tried : HaveCountedNone x.a x.b x.q x.q'
      none-tried =
          none-left x.a x.b w' x.q x.q' p' (counting-runs j x.later x.b w' x.q' p' x.behind x.parity_behind)
          (none-right pass.behind x.a w' p x.q p' (counting-runs j x.earlier pass.behind x.a p x.q x.before x.parity_read)
          (none-right w pass.behind w' p p p' (counting-runs j pass.visits w pass.behind p p pass.runs (parity-none p)) none))

      module _ (a : RepairWorld) (read : IsWorldRead x.a a) where
        abbrev tr : Trial
        tr = trial l lost a x.b x.q x.q'

        runs-to : VisitsAll j (x.earlier ++ []) pass.behind a
        runs-to = runs-then j x.earlier [] pass.behind x.a a x.before read

        within : IsTrialSettled j f st tr h x.beside → IsSoughtWithin j l lost f st p h i
        within outcome = record {
          beside = x.beside;
          same = x.same;
          a = a;
          b = x.b;
          q = x.q;
          q' = x.q';
          part = record { earlier = x.earlier ++ []; later = x.later; before = runs-to; behind = x.behind };
          parity_read = x.parity_read;
          outcome = outcome;
        }

        -- why parity doesn't bring it back, if nothing is written
        known-at : (k : ℕ) → IsCoveredAt j.tree.shape l h x.beside k → IsAmong lost k
        known-at k at =
            recorded-known j.tree.shape valid l holds.kept.layout h x.beside k at false recorded lost pass.sought.are (recorded-beside j.tree.shape h i x.beside false recorded x.same at_in)

        module _ (left : IsLeft tr) where
          rest : VisitsAll j x.later a w'
          rest = runs-read j x.later a x.b w' left.image x.behind

          holds-then : HoldsParity j.tree.shape l f a x.q
          holds-then = holds-later j valid l f (x.earlier ++ []) pass.behind a p x.q runs-to x.parity_read.read (sure-before j x.later pass.behind a w' rest sure-behind) holds-behind

          -- from the other blocks of its round
          module _ (m : RepairWorld) (s : Device) (first : IsLeft (trial l lost a m x.q s)) (last : IsLeft (trial l lost m x.b s x.q')) where
            none-first : HaveCountedNone a m x.q s
            none-first =
                none-left a m x.b x.q s x.q' (counting-read m x.b s x.q' last.image last.parity)
                (none-right x.a a x.b x.q x.q x.q' (counting-read x.a a x.q x.q read (parity-none x.q)) none-tried)

            unmade-past : (k : ℕ) → IsCoveredAt j.tree.shape l h x.beside k → IsBlockUnmade (trial l lost a m x.q s) k → IsRoundPast j f st tr h x.beside
            unmade-past k at (TooManyLost count, (of, (is, many, unasked))) = record { k = k; at = at; known = known-at k at; past = inl (rw (sym is) many) }
            unmade-past k at (TooSmall needed, (of, (is, small, unasked))) = record { k = k; at = at; known = known-at k at; past = inr (inl (rw (sym is) small)) }
            unmade-past k at (DeviceFailed, (of, failed)) = absurd (none-failed a m x.q s (counting-read a m x.q s first.image first.parity) none-first failed)
            unmade-past k at (NoMemory, (of, unasked)) = absurd of

          hidden-past : (m : RepairWorld) (s : Device) (k : ℕ) → IsCoveredAt j.tree.shape l h x.beside k → IsUnknownBeside f (trial l lost a m x.q s) k → IsRoundPast j f st tr h x.beside
          hidden-past m s k at u = record {
            k = k;
            at = at;
            known = known-at k at;
            past = inr (inr (record { n = u.n; beside = u.beside; unknown = u.unknown; damaged = u.damaged; unreached = unreached (x.earlier ++ []) x.later a u.n runs-to rest u.unknown u.damaged }));
          }

          vain-past : (way_path : PathRecord) → IsWay j.tree x.beside h way_path → (v : IsVainFirst j way_path h x.beside tr) → IsVain j way_path h x.beside (trial l lost a v.between x.q v.parity_between)
              → (IsOffPlace j.tree.shape l h x.beside ⊎ IsRoundPast j f st tr h x.beside) ⊎ Collide j.tree.salt
          vain-past way_path way v (inl (inl size)) = absurd (size (size-is h))
          vain-past way_path way v (inl (inr off)) = inl (inl off)
          vain-past way_path way v (inr (k, (at, inl unmade))) =
              inl (inr (unmade-past v.between v.parity_between (record { image = v.first.image; parity = v.first.parity }) (record { image = v.rest.image; parity = v.rest.parity }) k at unmade))
          vain-past way_path way v (inr (k, (at, inr other))) = elim (other-unknown (trial l lost a v.between x.q v.parity_between) way_path h x.beside k holds-then at way other) [
            | inl unknown ↦ inl (inr (hidden-past v.between v.parity_between k at unknown))
            | inr clash ↦ inr clash
          ]

      tried-within : (back : Bool) → IsTriedBehind j h x.beside (trial l lost x.a x.b x.q x.q') back → IsSoughtWithin j l lost f st p h i ⊎ Collide j.tree.salt
      tried-within true behind = inl (within behind.between behind.read (inl behind.tried.0))
      tried-within false behind = elim behind.tried.1 [
        | inr good ↦ inl (within behind.between behind.read (inr (behind.tried.0.image, inl good)))
        | inl along ↦ elim (vain-past behind.between behind.read behind.tried.0 along.p along.way along.vain along.vain.vain) [
          | inl vain ↦ inl (within behind.between behind.read (inr (behind.tried.0.image, inr (record { p = along.p; way = along.way; vain = vain }))))
          | inr clash ↦ inr clash
        ]
      ]

      -- a hash block above it wasn't good
      cut-under : IsWorldRead x.a x.b → IsCutOff j.tree x.beside h x.a.hash_dev → IsUnderBad j h i w w'
      cut-under read cut = record {
        beside = x.beside;
        same = above-same j.tree.shape valid h i x.beside x.same (h + 1) (omega arith);
        a = x.a;
        b = x.b;
        part = record { earlier = pass.visits ++ x.earlier; later = x.later; before = runs-then j pass.visits x.earlier w pass.behind x.a pass.runs x.before; behind = x.behind };
        read = read;
        cut = cut;
      }

      sought-within : (back : Bool) → IsSoughtAt j h x.beside (trial l lost x.a x.b x.q x.q') false back → (IsUnderBad j h i w w' ⊎ IsSoughtWithin j l lost f st p h i) ⊎ Collide j.tree.salt
      sought-within back (inl (none, (left, inl off))) = absurd (off (record { valid = valid; inside = x.inside; high = high }))
      sought-within back (inl (none, (left, inr (inl failed)))) = absurd (unfailed x.a.hash_dev x.b.hash_dev (inl (omega (arith, left.image.hash_more))) none-tried.hash_none failed.0)
      sought-within back (inl (none, (left, inr (inr cut)))) = inl (inl (cut-under left.image cut))
      sought-within back (inr behind) = elim (tried-within back behind) [
        | inl came ↦ inl (inr came)
        | inr clash ↦ inr clash
      ]

    pub settled-within : (h i : ℕ) → h ≤ levels j.tree.shape → i < j.tree.shape.blocks → IsSettledWithin j l lost pass.visits f st p h i ⊎ Collide j.tree.salt
    settled-within h i high inside = elim (pass.looked h i high inside) [
      | inr by ↦ inl (inr (inl (passed-by h i by)))
      | inl seen ↦ elim (visited-or j h i pass.visits w pass.behind pass.runs seen) [
        | inl had ↦ inl (inl had)
        | inr at_in ↦
            let x = recorded-tried j l lost h i recorded pass.behind w' p p' pass.hash_came pass.sought.sought at_in in
            elim (sought-within h i at_in high x x.back x.sought) [
              | inl settled ↦ inl (inr settled)
              | inr clash ↦ inr clash
            ]
      ]
    ]

pub within-parity : FormedChainsAreGood → LostBlocksWithinParityComeBack
within-parity form plan l f w w' p p' r h i high inside =
    let passes = r.seeks.ends.passes in
    settled-within form (job_of plan true) r.seeks.lies.valid f r.former l r.sizes passes.last w' passes.last_parity p' r.seeks.ends.again passes.pass
    (holds-last plan l f w w' p p' r) (sure-last plan l f w w' p p' r) h i high inside
