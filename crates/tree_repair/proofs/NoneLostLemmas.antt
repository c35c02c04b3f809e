-- Where the last pass knows each damaged block of a round, and not too many of it, no block of that round stays lost.
use Rattle.std.proofs.Common.{◌≡◌, ◌≤◌, ◌<◌, ℕ, Bool, true, IsTrue, List, [], ◌∷◌, ◌++◌, refl, sym, ap, ◌∙◌, subst, arith, inl, inr, ◌⊎◌}
use Rattle.std.specs.List.{flat_map}
use Rattle.block_device.specs.Device.{Device}
use Rattle.fec_area.specs.declared.layout.Layout.{Layout}
use Rattle.fec_area.specs.Layouts.{covered, covered_blocks, parity_sectors}
use Rattle.fec_area.specs.Restoring.{IsAmong, is_beside, lost_count}
use Rattle.hash_tree.specs.Laws.{FormedChainsAreGood}
use Rattle.tree_shape.specs.Digests.{digest}
use Rattle.tree_shape.specs.Shape.{IsShape, ancestor}
use Rattle.tree_path.specs.Laws.{Collide}
use Rattle.tree_path.proofs.lemmas.ChainLemmas.{same-or}
use Rattle.verity_format.proofs.lemmas.DeviceLemmas.{only_read-none}
use Rattle.verity_format.specs.Blocks.{IsOnlyRead}
use Rattle.tree_repair.specs.declared.mending.Mended.TheVariants as mended
use Rattle.tree_repair.specs.Beyond.{HaveCountedNone, IsUnderBad}
use Rattle.tree_repair.specs.Parity.{IsCoveredAt, IsGoodNow}
use Rattle.tree_repair.specs.Passes.{IsPass, bad_of}
use Rattle.tree_repair.specs.Repairs.{job_of}
use Rattle.tree_repair.specs.Runs.{Job, Visit, VisitsAll, visit}
use Rattle.tree_repair.specs.Standing.{StandsGood}
use Rattle.tree_repair.specs.ParitySearches.{IsBroughtBack, IsGoodBehind, trial}
use Rattle.tree_repair.specs.WithinParity.{FormerImage, HasTreeSizes, IsAsFormed, IsDamaged, IsFormerOf, IsHiddenBeside, IsPastParity, IsSoughtWithin, NoBlockStaysLostWithinParity, Stage, stage}
use Rattle.tree_repair.specs.Worlds.{IsImageUnfailed, IsWorldRead, RepairWorld}
use Rattle.tree_repair.proofs.BeyondLemmas.{all-visits}
use Rattle.tree_repair.proofs.NumberLemmas.{covered-one, off-not}
use Rattle.tree_repair.proofs.RecordedLemmas.{beside-formed, formed-on, had-formed}
use Rattle.tree_repair.proofs.KeepLemmas.{runs-before}
use Rattle.tree_repair.proofs.RunLemmas.{read-same, runs-one, runs-read, runs-then}
use Rattle.tree_repair.proofs.StandLemmas.{IsReady}
use Rattle.tree_repair.proofs.StayFormedLemmas.{covered-same, own-steady, read-images, ready-same, runs-kept, runs-ready-sure, visit-stands}
use Rattle.tree_repair.proofs.UnfailedLemmas.{image-sure, sure-after, sure-before}
use Rattle.tree_repair.proofs.UnknownLemmas.{beside-inside}
use Rattle.tree_repair.proofs.WithinParityLemmas.{HoldsParity, holds-last, holds-later, settled-within, sure-last}

-- the visit of a block that came back
back-run : (j : Job) (h beside : ℕ) (a b : RepairWorld) → IsBroughtBack j h beside a b → (us : List Visit) × VisitsAll j us a b
back-run j h beside a b back =
    let v : Visit = visit h beside mended.Parity back.bytes true in
    (v ∷ [], runs-read j (v ∷ []) a back.between b back.read (runs-before j (v ∷ []) back.between back.behind b (runs-one j v back.between back.behind back.visited) back.read_back))

module _ (form : FormedChainsAreGood) (j : Job) (valid : IsShape j.tree.shape) (write : j.write ≡ true) (f : FormerImage) (former : IsFormerOf j.tree f) (l : Layout) (fits : HasTreeSizes j.tree.shape l) where
  module _ (h i k : ℕ) (at : IsCoveredAt j.tree.shape l h i k) where
    -- a block that came back is as it was
    back-formed : (beside : ℕ) (a b : RepairWorld) → ancestor j.tree.shape h beside ≡ ancestor j.tree.shape h i → IsBroughtBack j h beside a b → IsImageUnfailed a b → IsReady j.tree.shape a
        → IsAsFormed l f b k ⊎ Collide j.tree.salt
    back-formed beside a b same back sure ready =
        let v : Visit = visit h beside mended.Parity back.bytes true in
        let sure_then : IsImageUnfailed back.between back.behind =
        sure-before j [] back.between back.behind b back.read_back (sure-after j [] a back.between b back.read sure) in
        let ready_then : IsReady j.tree.shape back.between =
        ready-same j.tree.shape a back.between (read-same a back.between back.read) (read-images j.tree.shape a back.between back.read ready) ready in
        let ready_behind : IsReady j.tree.shape back.behind =
        runs-ready-sure j valid (v ∷ []) back.between back.behind (runs-one j v back.between back.behind back.visited) sure_then ready_then in
        elim (beside-formed form j valid f former l fits back.behind h i h beside k at refl same (visit-stands j valid v back.between back.behind back.visited sure_then ready_then write refl tt)) [
          | inr clash ↦ inr clash
          | inl is ↦ inl (covered-same l back.behind b k (read-images j.tree.shape back.behind b back.read_back ready_behind) ∙ is)
        ]

    -- a block that is stored there by now is formed too
    by-now-formed : (beside : ℕ) (a b : RepairWorld) → ancestor j.tree.shape h beside ≡ ancestor j.tree.shape h i → IsWorldRead a b → IsGoodBehind j h beside a
        → IsReady j.tree.shape a → IsAsFormed l f b k ⊎ Collide j.tree.salt
    by-now-formed beside a b same read good ready =
        let between : RepairWorld = good.between in
        let steady = own-steady j.tree.shape h between (ready-same j.tree.shape a between (read-same a between good.read) (read-images j.tree.shape a between good.read ready) ready) in
        let now : IsGoodNow j h beside between = good.good in
        let stands : StandsGood j h beside between = record { p = now.p; way = now.way; good = ap (digest j.tree.salt) (sym (now.there.stand steady)) ∙ now.there.good } in
        elim (beside-formed form j valid f former l fits between h i h beside k at refl same stands) [
          | inr clash ↦ inr clash
          | inl is ↦ inl (
              covered-same l a b k (read-images j.tree.shape a b read ready)
              ∙ sym (covered-same l a between k (read-images j.tree.shape a between good.read ready)) ∙ is)
        ]

  module _ (w w' : RepairWorld) (p p' : Device) (again : Bool) (pass : IsPass j l w w' p p' again) (holds : HoldsParity j.tree.shape l f w p) (none : HaveCountedNone w w' p p') (room : parity_sectors l ≤ p.size) where
    abbrev st : Stage
    st = stage w pass.behind w'

    us : (us : List Visit) × VisitsAll j us pass.behind w'
    us = all-visits j l pass.sought.lost (flat_map (bad_of j) pass.visits) pass.behind w' p p' pass.hash_came pass.sought.sought

    sure-visits : IsImageUnfailed w pass.behind
    sure-visits = sure-before j us.0 w pass.behind w' us.1 (image-sure w w' p p' none)

    sure-behind : IsImageUnfailed pass.behind w'
    sure-behind = sure-after j pass.visits w pass.behind w' pass.runs (image-sure w w' p p' none)

    holds-behind : HoldsParity j.tree.shape l f pass.behind p
    holds-behind = holds-later j valid l f pass.visits w pass.behind p p pass.runs (only_read-none p) sure-visits holds

    -- a damaged block that isn't known was damaged already when parity was asked for the first block
    none-hidden : (k : ℕ) → ((n : ℕ) → IsTrue (is_beside l k n) → IsDamaged l f pass.behind n → IsAmong pass.sought.lost n ⊎ Collide j.tree.salt)
        → (vs : List Visit) (a b : RepairWorld) (q q' : Device) → VisitsAll j vs pass.behind a → IsImageUnfailed pass.behind a → IsHiddenBeside j f st (trial l pass.sought.lost a b q q') k → Collide j.tree.salt
    none-hidden k known vs a b q q' runs sure hidden =
        let inside : hidden.n < covered_blocks l = beside-inside l k hidden.n hidden.beside in
        elim (same-or (covered l pass.behind.data_dev.image pass.behind.hash_dev.image hidden.n) (covered l f.data_image f.hash_image hidden.n)) [
          | inr other ↦ elim (known hidden.n hidden.beside other) [
            | inl there ↦ absurd (hidden.unknown there)
            | inr clash ↦ clash
          ]
          | inl same ↦ elim (runs-kept form j valid f former l fits vs pass.behind a runs sure holds-behind.ready hidden.n inside same) [
            | inl now ↦ absurd (hidden.damaged now)
            | inr clash ↦ clash
          ]
        ]

    module _ (h i k : ℕ) (at : IsCoveredAt j.tree.shape l h i k) (few : IsAmong pass.sought.lost k → lost_count l pass.sought.lost k ≤ l.roots)
        (known : (n : ℕ) → IsTrue (is_beside l k n) → IsDamaged l f pass.behind n → IsAmong pass.sought.lost n ⊎ Collide j.tree.salt) where
      to-end : (vs : List Visit) (a : RepairWorld) → VisitsAll j vs a w' → IsImageUnfailed a w' → IsReady j.tree.shape a → IsAsFormed l f a k ⊎ Collide j.tree.salt → IsAsFormed l f w' k ⊎ Collide j.tree.salt
      to-end vs a runs sure ready is = formed-on form j valid f former l fits h i k at vs a w' runs sure ready is

      -- parity has it: what is lost of its round, and it alone, is within what the code can make again
      none-past : (vs : List Visit) (m : ℕ) (a b : RepairWorld) (q q' : Device) → ancestor j.tree.shape h m ≡ ancestor j.tree.shape h i → IsOnlyRead p q → VisitsAll j vs pass.behind a → IsImageUnfailed pass.behind a
          → IsPastParity j f st (trial l pass.sought.lost a b q q') h m → Collide j.tree.salt
      none-past vs m a b q q' same read runs sure past = elim past.vain [
        | inl off ↦ absurd (off-not j.tree.shape valid l holds.kept.layout h i m k same at off)
        | inr round ↦
            let own : round.k ≡ k = covered-one j.tree.shape valid l holds.kept.layout h i m k round.k same at round.at in
            elim round.past [
              | inl many ↦ absurd (omega (arith, subst (λ (n : ℕ). l.roots < lost_count l pass.sought.lost n) own many, few (subst (IsAmong pass.sought.lost) own round.known)))
              | inr rest ↦ elim rest [
                | inl short ↦ absurd (omega (arith, short, room, read.same.size))
                | inr hidden ↦ none-hidden k known vs a b q q' runs sure (subst (IsHiddenBeside j f st (trial l pass.sought.lost a b q q')) own hidden)
              ]
            ]
      ]

      module _ (x : IsSoughtWithin j l pass.sought.lost f st p h i) where
        sure-a : IsImageUnfailed x.a w'
        sure-a = sure-after j x.part.earlier pass.behind x.a w' x.part.before sure-behind

        -- it was sought by these visits
        module _ (vs : List Visit) (runs : VisitsAll j vs x.a x.b) where
          sure-to : IsImageUnfailed pass.behind x.a
          sure-to = sure-before j (vs ++ x.part.later) pass.behind x.a w' (runs-then j vs x.part.later x.a x.b w' runs x.part.behind) sure-behind

          sure-here : IsImageUnfailed x.a x.b
          sure-here = sure-before j x.part.later x.a x.b w' x.part.behind sure-a

          holds-a : HoldsParity j.tree.shape l f x.a x.q
          holds-a = holds-later j valid l f x.part.earlier pass.behind x.a p x.q x.part.before x.parity_read.read sure-to holds-behind

          from-b : IsAsFormed l f x.b k ⊎ Collide j.tree.salt → IsAsFormed l f w' k ⊎ Collide j.tree.salt
          from-b is = to-end x.part.later x.b x.part.behind (sure-after j vs x.a x.b w' runs sure-a) (runs-ready-sure j valid vs x.a x.b runs sure-here holds-a.ready) is

        sought-formed : IsAsFormed l f w' k ⊎ Collide j.tree.salt
        sought-formed = elim x.outcome [
          | inl back ↦
              let run = back-run j h x.beside x.a x.b back in
              from-b run.0 run.1 (back-formed h i k at x.beside x.a x.b x.same back (sure-here run.0 run.1) (holds-a run.0 run.1).ready)
          | inr left ↦ elim left.1 [
            | inl by_now ↦ from-b [] left.0 (by-now-formed h i k at x.beside x.a x.b x.same left.0 by_now (holds-a [] left.0).ready)
            | inr past ↦ inr (none-past x.part.earlier x.beside x.a x.b x.q x.q' x.same x.parity_read.read x.part.before (sure-to [] left.0) past)
          ]
        ]

      pub pass-formed : IsAsFormed l f w' k ⊎ (IsUnderBad j h i w w' ⊎ Collide j.tree.salt)
      pass-formed = elim (settled-within form j valid f former l fits w w' p p' again pass holds none h i at.place.high at.place.inside) [
        | inr clash ↦ inr (inr clash)
        | inl settled ↦ elim settled [
          | inl had ↦
              ending (to-end us.0 pass.behind us.1 sure-behind holds-behind.ready (had-formed form j valid f former l fits h i k at write pass.visits w pass.behind pass.runs sure-visits holds.ready had))
          | inr rest ↦ elim rest [
            | inl under ↦ inr (inl under)
            | inr sought ↦ ending (sought-formed sought)
          ]
        ]
      ]
        where
          ending : IsAsFormed l f w' k ⊎ Collide j.tree.salt → IsAsFormed l f w' k ⊎ (IsUnderBad j h i w w' ⊎ Collide j.tree.salt)
          ending (inl is) = inl is
          ending (inr clash) = inr (inr clash)

pub none-stays : FormedChainsAreGood → NoBlockStaysLostWithinParity
none-stays form plan write l f w w' p p' r h i k at enough =
    let passes = r.seeks.ends.passes in
    pass-formed form (job_of plan true) r.seeks.lies.valid write f r.former l r.sizes passes.last w' passes.last_parity p' r.seeks.ends.again passes.pass
    (holds-last plan l f w w' p p' r) (sure-last plan l f w w' p p' r)
    (omega (arith, enough.room, passes.parity_read.read.same.size)) h i k at enough.few (λ n beside damaged. inl (enough.known n beside damaged))
