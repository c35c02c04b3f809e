-- What counts as lost is damaged before the run, and counts once.
use Rattle.std.proofs.Common.{◌≡◌, ◌≤◌, ◌<◌, ◌+◌, ◌*◌, ◌/◌, ◌%◌, ◌++◌, ◌&&◌, ℕ, zero, suc, Bool, true, not, nat_lt, List, [], ◌∷◌, Option, None, Some, refl, sym, ap, ◌∙◌, subst, arith, inl, inr, ◌⊎◌}
use Rattle.std.specs.Prelude.{◌==◌}
use Rattle.std.specs.List.{flat_map}
use Rattle.std.specs.Str.{bytes_eq}
use Rattle.std.proofs.lemmas.Bool.{and_from, and_parts, cases_Bool, eq-eqb, false≢true, not_from_false, not_from_true}
use Rattle.fec_area.specs.declared.layout.Layout.{Layout}
use Rattle.fec_area.specs.Layouts.{IsLayout, code_rounds, covered, covered_blocks}
use Rattle.fec_area.specs.Restoring.{IsAmong, is_beside, lost_count, round_of}
use Rattle.fec_area.proofs.RestoringLemmas.{beside-round}
use Rattle.fec_area.proofs.WritingLemmas.{bytes-same}
use Rattle.hash_tree.specs.Laws.{FormedChainsAreGood}
use Rattle.tree_shape.specs.Digests.{digest}
use Rattle.tree_shape.specs.Shape.{ShapeRecord, IsShape, ancestor, position}
use Rattle.tree_path.specs.Laws.{Collide}
use Rattle.tree_path.proofs.lemmas.ChainLemmas.{same-or}
use Rattle.verity_format.proofs.lemmas.SizeLemmas.{block-size}
use Rattle.verity_format.specs.Blocks.{block_at}
use Rattle.tree_repair.specs.declared.bad.BadBlock.{BadBlock}
use Rattle.tree_repair.specs.declared.mending.Mended.{Mended}
use Rattle.tree_repair.specs.declared.mending.Mended.TheVariants as mended
use Rattle.tree_repair.specs.declared.place.Place.{Place}
use Rattle.tree_repair.specs.Coverage.{AreVisitedOnce, IsVisitedIn}
use Rattle.tree_repair.specs.Mending.{IsFoundNowhere, IsMended}
use Rattle.tree_repair.specs.Noting.{bad_blocks, found_of}
use Rattle.tree_repair.specs.Parity.{IsCoveredAt}
use Rattle.tree_repair.specs.Passes.{bad_of}
use Rattle.tree_repair.specs.Repairs.{job_of}
use Rattle.tree_repair.specs.Runs.{IsVisited, Job, Visit, VisitsAll, look_at, own, sector_at, size_at}
use Rattle.tree_repair.specs.Sources.{bytes_on_device}
use Rattle.tree_repair.specs.ParitySearches.{AreCovered}
use Rattle.tree_repair.specs.WithinParity.{DamagedBlocksWithinParityComeBack, FormerImage, HasTreeSizes, IsAsFormed, IsDamaged, IsFormerOf, damaged_count, is_damaged}
use Rattle.tree_repair.specs.Worlds.{IsImageUnfailed, RepairWorld}
use Rattle.tree_repair.proofs.ApartLemmas.{IsSamePlace, same-or-elsewhere}
use Rattle.tree_repair.proofs.BeyondLemmas.{all-visits}
use Rattle.tree_repair.proofs.DataBackLemmas.{data-back}
use Rattle.tree_repair.proofs.DistinctLemmas.{AreDifferent, among-first, among-more, among-none, among-split, but, but-from, count-but, count-different}
use Rattle.tree_repair.proofs.ExcuseLemmas.{counted-left, more-none}
use Rattle.tree_repair.proofs.FormerLemmas.{former-digest}
use Rattle.tree_repair.proofs.NumberLemmas.{of-data, of-hash}
use Rattle.tree_repair.proofs.RunLemmas.{read-same, runs-one}
use Rattle.tree_repair.proofs.StandLemmas.{IsReady}
use Rattle.tree_repair.proofs.StayFormedLemmas.{covered-same, own-steady, read-images, ready-same, rest-sure, runs-kept, visit-ready, visit-sure-in}
use Rattle.tree_repair.proofs.UnfailedLemmas.{image-sure, own-sure, sure-before, unfailed}
use Rattle.tree_repair.proofs.WithinParityLemmas.{HoldsParity, holds-first, holds-last, sure-earlier, sure-last}

-- ---- numbers that count as lost

-- what is noted of a visit comes first among them
record IsCoveredFirst (s : ShapeRecord) (l : Layout) (place : Place) (o : Option Bool) (bs : List BadBlock) (lost : List ℕ) : Type 0 where
  k : ℕ
  rest : List ℕ
  are : lost ≡ k ∷ rest
  found : Bool
  told : o ≡ Some found
  at : IsCoveredAt s l place.height place.index k
  more : AreCovered s l bs rest

module _ (s : ShapeRecord) (l : Layout) where
  covered-step : (place : Place) (o : Option Bool) (bs : List BadBlock) (lost : List ℕ) → AreCovered s l (bad_blocks place o ++ bs) lost
      → AreCovered s l bs lost ⊎ IsCoveredFirst s l place o bs lost
  covered-step place None bs lost are = inl are
  covered-step place (Some found) bs lost (inl (k, (rest, (is, (at, more))))) = inr (record { k = k; rest = rest; are = is; found = found; told = refl; at = at; more = more })
  covered-step place (Some found) bs lost (inr (off, more)) = inl more

  pub lost-inside : (bs : List BadBlock) (lost : List ℕ) → AreCovered s l bs lost → (n : ℕ) → IsAmong lost n → n < covered_blocks l
  lost-inside [] lost are n among = absurd (among-none n (subst (λ (xs : List ℕ). IsAmong xs n) are among))
  lost-inside (b ∷ more) lost (inr (off, are)) n among = lost-inside more lost are n among
  lost-inside (b ∷ more) lost (inl (k, (rest, (is, (here, are))))) n among = elim (among-split k rest n (subst (λ (xs : List ℕ). IsAmong xs n) is among)) [
    | inl same ↦ subst (λ (m : ℕ). m < covered_blocks l) same here.inside
    | inr later ↦ lost-inside more rest are n later
  ]

module _ (s : ShapeRecord) (valid : IsShape s) (l : Layout) (laid : IsLayout l) where
  -- blocks with one number are the same
  one-place : (h i g m k : ℕ) → IsCoveredAt s l h i k → IsCoveredAt s l g m k → IsSamePlace s h i g m
  one-place zero i zero m k here there =
      let same : m ≡ i = sym (of-data l laid m k there.is).0 ∙ (of-data l laid i k here.is).0 in
      (refl, ap (ancestor s 0) same)
  one-place zero i (suc g) m k here there =
      let a = of-data l laid i k here.is in
      let b = of-hash l laid (position s g (ancestor s (g + 1) m)) k there.is in
      absurd (omega (arith, a.0, a.1, b.0))
  one-place (suc h) i zero m k here there =
      let a = of-data l laid m k there.is in
      let b = of-hash l laid (position s h (ancestor s (h + 1) i)) k here.is in
      absurd (omega (arith, a.0, a.1, b.0))
  one-place (suc h) i (suc g) m k here there =
      let a = of-hash l laid (position s h (ancestor s (h + 1) i)) k here.is in
      let b = of-hash l laid (position s g (ancestor s (g + 1) m)) k there.is in
      let first : sector_at s (suc h) i ≡ sector_at s (suc g) m = ap (λ (n : ℕ). n * (s.hash_block / 512)) (sym a.1 ∙ b.1) in
      elim (same-or-elsewhere s (suc h) i (suc g) m here.place there.place) [
        | inl same ↦ same
        | inr (inl before) ↦ absurd (omega (arith, before, first, (block-size s.hash_block valid.hash_size).least))
        | inr (inr behind) ↦ absurd (omega (arith, behind, first, (block-size s.hash_block valid.hash_size).least))
      ]

  module _ (j : Job) where
    -- a number that counts as lost is that of a block that was visited
    lost-visited : (vs : List Visit) (lost : List ℕ) → AreCovered s l (flat_map (bad_of j) vs) lost → (h i k : ℕ) → IsCoveredAt s l h i k → IsAmong lost k → IsVisitedIn s h i vs
    lost-visited [] lost are h i k at among = absurd (among-none k (subst (λ (xs : List ℕ). IsAmong xs k) are among))
    lost-visited (v ∷ more) lost are h i k at among =
        elim (covered-step s l (record { height = v.height; index = v.index }) (found_of j.write v.mended) (flat_map (bad_of j) more) lost are) [
          | inl later ↦ inr (lost-visited more lost later h i k at among)
          | inr first ↦ elim (among-split first.k first.rest k (subst (λ (xs : List ℕ). IsAmong xs k) first.are among)) [
            | inl same ↦
                let place = one-place h i v.height v.index k at (subst (λ (n : ℕ). IsCoveredAt s l v.height v.index n) same first.at) in
                inl (record { height_is = place.0; same = place.1 })
            | inr there ↦ inr (lost-visited more first.rest first.more h i k at there)
          ]
        ]

    -- so where no block is visited twice none counts twice
    pub lost-different : (vs : List Visit) (lost : List ℕ) → AreVisitedOnce s vs → AreCovered s l (flat_map (bad_of j) vs) lost → AreDifferent lost
    lost-different [] lost once are = subst (λ (xs : List ℕ). AreDifferent xs) (sym are) tt
    lost-different (v ∷ more) lost once are =
        elim (covered-step s l (record { height = v.height; index = v.index }) (found_of j.write v.mended) (flat_map (bad_of j) more) lost are) [
          | inl later ↦ lost-different more lost once.1 later
          | inr first ↦ subst (λ (xs : List ℕ). AreDifferent xs) (sym first.are) (
            λ among. once.0 (lost-visited more first.rest first.more v.height v.index first.k first.at among),
            lost-different more first.rest once.1 first.more,
          )
        ]

-- ---- they are damaged

none-told : (found : Bool) → None ≡ Some found → ⊥
none-told found told = cc

-- of what was written nothing is noted
told-written : (m : Mended) (found : Bool) → found_of true m ≡ Some found → m ≡ mended.Lost
told-written mended.Good found told = absurd (none-told found told)
told-written (mended.Copy k) found told = absurd (none-told found told)
told-written mended.Remade found told = absurd (none-told found told)
told-written mended.Parity found told = absurd (none-told found told)
told-written mended.Lost found told = refl

told-lost : (write : Bool) (m : Mended) (found : Bool) → write ≡ true → found_of write m ≡ Some found → m ≡ mended.Lost
told-lost write m found writes told = told-written m found (ap (λ (b : Bool). found_of b m) (sym writes) ∙ told)

module _ (form : FormedChainsAreGood) (j : Job) (valid : IsShape j.tree.shape) (f : FormerImage) (former : IsFormerOf j.tree f) (l : Layout) (fits : HasTreeSizes j.tree.shape l) where
  -- the bytes of a covered block
  stands-covered : (h i k : ℕ) → IsCoveredAt j.tree.shape l h i k → (w : RepairWorld)
      → bytes_on_device (own h w) (sector_at j.tree.shape h i) (size_at j.tree.shape h / 512) ≡ covered l w.data_dev.image w.hash_dev.image k
  unfolding block_at
  stands-covered zero i k at w = sym (at.is.bytes w.data_dev.image w.hash_dev.image ∙ ap (λ (n : ℕ). block_at w.data_dev.image n i) at.size)
  stands-covered (suc g) i k at w =
      sym (at.is.bytes w.data_dev.image w.hash_dev.image ∙ ap (λ (n : ℕ). block_at w.hash_dev.image n (position j.tree.shape g (ancestor j.tree.shape (g + 1) i))) at.size)

  -- a block that is as it was formatted isn't lost
  lost-other : (v : Visit) (a b : RepairWorld) → IsVisited j v a b → v.mended ≡ mended.Lost → IsImageUnfailed a b → IsReady j.tree.shape a → (k : ℕ)
      → IsCoveredAt j.tree.shape l v.height v.index k → IsAsFormed l f a k → Collide j.tree.salt
  lost-other v a b here lost sure ready k at is =
      let nowhere : IsFoundNowhere (look_at j here.p v.height v.index a b) =
      subst (λ (m : Mended). IsMended (look_at j here.p v.height v.index a b) v.bytes v.done m) lost here.mended_as in
      elim nowhere.bad [
        | inl failed ↦
            let d = look_at j here.p v.height v.index a b in
            absurd (unfailed d.old nowhere.seen (more-none d.old nowhere.seen nowhere.more) (counted-left d.old nowhere.seen d.new (more-none nowhere.seen d.new nowhere.beneath_more) (own-sure v.height a b sure)) failed.0)
        | inr other ↦ elim (former-digest j.tree valid f former form l v.height v.index k at here.p here.way) [
          | inr clash ↦ clash
          | inl good ↦ absurd (other.other (ap (digest j.tree.salt) (other.stand (own-steady j.tree.shape v.height a ready) ∙ stands-covered v.height v.index k at a ∙ is) ∙ good))
        ]
      ]

  -- what counts as lost after visits wasn't as it was formatted before them
  lost-damaged : j.write ≡ true → (vs : List Visit) (w w' : RepairWorld) → VisitsAll j vs w w' → IsImageUnfailed w w' → IsReady j.tree.shape w → (lost : List ℕ)
      → AreCovered j.tree.shape l (flat_map (bad_of j) vs) lost → (n : ℕ) → IsAmong lost n → IsAsFormed l f w n → Collide j.tree.salt
  lost-damaged write [] w w' runs sure ready lost are n among is = absurd (among-none n (subst (λ (xs : List ℕ). IsAmong xs n) are among))
  lost-damaged write (v ∷ more) w w' (a, (b, (read, (here, rest)))) sure ready lost are n among is =
      let sure_a : IsImageUnfailed a b = visit-sure-in j v more w a b w' read here rest sure in
      let ready_a : IsReady j.tree.shape a = ready-same j.tree.shape w a (read-same w a read) (read-images j.tree.shape w a read ready) ready in
      let sure_b : IsImageUnfailed b w' = rest-sure j v more w a b w' read here rest sure in
      let ready_b : IsReady j.tree.shape b = visit-ready j valid v a b here sure_a ready_a in
      let is_a : IsAsFormed l f a n = covered-same l w a n (read-images j.tree.shape w a read ready) ∙ is in
      let inside : n < covered_blocks l = lost-inside j.tree.shape l (flat_map (bad_of j) (v ∷ more)) lost are n among in
      let later : (xs : List ℕ) → AreCovered j.tree.shape l (flat_map (bad_of j) more) xs → IsAmong xs n → Collide j.tree.salt =
      λ xs are_xs among_xs. elim (runs-kept form j valid f former l fits (v ∷ []) a b (runs-one j v a b here) sure_a ready_a n inside is_a) [
        | inr clash ↦ clash
        | inl is_b ↦ lost-damaged write more b w' rest sure_b ready_b xs are_xs n among_xs is_b
      ] in
      elim (covered-step j.tree.shape l (record { height = v.height; index = v.index }) (found_of j.write v.mended) (flat_map (bad_of j) more) lost are) [
        | inl none ↦ later lost none among
        | inr first ↦ elim (among-split first.k first.rest n (subst (λ (xs : List ℕ). IsAmong xs n) first.are among)) [
          | inr there ↦ later first.rest first.more there
          | inl same ↦
              lost-other v a b here (told-lost j.write v.mended first.found write first.told) sure_a ready_a n (subst (λ (k : ℕ). IsCoveredAt j.tree.shape l v.height v.index k) same first.at) is_a
        ]
      ]

-- ---- how many they are

-- each of these numbers is that of a damaged block, if two different inputs don't have one digest
damaged-or : (l : Layout) (f : FormerImage) (w : RepairWorld) (Clash : Type 0) (xs : List ℕ) → ((n : ℕ) → IsAmong xs n → IsAsFormed l f w n → Clash)
    → ((n : ℕ) → IsAmong xs n → IsDamaged l f w n) ⊎ Clash
damaged-or l f w Clash [] clash = inl (λ n among. absurd (among-none n among))
damaged-or l f w Clash (x ∷ xs) clash = elim (same-or (covered l w.data_dev.image w.hash_dev.image x) (covered l f.data_image f.hash_image x)) [
  | inl same ↦ inr (clash x (among-first x xs) same)
  | inr other ↦ elim (damaged-or l f w Clash xs (λ n among. clash n (among-more x xs n among))) [
    | inr found ↦ inr found
    | inl all ↦ inl (λ n among. elim (among-split x xs n among) [
      | inl here ↦ subst (IsDamaged l f w) here other
      | inr there ↦ all n there
    ])
  ]
]

damaged-true : (l : Layout) (f : FormerImage) (w : RepairWorld) (n : ℕ) → IsDamaged l f w n → is_damaged l f w n ≡ true
damaged-true l f w n damaged =
    let now : List ℕ = covered l w.data_dev.image w.hash_dev.image n in
    let formerly : List ℕ = covered l f.data_image f.hash_image n in
    elim (cases_Bool (bytes_eq now formerly)) [
      | inl same ↦ absurd (damaged (bytes-same now formerly same))
      | inr other ↦ not_from_false (bytes_eq now formerly) other
    ]

beside-other : (l : Layout) (k n : ℕ) → is_beside l k n ≡ true → n ≡ k → ⊥
beside-other l k n beside same =
    let front = nat_lt n (covered_blocks l) && (n % code_rounds l == round_of l k) in
    let not_same : not (n == k) ≡ true = (and_parts front (not (n == k)) beside).1 in
    false≢true (sym (not_from_true (n == k) (eq-eqb n k same)) ∙ not_same)

-- of a round at most as many are lost as are damaged
lost-few : (l : Layout) (f : FormerImage) (w : RepairWorld) (lost : List ℕ) → AreDifferent lost → ((n : ℕ) → IsAmong lost n → n < covered_blocks l)
    → ((n : ℕ) → IsAmong lost n → IsDamaged l f w n) → (k : ℕ) → IsAmong lost k → lost_count l lost k ≤ damaged_count l f w (round_of l k)
lost-few l f w lost different inside damaged k among =
    let p : ℕ → Bool = λ n. (round_of l n == round_of l k) && is_damaged l f w n in
    let passes : (n : ℕ) → IsAmong lost n → round_of l n ≡ round_of l k → p n ≡ true = λ n at same.
    and_from (round_of l n == round_of l k) (is_damaged l f w n) (eq-eqb (round_of l n) (round_of l k) same) (damaged-true l f w n (damaged n at)) in
    let others = count-different (is_beside l k) (but p k) lost (covered_blocks l) different
    (λ n at beside. (but-from p k n (passes n at (beside-round l k n beside)) (beside-other l k n beside), inside n at)) in
    omega (arith, others, count-but p k 0 (covered_blocks l) (passes k among refl) (omega arith) (omega (arith, inside k among)))

pub damaged-back : FormedChainsAreGood → DamagedBlocksWithinParityComeBack
damaged-back form plan write l f w w' p p' r tree room i low few =
    let j : Job = job_of plan true in
    let s : ShapeRecord = j.tree.shape in
    let passes = r.seeks.ends.passes in
    let pass = passes.pass in
    let bs : List BadBlock = flat_map (bad_of j) pass.visits in
    let lost : List ℕ = pass.sought.lost in
    let us = all-visits j l lost bs pass.behind w' passes.last_parity p' pass.hash_came pass.sought.sought in
    let sure_last : IsImageUnfailed passes.last pass.behind =
    sure-before j us.0 passes.last pass.behind w' us.1 (image-sure passes.last w' passes.last_parity p' (sure-last plan l f w w' p p' r)) in
    let first : HoldsParity s l f w p = holds-first plan l f w w' p p' r in
    let last : HoldsParity s l f passes.last passes.last_parity = holds-last plan l f w w' p p' r in
    let inside : (n : ℕ) → IsAmong lost n → n < covered_blocks l = lost-inside s l bs lost pass.sought.are in
    let clash : (n : ℕ) → IsAmong lost n → IsAsFormed l f w n → Collide j.tree.salt = λ n among is.
    elim (runs-kept form j r.seeks.lies.valid f r.former l r.sizes passes.earlier w passes.last passes.before (sure-earlier plan l f w w' p p' r) first.ready n (inside n among) is) [
      | inr found ↦ found
      | inl now ↦ lost-damaged form j r.seeks.lies.valid f r.former l r.sizes write pass.visits passes.last pass.behind pass.runs sure_last last.ready lost pass.sought.are n among now
    ] in
    elim (damaged-or l f w (Collide j.tree.salt) lost clash) [
      | inr found ↦ inr found
      | inl damaged ↦
          data-back form plan write l f w w' p p' r tree room i low
          (λ among. omega (arith, lost-few l f w lost (lost-different s r.seeks.lies.valid l first.kept.layout j pass.visits lost pass.once pass.sought.are) inside damaged i among, few))
    ]
