-- Which blocks a pass knows as bad, and what holds of the others.
use Rattle.std.proofs.Common.{◌≡◌, ◌<◌, ◌+◌, ◌/◌, ℕ, zero, suc, Bool, true, false, IsTrue, List, [], ◌∷◌, ◌++◌, Option, None, Some, refl, sym, ap, ◌∙◌, subst, arith, inl, inr, ◌⊎◌}
use Rattle.std.specs.List.{concat, flat_map}
use Rattle.std.proofs.lemmas.Bool.{cases_Bool}
use Rattle.block_device.specs.Device.{run_of}
use Rattle.fec_area.specs.declared.layout.Layout.{Layout}
use Rattle.fec_area.specs.Layouts.{IsLayout}
use Rattle.fec_area.specs.Restoring.{IsAmong}
use Rattle.hash_tree.specs.Laws.{FormedChainsAreGood}
use Rattle.tree_shape.specs.Digests.{digest}
use Rattle.tree_shape.specs.Shape.{ShapeRecord, IsShape, ancestor, position}
use Rattle.tree_path.specs.Laws.{Collide}
use Rattle.verity_format.specs.Blocks.{block_at}
use Rattle.tree_repair.specs.declared.bad.BadBlock.{BadBlock}
use Rattle.tree_repair.specs.declared.mending.Mended.{Mended}
use Rattle.tree_repair.specs.declared.mending.Mended.TheVariants as mended
use Rattle.tree_repair.specs.declared.place.Place.{Place}
use Rattle.tree_repair.specs.Beyond.{IsHad, IsHadIn}
use Rattle.tree_repair.specs.Coverage.{IsVisitAt, IsVisitedIn}
use Rattle.tree_repair.specs.Mending.{IsBlockFound}
use Rattle.tree_repair.specs.Noting.{bad_blocks, found_of}
use Rattle.tree_repair.specs.Parity.{IsCoveredAt, IsPlace}
use Rattle.tree_repair.specs.Passes.{bad_of}
use Rattle.tree_repair.specs.Runs.{IsVisited, Job, VisitsAll, Visit, look_at, own, sector_at, size_at, visit}
use Rattle.tree_repair.specs.Standing.{IsNotLost, StandsGood}
use Rattle.tree_repair.specs.ParitySearches.{AreCovered, IsUncovered}
use Rattle.tree_repair.specs.WithinParity.{FormerImage, HasTreeSizes, IsAsFormed, IsFormerOf}
use Rattle.tree_repair.specs.Worlds.{IsImageUnfailed, RepairWorld}
use Rattle.tree_repair.proofs.DistinctLemmas.{among-more}
use Rattle.tree_repair.proofs.FormerLemmas.{former-stands}
use Rattle.tree_repair.proofs.NumberLemmas.{covered-not, covered-one}
use Rattle.tree_repair.proofs.RunLemmas.{read-same}
use Rattle.tree_repair.proofs.StandLemmas.{IsReady, stands-beside}
use Rattle.tree_repair.proofs.StayFormedLemmas.{own-steady, read-images, ready-same, rest-sure, runs-kept, visit-ready, visit-stands, visit-sure-in}
use Rattle.tree_repair.proofs.UnfailedLemmas.{look-done, own-sure}

-- ---- blocks that are recorded

-- this one is recorded as bad, and as found or not
pub record IsRecordedAt (s : ShapeRecord) (h i : ℕ) (found : Bool) (b : BadBlock) : Type 0 where
  pub found_is : b.found ≡ found
  pub inside : b.place.index < s.blocks
  pub height_is : b.place.height ≡ h
  pub same : ancestor s h b.place.index ≡ ancestor s h i

abbrev pub IsRecordedIn : ShapeRecord → ℕ → ℕ → Bool → List BadBlock → Type 0
IsRecordedIn s h i found [] = ⊥
IsRecordedIn s h i found (b ∷ more) = IsRecordedAt s h i found b ⊎ IsRecordedIn s h i found more

recorded-right : (s : ShapeRecord) (h i : ℕ) (found : Bool) (bs cs : List BadBlock) → IsRecordedIn s h i found cs → IsRecordedIn s h i found (bs ++ cs)
recorded-right s h i found [] cs at = at
recorded-right s h i found (b ∷ more) cs at = inr (recorded-right s h i found more cs at)

-- by another data block beneath
pub recorded-beside : (s : ShapeRecord) (h i m : ℕ) (found : Bool) (bs : List BadBlock) → ancestor s h m ≡ ancestor s h i → IsRecordedIn s h i found bs → IsRecordedIn s h m found bs
recorded-beside s h i m found [] same there = absurd there
recorded-beside s h i m found (b ∷ more) same (inl at) = inl (record { found_is = at.found_is; inside = at.inside; height_is = at.height_is; same = at.same ∙ sym same })
recorded-beside s h i m found (b ∷ more) same (inr there) = inr (recorded-beside s h i m found more same there)

-- what is recorded of a visit
recorded-here : (s : ShapeRecord) (h i : ℕ) (place : Place) (found : Bool) (o : Option Bool) (more : List BadBlock) → o ≡ Some found → place.index < s.blocks → place.height ≡ h
    → ancestor s h place.index ≡ ancestor s h i
    → IsRecordedIn s h i found (bad_blocks place o ++ more)
recorded-here s h i place found o more is inside height same =
    subst (λ (x : Option Bool). IsRecordedIn s h i found (bad_blocks place x ++ more)) (sym is) (inl (record { found_is = refl; inside = inside; height_is = height; same = same }))

-- the number of a block that is recorded counts as lost
module _ (s : ShapeRecord) (valid : IsShape s) (l : Layout) (laid : IsLayout l) (h i k : ℕ) (at : IsCoveredAt s l h i k) where
  pub recorded-known : (found : Bool) (bs : List BadBlock) (lost : List ℕ) → AreCovered s l bs lost → IsRecordedIn s h i found bs → IsAmong lost k
  recorded-known found [] lost are there = absurd there
  recorded-known found (b ∷ more) lost (inl (n, (rest, (is, (here, are))))) (inl there) =
      let number : n ≡ k = covered-one s valid l laid h i b.place.index k n there.same at (subst (λ (x : ℕ). IsCoveredAt s l x b.place.index n) there.height_is here) in
      subst (λ (xs : List ℕ). IsAmong xs k) (sym is) (0, (omega arith, number))
  recorded-known found (b ∷ more) lost (inr (off, are)) (inl there) =
      let place : IsPlace s b.place.height b.place.index = record { valid = valid; inside = there.inside; high = omega (arith, at.place.high, there.height_is) } in
      absurd (covered-not s valid l laid h i b.place.index k there.same at (subst (λ (x : ℕ). IsUncovered s l x b.place.index) there.height_is (off place)))
  recorded-known found (b ∷ more) lost (inl (n, (rest, (is, (here, are))))) (inr there) =
      subst (λ (xs : List ℕ). IsAmong xs k) (sym is) (among-more n rest k (recorded-known found more rest are there))
  recorded-known found (b ∷ more) lost (inr (off, are)) (inr there) = recorded-known found more lost are there

-- ---- a visit of a block

-- had it, or it is recorded as found nowhere
had-or : (j : Job) (h i : ℕ) (height index : ℕ) (m : Mended) (bytes : List ℕ) (done : Bool) (more : List BadBlock) → index < j.tree.shape.blocks
    → IsVisitAt j.tree.shape h i (visit height index m bytes done)
    → IsHad m ⊎ IsRecordedIn j.tree.shape h i false (bad_of j (visit height index m bytes done) ++ more)
had-or j h i height index mended.Good bytes done more inside at = inl tt
had-or j h i height index (mended.Copy k) bytes done more inside at = inl tt
had-or j h i height index mended.Remade bytes done more inside at = inl tt
had-or j h i height index mended.Parity bytes done more inside at = inl tt
had-or j h i height index mended.Lost bytes done more inside at = inr (inl (record { found_is = refl; inside = inside; height_is = at.height_is; same = at.same }))

pub visited-or : (j : Job) (h i : ℕ) (vs : List Visit) (w w' : RepairWorld) → VisitsAll j vs w w' → IsVisitedIn j.tree.shape h i vs
    → IsHadIn j.tree.shape h i vs ⊎ IsRecordedIn j.tree.shape h i false (flat_map (bad_of j) vs)
visited-or j h i [] w w' runs at = absurd at
visited-or j h i (v ∷ more) w w' (a, (b, (read, (here, rest)))) (inl at) =
    elim (had-or j h i v.height v.index v.mended v.bytes v.done (flat_map (bad_of j) more) here.inside at) [
      | inl had ↦ inl (inl (at, had))
      | inr lost ↦ inr lost
    ]
visited-or j h i (v ∷ more) w w' (a, (b, (read, (here, rest)))) (inr there) =
    elim (visited-or j h i more b w' rest there) [
      | inl had ↦ inl (inr had)
      | inr lost ↦ inr (recorded-right j.tree.shape h i false (bad_of j v) (flat_map (bad_of j) more) lost)
    ]

-- a block that isn't recorded after a visit is good
abbrev IsTold : Bool → Mended → Type 0
IsTold write m = (found : Bool) × (found_of write m ≡ Some found)

none-some : (o : Option Bool) (found : Bool) → o ≡ None → o ≡ Some found → ⊥
none-some o found none some = cc

had-none : (m : Mended) → IsHad m → found_of true m ≡ None
had-none mended.Good had = refl
had-none (mended.Copy k) had = refl
had-none mended.Remade had = refl
had-none mended.Parity had = refl
had-none mended.Lost had = absurd had

had-untold : (m : Mended) (write : Bool) → write ≡ true → IsHad m → IsTold write m → ⊥
had-untold m write writes had told = none-some (found_of write m) told.0 (ap (λ (w : Bool). found_of w m) writes ∙ had-none m had) told.1

module _ (j : Job) (valid : IsShape j.tree.shape) where
  good-stands : (h i : ℕ) (bytes : List ℕ) (done : Bool) (a b : RepairWorld) → IsVisited j (visit h i mended.Good bytes done) a b → IsReady j.tree.shape a → StandsGood j h i b
  good-stands h i bytes done a b here ready =
      let steady : IsTrue (own h a).steady = own-steady j.tree.shape h a ready in
      let found = here.mended_as in
      record {
        p = here.p;
        way = here.way;
        good = ap (λ (im : List (List ℕ)). digest j.tree.salt (concat (run_of im (sector_at j.tree.shape h i) (size_at j.tree.shape h / 512)))) (found.read.image steady)
            ∙ ap (digest j.tree.salt) (sym (found.there.stand steady)) ∙ found.there.good;
      }

  found-stands : (h i : ℕ) (m : Mended) (bytes : List ℕ) (done : Bool) (a b : RepairWorld) → IsVisited j (visit h i m bytes done) a b → IsImageUnfailed a b → IsReady j.tree.shape a
      → IsBlockFound m → IsNotLost m → found_of false m ≡ Some true
      → StandsGood j h i b ⊎ IsTold j.write m
  found-stands h i m bytes done a b here sure ready found kept unwritten = elim (cases_Bool j.write) [
    | inl write ↦ inl (visit-stands j valid (visit h i m bytes done) a b here sure ready write (look-done (look_at j here.p h i a b) (own-sure h a b sure) bytes done m here.mended_as found) kept)
    | inr not ↦ inr (true, ap (λ (w : Bool). found_of w m) not ∙ unwritten)
  ]

  stands-or : (h i : ℕ) (m : Mended) (bytes : List ℕ) (done : Bool) (a b : RepairWorld) → IsVisited j (visit h i m bytes done) a b → IsImageUnfailed a b → IsReady j.tree.shape a
      → StandsGood j h i b ⊎ IsTold j.write m
  stands-or h i mended.Good bytes done a b here sure ready = inl (good-stands h i bytes done a b here ready)
  stands-or h i (mended.Copy k) bytes done a b here sure ready = found-stands h i (mended.Copy k) bytes done a b here sure ready tt tt refl
  stands-or h i mended.Remade bytes done a b here sure ready = found-stands h i mended.Remade bytes done a b here sure ready tt tt refl
  stands-or h i mended.Parity bytes done a b here sure ready = found-stands h i mended.Parity bytes done a b here sure ready tt tt refl
  stands-or h i mended.Lost bytes done a b here sure ready = inr (false, refl)

-- ---- covered blocks that are good

module _ (form : FormedChainsAreGood) (j : Job) (valid : IsShape j.tree.shape) (f : FormerImage) (former : IsFormerOf j.tree f) (l : Layout) (fits : HasTreeSizes j.tree.shape l) where
  module _ (w : RepairWorld) where
    -- are as they were formatted
    pub stands-formed : (h i k : ℕ) → IsCoveredAt j.tree.shape l h i k → StandsGood j h i w → IsAsFormed l f w k ⊎ Collide j.tree.salt
    unfolding block_at
    stands-formed zero i k at stands = elim (former-stands form j valid f former zero i w at.place.inside stands) [
      | inr clash ↦ inr clash
      | inl is ↦ inl (
          at.is.bytes w.data_dev.image w.hash_dev.image ∙ ap (λ (n : ℕ). block_at w.data_dev.image n i) at.size ∙ is
          ∙ sym (at.is.bytes f.data_image f.hash_image ∙ ap (λ (n : ℕ). block_at f.data_image n i) at.size))
    ]
    stands-formed (suc g) i k at stands =
        let place : ℕ = position j.tree.shape g (ancestor j.tree.shape (g + 1) i) in
        elim (former-stands form j valid f former (suc g) i w at.place.inside stands) [
          | inr clash ↦ inr clash
          | inl is ↦ inl (
              at.is.bytes w.data_dev.image w.hash_dev.image ∙ ap (λ (n : ℕ). block_at w.hash_dev.image n place) at.size ∙ is
              ∙ sym (at.is.bytes f.data_image f.hash_image ∙ ap (λ (n : ℕ). block_at f.hash_image n place) at.size))
        ]

    -- by another data block beneath
    pub beside-formed : (h i g m k : ℕ) → IsCoveredAt j.tree.shape l h i k → g ≡ h → ancestor j.tree.shape h m ≡ ancestor j.tree.shape h i → StandsGood j g m w
        → IsAsFormed l f w k ⊎ Collide j.tree.salt
    beside-formed h i g m k at height same stands = stands-formed h i k at (stands-beside j valid h i m w same (subst (λ (n : ℕ). StandsGood j n m w) height stands))

  module _ (h i k : ℕ) (at : IsCoveredAt j.tree.shape l h i k) where
    pub formed-on : (vs : List Visit) (a b : RepairWorld) → VisitsAll j vs a b → IsImageUnfailed a b → IsReady j.tree.shape a → IsAsFormed l f a k ⊎ Collide j.tree.salt → IsAsFormed l f b k ⊎ Collide j.tree.salt
    formed-on vs a b runs sure ready (inl is) = runs-kept form j valid f former l fits vs a b runs sure ready k at.inside is
    formed-on vs a b runs sure ready (inr clash) = inr clash

    -- after visits a block that was visited is recorded, or is as it was formatted
    pub visited-formed : (vs : List Visit) (w w' : RepairWorld) → VisitsAll j vs w w' → IsImageUnfailed w w' → IsReady j.tree.shape w → IsVisitedIn j.tree.shape h i vs
        → ((found : Bool) × IsRecordedIn j.tree.shape h i found (flat_map (bad_of j) vs)) ⊎ (IsAsFormed l f w' k ⊎ Collide j.tree.salt)
    visited-formed [] w w' runs sure ready there = absurd there
    visited-formed (v ∷ more) w w' (a, (b, (read, (here, rest)))) sure ready there =
        let sure_a : IsImageUnfailed a b = visit-sure-in j v more w a b w' read here rest sure in
        let ready_a : IsReady j.tree.shape a = ready-same j.tree.shape w a (read-same w a read) (read-images j.tree.shape w a read ready) ready in
        let sure_b : IsImageUnfailed b w' = rest-sure j v more w a b w' read here rest sure in
        let ready_b : IsReady j.tree.shape b = visit-ready j valid v a b here sure_a ready_a in
        elim there [
          | inl one ↦ elim (stands-or j valid v.height v.index v.mended v.bytes v.done a b here sure_a ready_a) [
            | inl stands ↦ inr (formed-on more b w' rest sure_b ready_b (beside-formed b h i v.height v.index k at one.height_is one.same stands))
            | inr told ↦ inl (told.0, recorded-here j.tree.shape h i (record { height = v.height; index = v.index }) told.0 (found_of j.write v.mended) (flat_map (bad_of j) more) told.1 here.inside one.height_is one.same)
          ]
          | inr later ↦ elim (visited-formed more b w' rest sure_b ready_b later) [
            | inl known ↦ inl (known.0, recorded-right j.tree.shape h i known.0 (bad_of j v) (flat_map (bad_of j) more) known.1)
            | inr is ↦ inr is
          ]
        ]

    -- and one that was had where blocks may be written is as it was formatted
    pub had-formed : j.write ≡ true → (vs : List Visit) (w w' : RepairWorld) → VisitsAll j vs w w' → IsImageUnfailed w w' → IsReady j.tree.shape w → IsHadIn j.tree.shape h i vs
        → IsAsFormed l f w' k ⊎ Collide j.tree.salt
    had-formed write [] w w' runs sure ready there = absurd there
    had-formed write (v ∷ more) w w' (a, (b, (read, (here, rest)))) sure ready there =
        let sure_a : IsImageUnfailed a b = visit-sure-in j v more w a b w' read here rest sure in
        let ready_a : IsReady j.tree.shape a = ready-same j.tree.shape w a (read-same w a read) (read-images j.tree.shape w a read ready) ready in
        let sure_b : IsImageUnfailed b w' = rest-sure j v more w a b w' read here rest sure in
        let ready_b : IsReady j.tree.shape b = visit-ready j valid v a b here sure_a ready_a in
        elim there [
          | inl one ↦ elim (stands-or j valid v.height v.index v.mended v.bytes v.done a b here sure_a ready_a) [
            | inl stands ↦ formed-on more b w' rest sure_b ready_b (beside-formed b h i v.height v.index k at one.0.height_is one.0.same stands)
            | inr told ↦ absurd (had-untold v.mended j.write write one.1 told)
          ]
          | inr later ↦ had-formed write more b w' rest sure_b ready_b later
        ]
