-- A repair that succeeded leaves all blocks valid.
use Rattle.std.proofs.Common.{◌≡◌, ◌<◌, ℕ, zero, suc, Bool, true, false, IsTrue, List, [], ◌∷◌, length, get_or, Option, None, Some, refl, sym, ap, ◌∙◌, subst, arith, inl, inr, ◌⊎◌}
use Rattle.std.specs.Prelude.{◌==◌, ◌&&◌}
use Rattle.std.proofs.Math.Path.{subst₂}
use Rattle.std.proofs.lemmas.Bool.{and_parts, eqb-true, true≢false}
use Rattle.block_device.specs.Device.{Device}
use Rattle.runs.specs.declared.kind.Kind.{Kind}
use Rattle.runs.specs.declared.kind.Kind.TheVariants.{Added, Changed, Removed, Unknown}
use Rattle.runs.specs.Kinds.{State, count_of, is_state, one_if}
use Rattle.tree_path.specs.Laws.{Collide}
use Rattle.tree_repair.specs.declared.outcome.Outcome.{Outcome}
use Rattle.tree_repair.specs.declared.outcome.Outcome.TheVariants.{Partly, Whole}
use Rattle.tree_repair.specs.declared.repair.Plan.{Plan}
use Rattle.tree_repair.specs.Outcomes.{IsOutcomeOf, IsParityOutcome, LeavesAllGood}
use Rattle.tree_repair.specs.Standing.{IsWorldSteady}
use Rattle.tree_repair.specs.Valid.{AreAllValid}
use Rattle.tree_repair.specs.Worlds.{RepairWorld}
use Rattle.tree_repair.proofs.lemmas.EachLemmas.{each-or}
use Rattle.tree_repair.proofs.lemmas.SteadyLemmas.{repaired-steady}
use Rattle.tree_survey.specs.declared.counts.Totals.{Totals}
use Rattle.tree_survey.specs.declared.survey.Survey.{Survey as Found}
use Rattle.tree_survey.specs.Passes.{AreSeen, IsHidden, Pass, Unreadable, tree_under}
use Rattle.tree_survey.specs.Surveys.{AllStand, IsContentStoredAs, Tree}
use Rattle.verity_commands.specs.Surveyed.{SurveyedDevices}
use Rattle.verity_commands.specs.Surveys.{SaysSurvey, is_all_good}
use Rattle.verity_format.specs.declared.tree.VerityTree.{VerityTree}
use Rattle.repair_commands.specs.Commands.{devices_in}
use Rattle.repair_commands.specs.Laws.{ImagesRepairedByParityAreValid, IsRepaired, RepairedImagesAreValid}
use Rattle.repair_commands.specs.Mends.{MendsWhole}
use Rattle.repair_commands.specs.Rest.{TellsRest, known_by, scan_of}

-- ---- a scan that found all blocks valid

-- none of some blocks is of a kind that isn't counted
none-one : (b : Bool) → one_if b ≡ 0 → b ≡ false
none-one true one = absurd (omega (arith, one))
none-one false one = refl

none-counted : (kind : Kind) (states : List State) → count_of kind states ≡ 0 → (i : ℕ) → i < length states → is_state kind (get_or states i None) ≡ false
none-counted kind [] none i low = absurd (omega (arith, low))
none-counted kind (state ∷ more) none zero low = none-one (is_state kind state) (omega (arith, none))
none-counted kind (state ∷ more) none (suc i) low = none-counted kind more (omega (arith, none)) i (omega (arith, low))

-- a block that is neither changed nor unknown is valid
seen-valid : (t : Tree) (w : Pass) (lost : Unreadable) (i : ℕ) (Above : Type 0) (state : State) → is_state Changed state ≡ false → is_state Unknown state ≡ false
    → IsContentStoredAs t w.data_dev.image w.hash_dev.image i state ⊎ IsHidden t w lost i Above state → IsContentStoredAs t w.data_dev.image w.hash_dev.image i None
seen-valid t w lost i Above None changed unknown (inl valid) = valid
seen-valid t w lost i Above None changed unknown (inr hidden) = absurd hidden
seen-valid t w lost i Above (Some Changed) changed unknown seen = absurd (true≢false changed)
seen-valid t w lost i Above (Some Unknown) changed unknown seen = absurd (true≢false unknown)
seen-valid t w lost i Above (Some Removed) changed unknown (inl other) = absurd other
seen-valid t w lost i Above (Some Removed) changed unknown (inr other) = absurd other
seen-valid t w lost i Above (Some Added) changed unknown (inl other) = absurd other
seen-valid t w lost i Above (Some Added) changed unknown (inr other) = absurd other

good-totals : (found : Found) → is_all_good found ≡ true → (found.totals.changed ≡ 0) × (found.totals.unknown ≡ 0)
good-totals found good =
    let parts = and_parts (found.totals.changed == 0) ((found.totals.unknown == 0) && found.whole_tree) good in
    let rest = and_parts (found.totals.unknown == 0) found.whole_tree parts.1 in
    (eqb-true found.totals.changed 0 parts.0, eqb-true found.totals.unknown 0 rest.0)

scan-valid : (tree : VerityTree) (root : List ℕ) (w : Pass) → SaysSurvey tree w root true → IsTrue w.data_dev.steady → IsTrue w.hash_dev.steady
    → AreAllValid (tree_under tree root) w.data_dev.image w.hash_dev.image
scan-valid tree root w says data_steady hash_steady i inside =
    let states = says.survey.surveys.states in
    let seen : AreSeen (tree_under tree root) (record w { printed' = says.survey.between }) states = says.survey.surveys.seen in
    let totals = says.survey.surveys.totals_are in
    let none = good-totals says.found says.is in
    let here : i < tree.shape.blocks = inside in
    let count : length states ≡ tree.shape.blocks = seen.count in
    let low : i < length states = omega (arith, here, count) in
    let changed : count_of Changed states ≡ 0 = ap (λ (x : Totals). x.changed) (sym totals) ∙ none.0 in
    let unknown : count_of Unknown states ≡ 0 = ap (λ (x : Totals). x.unknown) (sym totals) ∙ none.1 in
    seen-valid (tree_under tree root) (record w { printed' = says.survey.between }) seen.lost i (AllStand (tree_under tree root) w.hash_dev.image i) (get_or states i None)
    (none-counted Changed states changed i low) (none-counted Unknown states unknown i low) (seen.stored data_steady hash_steady i inside)

-- ---- a repair

-- what is known of an image after its repair, with parity or without
abbrev IsKnown : Plan → Bool → RepairWorld → RepairWorld → Outcome → Type 0
IsKnown plan parity w mid (Whole count) = LeavesAllGood plan parity w mid count
IsKnown plan parity w mid Partly = Unit {0}

module _ (plan : Plan) (w : RepairWorld) (steady : IsWorldSteady w) where
  abbrev IsValidOn : Device → Device → Type 0
  IsValidOn d h = AreAllValid (tree_under plan.tree plan.root) d.image h.image ⊎ Collide plan.tree.salt

  -- the devices stay steady
  mended-steady : (parity : Bool) (mended : RepairWorld) (old new : Option (List ℕ)) → MendsWhole plan parity w mended old new → IsTrue mended.data_dev.steady × IsTrue mended.hash_dev.steady
  mended-steady parity mended old new mends =
      let mid : IsWorldSteady mends.mid = repaired-steady plan parity w mends.mid old new mends.repair steady in
      (subst IsTrue (sym mends.kept.data_image.steady) mid.data_steady, subst IsTrue (sym mends.kept.hash_image.steady) mid.hash_steady)

  once-known : (mid : RepairWorld) (found : Outcome) → IsOutcomeOf plan w mid found → IsKnown plan false w mid found
  once-known mid (Whole count) known = known
  once-known mid Partly known = tt

  parity-known : (mid : RepairWorld) (found : Outcome) → IsParityOutcome plan w mid found → IsKnown plan true w mid found
  parity-known mid (Whole count) known = known
  parity-known mid Partly known = tt

  -- each visit left its block valid, and no call failed
  whole-valid : (parity : Bool) (count : ℕ) (mended : RepairWorld) (old new : Option (List ℕ)) (mends : MendsWhole plan parity w mended old new) → LeavesAllGood plan parity w mends.mid count
      → IsValidOn mended.data_dev mended.hash_dev
  whole-valid parity count mended old new mends left =
      let t = tree_under plan.tree plan.root in
      let mid = mends.mid in
      let kept = mends.kept in
      elim (each-or (λ (i : ℕ). IsContentStoredAs t mid.data_dev.image mid.hash_dev.image i None) (Collide plan.tree.salt) count (λ i low. left.good steady i low)) [
        | inr clash ↦ inr clash
        | inl each ↦ inl (λ i inside.
            let here : i < plan.tree.shape.blocks = inside in
            let low : i < count = omega (arith, here, left.count_is) in
            subst₂ (λ (d h : List (List ℕ)). IsContentStoredAs t d h i None) (sym kept.data_image.image) (sym kept.hash_image.image) (each i low))
      ]

  -- that isn't known, and a scan found all blocks valid
  partly-repaired : (mended : RepairWorld) (t' : SurveyedDevices) (between new : Option (List ℕ)) → TellsRest Partly plan (devices_in mended) t' between new
      → IsTrue mended.data_dev.steady × IsTrue mended.hash_dev.steady → IsRepaired plan t'
  partly-repaired mended t' between new (scanned, says) still = record {
    data_steady = subst IsTrue (sym scanned.data_read.read.same.steady) still.0;
    hash_steady = subst IsTrue (sym scanned.hash_read.read.same.steady) still.1;
    valid = inl (λ i inside.
        subst₂ (λ (d h : List (List ℕ)). IsContentStoredAs (tree_under plan.tree plan.root) d h i None)
        (sym (scanned.data_read.read.image still.0)) (sym (scanned.hash_read.read.image still.1))
        (scan-valid plan.tree plan.root (scan_of (devices_in mended) t' between new) says still.0 still.1 i inside));
  }

  told-repaired : (parity whole : Bool) (found : Outcome) (mended : RepairWorld) (t' : SurveyedDevices) (old between new : Option (List ℕ)) (mends : MendsWhole plan parity w mended old between) → IsKnown plan parity w mends.mid found
      → TellsRest (known_by whole found) plan (devices_in mended) t' between new → IsRepaired plan t'
  told-repaired parity true (Whole count) mended t' old between new mends known (same, told) =
      let still = mended-steady parity mended old between mends in
      subst (λ (t : SurveyedDevices). IsRepaired plan t) (sym same)
      (record { data_steady = still.0; hash_steady = still.1; valid = whole-valid parity count mended old between mends known })
  told-repaired parity true Partly mended t' old between new mends known tells = partly-repaired mended t' between new tells (mended-steady parity mended old between mends)
  told-repaired parity false found mended t' old between new mends known tells = partly-repaired mended t' between new tells (mended-steady parity mended old between mends)

pub repaired-valid : RepairedImagesAreValid
repaired-valid plan whole w t' old new repairs steady =
    let once = repairs.mends in
    told-repaired plan w steady false whole repairs.found repairs.mended t' old repairs.between new once.mends (once-known plan w steady once.mends.mid repairs.found once.whole) repairs.tells

pub parity-repaired : {D : Type 0} (state : D → Device) → ImagesRepairedByParityAreValid state
parity-repaired state plan whole laid w t' old new repairs steady =
    let passes = repairs.mends.holds in
    told-repaired plan w steady true whole repairs.found repairs.mended t' old repairs.between new passes.mends (parity-known plan w steady passes.mends.mid repairs.found passes.whole) repairs.tells
