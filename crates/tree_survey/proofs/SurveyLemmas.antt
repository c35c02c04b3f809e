-- What was found of data blocks still holds once hash blocks were read too.
use Rattle.std.proofs.Common.{◌≡◌, ◌⊎◌, ℕ, Bool, List, Option, Some, None, get_or, length, ap, arith, ◌∙◌, subst}
use Rattle.block_device.specs.Device.{Device}
use Rattle.tree_shape.specs.Shape.{ShapeRecord, levels}
use Rattle.verity_format.specs.declared.tree.VerityTree.{VerityTree}
use Rattle.verity_format.specs.declared.verifying.VerifyFault.TheVariants.{Super, TooSmall, Device as DeviceFailed, NoMemory}
use Rattle.tree_path.specs.Path.{PathRecord, IsPathOf}
use Rattle.verity_format.proofs.lemmas.DeviceLemmas.{steady-then}
use Rattle.runs.specs.declared.kind.Kind.TheVariants.{Changed, Unknown, Removed, Added}
use Rattle.runs.specs.Kinds.{State}
use Rattle.tree_survey.specs.declared.counts.Totals.{Totals}
use Rattle.tree_survey.specs.declared.fault.SurveyFault.{SurveyFault}
use Rattle.tree_survey.specs.declared.fault.SurveyFault.TheVariants.{Image, Write}
use Rattle.tree_survey.specs.Causes.{IsCutOff, IsPassCause, IsSurveyCause}
use Rattle.tree_survey.specs.Failing.{HasFailedRead, IsReadOver}
use Rattle.tree_survey.specs.Hashes.{AreBad, HasUnreadMore, HashesFound, AreWithinHashes, bad_of_levels, tree_of_path}
use Rattle.tree_survey.specs.Passes.{IsHidden, Surveys, Unreadable, pass, tree_under}
use Rattle.tree_survey.specs.Surveys.{AllStand, IsLedTo, Tree}
use Rattle.tree_survey.proofs.FailingLemmas.{failed-later, failed-more, or-more, times-within}

-- the tree of a path
pub tree-of : (tree : VerityTree) (root : List ℕ) (p : PathRecord) → IsPathOf tree.shape tree.salt root p → tree_of_path p ≡ tree_under tree root
tree-of tree root p is =
    let f : ShapeRecord → List ℕ → List ℕ → Tree = λ h x r. record { shape = h; salt = x; root = r } in
    ap (λ (h : ShapeRecord). f h p.salt p.root) is.shape_is ∙ ap (λ (x : List ℕ). f tree.shape x p.root) is.salt_is ∙ ap (f tree.shape tree.salt) is.root_is

module _ (t u : Tree) (d h d' h' last : Device) (same : u ≡ t) (later : IsReadOver h' last) where
  hidden-was : (old new : Option (List ℕ)) (lost : Unreadable) (i : ℕ) (above : Type 0) (state : State) → IsHidden t (pass d h d' h' old new) lost i above state → IsHidden t (pass d h d' last old new) lost i above state
  hidden-was old new lost i above None hidden = absurd hidden
  hidden-was old new lost i above (Some Changed) hidden = hidden
  hidden-was old new lost i above (Some Unknown) (some, (under, failed)) = (some, (under, failed-more h failed later))
  hidden-was old new lost i above (Some Removed) hidden = absurd hidden
  hidden-was old new lost i above (Some Added) hidden = absurd hidden

  pub surveys-were : (old new : Option (List ℕ)) (totals : Totals) → Surveys u (pass d h d' h' old new) totals → Surveys t (pass d h d' last old new) totals
  surveys-were old new totals was =
      let s : Surveys t (pass d h d' h' old new) totals = subst (λ (x : Tree). Surveys x (pass d h d' h' old new) totals) same was in
      record {
        states = s.states;
        seen = record {
          count = s.seen.count;
          lost = s.seen.lost;
          failed = record {
            of_data = s.seen.failed.of_data;
            of_hash = times-within h h h' last (length s.seen.lost.hashes) (omega arith) s.seen.failed.of_hash later.more;
          };
          contents = s.seen.contents;
          all = s.seen.all;
          over = s.seen.over;
          seen = λ i low. or-more _ _ _ (hidden-was old new s.seen.lost i (IsLedTo t i) (get_or s.states i None)) (s.seen.seen i low);
          stored = λ steady steady' i low. or-more _ _ _ (hidden-was old new s.seen.lost i (AllStand t h.image i) (get_or s.states i None)) (s.seen.stored steady steady' i low);
        };
        totals_are = s.totals_are;
        printed_are = s.printed_are;
        data_read = s.data_read;
      }

-- hash blocks that were found after reads of the device
pub hashes-were : (t u : Tree) (h h' last : Device) → u ≡ t → IsReadOver h h' → IsReadOver h' last → (f : HashesFound u h' last) → AreBad (λ image. bad_of_levels t image (levels t.shape)) h last f.bad
hashes-were t u h h' last same read behind f =
    let bads : AreBad (λ image. bad_of_levels t image (levels t.shape)) h' last f.bad = subst (λ (x : Tree). AreBad (λ image. bad_of_levels x image (levels x.shape)) h' last f.bad) same f.are in
    record {
      all = λ steady. subst (λ (im : List (List ℕ)). AreWithinHashes (bad_of_levels t im (levels t.shape)) f.bad) (read.read.image steady) (bads.all (steady-then read.read.same steady));
      stored = λ steady. subst (λ (im : List (List ℕ)). (f.bad ≡ bad_of_levels t im (levels t.shape)) ⊎ HasFailedRead h last) (read.read.image steady)
          (or-more _ _ _ (λ failed. failed-later read behind failed) (bads.stored (steady-then read.read.same steady)));
      few = λ steady.
          let listed = bads.few (steady-then read.read.same steady) in
          subst (λ (im : List (List ℕ)). HasUnreadMore h last (bad_of_levels t im (levels t.shape)) f.bad) (read.read.image steady)
          (record { unread = listed.unread; count = listed.count; failed = times-within h h' last last listed.unread read.more listed.failed (omega arith) });
    }

-- ---- why it ends

pub room_ends : (shape : ShapeRecord) (d h d' h' : Device) (failed : Bool) (fault : SurveyFault) → IsCutOff shape d h fault → d' ≡ d → h' ≡ h → IsSurveyCause shape d h d' h' failed fault
room_ends shape d h d' h' failed (Image (Super f)) cut same same' = absurd cut
room_ends shape d h d' h' failed (Image TooSmall) cut same same' = (cut, (same, same'))
room_ends shape d h d' h' failed (Image DeviceFailed) cut same same' = absurd cut
room_ends shape d h d' h' failed (Image NoMemory) cut same same' = absurd cut
room_ends shape d h d' h' failed Write cut same same' = absurd cut

pub pass_ends : (shape : ShapeRecord) (d h d' h' : Device) (failed : Bool) (fault : SurveyFault) → IsPassCause d h d' h' failed fault → IsSurveyCause shape d h d' h' failed fault
pass_ends shape d h d' h' failed (Image (Super f)) cause = absurd cause
pass_ends shape d h d' h' failed (Image TooSmall) cause = absurd cause
pass_ends shape d h d' h' failed (Image DeviceFailed) cause = absurd cause
pass_ends shape d h d' h' failed (Image NoMemory) cause = cause
pass_ends shape d h d' h' failed Write cause = cause
