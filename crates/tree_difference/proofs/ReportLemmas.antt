-- What is reported before a comparison ends early.
use Rattle.std.proofs.Common.{◌≡◌, ◌≤◌, ◌<◌, ◌+◌, ◌*◌, ◌/◌, ◌%◌, ◌^◌, ℕ, List, [], length, get_or, Option, Some, None, refl, sym, ap, ◌∙◌, subst, arith}
use Rattle.std.specs.Io.KnownBytes.{Appends}
use Rattle.std.proofs.Math.Nat.{zero-div, zero-mul}
use Rattle.std.proofs.lemmas.List.{append-nil}
use Rattle.block_device.specs.Device.{Device}
use Rattle.tree_shape.specs.Shape.{ShapeRecord, ancestor, per_block}
use Rattle.tree_shape.proofs.lemmas.ShapeFactLemmas.{two}
use Rattle.tree_shape.proofs.lemmas.ShapeLemmas.{pow_pos}
use Rattle.verity_format.specs.Blocks.{IsOnlyRead}
use Rattle.tree_path.specs.Path.{PathRecord}
use Rattle.tree_path.specs.Spans.{IsTopAt}
use Rattle.tree_path.specs.Steps.{steps}
use Rattle.tree_path.proofs.lemmas.SpanLemmas.{lower-mod, whole}
use Rattle.runs.specs.declared.tally.Tally.{Tally}
use Rattle.runs.specs.Limits.{begun, limited_lines}
use Rattle.runs.specs.Runs.{runs_of}
use Rattle.runs.specs.Kinds.{State, is_same}
use Rattle.runs.specs.Tallies.{listed}
use Rattle.runs.specs.Texts.{listing_text}
use Rattle.runs.proofs.lemmas.ListingLemmas.{listed-all, listed-none}
use Rattle.tree_difference.specs.declared.fault.DifferenceFault.{DifferenceFault}
use Rattle.tree_difference.specs.declared.fault.DifferenceFault.TheVariants.{Image, Unaligned, Unpinned, Unlike, Hash, NoMemory, Write}
use Rattle.tree_difference.specs.declared.fault.Which.{Which}
use Rattle.tree_difference.specs.declared.fault.Which.TheVariants.{First, Second}
use Rattle.tree_difference.specs.declared.walk.Walk.{Walk}
use Rattle.tree_difference.specs.Causes.{IsFirstBlock, IsWayCause}
use Rattle.tree_difference.specs.Comparisons.{AreStatesSeen, DifferenceWorld, IsBelow, IsReported, ReportsBefore, difference_world}
use Rattle.tree_difference.specs.Differences.{HaveTrees, trees_in}
use Rattle.tree_difference.specs.Trees.{Trees, common_blocks}
use Rattle.tree_difference.specs.Walks.{AreSameTrees, IsOnWay}
use Rattle.tree_difference.proofs.DifferenceLemmas.{seen-was}
use Rattle.tree_difference.proofs.UnderwayLemmas.{IsUnderway, Progress, width}

-- ---- which hash block fails verification

ancestor-first : (s : ShapeRecord) (n : ℕ) → ancestor s n 0 ≡ 0
unfolding ancestor
ancestor-first s n = zero-div (per_block s ^ n)

pub first-block : (p q : PathRecord) (d d' : Device) (from to : ℕ) (which : Which) (fault : DifferenceFault) → IsWayCause (steps p q d d' 0 from) which to fault → IsFirstBlock fault
first-block p q d d' from to which (Hash tree level number) h = h.2 ∙ ancestor-first p.shape (level + 1)
first-block p q d d' from to which (Image tree f) h = tt
first-block p q d d' from to which (Unaligned tree) h = tt
first-block p q d d' from to which (Unpinned tree mismatch) h = tt
first-block p q d d' from to which (Unlike f) h = tt
first-block p q d d' from to which NoMemory h = tt
first-block p q d d' from to which Write h = tt

pub way-first : (w : Walk) (q : PathRecord) (d d' : Device) (i level : ℕ) (fault : DifferenceFault) → IsWayCause (steps w.first q d d' i (level + 1)) First level fault → IsOnWay w i (level + 1) fault
way-first w q d d' i level (Hash First at number) h = (h.1.between.1, h.2)
way-first w q d d' i level (Hash Second at number) h = let clash : Second ≡ First = h.0 in absurd (cc)
way-first w q d d' i level (Image tree f) h = tt
way-first w q d d' i level (Unaligned tree) h = tt
way-first w q d d' i level (Unpinned tree mismatch) h = tt
way-first w q d d' i level (Unlike f) h = tt
way-first w q d d' i level NoMemory h = tt
way-first w q d d' i level Write h = tt

pub way-second : (w : Walk) (q : PathRecord) (d d' : Device) (i level : ℕ) (fault : DifferenceFault) → IsWayCause (steps w.second q d d' i (level + 1)) Second level fault → IsOnWay w i (level + 1) fault
way-second w q d d' i level (Hash Second at number) h = (h.1.between.1, h.2)
way-second w q d d' i level (Hash First at number) h = let clash : First ≡ Second = h.0 in absurd (cc)
way-second w q d d' i level (Image tree f) h = tt
way-second w q d d' i level (Unaligned tree) h = tt
way-second w q d d' i level (Unpinned tree mismatch) h = tt
way-second w q d d' i level (Unlike f) h = tt
way-second w q d d' i level NoMemory h = tt
way-second w q d d' i level Write h = tt

-- of another walk of the same trees, from a higher level
pub way-then : (w w' : Walk) (i low top : ℕ) (fault : DifferenceFault) → AreSameTrees w w' → low ≤ top → IsOnWay w' i low fault → IsOnWay w i top fault
way-then w w' i low top (Hash First at number) t le h = (omega (arith, h.0, le), h.1 ∙ ap (λ (s : ShapeRecord). ancestor s (at + 1) i) t.first.shape_is)
way-then w w' i low top (Hash Second at number) t le h = (omega (arith, h.0, le), h.1 ∙ ap (λ (s : ShapeRecord). ancestor s (at + 1) i) t.second.shape_is)
way-then w w' i low top (Image tree f) t le h = tt
way-then w w' i low top (Unaligned tree) t le h = tt
way-then w w' i low top (Unpinned tree mismatch) t le h = tt
way-then w w' i low top (Unlike f) t le h = tt
way-then w w' i low top NoMemory t le h = tt
way-then w w' i low top Write t le h = tt

-- a data block at which a subtree begins is the first under the hash block above it
under : (p : ℕ) → 0 < p → (at top level number : ℕ) → at % p ^ top ≡ 0 → level < top → number ≡ at / p ^ (level + 1) → at ≡ number * p ^ (level + 1)
under p some at top level number begins low is =
    whole at (p ^ (level + 1)) (pow_pos p (level + 1) some) (lower-mod p some at (level + 1) top (omega (arith, low)) begins)
    ∙ ap (λ (k : ℕ). k * p ^ (level + 1)) (sym is)

module _ (w : Walk) (d e : Device) (have : HaveTrees w d e) (at top : ℕ) (is : IsTopAt (width w) w.levels at top) where
  some : 0 < width w
  some = omega (arith, two w.first.shape have.first_valid)

  pub below-way : (fault : DifferenceFault) → IsOnWay w at top fault → IsBelow (trees_in w) at fault
  unfolding ancestor
  below-way (Hash First level number) h = under (width w) some at top level number is.begins h.0 h.1
  below-way (Hash Second level number) h =
      let same : per_block w.second.shape ≡ width w = ap (λ (b : ℕ). b / 32) have.alike.hash_block in
      under (width w) some at top level number is.begins h.0 (h.1 ∙ ap (λ (p : ℕ). at / p ^ (level + 1)) same)
  below-way (Image tree f) h = tt
  below-way (Unaligned tree) h = tt
  below-way (Unpinned tree mismatch) h = tt
  below-way (Unlike f) h = tt
  below-way NoMemory h = tt
  below-way Write h = tt

-- ---- what was reported

reported : (t : Trees) (w : DifferenceWorld) (most : Option ℕ) (fault : DifferenceFault) → ReportsBefore t w most fault → IsReported t w most fault
reported t w most (Hash tree level number) r = r
reported t w most (Image tree f) r = r
reported t w most (Unaligned tree) r = r
reported t w most (Unpinned tree mismatch) r = r
reported t w most (Unlike f) r = r
reported t w most NoMemory r = r
reported t w most Write r = tt

first-below : (t : Trees) (fault : DifferenceFault) → IsFirstBlock fault → IsBelow t 0 fault
first-below t (Hash tree level number) first = sym (ap (λ (n : ℕ). n * per_block t.first ^ (level + 1)) first ∙ zero-mul (per_block t.first ^ (level + 1)))
first-below t (Image tree f) first = tt
first-below t (Unaligned tree) first = tt
first-below t (Unpinned tree mismatch) first = tt
first-below t (Unlike f) first = tt
first-below t NoMemory first = tt
first-below t Write first = tt

nothing : (told : Option (List ℕ)) → Appends told told []
nothing None = tt
nothing (Some bytes) = sym (append-nil bytes)

-- nothing, before a data block was compared
pub reported-none : (t : Trees) (d e d' e' : Device) (told : Option (List ℕ)) (most : Option ℕ) (fault : DifferenceFault) → IsFirstBlock fault → IsReported t (difference_world d e d' e' told told) most fault
reported-none t d e d' e' told most fault first =
    let start : Tally = record { last = None; limit = begun most } in
    let none = listed-none most told start refl in
    reported t (difference_world d e d' e' told told) most fault (record {
      compared = [];
      few = omega arith;
      seen = record { seen = λ i low. absurd (omega (arith, low)); stored = λ steady steady' i low. absurd (omega (arith, low)) };
      end = first-below t fault first;
      printed_are = listed-all most [] start told told told none (nothing told);
    })

-- the runs of the data blocks before the one whose path couldn't be read
pub reported-runs : (w0 w : Walk) (d e d1 e1 : Device) (have : HaveTrees w0 d e) (d' e' : Device) (old now new : Option (List ℕ)) (most : Option ℕ) (g : Progress) (u : IsUnderway w0 w (difference_world d e d1 e1 old now) most g) (fault : DifferenceFault)
    → IsBelow (trees_in w0) g.at fault → Appends now new (limited_lines g.tally.limit (listed g.tally.last)) → IsReported (trees_in w0) (difference_world d e d' e' old new) most fault
reported-runs w0 w d e d1 e1 have d' e' old now new most g u fault below told = reported (trees_in w0) (difference_world d e d' e' old new) most fault (record {
  compared = u.compared;
  few = omega (arith, u.here, u.within, have.of.blocks);
  seen = record { seen = u.seen.seen; stored = u.seen.stored };
  end = subst (λ (n : ℕ). IsBelow (trees_in w0) n fault) u.here below;
  printed_are = listed-all most u.compared g.tally old now new u.listed told;
})

-- over devices that were read before
before-was : (t : Trees) (d e d' e' d'' e'' : Device) (old new : Option (List ℕ)) (most : Option ℕ) (fault : DifferenceFault) → IsOnlyRead d d' → IsOnlyRead e e' → ReportsBefore t (difference_world d' e' d'' e'' old new) most fault → ReportsBefore t (difference_world d e d'' e'' old new) most fault
before-was t d e d' e' d'' e'' old new most fault p q r = record {
  compared = r.compared;
  few = r.few;
  seen = seen-was t d e d' e' d'' e'' old new r.compared p q r.seen;
  end = r.end;
  printed_are = r.printed_are;
}

pub reported-was : (t : Trees) (d e d' e' d'' e'' : Device) (old new : Option (List ℕ)) (most : Option ℕ) (fault : DifferenceFault) → IsOnlyRead d d' → IsOnlyRead e e' → IsReported t (difference_world d' e' d'' e'' old new) most fault → IsReported t (difference_world d e d'' e'' old new) most fault
reported-was t d e d' e' d'' e'' old new most (Hash tree level number) p q r = before-was t d e d' e' d'' e'' old new most (Hash tree level number) p q r
reported-was t d e d' e' d'' e'' old new most (Image tree f) p q r = before-was t d e d' e' d'' e'' old new most (Image tree f) p q r
reported-was t d e d' e' d'' e'' old new most (Unaligned tree) p q r = before-was t d e d' e' d'' e'' old new most (Unaligned tree) p q r
reported-was t d e d' e' d'' e'' old new most (Unpinned tree mismatch) p q r = before-was t d e d' e' d'' e'' old new most (Unpinned tree mismatch) p q r
reported-was t d e d' e' d'' e'' old new most (Unlike f) p q r = before-was t d e d' e' d'' e'' old new most (Unlike f) p q r
reported-was t d e d' e' d'' e'' old new most NoMemory p q r = before-was t d e d' e' d'' e'' old new most NoMemory p q r
reported-was t d e d' e' d'' e'' old new most Write p q r = tt
