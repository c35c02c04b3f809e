-- The positions of a round, judged one after another.
use Rattle.std.proofs.Common.{◌≡◌, ℕ, zero, suc, ◌+◌, ◌-◌, ◌*◌, ◌/◌, ◌<◌, ◌≤◌, All, List, length, Option, Some, None, Result, Ok, Err, inl, inr, refl, sym, ap, ◌∙◌, arith, subst}
use Rattle.std.specs.Prelude.{slice_index, EachIndex, IfSome}
use Rattle.std.proofs.Math.Nat.{add-mul, mul-le-mul_right}
use Rattle.allocation.specs.Refusal.{IsOutOfMemory}
use Rattle.block_device.specs.Call.{Call}
use Rattle.block_device.specs.Device.{Device}
use Rattle.dm_table.specs.declared.parity.Parity.{Parity}
use Rattle.dm_table.specs.declared.verity.Verity.{Verity}
use Rattle.stack_rules.specs.Records.{Configuration}
use Rattle.stack_rules.specs.Trees.{round_count}
use Rattle.stack_meaning.specs.declared.fault.IoFault.{IoFault}
use Rattle.stack_meaning.specs.declared.fault.IoFault.TheVariants as io
use Rattle.stack_meaning.specs.Leaves.{steady_images, AreRead, LeafFailed}
use Rattle.stack_meaning.specs.Memory.{largest_allocation}
use Rattle.stack_meaning.specs.Outcomes.{Images}
use Rattle.stack_meaning.proofs.lemmas.LeafListLemmas.{AreRead-none, AreRead-then, AreRead-more, AreSteady-kept, failed_earlier, failed_later, images-kept}
use Rattle.stack_lines.specs.Walks.{AgreesAt, DataBlock, at_number, block_in, sources_of}
use Rattle.stack_engine.specs.declared.backing.Backing.{Backing}
use Rattle.stack_engine.specs.declared.losses.Judged.{Judged}
use Rattle.stack_engine.specs.declared.losses.Judged.TheVariants as is
use Rattle.stack_engine.specs.Backings.{leaves_in, served}
use Rattle.stack_engine.specs.Erasures.{LossRecord, first_failed, noted, own_loss}
use Rattle.stack_engine.specs.SectorCalls.{DataPlace, judged_full, other_number, place_in}
use Rattle.stack_engine.specs.Spares.{AreFound, AreFoundUpTo, AreJudged, AreLossesOf, AreNoted, AreUnfound, HasFailedLeaf, IsJudged, IsJudgedAs, IsNext, IsSure, IsUnjudged, JudgesTo, block_cost, failed_of, judge_cost, own_noted, none_noted, one_noted}
use Rattle.stack_engine.proofs.JudgeCallLemmas.{judging-past}
use Rattle.stack_engine.proofs.LossLemmas.{noted-below}
use Rattle.stack_engine.proofs.MendCallLemmas.{leads-then}
use Rattle.stack_engine.proofs.ReadCallLemmas.{reads-none}
use Rattle.stack_engine.proofs.WayCallLemmas.{leads-begin}
use Rattle.stack_engine.proofs.lemmas.HealedLemmas.{at-number}

-- what was certain stays so
sure-later : (b : DataBlock) (k : ℕ) {old mid : List Device} {m : ℕ} → AreRead old m mid → IsSure b old → IsSure (at_number b k) mid
sure-later b k {old = old} {mid = mid} moved sure = record {
  steady = AreSteady-kept old mid moved.moved.fixed sure.steady;
  agrees = at-number b k (steady_images mid) (subst (AgreesAt b) (sym (images-kept moved)) sure.agrees);
}

-- the first leaf that failed
failed-next : {old mid new : List Device} {m n : ℕ} (before : Option ℕ) (judged : Judged) (l : LossRecord) (i : ℕ) → l.failed ≡ before → AreRead old m mid → AreRead mid n new → HasFailedLeaf before old mid → HasFailedLeaf (failed_of judged) mid new → HasFailedLeaf (noted l i judged).failed old new
failed-next {old = old} {mid = mid} {new = new} before judged l i same one two h k = go judged k
  where
    later : (o : Option ℕ) → HasFailedLeaf o old mid → HasFailedLeaf o old new
    later None h = tt
    later (Some leaf) h = (h.0, failed_earlier two.moved h.1)

    kept : HasFailedLeaf before old new
    kept = later before h

    first : (o : Option ℕ) (leaf : ℕ) → HasFailedLeaf o old new → (1 ≤ leaf) × LeafFailed (leaf - 1) mid new → HasFailedLeaf (first_failed o leaf) old new
    first None leaf h k = (k.0, failed_later one.moved two.moved k.1)
    first (Some own) leaf h k = h

    go : (judged : Judged) → HasFailedLeaf (failed_of judged) mid new → HasFailedLeaf (noted l i judged).failed old new
    go is.Kept k = subst (λ (o : Option ℕ). HasFailedLeaf o old new) (sym same) kept
    go is.Lost k = subst (λ (o : Option ℕ). HasFailedLeaf o old new) (sym same) kept
    go (is.Unread leaf digest) k = subst (λ (o : Option ℕ). HasFailedLeaf (first_failed o leaf) old new) (sym same) (first before leaf kept k)

abbrev pub placed : Configuration → DataPlace → DataBlock
placed c p = block_in c p.verity p.index

module _ {D : Type 0} (state : D → Device) {does : D → Call → D → Type 0} (c : Configuration) (p : DataPlace) (q : Parity) where
  -- none yet
  pub found-none : (old : Backing D) → AreFoundUpTo state does c p q 0 old old (own_loss (p.index / round_count q))
  found-none old = record {
    judged = record { moved = AreRead-none _ (leaves_in state old); failed = tt; noted = own_noted };
    given = λ expected. leads-begin _;
  }

  module _ {i : ℕ} {l : LossRecord} {first old : Backing D} (so_far : AreFoundUpTo state does c p q i first old l) where
    step-cost : i * judge_cost (placed c p) + judge_cost (placed c p) ≡ suc i * judge_cost (placed c p)
    step-cost = let next : suc i ≡ i + 1 = omega arith in let all : (i + 1) * judge_cost (placed c p) ≡ i * judge_cost (placed c p) + 1 * judge_cost (placed c p) = add-mul i 1 (judge_cost (placed c p)) in omega (arith, all, ap (λ k. k * judge_cost (placed c p)) next)

    -- there is no other block
    pub found-past : length l.places ≤ q.roots → i < 255 - q.roots → other_number q p.index i ≡ None → AreFoundUpTo state does c p q (suc i) first old l
    found-past few low none = record {
      judged = record { moved = AreRead-more (omega (arith, step-cost)) so_far.judged.moved; failed = so_far.judged.failed; noted = none_noted so_far.judged.noted none };
      given = λ expected. leads-then (so_far.given expected) (judging-past few low none);
    }

    module _ (k : ℕ) (next : IsNext q p.index i l k) {new : Backing D} where
      -- it was judged
      pub found-next : (judged : Judged) → IsJudged c p.verity k (leaves_in state old) (leaves_in state new) judged → ((expected : List ℕ) → JudgesTo does c p q i l expected (served old) (served new) (Ok judged))
          → AreFoundUpTo state does c p q (suc i) first new (noted l i judged)
      found-next judged h calls = record {
        judged = record {
          moved = AreRead-more (omega (arith, step-cost)) (AreRead-then so_far.judged.moved h.moved);
          failed = failed-next l.failed judged l i refl so_far.judged.moved h.moved so_far.judged.failed h.failed;
          noted = one_noted so_far.judged.noted next.at
              (λ sure. subst (λ (images : Images). IsJudgedAs p.verity (sources_of (placed c p) images) k judged) (images-kept so_far.judged.moved) (h.exact (sure-later (placed c p) k so_far.judged.moved sure)));
        };
        given = λ expected. leads-then (so_far.given expected) (calls expected);
      }

      -- or not
      pub unfound-next : 2 ≤ q.roots → (fault : IoFault) → IsUnjudged (block_in c p.verity k) (judge_cost (block_in c p.verity k)) (leaves_in state old) (leaves_in state new) fault → ((expected : List ℕ) → JudgesTo does c p q i l expected (served old) (served new) (Err fault))
          → AreUnfound state does c p q first new fault
      unfound-next some fault h calls = record {
        judged = go fault h;
        given = λ expected. (so_far.given expected).later (served new) (Err fault) (calls expected);
      }
        where
          most : suc i * judge_cost (placed c p) ≤ 254 * judge_cost (placed c p)
          most = mul-le-mul_right (judge_cost (placed c p)) (omega (arith, next.low))

          moved : AreRead (leaves_in state old) (judge_cost (placed c p)) (leaves_in state new) → AreRead (leaves_in state first) (254 * judge_cost (placed c p)) (leaves_in state new)
          moved more = AreRead-more (omega (arith, step-cost, most)) (AreRead-then so_far.judged.moved more)

          go : (fault : IoFault) → IsUnjudged (block_in c p.verity k) (judge_cost (block_in c p.verity k)) (leaves_in state old) (leaves_in state new) fault → IsUnjudged (placed c p) (254 * judge_cost (placed c p)) (leaves_in state first) (leaves_in state new) fault
          go (io.Stack other) h = absurd h.may
          go (io.Device leaf) h = record { moved = moved h.moved; may = (h.may.0, failed_later so_far.judged.moved.moved h.moved.moved h.may.1) }
          go io.NoMemory h = record { moved = moved h.moved; may = h.may }

  -- no memory for what was noted, or for the first
  pub unfound-full : 2 ≤ q.roots → {i : ℕ} {l : LossRecord} {first new : Backing D} → i ≤ 255 - q.roots → AreFoundUpTo state does c p q i first new l → IsOutOfMemory largest_allocation → AreUnfound state does c p q first new io.NoMemory
  unfound-full some {i = i} {l = l} {new = new} low found refused =
      let most : i * judge_cost (placed c p) ≤ 254 * judge_cost (placed c p) = mul-le-mul_right (judge_cost (placed c p)) (omega (arith, low)) in
      record {
        judged = record { moved = AreRead-more most found.judged.moved; may = refused };
        given = λ expected. (found.given expected).later (served new) (Err io.NoMemory) (reads-none (judged_full p q i l expected));
      }

-- the lost blocks that were found
pub losses-found : {D : Type 0} {state : D → Device} {does : D → Call → D → Type 0} {c : Configuration} {p : DataPlace} {old new : Backing D} (l : LossRecord) (q : Parity) → p.verity.parity ≡ Some q → p.index / round_count q < 255 - q.roots
    → AreFound state does c p q old new l → AreLossesOf p.verity p.index l
losses-found {p = p} l q has low found =
    let it = noted-below found.found.judged.noted in
    record {
      some = it.some;
      own = λ r other. it.first ∙ ap (λ (x : Parity). p.index / round_count x) (same q r has other);
      inside = λ r other k below. elim (it.each k below) [
        | inl own ↦ subst (λ (x : Parity). slice_index l.places k < 255 - x.roots) (same q r has other) (omega (arith, own, low))
        | inr less ↦ subst (λ (x : Parity). slice_index l.places k < 255 - x.roots) (same q r has other) (omega (arith, less, found.most))
      ];
      unread = it.unread;
    }
  where
    same : (x y : Parity) → p.verity.parity ≡ Some x → p.verity.parity ≡ Some y → x ≡ y
    same x y one two = let both : Some x ≡ Some y = sym one ∙ two in cc

-- if no more are lost than can be restored, all were judged
pub all-judged : {D : Type 0} {state : D → Device} {does : D → Call → D → Type 0} {c : Configuration} {p : DataPlace} {old new : Backing D} {l : LossRecord} (q : Parity) (found : AreFound state does c p q old new l) → length l.places ≤ q.roots → found.count ≡ 255 - q.roots
all-judged q found few = elim found.all [
  | inl all ↦ all
  | inr many ↦ absurd (omega (arith, many, few))
]
