-- Blocks that were looked at in one of several runs.
use Rattle.std.proofs.Common.{◌≡◌, ◌≤◌, ◌<◌, ◌+◌, ◌%◌, ◌/◌, ◌^◌, ℕ, List, [], ◌∷◌, ◌++◌, refl, sym, ap, ◌∙◌, arith, inl, inr, min}
use Rattle.std.specs.Prelude.{◌⊎◌}
use Rattle.std.proofs.Math.Nat.{add-mod_right}
use Rattle.std.proofs.lemmas.List.{append_assoc}
use Rattle.tree_shape.specs.Shape.{ShapeRecord, IsShape, ancestor, per_block}
use Rattle.tree_path.proofs.lemmas.SpanLemmas.{along, lower-mod}
use Rattle.tree_survey.specs.Failing.{HasFailedRead}
use Rattle.tree_repair.specs.declared.place.Row.{Row}
use Rattle.tree_repair.specs.Coverage.{IsLookedAt, IsVisitedIn}
use Rattle.tree_repair.specs.Jobs.{IsRow}
use Rattle.tree_repair.specs.Runs.{Job, VisitsAll, Visit}
use Rattle.tree_repair.specs.ParitySearches.{IsCutOff}
use Rattle.tree_repair.specs.Worlds.{IsWorldRead, RepairWorld}
use Rattle.tree_repair.proofs.RowLemmas.{per_block-some}
use Rattle.tree_repair.proofs.RunLemmas.{runs-read, runs-then, world-none}

pub in-left : (s : ShapeRecord) (h i : ℕ) (vs us : List Visit) → IsVisitedIn s h i vs → IsVisitedIn s h i (vs ++ us)
in-left s h i [] us at = absurd at
in-left s h i (v ∷ more) us (inl here) = inl here
in-left s h i (v ∷ more) us (inr there) = inr (in-left s h i more us there)

pub in-right : (s : ShapeRecord) (h i : ℕ) (vs us : List Visit) → IsVisitedIn s h i us → IsVisitedIn s h i (vs ++ us)
in-right s h i [] us at = at
in-right s h i (v ∷ more) us at = inr (in-right s h i more us at)

pub looked-left : (j : Job) (h i : ℕ) (vs us : List Visit) (x y z : RepairWorld) → IsLookedAt j h i vs x y → VisitsAll j us y z → IsLookedAt j h i (vs ++ us) x z
looked-left j h i vs us x y z (inl at) runs = inl (in-left j.tree.shape h i vs us at)
looked-left j h i vs us x y z (inr by) runs = inr (record {
  earlier = by.earlier;
  later = by.later ++ us;
  are = ap (λ (l : List Visit). l ++ us) by.are ∙ append_assoc by.earlier by.later us;
  a = by.a;
  b = by.b;
  before = by.before;
  read = by.read;
  behind = runs-then j by.later us by.b y z by.behind runs;
  beside = by.beside;
  same = by.same;
  cut = by.cut;
})

pub looked-right : (j : Job) (h i : ℕ) (vs us : List Visit) (x y z : RepairWorld) → VisitsAll j vs x y → IsLookedAt j h i us y z → IsLookedAt j h i (vs ++ us) x z
looked-right j h i vs us x y z runs (inl at) = inl (in-right j.tree.shape h i vs us at)
looked-right j h i vs us x y z runs (inr by) = inr (record {
  earlier = vs ++ by.earlier;
  later = by.later;
  are = ap (λ (l : List Visit). vs ++ l) by.are ∙ sym (append_assoc vs by.earlier by.later);
  a = by.a;
  b = by.b;
  before = runs-then j vs by.earlier x y by.a runs by.before;
  read = by.read;
  behind = by.behind;
  beside = by.beside;
  same = by.same;
  cut = by.cut;
})

pub looked-behind : (j : Job) (h i : ℕ) (vs : List Visit) (x y z : RepairWorld) → IsWorldRead x y → IsLookedAt j h i vs y z → IsLookedAt j h i vs x z
looked-behind j h i vs x y z read (inl at) = inl at
looked-behind j h i vs x y z read (inr by) = inr (record {
  earlier = by.earlier;
  later = by.later;
  are = by.are;
  a = by.a;
  b = by.b;
  before = runs-read j by.earlier x y by.a read by.before;
  read = by.read;
  behind = by.behind;
  beside = by.beside;
  same = by.same;
  cut = by.cut;
})

-- none of a row was looked at, for no good hash blocks lead to it
pub looked-cut : (j : Job) (h i k : ℕ) (x y : RepairWorld) → IsWorldRead x y → ancestor j.tree.shape (h + 1) k ≡ ancestor j.tree.shape (h + 1) i → HasFailedRead x.hash_dev y.hash_dev ⊎ IsCutOff j.tree k h x.hash_dev → IsLookedAt j h i [] x y
looked-cut j h i k x y read same cut = inr (record {
  earlier = [];
  later = [];
  are = refl;
  a = x;
  b = y;
  before = world-none x;
  read = read;
  behind = world-none y;
  beside = k;
  same = same;
  cut = cut;
})

-- ---- where blocks begin

ancestor-is : (s : ShapeRecord) (m i : ℕ) → ancestor s m i ≡ i / per_block s ^ m
unfolding ancestor
ancestor-is s m i = refl

-- data blocks of one subtree have the same block above
pub same-above : (s : ShapeRecord) (h a i : ℕ) → IsShape s → a % per_block s ^ h ≡ 0 → a ≤ i → i < a + per_block s ^ h → ancestor s h a ≡ ancestor s h i
same-above s h a i valid begins from below =
    ancestor-is s h a ∙ sym (along (per_block s) (per_block-some s valid) a i h h (omega arith) begins from below) ∙ sym (ancestor-is s h i)

-- of a row all have the same hash block above
pub row-above : (s : ShapeRecord) (row : Row) (i : ℕ) → IsShape s → IsRow s row → row.first ≤ i → i < row.end → ancestor s (row.height + 1) row.first ≡ ancestor s (row.height + 1) i
row-above s row i valid is from below = same-above s (row.height + 1) row.first i valid is.begins from (omega (arith, below, is.few))

-- the first block of a row begins one
pub first-begins : (s : ShapeRecord) (row : Row) → IsShape s → IsRow s row → row.first % per_block s ^ row.height ≡ 0
first-begins s row valid is = lower-mod (per_block s) (per_block-some s valid) row.first row.height (row.height + 1) (omega arith) is.begins

-- and so does the next one, if there is one
pub next-begins : (p h index step blocks end : ℕ) → index % p ^ h ≡ 0 → step ≡ min (p ^ h) blocks → end ≤ blocks → index + step < end → (index + step) % p ^ h ≡ 0
next-begins p h index step blocks end begins step_is inside low =
    let big : ℕ = p ^ h in
    let at : index + step ≡ index + big = omega (arith, step_is, inside, low) in
    ap (λ (n : ℕ). n % big) at ∙ add-mod_right index big ∙ begins
