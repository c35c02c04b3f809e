-- How a block that is recorded as found nowhere was sought.
use Rattle.std.proofs.Common.{◌≡◌, ◌<◌, ℕ, Bool, false, List, [], ◌∷◌, ◌++◌, subst, inl, inr}
use Rattle.block_device.specs.Device.{Device}
use Rattle.fec_area.specs.declared.layout.Layout.{Layout}
use Rattle.tree_shape.specs.Shape.{ancestor}
use Rattle.tree_repair.specs.declared.bad.BadBlock.{BadBlock}
use Rattle.tree_repair.specs.Runs.{Job, Visit, VisitsAll}
use Rattle.tree_repair.specs.ParitySearches.{AreSought, IsSought, IsSoughtAt, trial}
use Rattle.tree_repair.specs.Worlds.{IsParityRead, RepairWorld}
use Rattle.tree_repair.proofs.BeyondLemmas.{all-parity, all-visits, sought-parity, sought-visits}
use Rattle.tree_repair.proofs.RecordedLemmas.{IsRecordedAt, IsRecordedIn}
use Rattle.tree_repair.proofs.RunLemmas.{parity-none, parity-then, runs-then, world-none}

-- ---- one of them

-- it was sought from one world to another, after visits and before others
pub record IsTriedIn (j : Job) (l : Layout) (lost : List ℕ) (h i : ℕ) (w w' : RepairWorld) (p p' : Device) : Type 0 where
  pub beside : ℕ
  pub inside : beside < j.tree.shape.blocks
  pub same : ancestor j.tree.shape h beside ≡ ancestor j.tree.shape h i
  pub a : RepairWorld
  pub b : RepairWorld
  pub q : Device
  pub q' : Device
  pub earlier : List Visit
  pub before : VisitsAll j earlier w a
  pub later : List Visit
  pub behind : VisitsAll j later b w'
  pub parity_read : IsParityRead p q
  pub parity_behind : IsParityRead q' p'
  pub back : Bool
  pub sought : IsSoughtAt j h beside (trial l lost a b q q') false back

here-tried : (j : Job) (l : Layout) (lost : List ℕ) (h i : ℕ) (b : BadBlock) (w a w' : RepairWorld) (p q p' : Device) (back : Bool) (later : List Visit)
    → IsRecordedAt j.tree.shape h i false b → IsSought j b (trial l lost w a p q) back
    → VisitsAll j later a w' → IsParityRead q p' → IsTriedIn j l lost h i w w' p p'
here-tried j l lost h i b w a w' p q p' back later at here behind read = record {
  beside = b.place.index;
  inside = at.inside;
  same = at.same;
  a = w;
  b = a;
  q = p;
  q' = q;
  earlier = [];
  before = world-none w;
  later = later;
  behind = behind;
  parity_read = parity-none p;
  parity_behind = read;
  back = back;
  sought = subst (λ (found : Bool). IsSoughtAt j h b.place.index (trial l lost w a p q) found back) at.found_is
      (subst (λ (n : ℕ). IsSoughtAt j n b.place.index (trial l lost w a p q) b.found back) at.height_is here);
}

later-tried : (j : Job) (l : Layout) (lost : List ℕ) (h i : ℕ) (vs : List Visit) (w a w' : RepairWorld) (p q p' : Device) → VisitsAll j vs w a → IsParityRead p q
    → IsTriedIn j l lost h i a w' q p' → IsTriedIn j l lost h i w w' p p'
later-tried j l lost h i vs w a w' p q p' before read x = record {
  beside = x.beside;
  inside = x.inside;
  same = x.same;
  a = x.a;
  b = x.b;
  q = x.q;
  q' = x.q';
  earlier = vs ++ x.earlier;
  before = runs-then j vs x.earlier w a x.a before x.before;
  later = x.later;
  behind = x.behind;
  parity_read = parity-then read x.parity_read;
  parity_behind = x.parity_behind;
  back = x.back;
  sought = x.sought;
}

pub recorded-tried : (j : Job) (l : Layout) (lost : List ℕ) (h i : ℕ) (bs : List BadBlock) (w w' : RepairWorld) (p p' : Device) (hash_came : Bool)
    → AreSought j l lost bs w w' p p' hash_came → IsRecordedIn j.tree.shape h i false bs
    → IsTriedIn j l lost h i w w' p p'
recorded-tried j l lost h i [] w w' p p' hash_came are at = absurd at
recorded-tried j l lost h i (b ∷ more) w w' p p' hash_came (a, (q, (back, (rest, (is, (here, are)))))) (inl at) =
    let later = all-visits j l lost more a w' q p' rest are in
    here-tried j l lost h i b w a w' p q p' back later.0 at here later.1 (all-parity j l lost more a w' q p' rest are)
recorded-tried j l lost h i (b ∷ more) w w' p p' hash_came (a, (q, (back, (rest, (is, (here, are)))))) (inr there) =
    let first = sought-visits j b.place.height b.place.index (trial l lost w a p q) b.found back here in
    let read = sought-parity j b.place.height b.place.index (trial l lost w a p q) b.found back here in
    later-tried j l lost h i first.0 w a w' p q p' first.1 read (recorded-tried j l lost h i more a w' q p' rest are there)
