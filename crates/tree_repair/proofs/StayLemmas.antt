-- Sectors in no block that was mended.
use Rattle.std.proofs.Common.{◌≡◌, ◌+◌, ◌-◌, ℕ, zero, suc, Bool, true, false, IsTrue, List, [], ◌∷◌, get_or, sym, ap, ◌∙◌, arith, inl, inr}
use Rattle.std.proofs.lemmas.List.{get_or-drop, get_or-take}
use Rattle.block_device.specs.Device.{Device, IsWritten}
use Rattle.tree_path.specs.Path.{PathRecord}
use Rattle.verity_format.proofs.lemmas.DeviceLemmas.{steady-then}
use Rattle.tree_repair.specs.declared.mending.Mended.{Mended}
use Rattle.tree_repair.specs.declared.mending.Mended.TheVariants as mended
use Rattle.tree_repair.specs.Laws.{AreOff, IsOffData, IsOffTree, IsSectorOutside, OtherSectorsStay}
use Rattle.tree_repair.specs.Mending.{IsBlockFound, IsMended, IsAllowedPut, BlockCheck}
use Rattle.tree_repair.specs.Runs.{Job, OtherStays, VisitsAll, Visit, look_at, other}
use Rattle.tree_repair.specs.Worlds.{RepairWorld}
use Rattle.tree_repair.proofs.RunLemmas.{other-image, visited-same}

module _ (k : ℕ) (d : List ℕ) where
  written-stays : (old : Device) (first n : ℕ) (done : Bool) (new : Device) → IsWritten old first n done new → IsTrue old.steady → IsSectorOutside first n k → get_or new.image k d ≡ get_or old.image k d
  written-stays old first n done new moved steady (inl low) =
      sym (get_or-take first new.image k d low) ∙ ap (λ (im : List (List ℕ)). get_or im k d) (moved.before steady) ∙ get_or-take first old.image k d low
  written-stays old first n done new moved steady (inr high) =
      let r : ℕ = k - (first + n) in
      let at : (first + n) + r ≡ k = omega (arith, high) in
      ap (λ (m : ℕ). get_or new.image m d) (sym at) ∙ sym (get_or-drop (first + n) new.image r d)
      ∙ ap (λ (im : List (List ℕ)). get_or im r d) (moved.after steady)
      ∙ get_or-drop (first + n) old.image r d ∙ ap (λ (m : ℕ). get_or old.image m d) at

  put-stays : (write : Bool) (old : Device) (first n : ℕ) (bytes : List ℕ) (done : Bool) (new : Device) → IsAllowedPut write old first n bytes done new → IsTrue old.steady → IsSectorOutside first n k
      → get_or new.image k d ≡ get_or old.image k d
  put-stays true old first n bytes done new put steady outside = written-stays old first n done new put.moved steady outside
  put-stays false old first n bytes done new put steady outside = ap (λ (x : Device). get_or x.image k d) put.0

  look-stays : (l : BlockCheck) (bytes : List ℕ) (done : Bool) (m : Mended) → IsMended l bytes done m → IsTrue l.old.steady → (IsBlockFound m → IsSectorOutside l.first l.w.sectors k)
      → get_or l.new.image k d ≡ get_or l.old.image k d
  look-stays l bytes done mended.Good found steady outside = ap (λ (im : List (List ℕ)). get_or im k d) (found.read.image steady)
  look-stays l bytes done (mended.Copy n) found steady outside =
      put-stays l.write found.between l.first l.w.sectors bytes done l.new found.put (steady-then found.read.same steady) (outside tt)
      ∙ ap (λ (im : List (List ℕ)). get_or im k d) (found.read.image steady)
  look-stays l bytes done mended.Remade found steady outside =
      let seen : IsTrue found.seen.steady = steady-then found.read.same steady in
      put-stays l.write found.between l.first l.w.sectors bytes done l.new found.put (steady-then found.beneath_read.same seen) (outside tt)
      ∙ ap (λ (im : List (List ℕ)). get_or im k d) (found.beneath_read.image seen ∙ found.read.image steady)
  look-stays l bytes done mended.Parity found steady outside =
      put-stays l.write found.replaced.between l.first l.w.sectors bytes done l.new found.replaced.put (steady-then found.replaced.read.same steady) (outside tt)
      ∙ ap (λ (im : List (List ℕ)). get_or im k d) (found.replaced.read.image steady)
  look-stays l bytes done mended.Lost found steady outside =
      ap (λ (im : List (List ℕ)). get_or im k d) (found.beneath_read.image (steady-then found.read.same steady) ∙ found.read.image steady)

  module _ (j : Job) (p : PathRecord) where
    data-visit : (h i : ℕ) (m : Mended) (bytes : List ℕ) (done : Bool) (w w' : RepairWorld) → IsMended (look_at j p h i w w') bytes done m → OtherStays h m (other h w) (other h w') → IsTrue w.data_dev.steady
        → (IsBlockFound m → IsOffData j k h i) → get_or w'.data_dev.image k d ≡ get_or w.data_dev.image k d
    data-visit zero i m bytes done w w' looked stays steady off = look-stays (look_at j p zero i w w') bytes done m looked steady off
    data-visit (suc l) i m bytes done w w' looked stays steady off = ap (λ (im : List (List ℕ)). get_or im k d) (other-image (suc l) m w.data_dev w'.data_dev stays steady)

    tree-visit : (h i : ℕ) (m : Mended) (bytes : List ℕ) (done : Bool) (w w' : RepairWorld) → IsMended (look_at j p h i w w') bytes done m → OtherStays h m (other h w) (other h w') → IsTrue w.hash_dev.steady
        → (IsBlockFound m → IsOffTree j k h i) → get_or w'.hash_dev.image k d ≡ get_or w.hash_dev.image k d
    tree-visit zero i m bytes done w w' looked stays steady off = ap (λ (im : List (List ℕ)). get_or im k d) (other-image zero m w.hash_dev w'.hash_dev stays steady)
    tree-visit (suc l) i m bytes done w w' looked stays steady off = look-stays (look_at j p (suc l) i w w') bytes done m looked steady off

  data-run : (j : Job) (vs : List Visit) (w w' : RepairWorld) → VisitsAll j vs w w' → IsTrue w.data_dev.steady → AreOff (IsOffData j k) vs → get_or w'.data_dev.image k d ≡ get_or w.data_dev.image k d
  data-run j [] w w' read steady off = ap (λ (im : List (List ℕ)). get_or im k d) (read.data_read.image steady)
  data-run j (v ∷ more) w w' (x, (y, (read, (here, rest)))) steady off =
      let before : IsTrue x.data_dev.steady = steady-then read.data_read.same steady in
      data-run j more y w' rest (steady-then (visited-same j v x y here).data_same before) off.1
      ∙ data-visit j here.p v.height v.index v.mended v.bytes v.done x y here.mended_as here.other_stays before off.0
      ∙ ap (λ (im : List (List ℕ)). get_or im k d) (read.data_read.image steady)

  tree-run : (j : Job) (vs : List Visit) (w w' : RepairWorld) → VisitsAll j vs w w' → IsTrue w.hash_dev.steady → AreOff (IsOffTree j k) vs → get_or w'.hash_dev.image k d ≡ get_or w.hash_dev.image k d
  tree-run j [] w w' read steady off = ap (λ (im : List (List ℕ)). get_or im k d) (read.hash_read.image steady)
  tree-run j (v ∷ more) w w' (x, (y, (read, (here, rest)))) steady off =
      let before : IsTrue x.hash_dev.steady = steady-then read.hash_read.same steady in
      tree-run j more y w' rest (steady-then (visited-same j v x y here).hash_same before) off.1
      ∙ tree-visit j here.p v.height v.index v.mended v.bytes v.done x y here.mended_as here.other_stays before off.0
      ∙ ap (λ (im : List (List ℕ)). get_or im k d) (read.hash_read.image steady)

pub others-stay : OtherSectorsStay
others-stay j vs w w' runs = record {
  data_stays = λ steady k off d. data-run k d j vs w w' runs steady off;
  tree_stays = λ steady k off d. tree-run k d j vs w w' runs steady off;
}
