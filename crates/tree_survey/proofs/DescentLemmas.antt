-- Hash blocks on the way down, above one that couldn't be read.
use Rattle.std.proofs.Common.{◌≡◌, ◌≢◌, ◌<◌, ◌+◌, ℕ, suc, IsTrue, List, [], sym, ap, ◌∙◌, subst, arith, add-one, get_or-set_other}
use Rattle.block_device.specs.Device.{Device}
use Rattle.tree_shape.specs.Digests.{digest}
use Rattle.tree_path.specs.Path.{PathRecord, block_of, digest_on}
use Rattle.tree_path.specs.Steps.{IsDown, IsUnloaded, steps}
use Rattle.tree_path.proofs.lemmas.PathLemmas.{digest_on-same}
use Rattle.tree_survey.specs.Failing.{IsReadOver}
use Rattle.tree_survey.specs.Paths.{IsWayCutOff}
use Rattle.tree_survey.proofs.FailingLemmas.{failed-later, over-full}

module _ (old mid new : PathRecord) (d dm d' : Device) (index from l : ℕ) (low : l < from) (down : IsDown (steps old mid d dm index from) (suc l) (suc l)) (un : IsUnloaded (steps mid new dm d' index l)) where
  new-salt : new.salt ≡ mid.salt
  new-salt = ap (λ (p : PathRecord). p.salt) un.is

  other : (k : ℕ) → k ≢ l → block_of new k ≡ block_of mid k
  other k ne = ap (λ (p : PathRecord). block_of p k) un.is ∙ get_or-set_other mid.blocks l k un.block [] ne

  above : (k : ℕ) → l < k → digest_on new index k ≡ digest_on mid index k
  above k high =
      digest_on-same new mid index k (ap (λ (p : PathRecord). p.shape) un.is) (ap (λ (p : PathRecord). p.root) un.is) (other k (λ e. omega (arith, e, high)))

  down-kept : IsDown (steps old new d dm index from) (suc l) (suc l)
  down-kept = record {
    same = record {
      shape_is = ap (λ (p : PathRecord). p.shape) un.is ∙ down.same.shape_is;
      salt_is = new-salt ∙ down.same.salt_is;
      root_is = ap (λ (p : PathRecord). p.root) un.is ∙ down.same.root_is;
    };
    kept = λ k le. other k (λ e. omega (arith, e, le, low)) ∙ down.kept k le;
    goods = λ k high under.
        ap (λ (s : List ℕ). digest s (block_of new k)) new-salt ∙ ap (digest mid.salt) (other k (λ e. omega (arith, e, high)))
        ∙ down.goods k high under ∙ sym (above (k + 1) (omega (arith, high)));
    stored = λ steady k le under. other k (λ e. omega (arith, e, le)) ∙ down.stored steady k le under;
    full = down.full;
  }

  pub cut-off : IsReadOver dm d' → (IsTrue dm.never_fails → ⊥) → IsWayCutOff (steps old new d d' index from) l
  cut-off over unsure = record {
    low = low;
    between = dm;
    down = subst (λ (n : ℕ). IsDown (steps old new d dm index from) n n) (sym (add-one l)) down-kept;
    failed = failed-later (over-full _ down.full) over (un.fault.failed, unsure);
  }
