-- A checked path that went on to a data block.
use Rattle.std.proofs.Common.{◌≡◌, ◌≢◌, ◌≤◌, ◌<◌, ◌+◌, ◌-◌, ℕ, true, false, refl, sym, ap, subst, arith, inl, inr}
use Rattle.std.proofs.lemmas.Bool.{false≢true}
use Rattle.block_device.specs.Device.{Device}
use Rattle.tree_shape.specs.Digests.{digest}
use Rattle.tree_shape.specs.Shape.{levels, per_block}
use Rattle.tree_path.specs.Path.{PathRecord, AreStored, block_of, digest_on}
use Rattle.tree_path.specs.Spans.{IsTopAt}
use Rattle.tree_path.specs.Steps.{IsDown, IsStopped, steps}
use Rattle.tree_path.proofs.lemmas.PathLemmas.{leads-down, stored-down}
use Rattle.tree_survey.specs.declared.checked_path.CheckedPath.{CheckedPath}
use Rattle.tree_survey.specs.Paths.{IsWayCutOff}
use Rattle.tree_survey.specs.CheckedPaths.{CanGoDown, HasGone}

module _ (w : CheckedPath) (q : PathRecord) (d d' : Device) (i top : ℕ) where
  -- all of them are good
  pub gone-down : CanGoDown w d i → IsTopAt (per_block w.path.shape) (levels w.path.shape) i top → w.good ≤ top → IsDown (steps w.path q d d' i top) 0 0
      → HasGone w (record { path = q; shape = w.shape; good = 0; unread = false }) d d' i
  gone-down can is low down = record {
    same = down.same;
    shape = refl;
    on = record {
      few = omega arith;
      leads = leads-down w.path q d d' i top 0 0 down (can.ready.leads top is low);
      bad = λ none read. absurd (omega (arith, none));
      stored = λ steady. stored-down w.path q d d' i top 0 0 down steady (can.ready.stored steady top is low);
    };
    failed = λ unread. absurd (false≢true unread);
  }

  -- one of them isn't
  pub gone-stopped : (level : ℕ) → CanGoDown w d i → IsTopAt (per_block w.path.shape) (levels w.path.shape) i top → w.good ≤ top → IsStopped (steps w.path q d d' i top) 0 level
      → HasGone w (record { path = q; shape = w.shape; good = level + 1; unread = false }) d d' i
  gone-stopped level can is low stopped =
      let same : level + 1 - 1 ≡ level = omega arith in
      record {
        same = stopped.down.same;
        shape = refl;
        on = record {
          few = omega (arith, stopped.between.1, is.few, ap levels stopped.down.same.shape_is);
          leads = leads-down w.path q d d' i top (level + 1) level stopped.down (can.ready.leads top is low);
          bad = λ some read. subst (λ (k : ℕ). digest q.salt (block_of q k) ≢ digest_on q i (level + 1)) (sym same) stopped.bad;
          stored = λ steady. subst (AreStored q d.image i) (sym same) (stored-down w.path q d d' i top (level + 1) level stopped.down steady (can.ready.stored steady top is low));
        };
        failed = λ unread. absurd (false≢true unread);
      }

  -- one of them couldn't be read
  pub gone-cut : (level : ℕ) → CanGoDown w d i → IsTopAt (per_block w.path.shape) (levels w.path.shape) i top → w.good ≤ top → IsWayCutOff (steps w.path q d d' i top) level
      → HasGone w (record { path = q; shape = w.shape; good = level + 1; unread = true }) d d' i
  gone-cut level can is low cut = record {
    same = cut.down.same;
    shape = refl;
    on = record {
      few = omega (arith, cut.low, is.few, ap levels cut.down.same.shape_is);
      leads = leads-down w.path q d cut.between i top (level + 1) (level + 1) cut.down (can.ready.leads top is low);
      bad = λ some read. absurd (false≢true (sym read));
      stored = λ steady. stored-down w.path q d cut.between i top (level + 1) (level + 1) cut.down steady (can.ready.stored steady top is low);
    };
    failed = λ unread. inr (omega arith, cut.failed);
  }

-- nothing is read
pub gone-stayed : (w : CheckedPath) (d : Device) (i top : ℕ) → CanGoDown w d i → IsTopAt (per_block w.path.shape) (levels w.path.shape) i top → top < w.good → HasGone w w d d i
gone-stayed w d i top can is low = record {
  same = record { shape_is = refl; salt_is = refl; root_is = refl };
  shape = refl;
  on = can.ready.stays top is low;
  failed = λ unread. inl (record { is = refl; top = top; is_top = is; low = low });
}
