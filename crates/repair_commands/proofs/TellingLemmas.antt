-- What was printed after a repair, by how the repair ended.
use Rattle.std.proofs.Common.{◌≡◌, ◌⊎◌, ℕ, Bool, List, Option, Result, Ok, Err, inl, inr, subst, sym}
use Rattle.std.specs.Prelude.{IfErr, IfOk, OnOk}
use Rattle.verity_commands.specs.declared.tree_fault.TreeFault.{TreeFault}
use Rattle.verity_commands.specs.Surveyed.{SurveyedDevices}
use Rattle.tree_repair.specs.declared.fault.RepairFault.{RepairFault}
use Rattle.tree_repair.specs.declared.outcome.Outcome.{Outcome}
use Rattle.tree_repair.specs.declared.repair.Plan.{Plan}
use Rattle.tree_repair.specs.Worlds.{RepairWorld}
use Rattle.repair_commands.specs.declared.counters.Counters.{Counters}
use Rattle.repair_commands.specs.Commands.{EndsEarly, EndsMending, EndsTelling, Mending, MendsAndTells, devices_in}
use Rattle.repair_commands.specs.Counters.{counters_of}
use Rattle.repair_commands.specs.Mends.{IsOnMedium}
use Rattle.repair_commands.specs.Rest.{IsUntold, Tells, known_by}
use Rattle.repair_commands.proofs.ScanLemmas.{medium-ended, medium-told}

module _ (Mends : Mending Outcome) (Half : Bool → Mending RepairFault) (whole : Bool) (plan : Plan) (mid : RepairWorld) (between new : Option (List ℕ)) (t' : SurveyedDevices)
    (synced : (found : Outcome) → Mends mid between found → IsOnMedium plan.write mid.data_dev mid.hash_dev) where
  pub told-ok : (r : Result Outcome RepairFault) (s : Result (Unit {0}) TreeFault) → IfOk r (Mends mid between) → OnOk s (Tells r whole plan (devices_in mid) t' between new) → OnOk s (MendsAndTells Mends whole plan new t')
  told-ok (Ok found) (Ok done) mends tells = record {
    mended = mid;
    between = between;
    found = found;
    mends = mends;
    tells = tells;
    on_medium = medium-told (known_by whole found) plan (devices_in mid) t' between new tells (synced found mends);
  }
  told-ok (Err fault) (Ok done) mends tells = absurd tells
  told-ok (Ok found) (Err fault) mends tells = tt
  told-ok (Err cause) (Err fault) mends tells = tt

  pub told-err : (was failed : Bool) (r : Result Outcome RepairFault) (s : Result (Unit {0}) TreeFault) → IfOk r (Mends mid between) → IfErr r (Half was mid between) → IfErr r (λ cause. failed ≡ was)
      → IfErr s (IsUntold r whole plan (devices_in mid) t' between new failed) → IfErr s (λ fault. EndsEarly Mends (Half failed) whole plan new failed fault t')
  told-err was failed (Ok found) (Ok done) mends half kept ends = tt
  told-err was failed (Err cause) (Ok done) mends half kept ends = tt
  told-err was failed (Ok found) (Err fault) mends half kept ends = inr (record {
    mended = mid;
    between = between;
    found = found;
    mends = mends;
    ends = ends;
    on_medium = medium-ended (known_by whole found) plan (devices_in mid) t' between new failed fault ends (synced found mends);
  })
  told-err was failed (Err cause) (Err fault) mends half kept (is, (same, quiet)) =
      inl (record {
        mid = mid;
        cause = cause;
        half = subst (λ (flag : Bool). Half flag mid new cause) (sym kept) (subst (λ (text : Option (List ℕ)). Half was mid text cause) (sym quiet) half);
        is = is;
        same = same;
      })

  -- with what the devices had counted
  module _ (n : Counters) (counted : n ≡ counters_of mid) where
    pub counted-ok : (r : Result Outcome RepairFault) (s : Result (Unit {0}) TreeFault) → IfOk r (Mends mid between) → OnOk s (Tells r whole plan (devices_in mid) t' between new)
        → OnOk s ((does : MendsAndTells Mends whole plan new t') × (n ≡ counters_of does.mended))
    counted-ok (Ok found) (Ok done) mends tells = (
      record {
        mended = mid;
        between = between;
        found = found;
        mends = mends;
        tells = tells;
        on_medium = medium-told (known_by whole found) plan (devices_in mid) t' between new tells (synced found mends);
      },
      counted,
    )
    counted-ok (Err fault) (Ok done) mends tells = absurd tells
    counted-ok (Ok found) (Err fault) mends tells = tt
    counted-ok (Err cause) (Err fault) mends tells = tt

    pub counted-err : (was failed : Bool) (r : Result Outcome RepairFault) (s : Result (Unit {0}) TreeFault) → IfOk r (Mends mid between) → IfErr r (Half was mid between) → IfErr r (λ cause. failed ≡ was)
        → IfErr s (IsUntold r whole plan (devices_in mid) t' between new failed)
        → IfErr s (λ fault. ((ends : EndsMending (Half failed) new fault t') × (n ≡ counters_of ends.mid)) ⊎ ((ends : EndsTelling Mends whole plan new failed fault t') × (n ≡ counters_of ends.mended)))
    counted-err was failed (Ok found) (Ok done) mends half kept ends = tt
    counted-err was failed (Err cause) (Ok done) mends half kept ends = tt
    counted-err was failed (Ok found) (Err fault) mends half kept ends = inr (
      record {
        mended = mid;
        between = between;
        found = found;
        mends = mends;
        ends = ends;
        on_medium = medium-ended (known_by whole found) plan (devices_in mid) t' between new failed fault ends (synced found mends);
      },
      counted,
    )
    counted-err was failed (Err cause) (Err fault) mends half kept (is, (same, quiet)) =
        inl (
          record {
            mid = mid;
            cause = cause;
            half = subst (λ (flag : Bool). Half flag mid new cause) (sym kept) (subst (λ (text : Option (List ℕ)). Half was mid text cause) (sym quiet) half);
            is = is;
            same = same;
          },
          counted,
        )
