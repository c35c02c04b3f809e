-- What a repair did of a plan, by what its run did.
use Rattle.std.proofs.Common.{◌≡◌, ◌≤◌, ◌^◌, ℕ, List, Option, None, Some, Bool, Result, Ok, Err, sym, subst, arith, inr, true, false, refl}
use Rattle.std.specs.Prelude.{IfErr, IsErrAnd}
use Rattle.std.specs.Result.{result_err}
use Rattle.block_device.specs.Device.{Device}
use Rattle.fec_area.specs.declared.layout.Layout.{Layout}
use Rattle.tree_repair.specs.declared.bad.BadBlocks.{BadBlocks}
use Rattle.tree_repair.specs.declared.fault.RepairFault.{RepairFault}
use Rattle.tree_repair.specs.declared.repair.Plan.{Plan}
use Rattle.tree_repair.specs.Coverage.{IsFromUp}
use Rattle.tree_repair.specs.Passes.{EndsInPass, HasNoted}
use Rattle.tree_repair.specs.Repairs.{IsAllowed, IsUnrepairedBy, LiesOn, LooksAtAll, Repairs, SeeksByParity, job_of}
use Rattle.tree_repair.specs.Runs.{CanRun, HasRun, Job}
use Rattle.tree_repair.specs.Worlds.{RepairWorld}

module _ (plan : Plan) (parity : Bool) (j : Job) (w : RepairWorld) (same : j ≡ job_of plan parity) (lies : LiesOn plan.tree.shape w) where
  begin-of : IsAllowed plan.write w.data_dev w.hash_dev → plan.copy_first ≤ 2 ^ 55 → CanRun (job_of plan parity) w
  begin-of allowed small = record {
    valid = lies.valid;
    data_fits = lies.data_fits;
    tree_fits = lies.tree_fits;
    data_writable = allowed.data_writable;
    hash_writable = allowed.hash_writable;
    copy_small = small;
  }

  pub can-begin : IsAllowed plan.write w.data_dev w.hash_dev → plan.copy_first ≤ 2 ^ 55 → CanRun j w
  can-begin allowed small = subst (λ (x : Job). CanRun x w) (sym same) (begin-of allowed small)

  abbrev pub repairs-of : (w' : RepairWorld) (old new : Option (List ℕ)) (fault : Option RepairFault) → HasRun j w w' old new fault → Repairs plan parity w w' old new fault
  repairs-of w' old new fault run = record { lies = lies; run = subst (λ (x : Job). HasRun x w w' old new fault) same run }

  pub whole-err : {T : Type 0} (w' : RepairWorld) (old new : Option (List ℕ)) (r : Result T RepairFault) → HasRun j w w' old new (result_err r) → IfErr r (IsUnrepairedBy plan parity w w' old new)
  whole-err w' old new (Ok x) run = tt
  whole-err w' old new (Err e) run = inr (repairs-of w' old new (Some e) run)

-- what ends in a pass
pub ends-of : (plan : Plan) (j : Job) (l : Layout) (w w' : RepairWorld) (p p' : Device) → j ≡ job_of plan true → LiesOn plan.tree.shape w → EndsInPass j l w w' p p' → SeeksByParity plan l w w' p p'
ends-of plan j l w w' p p' same lies ends = record { lies = lies; ends = subst (λ (x : Job). EndsInPass x l w w' p p') same ends }

-- what was looked at
pub looks-of : (plan : Plan) (j : Job) (w w' : RepairWorld) (old new : Option (List ℕ)) (x y : BadBlocks) → job_of plan false ≡ j → LiesOn plan.tree.shape w → HasNoted j (IsFromUp j.tree.shape 0) w w' old new x y None → LooksAtAll plan w w' old new
looks-of plan j w w' old new x y same lies noted =
    let here = subst (λ (k : Job). HasNoted k (IsFromUp k.tree.shape 0) w w' old new x y None) (sym same) noted in
    record { repairs = record { lies = lies; run = here.run }; looked = λ h i high inside. here.looked refl h i (omega arith, (high, inside)) }

-- what holds of a fault holds of the result that hands it on
pub err-from : {T E : Type 0} (r : Result T E) (P : E → Type 0) (fault : E) → IsErrAnd r (λ e. e ≡ fault) → P fault → IfErr r P
err-from (Ok done) P fault is holds = tt
err-from (Err e) P fault is holds = subst P (sym is) holds

-- what holds of a fault holds of the result that is known to be that fault
pub is_err-from : {T E : Type 0} (r : Result T E) (P : E → Type 0) (fault : E) → IsErrAnd r (λ e. e ≡ fault) → P fault → IsErrAnd r P
is_err-from (Ok done) P fault is holds = absurd is
is_err-from (Err e) P fault is holds = subst P (sym is) holds
