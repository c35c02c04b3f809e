-- Why no image is opened: the fault of a call that failed.
use Rattle.std.proofs.Common.{◌≡◌, ℕ, Bool, List, Result, Ok, Err, subst, sym}
use Rattle.std.specs.Prelude.{IfErr, IsErrAnd}
use Rattle.block_device.specs.declared.open_fault.OpenFault.{OpenFault}
use Rattle.block_device.specs.Unopened.{IsUnopenedImage}

pub fault-passed : {T : Type 0} (result : Result T OpenFault) (path : List ℕ) (writable : Bool) (fault : OpenFault) → IsErrAnd result (λ e. e ≡ fault) → IsUnopenedImage path writable fault → IfErr result (IsUnopenedImage path writable)
fault-passed (Ok done) path writable fault is cause = tt
fault-passed (Err e) path writable fault is cause = subst (IsUnopenedImage path writable) (sym is) cause
