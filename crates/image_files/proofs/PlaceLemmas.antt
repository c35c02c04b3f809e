-- Why a place isn't opened.
use Rattle.std.proofs.Common.{◌≡◌, true, Result, Ok, Err, refl, subst, sym}
use Rattle.std.specs.Prelude.{IfErr, IsErrAnd}
use Rattle.std.proofs.lemmas.Bool.{false≢true}
use Rattle.block_device.specs.declared.open_fault.OpenFault.{OpenFault}
use Rattle.block_device.specs.declared.open_fault.OpenFault.TheVariants.{InUse, NoMemory, NotAllowed, NotFound, OtherFault, SameFile, TooLarge}
use Rattle.image_files.specs.OpenPlaces.{is_missing}

-- what holds of a fault holds of a result that is this fault
pub err-from : {T E : Type 0} (r : Result T E) (P : E → Type 0) (fault : E) → IsErrAnd r (λ e. e ≡ fault) → P fault → IfErr r P
err-from (Ok done) P fault is holds = tt
err-from (Err e) P fault is holds = subst P (sym is) holds

-- no other fault says that there is no file
pub missing-is : (fault : OpenFault) → is_missing fault ≡ true → fault ≡ NotFound
missing-is NotFound is = refl
missing-is NotAllowed is = absurd (false≢true is)
missing-is TooLarge is = absurd (false≢true is)
missing-is OtherFault is = absurd (false≢true is)
missing-is NoMemory is = absurd (false≢true is)
missing-is SameFile is = absurd (false≢true is)
missing-is InUse is = absurd (false≢true is)
