-- Trees that can't be compared.
use Rattle.std.proofs.Common.{◌≡◌, ℕ, Bool, List, Option, refl}
use Rattle.std.proofs.Math.Path.{subst₂}
use Rattle.block_device.specs.Device.{Device}
use Rattle.verity_format.specs.declared.verifying.VerifyFault.TheVariants.{Super, TooSmall, Device as DeviceFailed, NoMemory as NoRoom}
use Rattle.tree_difference.specs.declared.fault.DifferenceFault.{DifferenceFault}
use Rattle.tree_difference.specs.declared.fault.DifferenceFault.TheVariants.{Image, Unaligned, Unpinned, Unlike, Hash, NoMemory, Write}
use Rattle.tree_difference.specs.declared.fault.Which.TheVariants.{First, Second}
use Rattle.tree_difference.specs.declared.trees.TreePair.{TreePair}
use Rattle.tree_difference.specs.Causes.{IsFirstBlock}
use Rattle.tree_difference.specs.Comparisons.{difference_world}
use Rattle.tree_difference.specs.Differences.{IsDifferenceCause}
use Rattle.tree_difference.specs.Refusals.{CanCompareTrees, IsPairRefused}

-- the sizes that were tested are those of the devices
pub can-on : (pair : TreePair) (d e : Device) (n m : ℕ) → n ≡ d.size → m ≡ e.size → CanCompareTrees pair n m → CanCompareTrees pair d.size e.size
can-on pair d e n m p q can = subst₂ (λ (x y : ℕ). CanCompareTrees pair x y) p q can

refused-at : (pair : TreePair) (d e : Device) (old new : Option (List ℕ)) (failed : Bool) (fault : DifferenceFault) → IsPairRefused pair d.size e.size fault → IsDifferenceCause (difference_world d e d e old new) pair failed fault
refused-at pair d e old new failed (Image First TooSmall) h = (h, refl, refl)
refused-at pair d e old new failed (Image Second TooSmall) h = (h, refl, refl)
refused-at pair d e old new failed (Unlike f) h = (h, refl, refl)
refused-at pair d e old new failed (Image First (Super f)) h = absurd h
refused-at pair d e old new failed (Image First DeviceFailed) h = absurd h
refused-at pair d e old new failed (Image First NoRoom) h = absurd h
refused-at pair d e old new failed (Image Second (Super f)) h = absurd h
refused-at pair d e old new failed (Image Second DeviceFailed) h = absurd h
refused-at pair d e old new failed (Image Second NoRoom) h = absurd h
refused-at pair d e old new failed (Unaligned tree) h = absurd h
refused-at pair d e old new failed (Unpinned tree mismatch) h = absurd h
refused-at pair d e old new failed (Hash tree level number) h = absurd h
refused-at pair d e old new failed NoMemory h = absurd h
refused-at pair d e old new failed Write h = absurd h

pub refused-cause : (pair : TreePair) (d e : Device) (n m : ℕ) (old new : Option (List ℕ)) (failed : Bool) (fault : DifferenceFault) → n ≡ d.size → m ≡ e.size → IsPairRefused pair n m fault
    → IsDifferenceCause (difference_world d e d e old new) pair failed fault
refused-cause pair d e n m old new failed fault p q h = refused-at pair d e old new failed fault (subst₂ (λ (x y : ℕ). IsPairRefused pair x y fault) p q h)

-- no hash block was read
pub refused-first : (pair : TreePair) (n m : ℕ) (fault : DifferenceFault) → IsPairRefused pair n m fault → IsFirstBlock fault
refused-first pair n m (Image tree f) h = tt
refused-first pair n m (Unlike f) h = tt
refused-first pair n m (Unaligned tree) h = tt
refused-first pair n m (Unpinned tree mismatch) h = tt
refused-first pair n m (Hash tree level number) h = absurd h
refused-first pair n m NoMemory h = tt
refused-first pair n m Write h = tt
