-- Commands on images that are opened, or aren't.
use Rattle.std.proofs.Common.{◌≡◌, ◌≤◌, arith, ap, sym, subst, ◌∙◌, Result, Ok, Err}
use Rattle.std.specs.Prelude.{IfErr, IsErrAnd}
use Rattle.block_device.specs.Device.{Device}
use Rattle.device_adapters.specs.declared.part.Part.{Part}
use Rattle.device_adapters.specs.Windows.{windowed}
use Rattle.tree_difference.specs.declared.trees.TreePair.{TreePair}
use Rattle.verity_commands.specs.declared.tree_pair.TreeStarts.{TreeStarts}
use Rattle.verity_commands.specs.declared.tree_pair.SoughtTrees.{SoughtTrees}
use Rattle.verity_format.specs.Image.{tree_sectors}
use Rattle.verity_commands.specs.TreePairs.{AreTreesFound}

-- what holds of a fault holds of the result that hands it on
pub err-from : {T E : Type 0} (r : Result T E) (P : E → Type 0) (fault : E) → IsErrAnd r (λ e. e ≡ fault) → P fault → IfErr r P
err-from (Ok done) P fault is holds = tt
err-from (Err e) P fault is holds = subst P (sym is) holds

-- windows of devices that are the same
pub windowed-same : (d d' : Device) (p p' : Part) → d ≡ d' → p ≡ p' → windowed d p ≡ windowed d' p'
windowed-same d d' p p' e f = ap (λ (x : Device). windowed x p) e ∙ ap (windowed d') f

-- a second tree that was found fits on its device
pub found-fits : (first second first' second' : Device) (starts : TreeStarts) (sought : SoughtTrees) (pair : TreePair) → AreTreesFound first second first' second' starts sought pair → tree_sectors pair.second.shape ≤ second'.size
found-fits first second first' second' starts sought pair o = omega (arith, o.second_found.fits, o.second_found.read.same.size)
