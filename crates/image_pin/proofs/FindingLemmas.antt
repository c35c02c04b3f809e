-- Hash images without a tree that a command may use.
use Rattle.std.proofs.Common.{◌≡◌, ℕ, Option, Result, Ok, Err, true, sym, subst}
use Rattle.std.specs.Prelude.{IfErr, IsErrAnd}
use Rattle.block_device.specs.Call.{Call}
use Rattle.block_device.specs.Device.{Device}
use Rattle.image_pin.specs.declared.pin.Pin.{Pin as ImagePin}
use Rattle.image_pin.specs.declared.pinned.PinnedFault.{PinnedFault}
use Rattle.image_pin.specs.declared.pinned.PinnedFault.TheVariants as pinned
use Rattle.image_pin.specs.Finding.{GivesNoTree, IsNoTree, may_begin, unpinned_tree}
use Rattle.image_pin.specs.PinnedReads.{GivesNoPinned, IsPinnedCause}

-- what holds of a fault holds of the result that hands it on
pub err-from : {T E : Type 0} (r : Result T E) (P : E → Type 0) (fault : E) → IsErrAnd r (λ e. e ≡ fault) → P fault → IfErr r P
err-from (Ok done) P fault is holds = tt
err-from (Err e) P fault is holds = subst P (sym is) holds

pub no-pinned-tree : (device : Device) (first : ℕ) (pin : Option ImagePin) (device' : Device) (fault : PinnedFault) → may_begin pin first ≡ true → IsPinnedCause device pin device' fault
    → IsNoTree device first pin device' (unpinned_tree fault)
no-pinned-tree device first pin device' (pinned.Unread fault) may cause = (may, cause)
no-pinned-tree device first pin device' (pinned.Unpinned mismatch) may cause = (may, cause)

pub no-pinned-calls : {H : Type 0} (does : H → Call → H → Type 0) (old : H) (first : ℕ) (pin : Option ImagePin) (new : H) (fault : PinnedFault) → GivesNoPinned does old pin new fault → GivesNoTree does old first pin new (unpinned_tree fault)
no-pinned-calls does old first pin new (pinned.Unread fault) made = made
no-pinned-calls does old first pin new (pinned.Unpinned mismatch) made = made
