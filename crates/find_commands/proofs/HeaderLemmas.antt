-- A LUKS2 header that is open.
use Rattle.std.proofs.Common.{◌≡◌, ℕ, List, Option, None, Some, subst}
use Rattle.find_commands.specs.declared.finding.Finding.{Finding}
use Rattle.find_commands.specs.declared.header.OpenHeader.{OpenHeader}
use Rattle.find_commands.specs.Headers.{Header, IsHeader, IsOpen, grown, grown_open, grown_report, whole_open, whole_report}
use Rattle.find_commands.specs.Searches.{Reports}

-- its next sector was read
pub goes-on : {L : Type 0} (receives : L → Finding → L → Type 0) (old new : L) (o o' : OpenHeader) (next : Option OpenHeader) (sector : List ℕ) → ((h : Header) → IsHeader o h → IsHeader o' (grown h sector))
    → ((h : Header) → IsHeader o' h → Reports receives old (whole_report h) new next (whole_open h)) → (h : Option Header) → IsOpen (Some o) h → Reports receives old (grown_report h sector) new next (grown_open h sector)
goes-on receives old new o o' next sector grows closes None is = absurd is
goes-on receives old new o o' next sector grows closes (Some h) is = closes (grown h sector) (grows h is)

pub goes-on-as : {L : Type 0} (receives : L → Finding → L → Type 0) (old new : L) (current : Option OpenHeader) (o o' : OpenHeader) (next : Option OpenHeader) (sector : List ℕ) → current ≡ Some o → ((h : Header) → IsHeader o h → IsHeader o' (grown h sector))
    → ((h : Header) → IsHeader o' h → Reports receives old (whole_report h) new next (whole_open h)) → (h : Option Header) → IsOpen current h → Reports receives old (grown_report h sector) new next (grown_open h sector)
goes-on-as receives old new current o o' next sector same grows closes h is = goes-on receives old new o o' next sector grows closes h (subst (λ (x : Option OpenHeader). IsOpen x h) same is)
