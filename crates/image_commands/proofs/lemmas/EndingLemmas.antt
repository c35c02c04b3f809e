-- Commands on images that end early.
use Rattle.std.proofs.Common.{List, ℕ, Bool, Option, refl}
use Rattle.verity_format.specs.declared.verifying.VerifyFault.{VerifyFault}
use Rattle.image_commands.specs.declared.fault.ImageFault.{ImageFault}
use Rattle.image_commands.specs.declared.fault.ImageFault.TheVariants.{DataOverlapsTree, NoMemory, Open, Format, Verify, Differs, Pin, PinUnwritten, RootText, Unaligned, Unpinned, Random, Write}
use Rattle.image_commands.specs.Endings.{IsQuiet, IsVerifyEnd, IsCommonEnd}

pub quiet : (fault : ImageFault) (bytes : Option (List ℕ)) → IsQuiet fault bytes bytes
quiet NoMemory bytes = refl
quiet (Open file) bytes = refl
quiet (Format fault) bytes = refl
quiet (Verify fault) bytes = refl
quiet (Differs verdict) bytes = refl
quiet RootText bytes = refl
quiet Unaligned bytes = refl
quiet DataOverlapsTree bytes = refl
quiet (Pin fault) bytes = refl
quiet (Unpinned mismatch) bytes = refl
quiet (PinUnwritten fault) bytes = refl
quiet Random bytes = refl
quiet Write bytes = tt

-- memory that runs out and a line that can't be written end a command whatever else may
pub may_end : (memory : Type 0) (Cause : VerifyFault → Type 0) (failed : Bool) (fault : ImageFault) → IsCommonEnd memory failed fault → IsVerifyEnd memory Cause failed fault
may_end memory Cause failed NoMemory h = h
may_end memory Cause failed (Open file) h = h
may_end memory Cause failed (Format fault) h = h
may_end memory Cause failed (Verify fault) h = absurd h
may_end memory Cause failed (Differs verdict) h = h
may_end memory Cause failed RootText h = h
may_end memory Cause failed Unaligned h = h
may_end memory Cause failed DataOverlapsTree h = h
may_end memory Cause failed (Pin fault) h = h
may_end memory Cause failed (Unpinned mismatch) h = h
may_end memory Cause failed (PinUnwritten fault) h = h
may_end memory Cause failed Random h = h
may_end memory Cause failed Write h = h

-- another cause of memory that runs out
pub common-as : {M N : Type 0} (failed : Bool) → (M → N) → (fault : ImageFault) → IsCommonEnd M failed fault → IsCommonEnd N failed fault
common-as failed f NoMemory h = f h
common-as failed f (Open file) h = h
common-as failed f (Format fault) h = h
common-as failed f (Verify fault) h = h
common-as failed f (Differs verdict) h = h
common-as failed f RootText h = h
common-as failed f Unaligned h = h
common-as failed f DataOverlapsTree h = h
common-as failed f (Pin fault) h = h
common-as failed f (Unpinned mismatch) h = h
common-as failed f (PinUnwritten fault) h = h
common-as failed f Random h = h
common-as failed f Write h = h
