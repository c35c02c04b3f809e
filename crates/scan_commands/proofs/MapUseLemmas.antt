-- Map files in use.
use Rattle.std.proofs.Common.{◌≡◌, Bool, true, false, inr}
use Rattle.image_files.specs.Opener.{Calls}
use Rattle.scan_commands.specs.declared.rescue_fault.PassFault.{PassFault}
use Rattle.scan_commands.specs.declared.rescue_fault.PassFault.TheVariants.{NoMap, NoMemory, Output, TooLong, Unread, Unwritten}
use Rattle.image_files.specs.declared.file_use.FileUse.{FileUse}
use Rattle.scan_commands.specs.MapUses.{FindsMap, IsComplete, LacksDraft, PlanRecord, RefusesMapAt, TellsComplete}

pub complete-told : {S D : Type 0} (w : Calls S D) (plan : PlanRecord) (complete : Bool) → TellsComplete w plan complete → IsComplete w plan complete
complete-told w plan true told = told
complete-told w plan false told = inr told

-- the file was found, and no other can be created beside it
pub draft-lacks : {S D : Type 0} (w : Calls S D) (plan : PlanRecord) (between : S) (used : FileUse) (fault : PassFault) → FindsMap (record w { new = between }) plan.file.path used
    → LacksDraft (record w { old = between }) plan fault → RefusesMapAt w plan fault
draft-lacks w plan between used (Unwritten fault) found lacks = record { used = used; between = between; found = found; draft = lacks }
draft-lacks w plan between used NoMemory found lacks = absurd lacks
draft-lacks w plan between used (Unread file) found lacks = absurd lacks
draft-lacks w plan between used TooLong found lacks = absurd lacks
draft-lacks w plan between used (NoMap fault) found lacks = absurd lacks
draft-lacks w plan between used Output found lacks = absurd lacks
