use Rattle.std.proofs.Common.{subst, sym}
use Rattle.block_device.specs.Device.{Device}
use Rattle.verity_commands.specs.CheckedDiffs.{IsCheckCause}
use Rattle.verity_commands.proofs.CheckedLemmas.{check_cause}
use Rattle.verity_commands.proofs.checked_diff.check_second.Goals as goal

pub returns-in-Err-clause-err : goal.returns-in-Err-clause-err
returns-in-Err-clause-err g c =
    let d : Device = g.H.BlockDev.state c.args.device.now in
    let d' : Device = g.H.BlockDev.state c.survey_hashes.new.device in
    let failed = g.L.Listing.failed c.survey_hashes.new.listing in
    subst (IsCheckCause d d' failed) (sym c.check_fault.ensures) (check_cause d d' failed c.in-Err.fault c.in-Err.ensures.err)
