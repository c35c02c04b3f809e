use Rattle.rescue_map.specs.Maps.{marks}
use Rattle.stack_recovery.specs.Recoveries.{Sides, scanned_by, sides}
use Rattle.scan_commands.proofs.TurnLemmas.{err-from, left-until}
use Rattle.scan_commands.proofs.turn_reads.read_left.Goals as goal

pub returns-in_err-rescued-clause-err : goal.returns-in_err-rescued-clause-err
returns-in_err-rescued-clause-err g c = err-from c.from_residual.result _ c.in_err-rescued.field-0.0 c.from_residual.ensures.1 c.in_err-rescued.ensures.err

pub returns-clause-ok : goal.returns-clause-ok
returns-clause-ok g c =
    let old : Sides = sides c.args.stack.now (g.O.BlockDev.state c.args.out.now) (g.L.Listing.told c.args.listing.now) in
    let new : Sides = sides c.rescue.new.stack (g.O.BlockDev.state c.rescue.new.out) (g.L.Listing.told c.rescue.new.listing) in
    left-until c.args.pass.deadline (marks c.args.wanted.now) (scanned_by c.args.pass) old c.in_ok-rescued.rescued new c.in_ok-rescued.ensures.ok
