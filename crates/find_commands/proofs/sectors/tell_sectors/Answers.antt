use Rattle.std.proofs.Common.{◌≤◌, arith, length, length-drop, length-take-le}
use Rattle.find_commands.proofs.EndingLemmas.{err-from}
use Rattle.find_commands.proofs.TellingLemmas.{telling-all, telling-more, telling-none}
use Rattle.find_commands.proofs.sectors.tell_sectors.Goals as goal

pub sectors-init : goal.sectors-init
sectors-init g c = record {
  telling = λ h is. telling-none g.L.FindingList.receives c.args.first c.args.bytes.now h c.args.list.now c.args.current is;
  few = c.requires;
}

pub tell_bytes-requires-clause-size : goal.tell_bytes-requires-clause-size
tell_bytes-requires-clause-size g c =
    let some : 512 ≤ length c.sectors.rest.now = grind (arith, c.sectors-test.true) in
    rw c.split_at.ensures.front (length-take-le 512 c.sectors.rest.now some)

pub sectors-preserved : goal.sectors-preserved
sectors-preserved g c =
    let some : 512 ≤ length c.sectors.rest.now = grind (arith, c.sectors-test.true) in
    record {
      telling = λ h is. let t = c.sectors.invariant.telling h is in
          rw c.split_at.ensures.back (telling-more g.L.FindingList.receives c.args.first c.args.bytes.now h c.sectors.number c.sectors.rest.now c.args.list.now c.sectors.list c.tell_bytes.new.list c.sectors.header c.in_ok-header.header t
          some (rw c.split_at.ensures.front at (c.in_ok-header.ensures.ok t.now t.is_open)));
      few = rw c.split_at.ensures.back (omega (arith, c.sectors.invariant.few, length-drop 512 c.sectors.rest.now, some));
    }

pub returns-in_err-header-clause-err : goal.returns-in_err-header-clause-err
returns-in_err-header-clause-err g c = err-from c.from_residual.result _ _ c.from_residual.ensures.1 c.in_err-header.ensures.err

pub returns-clause-ok : goal.returns-clause-ok
returns-clause-ok g c = λ h is. telling-all g.L.FindingList.receives c.args.first c.args.bytes.now h c.sectors.number c.sectors.rest.now c.args.list.now c.sectors.list c.sectors.header (c.sectors.invariant.telling h is) (grind (arith, c.sectors-test.false))
