use Rattle.std.proofs.Common.{◌≡◌, ◌-◌, ◌*◌, ◌%◌, min, arith}
use Rattle.nbd_protocol.specs.Exports.{export_record}
use Rattle.nbd_server.proofs.FetchLemmas.{sectors-of}
use Rattle.nbd_server.proofs.StatusLemmas.{extent-is, extent-rest}
use Rattle.nbd_server.proofs.status.joined_at.Goals as goal

pub extent_at-rest-requires-clause-some : goal.extent_at-rest-requires-clause-some
extent_at-rest-requires-clause-some c = (omega (arith, c.touched-sectors.ensures, c.requires.some.0), c.requires.some.1)

pub extent_at-rest-requires-clause-inside : goal.extent_at-rest-requires-clause-inside
extent_at-rest-requires-clause-inside c = rw c.touched-sectors.ensures ((sectors-of c.args.config.now (export_record c.args.export.now) c.args.at c.args.left c.requires.bytes (omega arith)).inside)

pub returns : goal.returns
returns c =
    let e = export_record c.args.export.now in
    let p = rw c.touched-sectors.ensures at c.extent_at-rest.ensures in
    let extent = c.extent_at-rest.result.0 in
    let rest = c.extent_at-rest.result.1 in
    let count : c.min-count.result ≡ min (512 * extent.count - c.args.at % 512) c.args.left = omega (arith, c.min-count.ensures, c.from.ensures) in
    record {
      is = extent-is c.args.config.now e c.args.runs c.args.at c.args.left c.min-count.result extent rest c.requires.some.0 count p.joined p.told p.ends;
      runs_left = extent-rest c.args.config.now e c.args.runs c.args.at c.args.left c.min-count.result extent rest c.requires.some.0 count p.joined p.told.some;
    }
