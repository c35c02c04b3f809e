use Rattle.std.proofs.Common.{sym, subst}
use Rattle.nbd_protocol.specs.Exports.{HasShortName}
use Rattle.nbd_protocol.proofs.lemmas.ExportLemmas.{placed-short}
use Rattle.nbd_protocol.proofs.option.say_asked.Goals as goal

pub say_told-requires : goal.say_told-requires
say_told-requires g c =
    subst HasShortName (sym c.export_at.ensures) (placed-short c.args.exports.now c.in-Some.place c.requires.names (rw c.in-Some.is at c.asked.ensures.inside))
