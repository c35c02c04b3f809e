use Rattle.std.proofs.Common.{List, ℕ, Ok, ap, arith, refl, subst}
use Rattle.std.proofs.KnownBytes.{Appends-nil}
use Rattle.nbd_protocol.specs.Exports.{ExportRecord}
use Rattle.program_io.specs.Counted.{Writes}
use Rattle.nbd_server.proofs.FaultLineLemmas.{no-name}
use Rattle.nbd_server.proofs.fault_lines.say_name.Goals as goal

-- nothing is written
pub returns-then-count-place : goal.returns-then-count-place
returns-then-count-place g c =
    subst (λ (l : List ℕ). Writes g.W.Write.contents c.args.writer.now c.args.writer.now l (Ok tt)) (no-name c.args.exports.now c.args.place (omega (arith, c.if-count-place.true)))
    (record { ok = Appends-nil (g.W.Write.contents c.args.writer.now.inner); kept = refl; failed = tt })

pub returns : goal.returns
returns g c = subst (λ (l : List ℕ). Writes g.W.Write.contents c.args.writer.now c.put.new.self l c.put.result) (ap (λ (e : ExportRecord). e.name) c.export_at.ensures) c.put.ensures.writes
