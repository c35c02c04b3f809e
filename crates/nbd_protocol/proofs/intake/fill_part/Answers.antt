use Rattle.std.proofs.Common.{◌≡◌, ◌+◌, ◌-◌, List, ℕ, arith, length, length-drop, drop, subst, sym}
use Rattle.std.proofs.lemmas.List.{length-take-le}
use Rattle.nbd_protocol.specs.Streaming.{Fills}
use Rattle.nbd_protocol.proofs.lemmas.IntakeLemmas.{placed}
use Rattle.nbd_protocol.proofs.intake.fill_part.Goals as goal

pub returns-clause-filled : goal.returns-clause-filled
returns-clause-filled g c =
    let start = c.args.start in
    let count = c.args.count in
    let xs = c.args.buffer.now in
    let ys = c.fill.new.buffer in
    let size : length ys ≡ count = omega (arith, c.fill.auto.buffer, c.requires.inside, length-drop start xs, length-take-le (start + count - start) (drop start xs) (omega (arith, length-drop start xs, c.requires.inside))) in
    subst (λ (l : List ℕ). Fills (g.R.Read.remaining c.args.reader.now.inner) (g.R.Read.remaining c.fill.new.reader.inner) l c.fill.result)
    (sym (placed start (start + count - start) xs ys count (omega (arith, c.requires.inside)) size)) c.fill.ensures.filled
