use Rattle.std.proofs.Common.{◌≡◌, ℕ, Ok, Some, arith, drop, length, refl, subst, sym, take}
use Rattle.std.proofs.lemmas.List.{length-take-le}
use Rattle.nbd_protocol.specs.Streaming.{Fills, TakesInto}
use Rattle.nbd_protocol.proofs.lemmas.IntakeLemmas.{into-all, into-none}
use Rattle.nbd_server.proofs.haggling.take_content.Goals as goal

pub returns-then-count-eq0-clause-ok : goal.returns-then-count-eq0-clause-ok
returns-then-count-eq0-clause-ok g c =
    let at = g.R.Read.remaining c.args.reader.now.inner in
    subst (λ (n : ℕ). TakesInto (Some (take n c.args.room.now)) n at at) (sym c.if-count-eq0.true) (into-none 0 at refl)

pub returns-clause-ok : goal.returns-clause-ok
returns-clause-ok g c =
    let input = g.R.Read.remaining c.args.reader.now.inner in
    let input' = g.R.Read.remaining c.fill_part.new.reader.inner in
    let room = c.fill_part.new.buffer in
    let filled = subst (λ b. Fills input input' (take c.args.count (drop 0 room)) (Ok b)) c.if-not-branch.false c.in_ok-fill_part.ensures.filled in
    let long : length (take c.args.count room) ≡ c.args.count = length-take-le c.args.count room (omega (arith, c.fill_part.auto.buffer, c.requires, c.if-count-gt-MOST_DATA.false)) in
    into-all (take c.args.count room) c.args.count input input' long filled
