use Rattle.std.proofs.Common.{◌≡◌, ◌∙◌, ◌*◌, Ok, subst, ap, arith, length, take, drop, ◌++◌, length-append}
use Rattle.std.proofs.lemmas.List.{length-replicate, length-take-le}
use Rattle.nbd_protocol.specs.Streaming.{Fills}
use Rattle.nbd_protocol.proofs.lemmas.IntakeLemmas.{into-place}
use Rattle.nbd_protocol.proofs.intake.take_sectors.Goals as goal

pub returns-clause-ok : goal.returns-clause-ok
returns-clause-ok g c =
    let input = g.R.Read.remaining c.args.reader.now.inner in
    let input' = g.R.Read.remaining c.fill_part.new.reader.inner in
    let filled = subst (λ b. Fills input input' (take c.args.count (drop c.args.start c.fill_part.new.buffer)) (Ok b)) c.if-not-branch.false c.in_ok-fill_part.ensures.filled in
    let long : length c.as_mut_slice.result.now ≡ length c.in-Ok.bytes.items = ap length c.as_mut_slice.ensures.value in
    let whole : length c.in-Ok.bytes.items ≡ 512 * c.args.sectors = ap length c.in-Ok.ensures.ok ∙ length-replicate (512 * c.args.sectors) 0 in
    let size : length c.fill_part.new.buffer ≡ c.in-Ok.bytes.len = omega (arith, c.fill_part.auto.buffer, long, c.as_mut_slice.ensures.len, c.in-Ok.bytes.ok.0) in
    record {
      taken = into-place c.fill_part.new.buffer _ c.in-Ok.bytes.len c.args.start c.args.count input input' size (omega (arith, c.requires.inside, size, c.fill_part.auto.buffer, long, whole)) filled;
      room =
          let rest = drop (length c.fill_part.new.buffer) c.in-Ok.bytes.items in
          omega (arith, length-take-le c.in-Ok.bytes.len (c.fill_part.new.buffer ++ rest) (omega (arith, length-append c.fill_part.new.buffer rest, size)), whole, c.in-Ok.bytes.ok.0);
      refused = tt;
    }
