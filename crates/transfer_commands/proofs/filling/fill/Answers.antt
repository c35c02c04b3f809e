use Rattle.std.proofs.Common.{◌≡◌, ◌-◌, arith, inl, length, length-drop, drop, take}
use Rattle.std.proofs.lemmas.List.{length-take-le}
use Rattle.std.proofs.lemmas.Grind.{common_steps}
use Rattle.std.proofs.KnownBytes.{Consumes-kept}
use Rattle.transfer_commands.proofs.FillLemmas.{filled-kept, filled-more, length-filled}
use Rattle.transfer_commands.proofs.filling.fill.Goals as goal
use Rattle.transfer_commands.proofs.filling.fill.Goals.{in-Ok, in-Err+else-ne}

pub returns-then-ne-clause-err : goal.returns-then-ne-clause-err
returns-then-ne-clause-err g c = record {
  bytes = take c.loop-turn.done c.loop-turn.buffer;
  taken = Consumes-kept _ _ _ _ c.loop-turn.invariant.taken c.in-Err.ensures.bytes;
  cause = inl (c.in-Err.ensures.failed.failed (grind (arith, common_steps)));
}

pub loop-turn-preserved : goal.loop-turn-preserved
loop-turn-preserved g c =
    let xs = c.loop-turn.buffer in
    let ys = c.read.new.buffer in
    let a = c.loop-turn.done in
    let old = g.R.Read.remaining c.args.reader.now.inner in
    let mid = g.R.Read.remaining c.loop-turn.reader.inner in
    let new = g.R.Read.remaining c.read.new.self.inner in
    let before = c.loop-turn.invariant in
    let room : length ys ≡ length xs - a = omega (arith, c.read.auto.buffer, length-drop a xs, length-take-le (length xs - a) (drop a xs) (omega (arith, length-drop a xs))) in
    let long = length-filled a xs ys before.few room in
    elim c.match-read.branch [
      | in-Ok w ↦ record {
        taken = rw w.done-is (filled-more old mid new a (length xs - a) w.in-Ok.n xs ys before.taken w.in-Ok.ensures.bytes.0 before.few w.in-Ok.ensures.bound.0);
        few = rw w.done-is (omega (arith, long, room, w.in-Ok.ensures.bound.0, before.few));
        size = omega (arith, long, before.size);
        calls = omega (arith, before.calls, c.read.ensures.calls, c.loop-turn-test.true);
      }
      | in-Err+else-ne w ↦ record {
        taken = rw w.done-is (filled-kept old mid new a (length xs - a) xs ys before.taken w.in-Err.ensures.bytes before.few);
        few = rw w.done-is (omega (arith, long, before.few));
        size = omega (arith, long, before.size);
        calls = omega (arith, before.calls, c.read.ensures.calls, c.loop-turn-test.true);
      }
    ]
