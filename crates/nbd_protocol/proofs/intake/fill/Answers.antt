use Rattle.std.proofs.Common.{◌≡◌, ◌-◌, arith, rules, sym, subst, length, length-drop, drop, take}
use Rattle.std.specs.Io.KnownBytes.{Consumes}
use Rattle.std.proofs.lemmas.List.{length-take-le}
use Rattle.std.proofs.lemmas.Grind.{common_steps}
use Rattle.nbd_protocol.proofs.lemmas.CountedLemmas.{read-turn}
use Rattle.nbd_protocol.proofs.lemmas.IntakeLemmas.{filled-failed, filled-kept, filled-lost, filled-more, length-filled}
use Rattle.nbd_protocol.proofs.intake.fill.Goals as goal
use Rattle.nbd_protocol.proofs.intake.fill.Goals.{in-Ok+else-done-buffer, in-Err+else-ne}

pub loop-turn-preserved : goal.loop-turn-preserved
loop-turn-preserved g c =
    let xs = c.loop-turn.buffer in
    let ys = c.read.new.buffer in
    let a = c.loop-turn.done in
    let old = g.R.Read.remaining c.args.reader.now.inner in
    let mid = g.R.Read.remaining c.loop-turn.reader.inner in
    let new = g.R.Read.remaining c.read.new.self.inner in
    let room : length ys ≡ length xs - a = omega (arith, c.read.auto.buffer, length-drop a xs, length-take-le (length xs - a) (drop a xs) (omega (arith, length-drop a xs))) in
    let long = length-filled a xs ys (omega (arith, c.loop-turn.invariant.left)) room in
    elim c.match-read.branch [
      | in-Ok+else-done-buffer w ↦ record {
        taken = rw w.done-is (filled-more old mid new a (length xs - a) w.in-Ok.n xs ys c.loop-turn.invariant.taken w.in-Ok.ensures.bytes.0 (omega (arith, c.loop-turn.invariant.left)) w.in-Ok.ensures.bound.0);
        left = rw w.done-is (omega (arith, long, room, w.in-Ok.ensures.bound.0, w.if-done-buffer.false, c.loop-turn.invariant.left));
        size = omega (arith, long, c.loop-turn.invariant.size);
        read = read-turn c.read.new.self c.loop-turn.invariant.read c.read.ensures.calls w.in-Ok.ensures.failed.ok;
      }
      | in-Err+else-ne w ↦ record {
        taken = rw w.done-is (filled-kept old mid new a (length xs - a) xs ys c.loop-turn.invariant.taken w.in-Err.ensures.bytes (omega (arith, c.loop-turn.invariant.left)));
        left = rw w.done-is (omega (arith, long, c.loop-turn.invariant.left));
        size = omega (arith, long, c.loop-turn.invariant.size);
        read = read-turn c.read.new.self c.loop-turn.invariant.read c.read.ensures.calls (w.in-Err.ensures.failed.interrupted (grind (arith, common_steps)));
      }
    ]

pub returns-in-Ok-eq0-2-clause-filled : goal.returns-in-Ok-eq0-2-clause-filled
returns-in-Ok-eq0-2-clause-filled g c =
    let xs = c.loop-turn.buffer in
    let ys = c.read.new.buffer in
    let a = c.loop-turn.done in
    let old = g.R.Read.remaining c.args.reader.now.inner in
    let mid = g.R.Read.remaining c.loop-turn.reader.inner in
    let new = g.R.Read.remaining c.read.new.self.inner in
    let room : length ys ≡ length xs - a = omega (arith, c.read.auto.buffer, length-drop a xs, length-take-le (length xs - a) (drop a xs) (omega (arith, length-drop a xs))) in
    let long = length-filled a xs ys (omega (arith, c.loop-turn.invariant.left)) room in
    let zero : c.in-Ok-eq0.field-0 ≡ 0 = search rules in
    let none = subst (λ n. Consumes mid new (take n ys)) zero c.in-Ok-eq0.ensures.bytes.0 in
    let end = c.in-Ok-eq0.ensures.bytes.1 zero (omega (arith, room, c.loop-turn.invariant.left)) in
    filled-lost _ a xs ys old mid new c.loop-turn.invariant.taken none end c.loop-turn.invariant.left (sym long) (omega arith)

pub returns-then-ne-clause-filled : goal.returns-then-ne-clause-filled
returns-then-ne-clause-filled g c =
    let xs = c.loop-turn.buffer in
    let ys = c.read.new.buffer in
    let a = c.loop-turn.done in
    let old = g.R.Read.remaining c.args.reader.now.inner in
    let mid = g.R.Read.remaining c.loop-turn.reader.inner in
    let new = g.R.Read.remaining c.read.new.self.inner in
    let room : length ys ≡ length xs - a = omega (arith, c.read.auto.buffer, length-drop a xs, length-take-le (length xs - a) (drop a xs) (omega (arith, length-drop a xs))) in
    let long = length-filled a xs ys (omega (arith, c.loop-turn.invariant.left)) room in
    filled-failed _ a xs old mid new c.loop-turn.invariant.taken c.in-Err.ensures.bytes c.loop-turn.invariant.left (sym long)
