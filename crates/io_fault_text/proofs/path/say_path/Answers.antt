use Rattle.std.proofs.Common.{◌+◌, arith, refl, sym, ◌∙◌}
use Rattle.std.proofs.KnownBytes.{Appends-nil}
use Rattle.io_fault_text.specs.Paths.{shown_path}
use Rattle.io_fault_text.proofs.PathLemmas.{control-written, plain-more, plain-none}
use Rattle.io_fault_text.proofs.path.say_path.Goals as goal
use Rattle.io_fault_text.proofs.path.say_path.Goals.{then-is_control+in_ok-put+in_ok-say_control, else-is_control}

pub loop-at-init : goal.loop-at-init
unfolding shown_path
loop-at-init g c = record { from = omega arith; plain = refl; kept = refl; written = Appends-nil (g.W.Write.contents c.args.writer.now.inner) }

pub loop-at-preserved : goal.loop-at-preserved
loop-at-preserved g c =
    let before = c.loop-at.invariant in
    elim c.if-is_control.branch [
      | then-is_control+in_ok-put+in_ok-say_control w ↦ rw (w.from-is, w.writer-is) (record {
        from = omega arith;
        plain = plain-none c.as_bytes-bytes.result.now (c.loop-at.at + 1);
        kept = w.in_ok-say_control.ensures.kept ∙ w.in_ok-put.ensures.writes.kept ∙ before.kept;
        written = control-written c.as_bytes-bytes.result.now c.loop-at.from c.loop-at.at before.from c.loop-at-test.true before.plain _ _ _ _
            before.written w.in_ok-put.ensures.writes.ok w.in_ok-say_control.ensures.ok;
      })
      | else-is_control w ↦ rw (w.from-is, w.writer-is) (record {
        from = omega (arith, before.from);
        plain = plain-more c.as_bytes-bytes.result.now c.loop-at.from c.loop-at.at before.from c.loop-at-test.true before.plain (sym c.is_control.ensures ∙ w.if-is_control.false);
        kept = before.kept;
        written = before.written;
      })
    ]
