use Rattle.std.proofs.Common.{sym, ◌∙◌, append-nil, append_assoc}
use Rattle.std.proofs.str.Utf16.{utf16_chars-drop_all}
use Rattle.partition_table.proofs.characters.lossy_text.Goals as goal

pub loop-at-preserved : goal.loop-at-preserved
loop-at-preserved c =
    rw (c.in_ok-push_char.ensures.ok, append_assoc, c.unwrap_or.ensures) (rw c.char_at-found.ensures.first at c.loop-at.invariant)

pub returns-clause-ok : goal.returns-clause-ok
returns-clause-ok c = sym (append-nil _) ∙ rw (utf16_chars-drop_all c.args.units.now c.loop-at.at c.loop-at-test.false) at c.loop-at.invariant
