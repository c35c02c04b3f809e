use Rattle.std.proofs.Common.{refl, sym, ◌∙◌}
use Rattle.std.proofs.lemmas.Result.{IfErr-weaker, IfOk-weaker}
use Rattle.std.proofs.lemmas.Bool.{true≢false}
use Rattle.update_commands.proofs.moving.move_listed.Goals as goal

pub returns-then-json-clause-ok : goal.returns-then-json-clause-ok
returns-then-json-clause-ok g c = rw c.if-json.true (IfOk-weaker c.move_silently.result _ _ (λ count moves. (moves, refl)) c.move_silently.ensures.ok)

pub returns-then-json-clause-err : goal.returns-then-json-clause-err
returns-then-json-clause-err g c = c.move_silently.ensures.err

pub returns-clause-ok : goal.returns-clause-ok
returns-clause-ok g c = rw c.if-json.false c.move_blocks.ensures.ok

pub returns-then-json-clause-told : goal.returns-then-json-clause-told
returns-then-json-clause-told g c = IfErr-weaker c.move_silently.result _ _ (λ fault fails aloud. absurd (true≢false (sym c.if-json.true ∙ aloud))) c.move_silently.ensures.err

pub returns-clause-told : goal.returns-clause-told
returns-clause-told g c = IfErr-weaker c.move_blocks.result _ _ (λ fault told aloud. told) c.move_blocks.ensures.told

pub returns-clause-err : goal.returns-clause-err
returns-clause-err g c = c.move_blocks.ensures.err
