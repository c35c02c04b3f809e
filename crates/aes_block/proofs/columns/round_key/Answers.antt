use Rattle.std.proofs.Common.{◌*◌, ◌∙◌, ap, sym, arith, drop}
use Rattle.std.specs.Prelude.{slice_index}
use Rattle.std.proofs.lemmas.List.{length-take-le, length-drop}
use Rattle.aes_block.proofs.TableLemmas.{below_four}
use Rattle.aes_block.proofs.StateColumnLemmas.{same_columns, byte_at-round_key}
use Rattle.aes_block.proofs.columns.round_key.Goals as goal

pub returns : goal.returns
returns c =
    let w = c.args.schedule.now in
    let n = c.args.round in
    let len = length-take-le 16 (drop (16 * n) w) (omega (arith, length-drop (16 * n) w, c.requires)) in
    same_columns _ _ len (below_four _
    (λ r h. c.column_at.ensures r h ∙ ap (slice_index w) (omega arith) ∙ sym (byte_at-round_key w n r 0 h (omega arith)))
    (λ r h. c.column_at-2.ensures r h ∙ sym (byte_at-round_key w n r 1 h (omega arith)))
    (λ r h. c.column_at-3.ensures r h ∙ sym (byte_at-round_key w n r 2 h (omega arith)))
    (λ r h. c.column_at-4.ensures r h ∙ sym (byte_at-round_key w n r 3 h (omega arith))))
