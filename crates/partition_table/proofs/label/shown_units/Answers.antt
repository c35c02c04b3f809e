use Rattle.std.proofs.Common.{◌∙◌, ◌+◌, ◌++◌, ◌∷◌, [], ℕ, List, map, drop, get_or, append-nil, append_assoc, drop_of_length-le, ap, sym}
use Rattle.partition_table.specs.Labels.{before_zero, shown_unit}
use Rattle.partition_table.proofs.LabelLemmas.{left-more, left-zero}
use Rattle.partition_table.proofs.label.shown_units.Goals as goal

pub loop-unit-preserved : goal.loop-unit-preserved
loop-unit-preserved c =
    let units : List ℕ = c.args.units.now in
    let i : ℕ = c.loop-unit.unit-index in
    let shown : List ℕ = c.loop-unit.shown.items in
    let rest : List ℕ = map shown_unit (before_zero (drop (i + 1) units)) in
    let more = left-more units i c.loop-unit-test.true (sym c.is_end.ensures ∙ c.if-is_end.false) in
    ap (λ (l : List ℕ). l ++ rest) (c.in_ok-push.ensures.ok ∙ ap (λ (u : ℕ). shown ++ u ∷ []) c.shown_unit.ensures)
    ∙ append_assoc shown (shown_unit (get_or units i 0) ∷ []) rest
    ∙ ap (λ (l : List ℕ). shown ++ map shown_unit l) (sym more)
    ∙ c.loop-unit.invariant

pub returns-then-is_end-clause-ok : goal.returns-then-is_end-clause-ok
returns-then-is_end-clause-ok c =
    let none = left-zero c.args.units.now c.loop-unit.unit-index c.loop-unit-test.true (sym c.is_end.ensures ∙ c.if-is_end.true) in
    sym (append-nil _) ∙ ap (λ (l : List ℕ). c.loop-unit.shown.items ++ map shown_unit l) (sym none) ∙ c.loop-unit.invariant

pub returns-clause-ok : goal.returns-clause-ok
returns-clause-ok c =
    let none = drop_of_length-le c.args.units.now c.loop-unit-test.false in
    sym (append-nil _) ∙ ap (λ (l : List ℕ). c.loop-unit.shown.items ++ map shown_unit (before_zero l)) (sym none) ∙ c.loop-unit.invariant
