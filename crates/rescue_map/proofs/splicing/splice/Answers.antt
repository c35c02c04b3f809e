use Rattle.std.proofs.Common.{◌++◌, length, take, drop, ap, ◌∙◌}
use Rattle.rescue_map.specs.Aheads.{losts_ahead, marks_ahead}
use Rattle.rescue_map.specs.Maps.{losts, marks}
use Rattle.rescue_map.proofs.SpliceLemmas.{spliced-whole}
use Rattle.rescue_map.proofs.lemmas.RunLemmas.{losts-length}
use Rattle.rescue_map.proofs.lemmas.SpanLemmas.{spliced-length}
use Rattle.rescue_map.proofs.splicing.splice.Goals as goal

pub returns-clause-marks : goal.returns-clause-marks
returns-clause-marks c = spliced-whole c.args.span c.args.sectors (marks c.args.around.now) (marks c.args.within.now) _ _ _ _ _ _ c.requires.around c.requires.inside
    (c.in_ok-move_marks.ensures.moved ∙ ap (λ l. marks l ++ take c.args.span.first (marks_ahead c.of_map-outer.result)) c.new-map.ensures ∙ ap (take c.args.span.first) c.of_map-outer.ensures.marks)
    (c.in_ok-move_marks.ensures.rest ∙ ap (drop c.args.span.first) c.of_map-outer.ensures.marks) (c.skip_marks.ensures.rest ∙ ap (drop c.args.span.first) c.of_map-inner.ensures.marks) c.in_ok-move_marks-2.ensures.moved c.skip_marks-2.ensures.rest c.in_ok-move_marks-3.ensures.moved

pub returns-clause-lost : goal.returns-clause-lost
returns-clause-lost c = spliced-whole c.args.span c.args.sectors (losts c.args.around.now) (losts c.args.within.now) _ _ _ _ _ _ (losts-length c.args.around.now ∙ c.requires.around) c.requires.inside
    (c.in_ok-move_marks.ensures.lost ∙ ap (λ l. losts l ++ take c.args.span.first (losts_ahead c.of_map-outer.result)) c.new-map.ensures ∙ ap (take c.args.span.first) c.of_map-outer.ensures.lost)
    (c.in_ok-move_marks.ensures.lost_rest ∙ ap (drop c.args.span.first) c.of_map-outer.ensures.lost) (c.skip_marks.ensures.lost_rest ∙ ap (drop c.args.span.first) c.of_map-inner.ensures.lost) c.in_ok-move_marks-2.ensures.lost c.skip_marks-2.ensures.lost_rest c.in_ok-move_marks-3.ensures.lost

pub returns-clause-sectors : goal.returns-clause-sectors
returns-clause-sectors c =
    ap length (returns-clause-marks c) ∙ spliced-length c.args.span c.args.sectors (marks c.args.around.now) (marks c.args.within.now) c.requires.around c.requires.within c.requires.inside
