use Rattle.std.proofs.Common.{◌≡◌, ◌*◌, ◌/◌, ◌-◌, ◌+◌, ◌≤◌, ℕ, List, get_or, Some, arith, refl, sym, ap, subst, ◌∙◌}
use Rattle.std.specs.Prelude.{min, slice_get}
use Rattle.std.proofs.lemmas.Bool.{leb-true, leb-false}
use Rattle.std.proofs.lemmas.Nat.{div-add-mod'}
use Rattle.std.proofs.lemmas.Option.{slice_get_read, slice_get_within}
use Rattle.dm_table.specs.declared.table.Line.{Line}
use Rattle.alignment.specs.Lengths.{aligned_len}
use Rattle.stack_rules.specs.Names.{lines_of}
use Rattle.stack_recovery.specs.Alike.{AreLostTogether}
use Rattle.stack_recovery.specs.Pieces.{longest_piece, rest_of_unit, whole_unit}
use Rattle.stack_recovery.proofs.AlikeLemmas.{alike-at, fewer-together}
use Rattle.stack_recovery.proofs.piece.piece_at.Goals as goal

pub returns : goal.returns
returns c =
    let here = c.line_at-number.ensures in
    let line : Line = c.index-lines-number.result in
    let lines : List Line = lines_of c.args.config.now c.args.d.0 in
    let number : ℕ = c.line_at-number.result.0 in
    let read : line ≡ get_or lines number line = subst (λ (l : List Line). line ≡ get_or l number line) (c.lines-lines.ensures.value ∙ c.table.ensures) c.index-lines-number.is in
    let found : slice_get lines number ≡ Some line = slice_get_read lines _ number line refl (slice_get_within lines number here.line here.at) read in
    let both : Some line ≡ Some here.line = sym found ∙ here.at in
    let same : line ≡ here.line = cc in
    let rest : ℕ = c.unit_of-rest.result.rest in
    let count = c.aligned_len-count.ensures in
    let room = c.min-room.ensures in
    let longest = c.min-longest.ensures in
    let behind : c.saturating_sub.result / c.unit_of-rest.result.whole * c.unit_of-rest.result.whole ≤ c.saturating_sub.result = omega (arith, div-add-mod' c.saturating_sub.result c.unit_of-rest.result.whole) in
    let together = subst (λ (x : Line). AreLostTogether x.target (c.args.first - x.start) rest) same c.unit_of-rest.ensures.lens.together in
    let config = c.args.config.now in
    let first : ℕ = c.args.first in
    let most : ℕ = c.args.most in
    let whole : ℕ = c.unit_of-rest.result.whole in
    let rest_is : rest ≡ rest_of_unit here.line.target (first - here.line.start) = subst (λ (x : Line). rest ≡ rest_of_unit x.target (c.args.first - x.start)) same c.unit_of-rest.ensures.lens.rest_is in
    let whole_is : whole ≡ whole_unit here.line.target = subst (λ (x : Line). whole ≡ whole_unit x.target) same c.unit_of-rest.ensures.lens.whole_is in
    let after_is : c.saturating_sub.result ≡ most - rest = omega (arith, c.saturating_sub.ensures, c.from-wanted.ensures) in
    let longest_is : c.min-longest.result ≡ longest_piece here.line.target (first - here.line.start) most =
    longest
    ∙ ap (λ (k : ℕ). min (rest + k / whole * whole) 128) after_is
    ∙ ap (λ (r : ℕ). min (r + (most - r) / whole * whole) 128) rest_is
    ∙ ap (λ (u : ℕ). min (rest_of_unit here.line.target (first - here.line.start) + (most - rest_of_unit here.line.target (first - here.line.start)) / u * u) 128) whole_is in
    record {
      ends = record {
        number = number;
        left = c.line_at-number.result.1;
        place = here;
        value = count.value ∙ ap (λ (r : ℕ). aligned_len config c.args.d.0 first r c.min-longest.result) room
            ∙ ap (λ (m : ℕ). aligned_len config c.args.d.0 first (min c.line_at-number.result.1 (c.args.end - first)) m) longest_is;
      };
      some = count.some;
      few = omega (arith, count.few, longest);
      inside = omega (arith, count.inside, room, c.requires.some);
      alike = λ is.
          alike-at c.args.config.now c.count-loaded.ensures.loaded c.args.d.0 c.args.first c.aligned_len-count.result number here.line here.is here.start (omega (arith, here.ends, count.inside, room))
          (fewer-together here.line.target (c.args.first - here.line.start) c.aligned_len-count.result rest (omega (arith, leb-true _ _ is)) together);
      apart = λ is. let over = leb-false _ _ is in (omega (arith, over, c.unit_of-rest.ensures.rest), omega (arith, over, count.few, longest, behind, c.saturating_sub.ensures, c.from-wanted.ensures));
    }
