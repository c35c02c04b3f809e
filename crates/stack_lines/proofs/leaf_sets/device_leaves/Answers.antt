use Rattle.std.proofs.Common.{◌≡◌, ℕ, ◌+◌, ◌<◌, ◌≤◌, List, [], Option, length, get_or, refl, sym, ap, ◌∙◌, arith}
use Rattle.std.specs.List.{list_any}
use Rattle.std.specs.Option.{option_map_or}
use Rattle.std.proofs.lemmas.List.{take_all}
use Rattle.std.proofs.lemmas.Option.{slice_get_read}
use Rattle.dm_table.specs.declared.table.Line.{Line}
use Rattle.stack_rules.specs.Lines.{IsLine, names_at}
use Rattle.stack_rules.specs.Names.{names, lines_of}
use Rattle.stack_lines.specs.Standing.{has_leaf, name_stands_on}
use Rattle.stack_lines.proofs.lemmas.StandingLemmas.{lines-more, lines-few, stands-device}
use Rattle.stack_lines.proofs.ClearLemmas.{device-clear, lines-clear-more}
use Rattle.stack_lines.proofs.leaf_sets.device_leaves.Goals as goal

pub loop-line-preserved : goal.loop-line-preserved
loop-line-preserved c =
    let config = c.args.config.now in
    let d = c.args.d.0 in
    let n = c.loop-line.line-index in
    let x = c.line-item.result in
    let same : c.lines-lines.result.now ≡ lines_of config d = c.lines-lines.ensures.value ∙ c.table.ensures in
    let inside : n < length (lines_of config d) = omega (arith, c.loop-line-test.true, ap (λ (l : List Line). length l) same) in
    let at : IsLine config d n x = slice_get_read (lines_of config d) (length (lines_of config d)) n x refl inside (c.line-item.is ∙ ap (λ (l : List Line). get_or l n x) same) in
    record {
      number = ap (λ (k : ℕ). k + 1) c.loop-line.invariant.number;
      so_far = λ k.
          lines-more config d n x k (has_leaf c.loop-line.leaves k) (has_leaf c.line_leaves.result k) (has_leaf c.union-leaves.result k) at (c.loop-line.invariant.so_far k)
          (c.line_leaves.ensures.leaves k ∙ ap (λ (j : ℕ). list_any (name_stands_on config k) (names_at config d j)) c.loop-line.invariant.number) (c.union-leaves.ensures.leaves k);
      clear = lines-clear-more config d n x c.loop-line.leaves.clear c.line_leaves.result.clear c.union-leaves.result.clear at c.loop-line.invariant.clear c.line_leaves.ensures.clear c.union-leaves.ensures.clear;
    }

pub loop-line-init : goal.loop-line-init
loop-line-init c = record {
  number = refl;
  so_far = λ k. c.empty-leaves.ensures.leaves k;
  clear = λ sure l line low is. absurd (omega (arith, low));
}

pub line_leaves-requires-clause-names : goal.line_leaves-requires-clause-names
line_leaves-requires-clause-names c =
    let config = c.args.config.now in
    let d = c.args.d.0 in
    let n = c.loop-line.line-index in
    let x = c.line-item.result in
    let same : c.lines-lines.result.now ≡ lines_of config d = c.lines-lines.ensures.value ∙ c.table.ensures in
    let inside : n < length (lines_of config d) = omega (arith, c.loop-line-test.true, ap (λ (l : List Line). length l) same) in
    let at : IsLine config d n x = slice_get_read (lines_of config d) (length (lines_of config d)) n x refl inside (c.line-item.is ∙ ap (λ (l : List Line). get_or l n x) same) in
    (ap (names_at config d) c.loop-line.invariant.number ∙ ap (λ (o : Option Line). option_map_or (λ (line : Line). names line.target) o []) at, c.name_count-count.ensures.value)

pub overflow_add-number : goal.overflow_add-number
overflow_add-number c =
    let same : length c.lines-lines.result.now ≡ length (lines_of c.args.config.now c.args.d.0) = ap (λ (l : List Line). length l) (c.lines-lines.ensures.value ∙ c.table.ensures) in
    let most = lines-few c.args.config.now c.requires.loaded c.args.d.0 in
    omega (arith, same, most, c.loop-line.invariant.number, c.loop-line-test.true)

pub returns : goal.returns
returns c =
    let config = c.args.config.now in
    let all = lines_of config c.args.d.0 in
    let past : length all ≤ c.loop-line.line-index = omega (arith, c.loop-line-test.false, ap (λ (l : List Line). length l) (c.lines-lines.ensures.value ∙ c.table.ensures)) in
    record {
      leaves = λ k.
          c.loop-line.invariant.so_far k ∙ ap (list_any (λ (line : Line). list_any (name_stands_on config k) (names line.target))) (take_all c.loop-line.line-index all past)
          ∙ sym (stands-device config c.requires.loaded k c.args.d.0);
      clear = λ sure. device-clear config c.args.d.0 c.loop-line.line-index c.requires.loaded past (c.loop-line.invariant.clear sure);
    }
