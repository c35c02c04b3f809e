use Rattle.std.proofs.Common.{ap, refl, sym, ◌∙◌, arith}
use Rattle.std.specs.Prelude.{option_map}
use Rattle.stack_rules.specs.Records.{Configuration, configuration}
use Rattle.stack_rules.specs.Passing.{refusal_at}
use Rattle.stack_rules.specs.Rules.{cuts_unit, is_off_unit, is_undivided}
use Rattle.stack_loader.proofs.LineRuleLemmas.{IsPassedLine, line-last, line-parts, parts-none}
use Rattle.stack_loader.proofs.rules.line_fault.Goals as goal

pub returns-in-Some : goal.returns-in-Some
returns-in-Some c = λ d l.
    let c' : Configuration = configuration c.args.leaves.now c.args.devices.now in
    line-parts c' c.args.writable d l c.args.before c.args.line.now (refusal_at d l c.in-Some.kind) c.if-line-eq0.false (sym c.from.ensures ∙ c.if-from-before.false) (omega (arith, c.from-2.ensures, c.from-3.ensures, c.from-4.ensures, c.if-from.false))
    (ap (option_map (refusal_at d l)) (sym c.in-Some.is) ∙ c.part_fault.ensures d l)

pub returns-then-not-writable : goal.returns-then-not-writable
returns-then-not-writable c = λ d l.
    let c' : Configuration = configuration c.args.leaves.now c.args.devices.now in
    let parts = parts-none d l (is_undivided c.args.line.now.length c.args.line.now.target) (cuts_unit c.args.line.now.length c.args.line.now.target) (is_off_unit c.args.line.now.length c.args.line.now.target)
    (ap (option_map (refusal_at d l)) (sym c.in-None.is) ∙ c.part_fault.ensures d l) in
    let passed : IsPassedLine c' c.args.before c.args.line.now = record {
      some = c.if-line-eq0.false;
      start = sym c.from.ensures ∙ c.if-from-before.false;
      low = omega (arith, c.from-2.ensures, c.from-3.ensures, c.from-4.ensures, c.if-from.false);
      divides = parts.0;
      units = parts.1.0;
      offset = parts.1.1;
      protected = sym c.is_unprotected.ensures ∙ c.if-is_unprotected.false;
      inside = sym c.is_beyond.ensures ∙ c.if-is_beyond.false;
      covered = sym c.is_uncovered.ensures ∙ c.if-is_uncovered.false;
      tree = sym c.is_tree_beyond.ensures ∙ c.if-is_tree_beyond.false;
    } in
    sym (line-last c' c.args.writable d l c.args.before c.args.line.now c.args.lowers.now passed c.requires.lowers ∙ rw c.if-not-writable.true refl)

pub returns : goal.returns
returns c = λ d l.
    let c' : Configuration = configuration c.args.leaves.now c.args.devices.now in
    let parts = parts-none d l (is_undivided c.args.line.now.length c.args.line.now.target) (cuts_unit c.args.line.now.length c.args.line.now.target) (is_off_unit c.args.line.now.length c.args.line.now.target)
    (ap (option_map (refusal_at d l)) (sym c.in-None.is) ∙ c.part_fault.ensures d l) in
    let passed : IsPassedLine c' c.args.before c.args.line.now = record {
      some = c.if-line-eq0.false;
      start = sym c.from.ensures ∙ c.if-from-before.false;
      low = omega (arith, c.from-2.ensures, c.from-3.ensures, c.from-4.ensures, c.if-from.false);
      divides = parts.0;
      units = parts.1.0;
      offset = parts.1.1;
      protected = sym c.is_unprotected.ensures ∙ c.if-is_unprotected.false;
      inside = sym c.is_beyond.ensures ∙ c.if-is_beyond.false;
      covered = sym c.is_uncovered.ensures ∙ c.if-is_uncovered.false;
      tree = sym c.is_tree_beyond.ensures ∙ c.if-is_tree_beyond.false;
    } in
    c.write_fault.ensures d l ∙ sym (line-last c' c.args.writable d l c.args.before c.args.line.now c.args.lowers.now passed c.requires.lowers ∙ rw c.if-not-writable.false refl)
