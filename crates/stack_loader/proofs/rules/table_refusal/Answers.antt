use Rattle.std.proofs.Common.{◌≡◌, ◌+◌, ◌-◌, ℕ, take, length, ap, subst, ◌∙◌, sym, refl, arith}
use Rattle.std.proofs.lemmas.List.Sums.{sum_by_more}
use Rattle.dm_table.specs.declared.table.Line.{Line}
use Rattle.dm_table.specs.Grammar.{IsLineOfGrammar}
use Rattle.stack_rules.specs.Records.{Configuration, configuration}
use Rattle.stack_rules.specs.Names.{table_sectors}
use Rattle.stack_rules.specs.Rules.{first, line_rules}
use Rattle.stack_rules.proofs.lemmas.NameMeaningLemmas.{row-at, length-rows}
use Rattle.stack_rules.proofs.lemmas.FirstRefusalLemmas.{scan, scan_found, scan_more, scan_end}
use Rattle.stack_loader.proofs.TableLemmas.{line_of_table}
use Rattle.stack_loader.proofs.rules.table_refusal.Goals as goal

pub line_fault-requires-clause-lowers : goal.line_fault-requires-clause-lowers
line_fault-requires-clause-lowers c =
    rw c.as_slice-lowers.ensures (row-at (configuration c.args.leaves.now c.args.devices.now) c.args.rows.now c.lines-lines.result.now c.loop-i.i c.index-lines-i.result c.index-rows-i.result
    (rw (← c.table.ensures, ← c.lines-lines.ensures.value) at c.requires.rows) c.loop-i-test.true c.index-lines-i.is c.index-rows-i.is)

pub line_fault-requires-clause-grammar : goal.line_fault-requires-clause-grammar
line_fault-requires-clause-grammar c =
    let each = rw (← c.lines-lines.ensures.value) at c.lines-lines.ensures.grammar.each in
    let P : Line → Type 0 = IsLineOfGrammar in
    (subst P (sym c.index-lines-i.is) (each c.loop-i.i c.index-lines-i.result c.loop-i-test.true)).target

pub bounds-rows-i : goal.bounds-rows-i
bounds-rows-i c =
    omega (arith, c.loop-i-test.true, length-rows (configuration c.args.leaves.now c.args.devices.now) c.args.rows.now c.lines-lines.result.now (rw (← c.table.ensures, ← c.lines-lines.ensures.value) at c.requires.rows))

-- the rules at the sectors of the lines before
rules-here : (c : Configuration) (writable : Rattle.std.proofs.Common.Bool) (lines : Rattle.std.proofs.Common.List Line) (d i before : ℕ) (line : Line) → before ≡ table_sectors (take i lines)
    → first (line_of_table c writable lines d (i + 1) line) ≡ first (line_rules c writable d (i + 1) before line)
rules-here c writable lines d i before line is =
    let here : (i + 1) - 1 ≡ i = omega arith in ap (λ k. first (line_rules c writable d (i + 1) (table_sectors (take k lines)) line)) here ∙ ap (λ n. first (line_rules c writable d (i + 1) n line)) (sym is)

pub returns-in-Some : goal.returns-in-Some
returns-in-Some c =
    let c' : Configuration = configuration c.args.leaves.now c.args.devices.now in
    let f = line_of_table c' c.writable-writable.result c.lines-lines.result.now c.args.d in
    sym (sym (ap (λ ls. scan (line_of_table c' c.writable-writable.result ls c.args.d) 1 ls) (c.lines-lines.ensures.value ∙ c.table.ensures) ∙ ap (λ w. scan (line_of_table c' w c.args.device.now.table c.args.d) 1 c.args.device.now.table) c.writable-writable.ensures)
    ∙ scan_found f c.lines-lines.result.now c.loop-i.i (c.loop-i.i + 1) c.index-lines-i.result (record { kind = c.in-Some.kind; device = c.args.d; line = c.loop-i.i + 1 }) (scan f 1 c.lines-lines.result.now) c.loop-i-test.true c.index-lines-i.is
    (rules-here c' c.writable-writable.result c.lines-lines.result.now c.args.d c.loop-i.i c.loop-i.before c.index-lines-i.result c.loop-i.invariant.0 ∙ sym (c.in-Some.ensures c.args.d (c.loop-i.i + 1))) c.loop-i.invariant.2)

pub loop-i-preserved : goal.loop-i-preserved
loop-i-preserved c =
    let c' : Configuration = configuration c.args.leaves.now c.args.devices.now in
    let f = line_of_table c' c.writable-writable.result c.lines-lines.result.now c.args.d in
    let more = sum_by_more (λ (line : Line). line.length) c.lines-lines.result.now c.loop-i.i c.index-lines-i.result c.loop-i-test.true in
    let here = ap (λ (line : Line). line.length) c.index-lines-i.is in (
      omega (arith, more, here, c.loop-i.invariant.0, c.from-before.ensures),
      omega (arith, c.loop-i.invariant.1, c.from-before.ensures),
      scan_more f c.lines-lines.result.now c.loop-i.i (c.loop-i.i + 1) c.index-lines-i.result (scan f 1 c.lines-lines.result.now) c.loop-i-test.true c.index-lines-i.is refl
          (rules-here c' c.writable-writable.result c.lines-lines.result.now c.args.d c.loop-i.i c.loop-i.before c.index-lines-i.result c.loop-i.invariant.0 ∙ sym (c.in-None.ensures c.args.d (c.loop-i.i + 1))) c.loop-i.invariant.2,
    )

pub returns : goal.returns
returns c =
    let c' : Configuration = configuration c.args.leaves.now c.args.devices.now in
    let f = line_of_table c' c.writable-writable.result c.lines-lines.result.now c.args.d in
    sym (sym (ap (λ ls. scan (line_of_table c' c.writable-writable.result ls c.args.d) 1 ls) (c.lines-lines.ensures.value ∙ c.table.ensures) ∙ ap (λ w. scan (line_of_table c' w c.args.device.now.table c.args.d) 1 c.args.device.now.table) c.writable-writable.ensures)
    ∙ scan_end f c.lines-lines.result.now c.loop-i.i (c.loop-i.i + 1) (scan f 1 c.lines-lines.result.now) c.loop-i-test.false c.loop-i.invariant.2)
