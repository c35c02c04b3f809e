use Rattle.std.proofs.Common.{◌+◌, Bool, ap, subst, ◌∙◌, sym, arith}
use Rattle.std.specs.Option.{option_map}
use Rattle.dm_table.specs.declared.table.Line.{Line}
use Rattle.dm_table.specs.Grammar.{IsLineOfGrammar}
use Rattle.stack_rules.specs.Descend.{by_name}
use Rattle.stack_rules.proofs.lemmas.NameMeaningLemmas.{row-at, length-rows}
use Rattle.linux_rules.specs.Blocks.{block_in}
use Rattle.linux_rules.specs.Rules.{first_from, first_kind, line_faults, line_refusal, refusal_at}
use Rattle.linux_rules.proofs.FirstLemmas.{first_more, first_found, first_end}
use Rattle.linux_rules.proofs.rules.lines_refusal.Goals as goal

pub line_fault-requires-clause-lowers : goal.line_fault-requires-clause-lowers
line_fault-requires-clause-lowers c =
    rw c.as_slice.ensures (row-at c.args.config.now c.args.rows.now c.lines-lines.result.now c.loop-i.i c.index-lines-i.result c.index-rows-i.result
    (rw (← c.lines-lines.ensures.value) at c.requires.rows) c.loop-i-test.true c.index-lines-i.is c.index-rows-i.is)

pub line_fault-requires-clause-grammar : goal.line_fault-requires-clause-grammar
line_fault-requires-clause-grammar c =
    let each = rw (← c.lines-lines.ensures.value) at c.lines-lines.ensures.grammar.each in
    let P : Line → Type 0 = IsLineOfGrammar in
    (subst P (sym c.index-lines-i.is) (each c.loop-i.i c.index-lines-i.result c.loop-i-test.true)).target

pub bounds-rows-i : goal.bounds-rows-i
bounds-rows-i c = omega (arith, c.loop-i-test.true, length-rows c.args.config.now c.args.rows.now c.lines-lines.result.now (rw (← c.lines-lines.ensures.value) at c.requires.rows))

pub returns-in-Some : goal.returns-in-Some
returns-in-Some c =
    let config = c.args.config.now in
    let below = by_name config 0 (block_in c.args.blocks.now) in
    let f = line_refusal config below c.args.block c.lines-lines.result.now c.args.d in
    let here = ap (λ (b : Bool). option_map (refusal_at c.args.d (c.loop-i.i + 1)) (first_kind (line_faults config below c.args.block b c.index-lines-i.result))) (sym c.begins_with_verity-verity_first.ensures) ∙ ap (option_map (refusal_at c.args.d (c.loop-i.i + 1))) (sym c.in-Some.ensures) in
    rw (← c.lines-lines.ensures.value)
    (sym (first_found f c.lines-lines.result.now c.loop-i.i (c.loop-i.i + 1) c.index-lines-i.result (refusal_at c.args.d (c.loop-i.i + 1) c.in-Some.kind) (first_from f 1 c.lines-lines.result.now) c.loop-i-test.true c.index-lines-i.is here c.loop-i.invariant))

pub loop-i-preserved : goal.loop-i-preserved
loop-i-preserved c =
    let config = c.args.config.now in
    let below = by_name config 0 (block_in c.args.blocks.now) in
    let f = line_refusal config below c.args.block c.lines-lines.result.now c.args.d in
    let here = ap (λ (b : Bool). option_map (refusal_at c.args.d (c.loop-i.i + 1)) (first_kind (line_faults config below c.args.block b c.index-lines-i.result))) (sym c.begins_with_verity-verity_first.ensures) ∙ ap (option_map (refusal_at c.args.d (c.loop-i.i + 1))) (sym c.in-None.ensures) in
    first_more f c.lines-lines.result.now c.loop-i.i (c.loop-i.i + 1) c.index-lines-i.result (first_from f 1 c.lines-lines.result.now) c.loop-i-test.true c.index-lines-i.is here c.loop-i.invariant

pub returns : goal.returns
returns c =
    let f = line_refusal c.args.config.now (by_name c.args.config.now 0 (block_in c.args.blocks.now)) c.args.block c.lines-lines.result.now c.args.d in
    rw (← c.lines-lines.ensures.value) (sym (first_end f c.lines-lines.result.now c.loop-i.i (c.loop-i.i + 1) (first_from f 1 c.lines-lines.result.now) c.loop-i-test.false c.loop-i.invariant))
