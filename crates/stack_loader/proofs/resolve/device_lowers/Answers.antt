use Rattle.std.proofs.Common.{◌≡◌, ◌+◌, take, refl, arith}
use Rattle.std.proofs.lemmas.Result.{err_from_is_err_and}
use Rattle.dm_table.specs.Grammar.{IsTargetOfGrammar}
use Rattle.stack_rules.specs.Passing.{largest_load_allocation}
use Rattle.stack_rules.proofs.lemmas.PassingLemmas.{out_of_memory}
use Rattle.std.proofs.lemmas.List.{take_all}
use Rattle.stack_rules.specs.declared.refusal.LoadKind.TheVariants.{NoSuchDevice}
use Rattle.stack_rules.specs.Rules.{first, unknown_in}
use Rattle.stack_rules.proofs.lemmas.NameMeaningLemmas.{found-none, found-some, rows_more}
use Rattle.stack_rules.proofs.lemmas.FirstRefusalLemmas.{scan_found, scan_more, scan_end}
use Rattle.stack_rules.proofs.lemmas.UnknownNameLemmas.{unknown_line}
use Rattle.stack_loader.proofs.resolve.device_lowers.Goals as goal

pub returns-in_err-rows : goal.returns-in_err-rows
returns-in_err-rows c = λ c' is.
    let p = err_from_is_err_and c.from_residual.result c.from_residual.ensures.1 in
    rw (p.1, p.2) (out_of_memory largest_load_allocation c.in_err-rows.field-0.0 (omega (arith, c.in_err-rows.ensures.err.0, c.requires.few)))

pub returns-in_err-row : goal.returns-in_err-row
returns-in_err-row c = λ c' is.
    let p = err_from_is_err_and c.from_residual-in_err-row.result c.from_residual-in_err-row.ensures.1 in
    let line = c.requires.grammar c.loop-i.i c.index-lines-i.result c.loop-i-test.true in
    let target : IsTargetOfGrammar c.index-lines-i.result.target = rw (← c.index-lines-i.is) at line.target in
    rw (p.1, p.2) (out_of_memory largest_load_allocation c.in_err-row.field-0.0 (omega (arith, c.in_err-row.ensures.err target)))

pub returns-in_err-push-in-Some : goal.returns-in_err-push-in-Some
returns-in_err-push-in-Some c = λ c' is.
    let p = err_from_is_err_and c.from_residual-in_err-push-in-Some.result c.from_residual-in_err-push-in-Some.ensures.1 in
    rw (p.1, p.2) (out_of_memory largest_load_allocation c.in_err-push-in-Some.field-0.0 (omega (arith, c.in_err-push-in-Some.ensures.err.0)))

pub returns-in-None : goal.returns-in-None
returns-in-None c = λ c' is.
    scan_found (unknown_line c' c.args.d) c.args.lines.now c.loop-i.i (c.loop-i.i + 1) c.index-lines-i.result (record { kind = NoSuchDevice; device = c.args.d; line = c.loop-i.i + 1 }) (first (unknown_in c' c.args.d c.args.lines.now))
    c.loop-i-test.true c.index-lines-i.is
    (found-none c' c.args.d (c.loop-i.i + 1) c.index-lines-i.result (rw c.in-None.is at (c.in_ok-row.ensures.ok c' is))) (c.loop-i.invariant c' is).1

pub loop-i-preserved : goal.loop-i-preserved
loop-i-preserved c = λ c' is.
    let f = found-some c' c.args.d (c.loop-i.i + 1) c.index-lines-i.result c.in-Some.row (rw c.in-Some.is at (c.in_ok-row.ensures.ok c' is)) in
    let inv = c.loop-i.invariant c' is in (
      rw c.in_ok-push-in-Some.ensures.ok (rows_more c' c.loop-i.rows.items c.args.lines.now c.loop-i.i c.index-lines-i.result c.in-Some.row c.loop-i-test.true c.index-lines-i.is f.0 inv.0),
      scan_more (unknown_line c' c.args.d) c.args.lines.now c.loop-i.i (c.loop-i.i + 1) c.index-lines-i.result (first (unknown_in c' c.args.d c.args.lines.now)) c.loop-i-test.true c.index-lines-i.is refl f.1 inv.1,
    )

pub returns : goal.returns
returns c = λ c' is.
    let inv = c.loop-i.invariant c' is in
    let all : take c.loop-i.i c.args.lines.now ≡ c.args.lines.now = take_all c.loop-i.i c.args.lines.now c.loop-i-test.false in
    (scan_end (unknown_line c' c.args.d) c.args.lines.now c.loop-i.i (c.loop-i.i + 1) (first (unknown_in c' c.args.d c.args.lines.now)) c.loop-i-test.false inv.1, rw c.new.ensures (rw all at inv.0))
