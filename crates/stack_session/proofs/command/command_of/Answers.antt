use Rattle.std.proofs.Common.{◌≡◌, [], ap, sym, ◌∙◌}
use Rattle.dm_table.specs.Words.{words}
use Rattle.stack_session.specs.Commands.{load, run, submit, command_with}
use Rattle.stack_session.proofs.CommandLemmas.{command_of-nothing, command_of-words}
use Rattle.stack_session.proofs.command.command_of.Goals as goal

pub returns-in_default-clause-value : goal.returns-in_default-clause-value
returns-in_default-clause-value c =
    let none : words c.args.line.now ≡ [] = sym c.new-words.ensures ∙ c.in_default.ensures.0 in
    sym (command_of-nothing c.args.line.now none)

pub returns-in-Some-Load-clause-value : goal.returns-in-Some-Load-clause-value
returns-in-Some-Load-clause-value c =
    let verb = rw c.in-Some-Load.field-0-is at c.in-Some-Load.ensures in
    ap load c.after_word.ensures.value
    ∙ sym (command_of-words c.args.line.now c.in-Some.word.now c.next_word.new.self _ (sym c.new-words.ensures ∙ c.in-Some.ensures) verb)

pub returns-in-Some-Read-clause-value : goal.returns-in-Some-Read-clause-value
returns-in-Some-Read-clause-value c =
    let verb = rw c.in-Some-Read.field-0-is at c.in-Some-Read.ensures in
    c.run_of.ensures.value ∙ ap (command_with run) c.read_of.ensures.value
    ∙ sym (command_of-words c.args.line.now c.in-Some.word.now c.next_word.new.self _ (sym c.new-words.ensures ∙ c.in-Some.ensures) verb)

pub returns-in-Some-Write-clause-value : goal.returns-in-Some-Write-clause-value
returns-in-Some-Write-clause-value c =
    let verb = rw c.in-Some-Write.field-0-is at c.in-Some-Write.ensures in
    c.run_of-in-Some-Write.ensures.value ∙ ap (command_with run) c.write_of.ensures.value
    ∙ sym (command_of-words c.args.line.now c.in-Some.word.now c.next_word.new.self _ (sym c.new-words.ensures ∙ c.in-Some.ensures) verb)

pub returns-in-Some-Submit-clause-value : goal.returns-in-Some-Submit-clause-value
returns-in-Some-Submit-clause-value c =
    let verb = rw c.in-Some-Submit.field-0-is at c.in-Some-Submit.ensures in
    c.submit_of.ensures.value ∙ ap (command_with submit) c.access_of.ensures.value
    ∙ sym (command_of-words c.args.line.now c.in-Some.word.now c.next_word.new.self _ (sym c.new-words.ensures ∙ c.in-Some.ensures) verb)

pub returns-in-Some-Step-clause-value : goal.returns-in-Some-Step-clause-value
returns-in-Some-Step-clause-value c =
    let verb = rw c.in-Some-Step.field-0-is at c.in-Some-Step.ensures in
    c.step_of.ensures.value
    ∙ sym (command_of-words c.args.line.now c.in-Some.word.now c.next_word.new.self _ (sym c.new-words.ensures ∙ c.in-Some.ensures) verb)

pub returns-in-Some-Remove-clause-value : goal.returns-in-Some-Remove-clause-value
returns-in-Some-Remove-clause-value c =
    let verb = rw c.in-Some-Remove.field-0-is at c.in-Some-Remove.ensures in
    c.remove_of.ensures.value
    ∙ sym (command_of-words c.args.line.now c.in-Some.word.now c.next_word.new.self _ (sym c.new-words.ensures ∙ c.in-Some.ensures) verb)

pub returns-in-Some-Cost-clause-value : goal.returns-in-Some-Cost-clause-value
returns-in-Some-Cost-clause-value c =
    let verb = rw c.in-Some-Cost.field-0-is at c.in-Some-Cost.ensures in
    c.cost_of.ensures.value
    ∙ sym (command_of-words c.args.line.now c.in-Some.word.now c.next_word.new.self _ (sym c.new-words.ensures ∙ c.in-Some.ensures) verb)

pub returns-in-Some-Table-clause-value : goal.returns-in-Some-Table-clause-value
returns-in-Some-Table-clause-value c =
    let verb = rw c.in-Some-Table.field-0-is at c.in-Some-Table.ensures in
    c.table_of.ensures.value
    ∙ sym (command_of-words c.args.line.now c.in-Some.word.now c.next_word.new.self _ (sym c.new-words.ensures ∙ c.in-Some.ensures) verb)

pub returns-in-Some-Moved-clause-value : goal.returns-in-Some-Moved-clause-value
returns-in-Some-Moved-clause-value c =
    let verb = rw c.in-Some-Moved.field-0-is at c.in-Some-Moved.ensures in
    c.moved_of.ensures.value
    ∙ sym (command_of-words c.args.line.now c.in-Some.word.now c.next_word.new.self _ (sym c.new-words.ensures ∙ c.in-Some.ensures) verb)

pub returns-in-None-clause-value : goal.returns-in-None-clause-value
returns-in-None-clause-value c =
    sym (command_of-words c.args.line.now c.in-Some.word.now c.next_word.new.self _ (sym c.new-words.ensures ∙ c.in-Some.ensures) c.in-None.ensures)
