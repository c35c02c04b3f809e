use Rattle.std.proofs.Common.{ℕ, ◌∙◌, List, ap}
use Rattle.std.specs.Prelude.{Option, option_map}
use Rattle.std.specs.Option.{option_and_then}
use Rattle.stack_commands.specs.EndingParts.{TextFaultRecord, fault_from, fault_record, number_first}
use Rattle.stack_commands.proofs.ending_parts.fault_in.Goals as goal

after_line : ℕ → ℕ × List ℕ → Option TextFaultRecord
after_line entry line = option_map (fault_from entry line.0) (number_first line.1)

after_entry : ℕ × List ℕ → Option TextFaultRecord
after_entry entry = option_and_then (λ line. option_map (fault_from entry.0 line.0) (number_first line.1)) (number_first entry.1)

pub returns-in_err-entry : goal.returns-in_err-entry
unfolding after_entry
returns-in_err-entry c = ap (option_map fault_record) c.from_residual.ensures ∙ ap (option_and_then after_entry) c.in_err-entry.ensures

pub returns-in_err-line : goal.returns-in_err-line
unfolding after_entry after_line
returns-in_err-line c =
    ap (option_map fault_record) c.from_residual-in_err-line.ensures
    ∙ ap (option_and_then (after_line c.in_ok-entry.entry)) c.in_err-line.ensures
    ∙ ap (option_and_then after_entry) c.in_ok-entry.ensures

pub returns-in_err-number : goal.returns-in_err-number
unfolding after_entry after_line
returns-in_err-number c =
    ap (option_map fault_record) c.from_residual-in_err-number.ensures
    ∙ ap (option_map (fault_from c.in_ok-entry.entry c.in_ok-line.line)) c.in_err-number.ensures
    ∙ ap (option_and_then (after_line c.in_ok-entry.entry)) c.in_ok-line.ensures
    ∙ ap (option_and_then after_entry) c.in_ok-entry.ensures

pub returns : goal.returns
unfolding after_entry after_line
returns c =
    ap (option_map (fault_from c.in_ok-entry.entry c.in_ok-line.line)) c.in_ok-number.ensures
    ∙ ap (option_and_then (after_line c.in_ok-entry.entry)) c.in_ok-line.ensures
    ∙ ap (option_and_then after_entry) c.in_ok-entry.ensures
