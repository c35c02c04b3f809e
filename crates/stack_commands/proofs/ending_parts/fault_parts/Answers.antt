use Rattle.std.proofs.Common.{ℕ, ◌∙◌, List, ap}
use Rattle.std.specs.Prelude.{codes, option_map}
use Rattle.std.specs.Option.{option_and_then}
use Rattle.stack_commands.specs.EndingParts.{after_word, fault_in, fault_record}
use Rattle.stack_commands.proofs.ending_parts.fault_parts.Goals as goal

pub returns-in_err-rest : goal.returns-in_err-rest
returns-in_err-rest c = ap (option_map fault_record) c.from_residual.ensures ∙ ap (option_and_then (λ (rest : List ℕ). option_and_then fault_in (after_word (codes "fault") rest))) c.in_err-rest.ensures

pub returns-in_err-fault : goal.returns-in_err-fault
returns-in_err-fault c =
    ap (option_map fault_record) c.from_residual-in_err-fault.ensures
    ∙ ap (option_and_then fault_in) c.in_err-fault.ensures
    ∙ ap (option_and_then (λ (rest : List ℕ). option_and_then fault_in (after_word (codes "fault") rest))) c.in_ok-rest.ensures

pub returns : goal.returns
returns c =
    c.fault_in.ensures
    ∙ ap (option_and_then fault_in) c.in_ok-fault.ensures
    ∙ ap (option_and_then (λ (rest : List ℕ). option_and_then fault_in (after_word (codes "fault") rest))) c.in_ok-rest.ensures
