use Rattle.std.proofs.Common.{ℕ, ◌∙◌, Bor, List, ap}
use Rattle.std.specs.Prelude.{Option, option_map}
use Rattle.std.specs.Option.{option_and_then}
use Rattle.dm_table.specs.Numbers.{number}
use Rattle.stack_commands.proofs.ending_parts.number_first.Goals as goal

found_in : ℕ × Bor (List ℕ) → ℕ × List ℕ
found_in found = (found.0, found.1.now)

number_in : List ℕ × List ℕ → Option (ℕ × List ℕ)
number_in parts = option_map (λ n. (n, parts.1)) (number parts.0)

pub returns-in_err-word : goal.returns-in_err-word
unfolding found_in number_in
returns-in_err-word c = ap (option_map found_in) c.from_residual.ensures ∙ ap (option_and_then number_in) c.in_err-word.ensures

pub returns-in_err-value : goal.returns-in_err-value
unfolding found_in number_in
returns-in_err-value c =
    ap (option_map found_in) c.from_residual-in_err-value.ensures
    ∙ ap (option_map (λ (n : ℕ). (n, c.in_ok-word.rest.now))) (c.in_err-value.ensures ∙ ap number c.as_bytes.ensures.value)
    ∙ ap (option_and_then number_in) c.in_ok-word.ensures

pub returns : goal.returns
unfolding found_in number_in
returns c =
    ap (option_map (λ (n : ℕ). (n, c.in_ok-word.rest.now))) (c.in_ok-value.ensures ∙ ap number c.as_bytes.ensures.value)
    ∙ ap (option_and_then number_in) c.in_ok-word.ensures
