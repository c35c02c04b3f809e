use Rattle.std.proofs.Common.{ℕ, ◌∙◌, Some, ap}
use Rattle.std.specs.Prelude.{Option, option_map}
use Rattle.std.specs.Option.{option_and_then}
use Rattle.dm_table.specs.Numbers.{number}
use Rattle.find_commands.specs.Luks.{whole_sectors}
use Rattle.find_commands.proofs.luks.stated_length.Goals as goal

after_bytes : ℕ → Option (Option ℕ)
after_bytes bytes = option_map (λ n. Some n) (whole_sectors bytes)

pub returns-in_err-bytes : goal.returns-in_err-bytes
unfolding after_bytes
returns-in_err-bytes c = c.from_residual.ensures ∙ ap (option_and_then after_bytes) (c.in_err-bytes.ensures ∙ ap number c.as_bytes.ensures.value)

pub returns-in_err-sectors : goal.returns-in_err-sectors
unfolding after_bytes
returns-in_err-sectors c =
    c.from_residual-in_err-sectors.ensures
    ∙ ap (option_map (λ (n : ℕ). Some n)) c.in_err-sectors.ensures
    ∙ ap (option_and_then after_bytes) (c.in_ok-bytes.ensures ∙ ap number c.as_bytes.ensures.value)

pub returns : goal.returns
unfolding after_bytes
returns c =
    ap (option_map (λ (n : ℕ). Some n)) c.in_ok-sectors.ensures
    ∙ ap (option_and_then after_bytes) (c.in_ok-bytes.ensures ∙ ap number c.as_bytes.ensures.value)
