use Rattle.std.proofs.Common.{ℕ, ◌∙◌, Bool, List, None, Some, ap, sym}
use Rattle.std.specs.Prelude.{Option, if◌then◌else◌}
use Rattle.std.specs.Option.{option_and_then}
use Rattle.std.specs.Str.{bytes_eq}
use Rattle.command_line.specs.FormatOptions.{text_of}
use Rattle.stack_commands.proofs.ending_parts.after_word.Goals as goal

rest_if : List ℕ → Bool → Option (List ℕ)
rest_if rest b = if b then Some rest else None

after : List ℕ → List ℕ × List ℕ → Option (List ℕ)
after word parts = if bytes_eq parts.0 word then Some parts.1 else None

pub returns-in_err-first : goal.returns-in_err-first
unfolding after
returns-in_err-first c = ap text_of c.from_residual.ensures ∙ ap (option_and_then (after c.args.word.now)) c.in_err-first.ensures

pub returns-then-eq : goal.returns-then-eq
unfolding after rest_if
returns-then-eq c =
    ap (rest_if c.in_ok-first.rest.now) (sym c.if-eq.true ∙ c.eq.ensures ∙ ap (λ t. bytes_eq t c.args.word.now) c.as_bytes.ensures.value)
    ∙ ap (option_and_then (after c.args.word.now)) c.in_ok-first.ensures

pub returns-else-eq : goal.returns-else-eq
unfolding after rest_if
returns-else-eq c =
    ap (rest_if c.in_ok-first.rest.now) (sym c.if-eq.false ∙ c.eq.ensures ∙ ap (λ t. bytes_eq t c.args.word.now) c.as_bytes.ensures.value)
    ∙ ap (option_and_then (after c.args.word.now)) c.in_ok-first.ensures
