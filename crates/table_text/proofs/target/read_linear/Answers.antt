use Rattle.std.proofs.Common.{◌∷◌, Ok, Err, ap, sym, ◌∙◌}
use Rattle.dm_table.specs.declared.table.Target.TheVariants.{Linear}
use Rattle.dm_table.specs.Reading.{◌>>=◌}
use Rattle.dm_table.specs.Lines.{linear_at}
use Rattle.table_text.proofs.ReadLemmas.{exit_kind, exit_part}
use Rattle.table_text.proofs.target.read_linear.Goals as goal

pub returns-in_err-device : goal.returns-in_err-device
unfolding linear_at
returns-in_err-device c =
    let few = c.in_err-device.ensures in
    exit_kind _ _ _ c.from_residual.ensures.1 (ap linear_at few.1 ∙ ap Err (sym few.0))

pub returns-in_err-offset : goal.returns-in_err-offset
unfolding linear_at
returns-in_err-offset c =
    let few = c.in_err-offset.ensures in
    exit_kind _ _ _ c.from_residual-in_err-offset.ensures.1
    (ap linear_at (c.in_ok-device.ensures ∙ ap (λ ws. c.in_ok-device.device.now ∷ ws) few.1) ∙ ap Err (sym few.0))

pub returns-in_err-end : goal.returns-in_err-end
unfolding linear_at
returns-in_err-end c =
    let many = c.in_err-end.ensures in
    exit_kind _ _ _ c.from_residual-in_err-end.ensures.1
    (ap linear_at (c.in_ok-device.ensures ∙ ap (λ ws. c.in_ok-device.device.now ∷ ws) (c.in_ok-offset.ensures ∙ ap (λ ws. c.in_ok-offset.offset.now ∷ ws) many.1.2)) ∙ ap Err (sym many.0))

pub returns-in_err-read_base : goal.returns-in_err-read_base
unfolding linear_at
returns-in_err-read_base c =
    let arguments = c.in_ok-device.ensures ∙ ap (λ ws. c.in_ok-device.device.now ∷ ws) (c.in_ok-offset.ensures ∙ ap (λ ws. c.in_ok-offset.offset.now ∷ ws) c.in_ok-end.ensures) in
    exit_part _ _ _ _ c.from_residual-in_err-read_base.ensures.1 c.in_err-read_base.ensures
    (λ kind e. ap linear_at arguments ∙ ap (λ base. base >>= (λ b. Ok (Linear b))) e)

pub returns : goal.returns
unfolding linear_at
returns c =
    let arguments = c.in_ok-device.ensures ∙ ap (λ ws. c.in_ok-device.device.now ∷ ws) (c.in_ok-offset.ensures ∙ ap (λ ws. c.in_ok-offset.offset.now ∷ ws) c.in_ok-end.ensures) in
    ap linear_at arguments ∙ ap (λ base. base >>= (λ b. Ok (Linear b))) c.in_ok-read_base.ensures
