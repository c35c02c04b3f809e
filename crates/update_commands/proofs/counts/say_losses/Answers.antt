use Rattle.std.proofs.Common.{inl, inr, refl, sym, ◌∙◌}
use Rattle.update_commands.proofs.counts.say_losses.Goals as goal

pub returns-then-not-json : goal.returns-then-not-json
returns-then-not-json g c = inl (rw c.if-not-json.true (record { other = refl; quiet = refl; same = refl }))

pub returns-then-not-is_damaged : goal.returns-then-not-is_damaged
returns-then-not-is_damaged g c = inl (rw c.if-not-json.false (record { other = sym c.is_damaged.ensures ∙ c.if-not-is_damaged.true; quiet = refl; same = refl }))

pub returns-in-Ok : goal.returns-in-Ok
returns-in-Ok g c = inr (rw c.if-not-json.false (record { lost = sym c.is_damaged.ensures ∙ c.if-not-is_damaged.false; counted = inl c.in-Ok.ensures.ok }))

pub returns-in-Err : goal.returns-in-Err
returns-in-Err g c = inr (rw c.if-not-json.false (record { lost = sym c.is_damaged.ensures ∙ c.if-not-is_damaged.false; counted = inr (_, c.in-Err.ensures.err) }))
