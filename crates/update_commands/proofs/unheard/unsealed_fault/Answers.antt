use Rattle.std.proofs.Common.{Bool, ap, sym, ◌∙◌}
use Rattle.std.specs.Prelude.{if◌then◌else◌}
use Rattle.verity_commands.specs.declared.tree_fault.TreeFault.TheVariants.{Damaged}
use Rattle.update_commands.proofs.unheard.unsealed_fault.Goals as goal

pub returns-then-is_write : goal.returns-then-is_write
returns-then-is_write c = sym (ap (λ (b : Bool). if b then Damaged else c.args.fault) (sym c.is_write.ensures ∙ c.if-is_write.true))

pub returns : goal.returns
returns c = sym (ap (λ (b : Bool). if b then Damaged else c.args.fault) (sym c.is_write.ensures ∙ c.if-is_write.false))
