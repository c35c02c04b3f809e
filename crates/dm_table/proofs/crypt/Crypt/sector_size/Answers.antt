use Rattle.std.proofs.Common.{sym, ◌∙◌}
use Rattle.std.proofs.lemmas.Bool.{cond-true, cond-false}
use Rattle.dm_table.specs.Crypt.{sector_size}
use Rattle.dm_table.proofs.crypt.Crypt.sector_size.Goals as goal

pub returns-then-is_kept : goal.returns-then-is_kept
unfolding sector_size
returns-then-is_kept c = sym (cond-true _ _ _ (sym c.is_kept.ensures ∙ c.if-is_kept.true))

pub returns-then-is_kept-2 : goal.returns-then-is_kept-2
unfolding sector_size
returns-then-is_kept-2 c = sym (cond-false _ _ _ (sym c.is_kept.ensures ∙ c.if-is_kept.false) ∙ cond-true _ _ _ (sym c.is_kept-else-is_kept.ensures ∙ c.if-is_kept-2.true))

pub returns-then-is_kept-3 : goal.returns-then-is_kept-3
unfolding sector_size
returns-then-is_kept-3 c =
    sym (cond-false _ _ _ (sym c.is_kept.ensures ∙ c.if-is_kept.false) ∙ cond-false _ _ _ (sym c.is_kept-else-is_kept.ensures ∙ c.if-is_kept-2.false) ∙ cond-true _ _ _ (sym c.is_kept-else-is_kept-2.ensures ∙ c.if-is_kept-3.true))

pub returns-else-is_kept-3 : goal.returns-else-is_kept-3
unfolding sector_size
returns-else-is_kept-3 c =
    sym (cond-false _ _ _ (sym c.is_kept.ensures ∙ c.if-is_kept.false) ∙ cond-false _ _ _ (sym c.is_kept-else-is_kept.ensures ∙ c.if-is_kept-2.false) ∙ cond-false _ _ _ (sym c.is_kept-else-is_kept-2.ensures ∙ c.if-is_kept-3.false))
