use Rattle.std.proofs.Common.{Some, ap, sym, ◌∙◌}
use Rattle.find_commands.specs.declared.kind.Kind.{Kind}
use Rattle.find_commands.specs.Signatures.{kind_at}
use Rattle.find_commands.proofs.signatures.kind_at.Goals as goal

pub returns-in-Some : goal.returns-in-Some
unfolding kind_at
returns-in-Some c = rw (sym c.stated_sector.ensures ∙ c.in-Some.is) (ap (λ (k : Kind). Some k) c.gpt_kind.ensures)

pub returns-in-None : goal.returns-in-None
unfolding kind_at
returns-in-None c = rw (sym c.stated_sector.ensures ∙ c.in-None.is) c.volume_kind.ensures
