use Rattle.std.proofs.Common.{sym, ap, inl, refl, ◌∙◌}
use Rattle.std.specs.Prelude.{option_map}
use Rattle.manual_pages.specs.Pages.{page_record}
use Rattle.stack_commands.proofs.invocation.show_page.Goals as goal

pub returns-in-None-clause-err : goal.returns-in-None-clause-err
returns-in-None-clause-err g c = inl (sym c.page_of.ensures ∙ ap (option_map page_record) c.in-None.is, (refl, refl))
