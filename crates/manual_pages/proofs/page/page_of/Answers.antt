use Rattle.std.proofs.Common.{refl, ap, ◌∙◌}
use Rattle.std.specs.Prelude.{option_copied, option_map}
use Rattle.manual_pages.specs.Pages.{page_record}
use Rattle.manual_pages.proofs.NameLemmas.{page_of-image, page_of-stack, unwrap_or-text}
use Rattle.manual_pages.proofs.page.page_of.Goals as goal

pub returns-in-Some : goal.returns-in-Some
returns-in-Some c =
    page_of-stack _ c.as_bytes-wanted.result.now (option_map page_record (option_copied c.stack_page.result)) (page_record c.in-Some.page.now)
    (c.as_bytes-wanted.ensures.value ∙ unwrap_or-text c.args.command _ c.unwrap_or.result c.unwrap_or.ensures refl) c.stack_page.ensures
    (ap (λ o. option_map page_record (option_copied o)) c.in-Some.is)

pub returns-in-None : goal.returns-in-None
returns-in-None c =
    ap (option_map page_record) c.copied.ensures
    ∙ page_of-image _ c.as_bytes-wanted.result.now (option_map page_record (option_copied c.stack_page.result)) (option_map page_record (option_copied c.image_page.result))
    (c.as_bytes-wanted.ensures.value ∙ unwrap_or-text c.args.command _ c.unwrap_or.result c.unwrap_or.ensures refl) c.stack_page.ensures
    (ap (λ o. option_map page_record (option_copied o)) c.in-None.is) c.image_page.ensures
