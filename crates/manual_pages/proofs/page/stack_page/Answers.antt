use Rattle.manual_pages.specs.Pages.{stack_pages}
use Rattle.manual_pages.proofs.page.stack_page.Goals as goal

pub returns : goal.returns
unfolding stack_pages
returns c = c.page_in.ensures
