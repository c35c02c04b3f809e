use Rattle.manual_pages.specs.Pages.{image_pages}
use Rattle.manual_pages.proofs.page.image_page.Goals as goal

pub returns : goal.returns
unfolding image_pages
returns c = c.page_in.ensures
