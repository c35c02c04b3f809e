use Rattle.manual_pages.proofs.NameLemmas.{page_in-found}
use Rattle.manual_pages.proofs.page.page_in.Goals as goal

pub returns : goal.returns
returns c = page_in-found c.args.wanted.now c.args.pages.now _ c.find_page.ensures
