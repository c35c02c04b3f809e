use Rattle.stack_recovery.proofs.PieceLemmas.{passes-scrape}
use Rattle.stack_recovery.proofs.laws.passes_scrape.Goals as goal

pub returns : goal.returns
returns c = λ scan p reads scrapes pieces. passes-scrape scan p reads scrapes pieces
