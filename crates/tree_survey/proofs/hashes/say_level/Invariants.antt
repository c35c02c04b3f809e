use Rattle.tree_survey.proofs.SayingLemmas.{IsSayingLevel}
use Rattle.tree_survey.proofs.hashes.say_level.Given as goal

abbrev pub invariant-numbers : goal.invariant-numbers
invariant-numbers g l =
    IsSayingLevel l.fn.path l.path (g.H.BlockDev.state l.fn.device) (g.H.BlockDev.state l.device) l.level l.number (g.L.Listing.told l.fn.listing) (g.L.Listing.told l.listing) l.whole
