use Rattle.runs.proofs.listing.CountedListing.tell.Goals as goal

pub returns : goal.returns
returns g c = record { ok = c.say_line.ensures.ok; kept = c.say_line.ensures.kept; failed = c.say_line.ensures.failed }
