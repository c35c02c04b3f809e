-- How far sectors that remain to be read were tried, and the status of each sector of a map.
use Rattle.std.specs.Prelude.{ℕ, Bool, true, false, not, List, replicate, if◌then◌else◌}
use Rattle.std.specs.List.{flat_map, list_all}
use Rattle.rescue_map.specs.declared.map.Run.{Run}
use Rattle.rescue_map.specs.declared.stage.Stage.{Stage}
use Rattle.rescue_map.specs.declared.stage.Stage.TheVariants as stage
use Rattle.rescue_map.specs.declared.status.Status.{Status}
use Rattle.rescue_map.specs.declared.status.Status.TheVariants.{Bad, Recovered, Unscraped, Untried, Untrimmed}
use Rattle.rescue_map.specs.Statuses.{is_bad, is_recovered}

-- of a status, if sectors with it remain to be read
abbrev pub stage_of : Status → Stage
stage_of Untrimmed = stage.Untrimmed
stage_of Unscraped = stage.Unscraped
stage_of other = stage.Untried

abbrev pub stage_status : Stage → Status
stage_status stage.Untried = Untried
stage_status stage.Untrimmed = Untrimmed
stage_status stage.Unscraped = Unscraped

abbrev pub run_of : ℕ → Status → Run
run_of count status = record { count = count; had = is_recovered status; lost = is_bad status; stage = stage_of status }

abbrev pub run_status : Run → Status
run_status run = if run.had then Recovered else if run.lost then Bad else stage_status run.stage

-- for each sector, its status
abbrev pub statuses : List Run → List Status
statuses runs = flat_map (λ r. replicate r.count (run_status r)) runs

-- whether sectors of a status remain to be read, by passes that may leave unscraped ones
abbrev pub remains : Bool → Status → Bool
remains no_scrape Untried = true
remains no_scrape Untrimmed = true
remains no_scrape Unscraped = not no_scrape
remains no_scrape Bad = false
remains no_scrape Recovered = false

-- no sector of a map remains to be read
abbrev pub is_complete : Bool → List Run → Bool
is_complete no_scrape runs = list_all (λ run. not (remains no_scrape (run_status run))) runs
