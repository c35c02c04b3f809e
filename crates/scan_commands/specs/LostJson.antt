-- The lost sectors of a device as a JSON object.
use Rattle.std.specs.Prelude.{ℕ, ◌==◌, true, List, [], map, codes, if◌then◌else◌}
use Rattle.serde_json.specs.Data.{Data, Members, array, boolean, number, object, string, unsigned, member, no_members}
use Rattle.serde_json.specs.View.{items_of}
use Rattle.stack_meaning.specs.declared.fault.IoFault.{IoFault}
use Rattle.stack_meaning.specs.declared.fault.IoFault.TheVariants.{Device}
use Rattle.stack_meaning.specs.IoFaults.{io_name}
use Rattle.stack_recovery.specs.declared.lost_run.Loss.{Loss}
use Rattle.stack_recovery.specs.declared.lost_run.Loss.TheVariants.{Lost, Unscraped}
use Rattle.stack_recovery.specs.LostRuns.{LostRun}
use Rattle.stack_recovery.specs.Surveys.{fault_of}
use Rattle.scan_commands.specs.declared.pass_counts.PassCounts.{PassCounts}

-- the index of the backing device, if it failed
abbrev pub leaf_member : IoFault → Members → Members
leaf_member (Device leaf) more = member (codes "leaf") (number (unsigned leaf)) more
leaf_member fault more = more

-- that the sectors weren't read one by one
abbrev pub unscraped_member : Loss → Members
unscraped_member (Lost fault) = no_members
unscraped_member (Unscraped fault) = member (codes "unscraped") (boolean true) no_members

-- a run: how many sectors it has, the name of the fault and its first sector
abbrev pub lost_run_json : LostRun → Data
lost_run_json run =
    object
    (member (codes "count") (number (unsigned run.count))
    (member (codes "fault") (string (io_name (fault_of run.kind)))
    (member (codes "first") (number (unsigned run.first))
    (leaf_member (fault_of run.kind) (unscraped_member run.kind)))))

abbrev pub lost_runs_json : List LostRun → List Data
lost_runs_json runs = map lost_run_json runs

-- how many sectors are unscraped, if any
abbrev pub untried_member : ℕ → Members
untried_member untried = if untried == 0 then no_members else member (codes "untried") (number (unsigned untried)) no_members

-- how many blocks were restored, if any
abbrev pub restored_member : ℕ → Members → Members
restored_member restored more = if restored == 0 then more else member (codes "restored") (number (unsigned restored)) more

-- how many sectors are lost, how many were read, how many blocks were restored, if any, and the lost runs
abbrev pub lost_json : List LostRun → PassCounts → Data
lost_json runs counts =
    object
    (member (codes "lost") (number (unsigned counts.sectors.lost))
    (member (codes "read") (number (unsigned counts.sectors.read))
    (restored_member counts.restored
    (member (codes "runs") (array (items_of (lost_runs_json runs)))
    (untried_member counts.sectors.untried)))))
