-- Passes by the map file that a command's plan names.
use Rattle.std.proofs.Common.{◌≡◌, ℕ, Bool, true, List, Option, ap, subst}
use Rattle.block_device.specs.Device.{Device, capped}
use Rattle.device_adapters.specs.declared.differing.Differing.{Differing}
use Rattle.device_adapters.specs.Differing.{differing}
use Rattle.image_files.specs.Opener.{Calls}
use Rattle.scan_commands.specs.declared.rescue_fault.PassFault.{PassFault}
use Rattle.scan_commands.specs.MapFiles.{MapPathRecord, map_at}
use Rattle.scan_commands.specs.CountedPasses.{CountsPass}
use Rattle.scan_commands.specs.Passes.{Moving, StopsPass, moving}
use Rattle.rescue_map.specs.declared.kind.MapKind.TheVariants as map_kind
use Rattle.stack_engine.specs.Stacks.{StackRecord}
use Rattle.scan_commands.specs.declared.pass_counts.PassCounts.{PassCounts}
use Rattle.stack_recovery.specs.Listings.{Listed}
use Rattle.stack_recovery.specs.Recoveries.{sides}
use Rattle.scan_commands.specs.Retries.{Retried}
use Rattle.scan_commands.specs.Copies.{IsOutputSeenAs, PassesTo, StopsTo}

-- OUT under a device that reads before it writes
pub seen-differing : {O : Type 0} (state : O → Device) (d : Differing O) (out : O) (reads writes : ℕ) (dirty : Bool)
    → d ≡ record { inner = out; reads = reads; writes = writes; dirty = dirty } → IsOutputSeenAs true (state out) (differing (state d.inner) (capped d.reads) (capped d.writes) d.dirty)
seen-differing {O} state d out reads writes dirty is =
    ap (λ (i : O). differing (state i) (capped d.reads) (capped d.writes) d.dirty) (ap (λ (x : Differing O). x.inner) is)

pub passes-to : {S D : Type 0} (is_differing : Bool) (w : Calls S D) (path : Option (List ℕ)) (map : Option MapPathRecord) (t : Retried) (stack stack' : StackRecord) (out out' seen left : Device) (before told : Listed) (counts : PassCounts)
    → map ≡ map_at path map_kind.Copy → IsOutputSeenAs is_differing out seen → IsOutputSeenAs is_differing out' left
    → CountsPass w map t (moving (sides stack seen before) (sides stack' left told)) counts → PassesTo is_differing w path t (moving (sides stack out before) (sides stack' out' told)) counts
passes-to is_differing w path map t stack stack' out out' seen left before told counts is begun ended passed = record {
  seen = seen;
  left = left;
  begun = begun;
  passed = subst (λ (p : Option MapPathRecord). CountsPass w p t (moving (sides stack seen before) (sides stack' left told)) counts) is passed;
  ended = ended;
}

pub stops-to : {S D : Type 0} (is_differing : Bool) (w : Calls S D) (path : Option (List ℕ)) (map : Option MapPathRecord) (t : Retried) (stack stack' : StackRecord) (out out' seen left : Device) (before told : Listed) (fault : PassFault)
    → map ≡ map_at path map_kind.Copy → IsOutputSeenAs is_differing out seen → IsOutputSeenAs is_differing out' left
    → StopsPass w map t (moving (sides stack seen before) (sides stack' left told)) fault → StopsTo is_differing w path t (moving (sides stack out before) (sides stack' out' told)) fault
stops-to is_differing w path map t stack stack' out out' seen left before told fault is begun ended stops = record {
  seen = seen;
  left = left;
  begun = begun;
  stops = subst (λ (p : Option MapPathRecord). StopsPass w p t (moving (sides stack seen before) (sides stack' left told)) fault) is stops;
  ended = ended;
}

pub passes-by : {S D : Type 0} (w : Calls S D) (map map' : Option MapPathRecord) (t : Retried) (m : Moving) (counts : PassCounts) → map ≡ map' → CountsPass w map t m counts → CountsPass w map' t m counts
passes-by w map map' t m counts is passed = subst (λ (p : Option MapPathRecord). CountsPass w p t m counts) is passed

pub stops-by : {S D : Type 0} (w : Calls S D) (map map' : Option MapPathRecord) (t : Retried) (m : Moving) (fault : PassFault) → map ≡ map' → StopsPass w map t m fault → StopsPass w map' t m fault
stops-by w map map' t m fault is stops = subst (λ (p : Option MapPathRecord). StopsPass w p t m fault) is stops
