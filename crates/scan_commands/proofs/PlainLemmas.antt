-- The devices and the lost runs as JSON objects have no float.
use Rattle.std.proofs.Common.{◌≡◌, ◌==◌, ◌++◌, ℕ, zero, suc, Bool, true, false, List, [], ◌∷◌, length, refl, codes, if◌then◌else◌}
use Rattle.std.proofs.lemmas.Bool.{or_from, or_parts}
use Rattle.serde_json.specs.Data.{Data, Members, member, no_members, number, unsigned}
use Rattle.serde_json.specs.View.{items_of}
use Rattle.serde_json.specs.Written.{has_float, items_have_float, members_have_float}
use Rattle.stack_meaning.specs.declared.fault.IoFault.TheVariants.{Device, NoMemory, Stack}
use Rattle.stack_rules.specs.Records.{Configuration}
use Rattle.stack_recovery.specs.declared.lost_run.Loss.{Loss}
use Rattle.stack_recovery.specs.declared.lost_run.Loss.TheVariants.{Lost, Unscraped}
use Rattle.stack_recovery.specs.LostRuns.{LostRun}
use Rattle.scan_commands.specs.declared.pass_counts.PassCounts.{PassCounts}
use Rattle.scan_commands.specs.LostJson.{lost_json, lost_run_json, lost_runs_json}
use Rattle.scan_commands.specs.Devices.{device_json, devices_json, load_json}

both_plain : (xs ys : List Data) → items_have_float (items_of xs) ≡ false → items_have_float (items_of ys) ≡ false → items_have_float (items_of (xs ++ ys)) ≡ false
both_plain [] ys p q = q
both_plain (x ∷ xs) ys p q =
    let parts = or_parts (has_float x) _ p in
    or_from _ _ parts.0 (both_plain xs ys parts.1 q)

plain_devices : (c : Configuration) (n : ℕ) → items_have_float (items_of (devices_json c n)) ≡ false
plain_devices c zero = refl
plain_devices c (suc n) = both_plain (devices_json c n) (device_json c n ∷ []) (plain_devices c n) refl

pub plain_load : (c : Configuration) → has_float (load_json c) ≡ false
plain_load c = or_from _ _ (plain_devices c (length c.devices)) refl

plain_run : (first count : ℕ) (loss : Loss) → has_float (lost_run_json (record { first = first; count = count; kind = loss })) ≡ false
plain_run first count (Lost (Stack fault)) = refl
plain_run first count (Lost (Device leaf)) = refl
plain_run first count (Lost NoMemory) = refl
plain_run first count (Unscraped (Stack fault)) = refl
plain_run first count (Unscraped (Device leaf)) = refl
plain_run first count (Unscraped NoMemory) = refl

plain_runs : (runs : List LostRun) → items_have_float (items_of (lost_runs_json runs)) ≡ false
plain_runs [] = refl
plain_runs (run ∷ more) = or_from _ _ (plain_run run.first run.count run.kind) (plain_runs more)

plain_untried : (none : Bool) (untried : ℕ) → members_have_float (if none then no_members else member (codes "untried") (number (unsigned untried)) no_members) ≡ false
plain_untried true untried = refl
plain_untried false untried = refl

plain_restored : (none : Bool) (restored : ℕ) (more : Members) → members_have_float more ≡ false → members_have_float (if none then more else member (codes "restored") (number (unsigned restored)) more) ≡ false
plain_restored true restored more plain = plain
plain_restored false restored more plain = plain

pub plain_lost : (runs : List LostRun) (counts : PassCounts) → has_float (lost_json runs counts) ≡ false
plain_lost runs counts = plain_restored (counts.restored == 0) counts.restored _ (or_from _ _ (plain_runs runs) (plain_untried (counts.sectors.untried == 0) counts.sectors.untried))
