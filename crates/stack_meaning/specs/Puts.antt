-- The effect of a write: a run of sectors passes from line to line down to the leaves.
use Rattle.std.specs.Prelude.{ℕ, suc, ◌+◌, ◌-◌, ◌&&◌, Bool, true, false, nat_lt, List, [], ◌∷◌, set}
use Rattle.std.specs.List.{slice_index_or}
use Rattle.std.specs.Option.{option_map_or}
use Rattle.block_device.specs.Device.{spliced}
use Rattle.dm_table.specs.declared.table.Target.{Target}
use Rattle.stack_rules.specs.declared.lower.Lower.{Lower}
use Rattle.stack_rules.specs.declared.lower.Lower.TheVariants.{Leaf as leaf, Device as device}
use Rattle.stack_rules.specs.Records.{Configuration}
use Rattle.stack_rules.specs.Descend.{descend}
use Rattle.stack_rules.specs.Lines.{line_at}
use Rattle.stack_meaning.specs.Sectors.{OnLine, sector_rule}
use Rattle.stack_meaning.specs.Outcomes.{Images}
use Rattle.stack_meaning.specs.Meaning.{none_said, said_by_name}
use Rattle.stack_meaning.specs.Beneath.{beneath, below, said_or}
use Rattle.stack_meaning.specs.TargetMeaning.{put_as}
use Rattle.stack_meaning.specs.MeaningOf.{meaning_of}
pub use Rattle.stack_meaning.specs.Putting.{Put, done, stopped, then_put, Putting, none_put, read_put}
pub use Rattle.stack_meaning.specs.targets.Crypt.{encrypted_sectors, changed_unit, unit_put, in_unit}

-- ---- runs

-- consecutive sectors, with the number of the first
abbrev pub Run : Type 0
Run = ℕ × List (List ℕ)

-- a sector in front of the runs that follow it; it joins the first of them if they belong together
abbrev pub sector_before : ℕ → List ℕ → Bool → List Run → List Run
sector_before s bytes true [] = (s, bytes ∷ []) ∷ []
sector_before s bytes true (run ∷ more) = (s, bytes ∷ run.1) ∷ more
sector_before s bytes false runs = (s, bytes ∷ []) ∷ runs

-- sectors from s on, split after each that doesn't belong together with the next
abbrev pub runs_from : (ℕ → Bool) → ℕ → List (List ℕ) → List Run
runs_from together s [] = []
runs_from together s (bytes ∷ more) = sector_before s bytes (together s) (runs_from together (suc s) more)

-- the runs are written in ascending order, up to the first fault
abbrev pub put_runs : (ℕ → Putting) → List Run → Images → Put
put_runs at [] images = done images
put_runs at (run ∷ more) images = then_put (at run.0 run.1 images) (put_runs at more)

-- sector s of a line and the next one are written together
abbrev pub together : Target → ℕ → Bool
together target = (meaning_of target).together

-- sector s of a device and the next one are in the same line and are written together there
abbrev pub in_one_run : Configuration → ℕ → ℕ → Bool
in_one_run c d s = option_map_or (λ p. nat_lt (suc s) (p.1.start + p.1.length) && together p.1.target (s - p.1.start)) (line_at c d s) false

-- ---- writes

-- sectors from s on replace those of leaf i
abbrev pub leaf_put : ℕ → ℕ → Putting
leaf_put i s sectors images = done (set images i (spliced (slice_index_or images i []) s sectors))

-- a run is written from sector s of a line on, given the effect of writes to the devices that the line names
abbrev pub line_put : Configuration → OnLine Putting
line_put c at d l target s sectors images = put_as (meaning_of target).meant (said_or none_put at (beneath target s)) (below none_said (said_by_name c) target) (below none_put at target) s sectors images

-- a run is written from sector s of a leaf or device on; on a device it is split
abbrev pub put_rule : Configuration → (Lower → ℕ → Putting) → Lower → ℕ → Putting
put_rule c below (leaf i) s sectors images = leaf_put i s sectors images
put_rule c below (device d) s sectors images = put_runs (sector_rule c none_put leaf_put (line_put c) below (device d)) (runs_from (in_one_run c d.0) s sectors) images

-- the effect of writing sectors from s of a leaf or device on
abbrev pub put_on : Configuration → Lower → ℕ → Putting
put_on c = descend (λ s. none_put) (put_rule c)
