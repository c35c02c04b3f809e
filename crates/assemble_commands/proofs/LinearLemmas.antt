-- Linear devices over the parts of a disk.
use Rattle.std.proofs.Common.{◌≡◌, ◌∙◌, ◌+◌, ◌-◌, ◌<◌, ◌≤◌, ℕ, List, [], ◌∷◌, Ok, Option, Some, ap, arith, drop, get_or, length, refl}
use Rattle.std.specs.List.{concat}
use Rattle.std.proofs.lemmas.List.{length-drop, length-take-le}
use Rattle.block_device.specs.Device.{Device, IsWhole, run_of}
use Rattle.device_adapters.specs.declared.part.Part.{Part}
use Rattle.dm_table.specs.declared.table.Line.{Line}
use Rattle.dm_table.specs.declared.table.Target.{Target}
use Rattle.dm_table.specs.declared.table.Target.TheVariants.{Linear}
use Rattle.stack_engine.specs.Laws.{named_sector}
use Rattle.stack_meaning.specs.Meaning.{Said, leaf_said, line_said, none_said, said_at, said_by_name}
use Rattle.stack_meaning.specs.Outcomes.{Images, Outcome, span, zero_sector}
use Rattle.stack_meaning.proofs.lemmas.LineLemmas.{here}
use Rattle.stack_meaning.proofs.lemmas.SectorLemmas.{line_said-beneath, said_at-leaf, said_at-line}
use Rattle.stack_meaning.proofs.lemmas.SpanLemmas.{span_image, span_same}
use Rattle.stack_rules.specs.declared.lower.Lower.{Lower}
use Rattle.stack_rules.specs.declared.lower.Lower.TheVariants.{Leaf as leaf}
use Rattle.stack_rules.specs.Descend.{known}
use Rattle.stack_rules.specs.Lines.{line_at, line_in}
use Rattle.stack_rules.specs.Names.{mapped}
use Rattle.stack_rules.specs.Records.{Configuration}
use Rattle.stack_rules.specs.Rules.{IsLoaded}
use Rattle.assemble_commands.specs.DataLaws.{IsLinearPart, LinearPartsHold, NamedHolds}

module _ (c : Configuration) (loaded : IsLoaded c) (images : Images) (name : List ℕ) (part : Part) (device : Device) (is : IsLinearPart c images name part device) where
  abbrev line : Line
  line = record { start = 0; length = part.count; target = Linear (record { device = is.leaf_name; offset = part.first }) }

  abbrev image : List (List ℕ)
  image = get_or images is.leaf_number []

  found : (s : ℕ) → s < part.count → line_at c is.number s ≡ Some (0, line)
  found s low = ap (λ (lines : List Line). line_in lines s) is.lines_are ∙ here 0 line [] s (omega (arith, low))

  -- a sector of the device is one of the leaf
  sector-is : (s : ℕ) → s < part.count → said_by_name c name s ≡ leaf_said is.leaf_number (part.first + s)
  sector-is s low =
      let at : s ≡ s + 0 = omega arith in
      let within : s - 0 + 0 ≡ s = omega arith in
      ap (λ (o : Option Lower). known (λ (t : ℕ). none_said) (said_at c) o s) is.named_is
      ∙ ap (said_at c (mapped is.number)) at
      ∙ said_at-line c loaded.valid is.number s 0 0 line (found s low) (omega arith) (omega (arith, low))
      ∙ ap (λ (k : ℕ). line_said (said_by_name c) is.number 0 line.target k) within
      ∙ line_said-beneath (said_by_name c) is.number 0 line.target s (is.leaf_name, part.first + s) tt refl
      ∙ ap (λ (o : Option Lower). known (λ (t : ℕ). none_said) (said_at c) o (part.first + s)) is.leaf_is
      ∙ said_at-leaf c is.leaf_number (part.first + s)

  module _ (whole : IsWhole device) where
    long : length (run_of image part.first part.count) ≡ device.size
    long = ap length is.holds ∙ whole.length

    -- it has the sectors of the part
    size-is : device.size ≡ part.count
    size-is = omega (arith, long, length-take-le part.count (drop part.first image) (omega (arith, is.inside, length-drop part.first image)))

    run-is : run_of image part.first device.size ≡ device.image
    run-is = ap (λ (n : ℕ). run_of image part.first n) size-is ∙ is.holds

    pub part-held : NamedHolds c images name device
    part-held =
        let leaf_sector : ℕ → Outcome = λ t. Ok (get_or image t zero_sector) in
        span_same (named_sector c images name) leaf_sector 0 part.first device.size
        (λ j below. ap (λ (x : Said). x.means images) (ap (said_by_name c name) (let at : 0 + j ≡ j = omega arith in at) ∙ sector-is j (omega (arith, below, size-is))))
        ∙ span_image leaf_sector image part.first device.size (λ s. refl) (omega (arith, is.inside, size-is))
        ∙ ap (λ (i : List (List ℕ)). Ok (concat i)) run-is

pub linear-parts : {D : Type 0} (state : D → Device) → ((dev : D) → IsWhole (state dev)) → LinearPartsHold state
linear-parts state whole c loaded images name part device is = part-held c loaded images name part (state device) is (whole device)
