-- Sectors of a line that are lost together.
use Rattle.std.proofs.Common.{◌≡◌, ℕ, ◌+◌, ◌-◌, ◌/◌, ◌<◌, ◌≤◌, List, Some, Ok, Err, sym, ap, ◌∙◌, subst, arith}
use Rattle.dm_table.specs.declared.table.Line.{Line}
use Rattle.dm_table.specs.declared.table.Target.{Target}
use Rattle.dm_table.specs.declared.table.Target.TheVariants.{Error, Verity as verity_target}
use Rattle.stack_rules.specs.Lines.{line_at}
use Rattle.stack_rules.specs.Names.{mapped}
use Rattle.stack_rules.specs.Records.{Configuration}
use Rattle.stack_rules.specs.Rules.{IsLoaded}
use Rattle.stack_rules.specs.Trees.{block_sectors}
use Rattle.stack_meaning.specs.Beneath.{below as lower_said}
use Rattle.stack_meaning.specs.Blocks.{verified_block}
use Rattle.stack_meaning.specs.Meaning.{Said, content_part, line_said, none_said, said_by_name, sector}
use Rattle.stack_meaning.specs.declared.fault.Fault.{Fault}
use Rattle.stack_meaning.specs.Outcomes.{Images, Outcome, then_outcome}
use Rattle.stack_meaning.specs.targets.Verity.{sources_over}
use Rattle.stack_engine.proofs.lemmas.BlockLemmas.{same_block}
use Rattle.stack_meaning.proofs.lemmas.SectorLemmas.{said_at-line}
use Rattle.stack_recovery.specs.Alike.{AreAlike, AreLostTogether}

-- what a block's fault is, whichever of its sectors is asked for
fault-through : (x : Outcome) (f g : List ℕ → List ℕ) (fault : Fault) → then_outcome x (λ b. Ok (f b)) ≡ Err fault → then_outcome x (λ b. Ok (g b)) ≡ Err fault
fault-through (Ok b) f g fault e = let clash : Ok (f b) ≡ Err fault = e in cc
fault-through (Err other) f g fault e = e

module _ (at : List ℕ → ℕ → Said) (d l w n : ℕ) (images : Images) (fault : Fault) (j k : ℕ) (low : j < n) (below : k < n) where
  one : (target : Target) → n ≤ 1 → (line_said at d l target (w + j)).means images ≡ Err fault → (line_said at d l target (w + k)).means images ≡ Err fault
  one target few e = let same : w + j ≡ w + k = omega (arith, few, low, below) in subst (λ (s : ℕ). (line_said at d l target s).means images ≡ Err fault) same e

  pub lost-together : (target : Target) → AreLostTogether target w n → (line_said at d l target (w + j)).means images ≡ Err fault → (line_said at d l target (w + k)).means images ≡ Err fault
  lost-together Error few e = e
  lost-together (verity_target v) few e =
      let first : (w + j) / block_sectors v ≡ w / block_sectors v = same_block (block_sectors v) w j (omega (arith, few, low)) in
      let second : (w + k) / block_sectors v ≡ w / block_sectors v = same_block (block_sectors v) w k (omega (arith, few, below)) in
      let same : (w + j) / block_sectors v ≡ (w + k) / block_sectors v = first ∙ sym second in
      let block : ℕ → Outcome = λ i. verified_block v (sources_over (lower_said none_said at (verity_target v)) images) i in
      fault-through (block ((w + k) / block_sectors v)) (content_part v (w + j)) (content_part v (w + k)) fault
      (subst (λ (i : ℕ). then_outcome (block i) (λ b. Ok (content_part v (w + j) b)) ≡ Err fault) same e)
  lost-together target few e = one target few e

-- sectors of a device that lie in one line
pub alike-at : (c : Configuration) → IsLoaded c → (d s n l : ℕ) (line : Line) → line_at c d s ≡ Some (l, line) → line.start ≤ s → s + n ≤ line.start + line.length
    → AreLostTogether line.target (s - line.start) n → AreAlike c d s n
alike-at c loaded d s n l line found start inside together = record {
  number = l;
  line = line;
  is = found;
  inside = inside;
  together = together;
  means = λ images fault j k low below e.
      let at : (m : ℕ) → m < n → sector c images (mapped d) (s + m) ≡ (line_said (said_by_name c) d l line.target (s - line.start + m)).means images =
      λ m h. ap (λ (x : Said). x.means images) (said_at-line c loaded.valid d s m l line found start (omega (arith, inside, h))) in
      at k below ∙ lost-together (said_by_name c) d l (s - line.start) n images fault j k low below line.target together (sym (at j low) ∙ e);
}

pub fewer-together : (target : Target) (w m n : ℕ) → m ≤ n → AreLostTogether target w n → AreLostTogether target w m
fewer-together Error w m n le h = tt
fewer-together (verity_target v) w m n le h = omega (arith, le, h)
fewer-together target w m n le h = omega (arith, le, h)
