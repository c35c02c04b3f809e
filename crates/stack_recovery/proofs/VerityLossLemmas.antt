-- Lost sectors of a verity line.
use Rattle.std.proofs.Common.{◌≡◌, ℕ, ◌+◌, ◌-◌, ◌/◌, ◌<◌, ◌≤◌, List, Ok, Err, sym, ap, ◌∙◌, arith}
use Rattle.dm_table.specs.declared.table.Target.{Target}
use Rattle.dm_table.specs.declared.table.Target.TheVariants.{Verity as verity_target}
use Rattle.stack_rules.specs.Names.{mapped}
use Rattle.stack_rules.specs.Trees.{block_sectors}
use Rattle.stack_meaning.specs.Kept.{verity_block}
use Rattle.stack_meaning.specs.Meaning.{Said, content_part, line_said, said_by_name, sector}
use Rattle.stack_meaning.specs.declared.fault.Fault.{Fault}
use Rattle.stack_meaning.specs.Outcomes.{Outcome, then_outcome}
use Rattle.stack_meaning.proofs.lemmas.EachLineLemmas.{line_at-end}
use Rattle.stack_meaning.proofs.lemmas.LineLemmas.{line-start}
use Rattle.stack_meaning.proofs.lemmas.SectorLemmas.{said_at-line}
use Rattle.stack_recovery.specs.Laws.{LostBlocksAreLost}

fault-from : (x : Outcome) (f : List ℕ → List ℕ) (fault : Fault) → then_outcome x (λ b. Ok (f b)) ≡ Err fault → x ≡ Err fault
fault-from (Ok b) f fault e = let clash : Ok (f b) ≡ Err fault = e in cc
fault-from (Err other) f fault e = e

fault-to : (x : Outcome) (f : List ℕ → List ℕ) (fault : Fault) → x ≡ Err fault → then_outcome x (λ b. Ok (f b)) ≡ Err fault
fault-to x f fault e = ap (λ (y : Outcome). then_outcome y (λ b. Ok (f b))) e

pub blocks-lost : LostBlocksAreLost
blocks-lost c loaded images d s l line v lies fault =
    let start : line.start ≤ s = line-start c d s (l, line) loaded.valid lies.found in
    let end : s < line.start + line.length = line_at-end c d s (l, line) lies.found in
    let w : ℕ = s - line.start in
    let here : s ≡ s + 0 = omega arith in
    let within : s - line.start + 0 ≡ s - line.start = omega arith in
    let is : sector c images (mapped d) s ≡ then_outcome (verity_block c images v (w / block_sectors v)) (λ b. Ok (content_part v w b)) =
    ap (sector c images (mapped d)) here
    ∙ ap (λ (x : Said). x.means images) (said_at-line c loaded.valid d s 0 l line lies.found start (omega (arith, end)))
    ∙ ap (λ (t : Target). (line_said (said_by_name c) d l t (s - line.start + 0)).means images) lies.has
    ∙ ap (λ (k : ℕ). (line_said (said_by_name c) d l (verity_target v) k).means images) within in
    (λ e. fault-from (verity_block c images v (w / block_sectors v)) (content_part v w) fault (sym is ∙ e), λ e. is ∙ fault-to (verity_block c images v (w / block_sectors v)) (content_part v w) fault e)
