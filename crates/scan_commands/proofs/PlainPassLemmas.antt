-- The law that passes without a map file don't call the opener.
use Rattle.std.proofs.Common.{◌≡◌, ◌⊎◌, ℕ, List, Option, None, refl, ap, ◌∙◌, subst, inl, inr}
use Rattle.block_device.specs.Device.{Device}
use Rattle.image_files.specs.Opener.{Opener, calls}
use Rattle.stack_engine.specs.Stacks.{StackRecord}
use Rattle.stack_recovery.specs.declared.recovery.Counts.{Counts}
use Rattle.stack_recovery.specs.Listings.{Listed}
use Rattle.stack_recovery.specs.LostRuns.{LostRun}
use Rattle.stack_recovery.specs.Recoveries.{Sides}
use Rattle.scan_commands.specs.MapFiles.{MapPathRecord}
use Rattle.scan_commands.specs.declared.phase.Phase.{Phase}
use Rattle.scan_commands.specs.declared.phase.Phase.TheVariants.{Skim, Sweep, Trim}
use Rattle.scan_commands.specs.declared.rescue_fault.PassFault.{PassFault}
use Rattle.scan_commands.specs.declared.rescue_fault.PassFault.TheVariants.{NoMap, NoMemory, Output, TooLong, Unread, Unwritten}
use Rattle.scan_commands.specs.Passes.{Moving, Passes, StopsPass}
use Rattle.scan_commands.specs.PassesInTurns.{AfterTurns, EndsAfterTrims, EndsLast, EndsLastTurns, EndsLaterTurns, EndsRetries, EndsSilently, EndsSweeping, IsSilentPass, IsSilentTurns, IsTurnsEnd, KeepsTurns, SweepsInTurns, nothing, pass_from, phase_after}
use Rattle.scan_commands.specs.Retries.{Retried, Steps, no_step, one_more}
use Rattle.scan_commands.specs.Turns.{IsTurn, Kept, KeepsMap, Progressed, Turns, begins, goes_on, passes}
use Rattle.scan_commands.specs.TurnEnds.{IsFileUnreplaced, IsPassTurnsEnd, StopsIn}

module _ {S : Type 0} (k : Kept S) (none : k.file ≡ None) where
  turn-plain : (phase : Phase) (old new : Progressed S) → IsTurn k phase old new → new.images ≡ old.images
  turn-plain phase old new t = subst (λ (f : Option MapPathRecord). KeepsMap k.replaces f k.scan.no_scrape new.runs old.images new.images) none t.written

  turns-plain : (phase : Phase) (first : Progressed S) {now : Progressed S} → Turns k phase first now → now.images ≡ first.images
  turns-plain phase first begins = refl
  turns-plain phase first (goes_on {now = old} {next = new} turns t) = turn-plain phase old new t ∙ turns-plain phase first turns
  turns-plain phase first (passes turns t) = ap (λ (x : Progressed S). x.images) t.same ∙ turns-plain phase first turns

  silent-plain : (phase : Phase) (old new : AfterTurns S) → IsSilentPass k phase old new → new.images ≡ old.images
  silent-plain phase old new p = turns-plain phase (pass_from phase k.sectors old p.0) p.2.2

  sweeps-plain : (old new : AfterTurns S) → SweepsInTurns k old new → new.images ≡ old.images
  sweeps-plain old new p = silent-plain Sweep p.between new p.sweeps ∙ silent-plain Skim old p.between p.skims

  kept-plain : (phase : Phase) (old new : AfterTurns S) (found : List LostRun) → KeepsTurns k phase old new found → new.images ≡ old.images
  kept-plain phase old new found p = turns-plain phase (pass_from phase k.sectors old nothing) p.reads.2

  steps-plain : (old : AfterTurns S) {n : ℕ} {new : AfterTurns S} → Steps (IsSilentTurns k) old n new → new.images ≡ old.images
  steps-plain old no_step = refl
  steps-plain old (one_more {n} {now} {next} steps step) = silent-plain (phase_after k.scan.no_scrape n) now next step ∙ steps-plain old steps

  -- ---- a pass that ended early

  stop-plain : (phase : Phase) (now : Progressed S) (images : S) (new : Sides) (fault : PassFault) → StopsIn k phase now images new fault → images ≡ now.images
  stop-plain phase now images new NoMemory p = p.0
  stop-plain phase now images new Output p = p.0
  stop-plain phase now images new (Unwritten fault) p = absurd (subst (λ (f : Option MapPathRecord). IsFileUnreplaced k.replaces f now.images fault images) none p.0)
  stop-plain phase now images new (Unread fault) p = absurd p
  stop-plain phase now images new TooLong p = absurd p
  stop-plain phase now images new (NoMap fault) p = absurd p

  end-plain : (phase : Phase) (first : Progressed S) (images : S) (new : Sides) (fault : PassFault) → IsPassTurnsEnd k phase first images new fault → images ≡ first.images
  end-plain phase first images new fault p = stop-plain phase p.now images new fault p.stops ∙ turns-plain phase first p.turns

  silently-plain : (phase : Phase) (old : AfterTurns S) (images : S) (stack : StackRecord) (out : Device) (fault : PassFault) → EndsSilently k phase old images stack out fault → images ≡ old.images
  silently-plain phase old images stack out fault p = end-plain phase (pass_from phase k.sectors old p.0) images _ fault p.2

  sweeping-plain : (old : AfterTurns S) (images : S) (stack : StackRecord) (out : Device) (fault : PassFault) → EndsSweeping k old images stack out fault → images ≡ old.images
  sweeping-plain old images stack out fault (inl p) = silently-plain Skim old images stack out fault p
  sweeping-plain old images stack out fault (inr p) = silently-plain Sweep p.0 images stack out fault p.2 ∙ silent-plain Skim old p.0 p.1

  retries-plain : (retries : ℕ) (old : AfterTurns S) (images : S) (stack : StackRecord) (out : Device) (fault : PassFault) → EndsRetries k retries old images stack out fault → images ≡ old.images
  retries-plain retries old images stack out fault p = end-plain (phase_after k.scan.no_scrape p.passes) (pass_from (phase_after k.scan.no_scrape p.passes) k.sectors p.left p.before) images _ fault p.ends ∙ steps-plain old p.steps

  last-plain : (phase : Phase) (old : AfterTurns S) (images : S) (stack : StackRecord) (out : Device) (fault : PassFault) → EndsLast k phase old images stack out fault → images ≡ old.images
  last-plain phase old images stack out fault (inl p) = end-plain phase (pass_from phase k.sectors old nothing) images _ fault p.1
  last-plain phase old images stack out fault (inr p) = turns-plain phase (pass_from phase k.sectors old nothing) p.reads.2

  trimmed-plain : (retries : ℕ) (old : AfterTurns S) (images : S) (stack : StackRecord) (out : Device) (fault : PassFault) → EndsAfterTrims k retries old images stack out fault → images ≡ old.images
  trimmed-plain retries old images stack out fault p = later p.ends ∙ kept-plain Trim old p.between p.known p.trims
    where
      later : EndsRetries k retries p.between images stack out fault ⊎ EndsLastTurns k retries p.between images stack out fault → images ≡ p.between.images
      later (inl e) = retries-plain retries p.between images stack out fault e
      later (inr e) = last-plain (phase_after k.scan.no_scrape e.passes) e.left images stack out fault e.ends ∙ steps-plain p.between e.again.0

  later-plain : (retries : ℕ) (old : AfterTurns S) (printed : Listed) (images : S) (new : Sides) (fault : PassFault) → EndsLaterTurns k retries old printed images new fault → images ≡ old.images
  later-plain retries old printed images new fault (inl p, same) = last-plain Trim old images new.stack new.out fault p
  later-plain retries old printed images new fault (inr p, same) = trimmed-plain retries old images new.stack new.out fault p

  turns-end-plain : (retries : ℕ) (old : AfterTurns S) (printed : Listed) (images : S) (new : Sides) (fault : PassFault) → IsTurnsEnd k retries old printed images new fault → images ≡ old.images
  turns-end-plain retries old printed images new fault (inl p) = sweeping-plain old images new.stack new.out fault p.0
  turns-end-plain retries old printed images new fault (inr p) = later-plain retries p.between printed images new fault p.later ∙ sweeps-plain old p.between p.large

-- ---- the law

pub plain-passed : {S D : Type 0} (relations : Opener S D) (state : D → Device) (old new : S) (t : Retried) (m : Moving) (counts : Counts) → Passes (calls relations state old new) None t m counts → new ≡ old
plain-passed relations state old new t m counts p =
    let r = p.rescued in
    turns-plain _ refl _ _ r.last.reads.2 ∙ steps-plain _ refl r.between r.again.0 ∙ kept-plain _ refl Trim r.swept r.between r.known r.trims ∙ sweeps-plain _ refl _ r.swept r.large ∙ p.read.0

pub plain-ended : {S D : Type 0} (relations : Opener S D) (state : D → Device) (old new : S) (t : Retried) (m : Moving) (fault : PassFault) → StopsPass (calls relations state old new) None t m fault → new ≡ old
plain-ended relations state old new t m fault (inl p) = p.1.0
plain-ended relations state old new t m fault (inr p) = turns-end-plain _ refl t.retries _ m.old.printed new m.new fault p.ends ∙ p.read.0
