-- The law of what the passes without a map file report, over leaves that are steady and never fail.
use Rattle.std.proofs.Common.{◌≡◌, ◌⊎◌, ℕ, zero, suc, eqb, ◌+◌, ◌<◌, Bool, true, false, List, [], ◌∷◌, ◌++◌, length, get_or, Some, None, refl, sym, ap, ◌∙◌, subst, inl, inr, arith}
use Rattle.std.proofs.lemmas.Bool.{cond-false, false≢true, ne_eqb}
use Rattle.std.proofs.lemmas.List.{ext_get_or, get_or-replicate}
use Rattle.block_device.specs.Device.{Device}
use Rattle.image_files.specs.Opener.{Opener}
use Rattle.rescue_map.specs.declared.map.Run.{Run}
use Rattle.rescue_map.specs.declared.status.Status.{Status}
use Rattle.rescue_map.specs.declared.status.Status.TheVariants.{Bad, Recovered, Unscraped, Untried, Untrimmed}
use Rattle.rescue_map.specs.Maps.{marks}
use Rattle.rescue_map.specs.Stages.{statuses}
use Rattle.rescue_map.specs.Statuses.{is_same}
use Rattle.rescue_map.proofs.lemmas.RunLemmas.{statuses-length}
use Rattle.runs.specs.Runs.{runs_of}
use Rattle.stack_rules.specs.Names.{mapped, size}
use Rattle.stack_meaning.specs.declared.fault.IoFault.{IoFault}
use Rattle.stack_meaning.specs.Leaves.{steady_images}
use Rattle.stack_meaning.specs.Meaning.{sector}
use Rattle.stack_meaning.specs.Outcomes.{Outcome}
use Rattle.stack_engine.specs.Stacks.{StackRecord}
use Rattle.stack_recovery.specs.declared.lost_run.Loss.TheVariants.{Lost}
use Rattle.stack_recovery.specs.Joins.{joined_state, joined_states, or_before, state_in}
use Rattle.stack_recovery.specs.Laws.{meant_states}
use Rattle.stack_recovery.specs.LostRuns.{LostRun, is_same_loss}
use Rattle.stack_recovery.specs.declared.recovery.Counts.{Counts}
use Rattle.stack_recovery.specs.Listings.{Listed}
use Rattle.stack_recovery.specs.Recoveries.{Sides}
use Rattle.stack_recovery.specs.Surveys.{SectorState}
use Rattle.stack_recovery.proofs.lemmas.JoinLemmas.{state-runs}
use Rattle.stack_recovery.proofs.lemmas.CopiedMeantLemmas.{meant_at}
use Rattle.stack_recovery.proofs.lemmas.MeantLemmas.{IsLeft, left-state, meant-get, same-left, then-left}
use Rattle.scan_commands.specs.declared.phase.Phase.{Phase}
use Rattle.scan_commands.specs.declared.phase.Phase.TheVariants.{Retry, Scrape, Skim, Sweep, Trim}
use Rattle.scan_commands.specs.Laws.{StatesAreMeant}
use Rattle.scan_commands.specs.PassesInTurns.{AfterTurns, IsSilentPass, IsSilentTurns, KeepsTurns, ReportsLast, after_turns, nothing, pass_from, phase_after}
use Rattle.scan_commands.specs.Retries.{Steps, no_step, one_more, scan_of}
use Rattle.scan_commands.specs.Turns.{Kept, kept}
use Rattle.scan_commands.proofs.FoundRunLemmas.{size-turns}
use Rattle.scan_commands.proofs.LawLemmas.{kept-size, silent-size}
use Rattle.scan_commands.proofs.LostSectorLemmas.{joined-at}
use Rattle.scan_commands.proofs.MapFileLemmas.{unread-size}
use Rattle.scan_commands.proofs.TurnLemmas.{is_large}
use Rattle.scan_commands.proofs.MeantPassLemmas.{large-pass, pass-left, single-pass}
use Rattle.scan_commands.proofs.MeantTurnLemmas.{LargeStep, SingleStep, large_failed, large_had, large_left, large_other, single_had, single_lost, single_other, single_unscraped}

-- ---- the status of a sector after each pass

abbrev IsHad : Status → SectorState → Type 0
IsHad status meant = (status ≡ Recovered) × (meant ≡ None)

abbrev AfterSkim : Status → SectorState → Type 0
AfterSkim status meant = (status ≡ Untried) ⊎ ((status ≡ Untrimmed) ⊎ IsHad status meant)

abbrev AfterSweep : Status → SectorState → Type 0
AfterSweep status meant = (status ≡ Untrimmed) ⊎ IsHad status meant

-- the pass that trims found some lost
abbrev IsKnown : Status → SectorState → SectorState → Type 0
IsKnown status meant known = (fault : IoFault) × (status ≡ Bad) × (meant ≡ Some (Lost fault)) × (known ≡ Some (Lost fault))

abbrev AfterTrim : Status → SectorState → SectorState → Type 0
AfterTrim status meant known = (status ≡ Unscraped) ⊎ (IsKnown status meant known ⊎ IsHad status meant)

abbrev AfterScrape : Status → SectorState → Type 0
AfterScrape status meant = (status ≡ Bad) ⊎ IsHad status meant

-- and after so many more passes
abbrev AfterSteps : ℕ → Status → SectorState → SectorState → Type 0
AfterSteps zero status meant known = AfterTrim status meant known
AfterSteps (suc n) status meant known = AfterScrape status meant

-- a pass reads each sector of the status that it takes
taken-read : (before takes : Status) → is_same takes takes ≡ true → is_same before takes ≡ false → before ≡ takes → ⊥
taken-read before takes itself other is = false≢true (sym other ∙ ap (λ (x : Status). is_same x takes) is ∙ itself)

skim-step : (before after : Status) (meant : SectorState) → before ≡ Untried → LargeStep Skim before after meant → AfterSkim after meant
skim-step before after meant is (large_other other same) = absurd (taken-read before Untried refl other is)
skim-step before after meant is (large_had a b) = inr (inr (a, b))
skim-step before after meant is (large_failed a) = inr (inl a)
skim-step before after meant is (large_left skims a) = inl a

sweep-step : (before after : Status) (meant : SectorState) → AfterSkim before meant → LargeStep Sweep before after meant → AfterSweep after meant
sweep-step before after meant (inl is) (large_other other same) = absurd (taken-read before Untried refl other is)
sweep-step before after meant (inr (inl is)) (large_other other same) = inl (same ∙ is)
sweep-step before after meant (inr (inr is)) (large_other other same) = inr (same ∙ is.0, is.1)
sweep-step before after meant was (large_had a b) = inr (a, b)
sweep-step before after meant was (large_failed a) = inl a
sweep-step before after meant was (large_left skims a) = let clash : Sweep ≡ Skim = skims in cc

trim-step : (before after : Status) (meant found : SectorState) → AfterSweep before meant → SingleStep Trim before after meant found → AfterTrim after meant found
trim-step before after meant found (inl is) (single_other other same none) = absurd (taken-read before Untrimmed refl other is)
trim-step before after meant found (inr is) (single_other other same none) = inr (inr (same ∙ is.0, is.1))
trim-step before after meant found was (single_had a b c) = inr (inr (a, b))
trim-step before after meant found was (single_lost fault a b c) = inr (inl (fault, a, b, c))
trim-step before after meant found was (single_unscraped trims a) = inl a

scrape-step : (before after : Status) (meant known found : SectorState) → AfterTrim before meant known → SingleStep Scrape before after meant found → AfterScrape after meant
scrape-step before after meant known found (inl is) (single_other other same none) = absurd (taken-read before Unscraped refl other is)
scrape-step before after meant known found (inr (inl is)) (single_other other same none) = inl (same ∙ is.1)
scrape-step before after meant known found (inr (inr is)) (single_other other same none) = inr (same ∙ is.0, is.1)
scrape-step before after meant known found was (single_had a b c) = inr (a, b)
scrape-step before after meant known found was (single_lost fault a b c) = inl a
scrape-step before after meant known found was (single_unscraped trims a) = absurd (false≢true trims)

retry-step : (before after : Status) (meant found : SectorState) → AfterScrape before meant → SingleStep Retry before after meant found → AfterScrape after meant
retry-step before after meant found (inl is) (single_other other same none) = absurd (taken-read before Bad refl other is)
retry-step before after meant found (inr is) (single_other other same none) = inr (same ∙ is.0, is.1)
retry-step before after meant found was (single_had a b c) = inr (a, b)
retry-step before after meant found was (single_lost fault a b c) = inl a
retry-step before after meant found was (single_unscraped trims a) = absurd (false≢true trims)

-- ---- what is reported after the last pass

joined-had : (after : Status) (meant known found : SectorState) → after ≡ Recovered → meant ≡ None → found ≡ None → or_before after known found ≡ meant
joined-had after meant known found a b c = ap (λ (x : Status). or_before x known found) a ∙ ap (λ (x : SectorState). or_before Recovered known x) c ∙ sym b

joined-lost : (after : Status) (meant known found : SectorState) (fault : IoFault) → after ≡ Bad → meant ≡ Some (Lost fault) → found ≡ Some (Lost fault) → or_before after known found ≡ meant
joined-lost after meant known found fault a b c = ap (λ (x : Status). or_before x known found) a ∙ ap (λ (x : SectorState). or_before Bad known x) c ∙ sym b

joined-known : (after : Status) (meant known found : SectorState) (fault : IoFault) → after ≡ Bad → meant ≡ Some (Lost fault) → known ≡ Some (Lost fault) → found ≡ None → or_before after known found ≡ meant
joined-known after meant known found fault a b kept c =
    ap (λ (x : Status). or_before x known found) a ∙ ap (λ (x : SectorState). or_before Bad x found) kept ∙ ap (λ (x : SectorState). or_before Bad (Some (Lost fault)) x) c ∙ sym b

last-scrape : (before after : Status) (meant known found : SectorState) → AfterTrim before meant known → SingleStep Scrape before after meant found → or_before after known found ≡ meant
last-scrape before after meant known found (inl is) (single_other other same none) = absurd (taken-read before Unscraped refl other is)
last-scrape before after meant known found (inr (inl is)) (single_other other same none) = joined-known after meant known found is.0 (same ∙ is.1) is.2 is.3 none
last-scrape before after meant known found (inr (inr is)) (single_other other same none) = joined-had after meant known found (same ∙ is.0) is.1 none
last-scrape before after meant known found was (single_had a b c) = joined-had after meant known found a b c
last-scrape before after meant known found was (single_lost fault a b c) = joined-lost after meant known found fault a b c
last-scrape before after meant known found was (single_unscraped trims a) = absurd (false≢true trims)

last-retry : (before after : Status) (meant known found : SectorState) → AfterScrape before meant → SingleStep Retry before after meant found → or_before after known found ≡ meant
last-retry before after meant known found (inl is) (single_other other same none) = absurd (taken-read before Bad refl other is)
last-retry before after meant known found (inr is) (single_other other same none) = joined-had after meant known found (same ∙ is.0) is.1 none
last-retry before after meant known found was (single_had a b c) = joined-had after meant known found a b c
last-retry before after meant known found was (single_lost fault a b c) = joined-lost after meant known found fault a b c
last-retry before after meant known found was (single_unscraped trims a) = absurd (false≢true trims)

-- ---- the passes, one after another

phase-first : (no_scrape : Bool) → no_scrape ≡ false → phase_after no_scrape 0 ≡ Scrape
phase-first no_scrape e = ap (λ (b : Bool). phase_after b 0) e

phase-later : (no_scrape : Bool) (n : ℕ) → phase_after no_scrape (suc n) ≡ Retry
phase-later no_scrape n = cond-false (eqb (suc n) 0) _ Retry (ne_eqb (suc n) 0 (λ h. omega (arith, h)))

step-after : (no_scrape : Bool) (n : ℕ) (before after : Status) (meant known found : SectorState) → no_scrape ≡ false → AfterSteps n before meant known → SingleStep (phase_after no_scrape n) before after meant found → AfterScrape after meant
step-after no_scrape zero before after meant known found scrapes was step =
    scrape-step before after meant known found was (subst (λ (p : Phase). SingleStep p before after meant found) (phase-first no_scrape scrapes) step)
step-after no_scrape (suc n) before after meant known found scrapes was step = retry-step before after meant found was (subst (λ (p : Phase). SingleStep p before after meant found) (phase-later no_scrape n) step)

last-after : (no_scrape : Bool) (n : ℕ) (before after : Status) (meant known found : SectorState) → no_scrape ≡ false → AfterSteps n before meant known → SingleStep (phase_after no_scrape n) before after meant found → or_before after known found ≡ meant
last-after no_scrape zero before after meant known found scrapes was step =
    last-scrape before after meant known found was (subst (λ (p : Phase). SingleStep p before after meant found) (phase-first no_scrape scrapes) step)
last-after no_scrape (suc n) before after meant known found scrapes was step = last-retry before after meant known found was (subst (λ (p : Phase). SingleStep p before after meant found) (phase-later no_scrape n) step)

single-after : (no_scrape : Bool) (n : ℕ) → no_scrape ≡ false → is_large (phase_after no_scrape n) ≡ false
single-after no_scrape zero scrapes = ap is_large (phase-first no_scrape scrapes)
single-after no_scrape (suc n) scrapes = ap is_large (phase-later no_scrape n)

-- the status of a sector in a map
abbrev status_in : {S : Type 0} → AfterTurns S → ℕ → Status
status_in a s = get_or (statuses a.left.map) s Untried

module _ {S : Type 0} (k : Kept S) (w : StackRecord) (none : k.file ≡ None) (scrapes : k.scan.no_scrape ≡ false) where
  abbrev d : ℕ
  d = k.scan.d

  abbrev meant : ℕ → SectorState
  meant s = meant_at d w s

  -- the map is of all sectors, and the stack means the same
  record IsAfter (a : AfterTurns S) : Type 0 where
    all : length (marks a.left.map) ≡ k.sectors
    left : IsLeft d w a.left.stack

  silent-after : (phase : Phase) (old new : AfterTurns S) → IsSilentPass k phase old new → IsAfter old → IsAfter new
  silent-after phase old new p a = record {
    all = silent-size k phase old new p a.all;
    left = then-left d w old.left.stack new.left.stack a.left (pass-left k phase (pass_from phase k.sectors old p.0) _ none refl refl a.all a.left.sure p.2.2);
  }

  large-after : (phase : Phase) (old new : AfterTurns S) (p : IsSilentPass k phase old new) → is_large phase ≡ true → (phase ≡ Sweep → (pass_from phase k.sectors old p.0).skip ≡ 0) → IsAfter old → (s : ℕ) → s < k.sectors
      → LargeStep phase (status_in old s) (status_in new s) (meant s)
  large-after phase old new p large sweeps a s low =
      subst (λ (x : SectorState). LargeStep phase (status_in old s) (status_in new s) x) (left-state d w old.left.stack s a.left)
      (large-pass k phase (pass_from phase k.sectors old p.0) _ none refl refl a.all a.left.sure large sweeps p.2.2 s low)

  -- a pass by single sectors that reports nothing
  single-silent : (n : ℕ) (old new : AfterTurns S) (p : IsSilentTurns k n old new) → IsAfter old → (s : ℕ) → s < k.sectors → (known : SectorState) → AfterSteps n (status_in old s) (meant s) known → AfterScrape (status_in new s) (meant s)
  single-silent n old new p a s low known was =
      let phase = phase_after k.scan.no_scrape n in
      let f = single-pass k phase (pass_from phase k.sectors old p.0) _ none refl refl a.all a.left.sure (single-after k.scan.no_scrape n scrapes) p.2.2 in
      let found = get_or f.states s None in
      step-after k.scan.no_scrape n (status_in old s) (status_in new s) (meant s) known found scrapes was
      (subst (λ (x : SectorState). SingleStep phase (status_in old s) (status_in new s) x found) (left-state d w old.left.stack s a.left) (f.each s low))

  -- so many of these
  steps-after : (old : AfterTurns S) → IsAfter old → {n : ℕ} {new : AfterTurns S} → Steps (IsSilentTurns k) old n new → IsAfter new
  steps-after old a no_step = a
  steps-after old a (one_more {n} {now} {next} steps step) = silent-after (phase_after k.scan.no_scrape n) now next step (steps-after old a steps)

  steps-each : (old : AfterTurns S) → IsAfter old → (s : ℕ) → s < k.sectors → (known : SectorState) → AfterTrim (status_in old s) (meant s) known → {n : ℕ} {new : AfterTurns S} → Steps (IsSilentTurns k) old n new → AfterSteps n (status_in new s) (meant s) known
  steps-each old a s low known was no_step = was
  steps-each old a s low known was (one_more {n} {now} {next} steps step) = single-silent n now next step (steps-after old a steps) s low known (steps-each old a s low known was steps)

  -- the state of a sector by the runs that a pass kept
  kept-state : (states : List SectorState) (found : List LostRun) → found ≡ [] ++ runs_of is_same_loss 0 states → (s : ℕ) → state_in found s ≡ get_or states s None
  kept-state states found is s = let here : s ≡ 0 + s = omega arith in ap (λ (l : List LostRun). state_in l s) is ∙ ap (state_in (runs_of is_same_loss 0 states)) here ∙ state-runs 0 states s

  -- the pass that trims
  trim-after : (old new : AfterTurns S) (known : List LostRun) → KeepsTurns k Trim old new known → IsAfter old → IsAfter new
  trim-after old new known p a = record {
    all = kept-size k Trim old new known p a.all;
    left = then-left d w old.left.stack new.left.stack a.left (pass-left k Trim (pass_from Trim k.sectors old nothing) _ none refl refl a.all a.left.sure p.reads.2);
  }

  trim-each : (old new : AfterTurns S) (known : List LostRun) → KeepsTurns k Trim old new known → IsAfter old → (s : ℕ) → s < k.sectors → AfterSweep (status_in old s) (meant s) → AfterTrim (status_in new s) (meant s) (state_in known s)
  trim-each old new known p a s low was =
      let f = single-pass k Trim (pass_from Trim k.sectors old nothing) _ none refl refl a.all a.left.sure refl p.reads.2 in
      let found = get_or f.states s None in
      let made : Status = get_or (statuses p.made) s Untried in
      let same : status_in new s ≡ made = ap (λ (l : List Run). get_or (statuses l) s Untried) p.map in
      let step = subst (λ (x : SectorState). SingleStep Trim (status_in old s) made x found) (left-state d w old.left.stack s a.left) (f.each s low) in
      subst (λ (x : SectorState). AfterTrim (status_in new s) (meant s) x) (sym (kept-state f.states known (f.told refl) s))
      (subst (λ (x : Status). AfterTrim x (meant s) found) (sym same) (trim-step (status_in old s) made (meant s) found was step))

  -- the last pass
  last-size : (passes : ℕ) (known : List LostRun) (old : AfterTurns S) (printed : Listed) (images : S) (new : Sides) (counts : Counts) (r : ReportsLast k (phase_after k.scan.no_scrape passes) known old printed images new counts)
      → IsAfter old → length (marks r.made) ≡ k.sectors
  last-size passes known old printed images new counts r a = let phase = phase_after k.scan.no_scrape passes in size-turns k phase (pass_from phase k.sectors old nothing) r.reads.2 a.all

  last-each : (passes : ℕ) (known : List LostRun) (old : AfterTurns S) (printed : Listed) (images : S) (new : Sides) (counts : Counts) (r : ReportsLast k (phase_after k.scan.no_scrape passes) known old printed images new counts)
      → IsAfter old → (s : ℕ) → s < k.sectors → AfterSteps passes (status_in old s) (meant s) (state_in known s) → joined_state (get_or (statuses r.made) s Untried) known r.found s ≡ meant s
  last-each passes known old printed images new counts r a s low was =
      let phase = phase_after k.scan.no_scrape passes in
      let f = single-pass k phase (pass_from phase k.sectors old nothing) _ none refl refl a.all a.left.sure (single-after k.scan.no_scrape passes scrapes) r.reads.2 in
      let found = get_or f.states s None in
      let made : Status = get_or (statuses r.made) s Untried in
      let step = subst (λ (x : SectorState). SingleStep phase (status_in old s) made x found) (left-state d w old.left.stack s a.left) (f.each s low) in
      ap (or_before made (state_in known s)) (kept-state f.states r.found (f.told refl) s) ∙ last-after k.scan.no_scrape passes (status_in old s) made (meant s) (state_in known s) found scrapes was step

-- ---- the law

joined-length : (at : ℕ) (states : List Status) (known found : List LostRun) → length (joined_states at states known found) ≡ length states
joined-length at [] known found = refl
joined-length at (x ∷ states) known found = ap suc (joined-length (suc at) states known found)

meant-length : (at : ℕ → Outcome) (first n : ℕ) → length (meant_states at first n) ≡ n
meant-length at first zero = refl
meant-length at first (suc n) = ap suc (meant-length at (suc first) n)

pub states-meant : {S D : Type 0} (relations : Opener S D) (state : D → Device) → StatesAreMeant relations state
states-meant relations state old new t m counts r scrapes sure =
    let sectors : ℕ = size m.old.stack.config (mapped t.d) in
    let k = kept relations.replaces None (scan_of t) sectors in
    let w : StackRecord = m.old.stack in
    let at : ℕ → Outcome = sector w.config (steady_images w.leaves) (mapped t.d) in
    let rescued = r.rescued in
    let first = after_turns r.between w m.old.out r.found.map in
    let begun : IsAfter k w refl scrapes first = record { all = unread-size sectors r.found r.read.1; left = same-left t.d w w refl sure } in
    let skimmed = silent-after k w refl scrapes Skim first rescued.large.between rescued.large.skims begun in
    let swept = silent-after k w refl scrapes Sweep rescued.large.between rescued.swept rescued.large.sweeps skimmed in
    let trimmed = trim-after k w refl scrapes rescued.swept rescued.between rescued.known rescued.trims swept in
    let left = steps-after k w refl scrapes rescued.between trimmed rescued.again.0 in
    let made = rescued.last.made in
    let all : length (statuses made) ≡ sectors = statuses-length made ∙ last-size k w refl scrapes rescued.passes rescued.known rescued.left m.old.printed new m.new counts rescued.last left in
    ext_get_or None (joined_states 0 (statuses made) rescued.known rescued.last.found) (meant_states at 0 sectors)
    (joined-length 0 (statuses made) rescued.known rescued.last.found ∙ all ∙ sym (meant-length at 0 sectors))
    (λ s low.
    let few : s < sectors = omega (arith, low, joined-length 0 (statuses made) rescued.known rescued.last.found, all) in
    let here : 0 + s ≡ s = omega arith in
    let unread : status_in first s ≡ Untried = ap (λ (l : List Status). get_or l s Untried) r.read.1.0 ∙ get_or-replicate sectors s Untried Untried few in
    let one = skim-step (status_in first s) (status_in rescued.large.between s) (meant_at t.d w s) unread (large-after k w refl scrapes Skim first rescued.large.between rescued.large.skims refl (λ e. let clash : Skim ≡ Sweep = e in cc) begun s few) in
    let two = sweep-step (status_in rescued.large.between s) (status_in rescued.swept s) (meant_at t.d w s) one (large-after k w refl scrapes Sweep rescued.large.between rescued.swept rescued.large.sweeps refl (λ e. refl) skimmed s few) in
    let three = trim-each k w refl scrapes rescued.swept rescued.between rescued.known rescued.trims swept s few two in
    let four = steps-each k w refl scrapes rescued.between trimmed s few (state_in rescued.known s) three rescued.again.0 in
    joined-at 0 (statuses made) rescued.known rescued.last.found s (omega (arith, few, all)) ∙ ap (joined_state (get_or (statuses made) s Untried) rescued.known rescued.last.found) here
    ∙ last-each k w refl scrapes rescued.passes rescued.known rescued.left m.old.printed new m.new counts rescued.last left s few four
    ∙ sym (meant-get at 0 sectors s few ∙ ap (λ (n : ℕ). meant_at t.d w n) here))
