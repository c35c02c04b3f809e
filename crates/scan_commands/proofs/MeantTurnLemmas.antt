-- What a turn without a map file makes of each sector, over leaves that are steady and never fail.
use Rattle.std.proofs.Common.{◌≡◌, ℕ, ◌+◌, ◌-◌, ◌<◌, min, not, Bool, true, false, cond, List, length, get_or, Option, Some, None, refl, sym, ap, ◌∙◌, subst, arith}
use Rattle.std.proofs.lemmas.Bool.{cond-false, cond-true, false≢true}
use Rattle.std.proofs.lemmas.List.{get_or-map, length-map}
use Rattle.rescue_map.specs.declared.status.Status.{Status}
use Rattle.rescue_map.specs.declared.status.Status.TheVariants.{Bad, Recovered, Unscraped, Untried, Untrimmed}
use Rattle.rescue_map.specs.Maps.{losts, marks}
use Rattle.rescue_map.specs.Stages.{statuses}
use Rattle.rescue_map.specs.Statuses.{is_same}
use Rattle.rescue_map.specs.Steps.{status_after}
use Rattle.stack_rules.specs.Names.{mapped}
use Rattle.stack_meaning.specs.LeavesBeneath.{stands_on}
use Rattle.stack_meaning.specs.declared.fault.IoFault.{IoFault}
use Rattle.stack_engine.specs.Stacks.{StackRecord}
use Rattle.stack_recovery.specs.declared.lost_run.Loss.TheVariants.{Lost, Unscraped as LeftUnscraped}
use Rattle.stack_recovery.specs.declared.recovery.Counts.{Counts}
use Rattle.stack_recovery.specs.Laws.{AreSure}
use Rattle.stack_recovery.specs.PassPieces.{Scanned, pass_over}
use Rattle.stack_recovery.specs.Recoveries.{GoesOverTo, Sides, is_had, is_lost}
use Rattle.stack_recovery.specs.Skims.{AreSkims}
use Rattle.stack_recovery.specs.Surveys.{SectorState, all_states}
use Rattle.stack_recovery.specs.declared.way.Way.TheVariants.{Forward}
use Rattle.stack_recovery.proofs.lemmas.CopiedMeantLemmas.{IsMeantState, meant_at, survey-each}
use Rattle.stack_recovery.proofs.lemmas.MeantLemmas.{IsLeft, pass-unscraped, survey-left}
use Rattle.stack_recovery.proofs.lemmas.SkimMeantLemmas.{skims-known, unskipped-failed}
use Rattle.scan_commands.specs.MapFiles.{MapPathRecord}
use Rattle.scan_commands.specs.declared.phase.Phase.{Phase}
use Rattle.scan_commands.specs.declared.phase.Phase.TheVariants.{Retry, Scrape, Skim, Sweep, Trim}
use Rattle.scan_commands.specs.declared.turn_reads.ReadMap.{ReadMap}
use Rattle.scan_commands.specs.Turns.{IsTurn, IsUpTo, Kept, Progressed, ReadsSectors, asked_marks, is_trim, scan_from, scan_in, step_of, turn_len}
use Rattle.scan_commands.proofs.LostMarkLemmas.{survey-marked}
use Rattle.scan_commands.proofs.LostTurnLemmas.{asked-inside, status-new}
use Rattle.scan_commands.proofs.TurnLemmas.{is_large}

-- the leaves beneath it are steady and never fail
abbrev pub IsSure : ℕ → StackRecord → Type 0
IsSure d w = AreSure w.config (λ i. stands_on w.config i (mapped d)) w.leaves

-- ---- what a pass makes of a sector

-- a pass in large pieces, by its status before and afterwards, and what it means
pub data LargeStep (phase : Phase) (before after : Status) (meant : SectorState) : Type 0 where
  large_other : is_same before Untried ≡ false → after ≡ before → LargeStep phase before after meant
  large_had : after ≡ Recovered → meant ≡ None → LargeStep phase before after meant
  large_failed : after ≡ Untrimmed → LargeStep phase before after meant
  large_left : phase ≡ Skim → after ≡ Untried → LargeStep phase before after meant

-- a pass by single sectors, which found that state
pub data SingleStep (phase : Phase) (before after : Status) (meant found : SectorState) : Type 0 where
  single_other : is_same before (step_of phase).takes ≡ false → after ≡ before → found ≡ None → SingleStep phase before after meant found
  single_had : after ≡ Recovered → meant ≡ None → found ≡ None → SingleStep phase before after meant found
  single_lost : (fault : IoFault) → after ≡ Bad → meant ≡ Some (Lost fault) → found ≡ Some (Lost fault) → SingleStep phase before after meant found
  single_unscraped : is_trim phase ≡ true → after ≡ Unscraped → SingleStep phase before after meant found

pub large-takes : (phase : Phase) → is_large phase ≡ true → (step_of phase).takes ≡ Untried
large-takes Skim large = refl
large-takes Sweep large = refl
large-takes Trim large = absurd (false≢true large)
large-takes Scrape large = absurd (false≢true large)
large-takes Retry large = absurd (false≢true large)

large-fails : (phase : Phase) → is_large phase ≡ true → (step_of phase).failed ≡ Untrimmed
large-fails Skim large = refl
large-fails Sweep large = refl
large-fails Trim large = absurd (false≢true large)
large-fails Scrape large = absurd (false≢true large)
large-fails Retry large = absurd (false≢true large)

single-fails : (phase : Phase) → is_large phase ≡ false → (step_of phase).failed ≡ Bad
single-fails Skim single = absurd (false≢true (sym single))
single-fails Sweep single = absurd (false≢true (sym single))
single-fails Trim single = refl
single-fails Scrape single = refl
single-fails Retry single = refl

trim-leaves : (phase : Phase) → is_trim phase ≡ true → (step_of phase).left ≡ Unscraped
trim-leaves Skim trims = absurd (false≢true trims)
trim-leaves Sweep trims = absurd (false≢true trims)
trim-leaves Trim trims = refl
trim-leaves Scrape trims = absurd (false≢true trims)
trim-leaves Retry trims = absurd (false≢true trims)

-- ---- the sectors that a pass in large pieces reads

reads-left : (phase : Phase) (wanted : ℕ) (before : List Bool) (scan : Scanned) (old : Sides) (made : ReadMap) (new : Sides) → ReadsSectors phase wanted before scan old made new → IsSure scan.d old.stack → IsLeft scan.d old.stack new.stack
reads-left Skim wanted before scan old made new r sure = (skims-known before scan.d 0 old.stack r.0.skims new.stack r.0.survey sure).0
reads-left Sweep wanted before scan old made new r sure = (skims-known before scan.d 0 old.stack r.0.skims new.stack r.0.survey sure).0
reads-left Trim wanted before scan old made new r sure = survey-left before scan.d 0 old.stack r.1.reads new.stack r.1.survey sure
reads-left Scrape wanted before scan old made new r sure = survey-left before scan.d 0 old.stack r.1.reads new.stack r.1.survey sure
reads-left Retry wanted before scan old made new r sure = survey-left before scan.d 0 old.stack r.1.reads new.stack r.1.survey sure

large-known : (phase : Phase) (wanted : ℕ) (before : List Bool) (scan : Scanned) (old : Sides) (made : ReadMap) (new : Sides) → is_large phase ≡ true → ReadsSectors phase wanted before scan old made new → IsSure scan.d old.stack
    → (s : ℕ) → get_or before s false ≡ false → get_or (marks made.map) s false ≡ true → meant_at scan.d old.stack s ≡ None
large-known Skim wanted before scan old made new large r sure s fresh is =
    let here : s ≡ 0 + s = omega arith in
    ap (meant_at scan.d old.stack) here
    ∙ (skims-known before scan.d 0 old.stack r.0.skims new.stack r.0.survey sure).1 s (sym (ap (λ (l : List Bool). get_or l s false) r.0.noted) ∙ is) (ap (λ (n : ℕ). get_or before n false) (sym here) ∙ fresh)
large-known Sweep wanted before scan old made new large r sure s fresh is =
    let here : s ≡ 0 + s = omega arith in
    ap (meant_at scan.d old.stack) here
    ∙ (skims-known before scan.d 0 old.stack r.0.skims new.stack r.0.survey sure).1 s (sym (ap (λ (l : List Bool). get_or l s false) r.0.noted) ∙ is) (ap (λ (n : ℕ). get_or before n false) (sym here) ∙ fresh)
large-known Trim wanted before scan old made new large r sure s fresh is = absurd (false≢true large)
large-known Scrape wanted before scan old made new large r sure s fresh is = absurd (false≢true large)
large-known Retry wanted before scan old made new large r sure s fresh is = absurd (false≢true large)

-- of those that neither was read nor is in a failed piece only the first pass leaves some
large-leaves : (phase : Phase) (wanted : ℕ) (before : List Bool) (scan : Scanned) (old : Sides) (made : ReadMap) (new : Sides) → is_large phase ≡ true → (phase ≡ Sweep → wanted ≡ 0) → ReadsSectors phase wanted before scan old made new
    → (s : ℕ) → s < length (marks made.map) → get_or (marks made.map) s false ≡ false → get_or (losts made.map) s false ≡ false → phase ≡ Skim
large-leaves Skim wanted before scan old made new large none r s low isnt good = refl
large-leaves Sweep wanted before scan old made new large none r s low isnt good =
    let p = pass_over old.stack.config scan.d before in
    let failed = unskipped-failed p 0 r.0.skims (subst (λ (n : ℕ). AreSkims 0 p 0 n r.0.skims) (none refl) r.0.pieces) s (omega (arith, low, ap length r.0.noted)) (sym (ap (λ (l : List Bool). get_or l s false) r.0.noted) ∙ isnt) in
    absurd (false≢true (sym good ∙ ap (λ (l : List Bool). get_or l s false) r.0.failed ∙ failed))
large-leaves Trim wanted before scan old made new large none r s low isnt good = absurd (false≢true large)
large-leaves Scrape wanted before scan old made new large none r s low isnt good = absurd (false≢true large)
large-leaves Retry wanted before scan old made new large none r s low isnt good = absurd (false≢true large)

-- ---- one turn

module _ {S : Type 0} (k : Kept S) (phase : Phase) (old new : Progressed S) (t : IsTurn k phase old new) (none : k.file ≡ None) (start : old.at ≡ 0) (size : length (marks old.runs) ≡ k.sectors) where
  abbrev made : List Bool
  made = marks t.made.map

  made-all : length made ≡ k.sectors
  made-all = subst (λ (f : Option MapPathRecord). IsUpTo f k.sectors (length made)) none t.few

  covered : t.span.count ≡ min k.sectors (k.sectors - old.at)
  covered = t.next.count ∙ ap (λ (f : Option MapPathRecord). min (turn_len f k.sectors) (k.sectors - old.at)) none

  pub turn-end : new.at ≡ k.sectors
  turn-end = omega (arith, t.here, made-all, covered, t.next.end, start)

  turn-all : t.end ≡ k.sectors
  turn-all = omega (arith, covered, t.next.end, start)

  module _ (sure : IsSure k.scan.d old.sides.stack) where
    pub turn-left : IsLeft k.scan.d old.sides.stack new.sides.stack
    turn-left =
        subst (λ (w : StackRecord). IsLeft k.scan.d old.sides.stack w) (sym (ap (λ (x : Sides). x.stack) t.on_medium))
        (reads-left phase old.skip (asked_marks phase t.span k.sectors old.runs) (scan_from k old) old.sides t.made t.left t.reads sure)

    module _ (s : ℕ) (low : s < k.sectors) where
      abbrev was : Status
      was = get_or (statuses old.runs) s Untried

      abbrev now : Status
      now = get_or (statuses new.runs) s Untried

      abbrev meant : SectorState
      meant = meant_at k.scan.d old.sides.stack s

      abbrev asked : List Bool
      asked = asked_marks phase t.span k.sectors old.runs

      abbrev bad : Bool
      bad = get_or (losts t.made.map) s false

      status : now ≡ status_after (step_of phase) true was (get_or made s false) bad
      status = status-new k phase old new t size s (omega (arith, start)) (omega (arith, low, turn-end))

      -- whether the turn reads it
      fresh : get_or asked s false ≡ not (is_same was (step_of phase).takes)
      fresh = asked-inside k phase old new t size s (omega (arith, start)) (omega (arith, low, turn-all))

      now-other : is_same was (step_of phase).takes ≡ false → now ≡ was
      now-other other = status ∙ cond-false (is_same was (step_of phase).takes) (cond (get_or made s false) Recovered (cond bad (step_of phase).failed (step_of phase).left)) was other

      now-had : is_same was (step_of phase).takes ≡ true → get_or made s false ≡ true → now ≡ Recovered
      now-had taken had =
          status ∙ cond-true (is_same was (step_of phase).takes) (cond (get_or made s false) Recovered (cond bad (step_of phase).failed (step_of phase).left)) was taken
          ∙ cond-true (get_or made s false) Recovered (cond bad (step_of phase).failed (step_of phase).left) had

      now-not : is_same was (step_of phase).takes ≡ true → get_or made s false ≡ false → now ≡ cond bad (step_of phase).failed (step_of phase).left
      now-not taken had =
          status ∙ cond-true (is_same was (step_of phase).takes) (cond (get_or made s false) Recovered (cond bad (step_of phase).failed (step_of phase).left)) was taken
          ∙ cond-false (get_or made s false) Recovered (cond bad (step_of phase).failed (step_of phase).left) had

      -- ---- by a pass in large pieces

      module _ (large : is_large phase ≡ true) (sweeps : phase ≡ Sweep → old.skip ≡ 0) where
        large-not : is_same was (step_of phase).takes ≡ true → get_or made s false ≡ false → (b : Bool) → bad ≡ b → LargeStep phase was now meant
        large-not taken had true is = large_failed (now-not taken had ∙ cond-true bad (step_of phase).failed (step_of phase).left is ∙ large-fails phase large)
        large-not taken had false is =
            let skims : phase ≡ Skim = large-leaves phase old.skip asked (scan_from k old) old.sides t.made t.left large sweeps t.reads s (omega (arith, low, made-all)) had is in
            large_left skims (now-not taken had ∙ cond-false bad (step_of phase).failed (step_of phase).left is ∙ ap (λ (p : Phase). (step_of p).left) skims)

        large-taken : is_same was (step_of phase).takes ≡ true → (h : Bool) → get_or made s false ≡ h → LargeStep phase was now meant
        large-taken taken true had = large_had (now-had taken had) (large-known phase old.skip asked (scan_from k old) old.sides t.made t.left large t.reads sure s (fresh ∙ ap not taken) had)
        large-taken taken false had = large-not taken had bad refl

        large-each : (taken : Bool) → is_same was (step_of phase).takes ≡ taken → LargeStep phase was now meant
        large-each false other = large_other (ap (is_same was) (sym (large-takes phase large)) ∙ other) (now-other other)
        large-each true taken = large-taken taken (get_or made s false) refl

        pub large-turn : LargeStep phase was now meant
        large-turn = large-each (is_same was (step_of phase).takes) refl

    -- ---- by a pass by single sectors

    module _ (single : is_large phase ≡ false) (counts : Counts)
        (goes : GoesOverTo (asked_marks phase t.span k.sectors old.runs) (scan_in phase (scan_from k old)) (length made) t.made.way old.sides counts (Some t.made.map) t.left) (s : ℕ) (low : s < k.sectors) where
      abbrev states : List SectorState
      states = all_states goes.reads

      abbrev marked : List Bool
      marked = asked_marks phase t.span k.sectors old.runs

      abbrev before : Status
      before = get_or (statuses old.runs) s Untried

      abbrev after : Status
      after = get_or (statuses new.runs) s Untried

      abbrev means : SectorState
      means = meant_at k.scan.d old.sides.stack s

      states-all : length states ≡ k.sectors
      states-all = sym (ap length goes.noted ∙ length-map states is_had) ∙ made-all

      made-get : get_or made s false ≡ is_had (get_or states s None)
      made-get = ap (λ (l : List Bool). get_or l s false) goes.noted ∙ get_or-map is_had states s None false (omega (arith, low, states-all))

      bad-get : get_or (losts t.made.map) s false ≡ is_lost (get_or states s None)
      bad-get = ap (λ (l : List Bool). get_or l s false) goes.bad ∙ get_or-map is_lost states s None false (omega (arith, low, states-all))

      single-trims : (b : Bool) → is_trim phase ≡ b → (fault : IoFault) → is_same before (step_of phase).takes ≡ true → get_or states s None ≡ Some (LeftUnscraped fault) → SingleStep phase before after means (get_or states s None)
      single-trims true trims fault taken e =
          single_unscraped trims
          (now-not s low taken (made-get ∙ ap is_had e) ∙ cond-false (get_or (losts t.made.map) s false) (step_of phase).failed (step_of phase).left (bad-get ∙ ap is_lost e) ∙ trim-leaves phase trims)
      single-trims false trims fault taken e =
          let p = pass_over old.sides.stack.config k.scan.d marked in
          absurd (pass-unscraped (scan_in phase (scan_from k old)) p goes.reads s fault trims goes.pieces (omega (arith, low, states-all)) e)

      by-state : (x : SectorState) → get_or states s None ≡ x → IsMeantState x means → is_same before (step_of phase).takes ≡ true → SingleStep phase before after means (get_or states s None)
      by-state None e holds taken = single_had (now-had s low taken (made-get ∙ ap is_had e)) holds e
      by-state (Some (Lost fault)) e holds taken =
          single_lost fault
          (now-not s low taken (made-get ∙ ap is_had e) ∙ cond-true (get_or (losts t.made.map) s false) (step_of phase).failed (step_of phase).left (bad-get ∙ ap is_lost e) ∙ single-fails phase single)
          holds e
      by-state (Some (LeftUnscraped fault)) e holds taken = single-trims (is_trim phase) refl fault taken e

      state-meant : is_same before (step_of phase).takes ≡ true → IsMeantState (get_or states s None) means
      state-meant taken =
          let here : 0 + s ≡ s = omega arith in
          subst (λ (n : ℕ). IsMeantState (get_or states s None) (meant_at k.scan.d old.sides.stack n)) here
          (survey-each marked k.scan.d 0 old.sides.stack goes.reads t.left.stack (scan_in phase (scan_from k old)) (pass_over old.sides.stack.config k.scan.d marked) Forward goes.survey goes.pieces tt sure s (omega (arith, low, states-all)) (ap (λ (n : ℕ). get_or marked n false) here ∙ fresh s low ∙ ap not taken))

      state-none : is_same before (step_of phase).takes ≡ false → get_or states s None ≡ None
      state-none other =
          let here : 0 + s ≡ s = omega arith in
          survey-marked marked k.scan.d 0 old.sides.stack goes.reads t.left.stack s goes.survey (ap (λ (n : ℕ). get_or marked n false) here ∙ fresh s low ∙ ap not other)

      single-each : (taken : Bool) → is_same before (step_of phase).takes ≡ taken → SingleStep phase before after means (get_or states s None)
      single-each false other = single_other other (now-other s low other) (state-none other)
      single-each true taken = by-state (get_or states s None) refl (state-meant taken) taken

      pub single-turn : SingleStep phase before after means (get_or states s None)
      single-turn = single-each (is_same before (step_of phase).takes) refl
