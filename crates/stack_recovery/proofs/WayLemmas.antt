-- The way that a pass goes on, step by step.
use Rattle.std.proofs.Common.{◌≡◌, ℕ, suc, eqb, ◌+◌, ◌-◌, ◌*◌, ◌<◌, ◌≤◌, ◌⊎◌, ◌^◌, ◌||◌, Bool, true, false, IsTrue, None, cond, List, [], ◌∷◌, ◌++◌, Option, Ok, inl, inr, refl, sym, ap, ◌∙◌, subst, arith}
use Rattle.std.proofs.lemmas.Bool.{eqb-false, eqb-true, false≢true}
use Rattle.std.specs.Prelude.{replicate}
use Rattle.block_device.specs.Call.{Call, Write}
use Rattle.block_device.specs.Device.{Device, IsWritten, sectors_of, spliced}
use Rattle.stack_engine.specs.Bytes.{EachBytes}
use Rattle.stack_engine.specs.Stacks.{StackRecord}
use Rattle.rescue_map.specs.declared.map.Run.{Run}
use Rattle.rescue_map.specs.Maps.{losts, marks}
use Rattle.runs.specs.Tallies.{listed}
use Rattle.stack_rules.specs.Names.{mapped, size}
use Rattle.stack_rules.specs.Records.{Configuration}
use Rattle.stack_recovery.specs.declared.fault.RecoveryFault.{RecoveryFault}
use Rattle.stack_recovery.specs.declared.fault.RecoveryFault.TheVariants as recovery
use Rattle.stack_recovery.specs.declared.tally.Tally.{Tally}
use Rattle.stack_recovery.specs.declared.trimming.LostEnd.{LostEnd}
use Rattle.stack_recovery.specs.declared.way.Way.{Way}
use Rattle.stack_recovery.specs.declared.way.Way.TheVariants.{Backward, Forward, Turned}
use Rattle.std.specs.List.{slice_index_or}
use Rattle.stack_recovery.specs.Alike.{AreAlike}
use Rattle.stack_recovery.specs.LeafReads.{Ahead, CopiesLeaves, EndsCopying, ahead, piece_behind, piece_failed, piece_further, sectors_copied, sectors_had}
use Rattle.stack_recovery.specs.Listings.{Listed, Tells}
use Rattle.stack_recovery.specs.PassPieces.{IsProbedTo, IsUnreadTo, IsWayInside, Pass, Scanned, pass_over, way_lost, way_probed, way_trimmed}
use Rattle.stack_recovery.specs.Handing.{HandsOverPart}
use Rattle.stack_recovery.specs.Recoveries.{EndsEarly, NotesMore, RunsShort, Sides, parties, sides}
use Rattle.stack_recovery.specs.Surveys.{AreMarked}
use Rattle.stack_recovery.specs.Trims.{CopiesBehind, IsLostEnd, StopsBehind}
use Rattle.stack_recovery.specs.Ways.{is_copied, is_forward, low_of, way_past}
use Rattle.stack_recovery.proofs.PieceLemmas.{unread-end, unread-rest}
use Rattle.stack_recovery.proofs.HandingLemmas.{IsHanding, hands-failed, hands-part}
use Rattle.stack_recovery.proofs.UnderwayBackLemmas.{underway-copied, underway-probed}
use Rattle.stack_recovery.proofs.UnderwayLemmas.{IsUnderway, fails-output, runs-short, underway-kept}

-- ---- what holds of a way

-- the run that is read backwards begins at that sector, and ends where the way says
abbrev pub IsWayRun : Pass → ℕ → Way → Type 0
IsWayRun p at Forward = Unit {0}
IsWayRun p at Turned = Unit {0}
IsWayRun p at (Backward low end) = (at ≤ low) × (low < end) × IsUnreadTo p at end

-- the sectors that were copied ahead are those that were read backwards
abbrev pub IsRegion : Way → Ahead → Type 0
IsRegion (Backward low end) a = a ≡ ahead low end
IsRegion other a = Unit {0}

-- how many sectors were read backwards, and whether the next read isn't forward: the measure of a pass
abbrev pub read_behind : Way → ℕ
read_behind (Backward low end) = end - low
read_behind other = 0

abbrev pub turned_len : Way → ℕ
turned_len Forward = 0
turned_len other = 1

pub way-inside : (p : Pass) (at : ℕ) (way : Way) → IsWayRun p at way → IsWayInside at way (size p.config (mapped p.d))
way-inside p at Forward h = tt
way-inside p at Turned h = tt
way-inside p at (Backward low end) h = (h.0, h.1, h.2.inside)

pub forward-is : (way : Way) → is_forward way ≡ true → way ≡ Forward
forward-is Forward e = refl
forward-is Turned e = absurd (false≢true e)
forward-is (Backward low end) e = absurd (false≢true e)

-- ---- past sectors that were read already

-- the next n sectors were read before the pass, or are those that were copied backwards
abbrev pub IsPast : Pass → ℕ → ℕ → Way → Type 0
IsPast p at n (Backward low end) = (low ≡ at) × (end ≡ at + n) × AreMarked p.marks at n false
IsPast p at n other = AreMarked p.marks at n true

pub or-left : (a b : Bool) → a || b ≡ false → a ≡ false
or-left false b e = refl
or-left true b e = absurd (false≢true (sym e))

pub or-right : (a b : Bool) → a || b ≡ false → b ≡ false
or-right false b e = e
or-right true b e = absurd (false≢true (sym e))

or-true : (b : Bool) → b || false ≡ true → b ≡ true
or-true true e = refl
or-true false e = absurd (false≢true e)

pub is-past : (p : Pass) (at n : ℕ) (way : Way) (had : Bool) → 1 ≤ n → AreMarked p.marks at n had → (had || is_copied way at) ≡ true → IsWayRun p at way → (had ≡ false → IsUnreadTo p at (at + n)) → IsPast p at n way
is-past p at n Forward had some marked is run ends = subst (AreMarked p.marks at n) (or-true had is) marked
is-past p at n Turned had some marked is run ends = subst (AreMarked p.marks at n) (or-true had is) marked
is-past p at n (Backward low end) true some marked is run ends = absurd (false≢true (sym (run.2.unread 0 (omega (arith, run.0, run.1))) ∙ marked 0 (omega (arith, some))))
is-past p at n (Backward low end) false some marked is run ends =
    let here : low ≡ at = eqb-true low at is in
    (here, unread-end p at end (at + n) (omega (arith, run.0, run.1)) (omega (arith, some)) run.2 (ends refl), marked)

kept-cond : (P : Way → Type 0) (b no_scrape : Bool) → P Forward → P Turned → P (cond b (way_lost no_scrape) Forward)
kept-cond P true true forward turned = turned
kept-cond P true false forward turned = forward
kept-cond P false no_scrape forward turned = forward

-- after them the pass hasn't read backwards
pub past-any : (P : Way → Type 0) (scan : Scanned) (way : Way) (at : ℕ) → P Forward → P Turned → P (way_past scan way at)
past-any P scan Forward at forward turned = kept-cond P (eqb at scan.turned) scan.no_scrape forward turned
past-any P scan Turned at forward turned = kept-cond P (eqb at scan.turned) scan.no_scrape forward turned
past-any P scan (Backward low end) at forward turned = forward

pub lost-any : (P : Way → Type 0) (no_scrape : Bool) → P Forward → P Turned → P (way_lost no_scrape)
lost-any P true forward turned = turned
lost-any P false forward turned = forward

pub underway-past : (makes_map : Bool) (before : List Bool) (scan : Scanned) (old now : Sides) (at : ℕ) (tally : Tally) (noted : Option (List Run)) (way : Way) (calls : List Call) → IsUnderway makes_map before scan old now at tally noted way calls
    → (n : ℕ) (printed : Listed) (next : Tally) (more : Option (List Run)) → 1 ≤ n → IsPast (pass_over old.stack.config scan.d before) at n way → NotesMore marks noted more (replicate n true) → NotesMore losts noted more (replicate n false)
    → Tells now.printed printed (listed tally.last) → next ≡ record { last = None; lost = tally.lost; untried = tally.untried } → IsUnderway makes_map before scan old (sides now.stack now.out printed) (at + n) next more (way_past scan way (at + n)) calls
underway-past makes_map before scan old now at tally noted Forward calls u n printed next more some past noting noting' told is =
    underway-kept makes_map before scan old now at tally noted Forward calls u n printed next more some past noting noting' told is
underway-past makes_map before scan old now at tally noted Turned calls u n printed next more some past noting noting' told is =
    underway-kept makes_map before scan old now at tally noted Turned calls u n printed next more some past noting noting' told is
underway-past makes_map before scan old now at tally noted (Backward low end) calls u n printed next more some past noting noting' told is =
    underway-copied makes_map before scan old now at tally noted (Backward low end) calls u n printed next more some (past.0, past.1) past.2 noting noting' told is

module _ {D O : Type 0} (state : D → Device) (does : D → Call → D → Type 0) (Did : O → Call → O → Type 0) (before : List Bool) (config : Configuration) (d : ℕ) (w : StackRecord) (o : O) (at : ℕ) (v : StackRecord) (p : O) where
  pub called-past : (way : Way) (a : Ahead) (n : ℕ) → CopiesLeaves state does Did before d w o at a v p → IsRegion way a → IsPast (pass_over config d before) at n way → CopiesLeaves state does Did before d w o (at + n) a v p
  called-past Forward a n h region past = sectors_had n h past
  called-past Turned a n h region past = sectors_had n h past
  called-past (Backward low end) a n h region past =
      let here : a ≡ ahead at (at + n) = region ∙ ap (λ (k : ℕ). ahead k end) past.0 ∙ ap (λ (k : ℕ). ahead at k) past.1 in
      subst (λ (x : Ahead). CopiesLeaves state does Did before d w o (at + n) x v p) (sym here) (sectors_copied (subst (λ (x : Ahead). CopiesLeaves state does Did before d w o at x v p) here h))

  -- ---- before sectors that were read backwards

  -- a piece was read and written
  pub called-behind : (way : Way) (a : Ahead) (low : ℕ) (seen : O → Device) (first : ℕ) (w' : StackRecord) (p' : O) → CopiesLeaves state does Did before d w o at a v p → IsRegion way a → IsProbedTo (pass_over config d before) at way low
      → CopiesBehind state does seen Did d at low v p w' p' first → (x : Ahead) × IsRegion (way_probed way first low) x × CopiesLeaves state does Did before d w o at x w' p'
  called-behind Forward a low seen first w' p' h region probed b = absurd probed
  called-behind Turned a low seen first w' p' h region probed b = (ahead first low, refl, piece_behind first low b.bytes h b.after b.some b.given b.did)
  called-behind (Backward from end) a low seen first w' p' h region probed b = (
    ahead first end,
    refl,
    piece_further first b.bytes (subst (λ (x : Ahead). CopiesLeaves state does Did before d w o at x v p) (region ∙ ap (λ (k : ℕ). ahead k end) (sym probed)) h) b.after b.some b.given b.did,
  )

  -- the last lost ones were found
  pub called-trimmed : (a : Ahead) (low further : ℕ) (w' : StackRecord) (last : LostEnd) → CopiesLeaves state does Did before d w o at a v p → IsLostEnd state does d at low v w' last → CopiesLeaves state does Did before d w o (at + further) a w' p
  called-trimmed a low further w' last h e = piece_failed last.before last.count further last.fault h e.given

module _ (p : Pass) (at low : ℕ) where
  pub run-behind : (way : Way) (first : ℕ) → IsWayRun p at way → IsProbedTo p at way low → at ≤ first → first < low → IsWayRun p at (way_probed way first low)
  run-behind Forward first run probed after below = absurd probed
  run-behind Turned first run probed after below = (after, below, probed)
  run-behind (Backward from end) first run probed after below = (after, omega (arith, below, probed, run.1), run.2)

  pub run-trimmed : (way : Way) → IsWayRun p at way → IsProbedTo p at way low → at ≤ low → IsWayRun p low (way_trimmed way)
  run-trimmed Forward run probed within = tt
  run-trimmed Turned run probed within = tt
  run-trimmed (Backward from end) run probed within = (omega (arith, probed), run.1, unread-rest p at low end within (omega (arith, probed, run.1)) run.2)

  pub region-trimmed : (way : Way) (a : Ahead) → IsRegion way a → IsRegion (way_trimmed way) a
  region-trimmed Forward a region = tt
  region-trimmed Turned a region = tt
  region-trimmed (Backward from end) a region = region

-- where the next piece is read that ends before sectors that were read backwards
module _ (p : Pass) (at n : ℕ) (some : 1 ≤ n) where
  pub probed-from : (way : Way) → is_forward way ≡ false → IsUnreadTo p at (at + n) → IsProbedTo p at way (low_of way (at + n))
  probed-from Forward is ends = absurd (false≢true (sym is))
  probed-from Turned is ends = ends
  probed-from (Backward low end) is ends = refl

  pub probed-some : (way : Way) → IsWayRun p at way → is_copied way at ≡ false → at < low_of way (at + n)
  probed-some Forward run is = omega (arith, some)
  probed-some Turned run is = omega (arith, some)
  probed-some (Backward low end) run is = different low (eqb low at) refl is run.0
    where
      different : (low : ℕ) (b : Bool) → eqb low at ≡ b → b ≡ false → at ≤ low → at < low
      different low true e is from = absurd (false≢true (sym is))
      different low false e is from = omega (arith, from, eqb-false low at e)

  -- not after the end of the run
  pub probed-within : (way : Way) → IsWayRun p at way → IsUnreadTo p at (at + n) → low_of way (at + n) ≤ at + n
  probed-within Forward run ends = omega arith
  probed-within Turned run ends = omega arith
  probed-within (Backward low end) run ends = let same : end ≡ at + n = unread-end p at end (at + n) (omega (arith, run.0, run.1)) (omega (arith, some)) run.2 ends in omega (arith, same, run.1)

-- ---- a piece before sectors that were read backwards

module _ (makes_map : Bool) (before : List Bool) (scan : Scanned) (old now : Sides) (at : ℕ) (tally : Tally) (noted : Option (List Run)) (way : Way) (calls : List Call) (u : IsUnderway makes_map before scan old now at tally noted way calls)
    (low : ℕ) (probed : IsProbedTo (pass_over old.stack.config scan.d before) at way low) (marked : AreMarked before at (low - at) false) where
  pub underway-behind : {D O : Type 0} (state : D → Device) (does : D → Call → D → Type 0) (seen : O → Device) (Did : O → Call → O → Type 0) (o o' : O) (w' : StackRecord) (first : ℕ) → seen o ≡ now.out
      → (b : CopiesBehind state does seen Did scan.d at low now.stack o w' o' first) → IsUnderway makes_map before scan old (sides w' (seen o') now.printed) at tally noted (way_probed way first low) (calls ++ Write first b.bytes true ∷ [])
  underway-behind state does seen Did o o' w' first same b =
      let here : at + (first - at) ≡ first = omega (arith, b.after) in
      let there : at + (low - at) ≡ low = omega (arith, b.after, b.some) in
      let count : low - first ≡ low - at - (first - at) = omega (arith, b.after, b.some) in
      let p = pass_over old.stack.config scan.d before in
      let x : IsUnderway makes_map before scan old (sides w' (seen o') now.printed) at tally noted (way_probed way (at + (first - at)) (at + (low - at))) (calls ++ Write (at + (first - at)) b.bytes true ∷ []) =
      underway-probed makes_map before scan old now at tally noted way calls u (first - at) (low - at) (low - first) b.bytes w' (seen o') (subst (λ (k : ℕ). IsProbedTo p at way k) (sym there) probed) (omega (arith, b.after, b.some)) (subst (λ (n : ℕ). AreAlike now.stack.config scan.d (at + (first - at)) n) count (subst (λ (k : ℕ). AreAlike now.stack.config scan.d k (low - first)) (sym here) b.alike)) count
      (subst (λ (k : ℕ). EachBytes now.stack scan.d k (low - first) (Ok b.bytes) w') (sym here) b.answered) marked
      (subst (λ (k : ℕ). IsWritten now.out k (low - first) true (seen o')) (sym here) (subst (λ (x : Device). IsWritten x first (low - first) true (seen o')) same b.written))
      (subst (λ (k : ℕ). IsTrue now.out.steady → (seen o').image ≡ spliced now.out.image k (sectors_of (low - first) b.bytes)) (sym here)
      (subst (λ (x : Device). IsTrue x.steady → (seen o').image ≡ spliced x.image first (sectors_of (low - first) b.bytes)) same b.image)) in
      subst (λ (k : ℕ). IsUnderway makes_map before scan old (sides w' (seen o') now.printed) at tally noted (way_probed way first k) (calls ++ Write first b.bytes true ∷ [])) there
      (subst (λ (k : ℕ). IsUnderway makes_map before scan old (sides w' (seen o') now.printed) at tally noted (way_probed way k (at + (low - at))) (calls ++ Write k b.bytes true ∷ [])) here x)

-- ---- why it ends there

-- some of the sectors before `low` have their mark
inner-marks : (before : List Bool) (at low behind n : ℕ) → AreMarked before at (low - at) false → at + behind + n ≡ low → AreMarked before (at + behind) n false
inner-marks before at low behind n marked ends = λ j few.
    let here : at + behind + j ≡ at + (behind + j) = omega arith in
    ap (λ (k : ℕ). slice_index_or before k false) here ∙ marked (behind + j) (omega (arith, few, ends))

module _ (makes_map : Bool) (before : List Bool) (scan : Scanned) (old now : Sides) (at : ℕ) (tally : Tally) (noted : Option (List Run)) (way : Way) (calls : List Call) (u : IsUnderway makes_map before scan old now at tally noted way calls) where
  pub stops-early : {D O : Type 0} (state : D → Device) (does : D → Call → D → Type 0) (seen : O → Device) (Did : O → Call → O → Type 0) (o o' : O) (w' : StackRecord) (fault : RecoveryFault) → seen o ≡ now.out → now.out.failures ≡ old.out.failures
      → (low : ℕ) → AreMarked before at (low - at) false → StopsBehind state does seen Did scan.d at low now.stack o w' o' fault → EndsEarly makes_map before scan old (sides w' (seen o') now.printed) fault
  stops-early state does seen Did o o' w' recovery.NoMemory same unfailed low marked s =
      subst (λ (x : Device). RunsShort makes_map before scan old (sides w' x now.printed)) (sym (ap seen s.1 ∙ same)) (runs-short makes_map before scan old now at tally noted way calls u w' unfailed (inl s.0.read))
  stops-early state does seen Did o o' w' recovery.Output same unfailed low marked s =
      fails-output makes_map before scan old now at tally noted way calls u s.behind s.count s.bytes w' (seen o') (inner-marks before at low s.behind s.count marked s.ends) s.answered (subst (λ (x : Device). IsWritten x (at + s.behind) s.count false (seen o')) same s.written)
      (subst (λ (n : ℕ). (n < (seen o').failures) ⊎ (n ≡ 2 ^ 64 - 1)) (ap (λ (x : Device). x.failures) same ∙ unfailed) s.failed) (λ h. s.sure (subst (λ (x : Device). IsTrue x.never_fails) (sym same) (u.copied.same.never_fails h)))

module _ {O L : Type 0} (Did : O → Call → O → Type 0) (makes_map : Bool) (before : List Bool) (scan : Scanned) (old now : Sides) (at : ℕ) (tally : Tally) (noted : Option (List Run)) (way : Way) (out out' : O) (h : IsHanding Did makes_map before scan old now at tally noted way out out') (a b : L) where
  pub stops-handing : {D : Type 0} (state : D → Device) (does : D → Call → D → Type 0) (seen : O → Device) (w' : StackRecord) (o' : O) (fault : RecoveryFault) → (low : ℕ) → AreMarked before at (low - at) false → StopsBehind state does seen Did scan.d at low now.stack out' w' o' fault
      → HandsOverPart Did before scan (parties old.stack out a) (parties w' o' b) fault
  stops-handing state does seen w' o' recovery.NoMemory low marked s =
      subst (λ (x : O). HandsOverPart Did before scan (parties old.stack out a) (parties w' x b) recovery.NoMemory) (sym s.1) (hands-part Did makes_map before scan old now at tally noted way out out' h a b w')
  stops-handing state does seen w' o' recovery.Output low marked s = hands-failed Did makes_map before scan old now at tally noted way out out' h a b w' o' s.behind s.count s.bytes (inner-marks before at low s.behind s.count marked s.ends) s.answered s.did

module _ {D O : Type 0} (state : D → Device) (does : D → Call → D → Type 0) (Did : O → Call → O → Type 0) (before : List Bool) (d : ℕ) (w : StackRecord) (o : O) (at : ℕ) (v : StackRecord) (p : O) (a : Ahead) (h : CopiesLeaves state does Did before d w o at a v p) where
  pub stops-called : (seen : O → Device) (w' : StackRecord) (p' : O) (fault : RecoveryFault) → (low : ℕ) → StopsBehind state does seen Did d at low v p w' p' fault → EndsCopying state does Did before d w o w' p'
  stops-called seen w' p' recovery.NoMemory low s =
      subst (λ (x : O). EndsCopying state does Did before d w o w' x) (sym s.1) (inl (at + 0, a, piece_failed s.0.behind s.0.count 0 s.0.fault h s.0.given))
  stops-called seen w' p' recovery.Output low s = inr (record { at = at; copied = a; left = v; out = p; first = at + s.behind; after = omega arith; count = s.count; bytes = s.bytes; so_far = h; given = s.given; rest = inr s.did })

-- ---- the measure

-- after sectors that were read already
pub past-smaller : (p : Pass) (scan : Scanned) (at n sectors : ℕ) (way : Way) → 1 ≤ n → at + n ≤ sectors → IsPast p at n way
    → suc (2 * (sectors - (at + n) - read_behind (way_past scan way (at + n))) + turned_len (way_past scan way (at + n))) ≤ 2 * (sectors - at - read_behind way) + turned_len way
past-smaller p scan at n sectors Forward some within past =
    past-any (λ w. suc (2 * (sectors - (at + n) - read_behind w) + turned_len w) ≤ 2 * (sectors - at - 0) + 0) scan Forward (at + n) (omega (arith, some, within)) (omega (arith, some, within))
past-smaller p scan at n sectors Turned some within past =
    past-any (λ w. suc (2 * (sectors - (at + n) - read_behind w) + turned_len w) ≤ 2 * (sectors - at - 0) + 1) scan Turned (at + n) (omega (arith, some, within)) (omega (arith, some, within))
past-smaller p scan at n sectors (Backward low end) some within past = omega (arith, some, within, past.0, past.1)
