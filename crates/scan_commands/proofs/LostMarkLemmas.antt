-- The marks of single sectors.
use Rattle.std.proofs.Common.{◌≡◌, ℕ, zero, suc, ◌+◌, ◌-◌, ◌<◌, ◌≤◌, not, Bool, true, false, List, [], ◌∷◌, ◌++◌, length, take, drop, get_or, replicate, Some, None, refl, sym, ap, ap₂, ◌∙◌, inl, inr, arith}
use Rattle.std.specs.Option.{is_some}
use Rattle.std.proofs.lemmas.Bool.{cases_lt, false≢true}
use Rattle.std.proofs.lemmas.List.{get_or-append_right, get_or-drop, get_or-replicate, get_or-take, get_or_append_left, length-append, length-drop, length-replicate, length-take-le}
use Rattle.rescue_map.specs.declared.splicing.Span.{Span}
use Rattle.rescue_map.specs.Maps.{spliced_marks}
use Rattle.stack_recovery.specs.Recoveries.{is_had}
use Rattle.stack_engine.specs.Stacks.{StackRecord}
use Rattle.stack_recovery.specs.declared.lost_run.Loss.TheVariants.{Lost, Unscraped}
use Rattle.stack_recovery.specs.Surveys.{Finding, IsSurveyOver, MayFind, PieceRead, SectorState, again, all_states, copied, had, kept, lost, mark_of, probed, states_found, states_of, trimmed}

-- ---- marks of single sectors

module _ (span : Span) (around within : List Bool) (inside : span.first + span.count ≤ length around) (long : span.first + span.count ≤ length within) where
  abbrev f : ℕ
  f = span.first

  abbrev n : ℕ
  n = span.count

  abbrev front : List Bool
  front = take f around

  abbrev middle : List Bool
  middle = take n (drop f within)

  abbrev rest : List Bool
  rest = drop (f + n) around

  front-length : length front ≡ f
  front-length = length-take-le f around (omega (arith, inside))

  middle-length : length middle ≡ n
  middle-length = length-take-le n (drop f within) (omega (arith, long, length-drop f within))

  pub spliced-before : (s : ℕ) → s < f → get_or (spliced_marks span around within) s false ≡ get_or around s false
  spliced-before s low = get_or_append_left front (middle ++ rest) false s (omega (arith, low, front-length)) ∙ get_or-take f around s false low

  pub spliced-inside : (s : ℕ) → f ≤ s → s < f + n → get_or (spliced_marks span around within) s false ≡ get_or within s false
  spliced-inside s from to =
      let here : f + (s - f) ≡ s = omega (arith, from) in
      get_or-append_right front (middle ++ rest) f s false front-length from
      ∙ get_or_append_left middle rest false (s - f) (omega (arith, from, to, middle-length))
      ∙ get_or-take n (drop f within) (s - f) false (omega (arith, from, to))
      ∙ get_or-drop f within (s - f) false ∙ ap (λ (k : ℕ). get_or within k false) here

  pub spliced-behind : (s : ℕ) → f + n ≤ s → get_or (spliced_marks span around within) s false ≡ get_or around s false
  spliced-behind s past =
      let here : f + n + (s - f - n) ≡ s = omega (arith, past) in
      get_or-append_right front (middle ++ rest) f s false front-length (omega (arith, past))
      ∙ get_or-append_right middle rest n (s - f) false middle-length (omega (arith, past))
      ∙ get_or-drop (f + n) around (s - f - n) false ∙ ap (λ (k : ℕ). get_or around k false) here

  pub spliced-size : length (spliced_marks span around within) ≡ length around
  spliced-size =
      length-append front (middle ++ rest)
      ∙ omega (arith, front-length, middle-length, inside, length-append middle rest, length-drop (f + n) around)

-- ---- the states of a survey

pub had-lost : (x : SectorState) → is_had x ≡ not (is_some x)
had-lost None = refl
had-lost (Some loss) = refl

-- a sector that is marked isn't lost
pub survey-marked : (before : List Bool) (d first : ℕ) (w : StackRecord) (reads : List PieceRead) (w' : StackRecord) (j : ℕ) → IsSurveyOver before d first w reads w' → get_or before (first + j) false ≡ true
    → get_or (all_states reads) j None ≡ None
survey-marked before d first w [] w' zero survey is = refl
survey-marked before d first w [] w' (suc j) survey is = refl
survey-marked before d first w (r ∷ more) w' j survey is = elim (cases_lt j (length (states_of r))) [
  | inl here ↦ get_or_append_left (states_of r) (all_states more) None j here ∙ piece r.count r.found survey.0.may survey.0.marked here
  | inr past ↦
      let same : first + j ≡ first + length (states_of r) + (j - length (states_of r)) = omega (arith, past) in
      get_or-append_right (states_of r) (all_states more) (length (states_of r)) j None refl past
      ∙ survey-marked before d (first + length (states_of r)) r.after more w' (j - length (states_of r)) survey.1 (sym (ap (λ (k : ℕ). get_or before k false) same) ∙ is)
]
  where
    ends : (behind n : ℕ) (a b : SectorState) → length (replicate behind a ++ replicate (n - behind) b) ≡ behind + (n - behind)
    ends behind n a b = length-append (replicate behind a) (replicate (n - behind) b) ∙ ap₂ (λ (x y : ℕ). x + y) (length-replicate {A = SectorState} behind a) (length-replicate {A = SectorState} (n - behind) b)

    piece : (n : ℕ) (found : Finding) → MayFind w.config d first n found → ((k : ℕ) → k < n → get_or before (first + k) false ≡ mark_of found) → j < length (states_found n found) → get_or (states_found n found) j None ≡ None
    piece n (had bytes) may marked low = get_or-replicate {A = SectorState} n j None None (omega (arith, low, length-replicate {A = SectorState} n None))
    piece n (lost loss) may marked low = absurd (false≢true (sym (marked j (omega (arith, low, length-replicate {A = SectorState} n (Some (Lost loss))))) ∙ is))
    piece n (again fault) may marked low = absurd (omega (arith, low))
    piece n (probed behind bytes) may marked low = absurd (omega (arith, low))
    piece n (trimmed behind fault) may marked low = absurd (false≢true (sym (marked j (omega (arith, low, may.0, ends behind n (Some (Unscraped fault)) (Some (Lost fault))))) ∙ is))
    piece n copied may marked low = get_or-replicate {A = SectorState} n j None None (omega (arith, low, length-replicate {A = SectorState} n None))
    piece n kept may marked low = get_or-replicate {A = SectorState} n j None None (omega (arith, low, length-replicate {A = SectorState} n None))
