-- The statuses of the sectors of a map.
use Rattle.std.proofs.Common.{◌≡◌, ℕ, zero, suc, ◌+◌, ◌<◌, not, Bool, true, false, cond, List, [], ◌∷◌, ◌++◌, length, map, get_or, replicate, refl, sym, ap, ap₂, ◌∙◌, arith}
use Rattle.std.proofs.lemmas.List.{get_or-map, length-map, map-append}
use Rattle.rescue_map.specs.declared.map.Run.{Run}
use Rattle.rescue_map.specs.declared.splicing.Span.{Span}
use Rattle.rescue_map.specs.declared.stage.Stage.{Stage}
use Rattle.rescue_map.specs.declared.stage.Stage.TheVariants as stage
use Rattle.rescue_map.specs.declared.status.Status.{Status}
use Rattle.rescue_map.specs.declared.status.Status.TheVariants.{Bad, Recovered, Untried}
use Rattle.rescue_map.specs.declared.stepping.Step.{Step}
use Rattle.rescue_map.specs.Maps.{marks}
use Rattle.rescue_map.specs.Stages.{run_status, stage_status, statuses}
use Rattle.rescue_map.specs.Statuses.{is_recovered, is_same}
use Rattle.rescue_map.specs.Steps.{is_inside, status_after, stepped_from, untaken_marks}
use Rattle.rescue_map.proofs.lemmas.RunLemmas.{flags, statuses-length}

map-replicate : {A B : Type 0} (f : A → B) (n : ℕ) (x : A) → map f (replicate n x) ≡ replicate n (f x)
map-replicate f zero x = refl
map-replicate {A} {B} f (suc n) x = ap (λ (l : List B). f x ∷ l) (map-replicate f n x)

-- what holds of each sector by its status
statuses-map : (f : Status → Bool) (runs : List Run) → flags (λ (r : Run). f (run_status r)) runs ≡ map f (statuses runs)
statuses-map f [] = refl
statuses-map f (run ∷ more) =
    ap₂ (λ (a b : List Bool). a ++ b) (sym (map-replicate f run.count (run_status run))) (statuses-map f more)
    ∙ sym (map-append f (replicate run.count (run_status run)) (statuses more))

recovered-by : (had lost : Bool) (s : Stage) → is_recovered (cond had Recovered (cond lost Bad (stage_status s))) ≡ had
recovered-by true lost s = refl
recovered-by false true s = refl
recovered-by false false stage.Untried = refl
recovered-by false false stage.Untrimmed = refl
recovered-by false false stage.Unscraped = refl

marks-map : (runs : List Run) → marks runs ≡ map is_recovered (statuses runs)
marks-map [] = refl
marks-map (run ∷ more) =
    ap₂ (λ (h : Bool) (l : List Bool). replicate run.count h ++ l) (sym (recovered-by run.had run.lost run.stage)) (marks-map more)
    ∙ ap (λ (l : List Bool). l ++ map is_recovered (statuses more)) (sym (map-replicate is_recovered run.count (run_status run)))
    ∙ sym (map-append is_recovered (replicate run.count (run_status run)) (statuses more))

-- a sector is marked if it is recovered
pub marks-get : (runs : List Run) (s : ℕ) → s < length (marks runs) → get_or (marks runs) s false ≡ is_recovered (get_or (statuses runs) s Untried)
marks-get runs s low =
    ap (λ (l : List Bool). get_or l s false) (marks-map runs) ∙ get_or-map is_recovered (statuses runs) s Untried false (omega (arith, low, statuses-length runs))

-- the sectors that a step doesn't read
pub untaken-get : (takes : Status) (runs : List Run) (s : ℕ) → s < length (marks runs) → get_or (untaken_marks takes runs) s false ≡ not (is_same (get_or (statuses runs) s Untried) takes)
untaken-get takes runs s low =
    ap (λ (l : List Bool). get_or l s false) (statuses-map (λ (x : Status). not (is_same x takes)) runs)
    ∙ get_or-map (λ (x : Status). not (is_same x takes)) (statuses runs) s Untried false (omega (arith, low, statuses-length runs))

pub untaken-length : (takes : Status) (runs : List Run) → length (untaken_marks takes runs) ≡ length (marks runs)
untaken-length takes runs =
    ap length (statuses-map (λ (x : Status). not (is_same x takes)) runs) ∙ length-map (statuses runs) (λ (x : Status). not (is_same x takes)) ∙ statuses-length runs

-- the status of a sector after a step
pub stepped-get : (step : Step) (span : Span) (at : ℕ) (as_ : List Status) (hs bs : List Bool) (s : ℕ) → s < length as_ → s < length hs → s < length bs
    → get_or (stepped_from step span at as_ hs bs) s Untried ≡ status_after step (is_inside span (at + s)) (get_or as_ s Untried) (get_or hs s false) (get_or bs s false)
stepped-get step span at [] hs bs s first second third = absurd (omega (arith, first))
stepped-get step span at (a ∷ as_) [] bs s first second third = absurd (omega (arith, second))
stepped-get step span at (a ∷ as_) (h ∷ hs) [] s first second third = absurd (omega (arith, third))
stepped-get step span at (a ∷ as_) (h ∷ hs) (b ∷ bs) zero first second third =
    let here : at ≡ at + 0 = omega arith in ap (λ (n : ℕ). status_after step (is_inside span n) a h b) here
stepped-get step span at (a ∷ as_) (h ∷ hs) (b ∷ bs) (suc s) first second third =
    let next : suc at + s ≡ at + suc s = omega arith in
    stepped-get step span (suc at) as_ hs bs s (omega (arith, first)) (omega (arith, second)) (omega (arith, third))
    ∙ ap (λ (n : ℕ). status_after step (is_inside span n) (get_or as_ s Untried) (get_or hs s false) (get_or bs s false)) next
