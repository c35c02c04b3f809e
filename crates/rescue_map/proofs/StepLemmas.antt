-- The statuses of sectors after a step.
use Rattle.std.proofs.Common.{◌≡◌, ℕ, zero, suc, ◌+◌, ◌<◌, Bool, List, [], ◌∷◌, ◌++◌, length, replicate, refl, sym, ap, ◌∙◌, append-nil, append_assoc, arith}
use Rattle.rescue_map.specs.declared.splicing.Span.{Span}
use Rattle.rescue_map.specs.declared.status.Status.{Status}
use Rattle.rescue_map.specs.declared.status.Status.TheVariants.{Bad, Recovered, Unscraped, Untried, Untrimmed}
use Rattle.rescue_map.specs.declared.stepping.Step.{Step}
use Rattle.rescue_map.specs.Stages.{run_of, run_status}
use Rattle.rescue_map.specs.Steps.{is_inside, status_after, stepped_from}

-- the run of a status has it
pub status-run : (n : ℕ) (status : Status) → run_status (run_of n status) ≡ status
status-run n Untried = refl
status-run n Untrimmed = refl
status-run n Unscraped = refl
status-run n Bad = refl
status-run n Recovered = refl

-- the first sectors, which are alike
stepped-front : (step : Step) (span : Span) (at n : ℕ) (inside : Bool) (a : Status) (h b : Bool) (as_ : List Status) (hs bs : List Bool) → ((k : ℕ) → k < n → is_inside span (at + k) ≡ inside)
    → stepped_from step span at (replicate n a ++ as_) (replicate n h ++ hs) (replicate n b ++ bs) ≡ replicate n (status_after step inside a h b) ++ stepped_from step span (at + n) as_ hs bs
stepped-front step span at zero inside a h b as_ hs bs alike = let here : at ≡ at + 0 = omega arith in ap (λ (k : ℕ). stepped_from step span k as_ hs bs) here
stepped-front step span at (suc n) inside a h b as_ hs bs alike =
    let first : at ≡ at + 0 = omega arith in
    let next : suc at + n ≡ at + suc n = omega arith in
    let after : Status = status_after step inside a h b in
    ap (λ (i : Bool). status_after step i a h b ∷ stepped_from step span (suc at) (replicate n a ++ as_) (replicate n h ++ hs) (replicate n b ++ bs)) (ap (is_inside span) first ∙ alike 0 (omega arith))
    ∙ ap (λ (l : List Status). after ∷ l) (stepped-front step span (suc at) n inside a h b as_ hs bs (λ k low. let same : suc at + k ≡ at + suc k = omega arith in ap (is_inside span) same ∙ alike (suc k) (omega (arith, low))))
    ∙ ap (λ (k : ℕ). after ∷ (replicate n after ++ stepped_from step span k as_ hs bs)) next

stepped-none : (step : Step) (span : Span) (at : ℕ) (as_ : List Status) (hs bs : List Bool) → length hs ≡ 0 → stepped_from step span at as_ hs bs ≡ []
stepped-none step span at [] hs bs e = refl
stepped-none step span at (a ∷ as_) [] bs e = refl
stepped-none step span at (a ∷ as_) (h ∷ hs) bs e = absurd (omega (arith, e))

-- so many got their status, and then the rest
pub stepped-more : (step : Step) (span : Span) (at n : ℕ) (inside : Bool) (a : Status) (h b : Bool) (old new xs xs' : List Status) (ys ys' zs zs' : List Bool) → ((k : ℕ) → k < n → is_inside span (at + k) ≡ inside)
    → new ≡ old ++ replicate n (status_after step inside a h b) → xs ≡ replicate n a ++ xs' → ys ≡ replicate n h ++ ys' → zs ≡ replicate n b ++ zs'
    → new ++ stepped_from step span (at + n) xs' ys' zs' ≡ old ++ stepped_from step span at xs ys zs
stepped-more step span at n inside a h b old new xs xs' ys ys' zs zs' alike put first second third =
    let after : Status = status_after step inside a h b in
    ap (λ (l : List Status). l ++ stepped_from step span (at + n) xs' ys' zs') put
    ∙ append_assoc old (replicate n after) (stepped_from step span (at + n) xs' ys' zs')
    ∙ ap (λ (l : List Status). old ++ l) (sym (ap (λ (l : List Status). stepped_from step span at l ys zs) first
    ∙ ap (λ (l : List Bool). stepped_from step span at (replicate n a ++ xs') l zs) second
    ∙ ap (λ (l : List Bool). stepped_from step span at (replicate n a ++ xs') (replicate n h ++ ys') l) third
    ∙ stepped-front step span at n inside a h b xs' ys' zs' alike))

-- all did
pub stepped-all : (step : Step) (span : Span) (at : ℕ) (made xs whole : List Status) (ys zs : List Bool) → length ys ≡ 0 → made ++ stepped_from step span at xs ys zs ≡ whole → made ≡ whole
stepped-all step span at made xs whole ys zs none e = sym (ap (λ (l : List Status). made ++ l) (stepped-none step span at xs ys zs none) ∙ append-nil made) ∙ e
