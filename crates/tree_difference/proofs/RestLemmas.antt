-- The data blocks that one of the two trees alone has.
use Rattle.std.proofs.Common.{◌≡◌, ◌-◌, ℕ, min, Bool, cond, List, [], ◌++◌, length, replicate, Option, Some, None, sym, ap, ◌∙◌, subst, arith, inl, inr, ltb}
use Rattle.std.specs.Io.KnownBytes.{Appends}
use Rattle.std.proofs.lemmas.Bool.{cases_lt, le-ltb, lt-ltb}
use Rattle.std.proofs.lemmas.List.{append-nil}
use Rattle.runs.specs.declared.run.Run.{Run}
use Rattle.runs.specs.declared.kind.Kind.{Kind}
use Rattle.runs.specs.declared.kind.Kind.TheVariants.{Removed, Added}
use Rattle.runs.specs.declared.tally.Tally.{Tally}
use Rattle.runs.specs.Limits.{limited_lines}
use Rattle.runs.specs.Runs.{run, runs_of}
use Rattle.runs.specs.Kinds.{is_same, State}
use Rattle.runs.specs.Texts.{listing_text}
use Rattle.runs.proofs.lemmas.ListingLemmas.{IsListed, listed-all, listed-last}
use Rattle.tree_difference.specs.Rests.{last_runs}

-- which run comes last, by the numbers of data blocks
abbrev pub rest_by : ℕ → ℕ → ℕ → Option (Run Kind)
rest_by b n m = cond (ltb b n) (Some (run b (n - b) Removed)) (cond (ltb b m) (Some (run b (m - b) Added)) None)

abbrev rest_list : ℕ → ℕ → List State
rest_list n m = replicate (n - m) (Some Removed) ++ replicate (m - n) (Some Added)

pub listed-rest : (b n m : ℕ) (most : Option ℕ) (compared : List State) (tally : Tally) (old now new : Option (List ℕ)) → b ≡ min n m → length compared ≡ b → IsListed most compared tally old now
    → Appends now new (limited_lines tally.limit (last_runs tally.last (rest_by b n m))) → Appends old new (listing_text most (runs_of is_same 0 (compared ++ (replicate (n - m) (Some Removed) ++ replicate (m - n) (Some Added)))))
listed-rest b n m most compared tally old now new least here t told = elim (cases_lt b n) [
  | inl longer ↦
      let none : m - n ≡ 0 = omega (arith, least, longer) in
      let some : n - m ≡ n - b = omega (arith, least, longer) in
      let rest : rest_by b n m ≡ Some (run b (n - b) Removed) = ap (λ (x : Bool). cond x (Some (run b (n - b) Removed)) (cond (ltb b m) (Some (run b (m - b) Added)) None)) (lt-ltb b n longer) in
      let states : rest_list n m ≡ replicate (n - b) (Some Removed) =
      ap (λ (k : ℕ). replicate k (Some Removed) ++ replicate (m - n) (Some Added)) some ∙ ap (λ (k : ℕ). replicate (n - b) (Some Removed) ++ replicate k (Some Added)) none ∙ append-nil (replicate (n - b) (Some Removed)) in
      subst (λ (l : List State). Appends old new (listing_text most (runs_of is_same 0 (compared ++ l)))) (sym states)
      (listed-last most compared tally old now new b (n - b) Removed (sym here) (omega (arith, longer)) t (subst (λ (r : Option (Run Kind)). Appends now new (limited_lines tally.limit (last_runs tally.last r))) rest told))
  | inr not_longer ↦ elim (cases_lt b m) [
    | inl longer ↦
        let none : n - m ≡ 0 = omega (arith, least, not_longer) in
        let some : m - n ≡ m - b = omega (arith, least, not_longer) in
        let rest : rest_by b n m ≡ Some (run b (m - b) Added) =
        ap (λ (x : Bool). cond x (Some (run b (n - b) Removed)) (cond (ltb b m) (Some (run b (m - b) Added)) None)) (le-ltb b n not_longer)
        ∙ ap (λ (x : Bool). cond x (Some (run b (m - b) Added)) None) (lt-ltb b m longer) in
        let states : rest_list n m ≡ replicate (m - b) (Some Added) =
        ap (λ (k : ℕ). replicate k (Some Removed) ++ replicate (m - n) (Some Added)) none ∙ ap (λ (k : ℕ). replicate k (Some Added)) some in
        subst (λ (l : List State). Appends old new (listing_text most (runs_of is_same 0 (compared ++ l)))) (sym states)
        (listed-last most compared tally old now new b (m - b) Added (sym here) (omega (arith, longer)) t (subst (λ (r : Option (Run Kind)). Appends now new (limited_lines tally.limit (last_runs tally.last r))) rest told))
    | inr no_longer ↦
        let none : n - m ≡ 0 = omega (arith, least, not_longer, no_longer) in
        let none' : m - n ≡ 0 = omega (arith, least, not_longer, no_longer) in
        let rest : rest_by b n m ≡ None =
        ap (λ (x : Bool). cond x (Some (run b (n - b) Removed)) (cond (ltb b m) (Some (run b (m - b) Added)) None)) (le-ltb b n not_longer)
        ∙ ap (λ (x : Bool). cond x (Some (run b (m - b) Added)) None) (le-ltb b m no_longer) in
        let states : rest_list n m ≡ [] =
        ap (λ (k : ℕ). replicate k (Some Removed) ++ replicate (m - n) (Some Added)) none ∙ ap (λ (k : ℕ). replicate k (Some Added)) none' in
        subst (λ (l : List State). Appends old new (listing_text most (runs_of is_same 0 l))) (sym (ap (λ (l : List State). compared ++ l) states ∙ append-nil compared))
        (listed-all most compared tally old now new t (subst (λ (r : Option (Run Kind)). Appends now new (limited_lines tally.limit (last_runs tally.last r))) rest told))
  ]
]
