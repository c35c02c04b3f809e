-- The longest runs, while blocks are counted from the first to the last.
use Rattle.std.proofs.Common.{◌≡◌, ℕ, zero, suc, ◌+◌, ◌≤◌, ◌<◌, ◌==◌, ◌&&◌, Bool, true, false, cond, List, [], ◌∷◌, ◌++◌, length, replicate, Option, Some, None, refl, sym, ap, ◌∙◌, subst, arith}
use Rattle.std.proofs.lemmas.Bool.{eqb-true, eq-eqb, ne_eqb, and_from, and_left, and_right}
use Rattle.std.proofs.lemmas.List.{append-nil, append_assoc, length-append, length-replicate}
use Rattle.runs.specs.declared.run.Run.{Run}
use Rattle.runs.specs.Runs.{IsEquality, run, longer, follows, run_before, runs_of}
use Rattle.runs.specs.Tallies.{EndsAt, listed, closed_from, opened_from, closed_by, opened_by}

-- no run of these continues another
abbrev IsApart : {K : Type 0} → (K → K → Bool) → Run K → List (Run K) → Type 0
IsApart same a [] = Unit {0}
IsApart same a (x ∷ more) = follows same a x ≡ false

-- the first of these begins there, and is of that kind
abbrev BeginsBy : {K : Type 0} → ℕ → K → List (Run K) → Type 0
BeginsBy s f [] = ⊥
BeginsBy s f (x ∷ more) = (x.first ≡ s) × (x.kind ≡ f)

-- the first of these begins there or later
abbrev BeginsFrom : {K : Type 0} → ℕ → List (Run K) → Type 0
BeginsFrom s [] = Unit {0}
BeginsFrom s (x ∷ more) = s ≤ x.first

-- the last run, which may still grow, before later ones
abbrev pub run_behind : {K : Type 0} → (K → K → Bool) → Option (Run K) → List (Run K) → List (Run K)
run_behind same None rs = rs
run_behind same (Some last) rs = run_before same last rs

-- the runs of the blocks so far: those that don't grow any more, and the last one, which may
pub record IsTallied {K : Type 0} (same : K → K → Bool) (states : List (Option K)) (closed : List (Run K)) (last : Option (Run K)) : Type 0 where
  pub runs : (rest : List (Option K)) → runs_of same 0 (states ++ rest) ≡ closed ++ run_behind same last (runs_of same (length states) rest)
  pub ends : EndsAt last (length states)

module _ {K : Type 0} (same : K → K → Bool) (is : IsEquality same) where
  follows-next : (s k m : ℕ) (f : K) → follows same (run s k f) (run (s + k) m f) ≡ true
  follows-next s k m f = and_from ((s + k) == (s + k)) (same f f) (eq-eqb (s + k) (s + k) refl) (is.to_itself f)

  -- two runs of one fault, one after the other
  run_before-next : (s k n : ℕ) (f : K) (rs : List (Run K)) → run_before same (run s k f) (run_before same (run (s + k) n f) rs) ≡ run_before same (run s (k + n) f) rs
  run_before-next s k n f [] = ap (λ (b : Bool). cond b (run s (k + n) f ∷ []) (run s k f ∷ run (s + k) n f ∷ [])) (follows-next s k n f)
  run_before-next s k n f (x ∷ more) = go (follows same (run (s + k) n f) x) refl
    where
      ends : s + (k + n) ≡ s + k + n
      ends = omega arith

      both : follows same (run s (k + n) f) x ≡ follows same (run (s + k) n f) x
      both = ap (λ (e : ℕ). (x.first == e) && same f x.kind) ends

      go : (b : Bool) → follows same (run (s + k) n f) x ≡ b → run_before same (run s k f) (run_before same (run (s + k) n f) (x ∷ more)) ≡ run_before same (run s (k + n) f) (x ∷ more)
      go true e =
          let inner : run_before same (run (s + k) n f) (x ∷ more) ≡ run (s + k) (n + x.count) f ∷ more = ap (λ (b : Bool). cond b (run (s + k) (n + x.count) f ∷ more) (run (s + k) n f ∷ x ∷ more)) e in
          let sums : k + (n + x.count) ≡ k + n + x.count = omega arith in
          ap (run_before same (run s k f)) inner
          ∙ ap (λ (b : Bool). cond b (run s (k + (n + x.count)) f ∷ more) (run s k f ∷ run (s + k) (n + x.count) f ∷ more)) (follows-next s k (n + x.count) f)
          ∙ ap (λ (m : ℕ). run s m f ∷ more) sums
          ∙ sym (ap (λ (b : Bool). cond b (run s (k + n + x.count) f ∷ more) (run s (k + n) f ∷ x ∷ more)) (both ∙ e))
      go false e =
          let inner : run_before same (run (s + k) n f) (x ∷ more) ≡ run (s + k) n f ∷ x ∷ more = ap (λ (b : Bool). cond b (run (s + k) (n + x.count) f ∷ more) (run (s + k) n f ∷ x ∷ more)) e in
          ap (run_before same (run s k f)) inner
          ∙ ap (λ (b : Bool). cond b (run s (k + n) f ∷ x ∷ more) (run s k f ∷ run (s + k) n f ∷ x ∷ more)) (follows-next s k n f)
          ∙ sym (ap (λ (b : Bool). cond b (run s (k + n + x.count) f ∷ more) (run s (k + n) f ∷ x ∷ more)) (both ∙ e))

  run_before-apart : (a : Run K) (rs : List (Run K)) → IsApart same a rs → run_before same a rs ≡ a ∷ rs
  run_before-apart a [] h = refl
  run_before-apart a (x ∷ more) h = ap (λ (b : Bool). cond b (run a.first (a.count + x.count) a.kind ∷ more) (a ∷ x ∷ more)) h

  run_before-begins : (s k : ℕ) (f : K) (rs : List (Run K)) → BeginsBy s f (run_before same (run s k f) rs)
  run_before-begins s k f [] = (refl, refl)
  run_before-begins s k f (x ∷ more) = go (follows same (run s k f) x)
    where
      go : (b : Bool) → BeginsBy s f (cond b (run s (k + x.count) f ∷ more) (run s k f ∷ x ∷ more))
      go true = (refl, refl)
      go false = (refl, refl)

  begins-from : (s : ℕ) (f : K) (rs : List (Run K)) → BeginsBy s f rs → BeginsFrom s rs
  begins-from s f [] h = absurd h
  begins-from s f (x ∷ more) h = omega (arith, h.0)

  begins-later : (s t : ℕ) (rs : List (Run K)) → s ≤ t → BeginsFrom t rs → BeginsFrom s rs
  begins-later s t [] le h = tt
  begins-later s t (x ∷ more) le h = omega (arith, le, h)

  runs_of-from : (s : ℕ) (states : List (Option K)) → BeginsFrom s (runs_of same s states)
  runs_of-from s [] = tt
  runs_of-from s (None ∷ more) = begins-later s (suc s) (runs_of same (suc s) more) (omega arith) (runs_of-from (suc s) more)
  runs_of-from s (Some f ∷ more) = begins-from s f (run_before same (run s 1 f) (runs_of same (suc s) more)) (run_before-begins s 1 f (runs_of same (suc s) more))

  apart-behind : (a : Run K) (t : ℕ) (rs : List (Run K)) → a.first + a.count < t → BeginsFrom t rs → IsApart same a rs
  apart-behind a t [] low h = tt
  apart-behind a t (x ∷ more) low h = and_left (x.first == (a.first + a.count)) (same a.kind x.kind) (ne_eqb x.first (a.first + a.count) (λ e. omega (arith, e, low, h)))

  apart-fault : (a : Run K) (s : ℕ) (f : K) (rs : List (Run K)) → same a.kind f ≡ false → BeginsBy s f rs → IsApart same a rs
  apart-fault a s f [] differ h = absurd h
  apart-fault a s f (x ∷ more) differ h = and_right (x.first == (a.first + a.count)) (same a.kind x.kind) (ap (same a.kind) h.1 ∙ differ)

  -- ---- runs of states

  runs_of-had : (s n : ℕ) (rest : List (Option K)) → runs_of same s (replicate n None ++ rest) ≡ runs_of same (s + n) rest
  runs_of-had s zero rest = let at : s + 0 ≡ s = omega arith in ap (λ (t : ℕ). runs_of same t rest) (sym at)
  runs_of-had s (suc n) rest = let at : suc s + n ≡ s + suc n = omega arith in runs_of-had (suc s) n rest ∙ ap (λ (t : ℕ). runs_of same t rest) at

  runs_of-lost : (s n : ℕ) (f : K) (rest : List (Option K)) → runs_of same s (replicate (suc n) (Some f) ++ rest) ≡ run_before same (run s (suc n) f) (runs_of same (s + suc n) rest)
  runs_of-lost s zero f rest = let at : suc s ≡ s + 1 = omega arith in ap (λ (t : ℕ). run_before same (run s 1 f) (runs_of same t rest)) at
  runs_of-lost s (suc n) f rest =
      let next : suc s ≡ s + 1 = omega arith in
      let end : suc s + suc n ≡ s + suc (suc n) = omega arith in
      let count : 1 + suc n ≡ suc (suc n) = omega arith in
      ap (run_before same (run s 1 f)) (runs_of-lost (suc s) n f rest)
      ∙ ap (λ (t : ℕ). run_before same (run s 1 f) (run_before same (run t (suc n) f) (runs_of same (suc s + suc n) rest))) next
      ∙ run_before-next s 1 (suc n) f (runs_of same (suc s + suc n) rest)
      ∙ ap (λ (t : ℕ). run_before same (run s (1 + suc n) f) (runs_of same t rest)) end
      ∙ ap (λ (m : ℕ). run_before same (run s m f) (runs_of same (s + suc (suc n)) rest)) count

  pub tallied-none : IsTallied same [] [] None
  tallied-none = record { runs = λ rest. refl; ends = tt }

  close-behind : (last : Option (Run K)) (s t : ℕ) (rs : List (Run K)) → EndsAt last s → s < t → BeginsFrom t rs → run_behind same last rs ≡ listed last ++ rs
  close-behind None s t rs ends low h = refl
  close-behind (Some a) s t rs ends low h = run_before-apart a rs (apart-behind a t rs (omega (arith, ends, low)) h)

  length-states : (states : List (Option K)) (n : ℕ) (x : Option K) → length (states ++ replicate n x) ≡ length states + n
  length-states states n x = length-append states (replicate n x) ∙ ap (λ (m : ℕ). length states + m) (length-replicate n x)

  pub tallied-had : (states : List (Option K)) (closed : List (Run K)) (last : Option (Run K)) (n : ℕ) → 1 ≤ n → IsTallied same states closed last → IsTallied same (states ++ replicate n None) (closed ++ listed last) None
  tallied-had states closed last n some t = record {
    runs = λ rest.
        let end : ℕ = length states + n in
        let rs : List (Run K) = runs_of same (length states + n) rest in
        ap (runs_of same 0) (append_assoc states (replicate n None) rest) ∙ t.runs (replicate n None ++ rest)
        ∙ ap (λ (l : List (Run K)). closed ++ run_behind same last l) (runs_of-had (length states) n rest)
        ∙ ap (λ (l : List (Run K)). closed ++ l) (close-behind last (length states) end rs t.ends (omega (arith, some)) (runs_of-from end rest))
        ∙ sym (append_assoc closed (listed last) rs)
        ∙ ap (λ (k : ℕ). (closed ++ listed last) ++ runs_of same k rest) (sym (length-states states n None));
    ends = tt;
  }

  grow : (last : Option (Run K)) (s m : ℕ) (f : K) (rs : List (Run K)) → EndsAt last s
      → run_behind same last (run_before same (run s m f) rs) ≡ closed_by same last (run s m f) ++ run_before same (opened_by same last (run s m f)) rs
  grow None s m f rs ends = refl
  grow (Some a) s m f rs ends = go (same a.kind f) refl
    where
      go : (b : Bool) → same a.kind f ≡ b → run_before same a (run_before same (run s m f) rs)
          ≡ closed_from (Some a) (cond b (Some (run a.first (a.count + m) a.kind)) None) ++ run_before same (opened_from (run s m f) (cond b (Some (run a.first (a.count + m) a.kind)) None)) rs
      go true e =
          let fault : f ≡ a.kind = sym (is.equal a.kind f e) in
          ap (λ (t : ℕ). run_before same a (run_before same (run t m f) rs)) (sym ends)
          ∙ ap (λ (g : K). run_before same a (run_before same (run (a.first + a.count) m g) rs)) fault
          ∙ run_before-next a.first a.count m a.kind rs
      go false e = run_before-apart a (run_before same (run s m f) rs) (apart-fault a s f (run_before same (run s m f) rs) e (run_before-begins s m f rs))

  ends-grown : (last : Option (Run K)) (s m : ℕ) (f : K) → EndsAt last s → EndsAt (Some (opened_by same last (run s m f))) (s + m)
  ends-grown None s m f ends = refl
  ends-grown (Some a) s m f ends = go (same a.kind f)
    where
      go : (b : Bool) → EndsAt (Some (opened_from (run s m f) (cond b (Some (run a.first (a.count + m) a.kind)) None))) (s + m)
      go true = omega (arith, ends)
      go false = refl

  pub tallied-lost : (states : List (Option K)) (closed : List (Run K)) (last : Option (Run K)) (s n : ℕ) (f : K) → s ≡ length states → 1 ≤ n → IsTallied same states closed last
      → IsTallied same (states ++ replicate n (Some f)) (closed ++ closed_by same last (run s n f)) (Some (opened_by same last (run s n f)))
  tallied-lost states closed last s zero f at some t = absurd (omega (arith, some))
  tallied-lost states closed last s (suc n) f at some t = record {
    runs = λ rest.
        let m : ℕ = suc n in
        let rs : List (Run K) = runs_of same (length states + m) rest in
        ap (runs_of same 0) (append_assoc states (replicate m (Some f)) rest) ∙ t.runs (replicate m (Some f) ++ rest)
        ∙ ap (λ (l : List (Run K)). closed ++ run_behind same last l) (runs_of-lost (length states) n f rest)
        ∙ ap (λ (k : ℕ). closed ++ run_behind same last (run_before same (run k m f) rs)) (sym at)
        ∙ ap (λ (l : List (Run K)). closed ++ l) (grow last s m f rs (subst (EndsAt last) (sym at) t.ends))
        ∙ sym (append_assoc closed (closed_by same last (run s m f)) (run_before same (opened_by same last (run s m f)) rs))
        ∙ ap (λ (k : ℕ). (closed ++ closed_by same last (run s m f)) ++ run_before same (opened_by same last (run s m f)) (runs_of same k rest)) (sym (length-states states m (Some f)));
    ends = subst (EndsAt (Some (opened_by same last (run s (suc n) f)))) (ap (λ (k : ℕ). k + suc n) at ∙ sym (length-states states (suc n) (Some f))) (ends-grown last s (suc n) f (subst (EndsAt last) (sym at) t.ends));
  }

  behind-none : (last : Option (Run K)) → run_behind same last [] ≡ listed last
  behind-none None = refl
  behind-none (Some a) = refl

  -- all runs, once the last is closed
  pub tallied-all : (states : List (Option K)) (closed : List (Run K)) (last : Option (Run K)) → IsTallied same states closed last → runs_of same 0 states ≡ closed ++ listed last
  tallied-all states closed last t = ap (runs_of same 0) (sym (append-nil states)) ∙ t.runs [] ∙ ap (λ (l : List (Run K)). closed ++ l) (behind-none last)
