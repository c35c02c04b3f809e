-- The longest run of the next sectors.
use Rattle.std.proofs.Common.{◌≡◌, ℕ, zero, suc, ◌+◌, ◌-◌, ◌==◌, ◌||◌, Bool, true, false, not, List, [], ◌∷◌, ◌++◌, drop, get_or, length, replicate, take, sym, ap, ◌∙◌, refl, arith, append_assoc}
use Rattle.std.proofs.Math.Seq.{take-length}
use Rattle.std.proofs.lemmas.Bool.{false≢true, ne_eqb}
use Rattle.std.proofs.lemmas.List.{replicate-append-replicate}
use Rattle.rescue_map.specs.declared.map.Run.{Run}
use Rattle.rescue_map.specs.Maps.{marks}
use Rattle.stack_recovery.specs.Stretches.{BeginsOtherwise, extends, is_same_mark}

-- ---- by the marks

other-mark : (mark had : Bool) → is_same_mark mark had ≡ false → mark ≡ not had
other-mark true true e = absurd (false≢true (sym e))
other-mark true false e = refl
other-mark false true e = refl
other-mark false false e = absurd (false≢true (sym e))

same-mark : (mark had : Bool) → is_same_mark mark had ≡ true → mark ≡ had
same-mark true true e = refl
same-mark true false e = absurd (false≢true e)
same-mark false true e = absurd (false≢true e)
same-mark false false e = refl

-- a run that has a sector
by-mark : (n : ℕ) (same : Bool) → ((suc n == 0) || same) ≡ same
by-mark n same = ap (λ (b : Bool). b || same) (ne_eqb (suc n) 0 (λ e. omega (arith, e)))

ends-by : (count : ℕ) (had mark : Bool) (more : List Bool) → ((count == 0) || is_same_mark mark had) ≡ false → BeginsOtherwise had (replicate count mark ++ more)
ends-by zero had mark more e = absurd (false≢true (sym e))
ends-by (suc n) had mark more e = other-mark mark had (sym (by-mark n (is_same_mark mark had)) ∙ e)

joins : (a n : ℕ) (had : Bool) (more : List Bool) → replicate a had ++ (replicate n had ++ more) ≡ replicate (a + n) had ++ more
joins a n had more = sym (append_assoc (replicate a had) (replicate n had) more) ∙ ap (λ (l : List Bool). l ++ more) (replicate-append-replicate a n had)

grows-by : (a n : ℕ) (had mark : Bool) (more : List Bool) → ((n == 0) || is_same_mark mark had) ≡ true → replicate a had ++ (replicate n mark ++ more) ≡ replicate (a + n) had ++ more
grows-by a zero had mark more e = let same : a ≡ a + 0 = omega arith in ap (λ (k : ℕ). replicate k had ++ more) same
grows-by a (suc n) had mark more e =
    ap (λ (m : Bool). replicate a had ++ (replicate (suc n) m ++ more)) (same-mark mark had (sym (by-mark n (is_same_mark mark had)) ∙ e)) ∙ joins a (suc n) had more

-- ---- by the runs

-- what follows a run that isn't extended
pub stretch-ends : (run : Run) (rest : List Run) → extends run rest ≡ false → BeginsOtherwise run.had (marks rest)
stretch-ends run [] e = tt
stretch-ends run (next ∷ more) e = ends-by next.count run.had next.had (marks more) e

-- a run that is extended by the next one
pub stretch-next : (run : Run) (rest : List Run) (none : Run) → extends run rest ≡ true → replicate (run.count + (get_or rest 0 none).count) run.had ++ marks (take (length rest - 1) (drop 1 rest)) ≡ replicate run.count run.had ++ marks rest
stretch-next run [] none e = absurd (false≢true e)
stretch-next run (next ∷ more) none e =
    let left : length (next ∷ more) - 1 ≡ length more = omega arith in
    ap (λ (k : ℕ). replicate (run.count + next.count) run.had ++ marks (take k more)) left
    ∙ ap (λ (l : List Run). replicate (run.count + next.count) run.had ++ marks l) (take-length more)
    ∙ sym (grows-by run.count next.count run.had next.had (marks more) e)
