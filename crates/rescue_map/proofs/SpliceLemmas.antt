-- Sectors that are moved from one map to another, and totals.
use Rattle.std.proofs.Common.{◌≡◌, ℕ, zero, suc, ◌+◌, ◌-◌, ◌≤◌, Bool, true, false, List, ◌∷◌, ◌++◌, length, take, drop, replicate, sym, ap, ◌∙◌, append_assoc, arith}
use Rattle.std.proofs.lemmas.List.{drop-drop, length-append, length-drop, length-replicate, replicate-append-replicate, take_all}
use Rattle.rescue_map.specs.declared.map.Run.{Run}
use Rattle.rescue_map.specs.declared.stage.Stage.{Stage}
use Rattle.rescue_map.specs.declared.totals.Totals.{Totals}
use Rattle.rescue_map.specs.declared.splicing.Span.{Span}
use Rattle.rescue_map.specs.Maps.{spliced_marks, with_run}

-- the first of some alike sectors
pub replicate-parts : {A : Type 0} (n m : ℕ) (h : A) (rest : List A) → n ≤ m → replicate m h ++ rest ≡ replicate n h ++ (replicate (m - n) h ++ rest)
replicate-parts {A} n m h rest le =
    let whole : n + (m - n) ≡ m = omega (arith, le) in
    ap (λ (k : ℕ). replicate k h ++ rest) (sym whole)
    ∙ ap (λ (l : List A). l ++ rest) (sym (replicate-append-replicate n (m - n) h))
    ∙ append_assoc (replicate n h) (replicate (m - n) h) rest

take-front : (n m : ℕ) (h : Bool) (rest : List Bool) → n ≤ m → take m (replicate n h ++ rest) ≡ replicate n h ++ take (m - n) rest
take-front zero m h rest le = let same : m ≡ m - 0 = omega arith in ap (λ (k : ℕ). take k rest) same
take-front (suc n) zero h rest le = absurd (omega (arith, le))
take-front (suc n) (suc m) h rest le =
    let same : m - n ≡ suc m - suc n = omega arith in
    ap (λ (l : List Bool). h ∷ l) (take-front n m h rest (omega (arith, le))) ∙ ap (λ (k : ℕ). h ∷ (replicate n h ++ take k rest)) same

drop-front : (n m : ℕ) (h : Bool) (rest : List Bool) → n ≤ m → drop m (replicate n h ++ rest) ≡ drop (m - n) rest
drop-front zero m h rest le = let same : m ≡ m - 0 = omega arith in ap (λ (k : ℕ). drop k rest) same
drop-front (suc n) zero h rest le = absurd (omega (arith, le))
drop-front (suc n) (suc m) h rest le =
    let same : m - n ≡ suc m - suc n = omega arith in drop-front n m h rest (omega (arith, le)) ∙ ap (λ (k : ℕ). drop k rest) same

module _ (now next : List Bool) (n m : ℕ) (h : Bool) (le : n ≤ m) (is : now ≡ replicate n h ++ next) where
  pub moved-more : (old new : List Bool) → new ≡ old ++ replicate n h → new ++ take (m - n) next ≡ old ++ take m now
  moved-more old new e =
      ap (λ (l : List Bool). l ++ take (m - n) next) e ∙ append_assoc old (replicate n h) (take (m - n) next)
      ∙ ap (λ (l : List Bool). old ++ l) (sym (ap (take m) is ∙ take-front n m h next le))

  pub rest-more : drop (m - n) next ≡ drop m now
  rest-more = sym (ap (drop m) is ∙ drop-front n m h next le)

  pub enough-more : m ≤ length now → m - n ≤ length next
  enough-more enough = omega (arith, enough, le, ap length is, length-append (replicate n h) next, length-replicate {A = Bool} n h)

pub length-more : (old new : List Bool) (n : ℕ) (h : Bool) → new ≡ old ++ replicate n h → length new ≡ length old + n
length-more old new n h e = ap length e ∙ length-append old (replicate n h) ∙ ap (λ (k : ℕ). length old + k) (length-replicate {A = Bool} n h)

-- the sectors of all kinds
abbrev pub total : Totals → ℕ
total t = t.had + t.bad + t.left

-- a run more
sum-either : (t : Totals) (count : ℕ) (had lost : Bool) (stage : Stage) → total (with_run t (record { count = count; had = had; lost = lost; stage = stage })) ≡ total t + count
sum-either t count true lost stage = omega arith
sum-either t count false true stage = omega arith
sum-either t count false false stage = omega arith

pub sum-more : (t : Totals) (r : Run) → total (with_run t r) ≡ total t + r.count
sum-more t r = sum-either t r.count r.had r.lost r.stage

-- ---- a span of one map in another one

pub spliced-whole : (span : Span) (sectors : ℕ) (around within m1 m2 m3 outer1 inner1 outer2 : List Bool) → length around ≡ sectors → span.first + span.count ≤ sectors
    → m1 ≡ take span.first around → outer1 ≡ drop span.first around → inner1 ≡ drop span.first within → m2 ≡ m1 ++ take span.count inner1
    → outer2 ≡ drop span.count outer1 → m3 ≡ m2 ++ take (sectors - span.first - span.count) outer2 → m3 ≡ spliced_marks span around within
spliced-whole span sectors around within m1 m2 m3 outer1 inner1 outer2 len inside e1 o1 i1 e2 o2 e3 =
    let f : ℕ = span.first in
    let c : ℕ = span.count in
    let rest : List Bool = drop (f + c) around in
    let behind : outer2 ≡ rest = o2 ∙ ap (drop c) o1 ∙ drop-drop c f around in
    let tail : take (sectors - f - c) outer2 ≡ rest = ap (take (sectors - f - c)) behind ∙ take_all (sectors - f - c) rest (omega (arith, len, length-drop (f + c) around)) in
    e3 ∙ ap (λ (l : List Bool). m2 ++ l) tail
    ∙ ap (λ (l : List Bool). l ++ rest) (e2 ∙ ap (λ (l : List Bool). m1 ++ take c l) i1)
    ∙ ap (λ (l : List Bool). (l ++ take c (drop f within)) ++ rest) e1
    ∙ append_assoc (take f around) (take c (drop f within)) rest
