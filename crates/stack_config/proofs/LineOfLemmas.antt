-- The line in which a sector lies, among lines that follow each other.
use Rattle.std.proofs.Common.{◌≡◌, ◌+◌, ◌-◌, ◌≤◌, ◌<◌, ℕ, zero, suc, List, [], ◌∷◌, refl, true, false, Option, Some, None, length, get_or, arith, nat_lt, find}
use Rattle.std.specs.Prelude.{slice_get}
use Rattle.std.specs.List.{enumerate_from}
use Rattle.std.proofs.lemmas.List.Sums.{sum_by-cons}
use Rattle.std.proofs.lemmas.Bool.Decides.{nat_tests}
use Rattle.dm_table.specs.declared.table.Line.{Line}
use Rattle.stack_rules.specs.Names.{table_sectors}
use Rattle.stack_rules.specs.Lines.{Follow, line_in, StartsBy, StartsAfter, IsIn}
use Rattle.stack_rules.proofs.lemmas.ListLemmas.{slice_get-read}

abbrev in_from : ℕ → List Line → ℕ → Option (ℕ × Line)
in_from k lines s = find (λ p. nat_lt s (p.1.start + p.1.length)) (enumerate_from k lines)

-- lines from n on hold no line that starts before n
start-low : (n : ℕ) (lines : List Line) (l : ℕ) (line : Line) → Follow n lines → slice_get lines l ≡ Some line → n ≤ line.start
start-low n [] l line f is = let clash : None ≡ Some line = is in cc
start-low n (x ∷ xs) zero line f is = let same : x ≡ line = cc in let low : n ≤ x.start = omega (arith, f.0) in rw (← same) low
start-low n (x ∷ xs) (suc l) line f is = let low = start-low (n + x.length) xs l line f.2 is in omega (arith, low)

found : (k n : ℕ) (lines : List Line) (s l : ℕ) (line : Line) (at : ℕ) → Follow n lines → slice_get lines l ≡ Some line → line.start ≤ s → s < line.start + line.length
    → at ≡ l + k → in_from k lines s ≡ Some (at, line)
found k n [] s l line at f is low high place = let clash : None ≡ Some line = is in cc
found k n (x ∷ xs) s zero line at f is low high place =
    let same : x ≡ line = cc in
    let passes : nat_lt s (x.start + x.length) ≡ true = rw same (grind (arith, nat_tests)) in
    let here : k ≡ at = omega (arith, place) in
    rw passes (rw (same, here) refl)
found k n (x ∷ xs) s (suc l) line at f is low high place =
    let later = start-low (n + x.length) xs l line f.2 is in
    let fails : nat_lt s (x.start + x.length) ≡ false = past s (x.start + x.length) (omega (arith, later, low, f.0)) in
    rw fails (found (k + 1) (n + x.length) xs s l line at f.2 is low high (omega (arith, place)))
  where
    past : (s n : ℕ) → n ≤ s → nat_lt s n ≡ false
    past s n h = grind (arith, nat_tests)

-- the line that starts at or before s, where the next starts after it
pub line_in-found : (n : ℕ) (lines : List Line) (s l : ℕ) (line : Line) → Follow n lines → slice_get lines l ≡ Some line → line.start ≤ s → StartsAfter lines (l + 1) s → s < n + table_sectors lines
    → (line_in lines s ≡ Some (l, line)) × (s < line.start + line.length)
line_in-found n lines s l line f is low next inside =
    let high = ends n lines l f is (let same : suc l ≡ l + 1 = omega arith in rw same next) inside in (found 0 n lines s l line l f is low high (omega arith), high)
  where
    ends : (n : ℕ) (lines : List Line) (l : ℕ) → Follow n lines → slice_get lines l ≡ Some line → StartsAfter lines (suc l) s → s < n + table_sectors lines → s < line.start + line.length
    ends n [] l f is next inside = let clash : None ≡ Some line = is in cc
    ends n (x ∷ []) zero f is next inside =
        let same : x ≡ line = cc in
        let all = sum_by-cons (λ (line : Line). line.length) x [] in
        let high : s < x.start + x.length = omega (arith, all, f.0, inside) in rw (← same) high
    ends n (x ∷ y ∷ ys) zero f is next inside =
        let same : x ≡ line = cc in
        let after : s < y.start = next y refl in
        let high : s < x.start + x.length = omega (arith, after, f.0, f.2.0) in rw (← same) high
    ends n (x ∷ []) (suc l) f is next inside = let clash : None ≡ Some line = is in cc
    ends n (x ∷ y ∷ ys) (suc l) f is next inside =
        ends (n + x.length) (y ∷ ys) l f.2 is next (let all = sum_by-cons (λ (line : Line). line.length) x (y ∷ ys) in omega (arith, all, inside))

pub IsIn-found : (lines : List Line) (s l : ℕ) (line : Line) → Follow 0 lines → s < table_sectors lines → l < length lines → line ≡ get_or lines l line → StartsBy lines l s → StartsAfter lines (l + 1) s
    → IsIn lines s l (line.length - (s - line.start)) × (line.start ≤ s) × (s < line.start + line.length)
IsIn-found lines s l line f inside within read by after =
    let at = slice_get-read lines l line within read in
    let low = by line at in
    let all = line_in-found 0 lines s l line f at low after (omega (arith, inside)) in
    (record { line = line; is = all.0; at = at; start = low; ends = omega (arith, low, all.1); some = omega (arith, low, all.1) }, low, all.1)
