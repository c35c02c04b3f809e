-- A span of one map in another one.
use Rattle.std.proofs.Common.{◌≡◌, ℕ, ◌+◌, ◌-◌, ◌<◌, ◌≤◌, ◌&&◌, Bool, true, false, List, ◌++◌, length, take, drop, ap, ◌∙◌, arith}
use Rattle.std.specs.Prelude.{nat_lt}
use Rattle.std.proofs.lemmas.Bool.{le-leb, le-ltb, lt-leb, lt-ltb}
use Rattle.std.proofs.lemmas.List.{length-append, length-drop, length-take-le}
use Rattle.rescue_map.specs.declared.splicing.Span.{Span}
use Rattle.rescue_map.specs.Maps.{spliced_marks}
use Rattle.rescue_map.specs.Steps.{is_inside}

pub spliced-length : (span : Span) (sectors : ℕ) (around within : List Bool) → length around ≡ sectors → span.first + span.count ≤ length within → span.first + span.count ≤ sectors
    → length (spliced_marks span around within) ≡ sectors
spliced-length span sectors around within len len' inside =
    let f : ℕ = span.first in
    let c : ℕ = span.count in
    let front : length (take f around) ≡ f = length-take-le f around (omega (arith, len, inside)) in
    let middle : length (take c (drop f within)) ≡ c = length-take-le c (drop f within) (omega (arith, len', length-drop f within)) in
    length-append (take f around) (take c (drop f within) ++ drop (f + c) around)
    ∙ omega (arith, front, middle, len, inside, length-append (take c (drop f within)) (drop (f + c) around), length-drop (f + c) around)

-- ---- whether a sector is inside a span

pub inside-before : (span : Span) (s : ℕ) → s < span.first → is_inside span s ≡ false
inside-before span s low = ap (λ (b : Bool). b && nat_lt (s - span.first) span.count) (lt-leb span.first s low)

pub inside-within : (span : Span) (s : ℕ) → span.first ≤ s → s < span.first + span.count → is_inside span s ≡ true
inside-within span s from to = ap (λ (b : Bool). b && nat_lt (s - span.first) span.count) (le-leb span.first s from) ∙ lt-ltb (s - span.first) span.count (omega (arith, from, to))

pub inside-behind : (span : Span) (s : ℕ) → span.first + span.count ≤ s → is_inside span s ≡ false
inside-behind span s past = ap (λ (b : Bool). b && nat_lt (s - span.first) span.count) (le-leb span.first s (omega (arith, past))) ∙ le-ltb (s - span.first) span.count (omega (arith, past))
