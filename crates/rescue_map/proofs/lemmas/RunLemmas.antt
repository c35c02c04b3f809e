-- Runs of a map, and the marks of their sectors.
use Rattle.std.proofs.Common.{◌≡◌, ℕ, zero, suc, ◌+◌, ◌≤◌, ◌<◌, ◌^◌, Bool, cond, List, [], ◌∷◌, ◌++◌, length, take, drop, get_or, set, replicate, Result, Ok, Err, refl, sym, ap, subst, ◌∙◌, append-nil, append_assoc, take-append-drop, arith}
use Rattle.std.specs.Prelude.{OnErr, OnOk}
use Rattle.std.specs.List.{flat_map}
use Rattle.std.proofs.lemmas.List.{length-append, length-replicate, length-set, replicate-append-replicate, take_all, take_more, take_more_set}
use Rattle.std.proofs.lemmas.List.Concat.{flat_map-append}
use Rattle.std.proofs.lemmas.List.Elements.{All-nil, All-cons, All-append, All-set}
use Rattle.rescue_map.specs.declared.map.Run.{Run}
use Rattle.rescue_map.specs.declared.stage.Stage.{Stage}
use Rattle.rescue_map.specs.declared.status.Status.{Status}
use Rattle.rescue_map.specs.declared.status.Status.TheVariants.{Bad, Recovered}
use Rattle.rescue_map.specs.Maps.{AreRuns, losts, marks}
use Rattle.rescue_map.specs.Stages.{run_status, stage_status, statuses}

-- for each sector, what holds of its run
abbrev pub flags : {A : Type 0} → (Run → A) → List Run → List A
flags f runs = flat_map (λ r. replicate r.count (f r)) runs

pub flags-push : {A : Type 0} (f : Run → A) (runs : List Run) (r : Run) → flags f (runs ++ r ∷ []) ≡ flags f runs ++ replicate r.count (f r)
flags-push {A} f runs r = flat_map-append (λ (r : Run). replicate r.count (f r)) runs (r ∷ []) ∙ ap (λ (l : List A). flags f runs ++ l) (append-nil (replicate r.count (f r)))

pub marks-push : (runs : List Run) (r : Run) → marks (runs ++ r ∷ []) ≡ marks runs ++ replicate r.count r.had
marks-push runs r = flags-push (λ (r : Run). r.had) runs r

-- as many sectors are bad or not as were recovered or not
pub losts-length : (runs : List Run) → length (losts runs) ≡ length (marks runs)
losts-length [] = refl
losts-length (run ∷ more) =
    length-append (replicate run.count run.lost) (losts more) ∙ ap (λ (n : ℕ). n + length (losts more)) (length-replicate {A = Bool} run.count run.lost)
    ∙ ap (λ (n : ℕ). run.count + n) (losts-length more)
    ∙ ap (λ (n : ℕ). n + length (marks more)) (sym (length-replicate {A = Bool} run.count run.had)) ∙ sym (length-append (replicate run.count run.had) (marks more))

-- each has a status
pub statuses-length : (runs : List Run) → length (statuses runs) ≡ length (marks runs)
statuses-length [] = refl
statuses-length (run ∷ more) =
    length-append (replicate run.count (run_status run)) (statuses more) ∙ ap (λ (n : ℕ). n + length (statuses more)) (length-replicate {A = Status} run.count (run_status run))
    ∙ ap (λ (n : ℕ). run.count + n) (statuses-length more)
    ∙ ap (λ (n : ℕ). n + length (marks more)) (sym (length-replicate {A = Bool} run.count run.had)) ∙ sym (length-append (replicate run.count run.had) (marks more))

length-push : (runs : List Run) (r : Run) → length (marks (runs ++ r ∷ [])) ≡ length (marks runs) + r.count
length-push runs r = ap length (marks-push runs r) ∙ length-append (marks runs) (replicate r.count r.had) ∙ ap (λ (n : ℕ). length (marks runs) + n) (length-replicate {A = Bool} r.count r.had)

-- the sectors of the first runs, and of the next one
pub length-take : (runs : List Run) (i : ℕ) (d : Run) → i < length runs → length (marks (take (i + 1) runs)) ≡ length (marks (take i runs)) + (get_or runs i d).count
length-take runs i d inside = ap (λ (l : List Run). length (marks l)) (take_more runs i d inside) ∙ length-push (take i runs) (get_or runs i d)

pub length-within : (runs : List Run) (k : ℕ) → length (marks (take k runs)) ≤ length (marks runs)
length-within runs k =
    let parts : marks runs ≡ marks (take k runs) ++ marks (drop k runs) = ap marks (sym (take-append-drop k runs)) ∙ flat_map-append (λ (r : Run). replicate r.count r.had) (take k runs) (drop k runs) in
    omega (arith, ap length parts, length-append (marks (take k runs)) (marks (drop k runs)))

pub are_runs-push : (runs : List Run) (r : Run) → AreRuns runs → 1 ≤ r.count → length (marks runs) + r.count ≤ 2 ^ 54 → AreRuns (runs ++ r ∷ [])
are_runs-push runs r p some room = record {
  some = All-append (λ (x : Run). 1 ≤ x.count) runs (r ∷ []) p.some (All-cons (λ (x : Run). 1 ≤ x.count) r [] some (All-nil (λ (x : Run). 1 ≤ x.count)));
  few = omega (arith, length-push runs r, room);
}

-- a run with more sectors
abbrev pub longer : Run → ℕ → Run
longer r n = record { count = r.count + n; had = r.had; lost = r.lost; stage = r.stage }

-- the last run and more of its kind
pub flags-grown : {A : Type 0} (f : Run → A) (runs : List Run) (k n : ℕ) (d : Run) → k + 1 ≡ length runs → f (longer (get_or runs k d) n) ≡ f (get_or runs k d)
    → flags f (set runs k (longer (get_or runs k d) n)) ≡ flags f runs ++ replicate n (f (get_or runs k d))
flags-grown {A} f runs k n d e alike =
    let last : Run = get_or runs k d in
    let grown : Run = longer last n in
    let inside : k < length runs = omega (arith, e) in
    let front : List Run = take k runs in
    let new : set runs k grown ≡ front ++ grown ∷ [] = sym (take_all (k + 1) (set runs k grown) (omega (arith, e, length-set runs k grown))) ∙ take_more_set runs k grown inside in
    let old : runs ≡ front ++ last ∷ [] = sym (take_all (k + 1) runs (omega (arith, e))) ∙ take_more runs k d inside in
    ap (flags f) new ∙ flags-push f front grown
    ∙ ap (λ (h : A). flags f front ++ replicate (last.count + n) h) alike
    ∙ ap (λ (l : List A). flags f front ++ l) (sym (replicate-append-replicate last.count n (f last)))
    ∙ sym (append_assoc (flags f front) (replicate last.count (f last)) (replicate n (f last)))
    ∙ ap (λ (l : List A). l ++ replicate n (f last)) (sym (flags-push f front last) ∙ ap (flags f) (sym old))

pub marks-grown : (runs : List Run) (k n : ℕ) (d : Run) → k + 1 ≡ length runs → marks (set runs k (longer (get_or runs k d) n)) ≡ marks runs ++ replicate n (get_or runs k d).had
marks-grown runs k n d e = flags-grown (λ (r : Run). r.had) runs k n d e refl

pub losts-grown : (runs : List Run) (k n : ℕ) (d : Run) → k + 1 ≡ length runs → losts (set runs k (longer (get_or runs k d) n)) ≡ losts runs ++ replicate n (get_or runs k d).lost
losts-grown runs k n d e = flags-grown (λ (r : Run). r.lost) runs k n d e refl

pub statuses-grown : (runs : List Run) (k n : ℕ) (d : Run) → k + 1 ≡ length runs → statuses (set runs k (longer (get_or runs k d) n)) ≡ statuses runs ++ replicate n (run_status (get_or runs k d))
statuses-grown runs k n d e = flags-grown run_status runs k n d e refl

pub are_runs-grown : (runs : List Run) (k n : ℕ) (d : Run) → k + 1 ≡ length runs → AreRuns runs → 1 ≤ n → length (marks runs) + n ≤ 2 ^ 54 → AreRuns (set runs k (longer (get_or runs k d) n))
are_runs-grown runs k n d e p some room =
    let last : Run = get_or runs k d in
    let grown : Run = longer last n in
    let whole : length (marks (set runs k grown)) ≡ length (marks runs) + n = ap length (marks-grown runs k n d e) ∙ length-append (marks runs) (replicate n last.had) ∙ ap (λ (m : ℕ). length (marks runs) + m) (length-replicate {A = Bool} n last.had) in
    record {
      some = All-set (λ (x : Run). 1 ≤ x.count) runs k grown (omega (arith, some)) p.some;
      few = omega (arith, whole, room);
    }

-- a run was appended, or none
pub are_runs-either : {A E : Type 0} (runs new : List Run) (r : Run) (result : Result A E) → OnOk result (new ≡ runs ++ r ∷ []) → OnErr result (new ≡ runs) → AreRuns runs → 1 ≤ r.count
    → length (marks runs) + r.count ≤ 2 ^ 54 → AreRuns new
are_runs-either runs new r (Ok x) put same p some room = subst AreRuns (sym put) (are_runs-push runs r p some room)
are_runs-either runs new r (Err e) put same p some room = subst AreRuns (sym same) p

-- an element, whatever replaces a missing one
pub get_or_same : (runs : List Run) (k : ℕ) (a b : Run) → k < length runs → get_or runs k a ≡ get_or runs k b
get_or_same [] k a b inside = absurd (omega (arith, inside))
get_or_same (r ∷ runs) zero a b inside = refl
get_or_same (r ∷ runs) (suc k) a b inside = get_or_same runs k a b (omega (arith, inside))

-- runs of the same kind have the same status
pub same_status : (a b : Run) → a.had ≡ b.had → a.lost ≡ b.lost → a.stage ≡ b.stage → run_status a ≡ run_status b
same_status a b had lost stage =
    ap (λ (h : Bool). cond h Recovered (cond a.lost Bad (stage_status a.stage))) had
    ∙ ap (λ (l : Bool). cond b.had Recovered (cond l Bad (stage_status a.stage))) lost
    ∙ ap (λ (s : Stage). cond b.had Recovered (cond b.lost Bad (stage_status s))) stage
