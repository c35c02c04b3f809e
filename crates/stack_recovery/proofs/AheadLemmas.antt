-- The sectors ahead of which some were had before, and the map that is made.
use Rattle.std.proofs.Common.{◌≡◌, ◌⊎◌, inl, inr, ℕ, zero, suc, ◌+◌, ◌<◌, ◌≤◌, Bool, true, false, List, [], ◌∷◌, ◌++◌, length, drop, get_or, map, replicate, Option, Some, None, is_some, refl, sym, ap, ◌∙◌, arith}
use Rattle.std.specs.List.{slice_index_or}
use Rattle.std.proofs.lemmas.List.{drop-drop, get_or-drop, get_or-replicate, get_or_append_left, length-append, length-drop, length-replicate}
use Rattle.rescue_map.specs.Aheads.{marks_ahead}
use Rattle.rescue_map.specs.declared.ahead.Ahead.{Ahead}
use Rattle.rescue_map.specs.declared.map.Run.{Run}
use Rattle.rescue_map.specs.Maps.{marks}
use Rattle.stack_recovery.specs.Recoveries.{AreMarksNoted, AreNoted, NotesMore, is_had}
use Rattle.stack_recovery.specs.Stretches.{BeginsOtherwise}
use Rattle.stack_recovery.specs.Surveys.{AreMarked, SectorState}

-- some of the next sectors, which are alike
pub marked-next : (before : List Bool) (at n count : ℕ) (had : Bool) (rest : List Bool) → n ≤ count → drop at before ≡ replicate count had ++ rest → AreMarked before at n had
marked-next before at n count had rest few e j low =
    let inside : j < length (replicate count had) = omega (arith, few, low, length-replicate {A = Bool} count had) in
    sym (get_or-drop at before j false) ∙ ap (λ (l : List Bool). get_or l j false) e ∙ get_or_append_left (replicate count had) rest false j inside ∙ get_or-replicate count j had false (omega (arith, few, low))

drop-front : (n : ℕ) (had : Bool) (next : List Bool) → drop n (replicate n had ++ next) ≡ next
drop-front zero had next = refl
drop-front (suc n) had next = drop-front n had next

-- once they are passed
pub ahead-next : (before : List Bool) (at n : ℕ) (had : Bool) (now next : List Bool) → drop at before ≡ now → now ≡ replicate n had ++ next → drop (at + n) before ≡ next
ahead-next before at n had now next e f =
    sym (drop-drop n at before) ∙ ap (drop n) (e ∙ f) ∙ drop-front n had next

-- how many are ahead, and that the first run is among them
pub ahead-some : (before : List Bool) (at sectors : ℕ) (now : List Bool) → length before ≡ sectors → drop at before ≡ now → at < sectors → 1 ≤ length now
ahead-some before at sectors now all e low = omega (arith, all, low, length-drop at before, ap length e)

pub ahead-inside : (before : List Bool) (at sectors count : ℕ) (had : Bool) (rest now : List Bool) → length before ≡ sectors → drop at before ≡ now → now ≡ replicate count had ++ rest → at ≤ sectors → at + count ≤ sectors
ahead-inside before at sectors count had rest now all e f low =
    omega (arith, all, low, length-drop at before, ap length e, ap length f, length-append (replicate count had) rest, length-replicate {A = Bool} count had)

-- the run of the next sectors
pub first-run : (old new : Ahead) (run : Run) → marks_ahead new ≡ marks_ahead old → run ≡ new.first → marks_ahead old ≡ replicate run.count run.had ++ marks new.rest.now
first-run old new run same first = sym same ∙ ap (λ (r : Run). replicate r.count r.had ++ marks new.rest.now) (sym first)

-- the longest run ends at the last sector, or before one that has another mark
after-run : (count : ℕ) (had mark : Bool) (more : List Bool) → get_or (replicate count had ++ mark ∷ more) count false ≡ mark
after-run zero had mark more = refl
after-run (suc count) had mark more = after-run count had mark more

pub run-stops : (before : List Bool) (at count sectors : ℕ) (rest : List Bool) → drop at before ≡ replicate count false ++ rest → length before ≡ sectors → at ≤ sectors → BeginsOtherwise false rest
    → (at + count ≡ sectors) ⊎ (slice_index_or before (at + count) false ≡ true)
run-stops before at count sectors [] e all within last =
    inl (omega (arith, all, within, length-drop at before, ap length e, length-append {A = Bool} (replicate count false) [], length-replicate {A = Bool} count false))
run-stops before at count sectors (mark ∷ more) e all within last =
    inr (sym (get_or-drop at before count false) ∙ ap (λ (l : List Bool). get_or l count false) e ∙ after-run count false mark more ∙ last)

-- how many are ahead at most
pub ahead-few : (before : List Bool) (at sectors most : ℕ) (now : List Bool) → length before ≡ sectors → drop at before ≡ now → sectors ≤ most → length now ≤ most
ahead-few before at sectors most now all e few = omega (arith, all, few, length-drop at before, ap length e)

-- ---- the map that is made

pub notes-some : (flags : List Run → List Bool) (old new : Option (List Run)) (more : List Bool) → NotesMore flags old new more → is_some new ≡ is_some old
notes-some flags None None more p = refl
notes-some flags None (Some new) more p = absurd p
notes-some flags (Some old) None more p = absurd p
notes-some flags (Some old) (Some new) more p = refl

map-append : (holds : SectorState → Bool) (xs ys : List SectorState) → map holds (xs ++ ys) ≡ map holds xs ++ map holds ys
map-append holds [] ys = refl
map-append holds (x ∷ xs) ys = ap (λ (l : List Bool). holds x ∷ l) (map-append holds xs ys)

map-replicate : (holds : SectorState → Bool) (n : ℕ) (s : SectorState) → map holds (replicate n s) ≡ replicate n (holds s)
map-replicate holds zero s = refl
map-replicate holds (suc n) s = ap (λ (l : List Bool). holds s ∷ l) (map-replicate holds n s)

pub noted-more : (flags : List Run → List Bool) (holds : SectorState → Bool) (old new : Option (List Run)) (states : List SectorState) (n : ℕ) (s : SectorState) → AreNoted flags holds old states → NotesMore flags old new (replicate n (holds s))
    → AreNoted flags holds new (states ++ replicate n s)
noted-more flags holds None None states n s p q = tt
noted-more flags holds None (Some new) states n s p q = absurd q
noted-more flags holds (Some old) None states n s p q = absurd q
noted-more flags holds (Some old) (Some new) states n s p q =
    q ∙ ap (λ (l : List Bool). l ++ replicate n (holds s)) p ∙ sym (map-append holds states (replicate n s) ∙ ap (λ (l : List Bool). map holds states ++ l) (map-replicate holds n s))

-- and of more of another state
pub noted-both : (flags : List Run → List Bool) (holds : SectorState → Bool) (old new : Option (List Run)) (states : List SectorState) (a b : ℕ) (s t : SectorState) → AreNoted flags holds old states
    → NotesMore flags old new (replicate a (holds s) ++ replicate b (holds t)) → AreNoted flags holds new (states ++ (replicate a s ++ replicate b t))
noted-both flags holds None None states a b s t p q = tt
noted-both flags holds None (Some new) states a b s t p q = absurd q
noted-both flags holds (Some old) None states a b s t p q = absurd q
noted-both flags holds (Some old) (Some new) states a b s t p q =
    let both : map holds (replicate a s ++ replicate b t) ≡ replicate a (holds s) ++ replicate b (holds t) =
    map-append holds (replicate a s) (replicate b t) ∙ ap (λ (l : List Bool). l ++ map holds (replicate b t)) (map-replicate holds a s) ∙ ap (λ (l : List Bool). replicate a (holds s) ++ l) (map-replicate holds b t) in
    q ∙ ap (λ (l : List Bool). l ++ (replicate a (holds s) ++ replicate b (holds t))) p ∙ sym (map-append holds states (replicate a s ++ replicate b t) ∙ ap (λ (l : List Bool). map holds states ++ l) both)

length-map : (states : List SectorState) → length (map is_had states) ≡ length states
length-map [] = refl
length-map (x ∷ states) = ap suc (length-map states)

pub length-noted : (runs : List Run) (states : List SectorState) → AreMarksNoted (Some runs) states → length (marks runs) ≡ length states
length-noted runs states p = ap length p ∙ length-map states

-- where none was had before
pub marks-none : (n k : ℕ) → get_or {A = Bool} [] k false ≡ get_or (replicate n false) k false
marks-none zero k = refl
marks-none (suc n) zero = refl
marks-none (suc n) (suc k) = marks-none n k
