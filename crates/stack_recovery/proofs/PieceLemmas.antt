-- The pieces of a pass, and their writes.
use Rattle.std.proofs.Common.{◌≡◌, ◌≢◌, ◌⊎◌, ℕ, min, eqb, ◌+◌, ◌-◌, ◌<◌, ◌≤◌, Bool, true, false, cond, inl, inr, List, [], ◌∷◌, ◌++◌, length, drop, replicate, refl, sym, ap, ◌∙◌, subst, arith, append_assoc}
use Rattle.std.specs.List.{slice_index_or}
use Rattle.std.proofs.lemmas.Bool.{cases_lt, false≢true}
use Rattle.std.proofs.lemmas.List.{append-nil, length-append}
use Rattle.block_device.specs.Call.{Call}
use Rattle.stack_rules.specs.Names.{mapped, size}
use Rattle.stack_rules.specs.Records.{Configuration}
use Rattle.stack_meaning.specs.declared.fault.IoFault.{IoFault}
use Rattle.stack_meaning.specs.declared.fault.IoFault.TheVariants.{NoMemory}
use Rattle.stack_recovery.specs.Handing.{calls_found, copy_calls}
use Rattle.stack_recovery.specs.PassLaws.{AreScraped, IsScraped, PassesScrape}
use Rattle.stack_recovery.specs.PassPieces.{AreInPieces, IsNextPiece, IsPieceFound, IsUnreadTo, Pass, Scanned, pass_over, way_found, way_from, way_lost}
use Rattle.stack_recovery.specs.declared.way.Way.{Way}
use Rattle.stack_recovery.specs.declared.way.Way.TheVariants.{Forward}
use Rattle.stack_recovery.specs.declared.piece.Piece.{Piece}
use Rattle.stack_recovery.specs.Alike.{AreAlike}
use Rattle.stack_recovery.specs.Pieces.{EndsAligned, IsPiece}
use Rattle.stack_recovery.specs.Skims.{IsSkimFound}
use Rattle.stack_recovery.specs.Surveys.{Finding, PieceRead, SectorState, again, all_states, copied, had, kept, lost, probed, states_of, trimmed}
use Rattle.stack_recovery.specs.Stretches.{BeginsOtherwise}
use Rattle.stack_recovery.proofs.AheadLemmas.{marked-next, run-stops}

states-after : (first : ℕ) (x : PieceRead) (more : List PieceRead) → first + length (all_states (x ∷ more)) ≡ first + length (states_of x) + length (all_states more)
states-after first x more = omega (arith, length-append {A = SectorState} (states_of x) (all_states more))

-- a piece after those so far
pub pieces-push : (scan : Scanned) (p : Pass) (first : ℕ) (way : Way) (reads : List PieceRead) (r : PieceRead) → AreInPieces scan p first way reads
    → IsPieceFound p (first + length (all_states reads)) (way_from scan way first reads) r.count r.found → AreInPieces scan p first way (reads ++ r ∷ [])
pieces-push scan p first way [] r h next =
    let at : first + 0 ≡ first = omega arith in
    (subst (λ (k : ℕ). IsPieceFound p k way r.count r.found) at next, tt)
pieces-push scan p first way (x ∷ more) r h next = (
  h.0,
  pieces-push scan p (first + length (states_of x)) (way_found scan way first x.count x.found) more r h.1
      (subst (λ (k : ℕ). IsPieceFound p k (way_from scan way first (x ∷ more)) r.count r.found) (states-after first x more) next),
)

pub way-push : (scan : Scanned) (way : Way) (first : ℕ) (reads : List PieceRead) (r : PieceRead)
    → way_from scan way first (reads ++ r ∷ []) ≡ way_found scan (way_from scan way first reads) (first + length (all_states reads)) r.count r.found
way-push scan way first [] r = let at : first ≡ first + 0 = omega arith in ap (λ (k : ℕ). way_found scan way k r.count r.found) at
way-push scan way first (x ∷ more) r =
    way-push scan (way_found scan way first x.count x.found) (first + length (states_of x)) more r
    ∙ ap (λ (k : ℕ). way_found scan (way_from scan way first (x ∷ more)) k r.count r.found) (sym (states-after first x more))

pub calls-push : (first : ℕ) (reads : List PieceRead) (r : PieceRead)
    → copy_calls first (reads ++ r ∷ []) ≡ copy_calls first reads ++ calls_found (first + length (all_states reads)) r.found
calls-push first [] r =
    let at : first ≡ first + 0 = omega arith in
    append-nil (calls_found first r.found) ∙ ap (λ (k : ℕ). calls_found k r.found) at
calls-push first (x ∷ more) r =
    ap (λ (l : List Call). calls_found first x.found ++ l)
    (calls-push (first + length (states_of x)) more r
    ∙ ap (λ (k : ℕ). copy_calls (first + length (states_of x)) more ++ calls_found k r.found) (sym (states-after first x more)))
    ∙ sym (append_assoc (calls_found first x.found) (copy_calls (first + length (states_of x)) more) (calls_found (first + length (all_states (x ∷ more))) r.found))

-- the next sectors are a longest run of sectors that weren't read before
pub unread-run : (config : Configuration) (d : ℕ) (before : List Bool) (at count sectors : ℕ) (rest : List Bool) → drop at before ≡ replicate count false ++ rest
    → length before ≡ sectors → at ≤ sectors → at + count ≤ sectors → sectors ≡ size config (mapped d) → BeginsOtherwise false rest → IsUnreadTo (pass_over config d before) at (at + count)
unread-run config d before at count sectors rest e all within inside is last = record {
  unread = marked-next before at (at + count - at) count false rest (omega arith) e;
  inside = subst (λ (m : ℕ). at + count ≤ m) is inside;
  stops = subst (λ (m : ℕ). (at + count ≡ m) ⊎ (slice_index_or before (at + count) false ≡ true)) is (run-stops before at count sectors rest e all within last);
}

-- the next piece in it
pub next-piece : (config : Configuration) (d : ℕ) (before : List Bool) (at count sectors most n : ℕ) (rest : List Bool) → drop at before ≡ replicate count false ++ rest
    → length before ≡ sectors → at ≤ sectors → at + count ≤ sectors → sectors ≡ size config (mapped d) → BeginsOtherwise false rest
    → EndsAligned config d at (at + count) most n → IsNextPiece (pass_over config d before) at most n
next-piece config d before at count sectors most n rest e all within inside is last ends = record {
  end = at + count;
  run = unread-run config d before at count sectors rest e all within inside is last;
  ends = ends;
}

-- a piece whose read failed, in a run of sectors that weren't read before, and the sectors that are skipped after it
pub skipped-piece : (config : Configuration) (d : ℕ) (before : List Bool) (at count sectors n wanted skip : ℕ) (fault : IoFault) (rest : List Bool) → fault ≢ NoMemory → drop at before ≡ replicate count false ++ rest
    → length before ≡ sectors → at ≤ sectors → at + count ≤ sectors → sectors ≡ size config (mapped d) → BeginsOtherwise false rest
    → EndsAligned config d at (at + count) 128 n → skip ≡ min wanted (count - n) → IsSkimFound (pass_over config d before) at wanted n (again fault) skip
unfolding next-piece
skipped-piece config d before at count sectors n wanted skip fault rest kind e all within inside is last ends skipped =
    let room : count - n ≡ at + count - (at + n) = omega arith in
    (kind, next-piece config d before at count sectors 128 n rest e all within inside is last ends, skipped ∙ ap (λ (m : ℕ). min wanted m) room)

-- a piece of at most one sector is of sectors that are lost together
pub single-alike : (config : Configuration) (d first end : ℕ) (piece : Piece) → IsPiece config d first end 1 piece → AreAlike config d first piece.count
single-alike config d first end piece p = by-flag piece.alike refl
  where
    by-flag : (alike : Bool) → piece.alike ≡ alike → AreAlike config d first piece.count
    by-flag true is = p.alike is
    by-flag false is = let apart = p.apart is in absurd (omega (arith, apart.0, apart.1))

-- ---- the end of a run

-- a run of sectors that weren't read before ends at one sector
pub unread-end : (p : Pass) (first a b : ℕ) → first < a → first < b → IsUnreadTo p first a → IsUnreadTo p first b → a ≡ b
unread-end p first a b low low' h k = elim (cases_lt a b) [
  | inl below ↦ absurd (stops-late first a b low below h k)
  | inr above ↦ elim (cases_lt b a) [ inl below ↦ absurd (stops-late first b a low' below k h) | inr same ↦ omega (arith, above, same) ]
]
  where
    stops-late : (first a b : ℕ) → first < a → a < b → IsUnreadTo p first a → IsUnreadTo p first b → ⊥
    stops-late first a b low below h k = either h.stops
      where
        either : (a ≡ size p.config (mapped p.d)) ⊎ (slice_index_or p.marks a false ≡ true) → ⊥
        either (inl is) = let in_size = k.inside in omega (arith, below, is, in_size)
        either (inr read) =
            let here : first + (a - first) ≡ a = omega (arith, low) in
            false≢true (sym (k.unread (a - first) (omega (arith, low, below))) ∙ ap (λ (n : ℕ). slice_index_or p.marks n false) here ∙ read)

-- the rest of such a run
pub unread-rest : (p : Pass) (first next end : ℕ) → first ≤ next → next ≤ end → IsUnreadTo p first end → IsUnreadTo p next end
unread-rest p first next end from to h = record {
  unread = λ j low.
      let same : next + j ≡ first + (next - first + j) = omega (arith, from) in
      ap (λ (n : ℕ). slice_index_or p.marks n false) same ∙ h.unread (next - first + j) (omega (arith, from, to, low));
  inside = h.inside;
  stops = h.stops;
}

-- ---- a pass that scrapes

scraped-found : (p : Pass) (first n : ℕ) (found : Finding) → IsPieceFound p first Forward n found → IsScraped found
scraped-found p first n (had bytes) h = tt
scraped-found p first n (lost fault) h = tt
scraped-found p first n (again fault) h = tt
scraped-found p first n (probed behind bytes) h = tt
scraped-found p first n (trimmed behind fault) h = h
scraped-found p first n copied h = h
scraped-found p first n kept h = tt

-- it reads on after each piece
still-forward : (scan : Scanned) (p : Pass) (first n : ℕ) (found : Finding) → scan.no_scrape ≡ false → IsPieceFound p first Forward n found → way_found scan Forward first n found ≡ Forward
still-forward scan p first n (had bytes) scrapes h = refl
still-forward scan p first n (lost fault) scrapes h = ap way_lost scrapes
still-forward scan p first n (again fault) scrapes h = refl
still-forward scan p first n (probed behind bytes) scrapes h = absurd h
still-forward scan p first n (trimmed behind fault) scrapes h = refl
still-forward scan p first n copied scrapes h = refl
still-forward scan p first n kept scrapes h = either (eqb (first + n) scan.turned)
  where
    either : (b : Bool) → cond b (way_lost scan.no_scrape) Forward ≡ Forward
    either true = ap way_lost scrapes
    either false = refl

scraped-from : (scan : Scanned) (p : Pass) (first : ℕ) (reads : List PieceRead) → scan.no_scrape ≡ false → AreInPieces scan p first Forward reads → AreScraped reads
scraped-from scan p first [] scrapes h = tt
scraped-from scan p first (r ∷ more) scrapes h = (
  scraped-found p first r.count r.found h.0,
  scraped-from scan p (first + length (states_of r)) more scrapes
      (subst (λ (w : Way). AreInPieces scan p (first + length (states_of r)) w more) (still-forward scan p first r.count r.found scrapes h.0) h.1),
)

pub passes-scrape : PassesScrape
passes-scrape scan p reads scrapes h = scraped-from scan p 0 reads scrapes h
