-- Runs that are printed while blocks are scanned.
use Rattle.std.proofs.Common.{◌≡◌, ℕ, zero, suc, ◌+◌, ◌≤◌, Bool, true, false, List, [], ◌∷◌, ◌++◌, length, replicate, take, Option, Some, None, refl, sym, ap, ◌∙◌, subst, arith, ltb, cond, inl, inr}
use Rattle.std.specs.Io.KnownBytes.{Appends}
use Rattle.std.proofs.lemmas.Bool.{cases_lt, le-ltb, lt-ltb}
use Rattle.std.proofs.lemmas.List.{append-nil, append_assoc}
use Rattle.runs.specs.declared.limit.Limit.{Limit}
use Rattle.runs.specs.declared.kind.Kind.{Kind}
use Rattle.runs.specs.declared.run.Run.{Run}
use Rattle.runs.specs.declared.tally.Tally.{Tally}
use Rattle.runs.specs.Limits.{begun, limit_after, limit_next, limited_line, limited_lines}
use Rattle.runs.specs.Runs.{run, runs_of}
use Rattle.runs.specs.Kinds.{is_same, State}
use Rattle.runs.specs.Tallies.{EndsAt, closed_by, listed, opened_by}
use Rattle.runs.specs.Texts.{run_text, runs_text, more_text, listing_text}
use Rattle.runs.proofs.WritingLemmas.{writes_nothing, writes-then}
use Rattle.runs.proofs.lemmas.KindLemmas.{is_same-equality}
use Rattle.runs.proofs.lemmas.RunLemmas.{IsTallied, tallied-none, tallied-had, tallied-lost, tallied-all}

lines_of-append : (limit : Limit) (xs ys : List (Run Kind)) → limited_lines limit (xs ++ ys) ≡ limited_lines limit xs ++ limited_lines (limit_after limit xs) ys
lines_of-append limit [] ys = refl
lines_of-append limit (x ∷ xs) ys = ap (λ (l : List ℕ). limited_line limit x ++ l) (lines_of-append (limit_next limit) xs ys) ∙ sym (append_assoc (limited_line limit x) (limited_lines (limit_next limit) xs) (limited_lines (limit_after (limit_next limit) xs) ys))

limit_after-append : (limit : Limit) (xs ys : List (Run Kind)) → limit_after limit (xs ++ ys) ≡ limit_after (limit_after limit xs) ys
limit_after-append limit [] ys = refl
limit_after-append limit (x ∷ xs) ys = limit_after-append (limit_next limit) xs ys

told_all : (runs : List (Run Kind)) → limited_lines (record { left = Some 0; told = true }) runs ≡ []
told_all [] = refl
told_all (r ∷ runs) = told_all runs

lines-all : (runs : List (Run Kind)) → limited_lines (begun None) runs ≡ runs_text runs
lines-all [] = refl
lines-all (r ∷ runs) = ap (λ (l : List ℕ). run_text r ++ l) (lines-all runs)

ltb-suc : (m n : ℕ) → ltb (suc m) (suc n) ≡ ltb m n
ltb-suc m n = elim (cases_lt m n) [
  | inl low ↦ lt-ltb (suc m) (suc n) (omega arith) ∙ sym (lt-ltb m n low)
  | inr high ↦ le-ltb (suc m) (suc n) (omega arith) ∙ sym (le-ltb m n high)
]

lines-some : (n : ℕ) (runs : List (Run Kind)) → limited_lines (begun (Some n)) runs ≡ runs_text (take n runs) ++ cond (ltb n (length runs)) more_text []
lines-some zero [] = refl
lines-some zero (r ∷ runs) =
    ap (λ (l : List ℕ). more_text ++ l) (told_all runs) ∙ append-nil more_text ∙ sym (ap (λ (b : Bool). cond b more_text []) (lt-ltb 0 (suc (length runs)) (omega arith)))
lines-some (suc n) [] = sym (ap (λ (b : Bool). cond b more_text []) (le-ltb (suc n) 0 (omega arith)))
lines-some (suc n) (r ∷ runs) =
    ap (λ (l : List ℕ). run_text r ++ l) (lines-some n runs)
    ∙ sym (append_assoc (run_text r) (runs_text (take n runs)) (cond (ltb n (length runs)) more_text []))
    ∙ ap (λ (b : Bool). (run_text r ++ runs_text (take n runs)) ++ cond b more_text []) (sym (ltb-suc n (length runs)))

lines-listing : (most : Option ℕ) (runs : List (Run Kind)) → limited_lines (begun most) runs ≡ listing_text most runs
lines-listing None runs = lines-all runs
lines-listing (Some n) runs = lines-some n runs

-- of the blocks with these states all runs but the last were printed
pub record IsListed (most : Option ℕ) (states : List State) (tally : Tally) (old new : Option (List ℕ)) : Type 0 where
  pub closed : List (Run Kind)
  pub tallied : IsTallied is_same states closed tally.last
  pub limit : tally.limit ≡ limit_after (begun most) closed
  pub printed : Appends old new (limited_lines (begun most) closed)

pub listed-none : (most : Option ℕ) (old : Option (List ℕ)) (tally : Tally) → tally ≡ record { last = None; limit = begun most } → IsListed most [] tally old old
listed-none most old tally is = record { closed = []; tallied = rw is (tallied-none is_same is_same-equality); limit = rw is refl; printed = writes_nothing old }

more : (most : Option ℕ) (tally : Tally) (closed next : List (Run Kind)) (limit : Limit) → tally.limit ≡ limit_after (begun most) closed → limit ≡ limit_after tally.limit next → limit ≡ limit_after (begun most) (closed ++ next)
more most tally closed next limit was is = is ∙ ap (λ (l : Limit). limit_after l next) was ∙ sym (limit_after-append (begun most) closed next)

printed_more : (most : Option ℕ) (tally : Tally) (closed next : List (Run Kind)) (old now new : Option (List ℕ)) → tally.limit ≡ limit_after (begun most) closed → Appends old now (limited_lines (begun most) closed) → Appends now new (limited_lines tally.limit next)
    → Appends old new (limited_lines (begun most) (closed ++ next))
printed_more most tally closed next old now new was printed told =
    rw (lines_of-append (begun most) closed next) (writes-then old now new (limited_lines (begun most) closed) (limited_lines (limit_after (begun most) closed) next) printed (subst (λ (l : Limit). Appends now new (limited_lines l next)) was told))

-- blocks of which nothing is reported, after which the last run doesn't grow
pub listed-had : (most : Option ℕ) (states : List State) (tally tally' : Tally) (old now new : Option (List ℕ)) (n : ℕ) → 1 ≤ n → IsListed most states tally old now
    → Appends now new (limited_lines tally.limit (listed tally.last)) → tally'.last ≡ None → tally'.limit ≡ limit_after tally.limit (listed tally.last)
    → IsListed most (states ++ replicate n None) tally' old new
listed-had most states tally tally' old now new n some t told last limit = record {
  closed = t.closed ++ listed tally.last;
  tallied = rw last (tallied-had is_same is_same-equality states t.closed tally.last n some t.tallied);
  limit = more most tally t.closed (listed tally.last) tally'.limit t.limit limit;
  printed = printed_more most tally t.closed (listed tally.last) old now new t.limit t.printed told;
}

-- a run of one kind
pub listed-run : (most : Option ℕ) (states : List State) (tally tally' : Tally) (old now new : Option (List ℕ)) (s n : ℕ) (kind : Kind) → s ≡ length states → 1 ≤ n → IsListed most states tally old now
    → Appends now new (limited_lines tally.limit (closed_by is_same tally.last (run s n kind))) → tally'.last ≡ Some (opened_by is_same tally.last (run s n kind)) → tally'.limit ≡ limit_after tally.limit (closed_by is_same tally.last (run s n kind))
    → IsListed most (states ++ replicate n (Some kind)) tally' old new
listed-run most states tally tally' old now new s n kind at some t told last limit = record {
  closed = t.closed ++ closed_by is_same tally.last (run s n kind);
  tallied = rw last (tallied-lost is_same is_same-equality states t.closed tally.last s n kind at some t.tallied);
  limit = more most tally t.closed (closed_by is_same tally.last (run s n kind)) tally'.limit t.limit limit;
  printed = printed_more most tally t.closed (closed_by is_same tally.last (run s n kind)) old now new t.limit t.printed told;
}

-- the last run ends with the blocks
pub listed-ends : (most : Option ℕ) (states : List State) (tally : Tally) (old new : Option (List ℕ)) → IsListed most states tally old new → EndsAt tally.last (length states)
listed-ends most states tally old new t = t.tallied.ends

-- all runs, once the last is printed
pub listed-all : (most : Option ℕ) (states : List State) (tally : Tally) (old now new : Option (List ℕ)) → IsListed most states tally old now → Appends now new (limited_lines tally.limit (listed tally.last))
    → Appends old new (listing_text most (runs_of is_same 0 states))
listed-all most states tally old now new t told =
    rw (← lines-listing most (runs_of is_same 0 states), tallied-all is_same is_same-equality states t.closed tally.last t.tallied) (printed_more most tally t.closed (listed tally.last) old now new t.limit t.printed told)

-- runs that are printed after others
pub lines-then : (limit : Limit) (xs ys : List (Run Kind)) (a b c : Option (List ℕ)) → Appends a b (limited_lines limit xs) → Appends b c (limited_lines (limit_after limit xs) ys) → Appends a c (limited_lines limit (xs ++ ys))
lines-then limit xs ys a b c p q = rw (lines_of-append limit xs ys) (writes-then a b c (limited_lines limit xs) (limited_lines (limit_after limit xs) ys) p q)

-- all runs, where one of one kind comes last
pub listed-last : (most : Option ℕ) (states : List State) (tally : Tally) (old now new : Option (List ℕ)) (s n : ℕ) (kind : Kind) → s ≡ length states → 1 ≤ n → IsListed most states tally old now
    → Appends now new (limited_lines tally.limit (closed_by is_same tally.last (run s n kind) ++ listed (Some (opened_by is_same tally.last (run s n kind)))))
    → Appends old new (listing_text most (runs_of is_same 0 (states ++ replicate n (Some kind))))
listed-last most states tally old now new s n kind at some t told =
    let closed : List (Run Kind) = closed_by is_same tally.last (run s n kind) in
    let last : List (Run Kind) = listed (Some (opened_by is_same tally.last (run s n kind))) in
    let all : runs_of is_same 0 (states ++ replicate n (Some kind)) ≡ t.closed ++ (closed ++ last) =
    tallied-all is_same is_same-equality (states ++ replicate n (Some kind)) (t.closed ++ closed) (Some (opened_by is_same tally.last (run s n kind))) (tallied-lost is_same is_same-equality states t.closed tally.last s n kind at some t.tallied)
    ∙ append_assoc t.closed closed last in
    subst (λ (text : List ℕ). Appends old new text) (lines-listing most (t.closed ++ (closed ++ last)) ∙ ap (listing_text most) (sym all))
    (printed_more most tally t.closed (closed ++ last) old now new t.limit t.printed told)
