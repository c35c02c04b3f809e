-- Entries and their parts, fault by fault.
use Rattle.std.proofs.Common.{◌≡◌, ℕ, ◌+◌, ◌≤◌, Bool, true, false, not, List, [], ◌∷◌, length, All, Ok, Err, refl, ap, sym, subst, ◌∙◌, inl, inr, arith}
use Rattle.std.specs.List.{list_all, slice_split, onto_first}
use Rattle.std.proofs.lemmas.Bool.{cases_Bool, cond-true, cond-false}
use Rattle.std.proofs.lemmas.List.Elements.{All-nil, All-cons, All-head, All-tail}
use Rattle.std.proofs.lemmas.List.Splits.{length-slice_split}
use Rattle.std.proofs.lemmas.List.Sums.{count_by-le-length}
use Rattle.dm_table.specs.declared.table.Line.{Line}
use Rattle.dm_table.specs.declared.fault.TextKind.{TextKind}
use Rattle.dm_table.specs.declared.fault.TextKind.TheVariants as kinds
use Rattle.dm_table.specs.Words.{is_white, is_text, trimmed_text, entries_of, fields_of}
use Rattle.dm_table.specs.Names.{is_mapped_name}
use Rattle.dm_table.specs.Reading.{Read, ◌>>=◌, at_place}
use Rattle.dm_table.specs.TableText.{some_lines, table_of}
use Rattle.dm_table.specs.StackText.{name_at, minor_at, is_minor, flags_at, entry_lines, Head, head_of, entry_of, entries_from, stack_of}
use Rattle.table_text.proofs.ReadValueLemmas.{bind_ok}

-- a list that begins with one element, and then as another list
pub onto : {A : Type 0} {xs : List A} {x : A} {ys zs : List A} → xs ≡ x ∷ ys → ys ≡ zs → xs ≡ x ∷ zs
onto {x = x} e f = e ∙ ap (λ ws. x ∷ ws) f

-- the fields before the lines, at each fault
pub head-name : (name uuid minor flags line : List ℕ) (lines : List (List ℕ)) → is_mapped_name (trimmed_text name) ≡ false → head_of (name ∷ uuid ∷ minor ∷ flags ∷ line ∷ lines) ≡ Err kinds.Name
unfolding head_of
head-name name uuid minor flags line lines unnamed =
    ap (λ r. r >>= (λ called. minor_at (trimmed_text minor) >>= (λ _. flags_at (trimmed_text flags) >>= (λ w. Ok (record { name = called; writable = w; lines = line ∷ lines })))))
    (cond-false (is_mapped_name (trimmed_text name)) (Ok (trimmed_text name)) (Err kinds.Name) unnamed)

head-named : (name uuid minor flags line : List ℕ) (lines : List (List ℕ)) → is_mapped_name (trimmed_text name) ≡ true
    → head_of (name ∷ uuid ∷ minor ∷ flags ∷ line ∷ lines) ≡ (minor_at (trimmed_text minor) >>= (λ _. flags_at (trimmed_text flags) >>= (λ w. Ok (record { name = trimmed_text name; writable = w; lines = line ∷ lines }))))
unfolding head_of
head-named name uuid minor flags line lines named =
    ap (λ r. r >>= (λ called. minor_at (trimmed_text minor) >>= (λ _. flags_at (trimmed_text flags) >>= (λ w. Ok (record { name = called; writable = w; lines = line ∷ lines })))))
    (cond-true (is_mapped_name (trimmed_text name)) (Ok (trimmed_text name)) (Err kinds.Name) named)

pub head-minor : (name uuid minor flags line : List ℕ) (lines : List (List ℕ)) → is_mapped_name (trimmed_text name) ≡ true → is_minor (trimmed_text minor) ≡ false → head_of (name ∷ uuid ∷ minor ∷ flags ∷ line ∷ lines) ≡ Err kinds.Number
head-minor name uuid minor flags line lines named other =
    head-named name uuid minor flags line lines named
    ∙ ap (λ r. r >>= (λ _. flags_at (trimmed_text flags) >>= (λ w. Ok (record { name = trimmed_text name; writable = w; lines = line ∷ lines }))))
    (cond-false (is_minor (trimmed_text minor)) (Ok (trimmed_text minor)) (Err kinds.Number) other)

pub head-flags : (name uuid minor flags line : List ℕ) (lines : List (List ℕ)) → is_mapped_name (trimmed_text name) ≡ true → is_minor (trimmed_text minor) ≡ true
    → head_of (name ∷ uuid ∷ minor ∷ flags ∷ line ∷ lines) ≡ (flags_at (trimmed_text flags) >>= (λ w. Ok (record { name = trimmed_text name; writable = w; lines = line ∷ lines })))
head-flags name uuid minor flags line lines named numbered =
    head-named name uuid minor flags line lines named
    ∙ ap (λ r. r >>= (λ _. flags_at (trimmed_text flags) >>= (λ w. Ok (record { name = trimmed_text name; writable = w; lines = line ∷ lines }))))
    (cond-true (is_minor (trimmed_text minor)) (Ok (trimmed_text minor)) (Err kinds.Number) numbered)

pub after_flags : {A : Type 0} (r : Read Bool) (f : Bool → Read A) (kind : TextKind) → r ≡ Err kind → (r >>= f) ≡ Err kind
after_flags r f kind e = ap (λ r. r >>= f) e

-- an entry's fields are its lines and four more
pub length-head : (fields : List (List ℕ)) (head : Head) → head_of fields ≡ Ok head → length head.lines + 4 ≡ length fields
unfolding head_of
length-head [] head e = cc
length-head (name ∷ []) head e = cc
length-head (name ∷ uuid ∷ []) head e = cc
length-head (name ∷ uuid ∷ minor ∷ []) head e = cc
length-head (name ∷ uuid ∷ minor ∷ flags ∷ []) head e = cc
length-head (name ∷ uuid ∷ minor ∷ flags ∷ line ∷ lines) head e =
    let called = bind_ok (name_at (trimmed_text name)) _ head e in
    let numbered = bind_ok (minor_at (trimmed_text minor)) _ head called.2 in
    let writable = bind_ok (flags_at (trimmed_text flags)) _ head numbered.2 in
    let made : record { name = called.0; writable = writable.0; lines = line ∷ lines } ≡ head = let h = writable.2 in cc in
    subst (λ (h : Head). length h.lines + 4 ≡ length (name ∷ uuid ∷ minor ∷ flags ∷ line ∷ lines)) made (omega arith)

-- an entry, by its head and its lines
pub entry-head : (e : ℕ) (fields : List (List ℕ)) (kind : TextKind) → head_of fields ≡ Err kind → entry_of e fields ≡ Err (record { entry = e; line = 0; kind = kind })
unfolding entry_of
entry-head e fields kind h =
    ap (λ r. at_place e 0 r >>= (λ (head : Head). entry_lines e 1 head.lines >>= (λ table. Ok (record { number = e; name = head.name; writable = head.writable; table = table })))) h

pub entry-lines : (e : ℕ) (fields : List (List ℕ)) (head : Head) → head_of fields ≡ Ok head
    → entry_of e fields ≡ (entry_lines e 1 head.lines >>= (λ table. Ok (record { number = e; name = head.name; writable = head.writable; table = table })))
unfolding entry_of
entry-lines e fields head h =
    ap (λ r. at_place e 0 r >>= (λ (head : Head). entry_lines e 1 head.lines >>= (λ table. Ok (record { number = e; name = head.name; writable = head.writable; table = table })))) h

-- a stack text, by its entries
pub stack-not_text : (text : List ℕ) → is_text text ≡ false → stack_of text ≡ Err (record { entry = 0; line = 0; kind = kinds.NotText })
unfolding stack_of
stack-not_text text other = cond-true (not (is_text text)) _ _ (ap not other)

pub stack-entries : (text : List ℕ) → is_text text ≡ true → stack_of text ≡ entries_from 1 (entries_of text)
unfolding stack_of
stack-entries text good = cond-false (not (is_text text)) _ _ (ap not good)

pub entries_from-full : (e : ℕ) (text : List ℕ) (more : List (List ℕ)) → list_all is_white text ≡ false
    → entries_from e (text ∷ more) ≡ (entry_of e (fields_of text) >>= (λ entry. entries_from (e + 1) more >>= (λ entries. Ok (entry ∷ entries))))
entries_from-full e text more full = cond-false (list_all is_white text) _ _ full

pub entries_from-blank : (e : ℕ) (text : List ℕ) (more : List (List ℕ)) → list_all is_white text ≡ true → entries_from e (text ∷ more) ≡ entries_from (e + 1) more
entries_from-blank e text more blank = cond-true (list_all is_white text) _ _ blank

-- a table text, by its lines
pub table-not_text : (text : List ℕ) → is_text text ≡ false → table_of text ≡ Err (record { entry = 0; line = 0; kind = kinds.NotText })
unfolding table_of
table-not_text text other = cond-true (not (is_text text)) _ _ (ap not other)

-- how many pieces a text has, and how long they are
pub length-pieces : (p : ℕ → Bool) (text : List ℕ) → length (slice_split p text) ≤ length text + 1
length-pieces p text = omega (arith, length-slice_split p text, count_by-le-length p text)

All-longer : (m n : ℕ) (pieces : List (List ℕ)) → m ≤ n → All (λ piece. length piece ≤ m) pieces → All (λ piece. length piece ≤ n) pieces
All-longer m n pieces le h k d lt = let short = h k d lt in omega arith

All-onto_first : (n x : ℕ) (pieces : List (List ℕ)) → All (λ piece. length piece ≤ n) pieces → All (λ piece. length piece ≤ n + 1) (onto_first x pieces)
All-onto_first n x [] h = All-cons (λ piece. length piece ≤ n + 1) (x ∷ []) [] (omega arith) (All-nil (λ piece. length piece ≤ n + 1))
All-onto_first n x (piece ∷ pieces) h =
    let first = All-head (λ (piece : List ℕ). length piece ≤ n) piece pieces h in
    All-cons (λ piece. length piece ≤ n + 1) (x ∷ piece) pieces (omega arith)
    (All-longer n (n + 1) pieces (omega arith) (All-tail (λ (piece : List ℕ). length piece ≤ n) piece pieces h))

pub All-pieces : (p : ℕ → Bool) (text : List ℕ) → All (λ piece. length piece ≤ length text) (slice_split p text)
All-pieces p [] = All-cons (λ (piece : List ℕ). length piece ≤ 0) [] [] (omega arith) (All-nil (λ (piece : List ℕ). length piece ≤ 0))
All-pieces p (x ∷ text) = elim (cases_Bool (p x)) [
  | inl cut ↦
      subst (All (λ piece. length piece ≤ length (x ∷ text))) (sym (cond-true (p x) ([] ∷ slice_split p text) (onto_first x (slice_split p text)) cut))
      (All-cons (λ piece. length piece ≤ length (x ∷ text)) [] (slice_split p text) (omega arith) (All-longer (length text) (length (x ∷ text)) (slice_split p text) (omega arith) (All-pieces p text)))
  | inr uncut ↦
      subst (All (λ piece. length piece ≤ length (x ∷ text))) (sym (cond-false (p x) ([] ∷ slice_split p text) (onto_first x (slice_split p text)) uncut))
      (All-longer (length text + 1) (length (x ∷ text)) (onto_first x (slice_split p text)) (omega arith) (All-onto_first (length text) x (slice_split p text) (All-pieces p text)))
]

pub some_lines-none : (lines : List Line) → length lines ≡ 0 → some_lines lines ≡ Err (record { entry = 0; line = 0; kind = kinds.Fields })
some_lines-none [] none = refl
some_lines-none (line ∷ more) none = absurd (omega arith)
