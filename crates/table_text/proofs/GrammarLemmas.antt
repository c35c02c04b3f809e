-- What was read keeps to the grammar's limits.
use Rattle.std.proofs.Common.{◌≡◌, ℕ, ◌+◌, ◌*◌, ◌<◌, ◌≤◌, suc, zero, true, not, ◌&&◌, eqb, leb, IsTrue, List, [], ◌∷◌, length, All, ok_or, Ok, Err, refl, ap, sym, subst, ◌∙◌, inl, inr, arith}
use Rattle.std.specs.List.{AllPairs, list_all}
use Rattle.std.proofs.lemmas.Bool.{cases_Bool, cond-true, cond-false, and_parts, leb-true, eqb-true}
use Rattle.std.proofs.lemmas.List.Elements.{All-nil, All-cons}
use Rattle.dm_table.specs.declared.table.Base.{Base}
use Rattle.dm_table.specs.declared.table.Line.{Line}
use Rattle.dm_table.specs.declared.table.Target.{Target}
use Rattle.dm_table.specs.declared.table.Target.TheVariants.{Linear, Striped, Zero, Error, Crypt, Verity}
use Rattle.dm_table.specs.declared.target_type.TargetType.{TargetType}
use Rattle.dm_table.specs.declared.target_type.TargetType.TheVariants as types
use Rattle.dm_table.specs.declared.stack.Entry.{Entry}
use Rattle.dm_table.specs.declared.fault.TextKind.TheVariants as kinds
use Rattle.dm_table.specs.Words.{Word, is_white, is_text, words, trimmed_text, text_lines, entries_of, fields_of}
use Rattle.dm_table.specs.Numbers.{number}
use Rattle.dm_table.specs.Names.{is_mapped_name}
use Rattle.dm_table.specs.Reading.{Read, ◌>>=◌, at_place}
use Rattle.dm_table.specs.Arguments.{number_at, base_at}
use Rattle.dm_table.specs.Lines.{linear_at, bases_at, stripes_at, chunk_at, pairs_at, striped_at, bare_at, arguments_at, target_at, line_of}
use Rattle.dm_table.specs.TargetTypes.{type_named}
use Rattle.dm_table.specs.Crypt.{crypt_at}
use Rattle.dm_table.specs.Verity.{verity_at}
use Rattle.dm_table.specs.Grammar.{IsBaseOfGrammar, IsTargetOfGrammar, IsLineOfGrammar, IsTableOfGrammar}
use Rattle.dm_table.specs.TableText.{is_skipped, table_lines, some_lines, table_of}
use Rattle.dm_table.specs.StackText.{name_at, minor_at, flags_at, entry_lines, Head, head_of, entry_of, entries_from, stack_of, IsEntryOfGrammar, IsStackOfGrammar}
use Rattle.table_text.proofs.ReadValueLemmas.{bind_ok, ok_same, ok_or_ok, chosen, number-fits, number_at-fits, number_if-some, base-grammar}
use Rattle.table_text.proofs.CryptLemmas.{crypt-grammar}
use Rattle.table_text.proofs.VerityLemmas.{verity-grammar}
use Rattle.table_text.proofs.UnstripedLemmas.{unstriped-grammar}

linear-grammar : (arguments : List Word) (target : Target) → linear_at arguments ≡ Ok target → IsTargetOfGrammar target
unfolding linear_at
linear-grammar [] target e = cc
linear-grammar (name ∷ []) target e = cc
linear-grammar (name ∷ offset ∷ []) target e =
    let base = bind_ok (base_at name offset) _ target e in
    subst IsTargetOfGrammar (ok_same (Linear base.0) target base.2) (base-grammar name offset base.0 base.1)
linear-grammar (name ∷ offset ∷ more ∷ words) target e = cc

bases-grammar : (pairs : List Word) (bases : List Base) → bases_at pairs ≡ Ok bases → (2 * length bases ≡ length pairs) × All IsBaseOfGrammar bases
bases-grammar [] bases e = subst (λ bs. (2 * length bs ≡ 0) × All IsBaseOfGrammar bs) (ok_same [] bases e) (refl, All-nil IsBaseOfGrammar)
bases-grammar (name ∷ []) bases e = cc
bases-grammar (name ∷ offset ∷ more) bases e =
    let base = bind_ok (base_at name offset) _ bases e in
    let rest = bind_ok (bases_at more) _ bases base.2 in
    let below = bases-grammar more rest.0 rest.1 in
    subst (λ bs. (2 * length bs ≡ length (name ∷ offset ∷ more)) × All IsBaseOfGrammar bs) (ok_same (base.0 ∷ rest.0) bases rest.2)
    (let twice = below.0 in omega arith, All-cons IsBaseOfGrammar base.0 rest.0 (base-grammar name offset base.0 base.1) below.1)

striped-grammar : (arguments : List Word) (target : Target) → striped_at arguments ≡ Ok target → IsTargetOfGrammar target
unfolding striped_at
striped-grammar [] target e = cc
striped-grammar (count ∷ []) target e = cc
striped-grammar (count ∷ size ∷ pairs) target e =
    let n = bind_ok (stripes_at count) _ target e in
    let chunk = bind_ok (chunk_at size) _ target n.2 in
    let bases = bind_ok (pairs_at n.0 pairs) _ target chunk.2 in
    let stripes = number_if-some (λ k. leb 1 k && leb k 16) (number count) n.0 (ok_or_ok _ kinds.StripeCount n.0 n.1) in
    let sectors = number_if-some (λ k. leb 1 k) (number size) chunk.0 (ok_or_ok _ kinds.ZeroChunk chunk.0 chunk.1) in
    let counted = chosen (eqb (length pairs) (2 * n.0)) (bases_at pairs) kinds.ArgCount bases.0 bases.1 in
    let each = bases-grammar pairs bases.0 counted.1 in
    let limits = and_parts _ _ stripes.1 in
    let low : 1 ≤ n.0 = leb-true 1 n.0 limits.0 in
    let high : n.0 ≤ 16 = leb-true n.0 16 limits.1 in
    let same : length pairs ≡ 2 * n.0 = eqb-true (length pairs) (2 * n.0) counted.0 in
    let twice : 2 * length bases.0 ≡ length pairs = each.0 in
    subst IsTargetOfGrammar (ok_same (Striped chunk.0 bases.0) target bases.2)
    (record {
      some = omega arith;
      most = omega arith;
      chunk_some = leb-true 1 chunk.0 sectors.1;
      chunk_fits = number-fits size chunk.0 sectors.0;
      each = each.1;
    })

bare-grammar : (target : Target) (arguments : List Word) (read : Target) → IsTargetOfGrammar target → bare_at target arguments ≡ Ok read → IsTargetOfGrammar read
unfolding bare_at
bare-grammar target [] read h e = subst IsTargetOfGrammar (ok_same target read e) h
bare-grammar target (word ∷ more) read h e = cc

crypt_target-grammar : (arguments : List Word) (target : Target) → arguments_at types.Crypt arguments ≡ Ok target → IsTargetOfGrammar target
crypt_target-grammar arguments target e =
    let crypt = bind_ok (crypt_at arguments) _ target e in
    subst IsTargetOfGrammar (ok_same (Crypt crypt.0) target crypt.2) (crypt-grammar arguments crypt.0 crypt.1)

verity_target-grammar : (arguments : List Word) (target : Target) → arguments_at types.Verity arguments ≡ Ok target → IsTargetOfGrammar target
verity_target-grammar arguments target e =
    let verity = bind_ok (verity_at arguments) _ target e in
    subst IsTargetOfGrammar (ok_same (Verity verity.0) target verity.2) (verity-grammar arguments verity.0 verity.1)

arguments-grammar : (type : TargetType) (arguments : List Word) (target : Target) → arguments_at type arguments ≡ Ok target → IsTargetOfGrammar target
arguments-grammar types.Linear = linear-grammar
arguments-grammar types.Striped = striped-grammar
arguments-grammar types.Zero = λ arguments target. bare-grammar Zero arguments target tt
arguments-grammar types.Error = λ arguments target. bare-grammar Error arguments target tt
arguments-grammar types.Crypt = crypt_target-grammar
arguments-grammar types.Verity = verity_target-grammar
arguments-grammar types.Unstriped = unstriped-grammar

target-grammar : (word : Word) (arguments : List Word) (target : Target) → target_at word arguments ≡ Ok target → IsTargetOfGrammar target
unfolding target_at
target-grammar word arguments target e =
    let type = bind_ok (ok_or (type_named word) kinds.Target) _ target e in
    arguments-grammar type.0 arguments target type.2

pub line-grammar : (ws : List Word) (line : Line) → line_of ws ≡ Ok line → IsLineOfGrammar line
unfolding line_of
line-grammar [] line e = cc
line-grammar (start ∷ []) line e = cc
line-grammar (start ∷ count ∷ []) line e = cc
line-grammar (start ∷ count ∷ type ∷ arguments) line e =
    let first = bind_ok (number_at start) _ line e in
    let sectors = bind_ok (number_at count) _ line first.2 in
    let target = bind_ok (target_at type arguments) _ line sectors.2 in
    subst IsLineOfGrammar (ok_same _ line target.2)
    (record { start = number_at-fits start first.0 first.1; sectors = number_at-fits count sectors.0 sectors.1; target = target-grammar type arguments target.0 target.1 })

placed : {A : Type 0} (entry line : ℕ) (r : Read A) (x : A) → at_place entry line r ≡ Ok x → r ≡ Ok x
placed entry line (Ok y) x e = cc
placed entry line (Err kind) x e = cc

table_lines-grammar : (n : ℕ) (texts : List (List ℕ)) (lines : List Line) → table_lines n texts ≡ Ok lines → All IsLineOfGrammar lines
table_lines-grammar n [] lines e = subst (All IsLineOfGrammar) (ok_same [] lines e) (All-nil IsLineOfGrammar)
table_lines-grammar n (text ∷ more) lines e = elim (cases_Bool (is_skipped (words text))) [
  | inl skipped ↦ table_lines-grammar (n + 1) more lines (sym (cond-true (is_skipped (words text)) _ _ skipped) ∙ e)
  | inr kept ↦
      let line = bind_ok (at_place 0 n (line_of (words text))) (λ line. table_lines (n + 1) more >>= (λ lines. Ok (line ∷ lines))) lines (sym (cond-false (is_skipped (words text)) _ _ kept) ∙ e) in
      let rest = bind_ok (table_lines (n + 1) more) (λ lines. Ok (line.0 ∷ lines)) lines line.2 in
      subst (All IsLineOfGrammar) (ok_same (line.0 ∷ rest.0) lines rest.2)
      (All-cons IsLineOfGrammar line.0 rest.0 (line-grammar (words text) line.0 (placed 0 n _ line.0 line.1)) (table_lines-grammar (n + 1) more rest.0 rest.1))
]

some_lines-same : (read lines : List Line) → some_lines read ≡ Ok lines → (read ≡ lines) × (1 ≤ length read)
some_lines-same [] lines e = cc
some_lines-same (line ∷ more) lines e = (ok_same (line ∷ more) lines e, omega arith)

-- a table that was read from a text
pub table-grammar : (text : List ℕ) (lines : List Line) → table_of text ≡ Ok lines → IsTableOfGrammar lines
unfolding table_of
table-grammar text lines e = elim (cases_Bool (not (is_text text))) [
  | inl other ↦ let h = sym (cond-true (not (is_text text)) _ _ other) ∙ e in cc
  | inr good ↦
      let read = bind_ok (table_lines 1 (text_lines text)) some_lines lines (sym (cond-false (not (is_text text)) _ _ good) ∙ e) in
      let some = some_lines-same read.0 lines read.2 in
      let all : IsTableOfGrammar read.0 = record { some = some.1; each = table_lines-grammar 1 (text_lines text) read.0 read.1 } in
      subst IsTableOfGrammar some.0 all
]

entry_lines-grammar : (e n : ℕ) (fields : List (List ℕ)) (lines : List Line) → entry_lines e n fields ≡ Ok lines → (length lines ≡ length fields) × All IsLineOfGrammar lines
entry_lines-grammar e n [] lines h = subst (λ ls. (length ls ≡ 0) × All IsLineOfGrammar ls) (ok_same [] lines h) (refl, All-nil IsLineOfGrammar)
entry_lines-grammar e n (field ∷ more) lines h =
    let line = bind_ok (at_place e n (line_of (words field))) (λ line. entry_lines e (n + 1) more >>= (λ lines. Ok (line ∷ lines))) lines h in
    let rest = bind_ok (entry_lines e (n + 1) more) (λ lines. Ok (line.0 ∷ lines)) lines line.2 in
    let below = entry_lines-grammar e (n + 1) more rest.0 rest.1 in
    subst (λ ls. (length ls ≡ length (field ∷ more)) × All IsLineOfGrammar ls) (ok_same (line.0 ∷ rest.0) lines rest.2)
    (let same = below.0 in omega arith, All-cons IsLineOfGrammar line.0 rest.0 (line-grammar (words field) line.0 (placed e n _ line.0 line.1)) below.1)

-- the lines of an entry that was read
pub entry_table-grammar : (e n : ℕ) (first : List ℕ) (fields : List (List ℕ)) (lines : List Line) → entry_lines e n (first ∷ fields) ≡ Ok lines → IsTableOfGrammar lines
entry_table-grammar e n first fields lines h =
    let read = entry_lines-grammar e n (first ∷ fields) lines h in
    let same : length lines ≡ length (first ∷ fields) = read.0 in
    record { some = omega arith; each = read.1 }

pub head-grammar : (fields : List (List ℕ)) (head : Head) → head_of fields ≡ Ok head → IsTrue (is_mapped_name head.name) × (first : List ℕ) × (rest : List (List ℕ)) × (head.lines ≡ first ∷ rest)
unfolding head_of
head-grammar [] head e = cc
head-grammar (name ∷ []) head e = cc
head-grammar (name ∷ uuid ∷ []) head e = cc
head-grammar (name ∷ uuid ∷ minor ∷ []) head e = cc
head-grammar (name ∷ uuid ∷ minor ∷ flags ∷ []) head e = cc
head-grammar (name ∷ uuid ∷ minor ∷ flags ∷ line ∷ lines) head e =
    let called = bind_ok (name_at (trimmed_text name)) _ head e in
    let numbered = bind_ok (minor_at (trimmed_text minor)) _ head called.2 in
    let writable = bind_ok (flags_at (trimmed_text flags)) _ head numbered.2 in
    let named = chosen (is_mapped_name (trimmed_text name)) (Ok (trimmed_text name)) kinds.Name called.0 called.1 in
    let same : trimmed_text name ≡ called.0 = ok_same (trimmed_text name) called.0 named.1 in
    subst (λ (h : Head). IsTrue (is_mapped_name h.name) × (first : List ℕ) × (rest : List (List ℕ)) × (h.lines ≡ first ∷ rest)) (ok_same _ head writable.2)
    (subst (λ w. is_mapped_name w ≡ true) same named.0, line, lines, refl)

entry-grammar : (e : ℕ) (fields : List (List ℕ)) (entry : Entry) → 1 ≤ e → entry_of e fields ≡ Ok entry → IsEntryOfGrammar entry × (entry.number ≡ e)
unfolding entry_of
entry-grammar e fields entry some h =
    let head = bind_ok (at_place e 0 (head_of fields)) _ entry h in
    let table = bind_ok (entry_lines e 1 head.0.lines) _ entry head.2 in
    let shape = head-grammar fields head.0 (placed e 0 _ head.0 head.1) in
    let lines = entry_table-grammar e 1 shape.1 shape.2 table.0 (ap (entry_lines e 1) (sym shape.3) ∙ table.1) in
    subst (λ (x : Entry). IsEntryOfGrammar x × (x.number ≡ e)) (ok_same _ entry table.2)
    (record { number = some; name = shape.0; table = lines }, refl)

pub AllPairs-cons : {X : Type 0} (R : X → X → Type 0) (x : X) (xs : List X) → All (R x) xs → AllPairs R xs → AllPairs R (x ∷ xs)
AllPairs-cons R x xs h hs zero zero d lt below = absurd (omega arith)
AllPairs-cons R x xs h hs zero (suc j) d lt below = h j d (omega arith)
AllPairs-cons R x xs h hs (suc i) zero d lt below = absurd (omega arith)
AllPairs-cons R x xs h hs (suc i) (suc j) d lt below = hs i j d (omega arith) (omega arith)

AllPairs-nil : {X : Type 0} (R : X → X → Type 0) → AllPairs R []
AllPairs-nil R i j d lt below = absurd (omega arith)

All-weaker : {X : Type 0} (P Q : X → Type 0) (xs : List X) → ((x : X) → P x → Q x) → All P xs → All Q xs
All-weaker P Q xs f h k d lt = f _ (h k d lt)

abbrev Rises : Entry → Entry → Type 0
Rises before after = before.number < after.number

entries-grammar : (e : ℕ) (texts : List (List ℕ)) (entries : List Entry) → 1 ≤ e → entries_from e texts ≡ Ok entries → IsStackOfGrammar entries × All (λ (x : Entry). e ≤ x.number) entries
entries-grammar e [] entries some h =
    subst (λ es. IsStackOfGrammar es × All (λ (x : Entry). e ≤ x.number) es) (ok_same [] entries h)
    (record { each = All-nil IsEntryOfGrammar; rise = AllPairs-nil Rises }, All-nil (λ (x : Entry). e ≤ x.number))
entries-grammar e (text ∷ more) entries some h = elim (cases_Bool (list_all is_white text)) [
  | inl blank ↦
      let below = entries-grammar (e + 1) more entries (omega arith) (sym (cond-true (list_all is_white text) _ _ blank) ∙ h) in
      (below.0, All-weaker (λ (x : Entry). e + 1 ≤ x.number) (λ (x : Entry). e ≤ x.number) entries (λ x le. omega arith) below.1)
  | inr full ↦
      let entry = bind_ok (entry_of e (fields_of text)) (λ entry. entries_from (e + 1) more >>= (λ entries. Ok (entry ∷ entries))) entries (sym (cond-false (list_all is_white text) _ _ full) ∙ h) in
      let rest = bind_ok (entries_from (e + 1) more) (λ entries. Ok (entry.0 ∷ entries)) entries entry.2 in
      let below = entries-grammar (e + 1) more rest.0 (omega arith) rest.1 in
      let first = entry-grammar e (fields_of text) entry.0 some entry.1 in
      let number : entry.0.number ≡ e = first.1 in
      subst (λ es. IsStackOfGrammar es × All (λ (x : Entry). e ≤ x.number) es) (ok_same (entry.0 ∷ rest.0) entries rest.2) (
        record {
          each = All-cons IsEntryOfGrammar entry.0 rest.0 first.0 below.0.each;
          rise = AllPairs-cons Rises entry.0 rest.0 (All-weaker (λ (x : Entry). e + 1 ≤ x.number) (Rises entry.0) rest.0 (λ x le. omega arith) below.1) below.0.rise;
        },
        All-cons (λ (x : Entry). e ≤ x.number) entry.0 rest.0 (omega arith) (All-weaker (λ (x : Entry). e + 1 ≤ x.number) (λ (x : Entry). e ≤ x.number) rest.0 (λ x le. omega arith) below.1),
      )
]

-- a stack that was read from a text
pub stack-grammar : (text : List ℕ) (entries : List Entry) → stack_of text ≡ Ok entries → IsStackOfGrammar entries
unfolding stack_of
stack-grammar text entries e = elim (cases_Bool (not (is_text text))) [
  | inl other ↦ let h = sym (cond-true (not (is_text text)) _ _ other) ∙ e in cc
  | inr good ↦ (entries-grammar 1 (entries_of text) entries (omega arith) (sym (cond-false (not (is_text text)) _ _ good) ∙ e)).0
]
