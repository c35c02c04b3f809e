-- Results of readers, put together from the parts.
use Rattle.std.proofs.Common.{◌≡◌, ◌≤◌, List, [], ◌∷◌, ◌++◌, Result, Ok, Err, IsErrAnd, MatchResult, subst, refl, ap, append-nil, append_assoc, sym, ◌∙◌}
use Rattle.allocation.specs.Asked.{asked}
use Rattle.allocation.specs.declared.out_of_memory.OutOfMemory.{OutOfMemory}
use Rattle.table_text.specs.declared.line_fault.LineFault.{LineFault}
use Rattle.table_text.specs.declared.line_fault.LineFault.TheVariants as line_fault
use Rattle.dm_table.specs.declared.fault.ParseFault.{ParseFault}
use Rattle.dm_table.specs.declared.fault.ParseFault.TheVariants as parse_fault
use Rattle.dm_table.specs.declared.fault.TextFault.{TextFault}
use Rattle.dm_table.specs.declared.fault.TextKind.{TextKind}
use Rattle.dm_table.specs.Names.{most_name}
use Rattle.dm_table.specs.Reading.{Read, ◌>>=◌, IsAnswer}
use Rattle.table_text.specs.Reading.{IsReading}

-- the list read so far, before what the rest gives
abbrev pub after : {A E : Type 0} → List A → Result (List A) E → Result (List A) E
after before (Ok more) = Ok (before ++ more)
after before (Err e) = Err e

pub after-nil : {A E : Type 0} (rest : Result (List A) E) → after [] rest ≡ rest
after-nil (Ok more) = refl
after-nil (Err e) = refl

-- one element more
pub after_push : {A E : Type 0} (before : List A) (x : A) (rest : Result (List A) E) → after before (rest >>= (λ more. Ok (x ∷ more))) ≡ after (before ++ x ∷ []) rest
after_push before x (Ok more) = ap Ok (sym (append_assoc before (x ∷ []) more))
after_push before x (Err e) = refl

pub after_end : {A E : Type 0} (before : List A) → after {E = E} before (Ok []) ≡ Ok before
after_end before = ap Ok (append-nil before)

-- the exit of a `?` with a kind, and with a fault of a part
pub exit_kind : {A : Type 0} (r : Result A LineFault) (kind : TextKind) (answer : Read A) → IsErrAnd r (λ e. e ≡ line_fault.Kind kind) → answer ≡ Err kind → IsReading r answer
exit_kind (Ok x) kind answer h e = absurd h
exit_kind (Err fault) kind answer h e = rw h e

pub exit_part : {A B : Type 0} (r : Result A LineFault) (fault : LineFault) (part : Read B) (answer : Read A) → IsErrAnd r (λ e. e ≡ fault) → IsReading {A = B} (Err fault) part → ((kind : TextKind) → part ≡ Err kind → answer ≡ Err kind) → IsReading r answer
exit_part (Ok x) fault part answer h p f = absurd h
exit_part (Err e) (line_fault.Kind kind) part answer h p f = rw h (f kind p)
exit_part (Err e) line_fault.NoMemory part answer h p f = rw h p

-- a part's fault, of a text's fault
pub exit_text : {A B : Type 0} (r : Result A ParseFault) (fault : ParseFault) (part : Result B TextFault) (answer : Result A TextFault) → IsErrAnd r (λ e. e ≡ fault) → IsAnswer {A = B} (Err fault) part → ((f : TextFault) → part ≡ Err f → answer ≡ Err f) → IsAnswer r answer
exit_text (Ok x) fault part answer h p f = absurd h
exit_text (Err e) (parse_fault.Text first) part answer h p f = rw h (f first p)
exit_text (Err e) parse_fault.NoMemory part answer h p f = rw h p

-- the exit of a `?` with a refused allocation
pub exit_memory : {A : Type 0} (r : Result A LineFault) (answer : Read A) (e : OutOfMemory) → IsErrAnd r (λ fault. fault ≡ line_fault.NoMemory) → asked e ≤ most_name → IsReading r answer
exit_memory (Ok x) answer e h low = absurd h
exit_memory (Err fault) answer e h low = rw h (e.asked, low, e.refused)

-- the exit of a `?` whose fault is returned as it is
pub exit_same : {A E : Type 0} (r : Result A E) (P : A → Type 0) (Q : E → Type 0) (fault : E) → IsErrAnd r (λ e. e ≡ fault) → Q fault → MatchResult r P Q
exit_same (Ok x) P Q fault h q = absurd h
exit_same (Err e) P Q fault h q = subst Q (sym h) q

-- the exit of a `?` where the fault is the whole answer
pub exit_value : {A E : Type 0} (r answer : Result A E) (fault : E) → IsErrAnd r (λ e. e ≡ fault) → answer ≡ Err fault → r ≡ answer
exit_value (Ok x) answer fault h e = absurd h
exit_value (Err x) answer fault h e = ap Err h ∙ sym e
