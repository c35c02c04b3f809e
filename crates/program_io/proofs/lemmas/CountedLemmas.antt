-- Writings, one after another.
use Rattle.std.proofs.Common.{◌∙◌, refl, List, ℕ, Result, Ok, Err, Option, Some, None}
use Rattle.std.specs.Prelude.{OnOk}
use Rattle.std.specs.Io.KnownBytes.{Appends, Keeps}
use Rattle.program_io.specs.declared.fault.WriteFault.{WriteFault}
use Rattle.program_io.specs.Counted.{CountedRecord, Writing, Grows}

pub on_ok-as : {T E : Type 0} {P Q : Type 0} (r : Result T E) → (P → Q) → OnOk r P → OnOk r Q
on_ok-as (Ok x) f p = f p
on_ok-as (Err e) f p = tt

-- what follows from a writing that was done
pub Writing-as : {T : Type 0} {old new : CountedRecord T} {result : Result Unit WriteFault} {P Q : Type 0} → (P → Q) → Writing old new result P → Writing old new result Q
Writing-as {result = result} f w = record { ok = on_ok-as result f w.ok; kept = w.kept; failed = w.failed }

pub Appends-kept : (a b c : Option (List ℕ)) (bs : List ℕ) → Appends a b bs → Keeps b c → Appends a c bs
Appends-kept None b c bs p q = tt
Appends-kept (Some x) None c bs p q = absurd p
Appends-kept (Some x) (Some y) None bs p q = absurd q
Appends-kept (Some x) (Some y) (Some z) bs p q = q ∙ p

pub Keeps-refl : (known : Option (List ℕ)) → Keeps known known
Keeps-refl None = tt
Keeps-refl (Some xs) = refl

-- what is kept back is handed on
pub Grows-kept : {old mid : Option (List ℕ)} {P : List ℕ → Type 0} (new : Option (List ℕ)) → Grows old mid P → Keeps mid new → Grows old new P
Grows-kept {old = old} {mid = mid} new g k = record { text = g.text; holds = g.holds; written = Appends-kept old mid new g.text g.written k }
