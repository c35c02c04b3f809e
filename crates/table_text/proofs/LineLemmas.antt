-- Lines and targets, fault by fault.
use Rattle.std.proofs.Common.{◌≡◌, ℕ, ◌*◌, List, ◌∷◌, length, Ok, Err, ap, ◌∙◌, eqb}
use Rattle.std.proofs.lemmas.Bool.{cond-false, ne_eqb}
use Rattle.dm_table.specs.declared.table.Target.TheVariants.{Striped}
use Rattle.dm_table.specs.declared.fault.TextKind.{TextKind}
use Rattle.dm_table.specs.declared.fault.TextKind.TheVariants as kinds
use Rattle.dm_table.specs.Words.{Word}
use Rattle.dm_table.specs.Reading.{◌>>=◌}
use Rattle.dm_table.specs.Arguments.{number_at}
use Rattle.dm_table.specs.Lines.{stripes_at, chunk_at, pairs_at, bases_at, striped_at, target_at, line_of}
use Rattle.dm_table.proofs.lemmas.ReadLineLemmas.{striped-pairs}

-- a striped line at each of its faults
pub striped-stripes : (count size : Word) (pairs : List Word) (kind : TextKind) → stripes_at count ≡ Err kind → striped_at (count ∷ size ∷ pairs) ≡ Err kind
unfolding striped_at
striped-stripes count size pairs kind e =
    ap (λ r. r >>= (λ n. chunk_at size >>= (λ chunk. pairs_at n pairs >>= (λ bases. Ok (Striped chunk bases))))) e

pub striped-chunk : (count size : Word) (pairs : List Word) (n : ℕ) (kind : TextKind) → stripes_at count ≡ Ok n → chunk_at size ≡ Err kind → striped_at (count ∷ size ∷ pairs) ≡ Err kind
unfolding striped_at
striped-chunk count size pairs n kind e f =
    ap (λ r. r >>= (λ n. chunk_at size >>= (λ chunk. pairs_at n pairs >>= (λ bases. Ok (Striped chunk bases))))) e
    ∙ ap (λ r. r >>= (λ chunk. pairs_at n pairs >>= (λ bases. Ok (Striped chunk bases)))) f

pub striped-count : (count size : Word) (pairs : List Word) (n chunk : ℕ) → stripes_at count ≡ Ok n → chunk_at size ≡ Ok chunk → (length pairs ≡ 2 * n → ⊥) → striped_at (count ∷ size ∷ pairs) ≡ Err kinds.ArgCount
striped-count count size pairs n chunk e f ne =
    striped-pairs count size pairs n chunk e f
    ∙ ap (λ r. r >>= (λ bases. Ok (Striped chunk bases))) (cond-false (eqb (length pairs) (2 * n)) (bases_at pairs) (Err kinds.ArgCount) (ne_eqb (length pairs) (2 * n) ne))

-- a line at each of its faults
pub line-start : (start count type : Word) (arguments : List Word) (kind : TextKind) → number_at start ≡ Err kind → line_of (start ∷ count ∷ type ∷ arguments) ≡ Err kind
unfolding line_of
line-start start count type arguments kind e =
    ap (λ r. r >>= (λ first. number_at count >>= (λ sectors. target_at type arguments >>= (λ target. Ok (record { start = first; length = sectors; target = target }))))) e

pub line-length : (start count type : Word) (arguments : List Word) (n : ℕ) (kind : TextKind) → number_at start ≡ Ok n → number_at count ≡ Err kind → line_of (start ∷ count ∷ type ∷ arguments) ≡ Err kind
unfolding line_of
line-length start count type arguments n kind e f =
    ap (λ r. r >>= (λ first. number_at count >>= (λ sectors. target_at type arguments >>= (λ target. Ok (record { start = first; length = sectors; target = target }))))) e
    ∙ ap (λ r. r >>= (λ sectors. target_at type arguments >>= (λ target. Ok (record { start = n; length = sectors; target = target })))) f
