-- The record read is the one carried, and a superblock's spelling carries it.
use Rattle.std.proofs.Common.{◌≡◌, ◌∙◌, sym, ap, Ok, Err, Some, None, List, ℕ, length, IfOk}
use Rattle.std.specs.Prelude.{Result}
use Rattle.std.specs.Result.{result_err}
use Rattle.verity_format.specs.declared.decoding.SuperFault.{SuperFault}
use Rattle.verity_format.specs.Superblock.{SuperRecord, Carries, super_fault, read_of}
use Rattle.verity_format.proofs.FieldLemmas.{carried-read, same-read, no_fault-from_Carries}
use Rattle.verity_format.proofs.lemmas.SpellingLemmas.{carried-spelling}
use Rattle.verity_format.proofs.decoding.decode.Goals as goal

-- what is read carries the bytes
read-carried : (r : Result SuperRecord SuperFault) (bytes : List ℕ) → length bytes ≡ 512
    → IfOk r (λ s. s ≡ read_of bytes) → result_err r ≡ super_fault bytes → IfOk r (λ s. Carries s bytes)
read-carried (Ok s) bytes size value err = let P : SuperRecord → Type 0 = λ t. Carries t bytes in rw value (carried-read bytes size (sym err))
read-carried (Err f) bytes size value err = tt

-- bytes that carry a superblock are read as it
carried-same : (r : Result SuperRecord SuperFault) (bytes : List ℕ) (s : SuperRecord)
    → IfOk r (λ s. s ≡ read_of bytes) → result_err r ≡ super_fault bytes → Carries s bytes → r ≡ Ok s
carried-same (Ok t) bytes s value err carries = ap Ok (value ∙ same-read s bytes carries)
carried-same (Err f) bytes s value err carries = let e : Some f ≡ None = err ∙ no_fault-from_Carries s bytes carries in cc

pub returns-clause-ok : goal.returns-clause-ok
returns-clause-ok c = read-carried c.fields.result c.args.bytes.now c.told-bytes c.fields.ensures.value c.fields.ensures.err

pub returns-clause-carried : goal.returns-clause-carried
returns-clause-carried c = λ s carries. carried-same c.fields.result c.args.bytes.now s c.fields.ensures.value c.fields.ensures.err carries

pub returns-clause-written : goal.returns-clause-written
returns-clause-written c = λ s valid is. carried-same c.fields.result c.args.bytes.now s c.fields.ensures.value c.fields.ensures.err (rw is (carried-spelling s valid))
