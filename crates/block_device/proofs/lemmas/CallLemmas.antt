-- What follows from a list of calls.
use Rattle.std.proofs.Common.{◌≡◌, ◌+◌, List, [], ◌∷◌, ◌++◌, refl, subst, arith}
use Rattle.block_device.specs.Call.{Call, Calls}
use Rattle.block_device.specs.CallList.{all_read, all_written}

-- one more call
pub calls-last : {D : Type 0} (does : D → Call → D → Type 0) (a b c : D) (calls : List Call) (call : Call) → Calls does a calls b → does b call c → Calls does a (calls ++ call ∷ []) c
calls-last does a b c [] call same last = (c, subst (λ x. does x call c) same last, refl)
calls-last does a b c (first ∷ more) call h last = (h.0, h.1, calls-last does h.0 b c more call h.2 last)

-- more calls
pub calls-append : {D : Type 0} (does : D → Call → D → Type 0) (a b c : D) (calls others : List Call) → Calls does a calls b → Calls does b others c → Calls does a (calls ++ others) c
calls-append does a b c [] others same h = subst (λ x. Calls does x others c) same h
calls-append does a b c (first ∷ more) others h last = (h.0, h.1, calls-append does h.0 b c more others h.2 last)

-- how many sectors two lists of calls read, and how many they write
pub all_read-append : (calls others : List Call) → all_read (calls ++ others) ≡ all_read calls + all_read others
all_read-append [] others = omega arith
all_read-append (call ∷ more) others = omega (arith, all_read-append more others)

pub all_written-append : (calls others : List Call) → all_written (calls ++ others) ≡ all_written calls + all_written others
all_written-append [] others = omega arith
all_written-append (call ∷ more) others = omega (arith, all_written-append more others)
