-- Calls on the devices of leaves, one after another.
use Rattle.std.proofs.Common.{ℕ, List, [], ◌∷◌, ◌++◌, refl, subst}
use Rattle.block_device.specs.Call.{Call}
use Rattle.stack_engine.specs.LeafCalls.{IsLeafCall, LeafCall, LeafCalls, MakesCalls}

-- some calls, and then more
pub leaf_calls-append : {D : Type 0} (does : D → Call → D → Type 0) (a b c : List D) (calls later : List LeafCall) → LeafCalls does a calls b → LeafCalls does b later c → LeafCalls does a (calls ++ later) c
leaf_calls-append does a b c [] later same h = subst (λ ds. LeafCalls does ds later c) same h
leaf_calls-append does a b c (x ∷ calls) later h last = (h.0, h.1, leaf_calls-append does h.0 b c calls later h.2 last)

module _ {D : Type 0} {does : D → Call → D → Type 0} where
  pub makes-none : {Are : List LeafCall → Type 0} {ds : List D} → Are [] → MakesCalls does Are ds ds
  makes-none are = record { calls = []; are = are; made = refl }

  pub makes-one : {Are : List LeafCall → Type 0} {old new : List D} (i : ℕ) (call : Call) → Are (record { leaf = i; call = call } ∷ []) → IsLeafCall does i old call new → MakesCalls does Are old new
  makes-one {new = new} i call are made = record { calls = record { leaf = i; call = call } ∷ []; are = are; made = (new, made, refl) }

  -- calls of one kind are calls of another kind that follows from it
  pub makes-as : {Are Be : List LeafCall → Type 0} {old new : List D} → ((calls : List LeafCall) → Are calls → Be calls) → MakesCalls does Are old new → MakesCalls does Be old new
  makes-as seen h = record { calls = h.calls; are = seen h.calls h.are; made = h.made }

  pub makes-then : {Are Be Both : List LeafCall → Type 0} {old mid new : List D} → ((calls later : List LeafCall) → Are calls → Be later → Both (calls ++ later)) → MakesCalls does Are old mid → MakesCalls does Be mid new → MakesCalls does Both old new
  makes-then {old = old} {mid = mid} {new = new} both h k = record {
    calls = h.calls ++ k.calls;
    are = both h.calls k.calls h.are k.are;
    made = leaf_calls-append does old mid new h.calls k.calls h.made k.made;
  }
