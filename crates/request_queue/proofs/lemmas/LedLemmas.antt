-- Runs of the queue, one after another.
use Rattle.std.proofs.Common.{◌≡◌, List, [], ◌∷◌, ◌++◌, refl, sym, ◌∙◌, subst}
use Rattle.request_queue.specs.Parts.{PartRelation}
use Rattle.request_queue.specs.Runs.{IsLed, Turn, AreTurns, last}
use Rattle.request_queue.specs.World.{World, Event, Step}

pub run-append : (part : PartRelation) (w : World) (xs ys : List Turn) → AreTurns part w xs → AreTurns part (last w xs) ys → AreTurns part w (xs ++ ys)
run-append part w [] ys r s = s
run-append part w (x ∷ xs) ys r s = (r.0, run-append part x.after xs ys r.1 s)

pub last-append : (w : World) (xs ys : List Turn) → last w (xs ++ ys) ≡ last (last w xs) ys
last-append w [] ys = refl
last-append w (x ∷ xs) ys = last-append x.after xs ys

pub led-none : (part : PartRelation) (w : World) → IsLed part w w
led-none part w = record { turns = []; run = tt; ends = refl }

pub led-one : (part : PartRelation) (w : World) (e : Event) (w' : World) → Step part w e w' → IsLed part w w'
led-one part w e w' s = let turn : Turn = record { event = e; after = w' } in record { turns = turn ∷ []; run = (s, tt); ends = refl }

pub led-then : (part : PartRelation) (w v w' : World) → IsLed part w v → IsLed part v w' → IsLed part w w'
led-then part w v w' p q = record {
  turns = p.turns ++ q.turns;
  run = run-append part w p.turns q.turns p.run (subst (λ (x : World). AreTurns part x q.turns) (sym p.ends) q.run);
  ends = last-append w p.turns q.turns ∙ subst (λ (x : World). last x q.turns ≡ w') (sym p.ends) q.ends;
}
