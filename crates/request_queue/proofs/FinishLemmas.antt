-- Steps of one request up to its last.
use Rattle.std.proofs.Common.{◌≡◌, ◌≢◌, ◌<◌, ◌≤◌, ℕ, ◌+◌, None, Result, ap, arith}
use Rattle.stack_meaning.specs.declared.fault.IoFault.{IoFault}
use Rattle.request_queue.specs.declared.reply.Progress.TheVariants.{More}
use Rattle.request_queue.specs.declared.reply.Reply.{Reply}
use Rattle.request_queue.specs.Parts.{EachPart, PartRelation}
use Rattle.request_queue.specs.World.{World, Serves, EndsRequest, later}
use Rattle.request_queue.specs.Runs.{flight_of, rest, rest_of}
use Rattle.request_queue.proofs.lemmas.PremiseLemmas.{serves-any}
use Rattle.request_queue.proofs.lemmas.BudgetLemmas.{InOrder, has-served, goes-on, rest-became}

-- where steps of a request end it from w on, it is ended from `first` on
abbrev pub EndsFrom : PartRelation → World → ℕ → World → Type 0
EndsFrom part first t w = (answer : Result Reply IoFault) (w' : World) → EndsRequest part t answer w w' → EndsRequest part t answer first w'

-- a request is served from `first` to w: where the rest ends it, it is ended
pub record Underway (first : World) (t : ℕ) (w : World) : Type 0 where
  pub there : flight_of w t ≢ None
  pub order : InOrder w
  pub so_far : EndsFrom EachPart first t w

-- one piece more
pub record Further (first : World) (t : ℕ) (w w' : World) : Type 0 where
  pub underway : Underway first t w'
  pub less : rest t w' < rest t w

pub further : (first : World) (t : ℕ) (w w' : World) → Underway first t w → Serves EachPart w t More w' → Further first t w w'
further first t w w' u s =
    let any = serves-any w t More w' s in
    let own = has-served w t More w' u.order any in
    let rested : 1 + rest t w' ≤ own.f.rest.count = rest-became own.f own.n (flight_of w' t) own.some own.most own.became in
    let was : rest t w ≡ own.f.rest.count = ap rest_of own.is in
    record {
      underway = record { there = goes-on w t w' u.order any; order = own.order; so_far = λ answer v ends. u.so_far answer v (later s ends) };
      less = omega (arith, rested, was);
    }
