-- Reads that take no memory, keep the leaves on which they don't lie, and stop at their first fault.
use Rattle.std.proofs.Common.{◌≡◌, ℕ, ◌+◌, ◌<◌, ◌≤◌, List, Contains, Result, Ok, Err, refl, ◌∙◌, subst, arith}
use Rattle.block_device.specs.Device.{Device}
use Rattle.stack_meaning.specs.declared.fault.IoFault.{IoFault}
use Rattle.stack_meaning.specs.declared.fault.IoFault.TheVariants as io
use Rattle.stack_meaning.specs.Outcomes.{mismatch}
use Rattle.stack_meaning.specs.Meaning.{Said}
use Rattle.stack_meaning.specs.Reading.{IsPlain}
use Rattle.stack_meaning.specs.Stops.{ReadStops}
use Rattle.stack_meaning.proofs.lemmas.FoundLemmas.{SomeOf-more}
use Rattle.stack_meaning.proofs.lemmas.ChangeLemmas.{reached-first, reached-later}
use Rattle.stack_meaning.proofs.lemmas.UpLemmas.{IsUp, up-same, read-up, read-first, read-later}

-- nothing was read
pub plain-none : (said : ℕ → Said) (first n : ℕ) (leaves : List Device) (result : Result Unit IoFault) → (result ≡ Err io.NoMemory → ⊥) → ReadStops said first n leaves leaves result → IsPlain said first n leaves leaves result
plain-none said first n leaves result grown stops = record { memory = λ is. absurd (grown is); leaf = λ none i d out. refl; stops = λ none. stops }

-- some sectors, and the next ones
pub plain-then : (said : ℕ → Said) (first a m n : ℕ) {old mid new : List Device} {result : Result Unit IoFault} → a + m ≤ n → IsPlain said first a old mid (Ok tt) → IsPlain said (first + a) m mid new result
    → IsPlain said first n old new result
plain-then said first a m n {old = old} {mid = mid} {new = new} {result = result} h p q = record {
  memory = λ is. SomeOf-more (λ s. (said s).meets mismatch) first a m n h (q.memory is);
  leaf = λ none i d out.
      q.leaf (λ some. none (SomeOf-more (λ s. (said s).meets mismatch) first a m n h some)) i d (λ t x. out t (reached-later (λ s. (said s).reaches) first a m n h (i, t) x))
      ∙ p.leaf (λ some. none (some.0, omega (arith, some.1, h), some.2)) i d (λ t x. out t (reached-first (λ s. (said s).reaches) first a n (omega (arith, h)) (i, t) x));
  stops = λ none.
      read-later said old mid new first a m n result h (p.leaf (λ some. none (some.0, omega (arith, some.1, h), some.2)))
      (q.stops (λ some. none (SomeOf-more (λ s. (said s).meets mismatch) first a m n h some)));
}

-- of each sector another one has what it has
pub plain-up : (said said' : ℕ → Said) (first first' n : ℕ) {old new : List Device} {result : Result Unit IoFault} → ((j : ℕ) → j < n → IsUp (said (first + j)) (said' (first' + j))) → IsPlain said first n old new result
    → IsPlain said' first' n old new result
plain-up said said' first first' n {old = old} {new = new} {result = result} up p = record {
  memory = λ is. let some = p.memory is in (some.0, some.1, (up some.0 some.1).meets mismatch some.2);
  leaf = λ none i d out.
      p.leaf (λ some. none (some.0, some.1, (up some.0 some.1).meets mismatch some.2)) i d
      (λ t some. out t (some.0, some.1, (up some.0 some.1).reaches (i, t) some.2));
  stops = λ none. read-up said said' first first' n up old new result (p.stops (λ some. none (some.0, some.1, (up some.0 some.1).meets mismatch some.2)));
}

-- what is said of some sectors is said of others
pub plain-as : (said said' : ℕ → Said) (first first' n : ℕ) {old new : List Device} {result : Result Unit IoFault} → ((j : ℕ) → j < n → said (first + j) ≡ said' (first' + j)) → IsPlain said first n old new result
    → IsPlain said' first' n old new result
plain-as said said' first first' n same p = plain-up said said' first first' n (λ j h. up-same _ _ (same j h)) p

-- of all sectors one other has what each has
pub plain-first : (said said' : ℕ → Said) (first first' m n : ℕ) {old new : List Device} {result : Result Unit IoFault} → 0 < n → ((j : ℕ) → j < m → IsUp (said (first + j)) (said' first')) → IsPlain said first m old new result
    → IsPlain said' first' n old new result
plain-first said said' first first' m n {old = old} {new = new} {result = result} some up p =
    let at : first' ≡ first' + 0 = omega arith in
    record {
      memory = λ is. let x = p.memory is in (0, some, subst (λ (s : ℕ). (said' s).meets mismatch) at ((up x.0 x.1).meets mismatch x.2));
      leaf = λ none i d out.
          p.leaf (λ x. none (0, some, subst (λ (s : ℕ). (said' s).meets mismatch) at ((up x.0 x.1).meets mismatch x.2))) i d
          (λ t x. out t (0, some, subst (λ (s : ℕ). Contains (said' s).reaches (i, t)) at ((up x.0 x.1).reaches (i, t) x.2)));
      stops = λ none. read-first said said' first first' m n some up old new result (p.stops (λ x. none (0, some, subst (λ (s : ℕ). (said' s).meets mismatch) at ((up x.0 x.1).meets mismatch x.2))));
    }
