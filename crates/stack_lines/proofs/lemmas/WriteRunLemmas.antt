-- What writes did, one after another.
use Rattle.std.proofs.Common.{◌≡◌, ℕ, ◌+◌, ◌*◌, ◌/◌, ◌%◌, ◌<◌, ◌≤◌, IsTrue, List, [], ◌++◌, length, take, Result, Ok, Err, Contains, refl, sym, ap, ◌∙◌, subst, arith}
use Rattle.std.proofs.lemmas.List.{length-append}
use Rattle.std.proofs.Math.Nat.{mul-le-mul_left, mul-le-mul_right}
use Rattle.block_device.specs.Device.{Device, sectors_of}
use Rattle.block_device.specs.Whole.{length-sectors_of}
use Rattle.block_device.proofs.lemmas.SectorLemmas.{sectors_of-append}
use Rattle.stack_meaning.specs.declared.fault.IoFault.{IoFault}
use Rattle.stack_meaning.specs.declared.fault.Fault.TheVariants as why
use Rattle.stack_meaning.specs.declared.fault.IoFault.TheVariants as io
use Rattle.stack_meaning.specs.Sectors.{SomeOf}
use Rattle.stack_meaning.specs.declared.fault.Fault.{Fault}
use Rattle.stack_meaning.specs.Outcomes.{error_target, LeafSector, Images}
use Rattle.stack_meaning.specs.Leaves.{steady_images, Moves}
use Rattle.stack_meaning.specs.Meaning.{Said}
use Rattle.stack_meaning.specs.Puts.{Put, done, then_put}
use Rattle.stack_meaning.specs.Changes.{reached, AreWritten, NoneRead}
use Rattle.stack_lines.specs.Touches.{failures_by}
use Rattle.stack_lines.specs.Writing.{sectors_in, SomeEncrypt, MayEnd, IsPut, Destination, StopsAtFault, StopsBehindPut, put_some, with_some, WritesSectors}
use Rattle.stack_meaning.proofs.lemmas.LeafListLemmas.{AreSteady-kept, AreSteady-within, failed_later}
use Rattle.stack_meaning.proofs.lemmas.FoundLemmas.{SomeOf-more}
use Rattle.stack_lines.proofs.lemmas.StopLemmas.{IsUp, up-same, stop-up, stop-later, PutsNothing, behind-later, behind-as}
use Rattle.stack_meaning.proofs.lemmas.ChangeLemmas.{reached-first, reached-later, AreWritten-none, AreWritten-then, AreWritten-more}

-- ---- bytes

pub length-sectors_in : (bytes : List ℕ) → length (sectors_in bytes) ≡ length bytes / 512
length-sectors_in bytes = length-sectors_of (length bytes / 512) bytes

pub sectors_in-none : sectors_in [] ≡ []
unfolding sectors_of
sectors_in-none = refl

-- whole sectors and then others
pub sectors_in-append : (x y : List ℕ) → length x % 512 ≡ 0 → sectors_in (x ++ y) ≡ sectors_in x ++ sectors_in y
sectors_in-append x y whole =
    let parts : length (x ++ y) / 512 ≡ length x / 512 + length y / 512 = omega (arith, length-append x y, whole) in
    ap (λ (n : ℕ). sectors_of n (x ++ y)) parts ∙ sectors_of-append (length x / 512) (length y / 512) x y (omega (arith, whole))

-- ---- one write

-- a fault of a later call, before which something was written
ends-later : {May More : Fault → Type 0} {r w r' w' : ℕ} {old mid new : List Device} (fault : IoFault) → Moves r w old mid → Moves r' w' mid new → (fault ≡ io.NoMemory → ⊥)
    → ((x : Fault) → May x → More x) → MayEnd May mid new (Err fault) → MayEnd More old new (Err fault)
ends-later (io.Stack why.ErrorTarget) a b grown more h = more error_target h
ends-later (io.Stack why.Mismatch) a b grown more h = h
ends-later (io.Device i) a b grown more h = (h.0, failed_later a b h.1)
ends-later io.NoMemory a b grown more h = absurd (grown refl)

-- what follows a fault isn't put
put-ends : (p : Put) (next : Images → Put) (images : Images) (fault : IoFault) → IsPut p images (Err fault) → IsPut (then_put p next) images (Err fault)
put-ends p next images (io.Stack fault) h = ap (λ (q : Put). then_put q next) h
put-ends p next images (io.Device i) h = tt
put-ends p next images io.NoMemory h = tt

-- a write that may end by some faults may end by more
pub MayEnd-as : (May More : Fault → Type 0) (old new : List Device) (result : Result Unit IoFault) → ((x : Fault) → May x → More x) → MayEnd May old new result → MayEnd More old new result
MayEnd-as May More old new (Ok x) more h = tt
MayEnd-as May More old new (Err (io.Stack why.ErrorTarget)) more h = more error_target h
MayEnd-as May More old new (Err (io.Stack why.Mismatch)) more h = h
MayEnd-as May More old new (Err (io.Device i)) more h = h
MayEnd-as May More old new (Err io.NoMemory) more h = h

-- ---- one write after another

-- sectors from s on are put in two parts
abbrev pub PutsInParts : Destination → ℕ → List (List ℕ) → List (List ℕ) → Type 0
PutsInParts to s xs ys = (images : Images) → to.puts s (xs ++ ys) images ≡ then_put (to.puts s xs images) (to.puts (s + length xs) ys)

-- nothing was written yet
pub write_none : (to : Destination) (first : ℕ) (leaves : List Device) → ((images : Images) → to.puts first [] images ≡ done images) → WritesSectors to first [] leaves leaves (Ok tt)
write_none to first leaves empty = record {
  moved = AreWritten-none _ _ leaves;
  ends = tt;
  grown = λ e. cc;
  exact = λ steady. empty (steady_images leaves);
  stops = tt;
  behind = λ steady. tt;
  unread = λ none. refl;
  fails = refl;
}

module _ (to : Destination) (first : ℕ) (xs ys : List (List ℕ)) {old mid new : List Device} (p : WritesSectors to first xs old mid (Ok tt)) where
  -- both parts of some sectors were written
  both-written : (n : ℕ) {result : Result Unit IoFault} → length xs + length ys ≤ n → WritesSectors to (first + length xs) ys mid new result → AreWritten (reached (λ s. (to.said s).reaches) first n) old (n * to.cost) new
  both-written n h q =
      let reaches : ℕ → List LeafSector = λ s. (to.said s).reaches in
      let front : AreWritten (reached reaches first n) old (length xs * to.cost) mid = AreWritten-more (reached-first reaches first (length xs) n (omega (arith, h))) (omega arith) p.moved in
      let back : AreWritten (reached reaches first n) mid (length ys * to.cost) new = AreWritten-more (reached-later reaches first (length xs) (length ys) n h) (omega arith) q.moved in
      AreWritten-more (λ x all. all) (omega (arith, mul-le-mul_right to.cost h)) (AreWritten-then front back)

  -- nor were leaves read, where none is encrypted
  both-unread : (n : ℕ) {result : Result Unit IoFault} → length xs + length ys ≤ n → WritesSectors to (first + length xs) ys mid new result → (SomeEncrypt to.said first n → ⊥) → NoneRead old new
  both-unread n h q none =
      q.unread (λ some. none (SomeOf-more (λ s. (to.said s).encrypts) first (length xs) (length ys) n h some))
      ∙ p.unread (λ some. none (some.0, omega (arith, some.1, h), some.2))

  -- the next ones
  pub write_ok : PutsInParts to first xs ys → WritesSectors to (first + length xs) ys mid new (Ok tt) → WritesSectors to first (xs ++ ys) old new (Ok tt)
  write_ok parts q = record {
    moved = both-written (length (xs ++ ys)) (omega (arith, length-append xs ys)) q;
    ends = tt;
    grown = λ e. cc;
    exact = λ steady.
        parts (steady_images old)
        ∙ ap (λ (x : Put). then_put x (to.puts (first + length xs) ys)) (p.exact steady)
        ∙ q.exact (AreSteady-kept old mid p.moved.moved.fixed steady);
    stops = tt;
    behind = λ steady. tt;
    unread = both-unread (length (xs ++ ys)) (omega (arith, length-append xs ys)) q;
    fails = q.fails ∙ p.fails;
  }

  -- the next ones, which a fault ends before the last ones
  pub write_err : (zs : List (List ℕ)) (fault : IoFault) → PutsNothing to.puts → ((l : List (List ℕ)) → PutsInParts to first xs l) → PutsInParts to (first + length xs) ys zs → WritesSectors to (first + length xs) ys mid new (Err fault) → WritesSectors to first (xs ++ (ys ++ zs)) old new (Err fault)
  write_err zs fault none parts more q =
      let fits : length xs + length ys ≤ length (xs ++ (ys ++ zs)) = omega (arith, length-append xs (ys ++ zs), length-append ys zs) in
      record {
        moved = both-written (length (xs ++ (ys ++ zs))) fits q;
        ends = ends-later fault p.moved.moved q.moved.moved (λ e. q.grown (ap Err e)) (λ x. SomeOf-more (λ s. (to.said s).meets x) first (length xs) (length ys) (length (xs ++ (ys ++ zs))) fits) q.ends;
        grown = q.grown;
        exact = λ steady.
            let rest : Images → Put = to.puts (first + length xs + length ys) zs in
            let same : then_put (to.puts (first + length xs) ys (steady_images mid)) rest ≡ to.puts first (xs ++ (ys ++ zs)) (steady_images old) = sym (
            parts (ys ++ zs) (steady_images old)
            ∙ ap (λ (x : Put). then_put x (to.puts (first + length xs) (ys ++ zs))) (p.exact steady)
            ∙ more (steady_images mid)) in
            subst (λ (x : Put). IsPut x (steady_images new) (Err fault)) same
            (put-ends (to.puts (first + length xs) ys (steady_images mid)) rest (steady_images new) fault (q.exact (AreSteady-kept old mid p.moved.moved.fixed steady)));
        stops = λ counted. stop-later first (length xs) (length ys) (length (xs ++ (ys ++ zs))) fits p.moved.moved.fixed p.moved.others (q.stops counted);
        behind = λ steady counted.
            behind-later to none first xs ys zs p.moved.moved.fixed p.moved.others (p.exact steady) parts (q.behind (AreSteady-kept old mid p.moved.moved.fixed steady) counted);
        unread = both-unread (length (xs ++ (ys ++ zs))) fits q;
        fails = q.fails ∙ ap (failures_by fault) p.fails;
      }

-- ---- sectors written to one place are written to another

-- two destinations have the same meaning and the same put; the second costs no less, and is on all leaves of the first
pub record PutsAlike (to to' : Destination) (first first' : ℕ) (sectors : List (List ℕ)) : Type 1 where
  pub said : (j : ℕ) → j < length sectors → to.said (first + j) ≡ to'.said (first' + j)
  pub puts : (images : Images) → to.puts first sectors images ≡ to'.puts first' sectors images
  pub fronts : (k : ℕ) (images : Images) → put_some to.puts first (take k sectors) images ≡ put_some to'.puts first' (take k sectors) images
  pub cost : to.cost ≤ to'.cost
  pub leaves : (i : ℕ) → IsTrue (to.leaves i) → IsTrue (to'.leaves i)

pub write_as : {to to' : Destination} {first first' : ℕ} {sectors : List (List ℕ)} {old new : List Device} {result : Result Unit IoFault} → PutsAlike to to' first first' sectors
    → WritesSectors to first sectors old new result → WritesSectors to' first' sectors old new result
write_as {to = to} {to' = to'} {first = first} {first' = first'} {sectors = sectors} {old = old} {new = new} {result = result} alike p = record {
  moved = AreWritten-more (λ x some. (some.0, some.1, subst (λ (s : Said). Contains s.reaches x) (alike.said some.0 some.1) some.2)) (mul-le-mul_left (length sectors) alike.cost) p.moved;
  ends = MayEnd-as (λ x. SomeOf (λ s. (to.said s).meets x) first (length sectors)) (λ x. SomeOf (λ s. (to'.said s).meets x) first' (length sectors)) old new result (λ x some. (some.0, some.1, subst (λ (s : Said). s.meets x) (alike.said some.0 some.1) some.2)) p.ends;
  grown = p.grown;
  exact = λ steady. subst (λ (x : Put). IsPut x (steady_images new) result) (alike.puts (steady_images old)) (p.exact (AreSteady-within old alike.leaves steady));
  stops = stops-as result p.stops;
  behind = λ steady. behind-all result (p.behind (AreSteady-within old alike.leaves steady));
  unread = λ none. p.unread (λ some. none (some.0, some.1, subst (λ (s : Said). s.encrypts) (alike.said some.0 some.1) some.2));
  fails = p.fails;
}
  where
    up : (j : ℕ) → j < length sectors → IsUp (to.said (first + j)) (to'.said (first' + j))
    up j h = up-same (to.said (first + j)) (to'.said (first' + j)) (alike.said j h)

    stops-as : (result : Result Unit IoFault) → StopsAtFault to.said first (length sectors) old new result → StopsAtFault to'.said first' (length sectors) old new result
    stops-as (Ok x) h = tt
    stops-as (Err fault) h = λ counted. stop-up to.said to'.said first first' (length sectors) up (h counted)

    behind-all : (result : Result Unit IoFault) → StopsBehindPut (with_some to) first sectors old new result → StopsBehindPut (with_some to') first' sectors old new result
    behind-all (Ok x) h = tt
    behind-all (Err fault) h = λ counted. behind-as to to' first first' sectors up alike.fronts (h counted)
