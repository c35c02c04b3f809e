-- One piece of a write as callers see it, and pieces one after another.
use Rattle.std.proofs.Common.{◌≡◌, ℕ, ◌+◌, ◌*◌, ◌/◌, ◌%◌, ◌<◌, ◌≤◌, List, [], ◌++◌, length, Result, Ok, Err, refl, ap, ◌∙◌, subst, append-nil, arith}
use Rattle.std.proofs.lemmas.List.{length-append}
use Rattle.std.proofs.Math.Nat.{add-mul, mul-le-mul_right}
use Rattle.stack_rules.specs.Records.{Configuration}
use Rattle.stack_rules.specs.Names.{mapped}
use Rattle.stack_rules.specs.Descend.{write_cost}
use Rattle.stack_meaning.specs.declared.fault.IoFault.{IoFault}
use Rattle.stack_meaning.specs.declared.fault.Fault.TheVariants as why
use Rattle.stack_meaning.specs.declared.fault.IoFault.TheVariants as io
use Rattle.stack_meaning.specs.May.{MayFault}
use Rattle.stack_meaning.specs.Changes.{reached, AreWritten, NoneRead, AllWhole}
use Rattle.stack_lines.specs.Forgetting.{DropsLast, Forgets}
use Rattle.stack_lines.specs.Touches.{failures_behind, leaves_of}
use Rattle.stack_lines.specs.Writing.{sectors_in, SomeEncrypt, MayEnd, destination_of, StopsAt, StopsAtFault, StopsBehindPut, with_some, WritesSectors}
use Rattle.stack_engine.specs.Stacks.{StackRecord, IsSound}
use Rattle.stack_meaning.specs.declared.fault.Fault.{Fault}
use Rattle.stack_meaning.specs.Outcomes.{error_target, LeafSector}
use Rattle.stack_meaning.specs.Meaning.{said_at}
use Rattle.stack_engine.specs.WritePieces.{piece_reached, ArePiece, AnyWrite, EachWrite, WritesInPieces, nothing, next, ends}
use Rattle.stack_meaning.proofs.lemmas.LeafListLemmas.{AreRead-none, leaves_kept, failed_later}
use Rattle.stack_meaning.proofs.lemmas.ChangeLemmas.{KeepsOthers-none, differ-within, reached-first, reached-later, AreWritten-none, AreWritten-then, AreWritten-more}
use Rattle.stack_meaning.proofs.lemmas.FoundLemmas.{SomeOf-more}
use Rattle.stack_lines.proofs.lemmas.KeptLemmas.{drops-none, drops-then, forgets-none, forgets-then}
use Rattle.stack_lines.proofs.lemmas.PutLemmas.{put-none}
use Rattle.stack_lines.proofs.lemmas.StopLemmas.{stop-here, stop-later, behind-of}
use Rattle.stack_lines.proofs.lemmas.WriteRunLemmas.{length-sectors_in}
use Rattle.allocation.specs.Refusal.{IsOutOfMemory}
use Rattle.stack_meaning.specs.Memory.{largest_allocation}

-- a write of bytes to a mapped device
abbrev pub WritesTo : Configuration → ℕ → ℕ → List ℕ → StackRecord → StackRecord → Result Unit IoFault → Type 0
WritesTo c d first bytes w w' result = WritesSectors (destination_of c (mapped d)) first (sectors_in bytes) w.leaves w'.leaves result

-- as the stack's own record
pub each-write : {w w' : StackRecord} (d first : ℕ) (bytes : List ℕ) (result : Result Unit IoFault) → ArePiece bytes → w'.config ≡ w.config → w'.capacity ≡ w.capacity → w'.restored ≡ w.restored → (AllWhole w.leaves → AllWhole w'.leaves)
    → Forgets w.config (leaves_of w.config (mapped d)) w.leaves w'.leaves w.kept w'.kept → DropsLast w.leaves w'.leaves w.last w'.last → WritesTo w.config d first bytes w w' result → EachWrite w d first bytes result w'
each-write {w = w} {w' = w'} d first bytes result piece config capacity restored whole forgets drops p =
    let count = length-sectors_in bytes in
    let any : AnyWrite w d first bytes result w' = record {
      config = config;
      capacity = capacity;
      restored = restored;
      whole = whole;
      moved = subst (λ (n : ℕ). AreWritten (piece_reached w.config d first n) w.leaves (n * write_cost w.config (mapped d)) w'.leaves) count p.moved;
      ends = subst (λ (n : ℕ). MayEnd (MayFault w.config (mapped d) first n) w.leaves w'.leaves result) count p.ends;
      stops = subst (λ (n : ℕ). StopsAtFault (said_at w.config (mapped d)) first n w.leaves w'.leaves result) count p.stops;
      unread = subst (λ (n : ℕ). (SomeEncrypt (said_at w.config (mapped d)) first n → ⊥) → NoneRead w.leaves w'.leaves) count p.unread;
      forgets = forgets;
      drops = drops;
      fails = p.fails;
      short = λ is. absurd (p.grown is);
    } in
    record { piece = piece; any = any; steady = λ steady. record { any = any; exact = p.exact steady; others = differ-within w.leaves w'.leaves any.moved.moved.fixed any.moved.others; behind = behind-all result (p.behind steady) } }
  where
    behind-all : (result : Result Unit IoFault) → StopsBehindPut (with_some (destination_of w.config (mapped d))) first (sectors_in bytes) w.leaves w'.leaves result
        → StopsBehindPut (destination_of w.config (mapped d)) first (sectors_in bytes) w.leaves w'.leaves result
    behind-all (Ok x) h = tt
    behind-all (Err fault) h = λ counted. behind-of (destination_of w.config (mapped d)) first (sectors_in bytes) (put-none w.config (mapped d)) (h counted)

-- where nothing was written
none-forgotten : (w : StackRecord) (d : ℕ) → Forgets w.config (leaves_of w.config (mapped d)) w.leaves w.leaves w.kept w.kept
none-forgotten w d = forgets-none w.kept (AreRead-none 0 w.leaves)

-- out of memory, before anything was written
abbrev none-stop : (w : StackRecord) (d first n : ℕ) → IsOutOfMemory largest_allocation → 0 < n → StopsAt (said_at w.config (mapped d)) first n io.NoMemory w.leaves w.leaves
none-stop w d first n refused some = record { before = 0; failed = n; some = some; inside = omega arith; by = refused; others = KeepsOthers-none _ w.leaves }

pub none-written : (w : StackRecord) (d first : ℕ) (bytes : List ℕ) → IsOutOfMemory largest_allocation → ArePiece bytes → 0 < length bytes / 512 → EachWrite w d first bytes (Err io.NoMemory) w
none-written w d first bytes refused piece some = record {
  piece = piece;
  any = any;
  steady = λ steady. record {
    any = any;
    exact = tt;
    others = record { leaves = refl; sizes = λ i. refl; sector = λ i t h. refl };
    behind = λ counted. behind-of (destination_of w.config (mapped d)) first (sectors_in bytes) (put-none w.config (mapped d))
        (stop-here (destination_of w.config (mapped d)) first (sectors_in bytes) refl (none-stop w d first (length (sectors_in bytes)) refused (omega (arith, some, length-sectors_in bytes))) (λ j h. absurd (omega (arith, h))));
  };
}
  where
    any : AnyWrite w d first bytes (Err io.NoMemory) w
    any = record { config = refl; capacity = refl; restored = refl; whole = λ h. h; moved = AreWritten-none _ _ w.leaves; ends = (refl, refused); stops = λ counted. none-stop w d first (length bytes / 512) refused some; unread = λ none. refl; forgets = none-forgotten w d; drops = drops-none w.last (AreRead-none 0 w.leaves); fails = refl; short = λ is. (refl, refl) }

pub write-sound : (c : Configuration) {w w' : StackRecord} {d first : ℕ} {bytes : List ℕ} {result : Result Unit IoFault} → IsSound c w.leaves → EachWrite w d first bytes result w' → IsSound c w'.leaves
write-sound c {w = w} {w' = w'} s p = record { loaded = s.loaded; serve = leaves_kept c.leaves w.leaves w'.leaves p.any.moved.moved.fixed s.serve }

abbrev ended : IoFault → Result Unit IoFault
ended fault = Err fault

fault_of : (fault : IoFault) → ended fault ≡ ended io.NoMemory → fault ≡ io.NoMemory
fault_of fault e = cc

-- ---- pieces one after another

-- nothing was written yet
pub write-none : (w : StackRecord) (d first : ℕ) → WritesInPieces w d first [] (Ok tt) w
write-none w d first = record {
  any = record { config = refl; capacity = refl; restored = refl; whole = λ h. h; moved = AreWritten-none _ _ w.leaves; ends = tt; stops = tt; unread = λ none. refl; forgets = none-forgotten w d; drops = drops-none w.last (AreRead-none 0 w.leaves); fails = refl; short = λ is. (refl, refl) };
  pieces = nothing;
}

module _ (x y z : List ℕ) (even : length x % 512 ≡ 0) where
  count : length (x ++ (y ++ z)) / 512 ≡ (length x + (length y + length z)) / 512
  count = omega (arith, length-append x (y ++ z), length-append y z)

  fits : length x / 512 + length y / 512 ≤ length (x ++ (y ++ z)) / 512
  fits = omega (arith, count, even)

module _ {w w' w'' : StackRecord} (d first : ℕ) (x y z : List ℕ) (even : length x % 512 ≡ 0) (p : AnyWrite w d first x (Ok tt) w') where
  -- the next piece, over the same configuration
  same-config : {result : Result Unit IoFault} → AnyWrite w' d (first + length x / 512) y result w''
      → AreWritten (piece_reached w.config d (first + length x / 512) (length y / 512)) w'.leaves (length y / 512 * write_cost w.config (mapped d)) w''.leaves
  same-config q = subst (λ (c : Configuration). AreWritten (piece_reached c d (first + length x / 512) (length y / 512)) w'.leaves (length y / 512 * write_cost c (mapped d)) w''.leaves) p.config q.moved

  both-moved : {result : Result Unit IoFault} → AnyWrite w' d (first + length x / 512) y result w''
      → AreWritten (piece_reached w.config d first (length (x ++ (y ++ z)) / 512)) w.leaves (length (x ++ (y ++ z)) / 512 * write_cost w.config (mapped d)) w''.leaves
  both-moved q =
      let reaches : ℕ → List LeafSector = λ s. (said_at w.config (mapped d) s).reaches in
      let n : ℕ = length (x ++ (y ++ z)) / 512 in
      let k : ℕ = write_cost w.config (mapped d) in
      let front : AreWritten (reached reaches first n) w.leaves (length x / 512 * k) w'.leaves = AreWritten-more (reached-first reaches first (length x / 512) n (omega (arith, fits x y z even))) (omega arith) p.moved in
      let back : AreWritten (reached reaches first n) w'.leaves (length y / 512 * k) w''.leaves = AreWritten-more (reached-later reaches first (length x / 512) (length y / 512) n (fits x y z even)) (omega arith) (same-config q) in
      let most : (length x / 512 + length y / 512) * k ≤ n * k = mul-le-mul_right k (fits x y z even) in
      AreWritten-more (λ q all. all) (omega (arith, most, add-mul (length x / 512) (length y / 512) k)) (AreWritten-then front back)

  pub any-then : {result : Result Unit IoFault} → (result ≡ Err io.NoMemory → ⊥) → AnyWrite w' d (first + length x / 512) y result w'' → AnyWrite w d first (x ++ (y ++ z)) result w''
  any-then {result = result} grown q = record {
    config = q.config ∙ p.config;
    capacity = q.capacity ∙ p.capacity;
    restored = q.restored ∙ p.restored;
    whole = λ h. q.whole (p.whole h);
    moved = both-moved q;
    ends = later result grown (subst (λ (c : Configuration). MayEnd (MayFault c (mapped d) (first + length x / 512) (length y / 512)) w'.leaves w''.leaves result) p.config q.ends);
    stops = stops-later result (subst (λ (c : Configuration). StopsAtFault (said_at c (mapped d)) (first + length x / 512) (length y / 512) w'.leaves w''.leaves result) p.config q.stops);
    unread = λ none. after-unread none ∙ p.unread (λ some. none (some.0, omega (arith, some.1, fits x y z even), some.2));
    forgets = forgets-then p.forgets (subst (λ (c : Configuration). Forgets c (leaves_of c (mapped d)) w'.leaves w''.leaves w'.kept w''.kept) p.config q.forgets);
    drops = drops-then p.drops q.drops;
    fails = q.fails ∙ ap (failures_behind result) p.fails;
    short = λ is. absurd (grown is);
  }
    where
      stops-later : (result : Result Unit IoFault) → StopsAtFault (said_at w.config (mapped d)) (first + length x / 512) (length y / 512) w'.leaves w''.leaves result
          → StopsAtFault (said_at w.config (mapped d)) first (length (x ++ (y ++ z)) / 512) w.leaves w''.leaves result
      stops-later (Ok u) h = tt
      stops-later (Err fault) h = λ counted. stop-later first (length x / 512) (length y / 512) (length (x ++ (y ++ z)) / 512) (fits x y z even) p.moved.moved.fixed p.moved.others (h counted)

      after-unread : (SomeEncrypt (said_at w.config (mapped d)) first (length (x ++ (y ++ z)) / 512) → ⊥) → NoneRead w'.leaves w''.leaves
      after-unread none =
          subst (λ (c : Configuration). (SomeEncrypt (said_at c (mapped d)) (first + length x / 512) (length y / 512) → ⊥) → NoneRead w'.leaves w''.leaves) p.config q.unread
          (λ some. none (SomeOf-more (λ s. (said_at w.config (mapped d) s).encrypts) first (length x / 512) (length y / 512) (length (x ++ (y ++ z)) / 512) (fits x y z even) some))

      more : (fault : Fault) → MayFault w.config (mapped d) (first + length x / 512) (length y / 512) fault → MayFault w.config (mapped d) first (length (x ++ (y ++ z)) / 512) fault
      more fault h = SomeOf-more (λ s. (said_at w.config (mapped d) s).meets fault) first (length x / 512) (length y / 512) (length (x ++ (y ++ z)) / 512) (fits x y z even) h

      later : (result : Result Unit IoFault) → (result ≡ Err io.NoMemory → ⊥) → MayEnd (MayFault w.config (mapped d) (first + length x / 512) (length y / 512)) w'.leaves w''.leaves result
          → MayEnd (MayFault w.config (mapped d) first (length (x ++ (y ++ z)) / 512)) w.leaves w''.leaves result
      later (Ok u) grown h = tt
      later (Err (io.Stack why.ErrorTarget)) grown h = more error_target h
      later (Err (io.Stack why.Mismatch)) grown h = h
      later (Err (io.Device i)) grown h = (h.0, failed_later p.moved.moved q.moved.moved h.1)
      later (Err io.NoMemory) grown h = absurd (grown refl)

module _ {w w' w'' : StackRecord} (d first : ℕ) (x y : List ℕ) (even : length x % 512 ≡ 0) (p : WritesInPieces w d first x (Ok tt) w') where
  pub write-then : EachWrite w' d (first + length x / 512) y (Ok tt) w'' → WritesInPieces w d first (x ++ y) (Ok tt) w''
  write-then q = record {
    any = subst (λ (l : List ℕ). AnyWrite w d first (x ++ l) (Ok tt) w'') (append-nil y) (any-then d first x y [] even p.any (λ e. cc) q.any);
    pieces = next p.pieces q;
  }

  -- a piece that ends the whole write by its fault, before the bytes z
  pub write-ends : (z : List ℕ) (fault : IoFault) → (fault ≡ io.NoMemory → ⊥) → EachWrite w' d (first + length x / 512) y (Err fault) w'' → WritesInPieces w d first (x ++ (y ++ z)) (Err fault) w''
  write-ends z fault grown q = record {
    any = any-then d first x y z even p.any (λ e. grown (fault_of fault e)) q.any;
    pieces = ends z p.pieces q;
  }
