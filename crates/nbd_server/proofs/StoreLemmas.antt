-- Sectors that are put at once, and zeros by one run after another.
use Rattle.std.proofs.Common.{◌≡◌, ◌<◌, ◌≤◌, ℕ, ◌+◌, ◌-◌, ◌*◌, ◌/◌, ◌%◌, true, List, [], ◌++◌, length, take, refl, ap, sym, ◌∙◌, subst, append_assoc, append-nil, arith, inl, inr, None, Result, Ok, Err}
use Rattle.std.specs.Prelude.{◌⊎◌, IfErr, OnOk, nat_le}
use Rattle.std.proofs.lemmas.List.{length-append, take-append-le}
use Rattle.std.proofs.Math.Seq.{take-append-add}
use Rattle.std.proofs.lemmas.Bool.{le-leb}
use Rattle.allocation.specs.Refusal.{IsOutOfMemory}
use Rattle.alignment.specs.Lengths.{aligned_len}
use Rattle.stack_rules.specs.Names.{mapped}
use Rattle.stack_rules.specs.Records.{Configuration}
use Rattle.stack_meaning.specs.declared.fault.IoFault.{IoFault}
use Rattle.stack_meaning.specs.declared.fault.IoFault.TheVariants as io
use Rattle.stack_meaning.specs.Meaning.{said_at}
use Rattle.stack_meaning.proofs.lemmas.FoundLemmas.{SomeOf-more}
use Rattle.stack_lines.specs.Writing.{SomeEncrypt}
use Rattle.stack_engine.specs.Stacks.{StackRecord}
use Rattle.stack_engine.specs.WritePieces.{AnyWrite, EachWrite, InTurn, WritesInPieces, nothing, next, ends}
use Rattle.stack_engine.proofs.lemmas.WritePieceLemmas.{any-then, write-none}
use Rattle.request_queue.specs.declared.fault.BytesFault.{BytesFault}
use Rattle.request_queue.specs.declared.fault.BytesFault.TheVariants.{Failed}
use Rattle.request_queue.specs.declared.range.SectorRange.{SectorRange}
use Rattle.request_queue.specs.declared.fault.PieceFault.{PieceFault}
use Rattle.request_queue.specs.AtOnce.{BytesWritten, EndsSteps, write_range}
use Rattle.request_queue.specs.Parts.{EachPart}
use Rattle.request_queue.specs.Ranges.{bytes_range, range_at}
use Rattle.request_queue.specs.Replies.{LacksMemory}
use Rattle.request_queue.specs.Runs.{IsLed}
use Rattle.request_queue.specs.WholeRuns.{WritesWhole}
use Rattle.request_queue.specs.World.{World}
use Rattle.request_queue.proofs.lemmas.AdmissionLemmas.{writable-ok}
use Rattle.request_queue.proofs.lemmas.AtOnceLemmas.{ends-led}
use Rattle.request_queue.proofs.lemmas.BytesLemmas.{bytes_range-ok}
use Rattle.request_queue.proofs.lemmas.LedLemmas.{led-none, led-then}
use Rattle.nbd_server.specs.declared.failure.Failure.{Failure}
use Rattle.nbd_server.specs.declared.failure.Failure.TheVariants.{Faulty}
use Rattle.nbd_server.specs.declared.lost.LostPiece.{LostPiece}
use Rattle.nbd_server.specs.Failures.{failure_by, lost, no_memory, put_failure}
use Rattle.nbd_server.specs.Sectors.{IsStored, IsStoredAtOnce, IsPartPut, FailsToPutAll, FailsToPutAtOnce, FailsToZero, EndsPut, StopsPut, most_run_bytes}
use Rattle.nbd_server.specs.Zeros.{IsNextRun, WritesInRuns, no_run, a_run, last_run, lacks_run, WroteRun, most_run_sectors}

abbrev pub ended : IoFault → Result Unit IoFault
ended fault = Err fault

-- a write that ended with that piece
abbrev pub stopped_by : PieceFault → Result Unit BytesFault
stopped_by piece = Err (Failed piece)

-- ---- their pieces

start-more : (first : ℕ) (x a : List ℕ) → length x % 512 ≡ 0 → first + length x / 512 + length a / 512 ≡ first + length (x ++ a) / 512
start-more first x a even = omega (arith, length-append x a, even)

turns-then : (d first : ℕ) {w v : StackRecord} (x : List ℕ) → length x % 512 ≡ 0 → InTurn d first w x (Ok tt) v → {y : List ℕ} {result : Result Unit IoFault} {w' : StackRecord}
    → InTurn d (first + length x / 512) v y result w' → InTurn d first w (x ++ y) result w'
turns-then d first {w = w} {v = v} x even p nothing = subst (λ l. InTurn d first w l (Ok tt) v) (sym (append-nil x)) p
turns-then d first {w = w} {v = v} x even p (next {x = a} {y = b} {w' = m} {w'' = u} q r) =
    subst (λ l. InTurn d first w l (Ok tt) u) (append_assoc x a b)
    (next (turns-then d first x even p q) (subst (λ k. EachWrite m d k b (Ok tt) u) (start-more first x a even) r))
turns-then d first {w = w} {v = v} x even p (ends {x = a} {y = b} {w' = m} {w'' = u} {fault = fault} c q r) =
    subst (λ l. InTurn d first w l (Err fault) u) (append_assoc x a (b ++ c))
    (ends c (turns-then d first x even p q) (subst (λ k. EachWrite m d k b (Err fault) u) (start-more first x a even) r))

-- bytes after a fault aren't written
turns-more : (d first : ℕ) {v : StackRecord} (z : List ℕ) {y : List ℕ} {fault : IoFault} {w' : StackRecord} → InTurn d first v y (Err fault) w' → InTurn d first v (y ++ z) (Err fault) w'
turns-more d first {v = v} z (ends {x = a} {y = b} {w' = m} {w'' = u} {fault = fault} c q r) =
    let seam : a ++ (b ++ (c ++ z)) ≡ (a ++ (b ++ c)) ++ z = ap (λ l. a ++ l) (sym (append_assoc b c z)) ∙ sym (append_assoc a (b ++ c) z) in
    subst (λ l. InTurn d first v l (Err fault) u) seam (ends (c ++ z) q r)

module _ {w v w' : StackRecord} (d first : ℕ) (x y : List ℕ) (even : length x % 512 ≡ 0) (p : WritesInPieces w d first x (Ok tt) v) where
  pub pieces-then : WritesInPieces v d (first + length x / 512) y (Ok tt) w' → WritesInPieces w d first (x ++ y) (Ok tt) w'
  pieces-then q = record {
    any = subst (λ (l : List ℕ). AnyWrite w d first (x ++ l) (Ok tt) w') (append-nil y) (any-then d first x y [] even p.any (λ e. cc) q.any);
    pieces = turns-then d first x even p.pieces q.pieces;
  }

  pub pieces-end : (z : List ℕ) (fault : IoFault) → (ended fault ≡ ended io.NoMemory → ⊥) → WritesInPieces v d (first + length x / 512) y (Err fault) w' → WritesInPieces w d first (x ++ (y ++ z)) (Err fault) w'
  pieces-end z fault grown q = record {
    any = any-then d first x y z even p.any grown q.any;
    pieces = turns-then d first x even p.pieces (turns-more d (first + length x / 512) z q.pieces);
  }

-- ---- one run

pub stored-none : (w : World) (d first : ℕ) → IsStored w d first [] w
stored-none w d first = record { put = write-none w.stack d first; led = led-none EachPart w }

-- an allocation of the first run was refused
pub lacks-first : (w : World) (d first : ℕ) (bytes : List ℕ) → 0 < length bytes → IsOutOfMemory most_run_bytes → FailsToZero w d first bytes no_memory w
lacks-first w d first bytes some refused = inr (refl, record { count = 0; few = some; put = stored-none w d first }, refused)

pub zero-fails : (w : World) (d first : ℕ) (bytes : List ℕ) (w' : World) (result : Result Unit Failure) → IfErr result (λ error. FailsToPutAtOnce w d first bytes error w') → IfErr result (λ error. FailsToZero w d first bytes error w')
zero-fails w d first bytes w' (Ok done) p = tt
zero-fails w d first bytes w' (Err error) p = inl p.put

-- the write of a run ended so, or its allocation was refused
pub wrote-run : (w : World) (d first : ℕ) (bytes : List ℕ) (w' : World) (result : Result Unit Failure) → OnOk result (IsStoredAtOnce w d first bytes w') → IfErr result (λ error. FailsToPutAtOnce w d first bytes error w')
    → WroteRun w d first bytes result w'
wrote-run w d first bytes w' (Ok done) ok err = ok.steps
wrote-run w d first bytes w' (Err error) ok err = inl (err.piece, err.told, err.steps)

pub run-lacks : (w : World) (d first : ℕ) (bytes : List ℕ) → IsOutOfMemory most_run_bytes → WroteRun w d first bytes (Err no_memory) w
run-lacks w d first bytes refused = inr (refl, refl, refused)

-- memory runs out where some sector is encrypted
abbrev pub EncryptsAt : World → ℕ → ℕ → List ℕ → PieceFault → Type 0
EncryptsAt w d first bytes piece = (met : PieceFault) → stopped_by piece ≡ stopped_by met → LacksMemory met → SomeEncrypt (said_at w.stack.config (mapped d)) first (length bytes / 512)

module _ (w : World) (d first : ℕ) (bytes : List ℕ) (w' : World) where
  range-is : (range : SectorRange) → write_range w.stack.config d first bytes ≡ Ok range → range_at d first (length bytes / 512) ≡ range
  range-is range h =
      let c = w.stack.config in
      bytes_range-ok c d first (length bytes) range (writable-ok c bytes (bytes_range c d first (length bytes)) range h).0

  at-place : (some : List ℕ) (result : Result Unit IoFault) (range : SectorRange) → write_range w.stack.config d first bytes ≡ Ok range
      → WritesInPieces w.stack range.device.0 range.first some result w'.stack → WritesInPieces w.stack d first some result w'.stack
  at-place some result range h p = subst (λ (r : SectorRange). WritesInPieces w.stack r.device.0 r.first some result w'.stack) (sym (range-is range h)) p

  steps-at : (result : Result Unit PieceFault) → BytesWritten w d first bytes result w' → EndsSteps (range_at d first (length bytes / 512)) w bytes result w'
  steps-at result s = subst (λ (r : SectorRange). EndsSteps r w bytes result w') (sym (range-is s.range s.admits)) s.steps

  pub stored-all : BytesWritten w d first bytes (Ok tt) w' → IsStoredAtOnce w d first bytes w'
  stored-all s = record {
    stored = record { put = at-place bytes (Ok tt) s.range s.admits s.whole; led = ends-led s.range w bytes (Ok tt) w' s.steps };
    steps = steps-at (Ok tt) s;
  }

  module _ (at n : ℕ) (range : SectorRange) (h : write_range w.stack.config d first bytes ≡ Ok range) (led : IsLed EachPart w w') where
    -- a piece that ended by that fault
    abbrev ended_piece : IoFault → PieceFault
    ended_piece fault = record { first = at; count = n; fault = fault }

    put-fails : (fault : IoFault) → EncryptsAt w d first bytes (ended_piece fault) → WritesWhole w.stack range bytes (Err fault) w'.stack
        → EndsPut w d first bytes (put_failure (ended_piece fault)) w' ⊎ StopsPut w d first bytes (put_failure (ended_piece fault)) w'
    put-fails (io.Stack fault) some p = inl (ended_piece (io.Stack fault), refl, refl, at-place bytes (Err (io.Stack fault)) range h p)
    put-fails (io.Device i) some p = inl (ended_piece (io.Device i), refl, refl, at-place bytes (Err (io.Device i)) range h p)
    put-fails io.NoMemory some p =
        let count : length bytes / 512 ≡ range.count = ap (λ (r : SectorRange). r.count) (range-is range h) in
        inr (refl, some (ended_piece io.NoMemory) refl refl, record { count = p.0; few = omega (arith, p.1, count); put = record { put = at-place (take (512 * p.0) bytes) (Ok tt) range h p.2; led = led } }, p.3)

  pub unstored : (piece : PieceFault) → EncryptsAt w d first bytes piece → BytesWritten w d first bytes (Err piece) w' → FailsToPutAtOnce w d first bytes (put_failure piece) w'
  unstored piece some s =
      let led = ends-led s.range w bytes (Err piece) w' s.steps in
      record { put = record { cause = put-fails piece.first piece.count s.range s.admits led piece.fault some s.whole; led = led }; piece = piece; told = refl; steps = steps-at (Err piece) s }

  -- a run of zeros is one write
  pub run-stored : (result : Result Unit Failure) → OnOk result (IsStoredAtOnce w d first bytes w') → OnOk result (IsStored w d first bytes w')
  run-stored (Ok done) p = p.stored
  run-stored (Err error) p = tt

-- ---- runs one after another

module _ (w v w' : World) (d first : ℕ) (x y : List ℕ) (even : length x % 512 ≡ 0) (p : IsStored w d first x v) where
  pub stored-more : IsStored v d (first + length x / 512) y w' → IsStored w d first (x ++ y) w'
  stored-more q = record { put = pieces-then d first x y even p.put q.put; led = led-then EachPart w v w' p.led q.led }

no-memory : (fault : IoFault) (piece : LostPiece) → failure_by fault piece ≡ Faulty piece → ended fault ≡ ended io.NoMemory → ⊥
no-memory (io.Stack fault) piece e same = cc
no-memory (io.Device i) piece e same = cc
no-memory io.NoMemory piece e same = cc

module _ (w v w' : World) (d first : ℕ) (x y z : List ℕ) (even : length x % 512 ≡ 0) (p : IsStored w d first x v) where
  part-more : IsPartPut v d (first + length x / 512) y w' → IsPartPut w d first (x ++ (y ++ z)) w'
  part-more q =
      let n : ℕ = 512 * q.count in
      let k : ℕ = length x / 512 + q.count in
      let sum : 512 * k ≡ length x + n = omega (arith, even) in
      let few : n ≤ length y = omega (arith, q.few) in
      let front : take (512 * k) (x ++ (y ++ z)) ≡ x ++ take n y =
      ap (λ m. take m (x ++ (y ++ z))) sum ∙ take-append-add x (y ++ z) n ∙ ap (λ l. x ++ l) (take-append-le n y z few) in
      record {
        count = k;
        few = omega (arith, sum, q.few, length-append x (y ++ z), length-append y z);
        put = subst (λ l. IsStored w d first l w') (sym front) (stored-more w v w' d first x (take n y) even p q.put);
      }

  encrypt-more : SomeEncrypt (said_at v.stack.config (mapped d)) (first + length x / 512) (length y / 512) → SomeEncrypt (said_at w.stack.config (mapped d)) first (length (x ++ (y ++ z)) / 512)
  encrypt-more some =
      let inside : length x / 512 + length y / 512 ≤ length (x ++ (y ++ z)) / 512 = omega (arith, even, length-append x (y ++ z), length-append y z) in
      SomeOf-more (λ s. (said_at w.stack.config (mapped d) s).encrypts) first (length x / 512) (length y / 512) (length (x ++ (y ++ z)) / 512) inside
      (subst (λ (c : Configuration). SomeEncrypt (said_at c (mapped d)) (first + length x / 512) (length y / 512)) p.put.any.config some)

  cause-more : (error : Failure) → EndsPut v d (first + length x / 512) y error w' ⊎ StopsPut v d (first + length x / 512) y error w' → EndsPut w d first (x ++ (y ++ z)) error w' ⊎ StopsPut w d first (x ++ (y ++ z)) error w'
  cause-more error (inl q) = inl (q.0, q.1, q.2, pieces-end d first x y even p.put z q.0.fault (no-memory q.0.fault (lost None q.0) q.2) q.3)
  cause-more error (inr q) = inr (q.0, encrypt-more q.1, part-more q.2, q.3)

  stored-fails : (error : Failure) → FailsToPutAll v d (first + length x / 512) y error w' → FailsToPutAll w d first (x ++ (y ++ z)) error w'
  stored-fails error q = record { cause = cause-more error q.cause; led = led-then EachPart w v w' p.led q.led }

  pub zeroed-fails : (error : Failure) → FailsToZero v d (first + length x / 512) y error w' → FailsToZero w d first (x ++ (y ++ z)) error w'
  zeroed-fails error (inl q) = inl (stored-fails error q)
  zeroed-fails error (inr q) = inr (q.0, part-more q.1, q.2)

-- ---- what is put, and what is left

-- of all bytes those before the rest were put, as far as that sector
pub record IsPut (w : World) (d first at : ℕ) (all rest : List ℕ) (w' : World) : Type 0 where
  pub front : List ℕ
  pub stored : IsStored w d first front w'
  pub whole : length front % 512 ≡ 0
  pub place : at ≡ first + length front / 512
  pub all_is : all ≡ front ++ rest
  pub turns : WritesInRuns d first (length all) w front (Ok tt) w'

pub put-none : (w : World) (d first : ℕ) (all : List ℕ) → IsPut w d first first all all w
put-none w d first all = record { front = []; stored = stored-none w d first; whole = refl; place = omega arith; all_is = refl; turns = no_run }

-- how many bytes the next run has, of so many that are left
abbrev pub IsRunOf : World → ℕ → ℕ → ℕ → ℕ → Type 0
IsRunOf v d at left n = n ≡ 512 * aligned_len v.stack.config d at (left / 512) most_run_sectors

-- a run that is all that is left
all-left : (v : World) (d at n : ℕ) → n % 512 ≡ 0 → n ≤ most_run_bytes → IsRunOf v d at n n
all-left v d at n whole few =
    let test : nat_le (n / 512) most_run_sectors ≡ true = le-leb (n / 512) most_run_sectors (omega (arith, few)) in
    rw test (omega (arith, whole))

module _ (w v w' : World) (d first at : ℕ) (all y z : List ℕ) (p : IsPut w d first at all (y ++ z) v) where
  left-is : length (y ++ z) ≡ length all - length p.front
  left-is = omega (arith, ap (λ (l : List ℕ). length l) p.all_is, length-append p.front (y ++ z))

  next-run : (result : Result Unit PieceFault) → IsRunOf v d at (length (y ++ z)) (length y) → EndsSteps (range_at d at (length y / 512)) v y result w'
      → IsNextRun v d (first + length p.front / 512) (length all - length p.front) y result w'
  next-run result size steps = record {
    size = subst (λ (k : ℕ). IsRunOf v d k (length all - length p.front) (length y)) p.place (subst (λ (n : ℕ). IsRunOf v d at n (length y)) left-is size);
    steps = subst (λ (k : ℕ). EndsSteps (range_at d k (length y / 512)) v y result w') p.place steps;
  }

  more-turns : IsRunOf v d at (length (y ++ z)) (length y) → EndsSteps (range_at d at (length y / 512)) v y (Ok tt) w' → WritesInRuns d first (length all) w (p.front ++ y) (Ok tt) w'
  more-turns size steps = a_run p.turns (next-run (Ok tt) size steps)

  -- the run failed
  fault-turns : (error : Failure) (piece : PieceFault) → error ≡ put_failure piece → IsRunOf v d at (length (y ++ z)) (length y) → EndsSteps (range_at d at (length y / 512)) v y (Err piece) w'
      → WritesInRuns d first (length all) w all (Err error) w'
  fault-turns error piece told size steps =
      subst (λ (l : List ℕ). WritesInRuns d first (length all) w l (Err error) w') (sym p.all_is)
      (subst (λ (e : Failure). WritesInRuns d first (length all) w (p.front ++ (y ++ z)) (Err e) w') (sym told) (last_run z p.turns (next-run (Err piece) size steps)))

  memory-turns : (error : Failure) → error ≡ no_memory → w' ≡ v → IsOutOfMemory most_run_bytes → WritesInRuns d first (length all) w all (Err error) w'
  memory-turns error told same refused =
      subst (λ (l : List ℕ). WritesInRuns d first (length all) w l (Err error) w') (sym p.all_is)
      (subst (λ (e : Failure). WritesInRuns d first (length all) w (p.front ++ (y ++ z)) (Err e) w') (sym told)
      (subst (λ (u : World). WritesInRuns d first (length all) w (p.front ++ (y ++ z)) (Err no_memory) u) (sym same) (lacks_run (y ++ z) p.turns refused)))

  pub failed-turns : (error : Failure) → IsRunOf v d at (length (y ++ z)) (length y) → WroteRun v d at y (Err error) w' → WritesInRuns d first (length all) w all (Err error) w'
  failed-turns error size (inl q) = fault-turns error q.0 q.1 size q.2
  failed-turns error size (inr q) = memory-turns error q.0 q.1 q.2

-- the last run has all that is left
pub last-turns : (w v w' : World) (d first at : ℕ) (all y : List ℕ) (result : Result Unit Failure) → IsPut w d first at all y v → length y % 512 ≡ 0 → length y ≤ most_run_bytes → WroteRun v d at y result w'
    → WritesInRuns d first (length all) w all result w'
last-turns w v w' d first at all y result p whole few ran = by result ran
  where
    rest : IsPut w d first at all (y ++ []) v
    rest = subst (λ (l : List ℕ). IsPut w d first at all l v) (sym (append-nil y)) p

    size : IsRunOf v d at (length (y ++ [])) (length y)
    size = subst (λ (l : List ℕ). IsRunOf v d at (length l) (length y)) (sym (append-nil y)) (all-left v d at (length y) whole few)

    seam : all ≡ rest.front ++ y
    seam = rest.all_is ∙ ap (λ (l : List ℕ). rest.front ++ l) (append-nil y)

    by : (r : Result Unit Failure) → WroteRun v d at y r w' → WritesInRuns d first (length all) w all r w'
    by (Ok done) q = subst (λ (l : List ℕ). WritesInRuns d first (length all) w l (Ok tt) w') (sym seam) (more-turns w v w' d first at all y [] rest size q)
    by (Err error) q = failed-turns w v w' d first at all y [] rest error size q

module _ (w v w' : World) (d first at : ℕ) (all y : List ℕ) where
  pub put-more : (z : List ℕ) → length y % 512 ≡ 0 → IsRunOf v d at (length (y ++ z)) (length y) → (p : IsPut w d first at all (y ++ z) v) → IsStored v d at y w' → EndsSteps (range_at d at (length y / 512)) v y (Ok tt) w'
      → IsPut w d first (at + length y / 512) all z w'
  put-more z even size p q steps = record {
    turns = more-turns w v w' d first at all y z p size steps;
    front = p.front ++ y;
    stored = stored-more w v w' d first p.front y p.whole p.stored (subst (λ k. IsStored v d k y w') p.place q);
    whole = omega (arith, length-append p.front y, p.whole, even);
    place = omega (arith, length-append p.front y, p.place, p.whole, even);
    all_is = p.all_is ∙ sym (append_assoc p.front y z);
  }

  pub put-ends : (z : List ℕ) (error : Failure) → IsPut w d first at all (y ++ z) v → FailsToZero v d at y error w' → FailsToZero w d first all error w'
  put-ends z error p q = subst (λ l. FailsToZero w d first l error w') (sym p.all_is) (zeroed-fails w v w' d first p.front y z p.whole p.stored error (subst (λ k. FailsToZero v d k y error w') p.place q))

  put-last : IsPut w d first at all y v → IsStored v d at y w' → IsStored w d first all w'
  put-last p q = subst (λ l. IsStored w d first l w') (sym p.all_is) (stored-more w v w' d first p.front y p.whole p.stored (subst (λ k. IsStored v d k y w') p.place q))

  put-last-ends : (error : Failure) → IsPut w d first at all y v → FailsToZero v d at y error w' → FailsToZero w d first all error w'
  put-last-ends error p q = put-ends [] error (subst (λ l. IsPut w d first at all l v) (sym (append-nil y)) p) q

  -- the last of them
  pub put-ok : (result : Result Unit Failure) → IsPut w d first at all y v → OnOk result (IsStored v d at y w') → OnOk result (IsStored w d first all w')
  put-ok (Ok done) p q = put-last p q
  put-ok (Err error) p q = tt

  pub put-err : (result : Result Unit Failure) → IsPut w d first at all y v → IfErr result (λ error. FailsToZero v d at y error w') → IfErr result (λ error. FailsToZero w d first all error w')
  put-err (Ok done) p q = tt
  put-err (Err error) p q = put-last-ends error p q
