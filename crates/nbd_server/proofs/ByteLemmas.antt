-- Bytes of the export and the sectors that they touch.
use Rattle.std.proofs.Common.{◌≡◌, ◌≢◌, ◌<◌, ℕ, ◌+◌, ◌-◌, ◌*◌, ◌/◌, ◌%◌, ◌^◌, ◌==◌, List, [], ◌∷◌, ◌++◌, length, take, drop, replicate, refl, ap, sym, ◌∙◌, subst, append-nil, append_assoc, arith, inl, inr, Result, Ok, Err}
use Rattle.std.specs.Prelude.{◌&&◌, Bool, true, false, not, nat_le, nat_lt, IfErr, OnOk, if◌then◌else◌}
use Rattle.std.proofs.lemmas.List.{length-drop, length-replicate, length-take, length-take-le, drop_all}
use Rattle.std.proofs.Math.Seq.{take-append-add}
use borrow.Rule.Slice.PartMut.{put_mid, post_of}
use Rattle.request_queue.specs.World.{World}
use Rattle.nbd_protocol.specs.declared.phase.Agreement.{Agreement}
use Rattle.nbd_protocol.specs.declared.header.Header.{Header}
use Rattle.nbd_protocol.specs.declared.header.Command.{Command}
use Rattle.nbd_protocol.specs.declared.header.Command.TheVariants.{Read, Write, Zero, Hint, Cache, Flush, Status}
use Rattle.nbd_protocol.specs.declared.request_error.RequestError.{RequestError}
use Rattle.nbd_server.specs.declared.failure.Failure.{Failure}
use Rattle.nbd_server.specs.declared.reply.Data.{Data}
use Rattle.nbd_protocol.specs.declared.request_error.RequestError.TheVariants.{NotPermitted, Invalid, NoSpace}
use Rattle.nbd_protocol.specs.Exports.{ExportRecord}
use Rattle.nbd_protocol.specs.Headers.{cache_command, command_of, flush_command, has_fua, has_offered, payload_len, most_length, read_command, status_command, trim_command, write_command, zero_command}
use Rattle.nbd_server.specs.Premises.{IsBare}
use Rattle.nbd_server.specs.Sectors.{IsStored, IsStoredAtOnce, FailsToPutAtOnce, FailsToZero}
use Rattle.nbd_server.specs.Failures.{write_failure}
use Rattle.nbd_server.specs.Replies.{RequestOutcome}
use Rattle.nbd_server.specs.Status.{touched}
use Rattle.nbd_server.specs.Reads.{ReadsExport}
use Rattle.nbd_server.specs.Transmission.{FailsToReadEnds, Flushes, IsFramed, IsPart, reply_data, ReportsSpace, ReadsEnds, ServesRequest, ServesCommand, Settles, Stays, WritesAtOnce, WritesGiven, WritesByRuns, WritesAny, room_behind, no_bytes}
use Rattle.nbd_server.specs.Zeros.{WritesInRuns}

-- ---- what is around some bytes

module _ (offset len : ℕ) (bytes : List ℕ) (room : length bytes ≡ 512 * touched offset len) where
  pub meant-length : length (take len (drop (offset % 512) bytes)) ≡ len
  meant-length = length-take-le len (drop (offset % 512) bytes) (omega (arith, length-drop (offset % 512) bytes, room))

  module _ (before : List ℕ) (start : length before ≡ offset % 512) where
    -- the buffer in the end
    sectors-are : (behind : List ℕ) (k : ℕ) → k ≡ length (before ++ drop (offset % 512) bytes) - (offset % 512 + len)
        → put_mid (offset % 512 + len) k (before ++ drop (offset % 512) bytes) behind ≡ before ++ (take len (drop (offset % 512) bytes) ++ behind)
    sectors-are behind k k-is =
        let all = before ++ drop (offset % 512) bytes in
        let meant = take len (drop (offset % 512) bytes) in
        let front : take (offset % 512 + len) all ≡ before ++ meant = ap (λ n. take (n + len) all) (sym start) ∙ take-append-add before (drop (offset % 512) bytes) len in
        let none : post_of (offset % 512 + len) k all ≡ [] = drop_all k (drop (offset % 512 + len) all) (omega (arith, k-is, length-drop (offset % 512 + len) all)) in
        ap (λ l. l ++ (behind ++ post_of (offset % 512 + len) k all)) front
        ∙ ap (λ l. (before ++ meant) ++ (behind ++ l)) none
        ∙ ap (λ l. (before ++ meant) ++ l) (append-nil behind)
        ∙ append_assoc before meant behind

    pub framed : (e : ExportRecord) (w w' : World) (behind : List ℕ) (k : ℕ) → k ≡ length (before ++ drop (offset % 512) bytes) - (offset % 512 + len) → ReadsEnds e w offset len before behind w'
        → IsFramed e w offset (take len (drop (offset % 512) bytes)) (put_mid (offset % 512 + len) k (before ++ drop (offset % 512) bytes) behind) w'
    framed e w w' behind k k-is p = record {
      before = before;
      behind = behind;
      ends = subst (λ n. ReadsEnds e w offset n before behind w') (sym meant-length) p;
      sectors_are = sectors-are behind k k-is;
    }

-- ---- how a write ends

pub ends-unread : (e : ExportRecord) (w mid w' : World) (offset len : ℕ) (before : List ℕ) (error : Failure)
    → ReadsExport e w (offset - offset % 512) (offset % 512) (Ok before) mid → ReadsExport e mid (offset + len) (room_behind offset len) (Err error) w' → FailsToReadEnds e w offset len w' error
ends-unread e w mid w' offset len before error p q = inr (before, mid, p, q)

pub writes-ended : (e : ExportRecord) (w mid w' : World) (offset : ℕ) (bytes sectors : List ℕ) (result : Result Unit Failure) → IsFramed e w offset bytes sectors mid
    → OnOk result (IsStoredAtOnce mid e.device (offset / 512) sectors w') → IfErr result (λ error. FailsToPutAtOnce mid e.device (offset / 512) sectors error w') → WritesAtOnce e w offset bytes (no_bytes result) w'
writes-ended e w mid w' offset bytes sectors (Ok done) f ok err = (refl, sectors, mid, f, ok)
writes-ended e w mid w' offset bytes sectors (Err error) f ok err = inr (sectors, mid, f, err)

-- ---- the bytes after a request

module _ (offset length : ℕ) (fua : Bool) where
  read-no-write : (a b : Bool) (o l : ℕ) → (if a then Err Invalid else if b then Err Invalid else Ok (Read o l)) ≡ Ok (Write offset length fua) → ⊥
  read-no-write true b o l h = let clash : Err Invalid ≡ Ok (Write offset length fua) = h in cc
  read-no-write false true o l h = let clash : Err Invalid ≡ Ok (Write offset length fua) = h in cc
  read-no-write false false o l h = let clash : Ok (Read o l) ≡ Ok (Write offset length fua) = h in cc

  flush-no-write : (a : Bool) → (if a then Ok Flush else Err Invalid) ≡ Ok (Write offset length fua) → ⊥
  flush-no-write true h = let clash : Ok Flush ≡ Ok (Write offset length fua) = h in cc
  flush-no-write false h = let clash : Err Invalid ≡ Ok (Write offset length fua) = h in cc

  cache-no-write : (a : Bool) (o l : ℕ) → (if a then Err Invalid else Ok (Cache o l)) ≡ Ok (Write offset length fua) → ⊥
  cache-no-write true o l h = let clash : Err Invalid ≡ Ok (Write offset length fua) = h in cc
  cache-no-write false o l h = let clash : Ok (Cache o l) ≡ Ok (Write offset length fua) = h in cc

  changing-write : (a b : Bool) (past : RequestError) (command : Result Command RequestError) → (if a then Err NotPermitted else if b then Err past else command) ≡ Ok (Write offset length fua) → command ≡ Ok (Write offset length fua)
  changing-write true b past command h = let clash : Err NotPermitted ≡ Ok (Write offset length fua) = h in cc
  changing-write false true past command h = let clash : Err past ≡ Ok (Write offset length fua) = h in cc
  changing-write false false past command h = h

  trim-no-write : (a b : Bool) → (if a then Err NotPermitted else if b then Err Invalid else Ok Hint) ≡ Ok (Write offset length fua) → ⊥
  trim-no-write a b h = let clash : Ok Hint ≡ Ok (Write offset length fua) = changing-write a b Invalid (Ok Hint) h in cc

  zero-no-write : (a b d : Bool) (o l : ℕ) (f : Bool) → (if a then Err NotPermitted else if b then Err NoSpace else Ok (Zero o l f d)) ≡ Ok (Write offset length fua) → ⊥
  zero-no-write a b d o l f h = let clash : Ok (Zero o l f d) ≡ Ok (Write offset length fua) = changing-write a b NoSpace (Ok (Zero o l f d)) h in cc

  status-no-write : (a b : Bool) (o l : ℕ) (one : Bool) → (if a then Err Invalid else if b then Err Invalid else Ok (Status o l one)) ≡ Ok (Write offset length fua) → ⊥
  status-no-write true b o l one h = let clash : Err Invalid ≡ Ok (Write offset length fua) = h in cc
  status-no-write false true o l one h = let clash : Err Invalid ≡ Ok (Write offset length fua) = h in cc
  status-no-write false false o l one h = let clash : Ok (Status o l one) ≡ Ok (Write offset length fua) = h in cc

  write-length : (a b c : Bool) (o l : ℕ) (f : Bool) → (if a then Err Invalid else if b then Err NotPermitted else if c then Err NoSpace else Ok (Write o l f)) ≡ Ok (Write offset length fua) → l ≡ length
  write-length true b c o l f h = let clash : Err Invalid ≡ Ok (Write offset length fua) = h in cc
  write-length false b c o l f h = let same : Ok (Write o l f) ≡ Ok (Write offset length fua) = changing-write b c NoSpace (Ok (Write o l f)) h in cc

  last-no-write : (b : Bool) (statuses : Result Command RequestError) → (statuses ≡ Ok (Write offset length fua) → ⊥) → (if b then statuses else Err Invalid) ≡ Ok (Write offset length fua) → ⊥
  last-no-write true statuses t h = t h
  last-no-write false statuses t h = let clash : Err Invalid ≡ Ok (Write offset length fua) = h in cc

  others-no-write : (a b c d : Bool) (flushes trims caches zeroes more : Result Command RequestError) → (flushes ≡ Ok (Write offset length fua) → ⊥) → (trims ≡ Ok (Write offset length fua) → ⊥)
      → (caches ≡ Ok (Write offset length fua) → ⊥) → (zeroes ≡ Ok (Write offset length fua) → ⊥) → (more ≡ Ok (Write offset length fua) → ⊥)
      → (if a then flushes else if b then trims else if c then caches else if d then zeroes else more) ≡ Ok (Write offset length fua) → ⊥
  others-no-write true b c d flushes trims caches zeroes more p q r s t h = p h
  others-no-write false true c d flushes trims caches zeroes more p q r s t h = q h
  others-no-write false false true d flushes trims caches zeroes more p q r s t h = r h
  others-no-write false false false true flushes trims caches zeroes more p q r s t h = s h
  others-no-write false false false false flushes trims caches zeroes more p q r s t h = t h

  payload-cases : (a z b : Bool) (reads writes others : Result Command RequestError) (n : ℕ) → (reads ≡ Ok (Write offset length fua) → ⊥) → (others ≡ Ok (Write offset length fua) → ⊥)
      → (writes ≡ Ok (Write offset length fua) → n ≡ length) → (if a then Err Invalid else if z then reads else if b then writes else others) ≡ Ok (Write offset length fua) → (if b then n else 0) ≡ length
  payload-cases true z b reads writes others n none more some h = let clash : Err Invalid ≡ Ok (Write offset length fua) = h in cc
  payload-cases false true b reads writes others n none more some h = absurd (none h)
  payload-cases false false true reads writes others n none more some h = some h
  payload-cases false false false reads writes others n none more some h = absurd (more h)

  -- a write is followed by the bytes that it writes
  pub write-payload : (e : ExportRecord) (a : Agreement) (h : Header) → command_of e a h ≡ Ok (Write offset length fua) → payload_len h ≡ length
  unfolding command_of
  write-payload e a h is =
      let past = nat_lt e.size (h.offset + h.length) in
      let last = if (h.kind == 7) && a.status then status_command e h else Err Invalid in
      payload-cases (not (has_offered a h)) (h.kind == 0) (h.kind == 1) (read_command e h) (write_command e h)
      (if h.kind == 3 then flush_command h else if h.kind == 4 then trim_command e h else if h.kind == 5 then cache_command e h else if h.kind == 6 then zero_command e h else last) h.length
      (read-no-write (nat_lt most_length h.length) past h.offset h.length)
      (others-no-write (h.kind == 3) (h.kind == 4) (h.kind == 5) (h.kind == 6) (flush_command h) (trim_command e h) (cache_command e h) (zero_command e h) last
      (flush-no-write ((h.offset == 0) && (h.length == 0))) (trim-no-write (not e.writable) past) (cache-no-write past h.offset h.length) (zero-no-write (not e.writable) past (nat_le 16 h.flags) h.offset h.length (has_fua h))
      (last-no-write ((h.kind == 7) && a.status) (status_command e h) (status-no-write (h.length == 0) past h.offset h.length (nat_le 8 h.flags))))
      (write-length (nat_lt most_length h.length) (not e.writable) past h.offset h.length (has_fua h)) is

-- what a write without a fault comes to, and one with a fault
pub reports-done : (Does : RequestOutcome → World → Type 0) (w' : World) → Does (Ok []) w' → ReportsSpace Does (Ok []) w'
reports-done Does w' p = (Ok [], p, refl)

pub reports-failed : (Does : RequestOutcome → World → Type 0) (w' : World) (error : Failure) → Does (Err error) w' → ReportsSpace Does (Err (write_failure w'.stack.leaves error)) w'
reports-failed Does w' error p = (Err error, p, refl)

pub served-write : (e : ExportRecord) (a : Agreement) (w w' : World) (h : Header) (offset length : ℕ) (fua : Bool) (payload : List ℕ) (outcome : RequestOutcome) → command_of e a h ≡ Ok (Write offset length fua)
    → Settles fua (ReportsSpace (WritesGiven e w offset payload)) outcome w' → ServesRequest e a w h payload outcome w'
served-write e a w w' h offset length fua payload outcome command p = subst (λ c. ServesCommand e w c payload outcome w') (sym command) p

-- ---- commands that no bytes follow

pub bare-other : (command : Command) → ((offset length : ℕ) (fua : Bool) → command ≢ Write offset length fua) → IsBare command
bare-other (Write offset length fua) other = other offset length fua refl
bare-other command other = tt

-- it is served alike, whatever bytes are beside it
pub served-bare : (e : ExportRecord) (w w' : World) (command : Command) (payload : List ℕ) (outcome : RequestOutcome) → IsBare command
    → ServesCommand e w (Ok command) [] outcome w' → ServesCommand e w (Ok command) payload outcome w'
served-bare e w w' (Write offset length fua) payload outcome bare p = absurd bare
served-bare e w w' (Zero offset length fua false) payload outcome bare p = p
served-bare e w w' (Zero offset length fua true) payload outcome bare p = p
served-bare e w w' command payload outcome bare p = p

-- ---- with FUA

-- what was done is settled
pub settled : (fua : Bool) (Does : RequestOutcome → World → Type 0) (mid w' : World) (outcome : RequestOutcome) → Does (Ok []) mid → Settles fua (Stays mid) outcome w' → Settles fua Does outcome w'
settled false Does mid w' outcome p s = subst (λ o. Does o w') (sym s.0) (subst (λ (x : World). Does (Ok []) x) (sym s.1) p)
settled true Does mid w' (Ok content) p s = (mid, p, subst (λ (x : World). Flushes x (Ok content) w') s.1.1 s.2)
settled true Does mid w' (Err error) p (inl s) = let clash : Err error ≡ Ok [] = s.0 in cc
settled true Does mid w' (Err error) p (inr s) = inr (mid, p, subst (λ (x : World). Flushes x (Err error) w') s.1.1 s.2)

-- what failed has nothing to settle
pub unsettled : (fua : Bool) (Does : RequestOutcome → World → Type 0) (w' : World) (error : Failure) → Does (Err error) w' → Settles fua Does (Err error) w'
unsettled false Does w' error p = p
unsettled true Does w' error p = inl p

-- ---- zeros

some-written : (e : ExportRecord) (w : World) (offset : ℕ) (bytes : List ℕ) (outcome : RequestOutcome) (w' : World) → 0 < length bytes → WritesByRuns e w offset bytes outcome w' → WritesAny e w offset bytes outcome w'
some-written e w offset [] outcome w' some p = absurd (omega (arith, some))
some-written e w offset (byte ∷ more) outcome w' some p = p

by-runs : (e : ExportRecord) (w mid w' : World) (offset : ℕ) (bytes sectors : List ℕ) (result : Result Unit Failure) → IsFramed e w offset bytes sectors mid
    → OnOk result (IsStored mid e.device (offset / 512) sectors w') → IfErr result (λ error. FailsToZero mid e.device (offset / 512) sectors error w')
    → WritesInRuns e.device (offset / 512) (length sectors) mid sectors result w' → WritesByRuns e w offset bytes (no_bytes result) w'
by-runs e w mid w' offset bytes sectors (Ok done) f ok err runs = (refl, sectors, mid, f, record { stored = ok; runs = runs })
by-runs e w mid w' offset bytes sectors (Err error) f ok err runs = inr (sectors, mid, f, record { fails = err; runs = runs })

module _ (e : ExportRecord) (w mid w' : World) (offset len : ℕ) (some : 0 < len) where
  zeros-some : 0 < length {A = ℕ} (replicate len 0)
  zeros-some = omega (arith, length-replicate {A = ℕ} len 0, some)

  pub zeros-unread : (error : Failure) → FailsToReadEnds e w offset len w' error → WritesAny e w offset (replicate len 0) (Err error) w'
  zeros-unread error p =
      let unread = subst (λ n. FailsToReadEnds e w offset n w' error) (sym (length-replicate {A = ℕ} len 0)) p in
      some-written e w offset (replicate len 0) (Err error) w' zeros-some (inl unread)

  pub zeros-written : (before behind : List ℕ) (result : Result Unit Failure) → ReadsEnds e w offset len before behind mid → OnOk result (IsStored mid e.device (offset / 512) (before ++ (replicate len 0 ++ behind)) w')
      → IfErr result (λ error. FailsToZero mid e.device (offset / 512) (before ++ (replicate len 0 ++ behind)) error w')
      → WritesInRuns e.device (offset / 512) (length (before ++ (replicate len 0 ++ behind))) mid (before ++ (replicate len 0 ++ behind)) result w' → WritesAny e w offset (replicate len 0) (no_bytes result) w'
  zeros-written before behind result p ok err runs =
      let sectors = before ++ (replicate len 0 ++ behind) in
      let framed : IsFramed e w offset (replicate len 0) sectors mid =
      record { before = before; behind = behind; ends = subst (λ n. ReadsEnds e w offset n before behind mid) (sym (length-replicate {A = ℕ} len 0)) p; sectors_are = refl } in
      some-written e w offset (replicate len 0) (no_bytes result) w' zeros-some (by-runs e w mid w' offset (replicate len 0) sectors result framed ok err runs)

-- ---- what can be sent

-- the chunk of what can be sent has a length that fits
pub fits-chunk : (d : Data) → IsPart d → 8 + length (reply_data d) < 2 ^ 32
fits-chunk d p = omega (arith, length-take d.length (drop d.start d.bytes.items), p.few)
