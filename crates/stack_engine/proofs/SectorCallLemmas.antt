-- Calls of reads and writes: what those of a part say of all.
use Rattle.std.proofs.Common.{◌≡◌, ℕ, ◌+◌, ◌-◌, ◌*◌, ◌/◌, ◌%◌, ◌≤◌, true, false, List, [], ◌++◌, length, take, drop, Result, Ok, Err, refl, sym, ap, ◌∙◌, subst, arith}
use Rattle.std.specs.Prelude.{IfErr, is_ok}
use Rattle.std.proofs.lemmas.List.{append-nil, append_assoc, drop-drop, drop_all, length-drop, length-take, take-append-drop}
use Rattle.block_device.specs.Call.{Call, Read, Write}
use Rattle.stack_rules.specs.declared.lower.Lower.{Lower}
use Rattle.stack_rules.specs.declared.lower.Lower.TheVariants.{Leaf}
use Rattle.stack_rules.specs.Names.{mapped}
use Rattle.stack_rules.specs.Records.{Configuration}
use Rattle.stack_meaning.specs.declared.fault.IoFault.{IoFault}
use Rattle.stack_meaning.specs.declared.fault.IoFault.TheVariants as io
use Rattle.stack_meaning.specs.Reading.{buffer_answer}
use Rattle.stack_meaning.specs.Units.{per_unit, unit_first}
use Rattle.stack_lines.specs.declared.source.CryptPart.{CryptPart}
use Rattle.stack_lines.specs.declared.source.Run.{Run}
use Rattle.stack_lines.specs.declared.source.Source.TheVariants.{Below, Units, UnitPart}
use Rattle.stack_lines.specs.declared.units.WholeUnit.{WholeUnit}
use Rattle.stack_lines.specs.Runs.{IsRunAt}
use Rattle.stack_lines.specs.Sources.{IsWholeOf, from_unit}
use Rattle.stack_lines.specs.Writing.{SomeEncrypt}
use Rattle.stack_meaning.specs.Meaning.{said_at}
use Rattle.stack_engine.specs.LeafCalls.{IsLeafCall}
use Rattle.stack_engine.specs.Restored.{Served, serving}
use Rattle.stack_engine.specs.SectorCalls.{Gives, Hands, Writes, WriteTo, WriteCalls, at_once, in_steps, bytes_before, part_encrypted, part_decrypted, unit_sectors, unit_with, leaf_read, leaf_unread, none_read, line_read, line_unread, units_read, units_unread, part_read, part_unread, leaf_written, leaf_unwritten, none_written, line_written, line_unwritten, units_written, each_written, part_written, part_lost, none_stepped, step_written, step_unwritten}
use Rattle.stack_engine.proofs.LeafCallLemmas.{makes-none, makes-one, makes-as, makes-then}
use Rattle.stack_engine.proofs.ReadCallLemmas.{reads-none, reads-one, reads-as, reads-then}

-- ---- what is before the others

-- the first bytes of a write, up to byte `at`: with the calls that write the others, all are written
abbrev pub WritesUpTo : {D : Type 0} → (D → Call → D → Type 0) → Configuration → (ℕ → WriteTo) → ℕ → ℕ → List ℕ → List D → List D → Type 0
WritesUpTo {D = D} does c to first at bytes old mid = (new : List D) (result : Result Unit IoFault) → Writes does c (to (first + at / 512)) (drop at bytes) mid new result → Writes does c (to first) bytes old new result

-- to a device, run by run; and to a leaf or device, k sectors at a time
abbrev pub runs_of : ℕ → ℕ → WriteTo
runs_of d s = at_once (Below (mapped d) s)

abbrev pub HandsUpTo : {D : Type 0} → (D → Call → D → Type 0) → Configuration → ℕ → ℕ → ℕ → List ℕ → List D → List D → Type 0
HandsUpTo does c d first at bytes old mid = WritesUpTo does c (runs_of d) first at bytes old mid

abbrev pub StepsUpTo : {D : Type 0} → (D → Call → D → Type 0) → Configuration → ℕ → Lower → ℕ → ℕ → List ℕ → List D → List D → Type 0
StepsUpTo does c k x first at bytes old mid = WritesUpTo does c (in_steps k x) first at bytes old mid

-- the first `at` of n sectors of a device, which gave these bytes: with the calls that read the others, all are read
abbrev pub GivesUpTo : {D : Type 0} → (D → Call → D → Type 0) → Configuration → ℕ → ℕ → ℕ → ℕ → List ℕ → Served D → Served D → Type 0
GivesUpTo {D = D} does c d first n at xs old mid = (new : Served D) (answer : Result (List ℕ) IoFault) → Gives does c (Below (mapped d) (first + at)) (n - at) mid new answer → Gives does c (Below (mapped d) first) n old new (bytes_before xs answer)

pub before-none : (answer : Result (List ℕ) IoFault) → bytes_before [] answer ≡ answer
before-none (Ok ys) = refl
before-none (Err fault) = refl

pub before-before : (xs ys : List ℕ) (answer : Result (List ℕ) IoFault) → bytes_before xs (bytes_before ys answer) ≡ bytes_before (xs ++ ys) answer
before-before xs ys (Ok zs) = ap Ok (sym (append_assoc xs ys zs))
before-before xs ys (Err fault) = refl

-- ---- the next bytes

-- n sectors from byte `at` on: these bytes, before the others
pub record AreNext (at n : ℕ) (bytes piece : List ℕ) : Type 0 where
  pub width : length piece ≡ n * 512
  pub joined : piece ++ drop (n * 512) (drop at bytes) ≡ drop at bytes

are-next : (at n : ℕ) (bytes piece : List ℕ) → at + n * 512 ≤ length bytes → piece ≡ take (n * 512) (drop at bytes) → AreNext at n bytes piece
are-next at n bytes piece fits is =
    let width : length (take (n * 512) (drop at bytes)) ≡ n * 512 = omega (arith, fits, length-take (n * 512) (drop at bytes), length-drop at bytes) in
    record {
      width = ap (λ (l : List ℕ). length l) is ∙ width;
      joined = ap (λ (l : List ℕ). l ++ drop (n * 512) (drop at bytes)) is ∙ take-append-drop (n * 512) (drop at bytes);
    }

-- the next run of a device
pub record IsRunPiece (c : Configuration) (d first at : ℕ) (bytes piece : List ℕ) (run : Run) : Type 0 where
  pub whole : at % 512 ≡ 0
  pub next : AreNext at run.count bytes piece
  pub is : IsRunAt c d (first + at / 512) (length (piece ++ drop (run.count * 512) (drop at bytes)) / 512) run

pub run-piece : {c : Configuration} (d first at limit : ℕ) (bytes piece : List ℕ) (run : Run) → at % 512 ≡ 0 → at + run.count * 512 ≤ length bytes → limit ≡ (length bytes - at) / 512 → IsRunAt c d (first + at / 512) limit run
    → piece ≡ take (at + run.count * 512 - at) (drop at bytes) → IsRunPiece c d first at bytes piece run
run-piece {c = c} d first at limit bytes piece run whole fits limit_is is same =
    let width : at + run.count * 512 - at ≡ run.count * 512 = omega arith in
    let next = are-next at run.count bytes piece fits (same ∙ ap (λ (k : ℕ). take k (drop at bytes)) width) in
    let all : limit ≡ length (piece ++ drop (run.count * 512) (drop at bytes)) / 512 = limit_is ∙ ap (λ (k : ℕ). k / 512) (sym (length-drop at bytes)) ∙ ap (λ (l : List ℕ). length l / 512) (sym next.joined) in
    record { whole = whole; next = next; is = subst (λ (k : ℕ). IsRunAt c d (first + at / 512) k run) all is }

-- the next k sectors, up to byte `end`, of bytes that are still as they were
pub record IsStepPiece (k start first at end : ℕ) (bytes now : List ℕ) : Type 0 where
  pub whole : at % 512 ≡ 0
  pub next : AreNext at k bytes (take (end - at) (drop at now))
  pub end_is : end ≡ at + k * 512
  pub from : start ≡ first

pub step-piece : (k start first at end : ℕ) (bytes now : List ℕ) → at % 512 ≡ 0 → at + k * 512 ≤ length bytes → end ≡ at + k * 512 → start ≡ first → drop at now ≡ drop at bytes → IsStepPiece k start first at end bytes now
step-piece k start first at end bytes now whole fits end_is from rest =
    let width : end - at ≡ k * 512 = omega (arith, end_is) in
    record { whole = whole; next = are-next at k bytes (take (end - at) (drop at now)) fits (ap (λ (j : ℕ). take j (drop at now)) width ∙ ap (take (k * 512)) rest); end_is = end_is; from = from }

module _ {D : Type 0} {does : D → Call → D → Type 0} {c : Configuration} where
  -- ---- writes

  pub leaf-handed : {old new : List D} → (i s : ℕ) (bytes : List ℕ) (result : Result Unit IoFault) → IfErr result (λ fault. fault ≡ io.Device (i + 1)) → IsLeafCall does i old (Write s bytes (is_ok result)) new → Hands does c (Below (Leaf i) s) bytes old new result
  leaf-handed {old = old} {new = new} i s bytes (Ok x) named made = makes-one i (Write s bytes true) (leaf_written i s bytes) made
  leaf-handed {old = old} {new = new} i s bytes (Err fault) named made = subst (λ (f : IoFault). Hands does c (Below (Leaf i) s) bytes old new (Err f)) (sym named) (makes-one i (Write s bytes false) (leaf_unwritten i s bytes) made)

  -- no bytes yet
  pub writes-begin : (to : ℕ → WriteTo) (first : ℕ) (bytes : List ℕ) {old : List D} → WritesUpTo does c to first 0 bytes old old
  writes-begin to first bytes {old = old} new result h = let none : first + 0 / 512 ≡ first = omega arith in subst (λ (s : ℕ). Writes does c (to s) bytes old new result) none h

  -- n sectors more, by what writes them before the others
  writes-more : (to : ℕ → WriteTo) (first at n : ℕ) (bytes : List ℕ) {old mid next : List D} → at % 512 ≡ 0 → WritesUpTo does c to first at bytes old mid
      → ((new : List D) (result : Result Unit IoFault) → Writes does c (to (first + at / 512 + n)) (drop (n * 512) (drop at bytes)) next new result → Writes does c (to (first + at / 512)) (drop at bytes) mid new result)
      → WritesUpTo does c to first (at + n * 512) bytes old next
  writes-more to first at n bytes {next = next} whole h join new result rest =
      let place : first + (at + n * 512) / 512 ≡ first + at / 512 + n = omega (arith, whole) in
      h new result (join new result
      (subst (λ (s : ℕ). Writes does c (to s) (drop (n * 512) (drop at bytes)) next new result) place
      (subst (λ (b : List ℕ). Writes does c (to (first + (at + n * 512) / 512)) b next new result) (sym (drop-drop (n * 512) at bytes)) rest)))

  -- all of them
  writes-all : (to : ℕ → WriteTo) (first at : ℕ) (bytes : List ℕ) {old mid : List D} → length bytes ≤ at → WriteCalls c (to (first + at / 512)) [] [] (Ok tt) → WritesUpTo does c to first at bytes old mid → Writes does c (to first) bytes old mid (Ok tt)
  writes-all to first at bytes {mid = mid} long none h =
      h mid (Ok tt) (subst (λ (b : List ℕ). Writes does c (to (first + at / 512)) b mid mid (Ok tt)) (sym (drop_all at bytes long)) (makes-none none))

  -- a run of a device
  pub run-handed : {d first at : ℕ} {bytes piece : List ℕ} {run : Run} {old mid next : List D} → IsRunPiece c d first at bytes piece run → HandsUpTo does c d first at bytes old mid → Hands does c run.source piece mid next (Ok tt) → HandsUpTo does c d first (at + run.count * 512) bytes old next
  run-handed {d = d} {first = first} {at = at} {bytes = bytes} {run = run} {mid = mid} r h k =
      writes-more (runs_of d) first at run.count bytes r.whole h
      (λ new result rest. subst (λ (b : List ℕ). Hands does c (Below (mapped d) (first + at / 512)) b mid new result) r.next.joined (makes-then (λ calls later a b. line_written r.is r.next.width a b) k rest))

  pub run-unhanded : {d first at : ℕ} {bytes piece : List ℕ} {run : Run} {old mid new : List D} {fault : IoFault} → IsRunPiece c d first at bytes piece run → HandsUpTo does c d first at bytes old mid → Hands does c run.source piece mid new (Err fault) → Hands does c (Below (mapped d) first) bytes old new (Err fault)
  run-unhanded {d = d} {first = first} {at = at} {bytes = bytes} {run = run} {mid = mid} {new = new} {fault = fault} r h k =
      h new (Err fault) (subst (λ (b : List ℕ). Hands does c (Below (mapped d) (first + at / 512)) b mid new (Err fault)) r.next.joined
      (makes-as (λ calls a. line_unwritten (drop (run.count * 512) (drop at bytes)) r.is r.next.width a) k))

  pub all-handed : (d first at : ℕ) (bytes : List ℕ) {old mid : List D} → length bytes ≤ at → HandsUpTo does c d first at bytes old mid → Hands does c (Below (mapped d) first) bytes old mid (Ok tt)
  all-handed d first at bytes long h = writes-all (runs_of d) first at bytes long (none_written d (first + at / 512)) h

  -- units, each by itself
  pub step-handed : {k start first at end : ℕ} {bytes now : List ℕ} {old mid next : List D} (x : Lower) → IsStepPiece k start first at end bytes now → StepsUpTo does c k x first at bytes old mid
      → Hands does c (Below x (start + at / 512)) (take (end - at) (drop at now)) mid next (Ok tt) → StepsUpTo does c k x first end bytes old next
  step-handed {k = k} {start = start} {first = first} {at = at} {end = end} {bytes = bytes} {now = now} {old = old} {mid = mid} {next = next} x r h one =
      let here = subst (λ (s : ℕ). Hands does c (Below x (s + at / 512)) (take (end - at) (drop at now)) mid next (Ok tt)) r.from one in
      subst (λ (e : ℕ). StepsUpTo does c k x first e bytes old next) (sym r.end_is)
      (writes-more (in_steps k x) first at k bytes r.whole h
      (λ new result rest. subst (λ (b : List ℕ). Writes does c (in_steps k x (first + at / 512)) b mid new result) r.next.joined (makes-then (λ calls later a b. step_written r.next.width a b) here rest)))

  pub step-unhanded : {k start first at end : ℕ} {bytes now : List ℕ} {old mid new : List D} {fault : IoFault} (x : Lower) → IsStepPiece k start first at end bytes now → StepsUpTo does c k x first at bytes old mid
      → Hands does c (Below x (start + at / 512)) (take (end - at) (drop at now)) mid new (Err fault) → Writes does c (in_steps k x first) bytes old new (Err fault)
  step-unhanded {k = k} {start = start} {first = first} {at = at} {end = end} {bytes = bytes} {now = now} {mid = mid} {new = new} {fault = fault} x r h one =
      let here = subst (λ (s : ℕ). Hands does c (Below x (s + at / 512)) (take (end - at) (drop at now)) mid new (Err fault)) r.from one in
      h new (Err fault) (subst (λ (b : List ℕ). Writes does c (in_steps k x (first + at / 512)) b mid new (Err fault)) r.next.joined
      (makes-as (λ calls a. step_unwritten (drop (k * 512) (drop at bytes)) r.next.width a) here))

  pub steps-handed : (k : ℕ) (x : Lower) (first at : ℕ) (bytes : List ℕ) {old mid : List D} → length bytes ≤ at → StepsUpTo does c k x first at bytes old mid → Writes does c (in_steps k x first) bytes old mid (Ok tt)
  steps-handed k x first at bytes long h = writes-all (in_steps k x) first at bytes long (none_stepped k x (first + at / 512)) h

  -- which a line beneath encrypts once more
  pub each-handed : {old new : List D} → (u : CryptPart) (first count : ℕ) (bytes encrypted : List ℕ) {result : Result Unit IoFault} → first ≡ unit_first u.units u.first → encrypted ≡ part_encrypted u bytes → count ≡ length bytes / 512 → SomeEncrypt (said_at c u.lower) first count
      → Writes does c (in_steps (per_unit u.units) u.lower (unit_first u.units u.first)) encrypted old new result → Hands does c (Units u) bytes old new result
  each-handed {old = old} {new = new} u first count bytes encrypted {result = result} at same width some h =
      let here = subst (λ (k : ℕ). SomeEncrypt (said_at c u.lower) (unit_first u.units u.first) k) width (subst (λ (s : ℕ). SomeEncrypt (said_at c u.lower) s count) at some) in
      makes-as (λ calls a. each_written here a) (subst (λ (b : List ℕ). Writes does c (in_steps (per_unit u.units) u.lower (unit_first u.units u.first)) b old new result) same h)

  pub units-handed : {old new : List D} → (u : CryptPart) (first : ℕ) (bytes encrypted : List ℕ) {result : Result Unit IoFault} → first ≡ unit_first u.units u.first → encrypted ≡ part_encrypted u bytes → Hands does c (Below u.lower first) encrypted old new result
      → Hands does c (Units u) bytes old new result
  units-handed {old = old} {new = new} u first bytes encrypted {result = result} at same h =
      makes-as (λ calls a. units_written a) (subst (λ (k : ℕ). Hands does c (Below u.lower k) (part_encrypted u bytes) old new result) at (subst (λ (b : List ℕ). Hands does c (Below u.lower first) b old new result) same h))

  -- the unit of a part, as it is read
  pub unit-given : {old mid : Served D} → (u : CryptPart) (whole : WholeUnit) (m : ℕ) {answer : Result (List ℕ) IoFault} → IsWholeOf u whole → m ≡ whole.sectors → Gives does c (Units whole.from) m old mid answer → Gives does c (Units (from_unit u)) (per_unit u.units) old mid answer
  unit-given {old = old} {mid = mid} u whole m {answer = answer} of count h =
      subst (λ (from : CryptPart). Gives does c (Units from) (per_unit u.units) old mid answer) of.from (subst (λ (k : ℕ). Gives does c (Units whole.from) k old mid answer) (count ∙ of.sectors) h)

  pub part-handed : {old mid : Served D} {new : List D} → (u : CryptPart) (whole : WholeUnit) (m : ℕ) (bytes unit changed : List ℕ) {result : Result Unit IoFault} → IsWholeOf u whole → m ≡ whole.sectors → changed ≡ take (512 * whole.within) unit ++ bytes ++ drop (512 * whole.within + length bytes) unit
      → Gives does c (Units whole.from) m old mid (Ok unit) → Hands does c (Units whole.from) changed mid.devices new result → Hands does c (UnitPart u) bytes old.devices new result
  part-handed {old = old} {mid = mid} {new = new} u whole m bytes unit changed {result = result} of count same h k =
      let is : changed ≡ unit_with u bytes unit = same ∙ ap (λ (w : ℕ). take (512 * w) unit ++ bytes ++ drop (512 * w + length bytes) unit) of.within in
      let wrote = subst (λ (from : CryptPart). Hands does c (Units from) (unit_with u bytes unit) mid.devices new result) of.from (subst (λ (b : List ℕ). Hands does c (Units whole.from) b mid.devices new result) is k) in
      makes-then (λ calls later a b. part_written a b) (unit-given u whole m of count h).made wrote

  pub part-lost : {old mid : Served D} → (u : CryptPart) (whole : WholeUnit) (m : ℕ) (bytes : List ℕ) (fault : IoFault) → IsWholeOf u whole → m ≡ whole.sectors → Gives does c (Units whole.from) m old mid (Err fault) → Hands does c (UnitPart u) bytes old.devices mid.devices (Err fault)
  part-lost {old = old} {mid = mid} u whole m bytes fault of count h = makes-as (λ calls a. part_lost bytes a) (unit-given u whole m of count h).made

  -- ---- reads

  pub leaf-given : {restored : ℕ} {old new : List D} → (i s n : ℕ) (bytes : List ℕ) (result : Result Unit IoFault) → length bytes / 512 ≡ n → IfErr result (λ fault. fault ≡ io.Device (i + 1)) → IsLeafCall does i old (Read s bytes (is_ok result)) new → Gives does c (Below (Leaf i) s) n (serving old restored) (serving new restored) (buffer_answer result bytes)
  leaf-given {restored = restored} {old = old} {new = new} i s n bytes (Ok x) count named made = subst (λ (k : ℕ). Gives does c (Below (Leaf i) s) k (serving old restored) (serving new restored) (Ok bytes)) count (reads-one i (Read s bytes true) (leaf_read i s bytes) made)
  leaf-given {restored = restored} {old = old} {new = new} i s n bytes (Err fault) count named made =
      subst (λ (k : ℕ). Gives does c (Below (Leaf i) s) k (serving old restored) (serving new restored) (Err fault)) count
      (subst (λ (f : IoFault). Gives does c (Below (Leaf i) s) (length bytes / 512) (serving old restored) (serving new restored) (Err f)) (sym named) (reads-one i (Read s bytes false) (leaf_unread i s bytes) made))

  -- no sectors yet
  pub gives-begin : (d first n : ℕ) {old : Served D} → GivesUpTo does c d first n 0 [] old old
  gives-begin d first n {old = old} new answer h =
      let place : first + 0 ≡ first = omega arith in
      let all : n - 0 ≡ n = omega arith in
      subst (λ (a : Result (List ℕ) IoFault). Gives does c (Below (mapped d) first) n old new a) (sym (before-none answer))
      (subst (λ (s : ℕ). Gives does c (Below (mapped d) s) n old new answer) place (subst (λ (k : ℕ). Gives does c (Below (mapped d) (first + 0)) k old new answer) all h))

  -- a run of a device
  pub run-given : {old mid next : Served D} (d first n at limit end : ℕ) (run : Run) (xs ys all : List ℕ) → at + limit ≡ n → at + run.count ≡ end → end ≤ n → IsRunAt c d (first + at) limit run → xs ++ ys ≡ all
      → GivesUpTo does c d first n at xs old mid → Gives does c run.source run.count mid next (Ok ys) → GivesUpTo does c d first n end all old next
  run-given {old = old} {mid = mid} {next = next} d first n at limit end run xs ys all left behind fits is whole h k new answer rest =
      let place : first + end ≡ first + at + run.count = omega (arith, behind) in
      let count : run.count + (n - end) ≡ n - at = omega (arith, behind, fits) in
      let limit_is : limit ≡ run.count + (n - end) = omega (arith, count, left) in
      let later = subst (λ (s : ℕ). Gives does c (Below (mapped d) s) (n - end) next new answer) place rest in
      let here = subst (λ (m : ℕ). IsRunAt c d (first + at) m run) limit_is is in
      let one : Gives does c (Below (mapped d) (first + at)) (run.count + (n - end)) mid new (bytes_before ys answer) = reads-then (λ calls later a b. line_read here a b) k later in
      let same : bytes_before xs (bytes_before ys answer) ≡ bytes_before all answer = before-before xs ys answer ∙ ap (λ (b : List ℕ). bytes_before b answer) whole in
      subst (λ (a : Result (List ℕ) IoFault). Gives does c (Below (mapped d) first) n old new a) same
      (h new (bytes_before ys answer) (subst (λ (m : ℕ). Gives does c (Below (mapped d) (first + at)) m mid new (bytes_before ys answer)) count one))

  pub run-ungiven : {old mid new : Served D} (d first n at limit : ℕ) (run : Run) (xs : List ℕ) (fault : IoFault) → at + limit ≡ n → IsRunAt c d (first + at) limit run → GivesUpTo does c d first n at xs old mid → Gives does c run.source run.count mid new (Err fault)
      → Gives does c (Below (mapped d) first) n old new (Err fault)
  run-ungiven {mid = mid} {new = new} d first n at limit run xs fault left is h k =
      let limit_is : limit ≡ n - at = omega (arith, left) in
      let here = subst (λ (m : ℕ). IsRunAt c d (first + at) m run) limit_is is in
      h new (Err fault) (reads-as (λ calls a. line_unread here a) k)

  pub all-given : {old mid : Served D} (d first n at : ℕ) (xs : List ℕ) → at ≡ n → GivesUpTo does c d first n at xs old mid → Gives does c (Below (mapped d) first) n old mid (Ok xs)
  all-given {old = old} {mid = mid} d first n at xs all h =
      let none : 0 ≡ n - at = omega (arith, all) in
      subst (λ (b : List ℕ). Gives does c (Below (mapped d) first) n old mid (Ok b)) (append-nil xs)
      (h mid (Ok []) (subst (λ (k : ℕ). Gives does c (Below (mapped d) (first + at)) k mid mid (Ok [])) none (reads-none (none_read d (first + at)))))

  pub units-given : {old new : Served D} → (u : CryptPart) (first n : ℕ) (bytes decrypted : List ℕ) → first ≡ unit_first u.units u.first → decrypted ≡ part_decrypted u bytes → Gives does c (Below u.lower first) n old new (Ok bytes) → Gives does c (Units u) n old new (Ok decrypted)
  units-given {old = old} {new = new} u first n bytes decrypted at same h =
      subst (λ (b : List ℕ). Gives does c (Units u) n old new (Ok b)) (sym same)
      (reads-as (λ calls a. units_read a) (subst (λ (k : ℕ). Gives does c (Below u.lower k) n old new (Ok bytes)) at h))

  pub units-ungiven : {old new : Served D} → (u : CryptPart) (first n : ℕ) (fault : IoFault) → first ≡ unit_first u.units u.first → Gives does c (Below u.lower first) n old new (Err fault) → Gives does c (Units u) n old new (Err fault)
  units-ungiven {old = old} {new = new} u first n fault at h = reads-as (λ calls a. units_unread a) (subst (λ (k : ℕ). Gives does c (Below u.lower k) n old new (Err fault)) at h)

  pub part-given : {old mid : Served D} → (u : CryptPart) (whole : WholeUnit) (m n : ℕ) (unit bytes : List ℕ) → IsWholeOf u whole → m ≡ whole.sectors → bytes ≡ unit_sectors u n unit → Gives does c (Units whole.from) m old mid (Ok unit) → Gives does c (UnitPart u) n old mid (Ok bytes)
  part-given {old = old} {mid = mid} u whole m n unit bytes of count same h = subst (λ (b : List ℕ). Gives does c (UnitPart u) n old mid (Ok b)) (sym same) (reads-as (λ calls a. part_read n a) (unit-given u whole m of count h))

  pub part-ungiven : {old mid : Served D} → (u : CryptPart) (whole : WholeUnit) (m n : ℕ) (fault : IoFault) → IsWholeOf u whole → m ≡ whole.sectors → Gives does c (Units whole.from) m old mid (Err fault) → Gives does c (UnitPart u) n old mid (Err fault)
  part-ungiven {old = old} {mid = mid} u whole m n fault of count h = reads-as (λ calls a. part_unread n a) (unit-given u whole m of count h)
