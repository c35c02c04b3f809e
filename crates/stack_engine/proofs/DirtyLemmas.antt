-- Which leaves are dirty after calls on their devices.
use Rattle.std.proofs.Common.{◌≡◌, ℕ, Bool, true, false, IsTrue, List, [], ◌∷◌, ◌++◌, map, set, get_or, Result, inl, inr, refl, sym, ap, ◌∙◌, subst}
use Rattle.std.proofs.lemmas.List.{get_or-map, map-set, set-get_or}
use Rattle.std.specs.Prelude.{if◌then◌else◌}
use Rattle.block_device.specs.Call.{Call, DeviceDoes, Read, Write, Sync}
use Rattle.block_device.specs.CallList.{is_read}
use Rattle.block_device.specs.Device.{Device}
use Rattle.stack_rules.specs.Records.{Configuration}
use Rattle.stack_meaning.specs.declared.fault.IoFault.{IoFault}
use Rattle.stack_engine.specs.Dirty.{dirty_of, dirty_after}
use Rattle.stack_engine.specs.Pieces.{PieceGives}
use Rattle.stack_engine.specs.Stacks.{StackRecord}
use Rattle.stack_engine.specs.WritePieces.{PieceHands}
use Rattle.stack_engine.specs.LeafCalls.{IsLeafCall, LeafCall, LeafCalls}
use Rattle.stack_engine.specs.SectorCalls.{ReadOf, ReadCalls, WriteTo, WriteCalls, leaf_read, leaf_unread, none_read, line_read, line_unread, units_read, units_unread, part_read, part_unread, zeros_read, fails_read, chain_found, data_read, data_unread, data_full, blocks_read, block_checked, block_differs, block_unread, block_full, hash_kept, hash_full, hash_read, way_had, way_healed, way_lost, way_down, way_stops, way_full, one_ignored, one_read, next_ignored, next_checked, next_healed, next_differs, next_alone, next_unread, together_read, together_lost, together_unread, blocks_end, blocks_next, blocks_full, leaf_written, leaf_unwritten, none_written, line_written, line_unwritten, units_written, each_written, part_written, part_lost, none_stepped, step_written, step_unwritten, zeros_written, fails_written, one_healed, one_kept, one_fetched, spare_only, spare_erased, spare_full, only_none, only_full, only_checked, only_differs, only_unread, sums_past, sums_added, sums_unread, parity_added, parity_unread, erased_none, erased_full, erased_judged, judged_many, judged_past, judged_refused, judged_short, judged_next, judged_stops, judged_full, judged_all, restored_whole, restored_differs, restored_unread, known_none, known_beneath, digest_found, digest_next, digest_stops, columns_past, columns_added, columns_unread, columns_ended, columns_stop}

-- a read or a write
abbrev pub is_transfer : Call → Bool
is_transfer (Read first bytes ok) = true
is_transfer (Write first bytes ok) = true
is_transfer (Sync ok) = false

-- all are of one kind
abbrev pub AllAre : (Call → Bool) → List LeafCall → Type 0
AllAre kind [] = Unit {0}
AllAre kind (x ∷ more) = IsTrue (kind x.call) × AllAre kind more

are-append : (kind : Call → Bool) (calls later : List LeafCall) → AllAre kind calls → AllAre kind later → AllAre kind (calls ++ later)
are-append kind [] later h k = k
are-append kind (x ∷ calls) later h k = (h.0, are-append kind calls later h.1 k)

read-transfers : (call : Call) → IsTrue (is_read call) → IsTrue (is_transfer call)
read-transfers (Read first bytes ok) h = refl
read-transfers (Write first bytes ok) h = let clash : false ≡ true = h in cc
read-transfers (Sync ok) h = let clash : false ≡ true = h in cc

transfer-reads : (calls : List LeafCall) → AllAre is_read calls → AllAre is_transfer calls
transfer-reads [] h = tt
transfer-reads (x ∷ calls) h = (read-transfers x.call h.0, transfer-reads calls h.1)

-- a read makes only reads, and a write only reads and writes
pub reads-only : {c : Configuration} {what : ReadOf} {calls : List LeafCall} {from to : ℕ} {answer : Result (List ℕ) IoFault} → ReadCalls c what calls from to answer → AllAre is_read calls
reads-only (leaf_read i s bytes) = (refl, tt)
reads-only (leaf_unread i s bytes) = (refl, tt)
reads-only (none_read d s) = tt
reads-only (line_read {calls = calls} {later = later} run a b) = are-append is_read calls later (reads-only a) (reads-only b)
reads-only (line_unread run a) = reads-only a
reads-only (units_read a) = reads-only a
reads-only (units_unread a) = reads-only a
reads-only (part_read n a) = reads-only a
reads-only (part_unread n a) = reads-only a
reads-only (zeros_read n) = tt
reads-only (fails_read n) = tt
reads-only (chain_found n chain number good) = tt
reads-only (data_read n a) = reads-only a
reads-only (data_unread n a) = reads-only a
reads-only (data_full n a) = reads-only a
reads-only (blocks_read a) = reads-only a
reads-only (block_checked a same) = reads-only a
reads-only (block_differs a other) = reads-only a
reads-only (block_unread a) = reads-only a
reads-only (block_full x) = tt
reads-only (hash_kept x bytes is) = tt
reads-only (hash_full x) = tt
reads-only (hash_read a) = reads-only a
reads-only (way_had settled a) = reads-only a
reads-only (way_healed {calls = calls} {later = later} heals a b) = are-append is_read calls later (reads-only a) (reads-only b)
reads-only (way_lost a) = reads-only a
reads-only (way_down {calls = calls} {later = later} a b) = are-append is_read calls later (reads-only a) (reads-only b)
reads-only (way_stops last next a) = reads-only a
reads-only (way_full p l expected last next) = tt
reads-only (one_ignored p expected last is) = tt
reads-only (one_read last used settled a) = reads-only a
reads-only (one_healed last {calls = calls} {later = later} used heals a b) = are-append is_read calls later (reads-only a) (reads-only b)
reads-only (one_kept p last bytes used is) = tt
reads-only (one_fetched a) = reads-only a
reads-only (next_ignored last is a) = reads-only a
reads-only (next_checked block last used is a) = reads-only a
reads-only (next_healed block last {calls = calls} {later = later} used len other a b) = are-append is_read calls later (reads-only a) (reads-only b)
reads-only (next_differs left block ahead last used len other a) = reads-only a
reads-only (next_alone {calls = calls} {later = later} a b) = are-append is_read calls later (reads-only a) (reads-only b)
reads-only (next_unread left alone a) = reads-only a
reads-only (together_read {calls = calls} {later = later} used row a b) = are-append is_read calls later (reads-only a) (reads-only b)
reads-only (together_lost {calls = calls} {later = later} used row heals a b) = are-append is_read calls later (reads-only a) (reads-only b)
reads-only (together_unread used row settled a) = reads-only a
reads-only (blocks_end p alone ahead) = tt
reads-only (blocks_next a) = reads-only a
reads-only (blocks_full p left alone ahead) = tt
reads-only (spare_only settled a) = reads-only a
reads-only (spare_erased {calls = calls} {later = later} heals a b) = are-append is_read calls later (reads-only a) (reads-only b)
reads-only (spare_full p expected) = tt
reads-only (only_none p expected lacks) = tt
reads-only (only_full p expected) = tt
reads-only (only_checked has a good) = reads-only a
reads-only (only_differs has a other) = reads-only a
reads-only (only_unread has a) = reads-only a
reads-only (sums_past inside past a) = reads-only a
reads-only (sums_added {calls = calls} {later = later} inside at a b) = are-append is_read calls later (reads-only a) (reads-only b)
reads-only (sums_unread sums inside at a) = reads-only a
reads-only (parity_added sums on a) = reads-only a
reads-only (parity_unread sums on a) = reads-only a
reads-only (erased_none p expected lacks) = tt
reads-only (erased_full p expected) = tt
reads-only (erased_judged has a) = reads-only a
reads-only (judged_many p i expected more) = tt
reads-only (judged_past few inside past a) = reads-only a
reads-only (judged_refused {calls = calls} {later = later} few inside at a b) = are-append is_read calls later (reads-only a) (reads-only b)
reads-only (judged_short few inside at a) = reads-only a
reads-only (judged_next {calls = calls} {path = path} {later = later} judged few inside at a b by d) = are-append is_read calls (path ++ later) (reads-only a) (are-append is_read path later (reads-only b) (reads-only d))
reads-only (judged_stops {calls = calls} {path = path} few inside at a b by) = are-append is_read calls path (reads-only a) (reads-only b)
reads-only (judged_full p q i l expected) = tt
reads-only (judged_all few a) = reads-only a
reads-only (restored_whole a whole) = reads-only a
reads-only (restored_differs a other) = reads-only a
reads-only (restored_unread expected a) = reads-only a
reads-only (known_none past) = tt
reads-only (known_beneath at a) = reads-only a
reads-only (digest_found p expected) = tt
reads-only (digest_next {calls = calls} {later = later} low a b) = are-append is_read calls later (reads-only a) (reads-only b)
reads-only (digest_stops low a) = reads-only a
reads-only (columns_past inside past a) = reads-only a
reads-only (columns_added {calls = calls} {later = later} inside kept at a b) = are-append is_read calls later (reads-only a) (reads-only b)
reads-only (columns_unread sums inside kept at a) = reads-only a
reads-only (columns_ended places sums on a) = reads-only a
reads-only (columns_stop places sums on a) = reads-only a

pub writes-only : {c : Configuration} {to : WriteTo} {bytes : List ℕ} {calls : List LeafCall} {result : Result Unit IoFault} → WriteCalls c to bytes calls result → AllAre is_transfer calls
writes-only (leaf_written i s bytes) = (refl, tt)
writes-only (leaf_unwritten i s bytes) = (refl, tt)
writes-only (none_written d s) = tt
writes-only (line_written {calls = calls} {later = later} run width a b) = are-append is_transfer calls later (writes-only a) (writes-only b)
writes-only (line_unwritten more run width a) = writes-only a
writes-only (units_written a) = writes-only a
writes-only (each_written some a) = writes-only a
writes-only (part_written {calls = calls} {later = later} a b) = are-append is_transfer calls later (transfer-reads calls (reads-only a)) (writes-only b)
writes-only (part_lost {calls = calls} bytes a) = transfer-reads calls (reads-only a)
writes-only (none_stepped k x s) = tt
writes-only (step_written {calls = calls} {later = later} width a b) = are-append is_transfer calls later (writes-only a) (writes-only b)
writes-only (step_unwritten more width a) = writes-only a
writes-only (zeros_written bytes) = tt
writes-only (fails_written bytes) = tt

-- reads leave it as it was
pub dirty_after-reads : (calls : List LeafCall) (dirty : List Bool) → AllAre is_read calls → dirty_after calls dirty ≡ dirty
dirty_after-reads [] dirty h = refl
dirty_after-reads (x ∷ calls) dirty h = ap (dirty_after calls) (stays x.call x.leaf dirty h.0) ∙ dirty_after-reads calls dirty h.1
  where
    stays : (call : Call) (i : ℕ) (dirty : List Bool) → IsTrue (is_read call) → (if is_read call then dirty else set dirty i true) ≡ dirty
    stays (Read first bytes ok) i dirty h = refl
    stays (Write first bytes ok) i dirty h = let clash : false ≡ true = h in cc
    stays (Sync ok) i dirty h = let clash : false ≡ true = h in cc

module _ {D : Type 0} (state : D → Device) (does : D → Call → D → Type 0) where
  dirty-set : (old : List D) (i : ℕ) (after : D) → dirty_of (map state (set old i after)) ≡ set (dirty_of (map state old)) i (state after).dirty
  dirty-set old i after = ap dirty_of (map-set state old i after) ∙ map-set (λ (l : Device). l.dirty) (map state old) i (state after)

  dirty-call : (old new : List D) (i : ℕ) (call : Call) → IsTrue (is_transfer call) → IsLeafCall (DeviceDoes state does) i old call new → dirty_of (map state new) ≡ (if is_read call then dirty_of (map state old) else set (dirty_of (map state old)) i true)
  dirty-call old new i (Read first bytes ok) t h =
      let dirty : List Bool = dirty_of (map state old) in
      let f : D → Bool = λ d. (state d).dirty in
      let here : (state h.before).dirty ≡ get_or (map f old) i false = sym (get_or-map f old i h.before false h.there ∙ ap f (h.is h.before)) in
      let both : map f old ≡ dirty = dirty-map old in
      let same : (state h.after).dirty ≡ get_or dirty i false = h.made.0.moved.dirty ∙ here ∙ ap (λ (l : List Bool). get_or l i false) both in
      ap (λ (ds : List D). dirty_of (map state ds)) h.leaves ∙ dirty-set old i h.after ∙ ap (set dirty i) same ∙ set-get_or dirty i false
    where
      dirty-map : (ds : List D) → map (λ (d : D). (state d).dirty) ds ≡ dirty_of (map state ds)
      dirty-map [] = refl
      dirty-map (d ∷ ds) = ap (λ (l : List Bool). (state d).dirty ∷ l) (dirty-map ds)
  dirty-call old new i (Write first bytes ok) t h = ap (λ (ds : List D). dirty_of (map state ds)) h.leaves ∙ dirty-set old i h.after ∙ ap (set (dirty_of (map state old)) i) h.made.0.moved.dirty
  dirty-call old new i (Sync ok) t h = let clash : false ≡ true = t in cc

  pub dirty-calls : (old new : List D) (calls : List LeafCall) → AllAre is_transfer calls → LeafCalls (DeviceDoes state does) old calls new → dirty_of (map state new) ≡ dirty_after calls (dirty_of (map state old))
  dirty-calls old new [] t h = ap (λ (ds : List D). dirty_of (map state ds)) h
  dirty-calls old new (x ∷ calls) t h = dirty-calls h.0 new calls t.1 h.2 ∙ ap (dirty_after calls) (dirty-call old h.0 x.leaf x.call t.0 h.1)

  pub dirty-reads : (old new : List D) (calls : List LeafCall) → AllAre is_read calls → LeafCalls (DeviceDoes state does) old calls new → dirty_of (map state new) ≡ dirty_of (map state old)
  dirty-reads old new calls only made = dirty-calls old new calls (transfer-reads calls only) made ∙ dirty_after-reads calls (dirty_of (map state old)) only

  pub dirty-read : (w w' : StackRecord) (at : ℕ × ℕ) (n : ℕ) (answer : Result (List ℕ) IoFault) → PieceGives state does w at n answer w' → dirty_of w'.leaves ≡ dirty_of w.leaves
  dirty-read w w' at n answer h =
      let only : AllAre is_read h.made.calls = elim h.made.are [
        | inl none ↦ subst (AllAre is_read) (sym none.2) tt
        | inr a ↦ reads-only a
      ] in
      ap dirty_of (sym h.is) ∙ dirty-reads h.before h.after h.made.calls only h.made.made ∙ ap dirty_of h.was

  pub dirty-write : (w w' : StackRecord) (at : ℕ × ℕ) (bytes : List ℕ) (result : Result Unit IoFault) → (h : PieceHands state does w at bytes result w') → dirty_of w'.leaves ≡ dirty_after h.made.calls (dirty_of w.leaves)
  dirty-write w w' at bytes result h =
      let only : AllAre is_transfer h.made.calls = elim h.made.are [
        | inl none ↦ subst (AllAre is_transfer) (sym none.1) tt
        | inr a ↦ writes-only a
      ] in
      ap dirty_of (sym h.is) ∙ dirty-calls h.before h.after h.made.calls only h.made.made ∙ ap (dirty_after h.made.calls) (ap dirty_of h.was)
