-- Without parity the calls of a read or a write end at the first one that fails.
use Rattle.std.proofs.Common.{◌≡◌, ℕ, List, [], ◌∷◌, ◌++◌, Option, Some, None, Result, Ok, Err, true, false, refl, sym, ap, ◌∙◌}
use Rattle.std.specs.Prelude.{is_some}
use Rattle.dm_table.specs.declared.parity.Parity.{Parity}
use Rattle.stack_rules.specs.Records.{Configuration}
use Rattle.stack_meaning.specs.declared.fault.Fault.{Fault}
use Rattle.stack_meaning.specs.declared.fault.IoFault.{IoFault}
use Rattle.stack_meaning.specs.declared.fault.IoFault.TheVariants as io
use Rattle.stack_meaning.specs.Outcomes.{mismatch}
use Rattle.stack_rules.specs.Trees.{zero_block}
use Rattle.stack_engine.specs.Healing.{HasNoParity, IsHealed, unhealed}
use Rattle.stack_engine.specs.LeafCalls.{LeafCall, AllLeafCallsSucceeded, NoneAfterFailure, EndAtFailure}
use Rattle.stack_engine.specs.SectorCalls.{bytes_before, ReadOf, ReadCalls, WriteTo, WriteCalls, leaf_read, leaf_unread, none_read, line_read, line_unread, units_read, units_unread, part_read, part_unread, zeros_read, fails_read, chain_found, data_read, data_unread, data_full, blocks_read, block_checked, block_differs, block_unread, block_full, hash_kept, hash_full, hash_read, way_had, way_healed, way_lost, way_down, way_stops, way_full, one_ignored, one_read, next_ignored, next_checked, next_healed, next_differs, next_alone, next_unread, together_read, together_lost, together_unread, blocks_end, blocks_next, blocks_full, leaf_written, leaf_unwritten, none_written, line_written, line_unwritten, units_written, each_written, part_written, part_lost, none_stepped, step_written, step_unwritten, zeros_written, fails_written, one_healed, one_kept, one_fetched, spare_only, spare_erased, spare_full, only_none, only_full, only_checked, only_differs, only_unread, sums_past, sums_added, sums_unread, parity_added, parity_unread, erased_none, erased_full, erased_judged, judged_many, judged_past, judged_refused, judged_short, judged_next, judged_stops, judged_full, judged_all, restored_whole, restored_differs, restored_unread, known_none, known_beneath, digest_found, digest_next, digest_stops, columns_past, columns_added, columns_unread, columns_ended, columns_stop}
use Rattle.stack_engine.proofs.lemmas.NoParityLemmas.{HasNone, served-none}

all-append : (calls later : List LeafCall) → AllLeafCallsSucceeded calls → AllLeafCallsSucceeded later → AllLeafCallsSucceeded (calls ++ later)
all-append [] later h k = k
all-append (x ∷ calls) later h k = (h.0, all-append calls later h.1 k)

end-append : (calls later : List LeafCall) → AllLeafCallsSucceeded calls → NoneAfterFailure later → NoneAfterFailure (calls ++ later)
end-append [] later h k = k
end-append (x ∷ []) [] h k = tt
end-append (x ∷ []) (y ∷ later) h k = (h.0, k)
end-append (x ∷ (y ∷ calls)) later h k = (h.0, end-append (y ∷ calls) later h.1 k)

ended-append : {A B : Type 0} (result : Result A B) (calls later : List LeafCall) → AllLeafCallsSucceeded calls → EndAtFailure result later → EndAtFailure result (calls ++ later)
ended-append (Ok x) calls later h k = all-append calls later h k
ended-append (Err fault) calls later h k = end-append calls later h k

-- a fault after calls that all succeeded
ended-all : (calls : List LeafCall) → AllLeafCallsSucceeded calls → NoneAfterFailure calls
ended-all [] h = tt
ended-all (x ∷ []) h = tt
ended-all (x ∷ (y ∷ calls)) h = (h.0, ended-all (y ∷ calls) h.1)

-- all succeeded, unless a device failed: then all but the last one did
abbrev EndsAs : Result (List ℕ) IoFault → List LeafCall → Type 0
EndsAs (Ok x) calls = AllLeafCallsSucceeded calls
EndsAs (Err (io.Stack fault)) calls = AllLeafCallsSucceeded calls
EndsAs (Err (io.Device i)) calls = NoneAfterFailure calls
EndsAs (Err io.NoMemory) calls = AllLeafCallsSucceeded calls

as-ended : (answer : Result (List ℕ) IoFault) (calls : List LeafCall) → EndsAs answer calls → EndAtFailure answer calls
as-ended (Ok x) calls h = h
as-ended (Err (io.Stack fault)) calls h = ended-all calls h
as-ended (Err (io.Device i)) calls h = h
as-ended (Err io.NoMemory) calls h = ended-all calls h

ends-append : (answer : Result (List ℕ) IoFault) (calls later : List LeafCall) → AllLeafCallsSucceeded calls → EndsAs answer later → EndsAs answer (calls ++ later)
ends-append (Ok x) calls later h k = all-append calls later h k
ends-append (Err (io.Stack fault)) calls later h k = all-append calls later h k
ends-append (Err (io.Device i)) calls later h k = end-append calls later h k
ends-append (Err io.NoMemory) calls later h k = all-append calls later h k

ends-before : (xs : List ℕ) (answer : Result (List ℕ) IoFault) (calls later : List LeafCall) → AllLeafCallsSucceeded calls → EndsAs answer later → EndsAs (bytes_before xs answer) (calls ++ later)
ends-before xs (Ok ys) calls later h k = all-append calls later h k
ends-before xs (Err (io.Stack fault)) calls later h k = all-append calls later h k
ends-before xs (Err (io.Device i)) calls later h k = end-append calls later h k
ends-before xs (Err io.NoMemory) calls later h k = all-append calls later h k

clash : {parity : Option Parity} {q : Parity} {X : Type 0} → parity ≡ None → parity ≡ Some q → X
clash none has = let other : None ≡ Some _ = sym none ∙ has in absurd cc

ends-vain : (fault : Fault) (vain : IoFault) (calls : List LeafCall) → EndsAs (Err vain) calls → EndsAs (Err (unhealed (io.Stack fault) vain)) calls
ends-vain fault (io.Stack vain) calls h = h
ends-vain fault (io.Device i) calls h = h
ends-vain fault io.NoMemory calls h = h

-- without parity no fault is healed
pub none-heals : {X : Type 0} (parity : Option Parity) (fault : IoFault) → parity ≡ None → IsHealed parity fault → X
none-heals parity (io.Stack fault) none heals = let both : false ≡ true = sym (ap is_some none) ∙ heals in absurd cc
none-heals parity (io.Device i) none heals = let both : false ≡ true = sym (ap is_some none) ∙ heals in absurd cc
none-heals parity io.NoMemory none heals = let both : false ≡ true = heals in absurd cc

reads-end : {c : Configuration} {what : ReadOf} {calls : List LeafCall} {from to : ℕ} {answer : Result (List ℕ) IoFault} → HasNoParity c → ReadCalls c what calls from to answer → HasNone what → EndsAs answer calls
reads-end none (leaf_read i s bytes) plain = (refl, tt)
reads-end none (leaf_unread i s bytes) plain = tt
reads-end none (none_read d s) plain = tt
reads-end none (line_read {calls = calls} {later = later} {xs = xs} {answer = answer} run a b) plain = ends-before xs answer calls later (reads-end none a (served-none none run.served)) (reads-end none b tt)
reads-end none (line_unread run a) plain = reads-end none a (served-none none run.served)
reads-end none (units_read a) plain = reads-end none a tt
reads-end none (units_unread a) plain = reads-end none a tt
reads-end none (part_read n a) plain = reads-end none a tt
reads-end none (part_unread n a) plain = reads-end none a tt
reads-end none (zeros_read n) plain = tt
reads-end none (fails_read n) plain = tt
reads-end none (chain_found n chain number good) plain = tt
reads-end none (data_read n a) plain = reads-end none a plain
reads-end none (data_unread n a) plain = reads-end none a plain
reads-end none (data_full n a) plain = reads-end none a plain
reads-end none (blocks_read a) plain = reads-end none a plain
reads-end none (block_checked a same) plain = reads-end none a tt
reads-end none (block_differs a other) plain = reads-end none a tt
reads-end none (block_unread a) plain = reads-end none a tt
reads-end none (block_full x) plain = tt
reads-end none (hash_kept x bytes is) plain = tt
reads-end none (hash_full x) plain = tt
reads-end none (hash_read a) plain = reads-end none a tt
reads-end none (way_had settled a) plain = reads-end none a tt
reads-end none (way_healed {p = p} {fault = fault} heals a b) plain = none-heals p.verity.parity fault plain heals
reads-end none (way_lost a) plain = reads-end none a plain
reads-end none (way_down {calls = calls} {later = later} {answer = answer} a b) plain = ends-append answer calls later (reads-end none a plain) (reads-end none b plain)
reads-end none (way_stops last next a) plain = reads-end none a plain
reads-end none (way_full p l expected last next) plain = tt
reads-end none (one_ignored p expected last is) plain = tt
reads-end none (one_read last used settled a) plain = reads-end none a tt
reads-end none (one_healed {p = p} last {fault = fault} used heals a b) plain = none-heals p.verity.parity fault plain heals
reads-end none (one_kept p last bytes used is) plain = tt
reads-end none (one_fetched a) plain = reads-end none a plain
reads-end none (next_ignored {p = p} last {calls = calls} {answer = answer} is a) plain = ends-before (zero_block p.verity) answer [] calls tt (reads-end none a plain)
reads-end none (next_checked block last {calls = calls} {answer = answer} used is a) plain = ends-before block answer [] calls tt (reads-end none a plain)
reads-end none (next_healed {spare = spare} block last {calls = calls} {later = later} {answer = answer} used len other a b) plain = ends-before spare answer calls later (reads-end none a plain) (reads-end none b plain)
reads-end none (next_differs {p = p} left block ahead last {calls = calls} {vain = vain} used len other a) plain = ends-vain mismatch vain calls (reads-end none a plain)
reads-end none (next_alone {block = block} {calls = calls} {later = later} {answer = answer} a b) plain = ends-before block answer calls later (reads-end none a plain) (reads-end none b plain)
reads-end none (next_unread left alone a) plain = reads-end none a plain
reads-end none (together_read {calls = calls} {later = later} {answer = answer} used row a b) plain = ends-append answer calls later (reads-end none a tt) (reads-end none b plain)
reads-end none (together_lost {p = p} {fault = fault} used row heals a b) plain = none-heals p.verity.parity fault plain heals
reads-end none (together_unread used row settled a) plain = reads-end none a tt
reads-end none (blocks_end p alone ahead) plain = tt
reads-end none (blocks_next a) plain = reads-end none a plain
reads-end none (blocks_full p left alone ahead) plain = tt
reads-end none (spare_only settled a) plain = reads-end none a plain
reads-end none (spare_erased {p = p} {fault = fault} heals a b) plain = none-heals p.verity.parity fault plain heals
reads-end none (spare_full p expected) plain = tt
reads-end none (only_none p expected lacks) plain = tt
reads-end none (only_full p expected) plain = tt
reads-end none (only_checked has a good) plain = clash plain has
reads-end none (only_differs has a other) plain = clash plain has
reads-end none (only_unread has a) plain = clash plain has
reads-end none (sums_past inside past a) plain = absurd plain
reads-end none (sums_added inside at a b) plain = absurd plain
reads-end none (sums_unread sums inside at a) plain = absurd plain
reads-end none (parity_added sums on a) plain = absurd plain
reads-end none (parity_unread sums on a) plain = absurd plain
reads-end none (erased_none p expected lacks) plain = tt
reads-end none (erased_full p expected) plain = tt
reads-end none (erased_judged has a) plain = clash plain has
reads-end none (judged_many p i expected more) plain = absurd plain
reads-end none (judged_past few inside past a) plain = absurd plain
reads-end none (judged_refused few inside at a b) plain = absurd plain
reads-end none (judged_short few inside at a) plain = absurd plain
reads-end none (judged_next judged few inside at a b by d) plain = absurd plain
reads-end none (judged_stops few inside at a b by) plain = absurd plain
reads-end none (judged_full p q i l expected) plain = absurd plain
reads-end none (judged_all few a) plain = absurd plain
reads-end none (restored_whole a whole) plain = absurd plain
reads-end none (restored_differs a other) plain = absurd plain
reads-end none (restored_unread expected a) plain = absurd plain
reads-end none (known_none past) plain = absurd plain
reads-end none (known_beneath at a) plain = absurd plain
reads-end none (digest_found p expected) plain = absurd plain
reads-end none (digest_next low a b) plain = absurd plain
reads-end none (digest_stops low a) plain = absurd plain
reads-end none (columns_past inside past a) plain = absurd plain
reads-end none (columns_added inside kept at a b) plain = absurd plain
reads-end none (columns_unread sums inside kept at a) plain = absurd plain
reads-end none (columns_ended places sums on a) plain = absurd plain
reads-end none (columns_stop places sums on a) plain = absurd plain

pub reads-ended : {c : Configuration} {what : ReadOf} {calls : List LeafCall} {from to : ℕ} {answer : Result (List ℕ) IoFault} → HasNoParity c → HasNone what → ReadCalls c what calls from to answer → EndAtFailure answer calls
reads-ended {calls = calls} {answer = answer} none plain h = as-ended answer calls (reads-end none h plain)

pub writes-ended : {c : Configuration} {to : WriteTo} {bytes : List ℕ} {calls : List LeafCall} {result : Result Unit IoFault} → HasNoParity c → WriteCalls c to bytes calls result → EndAtFailure result calls
writes-ended none (leaf_written i s bytes) = (refl, tt)
writes-ended none (leaf_unwritten i s bytes) = tt
writes-ended none (none_written d s) = tt
writes-ended {result = result} none (line_written {calls = calls} {later = later} run width a b) = ended-append result calls later (writes-ended none a) (writes-ended none b)
writes-ended none (line_unwritten more run width a) = writes-ended none a
writes-ended none (units_written a) = writes-ended none a
writes-ended none (each_written some a) = writes-ended none a
writes-ended {result = result} none (part_written {calls = calls} {later = later} a b) = ended-append result calls later (reads-ended none tt a) (writes-ended none b)
writes-ended none (part_lost bytes a) = reads-ended none tt a
writes-ended none (none_stepped k x s) = tt
writes-ended {result = result} none (step_written {calls = calls} {later = later} width a b) = ended-append result calls later (writes-ended none a) (writes-ended none b)
writes-ended none (step_unwritten more width a) = writes-ended none a
writes-ended none (zeros_written bytes) = tt
writes-ended none (fails_written bytes) = tt
