-- The count of restored blocks.
use Rattle.std.proofs.Common.{ℕ, ◌+◌, ◌-◌, ◌≤◌, Bool, true, false, List, Result, Ok, Err, arith}
use Rattle.std.specs.Prelude.{◌^◌, nat_lt, if◌then◌else◌}
use Rattle.stack_rules.specs.Records.{Configuration}
use Rattle.stack_meaning.specs.declared.fault.IoFault.{IoFault}
use Rattle.stack_engine.specs.LeafCalls.{LeafCall}
use Rattle.stack_engine.specs.Restored.{one_more, restored_after}
use Rattle.stack_engine.specs.SectorCalls.{ReadOf, ReadCalls, leaf_read, leaf_unread, none_read, line_read, line_unread, units_read, units_unread, part_read, part_unread, zeros_read, fails_read, chain_found, data_read, data_unread, data_full, blocks_read, block_checked, block_differs, block_unread, block_full, hash_kept, hash_full, hash_read, way_had, way_healed, way_lost, way_down, way_stops, way_full, one_ignored, one_read, one_healed, one_kept, one_fetched, next_ignored, next_checked, next_healed, next_differs, next_alone, next_unread, together_read, together_lost, together_unread, blocks_end, blocks_next, blocks_full, spare_only, spare_erased, spare_full, only_none, only_full, only_checked, only_differs, only_unread, sums_past, sums_added, sums_unread, parity_added, parity_unread, erased_none, erased_full, erased_judged, judged_many, judged_past, judged_refused, judged_short, judged_next, judged_stops, judged_full, judged_all, restored_whole, restored_differs, restored_unread, known_none, known_beneath, digest_found, digest_next, digest_stops, columns_past, columns_added, columns_unread, columns_ended, columns_stop}

-- it doesn't fall
one-grows : (n : ℕ) → n ≤ one_more n
one-grows n = go (nat_lt n (2 ^ 64 - 1))
  where
    go : (b : Bool) → n ≤ (if b then n + 1 else n)
    go true = omega arith
    go false = omega arith

spare-grows : (spare : Result (List ℕ) IoFault) (n : ℕ) → n ≤ restored_after spare n
spare-grows (Ok x) n = one-grows n
spare-grows (Err fault) n = omega arith

-- after a read it is no less than before
pub reads-grow : {c : Configuration} {what : ReadOf} {calls : List LeafCall} {from to : ℕ} {answer : Result (List ℕ) IoFault} → ReadCalls c what calls from to answer → from ≤ to
reads-grow (leaf_read i s bytes) = omega arith
reads-grow (leaf_unread i s bytes) = omega arith
reads-grow (none_read d s) = omega arith
reads-grow (line_read run a b) = omega (arith, reads-grow a, reads-grow b)
reads-grow (line_unread run a) = reads-grow a
reads-grow (units_read a) = reads-grow a
reads-grow (units_unread a) = reads-grow a
reads-grow (part_read n a) = reads-grow a
reads-grow (part_unread n a) = reads-grow a
reads-grow (zeros_read n) = omega arith
reads-grow (fails_read n) = omega arith
reads-grow (chain_found n chain number good) = omega arith
reads-grow (data_read n a) = reads-grow a
reads-grow (data_unread n a) = reads-grow a
reads-grow (data_full n a) = reads-grow a
reads-grow (blocks_read a) = reads-grow a
reads-grow (block_checked a same) = reads-grow a
reads-grow (block_differs a other) = reads-grow a
reads-grow (block_unread a) = reads-grow a
reads-grow (block_full x) = omega arith
reads-grow (hash_kept x bytes is) = omega arith
reads-grow (hash_full x) = omega arith
reads-grow (hash_read a) = reads-grow a
reads-grow (way_had settled a) = reads-grow a
reads-grow (way_healed {to = to} {spare = spare} heals a b) = omega (arith, reads-grow a, reads-grow b, spare-grows spare to)
reads-grow (way_lost a) = reads-grow a
reads-grow (way_down a b) = omega (arith, reads-grow a, reads-grow b)
reads-grow (way_stops last next a) = reads-grow a
reads-grow (way_full p l expected last next) = omega arith
reads-grow (one_ignored p expected last is) = omega arith
reads-grow (one_read last used settled a) = reads-grow a
reads-grow (one_healed {to = to} last {spare = spare} used heals a b) = omega (arith, reads-grow a, reads-grow b, spare-grows spare to)
reads-grow (one_kept p last bytes used is) = omega arith
reads-grow (one_fetched a) = reads-grow a
reads-grow (next_ignored last is a) = reads-grow a
reads-grow (next_checked block last used is a) = reads-grow a
reads-grow (next_healed {mid = mid} block last used len other a b) = omega (arith, reads-grow a, reads-grow b, one-grows mid)
reads-grow (next_differs left block ahead last used len other a) = reads-grow a
reads-grow (next_alone a b) = omega (arith, reads-grow a, reads-grow b)
reads-grow (next_unread left alone a) = reads-grow a
reads-grow (together_read used row a b) = omega (arith, reads-grow a, reads-grow b)
reads-grow (together_lost used row heals a b) = omega (arith, reads-grow a, reads-grow b)
reads-grow (together_unread used row settled a) = reads-grow a
reads-grow (blocks_end p alone ahead) = omega arith
reads-grow (blocks_next a) = reads-grow a
reads-grow (blocks_full p left alone ahead) = omega arith
reads-grow (spare_only settled a) = reads-grow a
reads-grow (spare_erased heals a b) = omega (arith, reads-grow a, reads-grow b)
reads-grow (spare_full p expected) = omega arith
reads-grow (only_none p expected lacks) = omega arith
reads-grow (only_full p expected) = omega arith
reads-grow (only_checked has a good) = reads-grow a
reads-grow (only_differs has a other) = reads-grow a
reads-grow (only_unread has a) = reads-grow a
reads-grow (sums_past inside past a) = reads-grow a
reads-grow (sums_added inside at a b) = omega (arith, reads-grow a, reads-grow b)
reads-grow (sums_unread sums inside at a) = reads-grow a
reads-grow (parity_added sums on a) = reads-grow a
reads-grow (parity_unread sums on a) = reads-grow a
reads-grow (erased_none p expected lacks) = omega arith
reads-grow (erased_full p expected) = omega arith
reads-grow (erased_judged has a) = reads-grow a
reads-grow (judged_many p i expected more) = omega arith
reads-grow (judged_past few inside past a) = reads-grow a
reads-grow (judged_refused few inside at a b) = omega (arith, reads-grow a, reads-grow b)
reads-grow (judged_short few inside at a) = reads-grow a
reads-grow (judged_next judged few inside at a b by d) = omega (arith, reads-grow a, reads-grow b, reads-grow d)
reads-grow (judged_stops few inside at a b by) = omega (arith, reads-grow a, reads-grow b)
reads-grow (judged_full p q i l expected) = omega arith
reads-grow (judged_all few a) = reads-grow a
reads-grow (restored_whole a whole) = reads-grow a
reads-grow (restored_differs a other) = reads-grow a
reads-grow (restored_unread expected a) = reads-grow a
reads-grow (known_none past) = omega arith
reads-grow (known_beneath at a) = reads-grow a
reads-grow (digest_found p expected) = omega arith
reads-grow (digest_next low a b) = omega (arith, reads-grow a, reads-grow b)
reads-grow (digest_stops low a) = reads-grow a
reads-grow (columns_past inside past a) = reads-grow a
reads-grow (columns_added inside kept at a b) = omega (arith, reads-grow a, reads-grow b)
reads-grow (columns_unread sums inside kept at a) = reads-grow a
reads-grow (columns_ended places sums on a) = reads-grow a
reads-grow (columns_stop places sums on a) = reads-grow a
