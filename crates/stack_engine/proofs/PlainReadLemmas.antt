-- Reads over lines without parity restore nothing.
use Rattle.std.proofs.Common.{◌≡◌, ℕ, List, Option, Some, None, Result, Ok, Err, inl, inr, refl, sym, ◌∙◌}
use Rattle.dm_table.specs.declared.parity.Parity.{Parity}
use Rattle.stack_rules.specs.Records.{Configuration}
use Rattle.stack_meaning.specs.declared.fault.IoFault.{IoFault}
use Rattle.block_device.specs.Call.{Call}
use Rattle.block_device.specs.Device.{Device}
use Rattle.stack_engine.specs.LeafCalls.{LeafCall}
use Rattle.stack_engine.specs.Pieces.{PieceGives}
use Rattle.stack_engine.specs.Unrestored.{HasNoParity}
use Rattle.stack_engine.specs.Restored.{restored_after}
use Rattle.stack_engine.proofs.lemmas.CallEndLemmas.{none-heals}
use Rattle.stack_engine.proofs.lemmas.NoParityLemmas.{HasNone, served-none}
use Rattle.stack_engine.specs.SectorCalls.{DataPlace, only_of, spare_of, ReadOf, ReadCalls, leaf_read, leaf_unread, none_read, line_read, line_unread, units_read, units_unread, part_read, part_unread, zeros_read, fails_read, chain_found, data_read, data_unread, data_full, blocks_read, block_checked, block_differs, block_unread, block_full, hash_kept, hash_full, hash_read, way_had, way_healed, way_lost, way_down, way_stops, way_full, one_ignored, one_read, one_healed, one_kept, one_fetched, next_ignored, next_checked, next_healed, next_differs, next_alone, next_unread, together_read, together_lost, together_unread, blocks_end, blocks_next, blocks_full, spare_only, spare_erased, spare_full, only_none, only_full, only_checked, only_differs, only_unread, sums_past, sums_added, sums_unread, parity_added, parity_unread, erased_none, erased_full, erased_judged, judged_many, judged_past, judged_refused, judged_short, judged_next, judged_stops, judged_full, judged_all, restored_whole, restored_differs, restored_unread, known_none, known_beneath, digest_found, digest_next, digest_stops, columns_past, columns_added, columns_unread, columns_ended, columns_stop}
use Rattle.stack_engine.specs.Stacks.{StackRecord}

clash : {parity : Option Parity} {q : Parity} {X : Type 0} → parity ≡ None → parity ≡ Some q → X
clash none has = let other : None ≡ Some _ = sym none ∙ has in absurd cc

abbrev IsVain : Result (List ℕ) IoFault → Type 0
IsVain (Ok x) = ⊥
IsVain (Err fault) = Unit {0}

vain-same : (spare : Result (List ℕ) IoFault) (n : ℕ) → IsVain spare → restored_after spare n ≡ n
vain-same (Ok x) n vain = absurd vain
vain-same (Err fault) n vain = refl

-- a spare isn't read
only-vain : {c : Configuration} {p : DataPlace} {expected : List ℕ} {calls : List LeafCall} {from to : ℕ} {spare : Result (List ℕ) IoFault} → p.verity.parity ≡ None → ReadCalls c (only_of p expected) calls from to spare → (to ≡ from) × IsVain spare
only-vain none (only_none p expected is) = (refl, tt)
only-vain none (only_full p expected) = (refl, tt)
only-vain none (only_checked has a good) = clash none has
only-vain none (only_differs has a other) = clash none has
only-vain none (only_unread has a) = clash none has

spare-vain : {c : Configuration} {p : DataPlace} {expected : List ℕ} {calls : List LeafCall} {from to : ℕ} {spare : Result (List ℕ) IoFault} → p.verity.parity ≡ None → ReadCalls c (spare_of p expected) calls from to spare → (to ≡ from) × IsVain spare
spare-vain none (spare_only settled a) = only-vain none a
spare-vain none (spare_erased {p = p} {fault = fault} heals a b) = none-heals p.verity.parity fault none heals
spare-vain none (spare_full p expected) = (refl, tt)

reads-same : {c : Configuration} {what : ReadOf} {calls : List LeafCall} {from to : ℕ} {answer : Result (List ℕ) IoFault} → HasNoParity c → ReadCalls c what calls from to answer → HasNone what → to ≡ from
reads-same none (leaf_read i s bytes) plain = refl
reads-same none (leaf_unread i s bytes) plain = refl
reads-same none (none_read d s) plain = refl
reads-same none (line_read run a b) plain = reads-same none b tt ∙ reads-same none a (served-none none run.served)
reads-same none (line_unread run a) plain = reads-same none a (served-none none run.served)
reads-same none (units_read a) plain = reads-same none a tt
reads-same none (units_unread a) plain = reads-same none a tt
reads-same none (part_read n a) plain = reads-same none a tt
reads-same none (part_unread n a) plain = reads-same none a tt
reads-same none (zeros_read n) plain = refl
reads-same none (fails_read n) plain = refl
reads-same none (chain_found n chain number good) plain = refl
reads-same none (data_read n a) plain = reads-same none a plain
reads-same none (data_unread n a) plain = reads-same none a plain
reads-same none (data_full n a) plain = reads-same none a plain
reads-same none (blocks_read a) plain = reads-same none a plain
reads-same none (block_checked a same) plain = reads-same none a tt
reads-same none (block_differs a other) plain = reads-same none a tt
reads-same none (block_unread a) plain = reads-same none a tt
reads-same none (block_full x) plain = refl
reads-same none (hash_kept x bytes is) plain = refl
reads-same none (hash_full x) plain = refl
reads-same none (hash_read a) plain = reads-same none a tt
reads-same none (way_had settled a) plain = reads-same none a tt
reads-same none (way_healed {spare = spare} heals a b) plain = let vain = spare-vain plain b in vain-same spare _ vain.1 ∙ vain.0 ∙ reads-same none a tt
reads-same none (way_lost a) plain = reads-same none a plain
reads-same none (way_down a b) plain = reads-same none b plain ∙ reads-same none a plain
reads-same none (way_stops last next a) plain = reads-same none a plain
reads-same none (way_full p l expected last next) plain = refl
reads-same none (one_ignored p expected last is) plain = refl
reads-same none (one_read last used settled a) plain = reads-same none a tt
reads-same none (one_healed last {spare = spare} used heals a b) plain = let vain = spare-vain plain b in vain-same spare _ vain.1 ∙ vain.0 ∙ reads-same none a tt
reads-same none (one_kept p last bytes used is) plain = refl
reads-same none (one_fetched a) plain = reads-same none a plain
reads-same none (next_ignored last is a) plain = reads-same none a plain
reads-same none (next_checked block last used is a) plain = reads-same none a plain
reads-same none (next_healed block last used len other a b) plain = absurd (spare-vain plain a).1
reads-same none (next_differs left block ahead last used len other a) plain = (spare-vain plain a).0
reads-same none (next_alone a b) plain = reads-same none b plain ∙ reads-same none a plain
reads-same none (next_unread left alone a) plain = reads-same none a plain
reads-same none (together_read used row a b) plain = reads-same none b plain ∙ reads-same none a tt
reads-same none (together_lost used row heals a b) plain = reads-same none b plain ∙ reads-same none a tt
reads-same none (together_unread used row settled a) plain = reads-same none a tt
reads-same none (blocks_end p alone ahead) plain = refl
reads-same none (blocks_next a) plain = reads-same none a plain
reads-same none (blocks_full p left alone ahead) plain = refl
reads-same none (spare_only settled a) plain = reads-same none a plain
reads-same none (spare_erased {p = p} {fault = fault} heals a b) plain = none-heals p.verity.parity fault plain heals
reads-same none (spare_full p expected) plain = refl
reads-same none (only_none p expected lacks) plain = refl
reads-same none (only_full p expected) plain = refl
reads-same none (only_checked has a good) plain = clash plain has
reads-same none (only_differs has a other) plain = clash plain has
reads-same none (only_unread has a) plain = clash plain has
reads-same none (sums_past inside past a) plain = absurd plain
reads-same none (sums_added inside at a b) plain = absurd plain
reads-same none (sums_unread sums inside at a) plain = absurd plain
reads-same none (parity_added sums on a) plain = absurd plain
reads-same none (parity_unread sums on a) plain = absurd plain
reads-same none (erased_none p expected lacks) plain = refl
reads-same none (erased_full p expected) plain = refl
reads-same none (erased_judged has a) plain = clash plain has
reads-same none (judged_many p i expected more) plain = absurd plain
reads-same none (judged_past few inside past a) plain = absurd plain
reads-same none (judged_refused few inside at a b) plain = absurd plain
reads-same none (judged_short few inside at a) plain = absurd plain
reads-same none (judged_next judged few inside at a b by d) plain = absurd plain
reads-same none (judged_stops few inside at a b by) plain = absurd plain
reads-same none (judged_full p q i l expected) plain = absurd plain
reads-same none (judged_all few a) plain = absurd plain
reads-same none (restored_whole a whole) plain = absurd plain
reads-same none (restored_differs a other) plain = absurd plain
reads-same none (restored_unread expected a) plain = absurd plain
reads-same none (known_none past) plain = absurd plain
reads-same none (known_beneath at a) plain = absurd plain
reads-same none (digest_found p expected) plain = absurd plain
reads-same none (digest_next low a b) plain = absurd plain
reads-same none (digest_stops low a) plain = absurd plain
reads-same none (columns_past inside past a) plain = absurd plain
reads-same none (columns_added inside kept at a b) plain = absurd plain
reads-same none (columns_unread sums inside kept at a) plain = absurd plain
reads-same none (columns_ended places sums on a) plain = absurd plain
reads-same none (columns_stop places sums on a) plain = absurd plain

pub none-restored : {D : Type 0} (state : D → Device) (does : D → Call → D → Type 0) (w w' : StackRecord) (at : ℕ × ℕ) (n : ℕ) (answer : Result (List ℕ) IoFault) → HasNoParity w.config → PieceGives state does w at n answer w' → w'.restored ≡ w.restored
none-restored state does w w' at n answer none h = elim h.made.are [
  | inl short ↦ short.1
  | inr a ↦ reads-same none a tt
]
