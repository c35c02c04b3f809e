use Rattle.std.proofs.Common.{All, ◌≡◌, ◌<◌, ◌≤◌, ◌+◌, ◌/◌, ◌*◌, ◌-◌, ◌%◌, length, take, drop, map, max, replicate, get_or, eqb, true, false, ℕ, suc, List, [], ◌∷◌, ◌++◌, Vec, Global, Option, Some, None, Result, Ok, Err, inl, inr, refl, sym, ap, ◌∙◌, subst, arith}
use Rattle.std.proofs.lemmas.List.{length-map, length-take, length-take-le, length-drop, length-append, map-append, take_all}
use Rattle.std.proofs.Math.Seq.{get_or-append_seam, take-append_seam}
use Rattle.std.proofs.lemmas.Slice.Eq.{bytes_eq-Decides}
use Rattle.std.proofs.lemmas.Bool.{cases_lt, eqb-true}
use Rattle.std.proofs.lemmas.Slice.{take-put_mid}
use Rattle.std.proofs.lemmas.List.{with_items_is}
use Rattle.std.specs.Prelude.{option_map, is_ok, nat_lt, IfSome, IfErr, IfOk, IsTrue, is_some}
use Rattle.block_device.specs.Call.{DeviceDoes, Read, Call}
use Rattle.stack_engine.specs.LeafCalls.{IsLeafCall}
use Rattle.stack_engine.specs.SectorCalls.{Gives, zeros_read, fails_read, block_at, columns_of, covered_at, digest_of, erased_of, known_of, other_in, other_number, restored_of}
use Rattle.stack_engine.proofs.ReadCallLemmas.{reads-none}
use Rattle.stack_engine.specs.SectorCalls.{LeadsTo, ReadsBy, place_at, block_full, block_of, data_of, expected_hash, hash_full, hash_kept, hash_of, last_bytes, one_asked, one_block, one_ignored, place_in, spare_of, way_had, way_of, way_full, whole_data}
use Rattle.stack_engine.specs.Healing.{alone_after, healed_result, unhealed}
use Rattle.stack_engine.specs.ReadSteps.{IsKeptData, block_answer, expected_in, ReadsOn}
use Rattle.stack_engine.proofs.WayCallLemmas.{block-ungiven, one-asked, one-kept, chain-given, checked-given, data-given, data-short, data-ungiven, differs-given, hash-given, last-push, leads-begin, one-given, one-healed, place-same, place-turn, reads-expected, way-ended, way-had, way-healed, way-led, way-short, way-ungiven, way-unled}
use Rattle.stack_engine.proofs.BlockCallLemmas.{BlocksUpTo, blocks-begin, blocks-given, blocks-short, blocks-unled, blocks-way, gives-at, path-last, row-asked, row-begins, row-after, row-some, row-stays, row-ungiven, together-at, way-plain}
use Rattle.stack_engine.proofs.SectorCallLemmas.{leaf-given, gives-begin, run-given, run-ungiven, all-given, units-given, units-ungiven, part-given, part-ungiven}
use Rattle.std.specs.Vec.{with_items}
use borrow.Rule.Slice.PartMut.{put_mid, same_len_mid}
use Rattle.tree_shape.specs.Digests.{digest, digest_in}
use Rattle.tree_shape.specs.Shape.{ShapeRecord, slot, ancestor, levels}
use Rattle.stack_rules.specs.Names.{mapped, size}
use Rattle.stack_rules.specs.Descend.{depth}
use Rattle.stack_rules.specs.Trees.{tree_of, block_sectors}
use Rattle.stack_rules.specs.declared.lower.DevId.{DevId}
use Rattle.stack_rules.specs.declared.lower.Lower.TheVariants.{Leaf}
use Rattle.stack_rules.specs.declared.lower.Lower.{Lower}
use Rattle.stack_meaning.specs.declared.fault.Fault.TheVariants.{ErrorTarget, Mismatch}
use Rattle.stack_meaning.specs.declared.fault.IoFault.TheVariants.{Stack, NoMemory}
use Rattle.stack_lines.specs.declared.source.Source.{Source}
use Rattle.stack_lines.specs.declared.source.Source.TheVariants.{Below, Units, UnitPart, Block, Zeros}
use Rattle.stack_meaning.specs.Found.{Entry, FoundRecord, found_entry}
use Rattle.stack_lines.specs.declared.tree.Extent.{Extent}
use Rattle.stack_meaning.specs.Blocks.{hash_sectors, next_digest}
use Rattle.stack_meaning.specs.Spares.{verified_blocks}
use Rattle.stack_lines.specs.Walks.{block_in, data_expected, spare_expected, way_expected, GetsChain, HasVerifiedBlock, IsWalked}
use Rattle.stack_meaning.specs.declared.fault.IoFault.{IoFault}
use Rattle.stack_meaning.specs.Places.{place_of, run_expected, LeafRead}
use Rattle.stack_meaning.specs.Reading.{Gets, buffer_answer}
use Rattle.stack_engine.proofs.RunBytesLemmas.{room_sectors, next-run, run-can}
use Rattle.stack_engine.proofs.StackLemmas.{stack-later}
use Rattle.stack_meaning.proofs.lemmas.LoadedLemmas.{size-small}
use Rattle.stack_lines.proofs.lemmas.SourceLemmas.{served-depth, below_of, leaf_of, empty_read, zeros_of, fails_of}
use Rattle.stack_lines.proofs.lemmas.VerityLineLemmas.{data-whole, hash-whole, hash-depth, data-depth, line-facts}
use Rattle.stack_engine.proofs.PathBlockLemmas.{bytes, kept-data-had, data_key_place, checked_as, place_key, hash_read, hash_failed, data_had, data_failed, way-answered, way-read, way-settled, way-verified}
use Rattle.stack_meaning.specs.Memory.{largest_allocation}
use Rattle.stack_engine.proofs.CachedLemmas.{cached-hit, cached-small, keeps-noted, noted_key, keeps-kept, keeps-found, keeps-last, last-small}
use Rattle.stack_lines.proofs.lemmas.StandingLemmas.{named-inside, knows-all}
use Rattle.stack_engine.proofs.BlockPartLemmas.{kept_at, kept_for, kept_length, contains_at, part-room, part_found, part_walked, part_err, part_full, block-at, block-meets}
use Rattle.stack_lines.specs.declared.source.CryptPart.{CryptPart}
use Rattle.stack_lines.specs.Sources.{AreUnits}
use Rattle.stack_engine.proofs.lemmas.BlockLemmas.{distinct-push, length-content}
use Rattle.stack_engine.proofs.lemmas.WalkLemmas.{checked_ok, checked_err, checked_differs, data_zeros, data_read, data_answered, data_settled, walk_full}
use Rattle.stack_meaning.proofs.lemmas.LeafLemmas.{all-whole}
use Rattle.stack_meaning.specs.Units.{per_unit, decrypted_units}
use Rattle.stack_lines.proofs.lemmas.UnitSourceLemmas.{units-bytes, whole-units, part-read, part-failed, units-read, units-failed}
use Rattle.std.proofs.lemmas.List.{take_more, get_or_default}
use Rattle.std.proofs.lemmas.List.Elements.{All-take}
use Rattle.verified_cache.specs.Cache.{CachedBlock}
use Rattle.stack_lines.specs.AtOnce.{CanGo}
use Rattle.stack_engine.specs.Held.{IsHeld}
use Rattle.stack_engine.proofs.PathLemmas.{held-small, path-read, path-hit, path-put, path-down, path-failed, path-stopped, path-ended, path-whole, walk-begins, way-bytes, way-fault, way-key, no_block}
use Rattle.stack_engine.proofs.LostBlockLemmas.{data-verified, block-covered}
use Rattle.stack_engine.proofs.BlocksAtLemmas.{blocks-at}
use Rattle.stack_engine.proofs.BlocksLemmas.{blocks-meet}
use Rattle.stack_engine.proofs.NextBlockLemmas.{sub-same, digest-count, blocks-long, way-whole, block-begin, far, row-next, row-fails, row-kept, next-kept, together-from, lone-from, heals-after, checked-none, turn-at, way-fails, way-costs, row-at, row-got, row-costs, put-at, row-covers, checked-as, checked-all}
use Rattle.stack_engine.proofs.NextSettledLemmas.{digest-made, block-costs, block-full, block-checked, rest-ahead, stood-len, written}
use Rattle.stack_engine.proofs.SettledLemmas.{settled-given, settled-got, settled-moved, settled-on, settles-at, unsettled, unsettled-given}
use Rattle.stack_engine.specs.declared.path.Chains.TheVariants.{Kept}
use Rattle.stack_engine.specs.Keeping.{with_chains, AreHandedOut, ReadsAs, ReadsSourceAs, one_found}
use Rattle.stack_engine.proofs.KeepingLemmas.{device_err, device_ok, finds-as, finds-begin, finds-kept, finds-none, finds-up, gets-none, one-out, same_reads}
use Rattle.stack_lines.specs.Touches.{leaves_of, NamesOneOf}
use Rattle.stack_meaning.proofs.lemmas.LeafListLemmas.{AreRead-none}
use Rattle.stack_engine.proofs.SpentLemmas.{IsCutBehind, block-spent, had-spent}
use Rattle.stack_lines.proofs.lemmas.TouchLemmas.{data-within}
use Rattle.stack_lines.proofs.lemmas.AskLemmas.{asks-less, asks-none, asks-then, asks-as, asks-up}
use Rattle.stack_engine.proofs.TouchedLemmas.{extent-touched, same-within, hash-touched, data-touched}
use Rattle.stack_engine.specs.Backings.{did, backing_of, served}
use Rattle.stack_engine.specs.Restored.{serving, Served}
use Rattle.stack_engine.specs.ReadSteps.{run_beneath, IsReadStep}
use Rattle.stack_engine.proofs.StepLemmas.{met, step-met, step-none, below-step, units-step, part-step, zeros-step, fails-step, leaf-step, device-begin, device-step-ok, device-step-err}
use Rattle.std.proofs.Math.Nat.{mul-le-mul_right, mul-div_cancel, mul-mod_left}
use Rattle.dm_table.specs.declared.parity.Parity.{Parity}
use Rattle.dm_table.specs.declared.verity.Verity.{Verity}
use Rattle.stack_rules.specs.Records.{Configuration}
use Rattle.stack_rules.specs.Rules.{IsLoaded}
use Rattle.stack_rules.specs.Trees.{zero_block}
use Rattle.stack_meaning.specs.Spares.{with_parity}
use Rattle.stack_lines.specs.declared.tree.Tree.{Tree}
use Rattle.stack_lines.specs.Walks.{IsTreeOf}
use Rattle.stack_engine.specs.SectorCalls.{DataPlace, other_at, other_by, sums_of}
use Rattle.stack_engine.specs.Spares.{HealsBy, IsStoredAt, other_wanted, stored_wanted, AreFoundUpTo, AreLossesOf, AreUnfound, DigestBy, IsJudged, IsNext, IsUnjudged, JudgesTo, NamesLeaf, columns_wanted, erased_wanted, failed_of, judge_cost, kept_wanted, restored_wanted, spare_wanted, stored_digest_wanted}
use Rattle.stack_engine.specs.declared.rows.JudgedBlock.{JudgedBlock}
use Rattle.stack_engine.specs.declared.spare.Stored.{Stored}
use Rattle.stack_engine.proofs.HealLemmas.{asks-healed, asks-lost, lost-fails, lost-heals, asks-unhealed, asks-vain, heals-failed, heals-had, heals-short, asks-both, asks-one, heals-some, names-next, read-fault, read-named, unhealed-named, unread-fault, unread-named, vain-named}
use Rattle.stack_engine.proofs.MendCallLemmas.{leads-then, other-added, other-lost, other-past, only-given, only-lost, only-other, only-past, stored-given, stored-lost, spare-alone, spare-by_erasures}
use Rattle.stack_engine.proofs.lemmas.MendLemmas.{IsSummed, only-differs, only-ends, only-none, stored-fails, summed-fails, summed-more, summed-none}
use Rattle.stack_engine.proofs.lemmas.RoundLemmas.{is-round, mend-inside, other-given, other-none, other-of, other-read, other-unread, parity-of, stored-count, stored-read, stored-unread, few-lost, many-lost, same-roots}
use Rattle.block_device.specs.Device.{Device}
use Rattle.stack_engine.specs.Erasures.{LossRecord, added_columns, added_parity, end_of, judge_by, no_columns, record_of, vain_fault, column}
use Rattle.stack_engine.specs.declared.losses.Judged.{Judged}
use Rattle.stack_engine.specs.declared.spare.LostBlock.{LostBlock}
use Rattle.stack_engine.specs.declared.backing.Backing.{Backing}
use Rattle.stack_meaning.specs.declared.fault.Fault.{Fault}
use Rattle.stack_meaning.specs.Erasures.{is_among}
use Rattle.stack_engine.proofs.PathEndLemmas.{end-verified}
use Rattle.stack_engine.proofs.JudgeLemmas.{IsDigestBeneath, beneath-begins, beneath-down, beneath-ends, beneath-fails, judge-fits, judge-most, judged-read, judged-refused, judged-short, judged-unread, known-beneath, known-none, unjudged-read, unjudged-unread}
use Rattle.stack_engine.proofs.JudgeCallLemmas.{column-added, column-lost, column-past, columns-given, columns-lost, digest-down, digest-fails, digest-given, erased-given, erased-past, erased-unjudged, erased-vain, judges-by, judges-refused, judges-short, known-given, known-past, restored-lost, restored-other, restored-given}
use Rattle.stack_engine.proofs.StoredLemmas.{extent-is, stored-asks, stored-calls, stored-deep, stored-had, stored-lacks}
use Rattle.stack_engine.proofs.FoundLemmas.{all-judged, found-next, found-none, found-past, losses-found, unfound-full, unfound-next}
use Rattle.stack_engine.proofs.MendedLemmas.{erased-all, erased-many, erased-none, erased-unfound, spare-mended, spare-only, spare-settled}
use Rattle.stack_engine.proofs.DecodeLemmas.{AreSummed, columns-read, columns-unread, kept-apart, kept-lost, kept-none, kept-read, kept-unread, restored-differs, restored-fails, sums-begin, sums-end, sums-more, sums-stop, restored-whole}
use Rattle.stack_engine.specs.declared.losses.Judged.TheVariants.{Lost}
use Rattle.stack_engine.proofs.ColumnSumLemmas.{column-first, column-length}
use Rattle.stack_engine.proofs.read.+read.Goals as goal

pub read_device-overflow_add-first : goal.read_device-overflow_add-first
read_device-overflow_add-first g t c =
    let small = size-small c.args.config.now (mapped c.args.from.0.0) c.requires.stack.sound.loaded in omega (arith, small, c.requires.fits.holds)

pub read_device-read_run-requires : goal.read_device-read_run-requires
read_device-read_run-requires g t c κs within =
    let config = c.args.config.now in
    let next = c.run_to_read-run in
    let inv = c.loop-at.invariant in
    let run = next-run c.args.from.1 c.loop-at.at (length c.args.out.now / 512) c.loop-at.out inv.whole c.loop-at-test.true (omega (arith, c.loop-at.auto.out)) next.ensures.run.served next.ensures.run.some next.ensures.run.most next.ensures.run.longest in
    let deep = served-depth config c.args.from.0.0 (c.args.from.1 + c.loop-at.at / 512) next.result.count next.result.source c.requires.stack.sound.loaded run.some run.served in (
      omega (arith, deep),
      (
        within,
        run-can run (stack-later config inv.so_far.reads.got.moved.moved.fixed c.requires.stack inv.step.cached) (finds-kept c.args.chains c.requires.kept inv.so_far) (subst (CanGo config next.result.source next.result.count) c.as_slice.ensures.value (next.ensures.can_go inv.step.cached.sound.sets)),
      ),
    )

pub read_device-loop-at-preserved : goal.read_device-loop-at-preserved
read_device-loop-at-preserved g t c =
    let config = c.args.config.now in
    let at = c.loop-at.at in
    let out = c.loop-at.out in
    let next = c.run_to_read-run in
    let inv = c.loop-at.invariant in
    let loaded = c.requires.stack.sound.loaded in
    let source = next.result.source in
    let count = next.result.count in
    let end : ℕ = at + count * 512 in
    let run = next-run c.args.from.1 at (length c.args.out.now / 512) out inv.whole c.loop-at-test.true (omega (arith, c.loop-at.auto.out)) next.ensures.run.served next.ensures.run.some next.ensures.run.most next.ensures.run.longest in
    let front : take end (put_mid at (end - at) out c.read_run.new.out) ≡ take at out ++ c.read_run.new.out = take-put_mid at (end - at) out c.read_run.new.out end (omega (arith, c.read_run.auto.out, run.len)) inv.within in
    let more = subst (λ (n : ℕ). ReadsSourceAs c.args.chains config source n (did g.D.BlockDev.state c.loop-at.backing c.loop-at.found.items c.read_run.new.backing c.read_run.new.found.items) (Ok c.read_run.new.out)) run.sectors c.in-Ok.ensures.reads in
    record {
      whole = omega (arith, inv.whole);
      within = omega (arith, length-take end (put_mid at (end - at) out c.read_run.new.out), ap length front, length-append (take at out) c.read_run.new.out, length-take at out, c.read_run.auto.out, run.len, inv.within);
      so_far = same_reads config (mapped c.args.from.0.0) c.args.from.1 run.next (sym front) (device_ok config c.args.from.0.0 c.args.from.1 (at / 512) count source c.args.chains loaded run.some run.served inv.so_far more);
      given =
          let does = DeviceDoes g.D.BlockDev.state g.D.BlockDev.does in
          let here = subst (λ (k : ℕ). Gives does config source k (served c.loop-at.backing) (served c.read_run.new.backing) (Ok c.read_run.new.out)) run.sectors c.in-Ok.ensures.given in
          run-given c.args.from.0.0 c.args.from.1 (length c.args.out.now / 512) (at / 512) ((length out - at) / 512) (end / 512) next.result (take at out) c.read_run.new.out _ run.left run.next (omega (arith, run.next, run.inside)) next.ensures.run (sym front) inv.given here;
      step = device-step-ok loaded run inv.cut run.sectors inv.step c.in-Ok.ensures.step;
      cut = subst (λ (k : ℕ). IsCutBehind config c.args.from.0.0 c.args.from.1 k (length c.args.out.now / 512)) run.next run.behind;
    }

pub read_device-returns-in-Err-clause-reads : goal.read_device-returns-in-Err-clause-reads
read_device-returns-in-Err-clause-reads g t c =
    let config = c.args.config.now in
    let next = c.run_to_read-run in
    let inv = c.loop-at.invariant in
    let run = next-run c.args.from.1 c.loop-at.at (length c.args.out.now / 512) c.loop-at.out inv.whole c.loop-at-test.true (omega (arith, c.loop-at.auto.out)) next.ensures.run.served next.ensures.run.some next.ensures.run.most next.ensures.run.longest in
    let more = subst (λ (n : ℕ). ReadsSourceAs c.args.chains config next.result.source n (did g.D.BlockDev.state c.loop-at.backing c.loop-at.found.items c.read_run.new.backing c.read_run.new.found.items) (Err c.in-Err.fault)) run.sectors c.in-Err.ensures.reads in
    device_err config c.args.from.0.0 c.args.from.1 (c.loop-at.at / 512) next.result.count next.result.source c.args.chains c.requires.stack.sound.loaded run.some run.served inv.so_far _ c.in-Err.fault run.inside more

pub read_device-returns-clause-reads : goal.read_device-returns-clause-reads
read_device-returns-clause-reads g t c =
    let inv = c.loop-at.invariant in
    let all : c.loop-at.at / 512 ≡ length c.args.out.now / 512 = omega (arith, inv.within, c.loop-at-test.false, c.loop-at.auto.out) in
    same_reads c.args.config.now (mapped c.args.from.0.0) c.args.from.1 all (take_all c.loop-at.at c.loop-at.out (omega (arith, c.loop-at-test.false))) inv.so_far

pub read_lower-returns-in-Leaf-clause-reads : goal.read_lower-returns-in-Leaf-clause-reads
read_lower-returns-in-Leaf-clause-reads g t c =
    let config = c.args.config.now in
    let state = g.D.BlockDev.state in
    let n : ℕ = length c.args.out.now / 512 in
    let found = c.args.found.now.items in
    let devices = c.args.backing.now.devices in
    let answer : Result (List ℕ) IoFault = buffer_answer c.read_leaf.result c.read_leaf.new.out in
    let stands : (with_items devices c.read_leaf.new.devices).items ≡ c.read_leaf.new.devices =
    with_items_is devices c.read_leaf.new.devices (c.read_leaf.auto.devices ∙ ap (λ l. length l) c.as_mut_slice.ensures.value ∙ sym devices.ok.0) in
    let one = subst (λ ds. Gets (run_expected (place_of config (Leaf c.in-Leaf.leaf)) found c.args.from.1 n) (map state ds) (map state c.read_leaf.new.devices) answer) c.as_mut_slice.ensures.value (c.read_leaf.ensures.reads.got found) in
    subst (λ ds. ReadsAs c.args.chains config c.args.from.0 c.args.from.1 n (record { old = map state devices.items; new = map state ds; before = found; after = found }) answer) (sym stands)
    (subst (λ (x : Lower). ReadsAs c.args.chains config x c.args.from.1 n (record { old = map state devices.items; new = map state c.read_leaf.new.devices; before = found; after = found }) answer) (sym c.in-Leaf.is)
    (finds-none c.args.chains (leaf_of config c.in-Leaf.leaf c.args.from.1 n found c.requires.kept one)))

pub read_lower-returns-in-Device-clause-reads : goal.read_lower-returns-in-Device-clause-reads
read_lower-returns-in-Device-clause-reads g t c = rw c.in-Device.is c.read_device.ensures.reads

pub read_lower-returns-in-Leaf-clause-step : goal.read_lower-returns-in-Leaf-clause-step
read_lower-returns-in-Leaf-clause-step g t c =
    let config = c.args.config.now in
    let state = g.D.BlockDev.state in
    let n : ℕ = length c.args.out.now / 512 in
    let devices = c.args.backing.now.devices in
    let cache = c.args.backing.now.cache in
    let stands : (with_items devices c.read_leaf.new.devices).items ≡ c.read_leaf.new.devices =
    with_items_is devices c.read_leaf.new.devices (c.read_leaf.auto.devices ∙ ap (λ l. length l) c.as_mut_slice.ensures.value ∙ sym devices.ok.0) in
    subst (λ ds. IsReadStep config (run_beneath config c.args.from.0 c.args.from.1 n) (backing_of state c.args.backing.now) (record { leaves = map state ds; cache = cache; restored = c.args.backing.now.restored }) c.read_leaf.result) (sym stands)
    (subst (λ (x : Lower). IsReadStep config (run_beneath config x c.args.from.1 n) (backing_of state c.args.backing.now) (record { leaves = map state c.read_leaf.new.devices; cache = cache; restored = c.args.backing.now.restored }) c.read_leaf.result) (sym c.in-Leaf.is)
    (leaf-step (backing_of state c.args.backing.now) c.read_leaf.ensures.reads (ap (map state) c.as_mut_slice.ensures.value) c.requires.stack.cached))

pub read_lower-returns-in-Device-clause-step : goal.read_lower-returns-in-Device-clause-step
read_lower-returns-in-Device-clause-step g t c = rw c.in-Device.is c.read_device.ensures.step

pub read_run-returns-in-Below-clause-reads : goal.read_run-returns-in-Below-clause-reads
read_run-returns-in-Below-clause-reads g t c =
    let state = g.D.BlockDev.state in
    let did : LeafRead = record { old = map state c.args.backing.now.devices.items; new = map state c.read_lower.new.backing.devices.items; before = c.args.found.now.items; after = c.read_lower.new.found.items } in
    rw c.in-Below.is (finds-up c.read_lower.ensures.reads (λ after. below_of c.args.config.now c.in-Below.lower c.in-Below.first (length c.args.out.now / 512) (with_chains did after) (buffer_answer c.read_lower.result c.read_lower.new.out)))

pub read_run-returns-in-Fails-clause-reads : goal.read_run-returns-in-Fails-clause-reads
read_run-returns-in-Fails-clause-reads g t c =
    let old = map g.D.BlockDev.state c.args.backing.now.devices.items in
    let n : ℕ = length c.args.out.now / 512 in
    subst (λ (s : Source). ReadsSourceAs c.args.chains c.args.config.now s n (empty_read old c.args.found.now.items) (Err (Stack ErrorTarget))) (sym c.in-Fails.is)
    (finds-none c.args.chains (fails_of c.args.config.now n old c.args.found.now.items c.requires.kept (omega (arith, c.requires.fits.sectors.some, c.requires.fits.sectors.whole))))

pub read_run-returns-in-Zeros-clause-reads : goal.read_run-returns-in-Zeros-clause-reads
read_run-returns-in-Zeros-clause-reads g t c =
    let old = map g.D.BlockDev.state c.args.backing.now.devices.items in
    let n : ℕ = length c.args.out.now / 512 in
    let whole : length c.args.out.now ≡ 512 * n = omega (arith, c.requires.fits.sectors.whole) in
    subst (λ (s : Source). ReadsSourceAs c.args.chains c.args.config.now s n (empty_read old c.args.found.now.items) (Ok c.fill_zeros.new.out)) (sym c.in-Zeros.is)
    (finds-none c.args.chains (zeros_of c.args.config.now n old c.args.found.now.items c.fill_zeros.new.out c.requires.kept (c.fill_zeros.ensures ∙ ap (λ (k : ℕ). replicate k 0) whole)))

pub read_run-returns-in-Units-clause-reads : goal.read_run-returns-in-Units-clause-reads
read_run-returns-in-Units-clause-reads g t c = rw c.in-Units.is c.read_units.ensures.reads

pub read_run-returns-in-UnitPart-clause-reads : goal.read_run-returns-in-UnitPart-clause-reads
read_run-returns-in-UnitPart-clause-reads g t c = rw c.in-UnitPart.is c.read_unit_part.ensures.reads

-- ---- units of crypt lines

pub read_units-unit_at-unit-requires : goal.read_units-unit_at-unit-requires
read_units-unit_at-unit-requires g t c = let small = size-small c.args.config.now c.args.part.lower c.requires.stack.sound.loaded in omega (arith, small, c.requires.fits.holds.inside)

pub read_units-read_lower-requires : goal.read_units-read_lower-requires
read_units-read_lower-requires g t c κs within = (
  omega arith,
  (within, record { stack = c.requires.stack; kept = c.requires.kept; fits = record { sectors = c.requires.fits.sectors; holds = omega (arith, c.requires.fits.holds.inside, c.unit_at-unit.ensures.first) }; can_go = tt }),
)

pub read_units-decrypt-requires-clause-fits : goal.read_units-decrypt-requires-clause-fits
read_units-decrypt-requires-clause-fits g t c =
    omega (arith, c.requires.fits.holds.small, c.unit_at-unit.ensures.index, c.requires.fits.sectors.whole, c.read_lower.auto.out)

pub read_units-decrypt-requires-clause-whole : goal.read_units-decrypt-requires-clause-whole
read_units-decrypt-requires-clause-whole g t c = units-bytes c.args.config.now c.args.part _ _ c.requires.fits.holds (omega (arith, c.read_lower.auto.out, c.requires.fits.sectors.whole))

pub read_units-returns-in-Ok-clause-reads : goal.read_units-returns-in-Ok-clause-reads
read_units-returns-in-Ok-clause-reads g t c =
    let config = c.args.config.now in
    let state = g.D.BlockDev.state in
    let x = c.args.part in
    let n : ℕ = length c.args.out.now / 512 in
    let did : LeafRead = record { old = map state c.args.backing.now.devices.items; new = map state c.read_lower.new.backing.devices.items; before = c.args.found.now.items; after = c.read_lower.new.found.items } in
    subst (λ (b : List ℕ). ReadsSourceAs c.args.chains config (Units x) n did (Ok b)) (sym (c.decrypt.ensures ∙ ap (λ (k : ℕ). decrypted_units x.units x.key.now k c.read_lower.new.out) c.unit_at-unit.ensures.index))
    (finds-up (subst (λ (k : ℕ). ReadsAs c.args.chains config x.lower k n did (Ok c.read_lower.new.out)) c.unit_at-unit.ensures.first c.in-Ok.ensures.reads)
    (λ after. units-read config x n c.requires.stack.sound.loaded c.requires.fits.holds (with_chains did after) (all-whole state g.met.D.BlockDev.whole c.args.backing.now.devices.items) c.read_lower.new.out))

pub read_units-returns-in-Err-clause-reads : goal.read_units-returns-in-Err-clause-reads
read_units-returns-in-Err-clause-reads g t c =
    let config = c.args.config.now in
    let state = g.D.BlockDev.state in
    let x = c.args.part in
    let n : ℕ = length c.args.out.now / 512 in
    let did : LeafRead = record { old = map state c.args.backing.now.devices.items; new = map state c.read_lower.new.backing.devices.items; before = c.args.found.now.items; after = c.read_lower.new.found.items } in
    finds-up (subst (λ (k : ℕ). ReadsAs c.args.chains config x.lower k n did (Err c.in-Err.fault)) c.unit_at-unit.ensures.first c.in-Err.ensures.reads)
    (λ after. units-failed config x n c.requires.stack.sound.loaded c.requires.fits.holds (with_chains did after) (all-whole state g.met.D.BlockDev.whole c.args.backing.now.devices.items) c.in-Err.fault)

pub read_units-returns-in-Ok-clause-step : goal.read_units-returns-in-Ok-clause-step
read_units-returns-in-Ok-clause-step g t c = units-step c.args.part c.unit_at-unit.result.first (length c.args.out.now / 512) c.requires.fits.holds c.unit_at-unit.ensures.first c.in-Ok.ensures.reads.reads.got.moved c.in-Ok.ensures.step

pub read_units-returns-in-Err-clause-step : goal.read_units-returns-in-Err-clause-step
read_units-returns-in-Err-clause-step g t c = units-step c.args.part c.unit_at-unit.result.first (length c.args.out.now / 512) c.requires.fits.holds c.unit_at-unit.ensures.first c.in-Err.ensures.reads.reads.got.moved c.in-Err.ensures.step

-- ---- part of a unit

pub read_unit_part-read_units-requires : goal.read_unit_part-read_units-requires
read_unit_part-read_units-requires g t c κs within =
    let config = c.args.config.now in
    let x = c.args.part in
    let n : ℕ = length c.args.out.now / 512 in
    let whole = c.whole_unit-whole in
    let units = whole-units config x whole.result n whole.ensures.whole c.requires.fits.holds (omega (arith, c.requires.fits.sectors.some, c.requires.fits.sectors.whole)) in
    let same : depth config whole.result.from.lower ≡ depth config x.lower = ap (λ (y : CryptPart). depth config y.lower) whole.ensures.whole.from in
    let room : length c.as_mut_slice-all.result.now ≡ 4096 = ap (λ (l : List ℕ). length l) c.as_mut_slice-all.ensures.value in
    let size : length (take (whole.result.sectors * 512) c.as_mut_slice-all.result.now) ≡ whole.result.sectors * 512 = omega (arith, room, whole.ensures.few, length-take (whole.result.sectors * 512) c.as_mut_slice-all.result.now) in
    let count : length (take (whole.result.sectors * 512) c.as_mut_slice-all.result.now) / 512 ≡ whole.result.sectors = omega (arith, size) in (
      omega (arith, same),
      (
        within,
        record {
          stack = c.requires.stack;
          kept = c.requires.kept;
          fits = record { sectors = record { some = omega (arith, size, whole.ensures.some); whole = omega (arith, size) }; holds = subst (AreUnits config whole.result.from) (sym count) units };
          can_go = tt;
        },
      ),
    )

pub read_unit_part-take_sectors-requires : goal.read_unit_part-take_sectors-requires
read_unit_part-take_sectors-requires g t c =
    let whole = c.whole_unit-whole in
    let of = whole.ensures.whole in
    let room : length c.as_mut_slice-all.result.now ≡ 4096 = ap (λ (l : List ℕ). length l) c.as_mut_slice-all.ensures.value in
    omega (arith, c.requires.fits.holds.within, of.within, of.sectors, c.requires.fits.sectors.whole, room, whole.ensures.few, c.read_units.auto.out, length-take (whole.result.sectors * 512) c.as_mut_slice-all.result.now)

pub read_unit_part-returns-in-Ok-clause-reads : goal.read_unit_part-returns-in-Ok-clause-reads
read_unit_part-returns-in-Ok-clause-reads g t c =
    let config = c.args.config.now in
    let state = g.D.BlockDev.state in
    let x = c.args.part in
    let n : ℕ = length c.args.out.now / 512 in
    let whole = c.whole_unit-whole in
    let of = whole.ensures.whole in
    let count = room_sectors c.as_mut_slice-all.result.now whole.result.sectors (ap (λ (l : List ℕ). length l) c.as_mut_slice-all.ensures.value) whole.ensures.few in
    let did : LeafRead = record { old = map state c.args.backing.now.devices.items; new = map state c.read_units.new.backing.devices.items; before = c.args.found.now.items; after = c.read_units.new.found.items } in
    let one = subst (λ (k : ℕ). ReadsSourceAs c.args.chains config (Units whole.result.from) k did (Ok c.read_units.new.out)) count c.in-Ok.ensures.reads in
    let len : length c.args.out.now ≡ 512 * n = omega (arith, c.requires.fits.sectors.whole) in
    let is : c.take_sectors.new.out ≡ take (512 * n) (drop (512 * (x.first % per_unit x.units)) c.read_units.new.out) =
    c.take_sectors.ensures ∙ ap (λ (k : ℕ). take k (drop (512 * whole.result.within) c.read_units.new.out)) len ∙ ap (λ (k : ℕ). take (512 * n) (drop (512 * k) c.read_units.new.out)) of.within in
    subst (λ (b : List ℕ). ReadsSourceAs c.args.chains config (UnitPart x) n did (Ok b)) (sym is)
    (finds-up one (λ after. part-read config x whole.result n of c.requires.fits.holds (omega (arith, c.requires.fits.sectors.some, c.requires.fits.sectors.whole)) c.requires.stack.sound.loaded (with_chains did after) (all-whole state g.met.D.BlockDev.whole c.args.backing.now.devices.items) c.read_units.new.out))

pub read_unit_part-returns-in-Err-clause-reads : goal.read_unit_part-returns-in-Err-clause-reads
read_unit_part-returns-in-Err-clause-reads g t c =
    let config = c.args.config.now in
    let state = g.D.BlockDev.state in
    let x = c.args.part in
    let n : ℕ = length c.args.out.now / 512 in
    let whole = c.whole_unit-whole in
    let count = room_sectors c.as_mut_slice-all.result.now whole.result.sectors (ap (λ (l : List ℕ). length l) c.as_mut_slice-all.ensures.value) whole.ensures.few in
    let did : LeafRead = record { old = map state c.args.backing.now.devices.items; new = map state c.read_units.new.backing.devices.items; before = c.args.found.now.items; after = c.read_units.new.found.items } in
    finds-up (subst (λ (k : ℕ). ReadsSourceAs c.args.chains config (Units whole.result.from) k did (Err c.in-Err.fault)) count c.in-Err.ensures.reads)
    (λ after. part-failed config x whole.result n whole.ensures.whole c.requires.fits.holds (omega (arith, c.requires.fits.sectors.some, c.requires.fits.sectors.whole)) c.requires.stack.sound.loaded (with_chains did after) (all-whole state g.met.D.BlockDev.whole c.args.backing.now.devices.items) c.in-Err.fault)

pub read_unit_part-returns-in-Ok-clause-step : goal.read_unit_part-returns-in-Ok-clause-step
read_unit_part-returns-in-Ok-clause-step g t c =
    let whole = c.whole_unit-whole in
    let count = room_sectors c.as_mut_slice-all.result.now whole.result.sectors (ap (λ (l : List ℕ). length l) c.as_mut_slice-all.ensures.value) whole.ensures.few in
    part-step c.args.part whole.result (length c.args.out.now / 512) _ whole.ensures.whole c.requires.fits.holds (omega (arith, c.requires.fits.sectors.some, c.requires.fits.sectors.whole)) count c.in-Ok.ensures.step

pub read_unit_part-returns-in-Err-clause-step : goal.read_unit_part-returns-in-Err-clause-step
read_unit_part-returns-in-Err-clause-step g t c =
    let whole = c.whole_unit-whole in
    let count = room_sectors c.as_mut_slice-all.result.now whole.result.sectors (ap (λ (l : List ℕ). length l) c.as_mut_slice-all.ensures.value) whole.ensures.few in
    part-step c.args.part whole.result (length c.args.out.now / 512) _ whole.ensures.whole c.requires.fits.holds (omega (arith, c.requires.fits.sectors.some, c.requires.fits.sectors.whole)) count c.in-Err.ensures.step

-- ---- data blocks of verity lines

abbrev any_found : FoundRecord
any_found = record { device = 0; line = 0; chain = record { index = 0; content = []; path = [] } }

pub read_run-returns-in-Block-clause-reads : goal.read_run-returns-in-Block-clause-reads
read_run-returns-in-Block-clause-reads g t c = rw c.in-Block.is c.read_block.ensures.reads

pub read_block-copy_part-requires-clause-inside : goal.read_block-copy_part-requires-clause-inside
read_block-copy_part-requires-clause-inside g t c =
    λ x.
    let v = c.args.part.verity.now in
    let p = c.args.part in
    let found = c.args.found.now.items in
    let b = block-at c.requires in
    let sectors : c.from-sectors.result ≡ block_sectors v = c.from-sectors.ensures in
    let there : c.in-Some.at < length found = omega (arith, c.in-Some.ensures.some.0, ap (λ (l : List FoundRecord). length l) c.as_slice.ensures.value) in
    let at : found_entry (get_or found c.in-Some.at x) ≡ (p.device.0, p.line, p.first / block_sectors v) =
    ap (λ (l : List FoundRecord). found_entry (get_or l c.in-Some.at x)) (sym c.as_slice.ensures.value) ∙ c.in-Some.ensures.some.1 x ∙ ap (λ (k : ℕ). (p.device.0, p.line, p.first / k)) sectors in
    let len = kept_length c.args.config.now (map g.D.BlockDev.state c.args.backing.now.devices.items) p.device.0 p.line (p.first / block_sectors v) v found c.in-Some.at x b.line c.requires.kept there at in
    let same : length ((get_or c.as_slice-in-Some.result.now c.in-Some.at x).chain.content) ≡ v.data_block = ap (λ (l : List FoundRecord). length ((get_or l c.in-Some.at x).chain.content)) c.as_slice-in-Some.ensures.value ∙ len in
    let room = part-room v p.first c.from-sectors.result (length c.args.out.now) sectors b.size.whole b.within c.requires.fits.sectors.whole in
    omega (arith, same, room)

pub read_block-walk-requires : goal.read_block-walk-requires
read_block-walk-requires g t c κs within =
    let v = c.args.part.verity.now in
    let config = c.args.config.now in
    let depths : depth config (mapped c.tree_of-tree.result.device.0) ≡ depth config (mapped c.args.part.device.0) = ap (λ (x : DevId). depth config (mapped x.0)) c.tree_of-tree.ensures.device in
    let b = block-at c.requires in
    let index : c.args.part.first / c.from-sectors.result < v.blocks = subst (λ (k : ℕ). c.args.part.first / k < v.blocks) (sym c.from-sectors.ensures) b.there in
    (omega (arith, depths), (within, (c.requires.stack, record { lies = c.tree_of-tree.ensures.tree; there = index })))

pub read_block-copy_part-requires-in-Ok-push-clause-inside : goal.read_block-copy_part-requires-in-Ok-push-clause-inside
read_block-copy_part-requires-in-Ok-push-clause-inside g t c =
    λ x.
    let v = c.args.part.verity.now in
    let p = c.args.part in
    let found = c.args.found.now.items in
    let b = block-at c.requires in
    let one : FoundRecord = record { device = p.device.0; line = p.line; chain = c.in-Ok.chain } in
    let value : c.as_slice-in-Ok-push.result.now ≡ found ++ (one ∷ []) = c.as_slice-in-Ok-push.ensures.value ∙ c.in-Ok-push.ensures.ok in
    let at : c.len-at.result ≡ length found = c.len-at.ensures ∙ c.args.found.now.ok.0 in
    let here : get_or c.as_slice-in-Ok-push.result.now c.len-at.result x ≡ one = ap (λ (l : List FoundRecord). get_or l c.len-at.result x) value ∙ ap (λ (k : ℕ). get_or (found ++ (one ∷ [])) k x) at ∙ get_or-append_seam found one [] x in
    let len : length ((get_or c.as_slice-in-Ok-push.result.now c.len-at.result x).chain.content) ≡ v.data_block = ap (λ (y : FoundRecord). length y.chain.content) here ∙ length-content v one.chain c.in-Ok.ensures.reads.may.1 in
    let room = part-room v p.first c.from-sectors.result (length c.args.out.now) c.from-sectors.ensures b.size.whole b.within c.requires.fits.sectors.whole in
    omega (arith, len, room)

pub read_block-returns-in-Some-clause-reads : goal.read_block-returns-in-Some-clause-reads
read_block-returns-in-Some-clause-reads g t c =
    let v = c.args.part.verity.now in
    let p = c.args.part in
    let n : ℕ = length c.args.out.now / 512 in
    let found = c.args.found.now.items in
    let sectors : c.from-sectors.result ≡ block_sectors v = c.from-sectors.ensures in
    let x = get_or found c.in-Some.at any_found in
    let there : c.in-Some.at < length found = omega (arith, c.in-Some.ensures.some.0, ap (λ (l : List FoundRecord). length l) c.as_slice.ensures.value) in
    let at : found_entry x ≡ (p.device.0, p.line, p.first / block_sectors v) =
    ap (λ (l : List FoundRecord). found_entry (get_or l c.in-Some.at any_found)) (sym c.as_slice.ensures.value) ∙ c.in-Some.ensures.some.1 any_found ∙ ap (λ (k : ℕ). (p.device.0, p.line, p.first / k)) sectors in
    let len : length c.args.out.now ≡ 512 * n = omega (arith, c.requires.fits.sectors.whole) in
    let is : c.copy_part.new.out ≡ take (512 * n) (drop (512 * (p.first % block_sectors v)) x.chain.content) =
    c.copy_part.ensures any_found
    ∙ ap (λ (l : List FoundRecord). take (length c.args.out.now) (drop (512 * (p.first % c.from-sectors.result)) ((get_or l c.in-Some.at any_found).chain.content))) c.as_slice-in-Some.ensures.value
    ∙ ap (λ (k : ℕ). take k (drop (512 * (p.first % c.from-sectors.result)) x.chain.content)) len
    ∙ ap (λ (k : ℕ). take (512 * n) (drop (512 * (p.first % k)) x.chain.content)) sectors in
    finds-none c.args.chains (part_found (block-at c.requires) _ found x at (contains_at found c.in-Some.at any_found there) c.requires.kept is)

pub read_block-returns-in-Err-clause-reads : goal.read_block-returns-in-Err-clause-reads
read_block-returns-in-Err-clause-reads g t c =
    let v = c.args.part.verity.now in
    let p = c.args.part in
    let q = subst (λ (k : ℕ). GetsChain (block_in c.args.config.now v (p.first / k)) (map g.D.BlockDev.state c.args.backing.now.devices.items) (map g.D.BlockDev.state c.walk.new.backing.devices.items) (Err c.in-Err.fault)) c.from-sectors.ensures c.in-Err.ensures.reads in
    finds-none c.args.chains (part_err (block-at c.requires) c.args.found.now.items c.in-Err.fault c.requires.kept q)

pub read_block-returns-in-Err-push-clause-reads : goal.read_block-returns-in-Err-push-clause-reads
read_block-returns-in-Err-push-clause-reads g t c =
    let v = c.args.part.verity.now in
    let p = c.args.part in
    let n : ℕ = length c.args.out.now / 512 in
    let config = c.args.config.now in
    let old = map g.D.BlockDev.state c.args.backing.now.devices.items in
    let new = map g.D.BlockDev.state c.walk.new.backing.devices.items in
    let found = c.args.found.now.items in
    let b = block-at c.requires in
    let sectors : c.from-sectors.result ≡ block_sectors v = c.from-sectors.ensures in
    let q = subst (λ (k : ℕ). GetsChain (block_in config v (p.first / k)) old new (Ok c.in-Ok.chain)) sectors c.in-Ok.ensures.reads in
    let Does : List FoundRecord → Result (List ℕ) IoFault → Type 0 = λ u r. ReadsSourceAs c.args.chains config (Block p) n (record { old = old; new = new; before = found; after = u }) r in
    subst (λ (u : List FoundRecord). Does u (Err NoMemory)) (sym c.in-Err-push.ensures.same) (finds-none c.args.chains (part_full b (1, omega arith, c.in-Err-push.ensures.err.1) found c.in-Ok.chain c.requires.kept q))

pub read_block-returns-in-Ok-push-clause-reads : goal.read_block-returns-in-Ok-push-clause-reads
read_block-returns-in-Ok-push-clause-reads g t c =
    let v = c.args.part.verity.now in
    let p = c.args.part in
    let n : ℕ = length c.args.out.now / 512 in
    let config = c.args.config.now in
    let old = map g.D.BlockDev.state c.args.backing.now.devices.items in
    let new = map g.D.BlockDev.state c.walk.new.backing.devices.items in
    let found = c.args.found.now.items in
    let b = block-at c.requires in
    let sectors : c.from-sectors.result ≡ block_sectors v = c.from-sectors.ensures in
    let q = subst (λ (k : ℕ). GetsChain (block_in config v (p.first / k)) old new (Ok c.in-Ok.chain)) sectors c.in-Ok.ensures.reads in
    let one : FoundRecord = record { device = p.device.0; line = p.line; chain = c.in-Ok.chain } in
    let items : c.push.new.v.items ≡ found ++ (one ∷ []) = c.in-Ok-push.ensures.ok in
    let value : c.as_slice-in-Ok-push.result.now ≡ found ++ (one ∷ []) = c.as_slice-in-Ok-push.ensures.value ∙ items in
    let at : c.len-at.result ≡ length found = c.len-at.ensures ∙ c.args.found.now.ok.0 in
    let here : get_or c.as_slice-in-Ok-push.result.now c.len-at.result any_found ≡ one =
    ap (λ (l : List FoundRecord). get_or l c.len-at.result any_found) value ∙ ap (λ (k : ℕ). get_or (found ++ (one ∷ [])) k any_found) at ∙ get_or-append_seam found one [] any_found in
    let len : length c.args.out.now ≡ 512 * n = omega (arith, c.requires.fits.sectors.whole) in
    let is : c.copy_part-in-Ok-push.new.out ≡ take (512 * n) (drop (512 * (p.first % block_sectors v)) c.in-Ok.chain.content) =
    c.copy_part-in-Ok-push.ensures any_found
    ∙ ap (λ (y : FoundRecord). take (length c.args.out.now) (drop (512 * (p.first % c.from-sectors.result)) y.chain.content)) here
    ∙ ap (λ (k : ℕ). take k (drop (512 * (p.first % c.from-sectors.result)) c.in-Ok.chain.content)) len
    ∙ ap (λ (k : ℕ). take (512 * n) (drop (512 * (p.first % k)) c.in-Ok.chain.content)) sectors in
    let front : take c.len-at.result c.push.new.v.items ≡ found = ap (take c.len-at.result) items ∙ ap (λ (k : ℕ). take k (found ++ (one ∷ []))) at ∙ take-append_seam found (one ∷ []) in
    let out = subst (λ (l : List FoundRecord). AreHandedOut c.args.chains l (found ++ (one ∷ [])) c.hand_out.new.found.items) front (subst (λ (l : List FoundRecord). AreHandedOut c.args.chains (take c.len-at.result c.push.new.v.items) l c.hand_out.new.found.items) items c.hand_out.ensures) in
    finds-as c.args.chains (part_walked b found c.in-Ok.chain c.requires.kept q is) out
    (distinct-push found one (λ k h y same. c.in-None.ensures.none k (omega (arith, h, ap (λ (l : List FoundRecord). length l) c.as_slice.ensures.value)) y
    (ap (λ (l : List FoundRecord). found_entry (get_or l k y)) c.as_slice.ensures.value ∙ same ∙ ap (λ (i : ℕ). (p.device.0, p.line, i)) q.may.0 ∙ ap (λ (k : ℕ). (p.device.0, p.line, p.first / k)) (sym sectors))))

pub read_block-hand_out-requires : goal.read_block-hand_out-requires
read_block-hand_out-requires g t c =
    let one : FoundRecord = record { device = c.args.part.device.0; line = c.args.part.line; chain = c.in-Ok.chain } in
    omega (arith, c.len-at.ensures, c.args.found.now.ok.0, ap (λ (l : List FoundRecord). length l) c.in-Ok-push.ensures.ok, length-append c.args.found.now.items (one ∷ []))

pub read_block-returns-in-Some-clause-step : goal.read_block-returns-in-Some-clause-step
read_block-returns-in-Some-clause-step g t c =
    let config = c.args.config.now in
    let leaves = map g.D.BlockDev.state c.args.backing.now.devices.items in
    let meets = block-meets config c.args.part (length c.args.out.now / 512) (omega (arith, c.requires.fits.sectors.some, c.requires.fits.sectors.whole)) in
    step-none c.requires.stack.cached (met meets) (asks-none _ (leaves_of config (mapped c.args.part.device.0)) leaves (Ok tt) tt refl)

pub read_block-returns-in-Err-clause-step : goal.read_block-returns-in-Err-clause-step
read_block-returns-in-Err-clause-step g t c =
    let config = c.args.config.now in
    let b = block-at c.requires in
    let walked = asks-up (same-within config c.tree_of-tree.ensures.device) c.in-Err.ensures.touches in
    step-met (block-meets config c.args.part (length c.args.out.now / 512) b.some) c.in-Err.ensures.cached (asks-as (Err c.in-Err.fault) walked.fault (λ failures. refl) walked) (block-spent (c.args.part.first / c.from-sectors.result) b c.in-Err.ensures.reads.moved)

pub read_block-returns-in-Err-push-clause-step : goal.read_block-returns-in-Err-push-clause-step
read_block-returns-in-Err-push-clause-step g t c =
    let config = c.args.config.now in
    let b = block-at c.requires in
    step-met (block-meets config c.args.part (length c.args.out.now / 512) b.some) c.in-Ok.ensures.cached
    (asks-as (Err NoMemory) tt (λ failures. refl) (asks-up (same-within config c.tree_of-tree.ensures.device) c.in-Ok.ensures.touches)) (block-spent (c.args.part.first / c.from-sectors.result) b c.in-Ok.ensures.reads.moved)

pub read_block-returns-in-Ok-push-clause-step : goal.read_block-returns-in-Ok-push-clause-step
read_block-returns-in-Ok-push-clause-step g t c =
    let config = c.args.config.now in
    let b = block-at c.requires in
    step-met (block-meets config c.args.part (length c.args.out.now / 512) b.some) c.in-Ok.ensures.cached
    (asks-as (Ok tt) tt (λ failures. refl) (asks-up (same-within config c.tree_of-tree.ensures.device) c.in-Ok.ensures.touches)) (block-spent (c.args.part.first / c.from-sectors.result) b c.in-Ok.ensures.reads.moved)

-- ---- one block that is checked

pub read_checked-zero_sectors-requires : goal.read_checked-zero_sectors-requires
read_checked-zero_sectors-requires g t c = omega (arith, c.requires.lies.few)

pub read_checked-returns-in-Err-read_lower-clause-reads : goal.read_checked-returns-in-Err-read_lower-clause-reads
read_checked-returns-in-Err-read_lower-clause-reads g t c =
    let e = c.args.extent in
    let state = g.D.BlockDev.state in
    let block = c.in-Ok.block in
    let out = c.read_lower.new.out in
    let fault = c.in-Err-read_lower.fault in
    let held : length out ≡ block.len = c.read_lower.auto.out ∙ ap (λ (l : List ℕ). length l) c.as_mut_slice.ensures.value ∙ sym block.ok.0 in
    let size : block.len ≡ e.sectors * 512 = c.in-Ok.ensures.ok in
    let count : length c.as_mut_slice.result.now / 512 ≡ e.sectors = omega (arith, held, size, c.read_lower.auto.out) in
    let got = subst (λ (k : ℕ). ReadsAs Kept c.args.config.now e.lower e.first k (record { old = map state c.args.backing.now.devices.items; new = map state c.read_lower.new.backing.devices.items; before = c.new-beneath.result.items; after = c.read_lower.new.found.items }) (Err fault)) count c.in-Err-read_lower.ensures.reads in
    checked_err bytes (place_of c.args.config.now e.lower) e.first e.sectors c.args.salt.now c.args.expected.now got.after fault got.reads.got

pub read_checked-returns-then-eq-clause-reads : goal.read_checked-returns-then-eq-clause-reads
read_checked-returns-then-eq-clause-reads g t c =
    let e = c.args.extent in
    let state = g.D.BlockDev.state in
    let block = c.in-Ok.block in
    let out = c.read_lower.new.out in
    let held : length out ≡ block.len = c.read_lower.auto.out ∙ ap (λ (l : List ℕ). length l) c.as_mut_slice.ensures.value ∙ sym block.ok.0 in
    let items : bytes (with_items block out) ≡ out = with_items_is block out held in
    let size : block.len ≡ e.sectors * 512 = c.in-Ok.ensures.ok in
    let value : c.as_slice.result.now ≡ out = c.as_slice.ensures.value ∙ items in
    let good : c.digest.result ≡ c.args.expected.now = (bytes_eq-Decides c.digest.result c.args.expected.now).0 (sym c.eq.ensures ∙ c.if-eq.true) in
    let count : length c.as_mut_slice.result.now / 512 ≡ e.sectors = omega (arith, held, size, c.read_lower.auto.out) in
    let got = subst (λ (k : ℕ). ReadsAs Kept c.args.config.now e.lower e.first k (record { old = map state c.args.backing.now.devices.items; new = map state c.read_lower.new.backing.devices.items; before = c.new-beneath.result.items; after = c.read_lower.new.found.items }) (Ok out)) count c.in-Ok-read_lower.ensures.reads in
    checked_ok bytes (place_of c.args.config.now e.lower) e.first e.sectors c.args.salt.now c.args.expected.now got.after (with_items block out) items
    (ap (digest c.args.salt.now) (sym value) ∙ sym c.digest.ensures ∙ good) got.reads.got

pub read_checked-returns-else-eq-clause-reads : goal.read_checked-returns-else-eq-clause-reads
read_checked-returns-else-eq-clause-reads g t c =
    let e = c.args.extent in
    let state = g.D.BlockDev.state in
    let block = c.in-Ok.block in
    let out = c.read_lower.new.out in
    let held : length out ≡ block.len = c.read_lower.auto.out ∙ ap (λ (l : List ℕ). length l) c.as_mut_slice.ensures.value ∙ sym block.ok.0 in
    let value : c.as_slice.result.now ≡ out = c.as_slice.ensures.value ∙ with_items_is block out held in
    let count : length c.as_mut_slice.result.now / 512 ≡ e.sectors = omega (arith, held, c.in-Ok.ensures.ok, c.read_lower.auto.out) in
    let other : digest c.args.salt.now out ≡ c.args.expected.now → ⊥ = λ same.
    let made : c.digest.result ≡ c.args.expected.now = c.digest.ensures ∙ ap (digest c.args.salt.now) value ∙ same in
    let clash : false ≡ true = sym c.if-eq.false ∙ c.eq.ensures ∙ (bytes_eq-Decides c.digest.result c.args.expected.now).1 made in
    cc in
    let got = subst (λ (k : ℕ). ReadsAs Kept c.args.config.now e.lower e.first k (record { old = map state c.args.backing.now.devices.items; new = map state c.read_lower.new.backing.devices.items; before = c.new-beneath.result.items; after = c.read_lower.new.found.items }) (Ok out)) count c.in-Ok-read_lower.ensures.reads in
    checked_differs bytes (place_of c.args.config.now e.lower) e.first e.sectors c.args.salt.now c.args.expected.now got.after other got.reads.got

-- ---- the walk

pub way_block-hash_key-key-requires : goal.way_block-hash_key-key-requires
way_block-hash_key-key-requires g t c = subst (λ (k : ℕ). c.args.wanted.now.block < k) (sym (ap (λ (s : ShapeRecord). s.blocks) c.requires.block.lies.shape_is)) c.requires.block.there

pub walk-way_block-requires : goal.walk-way_block-requires
walk-way_block-requires g t c κs within =
    let config = c.args.config.now in
    let low : c.loop-level.level - 1 < levels (tree_of c.args.verity.now) = omega (arith, c.loop-level.invariant.walked.count, c.loop-level-test.true) in
    (omega arith, (within, (stack-later config c.loop-level.invariant.walked.moved.moved.fixed c.requires.stack c.loop-level.invariant.cached, (c.requires.block, low))))

pub walk-returns-in-Err-clause-reads : goal.walk-returns-in-Err-clause-reads
walk-returns-in-Err-clause-reads g t c = hash_failed c.args.config.now c.args.verity.now c.args.tree.now c.args.index c.requires.stack.sound.loaded c.requires.block.lies c.loop-level.level (c.loop-level.level - 1) (omega (arith, c.loop-level-test.true)) c.loop-level.invariant.walked c.in-Err.first c.in-Err.ensures.reads

pub walk-digest_in-expected-requires : goal.walk-digest_in-expected-requires
walk-digest_in-expected-requires g t c =
    let v = c.args.verity.now in
    let tree = c.args.tree.now in
    let is = c.requires.block.lies in
    let size = hash-whole c.args.config.now tree.device.0 tree.line v c.requires.stack.sound.loaded is.is in
    let len : length c.as_slice.result.now ≡ 512 * hash_sectors v = ap (λ (l : List ℕ). length l) c.as_slice.ensures.value ∙ c.in-Ok.ensures.reads.may.0 in
    let block : tree.shape.hash_block ≡ v.hash_block = ap (λ (t : ShapeRecord). t.hash_block) is.shape_is in
    omega (arith, len, size.whole, block, c.slot_on_path.ensures.inside)

pub walk-returns-in-Err-push-clause-reads : goal.walk-returns-in-Err-push-clause-reads
walk-returns-in-Err-push-clause-reads g t c =
    walk_full (block_in c.args.config.now c.args.verity.now c.args.index) (c.loop-level.level - 1) (1, omega arith, c.in-Err-push.ensures.err.1)
    (hash_read c.args.config.now c.args.verity.now c.args.tree.now c.args.index c.requires.stack.sound.loaded c.requires.block.lies c.loop-level.level (c.loop-level.level - 1) (omega (arith, c.loop-level-test.true)) c.loop-level.invariant.walked c.in-Ok.block c.in-Ok.ensures.reads)

pub walk-loop-level-preserved : goal.walk-loop-level-preserved
walk-loop-level-preserved g t c =
    let v = c.args.verity.now in
    let tree = c.args.tree.now in
    let index : ℕ = c.args.index in
    let state = g.D.BlockDev.state in
    let b = block_in c.args.config.now v index in
    let level : ℕ = c.loop-level.level - 1 in
    let path = map bytes c.loop-level.path.items in
    let old = map state c.args.backing.now.devices.items in
    let new = map state c.way_block.new.backing.devices.items in
    let block = c.in-Ok.block in
    let down = hash_read c.args.config.now c.args.verity.now c.args.tree.now c.args.index c.requires.stack.sound.loaded c.requires.block.lies c.loop-level.level (c.loop-level.level - 1) (omega (arith, c.loop-level-test.true)) c.loop-level.invariant.walked block c.in-Ok.ensures.reads in
    let expected : c.digest_in-expected.result ≡ next_digest v level index block.items =
    c.digest_in-expected.ensures ∙ ap (λ (b : List ℕ). digest_in b c.slot_on_path.result) c.as_slice.ensures.value
    ∙ ap (digest_in block.items) (c.slot_on_path.ensures.value ∙ ap (λ (t : ShapeRecord). slot t (ancestor t level index)) c.requires.block.lies.shape_is) in
    let longer : map bytes c.push.new.v.items ≡ path ++ (block.items ∷ []) = ap (map bytes) c.in-Ok-push.ensures.ok ∙ map-append bytes c.loop-level.path.items (block ∷ []) in
    record {
      walked = subst (λ (p : List (List ℕ)). IsWalked b level c.digest_in-expected.result p old new) (sym longer)
          (subst (λ (e : List ℕ). IsWalked b level e (path ++ (block.items ∷ [])) old new) (sym expected) down);
      cached = record { capacity = c.in-Ok.ensures.cached.capacity ∙ c.loop-level.invariant.cached.capacity; sound = c.in-Ok.ensures.cached.sound };
      touches = asks-then c.loop-level.invariant.touches (asks-as (Ok tt) tt (λ failures. refl) c.in-Ok.ensures.touches);
      given = (
        block.items,
        subst (λ (e : List ℕ). LeadsTo (DeviceDoes g.D.BlockDev.state g.D.BlockDev.does) c.args.config.now (whole_data (place_in v tree index) (one_asked c.args.part)) (data_of (place_in v tree index) level e block.items (one_asked c.args.part)) (served c.args.backing.now) (served c.way_block.new.backing)) (sym expected)
            (way-led c.loop-level.level (c.loop-level.level - 1) block.items (omega (arith, c.loop-level-test.true)) c.loop-level.invariant.given.1 c.in-Ok.ensures.given),
      );
    }

pub walk-read_data-requires : goal.walk-read_data-requires
walk-read_data-requires g t c κs within =
    (omega arith, (within, (stack-later c.args.config.now c.loop-level.invariant.walked.moved.moved.fixed c.requires.stack c.loop-level.invariant.cached, c.requires.block)))

pub walk-returns-in-Err-read_data-clause-reads : goal.walk-returns-in-Err-read_data-clause-reads
walk-returns-in-Err-read_data-clause-reads g t c =
    data_failed c.args.config.now c.args.verity.now c.args.tree.now c.args.index c.requires.stack.sound.loaded c.requires.block.lies c.loop-level.level (omega (arith, c.loop-level-test.false)) c.loop-level.invariant.walked c.in-Err-read_data.fault c.in-Err-read_data.ensures.reads

pub walk-returns-in-Ok-read_data-clause-reads : goal.walk-returns-in-Ok-read_data-clause-reads
walk-returns-in-Ok-read_data-clause-reads g t c =
    data_had c.args.config.now c.args.verity.now c.args.tree.now c.args.index c.requires.stack.sound.loaded c.requires.block.lies c.loop-level.level (omega (arith, c.loop-level-test.false)) c.loop-level.invariant.walked c.in-Ok-read_data.content c.requires.block.there c.in-Ok-read_data.ensures.reads

-- ---- the data block

pub read_data-zero_block-requires : goal.read_data-zero_block-requires
read_data-zero_block-requires g t c =
    let tree = c.args.tree.now in
    let size = data-whole c.args.config.now tree.device.0 tree.line c.args.verity.now c.requires.stack.sound.loaded c.requires.block.lies.is in
    omega (arith, size.whole, size.most)

pub read_data-returns-in-Ok-clause-reads : goal.read_data-returns-in-Ok-clause-reads
read_data-returns-in-Ok-clause-reads g t c =
    let v = c.args.verity.now in
    let config = c.args.config.now in
    let tree = c.args.tree.now in
    let size = data-whole config tree.device.0 tree.line v c.requires.stack.sound.loaded c.requires.block.lies.is in
    data_zeros bytes (block_in config v c.args.wanted.now.block) c.args.wanted.now.digest (map g.D.BlockDev.state c.args.backing.now.devices.items) c.in-Ok.block size.whole (sym c.is_ignored.ensures ∙ c.if-is_ignored.true) c.in-Ok.ensures.ok

pub read_data-returns-in-Err-kept_data-clause-reads : goal.read_data-returns-in-Err-kept_data-clause-reads
read_data-returns-in-Err-kept_data-clause-reads g t c = record {
  moved = AreRead-none _ (map g.D.BlockDev.state c.args.backing.now.devices.items);
  may = c.in-Err-kept_data.ensures.err largest_allocation (last-small c.args.config.now c.requires.stack.sound.loaded (map g.D.BlockDev.state c.args.backing.now.devices.items) c.args.backing.now.cache.last c.requires.stack.cached.last);
  exact = λ sure. tt;
}

pub read_data-returns-in-Ok-Some-clause-reads : goal.read_data-returns-in-Ok-Some-clause-reads
read_data-returns-in-Ok-Some-clause-reads g t c =
    kept-data-had c.args.config.now c.args.verity.now c.args.tree.now c.args.wanted.now c.requires.stack.sound.loaded c.requires.block.lies c.requires.block.there (map g.D.BlockDev.state c.args.backing.now.devices.items) c.args.backing.now.cache c.requires.stack.cached (sym c.is_ignored.ensures ∙ c.if-is_ignored.false) c.in-Ok-Some.block
    (subst (λ (o : Option (Vec ℕ Global)). IfSome o (λ block. IsKeptData c.args.tree.now c.args.wanted.now c.args.backing.now.cache.last block.items)) c.in-Ok-Some.field-0-is c.in-Ok-Some.ensures.answer)

pub fetch_data-read_checked-requires : goal.fetch_data-read_checked-requires
fetch_data-read_checked-requires g t c κs within =
    let config = c.args.config.now in
    let extent = c.data_extent-extent in
    let deep = data-depth config c.args.verity.now c.args.tree.now c.requires.stack.sound.loaded c.requires.block.lies in
    let same : depth config extent.result.lower ≡ depth config c.args.tree.now.data = ap (λ (e : Extent). depth config e.lower) extent.ensures.value in
    (omega (arith, deep, same), (within, (c.requires.stack, extent.ensures.lies)))

pub fetch_data-returns-in-Ok-clause-cached : goal.fetch_data-returns-in-Ok-clause-cached
fetch_data-returns-in-Ok-clause-cached g t c =
    let config = c.args.config.now in
    let key = data_key_place config c.args.verity.now c.args.tree.now c.args.wanted.now.block c.data_key-key.result c.data_extent-extent.result c.requires.block.lies c.data_key-key.ensures c.data_extent-extent.ensures in
    keeps-last config key bytes c.in-Ok.block c.args.wanted.now.digest c.args.backing.now.cache c.read_checked.new.backing.cache _ c.in-Ok.ensures.reads c.in-Ok.ensures.cached
    c.keep_last-kept.result c.as_slice.result.now c.as_slice.ensures.value c.keep_last-kept.ensures.ok c.keep_last-kept.ensures.err

pub fetch_data-returns-in-Ok-clause-reads : goal.fetch_data-returns-in-Ok-clause-reads
fetch_data-returns-in-Ok-clause-reads g t c =
    let v = c.args.verity.now in
    let config = c.args.config.now in
    data_read bytes (block_in config v c.args.wanted.now.block) c.args.wanted.now.digest c.in-Ok.block c.requires.used
    (checked_as config v.data c.args.tree.now.data (block_sectors v * c.args.wanted.now.block) (block_sectors v) v.salt c.args.wanted.now.digest (Ok c.in-Ok.block) c.data_extent-extent.result c.requires.block.lies.on_data c.data_extent-extent.ensures.value c.in-Ok.ensures.reads)

-- ---- hash blocks

pub hash_block-returns-in-Err-clause-reads : goal.hash_block-returns-in-Err-clause-reads
hash_block-returns-in-Err-clause-reads g t c = record {
  moved = AreRead-none _ (map g.D.BlockDev.state c.args.backing.now.devices.items);
  may = c.in-Err.ensures.err largest_allocation (cached-small c.args.config.now c.requires.stack.sound.loaded _ c.args.backing.now.cache.blocks.blocks c.requires.stack.cached.kept);
  exact = λ sure. tt;
}

pub hash_block-returns-in-Err-clause-cached : goal.hash_block-returns-in-Err-clause-cached
hash_block-returns-in-Err-clause-cached g t c =
    keeps-found c.args.config.now (map g.D.BlockDev.state c.args.backing.now.devices.items) c.args.key c.args.expected.now c.args.backing.now.cache _ c.copy_of.ensures.leaves c.requires.stack.cached

pub hash_block-returns-in-Ok-Some-clause-reads : goal.hash_block-returns-in-Ok-Some-clause-reads
hash_block-returns-in-Ok-Some-clause-reads g t c =
    cached-hit c.args.config.now c.requires.key bytes c.in-Ok-Some.block c.args.expected.now (map g.D.BlockDev.state c.args.backing.now.devices.items) c.args.backing.now.cache c.requires.stack.cached
    (sym (ap (λ (o : Option (Vec ℕ Global)). option_map bytes o) c.in-Ok-Some.field-0-is) ∙ c.in-Ok-Some.ensures.answer)

pub hash_block-returns-in-Ok-Some-clause-cached : goal.hash_block-returns-in-Ok-Some-clause-cached
hash_block-returns-in-Ok-Some-clause-cached g t c =
    keeps-found c.args.config.now (map g.D.BlockDev.state c.args.backing.now.devices.items) c.args.key c.args.expected.now c.args.backing.now.cache _ c.copy_of.ensures.leaves c.requires.stack.cached

pub hash_block-cover-requires : goal.hash_block-cover-requires
hash_block-cover-requires g t c = named-inside c.args.config.now c.requires.stack.sound.loaded c.requires.key.verity.hash c.args.extent.lower c.requires.key.on

pub hash_block-returns-in-Ok-clause-cached : goal.hash_block-returns-in-Ok-clause-cached
hash_block-returns-in-Ok-clause-cached g t c =
    let config = c.args.config.now in
    let at = c.requires.key in
    let found = keeps-found config (map g.D.BlockDev.state c.args.backing.now.devices.items) c.args.key c.args.expected.now c.args.backing.now.cache _ c.copy_of.ensures.leaves c.requires.stack.cached in
    let read = c.in-Ok.ensures.cached in
    let mid = c.read_checked.new.backing.cache in
    let noted = c.cover.new.self in
    let is = c.cover.ensures.covered config c.requires.stack.sound.loaded (knows-all config c.requires.stack.sound.loaded mid.beneath read.sound.sets at.verity.hash c.args.extent.lower at.on) in
    let kept = keeps-noted config at (map g.D.BlockDev.state c.read_checked.new.backing.devices.items) c.args.backing.now.cache mid noted c.cover.ensures.rest is (record { capacity = read.capacity ∙ found.capacity; sound = read.sound }) in
    keeps-kept config at bytes c.in-Ok.block c.args.expected.now c.args.backing.now.cache noted _ c.in-Ok.ensures.reads (noted_key config at mid noted is) kept
    c.keep_copy-kept.result c.as_slice.result.now c.as_slice.ensures.value c.keep_copy-kept.ensures.ok c.keep_copy-kept.ensures.err

-- ---- the way to a block, beside that to the block before

pub path_block-hash_key-key-requires : goal.path_block-hash_key-key-requires
path_block-hash_key-key-requires g t c = subst (λ (k : ℕ). c.args.wanted.now.block < k) (sym (ap (λ (s : ShapeRecord). s.blocks) c.requires.block.lies.shape_is)) c.requires.block.there

pub path_block-way_block-requires : goal.path_block-way_block-requires
path_block-way_block-requires g t c κs within = (omega arith, (within, (c.requires.stack, (c.requires.block, c.requires.level))))

pub path_block-returns-then-stands-clause-reads : goal.path_block-returns-then-stands-clause-reads
path_block-returns-then-stands-clause-reads g t c x =
    let config = c.args.config.now in
    let v = c.args.verity.now in
    let tree = c.args.tree.now in
    let w = c.args.wanted.now in
    let stands = c.stands.ensures c.if-stands.true in
    let value = c.as_slice.ensures.value in
    let there = subst (λ (l : List CachedBlock). w.at < length l) value stands.0 in
    let key = subst (λ (l : List CachedBlock). (get_or l w.at x).key ≡ c.hash_key-key.result) value (stands.1 x).0 in
    let digest = subst (λ (l : List CachedBlock). (get_or l w.at x).digest ≡ w.digest) value (stands.1 x).1 in
    path-hit config v tree w.level w.block c.requires.block.lies w.digest _ c.args.path.now.items w.at x c.requires.held there (key ∙ way-key config v tree w.level w.block c.hash_key-key.result c.requires.block.lies c.hash_key-key.ensures) digest

pub path_block-returns-in-Err-clause-reads : goal.path_block-returns-in-Err-clause-reads
path_block-returns-in-Err-clause-reads g t c x = way-fault c.args.config.now c.args.verity.now c.args.tree.now c.args.wanted.now.level c.args.wanted.now.block c.requires.block.lies c.args.wanted.now.digest c.in-Err.fault c.in-Err.ensures.reads

pub path_block-returns-in-Err-put-clause-reads : goal.path_block-returns-in-Err-put-clause-reads
path_block-returns-in-Err-put-clause-reads g t c x = record { moved = c.in-Ok.ensures.reads.moved; may = c.in-Err-put.ensures.err; exact = λ sure. tt }

pub path_block-returns-in-Ok-put-clause-reads : goal.path_block-returns-in-Ok-put-clause-reads
path_block-returns-in-Ok-put-clause-reads g t c x =
    let state = g.D.BlockDev.state in
    let config = c.args.config.now in
    let v = c.args.verity.now in
    let w = c.args.wanted.now in
    let old = map state c.args.backing.now.devices.items in
    let new = map state c.way_block.new.backing.devices.items in
    let path = c.args.path.now.items in
    let one : CachedBlock = record { key = c.hash_key-key.result; digest = w.digest; bytes = bytes c.in-Ok.bytes } in
    let front : w.at ≡ length (take w.at path) = sym (length-take-le w.at path c.requires.at) in
    let here : get_or c.put.new.path.items w.at x ≡ one =
    ap (λ (l : List CachedBlock). get_or l w.at x) c.in-Ok-put.ensures.ok ∙ ap (λ (k : ℕ). get_or (take w.at path ++ (one ∷ [])) k x) front ∙ get_or-append_seam (take w.at path) one [] x in
    subst (λ (b : List ℕ). Gets (way_expected (λ (block : List ℕ). block) (block_in config v w.block) w.level w.digest) old new (Ok b))
    (sym (ap (λ (b : CachedBlock). b.bytes) here)) (way-bytes c.args.config.now c.args.verity.now c.args.tree.now c.args.wanted.now.level c.args.wanted.now.block c.requires.block.lies c.args.wanted.now.digest c.in-Ok.bytes c.in-Ok.ensures.reads)

pub path_block-returns-in-Err-clause-held : goal.path_block-returns-in-Err-clause-held
path_block-returns-in-Err-clause-held g t c = path-read c.args.config.now c.args.path.now.items c.in-Err.ensures.reads.moved c.requires.held

pub path_block-returns-in-Err-put-clause-held : goal.path_block-returns-in-Err-put-clause-held
path_block-returns-in-Err-put-clause-held g t c =
    subst (All (IsHeld c.args.config.now _)) (sym c.in-Err-put.ensures.same) (All-take (IsHeld c.args.config.now _) c.args.wanted.now.at c.args.path.now.items (path-read c.args.config.now c.args.path.now.items c.in-Ok.ensures.reads.moved c.requires.held))

pub path_block-returns-in-Ok-put-clause-held : goal.path_block-returns-in-Ok-put-clause-held
path_block-returns-in-Ok-put-clause-held g t c =
    let key = way-key c.args.config.now c.args.verity.now c.args.tree.now c.args.wanted.now.level c.args.wanted.now.block c.hash_key-key.result c.requires.block.lies c.hash_key-key.ensures in
    subst (All (IsHeld c.args.config.now _)) (sym c.in-Ok-put.ensures.ok) (path-put c.args.config.now c.args.verity.now c.args.tree.now c.args.wanted.now.level c.args.wanted.now.block c.requires.block.lies c.args.wanted.now.digest bytes c.in-Ok.bytes c.hash_key-key.result key c.args.path.now.items c.args.wanted.now.at c.requires.held c.in-Ok.ensures.reads)

pub walk_path-path_block-requires : goal.walk_path-path_block-requires
walk_path-path_block-requires g t c κs within =
    let config = c.args.config.now in
    let stack = stack-later config c.loop-left.invariant.walked.moved.moved.fixed c.requires.stack c.loop-left.invariant.cached in
    let low : c.loop-left.left - 1 < levels (tree_of c.args.verity.now) = omega (arith, c.loop-left.invariant.walked.count, c.loop-left-test.true) in
    (omega arith, (within, (stack, (c.requires.block, (low, (c.loop-left.invariant.held, c.loop-left.invariant.within))))))

pub walk_path-returns-in-Err-clause-moved : goal.walk_path-returns-in-Err-clause-moved
walk_path-returns-in-Err-clause-moved g t c = path-stopped c.args.config.now c.args.verity.now c.args.tree.now c.args.index c.requires.stack.sound.loaded c.requires.block.lies c.loop-left.left (c.loop-left.left - 1) (omega (arith, c.loop-left-test.true)) c.loop-left.invariant.walked c.in-Err.first (c.in-Err.ensures.reads no_block)

pub walk_path-returns-clause-moved : goal.walk_path-returns-clause-moved
walk_path-returns-clause-moved g t c = path-ended (block_in c.args.config.now c.args.verity.now c.args.index) c.loop-left.left c.loop-left.invariant.walked

pub walk_path-returns-clause-ok : goal.walk_path-returns-clause-ok
walk_path-returns-clause-ok g t c =
    let b = block_in c.args.config.now c.args.verity.now c.args.index in
    path-whole b c.loop-left.left (omega (arith, c.loop-left-test.false)) c.loop-left.at c.loop-left.path.items c.loop-left.invariant.within c.loop-left.invariant.walked

pub walk_path-returns-in-Err-clause-err : goal.walk_path-returns-in-Err-clause-err
walk_path-returns-in-Err-clause-err g t c = path-failed c.args.config.now c.args.verity.now c.args.tree.now c.args.index c.requires.stack.sound.loaded c.requires.block.lies c.loop-left.left (c.loop-left.left - 1) (omega (arith, c.loop-left-test.true)) c.loop-left.invariant.walked c.in-Err.first (c.in-Err.ensures.reads no_block)

pub walk_path-digest_in-digest-requires : goal.walk_path-digest_in-digest-requires
walk_path-digest_in-digest-requires g t c =
    let v = c.args.verity.now in
    let tree = c.args.tree.now in
    let is = c.requires.block.lies in
    let size = hash-whole c.args.config.now tree.device.0 tree.line v c.requires.stack.sound.loaded is.is in
    let one = c.in-Ok.ensures.reads no_block in
    let here : c.as_slice-in-Ok.result.now ≡ (get_or c.path_block.new.path.items c.loop-left.at no_block).bytes =
    c.as_slice-in-Ok.ensures.value ∙ ap (λ (b : CachedBlock). b.bytes) (c.block.view_is ∙ c.index-as_slice-at.is
    ∙ ap (λ (l : List CachedBlock). get_or l c.loop-left.at c.index-as_slice-at.result) c.as_slice.ensures.value
    ∙ get_or_default c.path_block.new.path.items c.loop-left.at c.index-as_slice-at.result no_block c.in-Ok.ensures.there) in
    let len : length c.as_slice-in-Ok.result.now ≡ 512 * hash_sectors v = ap (λ (l : List ℕ). length l) here ∙ one.may.0 in
    let block : tree.shape.hash_block ≡ v.hash_block = ap (λ (t : ShapeRecord). t.hash_block) is.shape_is in
    omega (arith, len, size.whole, block, c.slot_on_path.ensures.inside)

pub walk_path-loop-left-preserved : goal.walk_path-loop-left-preserved
walk_path-loop-left-preserved g t c =
    let v = c.args.verity.now in
    let tree = c.args.tree.now in
    let index : ℕ = c.args.index in
    let state = g.D.BlockDev.state in
    let b = block_in c.args.config.now v index in
    let level : ℕ = c.loop-left.left - 1 in
    let at : ℕ = c.loop-left.at in
    let old = map state c.args.backing.now.devices.items in
    let new = map state c.path_block.new.backing.devices.items in
    let before = c.loop-left.path.items in
    let after = c.path_block.new.path.items in
    let bytes_of : CachedBlock → List ℕ = λ b. b.bytes in
    let block : List ℕ = (get_or after at no_block).bytes in
    let down = path-down c.args.config.now v tree index c.requires.stack.sound.loaded c.requires.block.lies c.loop-left.left level (omega (arith, c.loop-left-test.true)) c.loop-left.invariant.walked block (c.in-Ok.ensures.reads no_block) in
    let here : c.as_slice-in-Ok.result.now ≡ block =
    c.as_slice-in-Ok.ensures.value ∙ ap (λ (b : CachedBlock). b.bytes) (c.block.view_is ∙ c.index-as_slice-at.is
    ∙ ap (λ (l : List CachedBlock). get_or l c.loop-left.at c.index-as_slice-at.result) c.as_slice.ensures.value
    ∙ get_or_default c.path_block.new.path.items c.loop-left.at c.index-as_slice-at.result no_block c.in-Ok.ensures.there) in
    let expected : c.digest_in-digest.result ≡ next_digest v level index block =
    c.digest_in-digest.ensures ∙ ap (λ (b : List ℕ). digest_in b c.slot_on_path.result) here
    ∙ ap (digest_in block) (c.slot_on_path.ensures.value ∙ ap (λ (t : ShapeRecord). slot t (ancestor t level index)) c.requires.block.lies.shape_is) in
    let longer : map bytes_of (take (at + 1) after) ≡ map bytes_of (take at before) ++ (block ∷ []) =
    ap (map bytes_of) (take_more after at no_block c.in-Ok.ensures.there) ∙ map-append bytes_of (take at after) (get_or after at no_block ∷ [])
    ∙ ap (λ (l : List CachedBlock). map bytes_of l ++ (block ∷ [])) c.in-Ok.ensures.above in
    record {
      within = omega (arith, c.in-Ok.ensures.there);
      walked = subst (λ (p : List (List ℕ)). IsWalked b level c.digest_in-digest.result p old new) (sym longer)
          (subst (λ (e : List ℕ). IsWalked b level e (map bytes_of (take at before) ++ (block ∷ [])) old new) (sym expected) down);
      held = c.in-Ok.ensures.held;
      cached = record { capacity = c.in-Ok.ensures.cached.capacity ∙ c.loop-left.invariant.cached.capacity; sound = c.in-Ok.ensures.cached.sound };
      touches = asks-then c.loop-left.invariant.touches c.in-Ok.ensures.touches;
      given = λ next.
          let place = place_in v tree index in
          let does = DeviceDoes g.D.BlockDev.state g.D.BlockDev.does in
          let at_first = served c.args.backing.now in
          let now = served c.path_block.new.backing in
          let goes : block ≡ last_bytes (take (at + 1) after) = sym (ap last_bytes (take_more after at no_block c.in-Ok.ensures.there) ∙ last-push (take at after) (get_or after at no_block)) in
          subst (λ (l : List ℕ). LeadsTo does c.args.config.now (whole_data place next) (data_of place level c.digest_in-digest.result l next) at_first now) goes
          (subst (λ (e : List ℕ). LeadsTo does c.args.config.now (whole_data place next) (data_of place level e block next) at_first now) (sym expected)
          (way-led c.loop-left.left (c.loop-left.left - 1) block (omega (arith, c.loop-left-test.true)) (c.loop-left.invariant.given next) (c.in-Ok.ensures.given no_block)));
    }

-- ---- whole data blocks

abbrev block_bytes : CachedBlock → List ℕ
block_bytes b = b.bytes

pub read_run-returns-in-Blocks-clause-reads : goal.read_run-returns-in-Blocks-clause-reads
read_run-returns-in-Blocks-clause-reads g t c = rw c.in-Blocks.is c.read_blocks.ensures.reads

pub read_run-returns-in-Below-clause-step : goal.read_run-returns-in-Below-clause-step
read_run-returns-in-Below-clause-step g t c = rw c.in-Below.is (below-step c.in-Below.lower c.in-Below.first (length c.args.out.now / 512) c.read_lower.ensures.step)

pub read_run-returns-in-Units-clause-step : goal.read_run-returns-in-Units-clause-step
read_run-returns-in-Units-clause-step g t c = rw c.in-Units.is c.read_units.ensures.step

pub read_run-returns-in-UnitPart-clause-step : goal.read_run-returns-in-UnitPart-clause-step
read_run-returns-in-UnitPart-clause-step g t c = rw c.in-UnitPart.is c.read_unit_part.ensures.step

pub read_run-returns-in-Zeros-clause-step : goal.read_run-returns-in-Zeros-clause-step
read_run-returns-in-Zeros-clause-step g t c = rw c.in-Zeros.is (zeros-step (length c.args.out.now / 512) c.requires.stack.cached)

pub read_run-returns-in-Fails-clause-step : goal.read_run-returns-in-Fails-clause-step
read_run-returns-in-Fails-clause-step g t c = rw c.in-Fails.is (fails-step (length c.args.out.now / 512) c.requires.stack.cached (omega (arith, c.requires.fits.sectors.some, c.requires.fits.sectors.whole)))

pub read_run-returns-in-Block-clause-step : goal.read_run-returns-in-Block-clause-step
read_run-returns-in-Block-clause-step g t c = rw c.in-Block.is c.read_block.ensures.step

pub read_run-returns-in-Blocks-clause-step : goal.read_run-returns-in-Blocks-clause-step
read_run-returns-in-Blocks-clause-step g t c = rw c.in-Blocks.is c.read_blocks.ensures.step

-- ---- data blocks in rows

pub read_blocks-checks-init : goal.read_blocks-checks-init
read_blocks-checks-init g t c =
    let b = blocks-at c.requires in
    record {
      checked = checked-none b c.args.chains _ _ (ap (λ (l : List (List ℕ)). length l) c.as_mut_slice-made.ensures.value) c.new-path.ensures.items c.requires.kept;
      cached = record { capacity = refl; sound = c.requires.stack.cached };
      touches = asks-none _ (leaves_of c.args.config.now (mapped c.args.part.device.0)) (map g.D.BlockDev.state c.args.backing.now.devices.items) (Ok tt) tt refl;
      given = blocks-begin c.args.out.now;
    }

pub read_blocks-walk_path-requires : goal.read_blocks-walk_path-requires
read_blocks-walk_path-requires g t c κs within =
    let config = c.args.config.now in
    let inv = c.checks.invariant in
    let tree = c.tree_of-tree in
    let turn = turn-at (blocks-at c.requires) inv.checked c.requires.fits.sectors.whole c.from.ensures c.checks-test.true in
    let depths : depth config (mapped tree.result.device.0) ≡ depth config (mapped c.args.part.device.0) = ap (λ (x : DevId). depth config (mapped x.0)) tree.ensures.device in
    let stack = stack-later config inv.checked.had.moved.moved.fixed c.requires.stack inv.cached in
    (omega (arith, depths), (within, (stack, (record { lies = tree.ensures.tree; there = turn.there }, inv.checked.held))))

pub read_blocks-returns-in-Err-clause-reads : goal.read_blocks-returns-in-Err-clause-reads
read_blocks-returns-in-Err-clause-reads g t c =
    let inv = c.checks.invariant.checked in
    let b = blocks-at c.requires in
    let turn = turn-at b inv c.requires.fits.sectors.whole c.from.ensures c.checks-test.true in
    finds-as c.args.chains (way-fails b turn c.in-Err.first inv.had c.in-Err.ensures.moved c.in-Err.ensures.err) inv.out inv.had.distinct

pub read_blocks-overflow_add-index : goal.read_blocks-overflow_add-index
read_blocks-overflow_add-index g t c =
    let turn = turn-at (blocks-at c.requires) c.checks.invariant.checked c.requires.fits.sectors.whole c.from.ensures c.checks-test.true in omega (arith, turn.small)

pub read_blocks-overflow_mul-from : goal.read_blocks-overflow_mul-from
read_blocks-overflow_mul-from g t c =
    let turn = turn-at (blocks-at c.requires) c.checks.invariant.checked c.requires.fits.sectors.whole c.from.ensures c.checks-test.true in omega (arith, turn.end)

pub read_blocks-read_row-requires : goal.read_blocks-read_row-requires
read_blocks-read_row-requires g t c κs within =
    let config = c.args.config.now in
    let inv = c.checks.invariant in
    let tree = c.tree_of-tree in
    let b = blocks-at c.requires in
    let turn = turn-at b inv.checked c.requires.fits.sectors.whole c.from.ensures c.checks-test.true in
    let row = row-at b turn c.row_len-many.result c.row_len-many.ensures.most in
    let v = c.args.part.verity.now in
    let extent : c.data_extent-extent.result.first ≡ block_sectors v * (c.args.part.first / block_sectors v + c.checks.at) = ap (λ (e : Extent). e.first) c.data_extent-extent.ensures.value ∙ ap (λ (k : ℕ). block_sectors v * k) turn.index in
    let depths : depth config (mapped tree.result.device.0) ≡ depth config (mapped c.args.part.device.0) = ap (λ (x : DevId). depth config (mapped x.0)) tree.ensures.device in
    let deep = data-depth config v tree.result b.loaded tree.ensures.tree in
    let before = stack-later config inv.checked.had.moved.moved.fixed c.requires.stack inv.cached in
    let stack = stack-later config c.in-Ok.ensures.moved.moved.fixed before c.in-Ok.ensures.cached in
    (omega (arith, deep, depths), (within, (stack, (row.whole, omega (arith, row.inside, extent, row.sectors, ap (λ (y : Lower). size config y) tree.ensures.data)))))

pub read_blocks-returns-in-Err-read_row-clause-reads : goal.read_blocks-returns-in-Err-read_row-clause-reads
read_blocks-returns-in-Err-read_row-clause-reads g t c =
    let inv = c.checks.invariant.checked in
    let b = blocks-at c.requires in
    let turn = turn-at b inv c.requires.fits.sectors.whole c.from.ensures c.checks-test.true in
    let row = row-at b turn c.row_len-many.result c.row_len-many.ensures.most in
    let gets = row-got b turn row c.tree_of-tree.ensures.data c.data_extent-extent.ensures c.in-Err-read_row.ensures.reads in
    finds-as c.args.chains (row-fails b turn row c.row_len-many.ensures.fresh c.in-Err-read_row.met inv.had c.in-Ok.ensures.moved c.in-Ok.ensures.ok gets) inv.out inv.had.distinct

pub read_blocks-shape_of-out-in-Err : goal.read_blocks-shape_of-out-in-Err
read_blocks-shape_of-out-in-Err g t c = c.checks.invariant.checked.size

pub read_blocks-slice_bounds-way-end : goal.read_blocks-slice_bounds-way-end
read_blocks-slice_bounds-way-end g t c =
    let v = c.args.part.verity.now in
    let levels_are : c.levels.result ≡ levels (tree_of v) = c.levels.ensures.value ∙ ap levels c.tree_of-tree.ensures.tree.shape_is in
    let long = way-whole c.args.config.now v (c.args.part.first / c.from.result + c.checks.at) c.walk_path.new.path.items c.in-Ok.ensures.ok in
    let value : length c.as_slice.result.now ≡ length c.walk_path.new.path.items = ap (λ (l : List CachedBlock). length l) c.as_slice.ensures.value in
    sym (length-take-le c.levels.result c.as_slice.result.now (omega (arith, long, levels_are, value)))

pub read_blocks-shape_of-out : goal.read_blocks-shape_of-out
read_blocks-shape_of-out g t c = c.checks.invariant.checked.size

pub read_blocks-shape_of-out-in-Err-read_row : goal.read_blocks-shape_of-out-in-Err-read_row
read_blocks-shape_of-out-in-Err-read_row g t c = same_len_mid _ _ _ _ c.read_row.auto.out ∙ c.checks.invariant.checked.size

pub read_blocks-shape_of-out-in-Err-settle_block : goal.read_blocks-shape_of-out-in-Err-settle_block
read_blocks-shape_of-out-in-Err-settle_block g t c = same_len_mid _ _ _ _ c.settle_block.auto.block ∙ same_len_mid _ _ _ _ c.read_row.auto.out ∙ c.checks.invariant.checked.size

pub read_blocks-shape_of-out-in-Err-keep : goal.read_blocks-shape_of-out-in-Err-keep
read_blocks-shape_of-out-in-Err-keep g t c = same_len_mid _ _ _ _ c.settle_block.auto.block ∙ same_len_mid _ _ _ _ c.read_row.auto.out ∙ c.checks.invariant.checked.size

pub read_blocks-data_extent-extent-requires-clause-block : goal.read_blocks-data_extent-extent-requires-clause-block
read_blocks-data_extent-extent-requires-clause-block g t c =
    let lies = c.tree_of-tree.ensures.tree in
    let turn = turn-at (blocks-at c.requires) c.checks.invariant.checked c.requires.fits.sectors.whole c.from.ensures c.checks-test.true in
    record { lies = lies; there = turn.there }

pub read_blocks-slice_bounds-row-end : goal.read_blocks-slice_bounds-row-end
read_blocks-slice_bounds-row-end g t c =
    let b = blocks-at c.requires in
    let turn = turn-at b c.checks.invariant.checked c.requires.fits.sectors.whole c.from.ensures c.checks-test.true in
    let row = row-at b turn c.row_len-many.result c.row_len-many.ensures.most in
    omega (arith, row.end)

pub read_blocks-overflow_add-row-in-checks : goal.read_blocks-overflow_add-row-in-checks
read_blocks-overflow_add-row-in-checks g t c =
    let b = blocks-at c.requires in
    let turn = turn-at b c.checks.invariant.checked c.requires.fits.sectors.whole c.from.ensures c.checks-test.true in
    let row = row-at b turn c.row_len-many.result c.row_len-many.ensures.most in
    omega (arith, row.end, turn.len, b.few)

pub read_blocks-slice_bounds-digest_blocks-end : goal.read_blocks-slice_bounds-digest_blocks-end
read_blocks-slice_bounds-digest_blocks-end g t c =
    let b = blocks-at c.requires in
    let inv = c.checks.invariant.checked in
    let turn = turn-at b inv c.requires.fits.sectors.whole c.from.ensures c.checks-test.true in
    let row = row-at b turn c.row_len-many.result c.row_len-many.ensures.most in
    omega (arith, inv.room, row.few)

pub read_blocks-digest_blocks-requires-clause-whole : goal.read_blocks-digest_blocks-requires-clause-whole
read_blocks-digest_blocks-requires-clause-whole g t c =
    let b = blocks-at c.requires in
    let turn = turn-at b c.checks.invariant.checked c.requires.fits.sectors.whole c.from.ensures c.checks-test.true in
    let row = row-at b turn c.row_len-many.result c.row_len-many.ensures.most in
    let put = put-at b turn row c.read_row.new.out c.read_row.auto.out in
    ap (λ (l : List ℕ). length l % c.args.part.verity.now.data_block) put.row_is ∙ put.row_even

pub read_blocks-digest_blocks-requires-clause-count : goal.read_blocks-digest_blocks-requires-clause-count
read_blocks-digest_blocks-requires-clause-count g t c =
    let j : ℕ = c.checks.at in
    let many : ℕ = c.row_len-many.result in
    let b = blocks-at c.requires in
    let inv = c.checks.invariant.checked in
    let turn = turn-at b inv c.requires.fits.sectors.whole c.from.ensures c.checks-test.true in
    let row = row-at b turn many c.row_len-many.ensures.most in
    let put = put-at b turn row c.read_row.new.out c.read_row.auto.out in
    length-take-le (j + many - j) (drop j c.checks.made) (omega (arith, inv.room, row.few, length-drop j c.checks.made)) ∙ sub-same j many
    ∙ sym (ap (λ (l : List ℕ). length l / c.args.part.verity.now.data_block) put.row_is ∙ put.row_count)

pub read_blocks-bounds-made-at : goal.read_blocks-bounds-made-at
read_blocks-bounds-made-at g t c =
    let j : ℕ = c.checks.at in
    let inv = c.checks.invariant.checked in
    let turn = turn-at (blocks-at c.requires) inv c.requires.fits.sectors.whole c.from.ensures c.checks-test.true in
    omega (arith, same_len_mid j (j + c.row_len-many.result - j) c.checks.made c.digest_blocks.new.out c.digest_blocks.auto.out, inv.room, turn.inside, turn.few)

pub read_blocks-slice_bounds-block-end : goal.read_blocks-slice_bounds-block-end
read_blocks-slice_bounds-block-end g t c =
    let b = blocks-at c.requires in
    let turn = turn-at b c.checks.invariant.checked c.requires.fits.sectors.whole c.from.ensures c.checks-test.true in
    let row = row-at b turn c.row_len-many.result c.row_len-many.ensures.most in
    let put = put-at b turn row c.read_row.new.out c.read_row.auto.out in
    omega (arith, put.end)

pub read_blocks-settle_block-requires : goal.read_blocks-settle_block-requires
read_blocks-settle_block-requires g t c κs within =
    let config = c.args.config.now in
    let p = c.args.part in
    let v = c.args.part.verity.now in
    let j : ℕ = c.checks.at in
    let tree = c.tree_of-tree in
    let all = c.checks.invariant in
    let inv = all.checked in
    let many = c.row_len-many in
    let b = blocks-at c.requires in
    let turn = turn-at b inv c.requires.fits.sectors.whole c.from.ensures c.checks-test.true in
    let row = row-at b turn many.result many.ensures.most in
    let put = put-at b turn row c.read_row.new.out c.read_row.auto.out in
    let gets = row-got b turn row tree.ensures.data c.data_extent-extent.ensures c.in-Ok-read_row.ensures.reads in
    let lost = c.in-Ok-read_row.lost in
    let heals = lost-heals v.parity lost c.in-Ok-read_row.ensures.lost in
    let next = row-next b turn row many.ensures.fresh inv.had c.in-Ok.ensures.moved c.in-Ok.ensures.ok gets in
    let far_to = far b turn row many.ensures.fresh inv.had c.in-Ok.ensures.moved c.in-Ok.ensures.ok gets in
    let depths : depth config (mapped tree.result.device.0) ≡ depth config (mapped p.device.0) = ap (λ (x : DevId). depth config (mapped x.0)) tree.ensures.device in
    let before = stack-later config inv.had.moved.moved.fixed c.requires.stack all.cached in
    let walked = stack-later config c.in-Ok.ensures.moved.moved.fixed before c.in-Ok.ensures.cached in
    let stack = stack-later config gets.got.moved.moved.fixed walked c.in-Ok-read_row.ensures.cached in
    let at : c.judge-judged.result.lost.index ≡ p.first / c.from.result + j = ap (λ (x : JudgedBlock). x.lost.index) c.judge-judged.ensures in
    (omega (arith, depths), (within, (stack, (record { lies = tree.ensures.tree; there = omega (arith, at, turn.there) }, stood-len b _ turn.inside far_to next put.len put.end ∙ sub-same (j * v.data_block) v.data_block))))

pub read_blocks-returns-in-Err-settle_block-clause-reads : goal.read_blocks-returns-in-Err-settle_block-clause-reads
read_blocks-returns-in-Err-settle_block-clause-reads g t c =
    let config = c.args.config.now in
    let p = c.args.part in
    let v = c.args.part.verity.now in
    let j : ℕ = c.checks.at in
    let tree = c.tree_of-tree in
    let all = c.checks.invariant in
    let inv = all.checked in
    let many = c.row_len-many in
    let b = blocks-at c.requires in
    let turn = turn-at b inv c.requires.fits.sectors.whole c.from.ensures c.checks-test.true in
    let row = row-at b turn many.result many.ensures.most in
    let put = put-at b turn row c.read_row.new.out c.read_row.auto.out in
    let gets = row-got b turn row tree.ensures.data c.data_extent-extent.ensures c.in-Ok-read_row.ensures.reads in
    let lost = c.in-Ok-read_row.lost in
    let heals = lost-heals v.parity lost c.in-Ok-read_row.ensures.lost in
    let next = row-next b turn row many.ensures.fresh inv.had c.in-Ok.ensures.moved c.in-Ok.ensures.ok gets in
    let far_to = far b turn row many.ensures.fresh inv.had c.in-Ok.ensures.moved c.in-Ok.ensures.ok gets in
    let kept = row-kept b turn row many.ensures.fresh lost c.checks.made heals inv.had c.in-Ok.ensures.moved gets (all-whole g.D.BlockDev.state g.met.D.BlockDev.whole c.walk_path.new.backing.devices.items) inv.room inv.ahead put c.digest_blocks.ensures in
    let made : List (List ℕ) = put_mid j (j + many.result - j) c.checks.made c.digest_blocks.new.out in
    let same = place-turn p tree.result (p.first / c.from.result + j) j tree.ensures.tree.on_hash c.requires.fits.holds.of.on_hash tree.ensures.data tree.ensures.tree.on_parity c.requires.fits.holds.of.on_parity turn.index in
    let to : ℕ = alone_after lost (max c.checks.read (j + many.result)) c.checks.alone in
    let alone_is : c.alone_as_far-alone.result ≡ to = c.alone_as_far-alone.ensures ∙ ap (λ (k : ℕ). alone_after lost k c.checks.alone) c.read_as_far-read.ensures in
    let plain = together-from j c.alone_as_far-alone.result to alone_is in
    let lone = lone-from j c.alone_as_far-alone.result to alone_is in
    let parity = λ (is : nat_lt j c.alone_as_far-alone.result ≡ true). heals-after v.parity lost (max c.checks.read (j + many.result)) c.checks.alone j inv.ahead.heals heals (lone is) in
    let settled = settles-at p tree.result (p.first / c.from.result + j) j _ _ _ _ c.judge-judged.ensures turn.index same c.in-Err-settle_block.ensures.reads in
    let settled_on = settled-on g.D.BlockDev.state config (place_at p (p.first / block_sectors v + j)) _ settled in
    finds-as c.args.chains (unsettled b _ turn.inside far_to next put.len put.end made c.index-made-at.result c.is_ignored.ensures plain parity kept (row-covers many.ensures.some) c.in-Err-settle_block.vain settled_on) inv.out inv.had.distinct

pub read_blocks-keep-requires : goal.read_blocks-keep-requires
read_blocks-keep-requires g t c =
    let v = c.args.part.verity.now in
    let j : ℕ = c.checks.at in
    let many = c.row_len-many in
    let b = blocks-at c.requires in
    let out : List ℕ = put_mid (j * v.data_block) (j * v.data_block + many.result * v.data_block - j * v.data_block) c.checks.out c.read_row.new.out in
    let all : List ℕ = put_mid (j * v.data_block) (j * v.data_block + v.data_block - j * v.data_block) out c.settle_block.new.block in
    let width : j * v.data_block + v.data_block - j * v.data_block ≡ v.data_block = sub-same (j * v.data_block) v.data_block in
    let len = length-take (j * v.data_block + v.data_block - j * v.data_block) (drop (j * v.data_block) all) in
    let Small : CachedBlock → Type 0 = λ x. length x.bytes ≤ largest_allocation in
    let held : All Small c.walk_path.new.path.items = held-small c.args.config.now b.loaded _ c.walk_path.new.path.items c.in-Ok.ensures.held in
    (omega (arith, len, width, b.size.whole, b.size.most), All-take Small c.levels.result c.as_slice.result.now (subst (λ (l : List CachedBlock). All Small l) (sym c.as_slice.ensures.value) held))

pub read_blocks-returns-in-Err-keep-clause-reads : goal.read_blocks-returns-in-Err-keep-clause-reads
read_blocks-returns-in-Err-keep-clause-reads g t c =
    let config = c.args.config.now in
    let p = c.args.part in
    let v = c.args.part.verity.now in
    let j : ℕ = c.checks.at in
    let tree = c.tree_of-tree in
    let all = c.checks.invariant in
    let inv = all.checked in
    let many = c.row_len-many in
    let b = blocks-at c.requires in
    let turn = turn-at b inv c.requires.fits.sectors.whole c.from.ensures c.checks-test.true in
    let row = row-at b turn many.result many.ensures.most in
    let put = put-at b turn row c.read_row.new.out c.read_row.auto.out in
    let gets = row-got b turn row tree.ensures.data c.data_extent-extent.ensures c.in-Ok-read_row.ensures.reads in
    let lost = c.in-Ok-read_row.lost in
    let heals = lost-heals v.parity lost c.in-Ok-read_row.ensures.lost in
    let next = row-next b turn row many.ensures.fresh inv.had c.in-Ok.ensures.moved c.in-Ok.ensures.ok gets in
    let far_to = far b turn row many.ensures.fresh inv.had c.in-Ok.ensures.moved c.in-Ok.ensures.ok gets in
    let same = place-turn p tree.result (p.first / c.from.result + j) j tree.ensures.tree.on_hash c.requires.fits.holds.of.on_hash tree.ensures.data tree.ensures.tree.on_parity c.requires.fits.holds.of.on_parity turn.index in
    let to : ℕ = alone_after lost (max c.checks.read (j + many.result)) c.checks.alone in
    let alone_is : c.alone_as_far-alone.result ≡ to = c.alone_as_far-alone.ensures ∙ ap (λ (k : ℕ). alone_after lost k c.checks.alone) c.read_as_far-read.ensures in
    let plain = together-from j c.alone_as_far-alone.result to alone_is in
    let lone = lone-from j c.alone_as_far-alone.result to alone_is in
    let parity = λ (is : nat_lt j c.alone_as_far-alone.result ≡ true). heals-after v.parity lost (max c.checks.read (j + many.result)) c.checks.alone j inv.ahead.heals heals (lone is) in
    let settled = settles-at p tree.result (p.first / c.from.result + j) j _ _ _ _ c.judge-judged.ensures turn.index same c.in-Ok-settle_block.ensures.reads in
    let settled_on = settled-on g.D.BlockDev.state config (place_at p (p.first / block_sectors v + j)) _ settled in
    let more = settled-moved config v _ parity settled_on in
    finds-as c.args.chains (block-full b _ turn.inside far_to next put.len put.end more c.in-Err-keep.ensures.err) (subst (AreHandedOut c.args.chains c.args.found.now.items inv.after) (sym c.in-Err-keep.ensures.same) inv.out) inv.had.distinct

pub read_blocks-checks-preserved : goal.read_blocks-checks-preserved
read_blocks-checks-preserved g t c =
    let config = c.args.config.now in
    let p = c.args.part in
    let v = c.args.part.verity.now in
    let j : ℕ = c.checks.at in
    let tree = c.tree_of-tree in
    let all = c.checks.invariant in
    let inv = all.checked in
    let many = c.row_len-many in
    let b = blocks-at c.requires in
    let turn = turn-at b inv c.requires.fits.sectors.whole c.from.ensures c.checks-test.true in
    let row = row-at b turn many.result many.ensures.most in
    let put = put-at b turn row c.read_row.new.out c.read_row.auto.out in
    let gets = row-got b turn row tree.ensures.data c.data_extent-extent.ensures c.in-Ok-read_row.ensures.reads in
    let lost = c.in-Ok-read_row.lost in
    let heals = lost-heals v.parity lost c.in-Ok-read_row.ensures.lost in
    let next = row-next b turn row many.ensures.fresh inv.had c.in-Ok.ensures.moved c.in-Ok.ensures.ok gets in
    let far_to = far b turn row many.ensures.fresh inv.had c.in-Ok.ensures.moved c.in-Ok.ensures.ok gets in
    let kept = row-kept b turn row many.ensures.fresh lost c.checks.made heals inv.had c.in-Ok.ensures.moved gets (all-whole g.D.BlockDev.state g.met.D.BlockDev.whole c.walk_path.new.backing.devices.items) inv.room inv.ahead put c.digest_blocks.ensures in
    let made : List (List ℕ) = put_mid j (j + many.result - j) c.checks.made c.digest_blocks.new.out in
    let same = place-turn p tree.result (p.first / c.from.result + j) j tree.ensures.tree.on_hash c.requires.fits.holds.of.on_hash tree.ensures.data tree.ensures.tree.on_parity c.requires.fits.holds.of.on_parity turn.index in
    let to : ℕ = alone_after lost (max c.checks.read (j + many.result)) c.checks.alone in
    let alone_is : c.alone_as_far-alone.result ≡ to = c.alone_as_far-alone.ensures ∙ ap (λ (k : ℕ). alone_after lost k c.checks.alone) c.read_as_far-read.ensures in
    let plain = together-from j c.alone_as_far-alone.result to alone_is in
    let lone = lone-from j c.alone_as_far-alone.result to alone_is in
    let parity = λ (is : nat_lt j c.alone_as_far-alone.result ≡ true). heals-after v.parity lost (max c.checks.read (j + many.result)) c.checks.alone j inv.ahead.heals heals (lone is) in
    let settled = settles-at p tree.result (p.first / c.from.result + j) j _ _ _ _ c.judge-judged.ensures turn.index same c.in-Ok-settle_block.ensures.reads in
    let settled_on = settled-on g.D.BlockDev.state config (place_at p (p.first / block_sectors v + j)) _ settled in
    let settle = c.in-Ok-settle_block.ensures in
    let more = settled-moved config v _ parity settled_on in
    let front = put.front (512 * (j * block_sectors v)) (omega (arith, block-begin b j)) in
    let levels_are : c.levels.result ≡ levels (tree_of v) = c.levels.ensures.value ∙ ap levels tree.ensures.tree.shape_is in
    let slice : List CachedBlock = c.as_slice.result.now in
    let path_is : map block_bytes (take c.levels.result slice) ≡ map block_bytes (take (levels (tree_of v)) c.walk_path.new.path.items) =
    ap (λ (l : List CachedBlock). map block_bytes (take c.levels.result l)) c.as_slice.ensures.value ∙ ap (λ (k : ℕ). map block_bytes (take k c.walk_path.new.path.items)) levels_are in
    let out : List ℕ = put_mid (j * v.data_block) (j * v.data_block + many.result * v.data_block - j * v.data_block) c.checks.out c.read_row.new.out in
    let block : List ℕ = c.settle_block.new.block in
    let content : List ℕ = take (j * v.data_block + v.data_block - j * v.data_block) (drop (j * v.data_block) (put_mid (j * v.data_block) (j * v.data_block + v.data_block - j * v.data_block) out block)) in
    let got = settled-got b out turn.inside far_to next put.len put.end made c.index-made-at.result c.is_ignored.ensures plain parity kept (row-covers many.ensures.some) settled_on in
    let had = block-checked b out turn.inside far_to next put.len put.end more block front c.settle_block.auto.block got turn.index path_is in
    let rest = next-kept (written b out turn.inside far_to next put.len put.end more block front c.settle_block.auto.block) kept (rest-ahead b out turn.inside far_to next put.len put.end more block front c.settle_block.auto.block made) in
    let walked = blocks-way all.given turn.inside same c.in-Ok.ensures.given in
    let goes = path-last c.as_slice.ensures.value (c.levels.ensures.value ∙ ap levels tree.ensures.tree.shape_is) in
    let given = c.in-Ok-read_row.ensures.given in
    let rowed = row-after walked many.result inv.ahead.lone row.end many.ensures.fresh
    (λ some. together-at p (length c.args.out.now / 512) j many.result _ same turn.count goes c.is_ignored.ensures (many.ensures.together some))
    lost c.read_row.new.out (j * v.data_block + many.result * v.data_block - j * v.data_block) (sub-same (j * v.data_block) (many.result * v.data_block)) put.wide (λ fault is. (row-asked many.result v.data_block _ row.len (λ none. lost-fails lost c.read_row.new.out (given.none none).1 fault is), heals fault is)) (row-stays p v.data_block many.result row.len given)
    (λ some. gives-at p j many.result tree.ensures.data (row-begins (block_sectors v) (p.first / c.from.result + j) (p.first / block_sectors v + j) c.data_extent-extent.ensures.value turn.index) row.sectors (row-some many.result v.data_block (block_sectors v) _ row.len b.size.whole b.size.some some) given) in
    let near : j * v.data_block + v.data_block - j * v.data_block ≡ v.data_block = sub-same (j * v.data_block) v.data_block in
    let wide : length block ≡ v.data_block = c.settle_block.auto.block ∙ stood-len b out turn.inside far_to next put.len put.end ∙ near in
    let settled_given = settled-given rowed (j * v.data_block + v.data_block - j * v.data_block) near turn.inside (sym b.size.whole) put.end plain (λ is. (lone is, kept.lone (lone is))) _ c.is_ignored.ensures (row-covers many.ensures.some)
    (λ low used. digest-made b _ turn.inside far_to next put.len put.end made c.index-made-at.result (kept.ahead low) (row-covers many.ensures.some used)) block wide settled in
    let Upto : ℕ → ℕ → Type 0 = λ r a. BlocksUpTo (DeviceDoes g.D.BlockDev.state g.D.BlockDev.does) config p (length c.args.out.now / 512) r a (j + 1) (put_mid (j * v.data_block) (j * v.data_block + v.data_block - j * v.data_block) out block) (served c.args.backing.now) (served c.settle_block.new.backing) in
    record {
      checked = checked-as c.read_as_far-read.ensures alone_is (record {
        size = same_len_mid _ _ _ _ c.settle_block.auto.block ∙ same_len_mid _ _ _ _ c.read_row.auto.out ∙ inv.size;
        room = same_len_mid _ _ _ _ c.digest_blocks.auto.out ∙ inv.room;
        within = omega (arith, turn.inside);
        most = far_to;
        after = inv.after ++ (one_found p (p.first / c.from.result + j) content (take c.levels.result slice) ∷ []);
        out = one-out c.args.chains c.args.found.now.items inv.after c.checks.found.items _ (one_found p (p.first / c.from.result + j) content (take c.levels.result slice)) inv.out c.in-Ok-keep.ensures.ok;
        held = path-read config c.walk_path.new.path.items more (path-read config c.walk_path.new.path.items gets.got.moved c.in-Ok.ensures.held);
        had = had;
        ahead = rest;
      });
      cached = record { capacity = settle.cached.capacity ∙ c.in-Ok-read_row.ensures.cached.capacity ∙ c.in-Ok.ensures.cached.capacity ∙ all.cached.capacity; sound = settle.cached.sound };
      touches = asks-then (data-touched config v tree.result b.loaded tree.ensures.tree p.device tree.ensures.device all.touches c.in-Ok.ensures.touches (asks-lost v.parity lost c.read_row.new.out (λ none. none tree.result.device.0 tree.result.line v tree.ensures.tree.is) heals c.in-Ok-read_row.ensures.touches)) (asks-up (same-within config tree.ensures.device) settle.touches);
      given = subst (λ (k : ℕ). Upto c.read_as_far-read.result k) (sym alone_is) (subst (λ (k : ℕ). Upto k to) (sym c.read_as_far-read.ensures) settled_given);
    }

pub read_blocks-returns-clause-reads : goal.read_blocks-returns-clause-reads
read_blocks-returns-clause-reads g t c = checked-all (blocks-at c.requires) c.checks.invariant.checked c.requires.fits.sectors.whole (λ more. absurd (omega (arith, more, c.checks-test.false)))

pub read_blocks-returns-in-Err-clause-step : goal.read_blocks-returns-in-Err-clause-step
read_blocks-returns-in-Err-clause-step g t c =
    let config = c.args.config.now in
    let tree = c.tree_of-tree in
    let all = c.checks.invariant in
    let b = blocks-at c.requires in
    let turn = turn-at b all.checked c.requires.fits.sectors.whole c.from.ensures c.checks-test.true in
    let walked = asks-up (same-within config tree.ensures.device) c.in-Err.ensures.touches in
    step-met (blocks-meet config c.args.part (length c.args.out.now / 512) (omega (arith, c.requires.fits.sectors.some, c.requires.fits.sectors.whole)))
    (record { capacity = c.in-Err.ensures.cached.capacity ∙ all.cached.capacity; sound = c.in-Err.ensures.cached.sound })
    (asks-then all.touches (asks-as (Err c.in-Err.first) walked.fault (λ failures. refl) walked)) (way-costs b turn all.checked.had c.in-Err.ensures.moved)

pub read_blocks-returns-in-Err-read_row-clause-step : goal.read_blocks-returns-in-Err-read_row-clause-step
read_blocks-returns-in-Err-read_row-clause-step g t c =
    let config = c.args.config.now in
    let tree = c.tree_of-tree in
    let all = c.checks.invariant in
    let many = c.row_len-many in
    let read = c.in-Err-read_row.ensures in
    let b = blocks-at c.requires in
    let turn = turn-at b all.checked c.requires.fits.sectors.whole c.from.ensures c.checks-test.true in
    let row = row-at b turn many.result many.ensures.most in
    step-met (blocks-meet config c.args.part (length c.args.out.now / 512) (omega (arith, c.requires.fits.sectors.some, c.requires.fits.sectors.whole)))
    (record { capacity = read.cached.capacity ∙ c.in-Ok.ensures.cached.capacity ∙ all.cached.capacity; sound = read.cached.sound })
    (data-touched config c.args.part.verity.now tree.result b.loaded tree.ensures.tree c.args.part.device tree.ensures.device all.touches c.in-Ok.ensures.touches (asks-as (Err c.in-Err-read_row.met) read.touches.fault (λ failures. refl) read.touches))
    (row-costs b turn row many.ensures.fresh all.checked.had c.in-Ok.ensures.moved c.in-Ok.ensures.ok (row-got b turn row c.tree_of-tree.ensures.data c.data_extent-extent.ensures read.reads))

pub read_blocks-returns-in-Err-settle_block-clause-step : goal.read_blocks-returns-in-Err-settle_block-clause-step
read_blocks-returns-in-Err-settle_block-clause-step g t c =
    let config = c.args.config.now in
    let p = c.args.part in
    let v = c.args.part.verity.now in
    let j : ℕ = c.checks.at in
    let tree = c.tree_of-tree in
    let all = c.checks.invariant in
    let inv = all.checked in
    let many = c.row_len-many in
    let b = blocks-at c.requires in
    let turn = turn-at b inv c.requires.fits.sectors.whole c.from.ensures c.checks-test.true in
    let row = row-at b turn many.result many.ensures.most in
    let put = put-at b turn row c.read_row.new.out c.read_row.auto.out in
    let gets = row-got b turn row tree.ensures.data c.data_extent-extent.ensures c.in-Ok-read_row.ensures.reads in
    let lost = c.in-Ok-read_row.lost in
    let heals = lost-heals v.parity lost c.in-Ok-read_row.ensures.lost in
    let next = row-next b turn row many.ensures.fresh inv.had c.in-Ok.ensures.moved c.in-Ok.ensures.ok gets in
    let far_to = far b turn row many.ensures.fresh inv.had c.in-Ok.ensures.moved c.in-Ok.ensures.ok gets in
    let same = place-turn p tree.result (p.first / c.from.result + j) j tree.ensures.tree.on_hash c.requires.fits.holds.of.on_hash tree.ensures.data tree.ensures.tree.on_parity c.requires.fits.holds.of.on_parity turn.index in
    let to : ℕ = alone_after lost (max c.checks.read (j + many.result)) c.checks.alone in
    let alone_is : c.alone_as_far-alone.result ≡ to = c.alone_as_far-alone.ensures ∙ ap (λ (k : ℕ). alone_after lost k c.checks.alone) c.read_as_far-read.ensures in
    let plain = together-from j c.alone_as_far-alone.result to alone_is in
    let lone = lone-from j c.alone_as_far-alone.result to alone_is in
    let parity = λ (is : nat_lt j c.alone_as_far-alone.result ≡ true). heals-after v.parity lost (max c.checks.read (j + many.result)) c.checks.alone j inv.ahead.heals heals (lone is) in
    let settled = settles-at p tree.result (p.first / c.from.result + j) j _ _ _ _ c.judge-judged.ensures turn.index same c.in-Err-settle_block.ensures.reads in
    let settled_on = settled-on g.D.BlockDev.state config (place_at p (p.first / block_sectors v + j)) _ settled in
    let settle = c.in-Err-settle_block.ensures in
    step-met (blocks-meet config p (length c.args.out.now / 512) (omega (arith, c.requires.fits.sectors.some, c.requires.fits.sectors.whole)))
    (record { capacity = settle.cached.capacity ∙ c.in-Ok-read_row.ensures.cached.capacity ∙ c.in-Ok.ensures.cached.capacity ∙ all.cached.capacity; sound = settle.cached.sound })
    (asks-then (data-touched config v tree.result b.loaded tree.ensures.tree p.device tree.ensures.device all.touches c.in-Ok.ensures.touches (asks-lost v.parity lost c.read_row.new.out (λ none. none tree.result.device.0 tree.result.line v tree.ensures.tree.is) heals c.in-Ok-read_row.ensures.touches)) (asks-up (same-within config tree.ensures.device) settle.touches))
    (block-costs b _ turn.inside far_to next put.len put.end (settled-moved config v _ parity settled_on))

pub read_blocks-returns-in-Err-keep-clause-step : goal.read_blocks-returns-in-Err-keep-clause-step
read_blocks-returns-in-Err-keep-clause-step g t c =
    let config = c.args.config.now in
    let p = c.args.part in
    let v = c.args.part.verity.now in
    let j : ℕ = c.checks.at in
    let tree = c.tree_of-tree in
    let all = c.checks.invariant in
    let inv = all.checked in
    let many = c.row_len-many in
    let b = blocks-at c.requires in
    let turn = turn-at b inv c.requires.fits.sectors.whole c.from.ensures c.checks-test.true in
    let row = row-at b turn many.result many.ensures.most in
    let put = put-at b turn row c.read_row.new.out c.read_row.auto.out in
    let gets = row-got b turn row tree.ensures.data c.data_extent-extent.ensures c.in-Ok-read_row.ensures.reads in
    let lost = c.in-Ok-read_row.lost in
    let heals = lost-heals v.parity lost c.in-Ok-read_row.ensures.lost in
    let next = row-next b turn row many.ensures.fresh inv.had c.in-Ok.ensures.moved c.in-Ok.ensures.ok gets in
    let far_to = far b turn row many.ensures.fresh inv.had c.in-Ok.ensures.moved c.in-Ok.ensures.ok gets in
    let same = place-turn p tree.result (p.first / c.from.result + j) j tree.ensures.tree.on_hash c.requires.fits.holds.of.on_hash tree.ensures.data tree.ensures.tree.on_parity c.requires.fits.holds.of.on_parity turn.index in
    let to : ℕ = alone_after lost (max c.checks.read (j + many.result)) c.checks.alone in
    let alone_is : c.alone_as_far-alone.result ≡ to = c.alone_as_far-alone.ensures ∙ ap (λ (k : ℕ). alone_after lost k c.checks.alone) c.read_as_far-read.ensures in
    let plain = together-from j c.alone_as_far-alone.result to alone_is in
    let lone = lone-from j c.alone_as_far-alone.result to alone_is in
    let parity = λ (is : nat_lt j c.alone_as_far-alone.result ≡ true). heals-after v.parity lost (max c.checks.read (j + many.result)) c.checks.alone j inv.ahead.heals heals (lone is) in
    let settled = settles-at p tree.result (p.first / c.from.result + j) j _ _ _ _ c.judge-judged.ensures turn.index same c.in-Ok-settle_block.ensures.reads in
    let settled_on = settled-on g.D.BlockDev.state config (place_at p (p.first / block_sectors v + j)) _ settled in
    let settle = c.in-Ok-settle_block.ensures in
    step-met (blocks-meet config p (length c.args.out.now / 512) (omega (arith, c.requires.fits.sectors.some, c.requires.fits.sectors.whole)))
    (record { capacity = settle.cached.capacity ∙ c.in-Ok-read_row.ensures.cached.capacity ∙ c.in-Ok.ensures.cached.capacity ∙ all.cached.capacity; sound = settle.cached.sound })
    (asks-as (Err NoMemory) tt (λ failures. refl) (asks-then (data-touched config v tree.result b.loaded tree.ensures.tree p.device tree.ensures.device all.touches c.in-Ok.ensures.touches (asks-lost v.parity lost c.read_row.new.out (λ none. none tree.result.device.0 tree.result.line v tree.ensures.tree.is) heals c.in-Ok-read_row.ensures.touches)) (asks-up (same-within config tree.ensures.device) settle.touches)))
    (block-costs b _ turn.inside far_to next put.len put.end (settled-moved config v _ parity settled_on))

pub read_blocks-returns-clause-step : goal.read_blocks-returns-clause-step
read_blocks-returns-clause-step g t c =
    let all = c.checks.invariant in
    step-met (blocks-meet c.args.config.now c.args.part (length c.args.out.now / 512) (omega (arith, c.requires.fits.sectors.some, c.requires.fits.sectors.whole))) all.cached all.touches
    (had-spent (blocks-at c.requires) c.checks.read c.checks.at c.checks.at all.checked.most all.checked.within all.checked.within all.checked.had.moved)

pub read_row-read_beneath-requires : goal.read_row-read_beneath-requires
read_row-read_beneath-requires g t c κs within = (omega arith, (within, (c.requires.stack, (c.requires.whole, c.requires.inside))))

pub read_row-returns-in-Ok-clause-touches : goal.read_row-returns-in-Ok-clause-touches
read_row-returns-in-Ok-clause-touches g t c = asks-as (Ok c.read_beneath.new.out) tt (λ failures. refl) c.in-Ok.ensures.touches

pub read_row-returns-then-can_heal-clause-touches : goal.read_row-returns-then-can_heal-clause-touches
read_row-returns-then-can_heal-clause-touches g t c = asks-as (Err c.in-Err.fault) c.in-Err.ensures.touches.fault (λ failures. refl) c.in-Err.ensures.touches

pub read_row-returns-else-can_heal-clause-touches : goal.read_row-returns-else-can_heal-clause-touches
read_row-returns-else-can_heal-clause-touches g t c = asks-as (Err c.in-Err.fault) c.in-Err.ensures.touches.fault (λ failures. refl) c.in-Err.ensures.touches

pub read_row-returns-then-can_heal-clause-lost : goal.read_row-returns-then-can_heal-clause-lost
read_row-returns-then-can_heal-clause-lost g t c = sym c.can_heal.ensures ∙ c.if-can_heal.true

pub read_row-returns-else-can_heal-clause-lost : goal.read_row-returns-else-can_heal-clause-lost
read_row-returns-else-can_heal-clause-lost g t c = sym c.can_heal.ensures ∙ c.if-can_heal.false

pub read_beneath-returns-then-is_empty-clause-reads : goal.read_beneath-returns-then-is_empty-clause-reads
read_beneath-returns-then-is_empty-clause-reads g t c =
    gets-none c.args.config.now c.args.lower c.args.first (map g.D.BlockDev.state c.args.backing.now.devices.items) c.args.out.now (eqb-true (length c.args.out.now) 0 (sym c.if-is_empty.ensures))

pub read_beneath-returns-clause-reads : goal.read_beneath-returns-clause-reads
read_beneath-returns-clause-reads g t c = record { chains = c.read_lower.ensures.reads.after; got = c.read_lower.ensures.reads.reads.got }

-- ---- which leaves are touched

pub read_beneath-returns-clause-touches : goal.read_beneath-returns-clause-touches
read_beneath-returns-clause-touches g t c = asks-less (λ none meets. none) c.read_lower.ensures.step.touches

pub read_checked-returns-in-Err-read_lower-clause-touches : goal.read_checked-returns-in-Err-read_lower-clause-touches
read_checked-returns-in-Err-read_lower-clause-touches g t c = asks-less (λ none meets. none) (asks-as (Err c.in-Err-read_lower.fault) c.in-Err-read_lower.ensures.step.touches.fault (λ failures. refl) c.in-Err-read_lower.ensures.step.touches)

pub read_checked-returns-else-eq-clause-touches : goal.read_checked-returns-else-eq-clause-touches
read_checked-returns-else-eq-clause-touches g t c = asks-less (λ none meets. none) (asks-as (Err (Stack Mismatch)) tt (λ failures. refl) c.in-Ok-read_lower.ensures.step.touches)

pub read_checked-returns-then-eq-clause-touches : goal.read_checked-returns-then-eq-clause-touches
read_checked-returns-then-eq-clause-touches g t c = asks-less (λ none meets. none) (asks-as (Ok (with_items c.in-Ok.block c.read_lower.new.out)) tt (λ failures. refl) c.in-Ok-read_lower.ensures.step.touches)

pub walk-returns-in-Err-clause-touches : goal.walk-returns-in-Err-clause-touches
walk-returns-in-Err-clause-touches g t c = asks-then c.loop-level.invariant.touches (asks-as (Err c.in-Err.first) c.in-Err.ensures.touches.fault (λ failures. refl) c.in-Err.ensures.touches)

pub walk-returns-in-Err-push-clause-touches : goal.walk-returns-in-Err-push-clause-touches
walk-returns-in-Err-push-clause-touches g t c = asks-then c.loop-level.invariant.touches (asks-as (Err NoMemory) tt (λ failures. refl) c.in-Ok.ensures.touches)

pub walk-returns-in-Err-read_data-clause-touches : goal.walk-returns-in-Err-read_data-clause-touches
walk-returns-in-Err-read_data-clause-touches g t c =
    asks-then c.loop-level.invariant.touches (asks-as (Err c.in-Err-read_data.fault) c.in-Err-read_data.ensures.touches.fault (λ failures. refl) c.in-Err-read_data.ensures.touches)

pub walk-returns-in-Ok-read_data-clause-touches : goal.walk-returns-in-Ok-read_data-clause-touches
walk-returns-in-Ok-read_data-clause-touches g t c =
    asks-then c.loop-level.invariant.touches (asks-as (Ok _) tt (λ failures. refl) c.in-Ok-read_data.ensures.touches)

pub path_block-returns-in-Err-clause-touches : goal.path_block-returns-in-Err-clause-touches
path_block-returns-in-Err-clause-touches g t c = asks-as (Err c.in-Err.fault) c.in-Err.ensures.touches.fault (λ failures. refl) c.in-Err.ensures.touches

pub path_block-returns-in-Err-put-clause-touches : goal.path_block-returns-in-Err-put-clause-touches
path_block-returns-in-Err-put-clause-touches g t c = asks-as (Err NoMemory) tt (λ failures. refl) c.in-Ok.ensures.touches

pub path_block-returns-in-Ok-put-clause-touches : goal.path_block-returns-in-Ok-put-clause-touches
path_block-returns-in-Ok-put-clause-touches g t c = asks-as (Ok tt) tt (λ failures. refl) c.in-Ok.ensures.touches

pub walk_path-returns-in-Err-clause-touches : goal.walk_path-returns-in-Err-clause-touches
walk_path-returns-in-Err-clause-touches g t c =
    asks-then c.loop-left.invariant.touches (asks-as (Err c.in-Err.first) c.in-Err.ensures.touches.fault (λ failures. refl) c.in-Err.ensures.touches)

pub walk_path-returns-clause-touches : goal.walk_path-returns-clause-touches
walk_path-returns-clause-touches g t c = asks-as (Ok c.loop-left.digest) tt (λ failures. refl) c.loop-left.invariant.touches

-- ---- budgets

pub read_device-loop-at-init : goal.read_device-loop-at-init
read_device-loop-at-init g t c =
    record {
      whole = refl;
      within = omega arith;
      so_far = finds-begin c.args.chains c.requires.kept;
      given = gives-begin c.args.from.0.0 c.args.from.1 (length c.args.out.now / 512);
      step = device-begin c.args.from.0.0 c.args.from.1 c.requires.stack.cached;
      cut = inl refl;
    }

pub read_device-returns-in-Err-clause-step : goal.read_device-returns-in-Err-clause-step
read_device-returns-in-Err-clause-step g t c =
    let next = c.run_to_read-run in
    let inv = c.loop-at.invariant in
    let run = next-run c.args.from.1 c.loop-at.at (length c.args.out.now / 512) c.loop-at.out inv.whole c.loop-at-test.true (omega (arith, c.loop-at.auto.out)) next.ensures.run.served next.ensures.run.some next.ensures.run.most next.ensures.run.longest in
    device-step-err c.requires.stack.sound.loaded run inv.cut run.sectors inv.step c.in-Err.ensures.step

pub read_device-returns-clause-step : goal.read_device-returns-clause-step
read_device-returns-clause-step g t c =
    let all : c.loop-at.at / 512 ≡ length c.args.out.now / 512 = omega (arith, c.loop-at.invariant.within, c.loop-at-test.false, c.loop-at.auto.out) in
    subst (λ (n : ℕ). IsReadStep c.args.config.now (run_beneath c.args.config.now (mapped c.args.from.0.0) c.args.from.1 n) (backing_of g.D.BlockDev.state c.args.backing.now) (backing_of g.D.BlockDev.state c.loop-at.backing) (Ok tt)) all c.loop-at.invariant.step

-- ---- which calls were made

pub read_lower-returns-in-Leaf-clause-given : goal.read_lower-returns-in-Leaf-clause-given
read_lower-returns-in-Leaf-clause-given g t c =
    let config = c.args.config.now in
    let does = DeviceDoes g.D.BlockDev.state g.D.BlockDev.does in
    let first = c.args.from.1 in
    let n : ℕ = length c.args.out.now / 512 in
    let devices = c.args.backing.now.devices in
    let answer : Result (List ℕ) IoFault = buffer_answer c.read_leaf.result c.read_leaf.new.out in
    let stands : (with_items devices c.read_leaf.new.devices).items ≡ c.read_leaf.new.devices =
    with_items_is devices c.read_leaf.new.devices (c.read_leaf.auto.devices ∙ ap (λ l. length l) c.as_mut_slice.ensures.value ∙ sym devices.ok.0) in
    let made = subst (λ ds. IsLeafCall does c.in-Leaf.leaf ds (Read first c.read_leaf.new.out (is_ok c.read_leaf.result)) c.read_leaf.new.devices) c.as_mut_slice.ensures.value c.read_leaf.ensures.call in
    let old = served c.args.backing.now in
    subst (λ ds. Gives does config (Below c.args.from.0 first) n old (serving ds old.restored) answer) (sym stands)
    (subst (λ (x : Lower). Gives does config (Below x first) n old (serving c.read_leaf.new.devices old.restored) answer) (sym c.in-Leaf.is)
    (leaf-given c.in-Leaf.leaf first n c.read_leaf.new.out c.read_leaf.result (ap (λ (k : ℕ). k / 512) c.read_leaf.auto.out) c.read_leaf.ensures.err made))

pub read_lower-returns-in-Device-clause-given : goal.read_lower-returns-in-Device-clause-given
read_lower-returns-in-Device-clause-given g t c = rw c.in-Device.is c.read_device.ensures.given

pub read_run-returns-in-Below-clause-given : goal.read_run-returns-in-Below-clause-given
read_run-returns-in-Below-clause-given g t c =
    rw c.in-Below.is c.read_lower.ensures.given

pub read_run-returns-in-Units-clause-given : goal.read_run-returns-in-Units-clause-given
read_run-returns-in-Units-clause-given g t c = rw c.in-Units.is c.read_units.ensures.given

pub read_run-returns-in-UnitPart-clause-given : goal.read_run-returns-in-UnitPart-clause-given
read_run-returns-in-UnitPart-clause-given g t c = rw c.in-UnitPart.is c.read_unit_part.ensures.given

pub read_run-returns-in-Zeros-clause-given : goal.read_run-returns-in-Zeros-clause-given
read_run-returns-in-Zeros-clause-given g t c =
    let does = DeviceDoes g.D.BlockDev.state g.D.BlockDev.does in
    let old = served c.args.backing.now in
    let n : ℕ = length c.args.out.now / 512 in
    let whole : length c.args.out.now ≡ 512 * n = omega (arith, c.requires.fits.sectors.whole) in
    subst (λ (s : Source). Gives does c.args.config.now s n old old (Ok c.fill_zeros.new.out)) (sym c.in-Zeros.is)
    (subst (λ (b : List ℕ). Gives does c.args.config.now Zeros n old old (Ok b)) (sym (c.fill_zeros.ensures ∙ ap (λ (k : ℕ). replicate k 0) whole)) (reads-none (zeros_read n)))

pub read_run-returns-in-Fails-clause-given : goal.read_run-returns-in-Fails-clause-given
read_run-returns-in-Fails-clause-given g t c = rw c.in-Fails.is (reads-none (fails_read (length c.args.out.now / 512)))

pub read_run-returns-in-Block-clause-given : goal.read_run-returns-in-Block-clause-given
read_run-returns-in-Block-clause-given g t c = rw c.in-Block.is c.read_block.ensures.given

pub read_run-returns-in-Blocks-clause-given : goal.read_run-returns-in-Blocks-clause-given
read_run-returns-in-Blocks-clause-given g t c = rw c.in-Blocks.is c.read_blocks.ensures.given

pub read_units-returns-in-Ok-clause-given : goal.read_units-returns-in-Ok-clause-given
read_units-returns-in-Ok-clause-given g t c =
    let x = c.args.part in
    let n : ℕ = length c.args.out.now / 512 in
    let unit = c.unit_at-unit in
    units-given x unit.result.first n c.read_lower.new.out _ unit.ensures.first (c.decrypt.ensures ∙ ap (λ (k : ℕ). decrypted_units x.units x.key.now k c.read_lower.new.out) unit.ensures.index)
    c.in-Ok.ensures.given

pub read_units-returns-in-Err-clause-given : goal.read_units-returns-in-Err-clause-given
read_units-returns-in-Err-clause-given g t c =
    let x = c.args.part in
    let n : ℕ = length c.args.out.now / 512 in
    let unit = c.unit_at-unit in
    units-ungiven x unit.result.first n c.in-Err.fault unit.ensures.first c.in-Err.ensures.given

pub read_unit_part-returns-in-Ok-clause-given : goal.read_unit_part-returns-in-Ok-clause-given
read_unit_part-returns-in-Ok-clause-given g t c =
    let x = c.args.part in
    let n : ℕ = length c.args.out.now / 512 in
    let whole = c.whole_unit-whole in
    let of = whole.ensures.whole in
    let count = room_sectors c.as_mut_slice-all.result.now whole.result.sectors (ap (λ (l : List ℕ). length l) c.as_mut_slice-all.ensures.value) whole.ensures.few in
    let len : length c.args.out.now ≡ 512 * n = omega (arith, c.requires.fits.sectors.whole) in
    let is : c.take_sectors.new.out ≡ take (512 * n) (drop (512 * (x.first % per_unit x.units)) c.read_units.new.out) =
    c.take_sectors.ensures ∙ ap (λ (k : ℕ). take k (drop (512 * whole.result.within) c.read_units.new.out)) len ∙ ap (λ (k : ℕ). take (512 * n) (drop (512 * k) c.read_units.new.out)) of.within in
    part-given x whole.result _ n c.read_units.new.out c.take_sectors.new.out of count is
    c.in-Ok.ensures.given

pub read_unit_part-returns-in-Err-clause-given : goal.read_unit_part-returns-in-Err-clause-given
read_unit_part-returns-in-Err-clause-given g t c =
    let x = c.args.part in
    let n : ℕ = length c.args.out.now / 512 in
    let whole = c.whole_unit-whole in
    let count = room_sectors c.as_mut_slice-all.result.now whole.result.sectors (ap (λ (l : List ℕ). length l) c.as_mut_slice-all.ensures.value) whole.ensures.few in
    part-ungiven x whole.result _ n c.in-Err.fault whole.ensures.whole count c.in-Err.ensures.given

pub read_device-returns-in-Err-clause-given : goal.read_device-returns-in-Err-clause-given
read_device-returns-in-Err-clause-given g t c =
    let config = c.args.config.now in
    let does = DeviceDoes g.D.BlockDev.state g.D.BlockDev.does in
    let next = c.run_to_read-run in
    let inv = c.loop-at.invariant in
    let source = next.result.source in
    let run = next-run c.args.from.1 c.loop-at.at (length c.args.out.now / 512) c.loop-at.out inv.whole c.loop-at-test.true (omega (arith, c.loop-at.auto.out)) next.ensures.run.served next.ensures.run.some next.ensures.run.most next.ensures.run.longest in
    let here = subst (λ (k : ℕ). Gives does config source k (served c.loop-at.backing) (served c.read_run.new.backing) (Err c.in-Err.fault)) run.sectors c.in-Err.ensures.given in
    run-ungiven c.args.from.0.0 c.args.from.1 (length c.args.out.now / 512) (c.loop-at.at / 512) ((length c.loop-at.out - c.loop-at.at) / 512) next.result (take c.loop-at.at c.loop-at.out) c.in-Err.fault run.left next.ensures.run inv.given here

pub read_device-returns-clause-given : goal.read_device-returns-clause-given
read_device-returns-clause-given g t c =
    let inv = c.loop-at.invariant in
    let at = c.loop-at.at in
    let all : at / 512 ≡ length c.args.out.now / 512 = omega (arith, inv.within, c.loop-at-test.false, c.loop-at.auto.out) in
    subst (λ (b : List ℕ). Gives (DeviceDoes g.D.BlockDev.state g.D.BlockDev.does) c.args.config.now (Below (mapped c.args.from.0.0) c.args.from.1) (length c.args.out.now / 512) (served c.args.backing.now) (served c.loop-at.backing) (Ok b)) (take_all at c.loop-at.out (omega (arith, c.loop-at-test.false)))
    (all-given c.args.from.0.0 c.args.from.1 (length c.args.out.now / 512) (at / 512) (take at c.loop-at.out) all inv.given)

-- ---- which calls were made over `verity` lines

pub walk-loop-level-init : goal.walk-loop-level-init
walk-loop-level-init g t c =
    let config = c.args.config.now in
    let v = c.args.verity.now in
    let place = place_in v c.args.tree.now c.args.index in
    let devices = c.args.backing.now.devices.items in
    let all : c.levels-level.result ≡ levels (tree_of v) = c.levels-level.ensures.value ∙ ap levels c.requires.block.lies.shape_is in
    record {
      walked = walk-begins (block_in config v c.args.index) (sym all) (sym (ap (map bytes) c.new-path.ensures.items));
      cached = record { capacity = refl; sound = c.requires.stack.cached };
      touches = asks-none _ (leaves_of config (mapped c.args.tree.now.device.0)) (map g.D.BlockDev.state devices) (Ok tt) tt refl;
      given = ([], subst (λ (k : ℕ). LeadsTo (DeviceDoes g.D.BlockDev.state g.D.BlockDev.does) config (whole_data place (one_asked c.args.part)) (data_of place k v.root [] (one_asked c.args.part)) (served c.args.backing.now) (served c.args.backing.now)) (sym all) (leads-begin (whole_data place (one_asked c.args.part))));
    }

pub walk_path-loop-left-init : goal.walk_path-loop-left-init
walk_path-loop-left-init g t c =
    let config = c.args.config.now in
    let v = c.args.verity.now in
    let place = place_in v c.args.tree.now c.args.index in
    let devices = c.args.backing.now.devices.items in
    let all : c.levels-left.result ≡ levels (tree_of v) = c.levels-left.ensures.value ∙ ap levels c.requires.block.lies.shape_is in
    record {
      within = omega arith;
      walked = walk-begins (block_in config v c.args.index) (sym all) refl;
      held = c.requires.held;
      cached = record { capacity = refl; sound = c.requires.stack.cached };
      touches = asks-none _ (leaves_of config (mapped c.args.tree.now.device.0)) (map g.D.BlockDev.state devices) (Ok tt) tt refl;
      given = λ next. subst (λ (k : ℕ). LeadsTo (DeviceDoes g.D.BlockDev.state g.D.BlockDev.does) config (whole_data place next) (data_of place k v.root [] next) (served c.args.backing.now) (served c.args.backing.now)) (sym all) (leads-begin (whole_data place next));
    }

pub read_checked-returns-in-Err-clause-given : goal.read_checked-returns-in-Err-clause-given
read_checked-returns-in-Err-clause-given g t c = reads-none (block_full (expected_in c.args.extent c.args.salt.now c.args.expected.now))

pub read_checked-returns-in-Err-read_lower-clause-given : goal.read_checked-returns-in-Err-read_lower-clause-given
read_checked-returns-in-Err-read_lower-clause-given g t c =
    let block = c.in-Ok.block in
    let held : length c.read_lower.new.out ≡ block.len = c.read_lower.auto.out ∙ ap (λ (l : List ℕ). length l) c.as_mut_slice.ensures.value ∙ sym block.ok.0 in
    let count : length c.as_mut_slice.result.now / 512 ≡ c.args.extent.sectors = omega (arith, held, c.in-Ok.ensures.ok, c.read_lower.auto.out) in
    block-ungiven count c.in-Err-read_lower.ensures.given

pub read_checked-returns-then-eq-clause-given : goal.read_checked-returns-then-eq-clause-given
read_checked-returns-then-eq-clause-given g t c =
    let e = c.args.extent in
    let salt = c.args.salt.now in
    let expected = c.args.expected.now in
    let block = c.in-Ok.block in
    let out = c.read_lower.new.out in
    let held : length out ≡ block.len = c.read_lower.auto.out ∙ ap (λ (l : List ℕ). length l) c.as_mut_slice.ensures.value ∙ sym block.ok.0 in
    let items : bytes (with_items block out) ≡ out = with_items_is block out held in
    let value : c.as_slice.result.now ≡ out = c.as_slice.ensures.value ∙ items in
    let good : c.digest.result ≡ expected = (bytes_eq-Decides c.digest.result expected).0 (sym c.eq.ensures ∙ c.if-eq.true) in
    let count : length c.as_mut_slice.result.now / 512 ≡ e.sectors = omega (arith, held, c.in-Ok.ensures.ok, c.read_lower.auto.out) in
    subst (λ (b : List ℕ). ReadsBy (DeviceDoes g.D.BlockDev.state g.D.BlockDev.does) c.args.config.now (block_of (expected_in e salt expected)) (served c.args.backing.now) (served c.read_lower.new.backing) (Ok b)) (sym items)
    (checked-given count (ap (digest salt) (sym value) ∙ sym c.digest.ensures ∙ good) c.in-Ok-read_lower.ensures.given)

pub read_checked-returns-else-eq-clause-given : goal.read_checked-returns-else-eq-clause-given
read_checked-returns-else-eq-clause-given g t c =
    let e = c.args.extent in
    let salt = c.args.salt.now in
    let expected = c.args.expected.now in
    let block = c.in-Ok.block in
    let out = c.read_lower.new.out in
    let held : length out ≡ block.len = c.read_lower.auto.out ∙ ap (λ (l : List ℕ). length l) c.as_mut_slice.ensures.value ∙ sym block.ok.0 in
    let value : c.as_slice.result.now ≡ out = c.as_slice.ensures.value ∙ with_items_is block out held in
    let count : length c.as_mut_slice.result.now / 512 ≡ e.sectors = omega (arith, held, c.in-Ok.ensures.ok, c.read_lower.auto.out) in
    let other : digest salt out ≡ expected → ⊥ = λ same.
    let made : c.digest.result ≡ expected = c.digest.ensures ∙ ap (digest salt) value ∙ same in
    let clash : false ≡ true = sym c.if-eq.false ∙ c.eq.ensures ∙ (bytes_eq-Decides c.digest.result expected).1 made in
    cc in
    differs-given count other c.in-Ok-read_lower.ensures.given

pub hash_block-returns-in-Err-clause-given : goal.hash_block-returns-in-Err-clause-given
hash_block-returns-in-Err-clause-given g t c = reads-none (hash_full (expected_in c.args.extent c.args.salt.now c.args.expected.now))

pub hash_block-returns-in-Ok-Some-clause-given : goal.hash_block-returns-in-Ok-Some-clause-given
hash_block-returns-in-Ok-Some-clause-given g t c =
    let hit = cached-hit c.args.config.now c.requires.key bytes c.in-Ok-Some.block c.args.expected.now (map g.D.BlockDev.state c.args.backing.now.devices.items) c.args.backing.now.cache c.requires.stack.cached
    (sym (ap (λ (o : Option (Vec ℕ Global)). option_map bytes o) c.in-Ok-Some.field-0-is) ∙ c.in-Ok-Some.ensures.answer) in
    reads-none (hash_kept (expected_in c.args.extent c.args.salt.now c.args.expected.now) c.in-Ok-Some.block.items hit.may)

pub hash_block-returns-in-Err-read_checked-clause-given : goal.hash_block-returns-in-Err-read_checked-clause-given
hash_block-returns-in-Err-read_checked-clause-given g t c = hash-given c.in-Err-read_checked.ensures.given

pub hash_block-returns-in-Ok-clause-given : goal.hash_block-returns-in-Ok-clause-given
hash_block-returns-in-Ok-clause-given g t c = hash-given c.in-Ok.ensures.given

pub read_data-returns-in-Ok-clause-given : goal.read_data-returns-in-Ok-clause-given
read_data-returns-in-Ok-clause-given g t c last =
    let place = place_in c.args.verity.now c.args.tree.now c.args.wanted.now.block in
    let at = served c.args.backing.now in
    subst (λ (b : List ℕ). ReadsBy (DeviceDoes g.D.BlockDev.state g.D.BlockDev.does) c.args.config.now (data_of place 0 c.args.wanted.now.digest last (one_asked c.args.wanted.now.part)) at at (Ok b)) (sym c.in-Ok.ensures.ok)
    (one-asked c.args.wanted.now.part (reads-none (one_ignored place c.args.wanted.now.digest last (sym c.is_ignored.ensures ∙ c.if-is_ignored.true))))

pub read_data-returns-in-Err-clause-given : goal.read_data-returns-in-Err-clause-given
read_data-returns-in-Err-clause-given g t c last = reads-none (way_full (place_in c.args.verity.now c.args.tree.now c.args.wanted.now.block) 0 c.args.wanted.now.digest last (one_asked c.args.wanted.now.part))

pub read_data-returns-in-Err-kept_data-clause-given : goal.read_data-returns-in-Err-kept_data-clause-given
read_data-returns-in-Err-kept_data-clause-given g t c last = reads-none (way_full (place_in c.args.verity.now c.args.tree.now c.args.wanted.now.block) 0 c.args.wanted.now.digest last (one_asked c.args.wanted.now.part))

pub read_data-returns-in-Ok-Some-clause-given : goal.read_data-returns-in-Ok-Some-clause-given
read_data-returns-in-Ok-Some-clause-given g t c last =
    let used = sym c.is_ignored.ensures ∙ c.if-is_ignored.false in
    let found = subst (λ (o : Option (Vec ℕ Global)). IfSome o (λ block. IsKeptData c.args.tree.now c.args.wanted.now c.args.backing.now.cache.last block.items)) c.in-Ok-Some.field-0-is c.in-Ok-Some.ensures.answer in
    let had = kept-data-had c.args.config.now c.args.verity.now c.args.tree.now c.args.wanted.now c.requires.stack.sound.loaded c.requires.block.lies c.requires.block.there (map g.D.BlockDev.state c.args.backing.now.devices.items) c.args.backing.now.cache c.requires.stack.cached used c.in-Ok-Some.block found in
    one-kept (place_in c.args.verity.now c.args.tree.now c.args.wanted.now.block) last c.in-Ok-Some.block.items c.args.wanted.now.part found.part used had.may

pub read_data-returns-in-Ok-None-clause-given : goal.read_data-returns-in-Ok-None-clause-given
read_data-returns-in-Ok-None-clause-given g t c last = one-asked c.args.wanted.now.part (c.fetch_data.ensures.given last)

pub walk-returns-in-Err-clause-given : goal.walk-returns-in-Err-clause-given
walk-returns-in-Err-clause-given g t c = way-unled c.loop-level.level (c.loop-level.level - 1) (omega (arith, c.loop-level-test.true)) c.loop-level.invariant.given.1 c.in-Err.ensures.given

pub walk-returns-in-Err-push-clause-given : goal.walk-returns-in-Err-push-clause-given
walk-returns-in-Err-push-clause-given g t c = way-short (way-led c.loop-level.level (c.loop-level.level - 1) c.in-Ok.block.items (omega (arith, c.loop-level-test.true)) c.loop-level.invariant.given.1 c.in-Ok.ensures.given)

pub walk-returns-in-Err-read_data-clause-given : goal.walk-returns-in-Err-read_data-clause-given
walk-returns-in-Err-read_data-clause-given g t c =
    way-ended c.loop-level.level (omega (arith, c.loop-level-test.false)) c.loop-level.invariant.given.1 (c.in-Err-read_data.ensures.given c.loop-level.invariant.given.0)

pub walk-returns-in-Ok-read_data-clause-given : goal.walk-returns-in-Ok-read_data-clause-given
walk-returns-in-Ok-read_data-clause-given g t c =
    way-ended c.loop-level.level (omega (arith, c.loop-level-test.false)) c.loop-level.invariant.given.1 (c.in-Ok-read_data.ensures.given c.loop-level.invariant.given.0)

pub read_block-returns-in-Some-clause-given : goal.read_block-returns-in-Some-clause-given
read_block-returns-in-Some-clause-given g t c =
    let config = c.args.config.now in
    let v = c.args.part.verity.now in
    let p = c.args.part in
    let n : ℕ = length c.args.out.now / 512 in
    let found = c.args.found.now.items in
    let leaves = map g.D.BlockDev.state c.args.backing.now.devices.items in
    let sectors : c.from-sectors.result ≡ block_sectors v = c.from-sectors.ensures in
    let x = get_or found c.in-Some.at any_found in
    let there : c.in-Some.at < length found = omega (arith, c.in-Some.ensures.some.0, ap (λ (l : List FoundRecord). length l) c.as_slice.ensures.value) in
    let at : found_entry x ≡ (p.device.0, p.line, p.first / block_sectors v) =
    ap (λ (l : List FoundRecord). found_entry (get_or l c.in-Some.at any_found)) (sym c.as_slice.ensures.value) ∙ c.in-Some.ensures.some.1 any_found ∙ ap (λ (k : ℕ). (p.device.0, p.line, p.first / k)) sectors in
    let len : length c.args.out.now ≡ 512 * n = omega (arith, c.requires.fits.sectors.whole) in
    let is : c.copy_part.new.out ≡ take (512 * n) (drop (512 * (p.first % block_sectors v)) x.chain.content) =
    c.copy_part.ensures any_found
    ∙ ap (λ (l : List FoundRecord). take (length c.args.out.now) (drop (512 * (p.first % c.from-sectors.result)) ((get_or l c.in-Some.at any_found).chain.content))) c.as_slice-in-Some.ensures.value
    ∙ ap (λ (k : ℕ). take k (drop (512 * (p.first % c.from-sectors.result)) x.chain.content)) len
    ∙ ap (λ (k : ℕ). take (512 * n) (drop (512 * (p.first % k)) x.chain.content)) sectors in
    let one = kept_for config leaves p.device.0 p.line (p.first / block_sectors v) v x (block-at c.requires).line at (kept_at config leaves found x c.requires.kept (contains_at found c.in-Some.at any_found there)) in
    chain-given p n x.chain is (ap (λ (e : Entry). e.2) at) one.good

pub read_block-returns-in-Err-clause-given : goal.read_block-returns-in-Err-clause-given
read_block-returns-in-Err-clause-given g t c =
    let tree = c.tree_of-tree in
    data-ungiven c.args.part (length c.args.out.now / 512) c.from-sectors.ensures (place-same c.args.part tree.result (c.args.part.first / c.from-sectors.result) tree.ensures.tree.on_hash c.requires.fits.holds.of.on_hash tree.ensures.data tree.ensures.tree.on_parity c.requires.fits.holds.of.on_parity) refl c.in-Err.ensures.given

pub read_block-returns-in-Err-push-clause-given : goal.read_block-returns-in-Err-push-clause-given
read_block-returns-in-Err-push-clause-given g t c =
    let tree = c.tree_of-tree in
    data-short c.args.part (length c.args.out.now / 512) c.from-sectors.ensures (place-same c.args.part tree.result (c.args.part.first / c.from-sectors.result) tree.ensures.tree.on_hash c.requires.fits.holds.of.on_hash tree.ensures.data tree.ensures.tree.on_parity c.requires.fits.holds.of.on_parity) refl c.in-Ok.ensures.given

pub read_block-returns-in-Ok-push-clause-given : goal.read_block-returns-in-Ok-push-clause-given
read_block-returns-in-Ok-push-clause-given g t c =
    let v = c.args.part.verity.now in
    let p = c.args.part in
    let n : ℕ = length c.args.out.now / 512 in
    let found = c.args.found.now.items in
    let tree = c.tree_of-tree in
    let sectors : c.from-sectors.result ≡ block_sectors v = c.from-sectors.ensures in
    let one : FoundRecord = record { device = p.device.0; line = p.line; chain = c.in-Ok.chain } in
    let value : c.as_slice-in-Ok-push.result.now ≡ found ++ (one ∷ []) = c.as_slice-in-Ok-push.ensures.value ∙ c.in-Ok-push.ensures.ok in
    let at : c.len-at.result ≡ length found = c.len-at.ensures ∙ c.args.found.now.ok.0 in
    let here : get_or c.as_slice-in-Ok-push.result.now c.len-at.result any_found ≡ one =
    ap (λ (l : List FoundRecord). get_or l c.len-at.result any_found) value ∙ ap (λ (k : ℕ). get_or (found ++ (one ∷ [])) k any_found) at ∙ get_or-append_seam found one [] any_found in
    let len : length c.args.out.now ≡ 512 * n = omega (arith, c.requires.fits.sectors.whole) in
    let is : c.copy_part-in-Ok-push.new.out ≡ take (512 * n) (drop (512 * (p.first % block_sectors v)) c.in-Ok.chain.content) =
    c.copy_part-in-Ok-push.ensures any_found
    ∙ ap (λ (y : FoundRecord). take (length c.args.out.now) (drop (512 * (p.first % c.from-sectors.result)) y.chain.content)) here
    ∙ ap (λ (k : ℕ). take k (drop (512 * (p.first % c.from-sectors.result)) c.in-Ok.chain.content)) len
    ∙ ap (λ (k : ℕ). take (512 * n) (drop (512 * (p.first % k)) c.in-Ok.chain.content)) sectors in
    data-given p n sectors (place-same p tree.result (p.first / c.from-sectors.result) tree.ensures.tree.on_hash c.requires.fits.holds.of.on_hash tree.ensures.data tree.ensures.tree.on_parity c.requires.fits.holds.of.on_parity) refl is c.in-Ok.ensures.given

pub path_block-returns-then-stands-clause-given : goal.path_block-returns-then-stands-clause-given
path_block-returns-then-stands-clause-given g t c x =
    let config = c.args.config.now in
    let v = c.args.verity.now in
    let tree = c.args.tree.now in
    let w = c.args.wanted.now in
    let stands = c.stands.ensures c.if-stands.true in
    let value = c.as_slice.ensures.value in
    let there = subst (λ (l : List CachedBlock). w.at < length l) value stands.0 in
    let key = subst (λ (l : List CachedBlock). (get_or l w.at x).key ≡ c.hash_key-key.result) value (stands.1 x).0 in
    let digest = subst (λ (l : List CachedBlock). (get_or l w.at x).digest ≡ w.digest) value (stands.1 x).1 in
    let own = path-hit config v tree w.level w.block c.requires.block.lies w.digest _ c.args.path.now.items w.at x c.requires.held there (key ∙ way-key config v tree w.level w.block c.hash_key-key.result c.requires.block.lies c.hash_key-key.ensures) digest in
    reads-none (way_had tt (hash_kept (expected_hash (place_in v tree w.block) w.level w.digest) _ own.may))

pub path_block-returns-in-Err-clause-given : goal.path_block-returns-in-Err-clause-given
path_block-returns-in-Err-clause-given g t c x = c.in-Err.ensures.given

pub path_block-returns-in-Err-put-clause-given : goal.path_block-returns-in-Err-put-clause-given
path_block-returns-in-Err-put-clause-given g t c x = way-ungiven c.in-Ok.ensures.given

pub path_block-returns-in-Ok-put-clause-given : goal.path_block-returns-in-Ok-put-clause-given
path_block-returns-in-Ok-put-clause-given g t c x =
    let v = c.args.verity.now in
    let w = c.args.wanted.now in
    let path = c.args.path.now.items in
    let one : CachedBlock = record { key = c.hash_key-key.result; digest = w.digest; bytes = bytes c.in-Ok.bytes } in
    let front : w.at ≡ length (take w.at path) = sym (length-take-le w.at path c.requires.at) in
    let here : get_or c.put.new.path.items w.at x ≡ one =
    ap (λ (l : List CachedBlock). get_or l w.at x) c.in-Ok-put.ensures.ok ∙ ap (λ (k : ℕ). get_or (take w.at path ++ (one ∷ [])) k x) front ∙ get_or-append_seam (take w.at path) one [] x in
    subst (λ (b : List ℕ). ReadsBy (DeviceDoes g.D.BlockDev.state g.D.BlockDev.does) c.args.config.now (way_of (place_in v c.args.tree.now w.block) w.level w.digest) (served c.args.backing.now) (served c.way_block.new.backing) (Ok b))
    (sym (ap (λ (b : CachedBlock). b.bytes) here)) c.in-Ok.ensures.given

pub walk_path-returns-in-Err-clause-given : goal.walk_path-returns-in-Err-clause-given
walk_path-returns-in-Err-clause-given g t c next = way-unled c.loop-left.left (c.loop-left.left - 1) (omega (arith, c.loop-left-test.true)) (c.loop-left.invariant.given next) (c.in-Err.ensures.given no_block)

pub walk_path-returns-clause-given : goal.walk_path-returns-clause-given
walk_path-returns-clause-given g t c next =
    let v = c.args.verity.now in
    let place = place_in v c.args.tree.now c.args.index in
    let inv = c.loop-left.invariant in
    let at : ℕ = c.loop-left.at in
    let path = c.loop-left.path.items in
    let none : c.loop-left.left ≡ 0 = omega (arith, c.loop-left-test.false) in
    let all : at ≡ levels (tree_of v) = omega (arith, inv.walked.count, none, inv.within, length-map (take at path) block_bytes, length-take at path) in
    let Leads : ℕ → ℕ → Type 0 = λ l k. LeadsTo (DeviceDoes g.D.BlockDev.state g.D.BlockDev.does) c.args.config.now (whole_data place next) (data_of place l c.loop-left.digest (last_bytes (take k path)) next) (served c.args.backing.now) (served c.loop-left.backing) in
    subst (λ (k : ℕ). Leads 0 k) all (subst (λ (l : ℕ). Leads l at) none (inv.given next))

pub read_beneath-returns-then-is_empty-clause-given : goal.read_beneath-returns-then-is_empty-clause-given
read_beneath-returns-then-is_empty-clause-given g t c =
    let empty = eqb-true (length c.args.out.now) 0 (sym c.if-is_empty.ensures) in
    record { none = λ e. (refl, refl); some = λ more. absurd (omega (arith, more, empty)) }

pub read_beneath-returns-clause-given : goal.read_beneath-returns-clause-given
read_beneath-returns-clause-given g t c =
    record {
      none = λ e. absurd (let clash : false ≡ true = c.if-is_empty.ensures ∙ ap (λ (k : ℕ). eqb k 0) e in cc);
      some = λ more. c.read_lower.ensures.given;
    }

pub read_blocks-returns-in-Err-clause-given : goal.read_blocks-returns-in-Err-clause-given
read_blocks-returns-in-Err-clause-given g t c =
    let turn = turn-at (blocks-at c.requires) c.checks.invariant.checked c.requires.fits.sectors.whole c.from.ensures c.checks-test.true in
    let tree = c.tree_of-tree in
    blocks-unled c.checks.invariant.given turn.inside (place-turn c.args.part tree.result (c.args.part.first / c.from.result + c.checks.at) c.checks.at tree.ensures.tree.on_hash c.requires.fits.holds.of.on_hash tree.ensures.data tree.ensures.tree.on_parity c.requires.fits.holds.of.on_parity turn.index) c.in-Err.ensures.given

pub read_blocks-returns-in-Err-read_row-clause-given : goal.read_blocks-returns-in-Err-read_row-clause-given
read_blocks-returns-in-Err-read_row-clause-given g t c =
    let b = blocks-at c.requires in
    let v = c.args.part.verity.now in
    let tree = c.tree_of-tree in
    let many = c.row_len-many in
    let given = c.in-Err-read_row.ensures.given in
    let turn = turn-at b c.checks.invariant.checked c.requires.fits.sectors.whole c.from.ensures c.checks-test.true in
    let row = row-at b turn many.result many.ensures.most in
    let same = place-turn c.args.part tree.result (c.args.part.first / c.from.result + c.checks.at) c.checks.at tree.ensures.tree.on_hash c.requires.fits.holds.of.on_hash tree.ensures.data tree.ensures.tree.on_parity c.requires.fits.holds.of.on_parity turn.index in
    let walked = blocks-way c.checks.invariant.given turn.inside same c.in-Ok.ensures.given in
    let goes = path-last c.as_slice.ensures.value (c.levels.ensures.value ∙ ap levels tree.ensures.tree.shape_is) in
    let some : 0 < many.result = row-asked many.result v.data_block _ row.len (λ none. let clash : false ≡ true = (given.none none).1 in cc) in
    let low : c.checks.read ≤ c.checks.at = elim many.ensures.fresh [ inl none ↦ absurd (omega (arith, none, some)) | inr old ↦ old ] in
    let j : ℕ = c.checks.at in
    let high : c.checks.alone ≤ j = elim (cases_lt j c.checks.alone) [ inl alone ↦ absurd (omega (arith, c.checks.invariant.checked.ahead.lone alone, alone, low)) | inr high ↦ high ] in
    row-ungiven (way-plain high walked) many.result low c.in-Err-read_row.ensures.lost (together-at c.args.part (length c.args.out.now / 512) j many.result _ same turn.count goes c.is_ignored.ensures (many.ensures.together some))
    (gives-at c.args.part j many.result tree.ensures.data (row-begins (block_sectors v) (c.args.part.first / c.from.result + j) (c.args.part.first / block_sectors v + j) c.data_extent-extent.ensures.value turn.index) row.sectors (row-some many.result v.data_block (block_sectors v) _ row.len b.size.whole b.size.some some) given)

pub read_blocks-returns-in-Err-settle_block-clause-given : goal.read_blocks-returns-in-Err-settle_block-clause-given
read_blocks-returns-in-Err-settle_block-clause-given g t c =
    let config = c.args.config.now in
    let p = c.args.part in
    let v = c.args.part.verity.now in
    let j : ℕ = c.checks.at in
    let tree = c.tree_of-tree in
    let all = c.checks.invariant in
    let inv = all.checked in
    let many = c.row_len-many in
    let b = blocks-at c.requires in
    let turn = turn-at b inv c.requires.fits.sectors.whole c.from.ensures c.checks-test.true in
    let row = row-at b turn many.result many.ensures.most in
    let put = put-at b turn row c.read_row.new.out c.read_row.auto.out in
    let gets = row-got b turn row tree.ensures.data c.data_extent-extent.ensures c.in-Ok-read_row.ensures.reads in
    let lost = c.in-Ok-read_row.lost in
    let heals = lost-heals v.parity lost c.in-Ok-read_row.ensures.lost in
    let next = row-next b turn row many.ensures.fresh inv.had c.in-Ok.ensures.moved c.in-Ok.ensures.ok gets in
    let far_to = far b turn row many.ensures.fresh inv.had c.in-Ok.ensures.moved c.in-Ok.ensures.ok gets in
    let kept = row-kept b turn row many.ensures.fresh lost c.checks.made heals inv.had c.in-Ok.ensures.moved gets (all-whole g.D.BlockDev.state g.met.D.BlockDev.whole c.walk_path.new.backing.devices.items) inv.room inv.ahead put c.digest_blocks.ensures in
    let made : List (List ℕ) = put_mid j (j + many.result - j) c.checks.made c.digest_blocks.new.out in
    let same = place-turn p tree.result (p.first / c.from.result + j) j tree.ensures.tree.on_hash c.requires.fits.holds.of.on_hash tree.ensures.data tree.ensures.tree.on_parity c.requires.fits.holds.of.on_parity turn.index in
    let to : ℕ = alone_after lost (max c.checks.read (j + many.result)) c.checks.alone in
    let alone_is : c.alone_as_far-alone.result ≡ to = c.alone_as_far-alone.ensures ∙ ap (λ (k : ℕ). alone_after lost k c.checks.alone) c.read_as_far-read.ensures in
    let plain = together-from j c.alone_as_far-alone.result to alone_is in
    let lone = lone-from j c.alone_as_far-alone.result to alone_is in
    let parity = λ (is : nat_lt j c.alone_as_far-alone.result ≡ true). heals-after v.parity lost (max c.checks.read (j + many.result)) c.checks.alone j inv.ahead.heals heals (lone is) in
    let settled = settles-at p tree.result (p.first / c.from.result + j) j _ _ _ _ c.judge-judged.ensures turn.index same c.in-Err-settle_block.ensures.reads in
    let settled_on = settled-on g.D.BlockDev.state config (place_at p (p.first / block_sectors v + j)) _ settled in
    let walked = blocks-way all.given turn.inside same c.in-Ok.ensures.given in
    let goes = path-last c.as_slice.ensures.value (c.levels.ensures.value ∙ ap levels tree.ensures.tree.shape_is) in
    let given = c.in-Ok-read_row.ensures.given in
    let rowed = row-after walked many.result inv.ahead.lone row.end many.ensures.fresh
    (λ some. together-at p (length c.args.out.now / 512) j many.result _ same turn.count goes c.is_ignored.ensures (many.ensures.together some))
    lost c.read_row.new.out (j * v.data_block + many.result * v.data_block - j * v.data_block) (sub-same (j * v.data_block) (many.result * v.data_block)) put.wide (λ fault is. (row-asked many.result v.data_block _ row.len (λ none. lost-fails lost c.read_row.new.out (given.none none).1 fault is), heals fault is)) (row-stays p v.data_block many.result row.len given)
    (λ some. gives-at p j many.result tree.ensures.data (row-begins (block_sectors v) (p.first / c.from.result + j) (p.first / block_sectors v + j) c.data_extent-extent.ensures.value turn.index) row.sectors (row-some many.result v.data_block (block_sectors v) _ row.len b.size.whole b.size.some some) given) in
    let near : j * v.data_block + v.data_block - j * v.data_block ≡ v.data_block = sub-same (j * v.data_block) v.data_block in
    unsettled-given rowed (j * v.data_block + v.data_block - j * v.data_block) near turn.inside (sym b.size.whole) put.end plain (λ is. (lone is, kept.lone (lone is))) _ c.is_ignored.ensures (row-covers many.ensures.some)
    (λ low used. digest-made b _ turn.inside far_to next put.len put.end made c.index-made-at.result (kept.ahead low) (row-covers many.ensures.some used)) c.in-Err-settle_block.vain settled

pub read_blocks-returns-in-Err-keep-clause-given : goal.read_blocks-returns-in-Err-keep-clause-given
read_blocks-returns-in-Err-keep-clause-given g t c =
    let config = c.args.config.now in
    let p = c.args.part in
    let v = c.args.part.verity.now in
    let j : ℕ = c.checks.at in
    let tree = c.tree_of-tree in
    let all = c.checks.invariant in
    let inv = all.checked in
    let many = c.row_len-many in
    let b = blocks-at c.requires in
    let turn = turn-at b inv c.requires.fits.sectors.whole c.from.ensures c.checks-test.true in
    let row = row-at b turn many.result many.ensures.most in
    let put = put-at b turn row c.read_row.new.out c.read_row.auto.out in
    let gets = row-got b turn row tree.ensures.data c.data_extent-extent.ensures c.in-Ok-read_row.ensures.reads in
    let lost = c.in-Ok-read_row.lost in
    let heals = lost-heals v.parity lost c.in-Ok-read_row.ensures.lost in
    let next = row-next b turn row many.ensures.fresh inv.had c.in-Ok.ensures.moved c.in-Ok.ensures.ok gets in
    let far_to = far b turn row many.ensures.fresh inv.had c.in-Ok.ensures.moved c.in-Ok.ensures.ok gets in
    let kept = row-kept b turn row many.ensures.fresh lost c.checks.made heals inv.had c.in-Ok.ensures.moved gets (all-whole g.D.BlockDev.state g.met.D.BlockDev.whole c.walk_path.new.backing.devices.items) inv.room inv.ahead put c.digest_blocks.ensures in
    let made : List (List ℕ) = put_mid j (j + many.result - j) c.checks.made c.digest_blocks.new.out in
    let same = place-turn p tree.result (p.first / c.from.result + j) j tree.ensures.tree.on_hash c.requires.fits.holds.of.on_hash tree.ensures.data tree.ensures.tree.on_parity c.requires.fits.holds.of.on_parity turn.index in
    let to : ℕ = alone_after lost (max c.checks.read (j + many.result)) c.checks.alone in
    let alone_is : c.alone_as_far-alone.result ≡ to = c.alone_as_far-alone.ensures ∙ ap (λ (k : ℕ). alone_after lost k c.checks.alone) c.read_as_far-read.ensures in
    let plain = together-from j c.alone_as_far-alone.result to alone_is in
    let lone = lone-from j c.alone_as_far-alone.result to alone_is in
    let parity = λ (is : nat_lt j c.alone_as_far-alone.result ≡ true). heals-after v.parity lost (max c.checks.read (j + many.result)) c.checks.alone j inv.ahead.heals heals (lone is) in
    let settled = settles-at p tree.result (p.first / c.from.result + j) j _ _ _ _ c.judge-judged.ensures turn.index same c.in-Ok-settle_block.ensures.reads in
    let settled_on = settled-on g.D.BlockDev.state config (place_at p (p.first / block_sectors v + j)) _ settled in
    let walked = blocks-way all.given turn.inside same c.in-Ok.ensures.given in
    let goes = path-last c.as_slice.ensures.value (c.levels.ensures.value ∙ ap levels tree.ensures.tree.shape_is) in
    let given = c.in-Ok-read_row.ensures.given in
    let rowed = row-after walked many.result inv.ahead.lone row.end many.ensures.fresh
    (λ some. together-at p (length c.args.out.now / 512) j many.result _ same turn.count goes c.is_ignored.ensures (many.ensures.together some))
    lost c.read_row.new.out (j * v.data_block + many.result * v.data_block - j * v.data_block) (sub-same (j * v.data_block) (many.result * v.data_block)) put.wide (λ fault is. (row-asked many.result v.data_block _ row.len (λ none. lost-fails lost c.read_row.new.out (given.none none).1 fault is), heals fault is)) (row-stays p v.data_block many.result row.len given)
    (λ some. gives-at p j many.result tree.ensures.data (row-begins (block_sectors v) (p.first / c.from.result + j) (p.first / block_sectors v + j) c.data_extent-extent.ensures.value turn.index) row.sectors (row-some many.result v.data_block (block_sectors v) _ row.len b.size.whole b.size.some some) given) in
    let near : j * v.data_block + v.data_block - j * v.data_block ≡ v.data_block = sub-same (j * v.data_block) v.data_block in
    let wide : length c.settle_block.new.block ≡ v.data_block = c.settle_block.auto.block ∙ stood-len b _ turn.inside far_to next put.len put.end ∙ near in
    blocks-short (settled-given rowed (j * v.data_block + v.data_block - j * v.data_block) near turn.inside (sym b.size.whole) put.end plain (λ is. (lone is, kept.lone (lone is))) _ c.is_ignored.ensures (row-covers many.ensures.some)
    (λ low used. digest-made b _ turn.inside far_to next put.len put.end made c.index-made-at.result (kept.ahead low) (row-covers many.ensures.some used)) c.settle_block.new.block wide settled)

pub read_blocks-returns-clause-given : goal.read_blocks-returns-clause-given
read_blocks-returns-clause-given g t c =
    let inv = c.checks.invariant in
    let b = blocks-at c.requires in
    let whole = c.requires.fits.sectors.whole in
    let all : c.checks.at ≡ length c.args.out.now / 512 / block_sectors c.args.part.verity.now = omega (arith, c.checks-test.false, inv.checked.within, digest-count b c.args.out.now (omega (arith, whole))) in
    blocks-given inv.given (omega (arith, all)) (blocks-long c.args.out.now _ _ b inv.checked.size whole all)

-- ---- the spare of a data block

pub add_other-read_beneath-requires : goal.add_other-read_beneath-requires
add_other-read_beneath-requires g t c κs within =
    let config = c.args.config.now in
    let v = c.args.verity.now in
    let tree = c.args.tree.now in
    let e = c.in-Some.extent in
    let given = other-given (place_in v tree c.args.at.0) v.parity c.args.at.1 e (sym c.in-Some.ensures.is) in
    let of = other-of config v tree c.requires.stack.sound.loaded c.requires.block.lies c.args.at.0 given.0 c.args.at.1 e given.2 in
    let lies = c.in-Some.ensures.lies in
    let room : length c.as_mut_slice-all.result.now ≡ 4096 = ap (λ (l : List ℕ). length l) c.as_mut_slice-all.ensures.value in
    let size : length (take (e.sectors * 512) c.as_mut_slice-all.result.now) ≡ e.sectors * 512 = omega (arith, room, lies.few, length-take (e.sectors * 512) c.as_mut_slice-all.result.now) in
    let deep = of.2.deep in
    (omega (arith, deep), (within, (c.requires.stack, (omega (arith, size), omega (arith, size, lies.inside)))))

pub add_other-add_block-requires : goal.add_other-add_block-requires
add_other-add_block-requires g t c =
    let config = c.args.config.now in
    let v = c.args.verity.now in
    let tree = c.args.tree.now in
    let e = c.in-Some.extent in
    let given = other-given (place_in v tree c.args.at.0) v.parity c.args.at.1 e (sym c.in-Some.ensures.is) in
    let of = other-of config v tree c.requires.stack.sound.loaded c.requires.block.lies c.args.at.0 given.0 c.args.at.1 e given.2 in
    let lies = c.in-Some.ensures.lies in
    let room : length c.as_mut_slice-all.result.now ≡ 4096 = ap (λ (l : List ℕ). length l) c.as_mut_slice-all.ensures.value in
    let size : length (take (e.sectors * 512) c.as_mut_slice-all.result.now) ≡ e.sectors * 512 = omega (arith, room, lies.few, length-take (e.sectors * 512) c.as_mut_slice-all.result.now) in
    let whole = data-whole config tree.device.0 tree.line v c.requires.stack.sound.loaded c.requires.block.lies.is in
    omega (arith, c.read_beneath.auto.out, size, of.1, whole.whole, c.requires.size)

pub add_other-returns-in-None-clause-reads : goal.add_other-returns-in-None-clause-reads
add_other-returns-in-None-clause-reads g t c q has =
    let place = place_in c.args.verity.now c.args.tree.now c.args.at.0 in
    let none : other_at place q c.args.at.1 ≡ None = sym (c.in-None.ensures.is ∙ ap (λ (o : Option Parity). other_by place o c.args.at.1) has) in
    other-none c.args.config.now c.args.verity.now c.args.tree.now c.requires.stack.sound.loaded c.requires.block.lies c.args.at.0 q c.args.at.1 c.args.sums.now (map g.D.BlockDev.state c.args.backing.now.devices.items) none c.requires.size

pub add_other-returns-in-None-clause-given : goal.add_other-returns-in-None-clause-given
add_other-returns-in-None-clause-given g t c q has inside =
    let place = place_in c.args.verity.now c.args.tree.now c.args.at.0 in
    other-past inside (sym (c.in-None.ensures.is ∙ ap (λ (o : Option Parity). other_by place o c.args.at.1) has))

pub add_other-returns-in-Err-clause-reads : goal.add_other-returns-in-Err-clause-reads
add_other-returns-in-Err-clause-reads g t c q has =
    let place = place_in c.args.verity.now c.args.tree.now c.args.at.0 in
    let e = c.in-Some.extent in
    let at : other_at place q c.args.at.1 ≡ Some e = sym (c.in-Some.ensures.is ∙ ap (λ (o : Option Parity). other_by place o c.args.at.1) has) in
    let count = room_sectors c.as_mut_slice-all.result.now e.sectors (ap (λ (l : List ℕ). length l) c.as_mut_slice-all.ensures.value) c.in-Some.ensures.few in
    other-unread c.args.config.now c.args.verity.now c.args.tree.now c.requires.stack.sound.loaded c.requires.block.lies c.args.at.0 q c.args.at.1 c.args.sums.now e at _ count c.in-Err.fault c.in-Err.ensures.reads

pub add_other-returns-in-Ok-clause-reads : goal.add_other-returns-in-Ok-clause-reads
add_other-returns-in-Ok-clause-reads g t c q has =
    let config = c.args.config.now in
    let v = c.args.verity.now in
    let place = place_in v c.args.tree.now c.args.at.0 in
    let e = c.in-Some.extent in
    let at : other_at place q c.args.at.1 ≡ Some e = sym (c.in-Some.ensures.is ∙ ap (λ (o : Option Parity). other_by place o c.args.at.1) has) in
    let count = room_sectors c.as_mut_slice-all.result.now e.sectors (ap (λ (l : List ℕ). length l) c.as_mut_slice-all.ensures.value) c.in-Some.ensures.few in
    subst (λ (x : List ℕ). Gets (other_wanted (block_in config v c.args.at.0) q c.args.at.1 c.args.sums.now) (map g.D.BlockDev.state c.args.backing.now.devices.items) (map g.D.BlockDev.state c.read_beneath.new.backing.devices.items) (Ok x)) (sym c.add_block.ensures)
    (other-read config v c.args.tree.now c.requires.stack.sound.loaded c.requires.block.lies c.args.at.0 q c.args.at.1 c.args.sums.now e at _ count c.in-Ok.ensures.reads)

pub add_other-returns-in-Err-clause-touches : goal.add_other-returns-in-Err-clause-touches
add_other-returns-in-Err-clause-touches g t c =
    let v = c.args.verity.now in
    let tree = c.args.tree.now in
    let given = other-given (place_in v tree c.args.at.0) v.parity c.args.at.1 c.in-Some.extent (sym c.in-Some.ensures.is) in
    asks-up (other-of c.args.config.now v tree c.requires.stack.sound.loaded c.requires.block.lies c.args.at.0 given.0 c.args.at.1 c.in-Some.extent given.2).2.within c.in-Err.ensures.touches

pub add_other-returns-in-Ok-clause-touches : goal.add_other-returns-in-Ok-clause-touches
add_other-returns-in-Ok-clause-touches g t c =
    let v = c.args.verity.now in
    let tree = c.args.tree.now in
    let given = other-given (place_in v tree c.args.at.0) v.parity c.args.at.1 c.in-Some.extent (sym c.in-Some.ensures.is) in
    asks-up (other-of c.args.config.now v tree c.requires.stack.sound.loaded c.requires.block.lies c.args.at.0 given.0 c.args.at.1 c.in-Some.extent given.2).2.within c.in-Ok.ensures.touches

pub add_other-returns-in-Err-clause-given : goal.add_other-returns-in-Err-clause-given
add_other-returns-in-Err-clause-given g t c q has inside =
    let place = place_in c.args.verity.now c.args.tree.now c.args.at.0 in
    let e = c.in-Some.extent in
    let at : other_at place q c.args.at.1 ≡ Some e = sym (c.in-Some.ensures.is ∙ ap (λ (o : Option Parity). other_by place o c.args.at.1) has) in
    let count = room_sectors c.as_mut_slice-all.result.now e.sectors (ap (λ (l : List ℕ). length l) c.as_mut_slice-all.ensures.value) c.in-Some.ensures.few in
    other-lost c.args.sums.now e inside at count (c.in-Err.ensures.given.some (omega (arith, count, c.in-Some.ensures.lies.some)))

pub add_other-returns-in-Ok-clause-given : goal.add_other-returns-in-Ok-clause-given
add_other-returns-in-Ok-clause-given g t c q has inside =
    let place = place_in c.args.verity.now c.args.tree.now c.args.at.0 in
    let i : ℕ = c.args.at.1 in
    let e = c.in-Some.extent in
    let at : other_at place q i ≡ Some e = sym (c.in-Some.ensures.is ∙ ap (λ (o : Option Parity). other_by place o i) has) in
    let count = room_sectors c.as_mut_slice-all.result.now e.sectors (ap (λ (l : List ℕ). length l) c.as_mut_slice-all.ensures.value) c.in-Some.ensures.few in
    subst (λ (x : List ℕ). LeadsTo (DeviceDoes g.D.BlockDev.state g.D.BlockDev.does) c.args.config.now (sums_of place q i c.args.sums.now) (sums_of place q (suc i) x) (served c.args.backing.now) (served c.read_beneath.new.backing)) (sym c.add_block.ensures)
    (other-added e inside at count (c.in-Ok.ensures.given.some (omega (arith, count, c.in-Some.ensures.lies.some))))

pub add_parity-read_beneath-requires : goal.add_parity-read_beneath-requires
add_parity-read_beneath-requires g t c κs within =
    let at = c.in-Some.stored in
    let is = c.in-Some.ensures.is in
    let room : length c.as_mut_slice-all.result.now ≡ 98304 = ap (λ (l : List ℕ). length l) c.as_mut_slice-all.ensures.value in
    let size : length (take (at.sectors * 512) c.as_mut_slice-all.result.now) ≡ at.sectors * 512 = omega (arith, room, c.in-Some.ensures.few, length-take (at.sectors * 512) c.as_mut_slice-all.result.now) in
    let deep = (parity-of c.args.config.now c.args.verity.now c.args.tree.now c.requires.stack.sound.loaded c.requires.block.lies c.args.index at.lower is.2.on).deep in
    (omega (arith, deep), (within, (c.requires.stack, (omega (arith, size), omega (arith, size, is.2.inside)))))

pub add_parity-add_stored-requires-clause-some : goal.add_parity-add_stored-requires-clause-some
add_parity-add_stored-requires-clause-some g t c =
    let whole = data-whole c.args.config.now c.args.tree.now.device.0 c.args.tree.now.line c.args.verity.now c.requires.stack.sound.loaded c.requires.block.lies.is in
    omega (arith, whole.whole, whole.some, c.requires.size)

pub add_parity-add_stored-requires-clause-whole : goal.add_parity-add_stored-requires-clause-whole
add_parity-add_stored-requires-clause-whole g t c =
    let v = c.args.verity.now in
    let at = c.in-Some.stored in
    let is = c.in-Some.ensures.is in
    let whole = data-whole c.args.config.now c.args.tree.now.device.0 c.args.tree.now.line v c.requires.stack.sound.loaded c.requires.block.lies.is in
    let room : length c.as_mut_slice-all.result.now ≡ 98304 = ap (λ (l : List ℕ). length l) c.as_mut_slice-all.ensures.value in
    let len : length c.read_beneath.new.out ≡ block_sectors v * is.0.roots * 512 = omega (arith, c.read_beneath.auto.out, room, c.in-Some.ensures.few, is.2.sectors, length-take (at.sectors * 512) c.as_mut_slice-all.result.now) in
    (stored-count (block_sectors v) is.0.roots (length c.args.sums.now) (length c.read_beneath.new.out) (omega (arith, whole.whole, c.requires.size)) (omega (arith, whole.whole, whole.some, c.requires.size)) len).0

pub add_parity-returns-in-None-clause-reads : goal.add_parity-returns-in-None-clause-reads
add_parity-returns-in-None-clause-reads g t c q has = let clash : false ≡ true = c.in-None.ensures.some q has in absurd cc

pub add_parity-returns-in-None-clause-given : goal.add_parity-returns-in-None-clause-given
add_parity-returns-in-None-clause-given g t c q has = let clash : false ≡ true = c.in-None.ensures.some q has in absurd cc

-- the parity that the line has
stored-as : (c : Configuration) (p : DataPlace) (o : Option Parity) (q : Parity) (at : Stored) → (x : Parity) × (o ≡ Some x) × IsStoredAt c p x at → o ≡ Some q → IsStoredAt c p q at
stored-as c p o q at is has =
    let both : Some is.0 ≡ Some q = sym is.1 ∙ has in
    let same : is.0 ≡ q = cc in
    subst (λ (x : Parity). IsStoredAt c p x at) same is.2

stored-room : (all : List ℕ) (n : ℕ) → length all ≡ 98304 → n ≤ 192 → length (take (n * 512) all) / 512 ≡ n
stored-room all n room few = omega (arith, room, few, length-take (n * 512) all)

pub add_parity-returns-in-Err-clause-reads : goal.add_parity-returns-in-Err-clause-reads
add_parity-returns-in-Err-clause-reads g t c q has =
    let config = c.args.config.now in
    let v = c.args.verity.now in
    let at = c.in-Some.stored in
    let stored = stored-as config (place_in v c.args.tree.now c.args.index) v.parity q at c.in-Some.ensures.is has in
    let count = stored-room c.as_mut_slice-all.result.now at.sectors (ap (λ (l : List ℕ). length l) c.as_mut_slice-all.ensures.value) c.in-Some.ensures.few in
    stored-unread config v c.args.tree.now c.requires.stack.sound.loaded c.requires.block.lies c.args.index q c.args.sums.now at stored _ count c.in-Err.fault c.in-Err.ensures.reads

-- the sums with the parity
stored-sums : (config : Configuration) (v : Verity) (tree : Tree) (q : Parity) (sums out new all : List ℕ) (at : Stored) → IsLoaded config → IsTreeOf config v tree → length sums ≡ v.data_block → at.sectors ≡ block_sectors v * q.roots → length out ≡ length (take (at.sectors * 512) all) → length all ≡ 98304 → at.sectors ≤ 192
    → new ≡ with_parity (length out / length sums) sums out → new ≡ with_parity q.roots sums out
stored-sums config v tree q sums out new all at loaded lies size sectors wide room few is =
    let whole = data-whole config tree.device.0 tree.line v loaded lies.is in
    let len : length out ≡ block_sectors v * q.roots * 512 = omega (arith, wide, room, few, sectors, length-take (at.sectors * 512) all) in
    is ∙ ap (λ (k : ℕ). with_parity k sums out) (stored-count (block_sectors v) q.roots (length sums) (length out) (omega (arith, whole.whole, size)) (omega (arith, whole.whole, whole.some, size)) len).1

pub add_parity-returns-in-Ok-clause-reads : goal.add_parity-returns-in-Ok-clause-reads
add_parity-returns-in-Ok-clause-reads g t c q has =
    let config = c.args.config.now in
    let v = c.args.verity.now in
    let tree = c.args.tree.now in
    let at = c.in-Some.stored in
    let stored = stored-as config (place_in v tree c.args.index) v.parity q at c.in-Some.ensures.is has in
    let room = ap (λ (l : List ℕ). length l) c.as_mut_slice-all.ensures.value in
    let count = stored-room c.as_mut_slice-all.result.now at.sectors room c.in-Some.ensures.few in
    let is = stored-sums config v tree q c.args.sums.now c.read_beneath.new.out c.add_stored.new.sums c.as_mut_slice-all.result.now at c.requires.stack.sound.loaded c.requires.block.lies c.requires.size stored.sectors c.read_beneath.auto.out room c.in-Some.ensures.few c.add_stored.ensures in
    subst (λ (x : List ℕ). Gets (stored_wanted (block_in config v c.args.index) q c.args.sums.now) (map g.D.BlockDev.state c.args.backing.now.devices.items) (map g.D.BlockDev.state c.read_beneath.new.backing.devices.items) (Ok x)) (sym is)
    (stored-read config v tree c.requires.stack.sound.loaded c.requires.block.lies c.args.index q c.args.sums.now at stored _ count c.in-Ok.ensures.reads)

pub add_parity-returns-in-Err-clause-touches : goal.add_parity-returns-in-Err-clause-touches
add_parity-returns-in-Err-clause-touches g t c = asks-up (parity-of c.args.config.now c.args.verity.now c.args.tree.now c.requires.stack.sound.loaded c.requires.block.lies c.args.index c.in-Some.stored.lower c.in-Some.ensures.is.2.on).within c.in-Err.ensures.touches

pub add_parity-returns-in-Ok-clause-touches : goal.add_parity-returns-in-Ok-clause-touches
add_parity-returns-in-Ok-clause-touches g t c = asks-up (parity-of c.args.config.now c.args.verity.now c.args.tree.now c.requires.stack.sound.loaded c.requires.block.lies c.args.index c.in-Some.stored.lower c.in-Some.ensures.is.2.on).within c.in-Ok.ensures.touches

stored-some : (config : Configuration) (v : Verity) (tree : Tree) (q : Parity) (all : List ℕ) (at : Stored) → IsLoaded config → IsTreeOf config v tree → 2 ≤ q.roots → at.sectors ≡ block_sectors v * q.roots → length all ≡ 98304 → at.sectors ≤ 192 → 0 < length (take (at.sectors * 512) all)
stored-some config v tree q all at loaded lies some sectors room few =
    let whole = data-whole config tree.device.0 tree.line v loaded lies.is in
    let more : 1 * q.roots ≤ block_sectors v * q.roots = mul-le-mul_right q.roots whole.some in
    omega (arith, more, some, sectors, room, few, length-take (at.sectors * 512) all)

pub add_parity-returns-in-Err-clause-given : goal.add_parity-returns-in-Err-clause-given
add_parity-returns-in-Err-clause-given g t c q has =
    let config = c.args.config.now in
    let v = c.args.verity.now in
    let tree = c.args.tree.now in
    let loaded = c.requires.stack.sound.loaded in
    let at = c.in-Some.stored in
    let stored = stored-as config (place_in v tree c.args.index) v.parity q at c.in-Some.ensures.is has in
    let room = ap (λ (l : List ℕ). length l) c.as_mut_slice-all.ensures.value in
    let count = stored-room c.as_mut_slice-all.result.now at.sectors room c.in-Some.ensures.few in
    let round = is-round config v tree loaded c.requires.block.lies c.args.index c.requires.block.there q has in
    stored-lost c.args.sums.now at stored count (c.in-Err.ensures.given.some (stored-some config v tree q c.as_mut_slice-all.result.now at loaded c.requires.block.lies round.some stored.sectors room c.in-Some.ensures.few))

pub add_parity-returns-in-Ok-clause-given : goal.add_parity-returns-in-Ok-clause-given
add_parity-returns-in-Ok-clause-given g t c q has =
    let config = c.args.config.now in
    let v = c.args.verity.now in
    let tree = c.args.tree.now in
    let loaded = c.requires.stack.sound.loaded in
    let place = place_in v tree c.args.index in
    let at = c.in-Some.stored in
    let stored = stored-as config place v.parity q at c.in-Some.ensures.is has in
    let room = ap (λ (l : List ℕ). length l) c.as_mut_slice-all.ensures.value in
    let count = stored-room c.as_mut_slice-all.result.now at.sectors room c.in-Some.ensures.few in
    let round = is-round config v tree loaded c.requires.block.lies c.args.index c.requires.block.there q has in
    let is = stored-sums config v tree q c.args.sums.now c.read_beneath.new.out c.add_stored.new.sums c.as_mut_slice-all.result.now at loaded c.requires.block.lies c.requires.size stored.sectors c.read_beneath.auto.out room c.in-Some.ensures.few c.add_stored.ensures in
    subst (λ (x : List ℕ). ReadsBy (DeviceDoes g.D.BlockDev.state g.D.BlockDev.does) config (sums_of place q (255 - q.roots) c.args.sums.now) (served c.args.backing.now) (served c.read_beneath.new.backing) (Ok x)) (sym is)
    (stored-given c.args.sums.now at stored count (c.in-Ok.ensures.given.some (stored-some config v tree q c.as_mut_slice-all.result.now at loaded c.requires.block.lies round.some stored.sectors room c.in-Some.ensures.few)))

pub mend_only-loop-place-init : goal.mend_only-loop-place-init
mend_only-loop-place-init g t c =
    let config = c.args.config.now in
    let v = c.args.verity.now in
    let tree = c.args.tree.now in
    let index : ℕ = c.args.lost.now.index in
    let leaves = map g.D.BlockDev.state c.args.backing.now.devices.items in
    let zeros : c.fill_zeros.new.out ≡ zero_block v = c.fill_zeros.ensures ∙ ap (λ (n : ℕ). replicate n 0) c.requires.size in
    record {
      within = omega arith;
      summed = λ q has.
          let round = is-round config v tree c.requires.stack.sound.loaded c.requires.block.lies index c.requires.block.there q has in
          subst (λ (x : List ℕ). IsSummed (block_in config v index) q 0 x leaves leaves) (sym zeros) (summed-none (block_in config v index) q has round.some round.few round.low leaves);
      cached = record { capacity = refl; sound = c.requires.stack.cached };
      touches = asks-none _ (leaves_of config (mapped tree.device.0)) leaves (Ok tt) tt refl;
      given = λ q has. subst (λ (x : List ℕ). LeadsTo (DeviceDoes g.D.BlockDev.state g.D.BlockDev.does) config (sums_of (place_in v tree index) q 0 (zero_block v)) (sums_of (place_in v tree index) q 0 x) (served c.args.backing.now) (served c.args.backing.now)) (sym zeros) (leads-begin (sums_of (place_in v tree index) q 0 (zero_block v)));
    }

pub mend_only-returns-in-None-clause-reads : goal.mend_only-returns-in-None-clause-reads
mend_only-returns-in-None-clause-reads g t c = only-none (block_in c.args.config.now c.args.verity.now c.args.lost.now.index) c.args.lost.now.digest (map g.D.BlockDev.state c.args.backing.now.devices.items) c.in-None.is

pub mend_only-returns-in-None-clause-given : goal.mend_only-returns-in-None-clause-given
mend_only-returns-in-None-clause-given g t c = only-past (place_in c.args.verity.now c.args.tree.now c.args.lost.now.index) c.args.lost.now.digest c.in-None.is

pub mend_only-add_other-requires : goal.mend_only-add_other-requires
mend_only-add_other-requires g t c κs within =
    let inv = c.loop-place.invariant in
    let summed = inv.summed c.in-Some.parity c.in-Some.is in
    (omega arith, (within, (stack-later c.args.config.now summed.moved.moved.fixed c.requires.stack inv.cached, (c.requires.block, omega (arith, c.loop-place.auto.out, c.fill_zeros.auto.out, c.requires.size)))))

pub mend_only-returns-in-Err-clause-reads : goal.mend_only-returns-in-Err-clause-reads
mend_only-returns-in-Err-clause-reads g t c =
    let config = c.args.config.now in
    let v = c.args.verity.now in
    let index : ℕ = c.args.lost.now.index in
    let q = c.in-Some.parity in
    let has = c.in-Some.is in
    let round = is-round config v c.args.tree.now c.requires.stack.sound.loaded c.requires.block.lies index c.requires.block.there q has in
    summed-fails (block_in config v index) q has round.some round.few round.low (c.loop-place.invariant.summed q has) c.args.lost.now.digest c.in-Err.unread (omega (arith, c.loop-place-test.true)) (c.in-Err.ensures.reads q has)

pub mend_only-returns-in-Err-clause-touches : goal.mend_only-returns-in-Err-clause-touches
mend_only-returns-in-Err-clause-touches g t c = asks-then c.loop-place.invariant.touches c.in-Err.ensures.touches

pub mend_only-returns-in-Err-clause-given : goal.mend_only-returns-in-Err-clause-given
mend_only-returns-in-Err-clause-given g t c =
    let q = c.in-Some.parity in
    let has = c.in-Some.is in
    only-lost has (c.loop-place.invariant.given q has) (c.in-Err.ensures.given q has (omega (arith, c.loop-place-test.true)))

pub mend_only-loop-place-preserved : goal.mend_only-loop-place-preserved
mend_only-loop-place-preserved g t c =
    let config = c.args.config.now in
    let v = c.args.verity.now in
    let tree = c.args.tree.now in
    let index : ℕ = c.args.lost.now.index in
    let inv = c.loop-place.invariant in
    let place : ℕ = c.loop-place.place in
    let next : suc place ≡ place + 1 = omega arith in
    let old = map g.D.BlockDev.state c.args.backing.now.devices.items in
    let new = map g.D.BlockDev.state c.add_other.new.backing.devices.items in
    record {
      within = omega (arith, c.loop-place-test.true);
      summed = λ q has.
          let round = is-round config v tree c.requires.stack.sound.loaded c.requires.block.lies index c.requires.block.there q has in
          subst (λ (k : ℕ). IsSummed (block_in config v index) q k c.add_other.new.sums old new) next (summed-more (block_in config v index) q has round.some round.few round.low (inv.summed q has) (c.in-Ok.ensures.reads q has));
      cached = record { capacity = c.in-Ok.ensures.cached.capacity ∙ inv.cached.capacity; sound = c.in-Ok.ensures.cached.sound };
      touches = asks-then inv.touches c.in-Ok.ensures.touches;
      given = λ q has.
          let low : place < 255 - q.roots = mend-inside v.parity c.in-Some.parity q place c.in-Some.is has (omega (arith, c.loop-place-test.true)) in
          subst (λ (k : ℕ). LeadsTo (DeviceDoes g.D.BlockDev.state g.D.BlockDev.does) config (sums_of (place_in v tree index) q 0 (zero_block v)) (sums_of (place_in v tree index) q k c.add_other.new.sums) (served c.args.backing.now) (served c.add_other.new.backing)) next
          (leads-then (inv.given q has) (c.in-Ok.ensures.given q has low));
    }

pub mend_only-add_parity-requires : goal.mend_only-add_parity-requires
mend_only-add_parity-requires g t c κs within =
    let inv = c.loop-place.invariant in
    let summed = inv.summed c.in-Some.parity c.in-Some.is in
    (omega arith, (within, (stack-later c.args.config.now summed.moved.moved.fixed c.requires.stack inv.cached, (c.requires.block, omega (arith, c.loop-place.auto.out, c.fill_zeros.auto.out, c.requires.size)))))

pub mend_only-returns-in-Err-add_parity-clause-reads : goal.mend_only-returns-in-Err-add_parity-clause-reads
mend_only-returns-in-Err-add_parity-clause-reads g t c =
    let config = c.args.config.now in
    let v = c.args.verity.now in
    let index : ℕ = c.args.lost.now.index in
    let q = c.in-Some.parity in
    let has = c.in-Some.is in
    let round = is-round config v c.args.tree.now c.requires.stack.sound.loaded c.requires.block.lies index c.requires.block.there q has in
    stored-fails (block_in config v index) q has round.some round.few round.low c.args.lost.now.digest (omega (arith, c.loop-place-test.false, c.loop-place.invariant.within)) (c.loop-place.invariant.summed q has) c.in-Err-add_parity.fault (c.in-Err-add_parity.ensures.reads q has)

pub mend_only-returns-then-eq-clause-cached : goal.mend_only-returns-then-eq-clause-cached
mend_only-returns-then-eq-clause-cached g t c =
    let step = c.in-Ok-add_parity.ensures.cached in
    record { capacity = step.capacity ∙ c.loop-place.invariant.cached.capacity; sound = step.sound }

pub mend_only-returns-clause-cached : goal.mend_only-returns-clause-cached
mend_only-returns-clause-cached g t c =
    let step = c.in-Ok-add_parity.ensures.cached in
    record { capacity = step.capacity ∙ c.loop-place.invariant.cached.capacity; sound = step.sound }

pub mend_only-returns-in-Err-add_parity-clause-given : goal.mend_only-returns-in-Err-add_parity-clause-given
mend_only-returns-in-Err-add_parity-clause-given g t c =
    let q = c.in-Some.parity in
    let has = c.in-Some.is in
    let place = place_in c.args.verity.now c.args.tree.now c.args.lost.now.index in
    let all : 255 - q.roots ≡ c.loop-place.place = omega (arith, c.loop-place-test.false, c.loop-place.invariant.within) in
    only-lost has (c.loop-place.invariant.given q has)
    (subst (λ (k : ℕ). ReadsBy (DeviceDoes g.D.BlockDev.state g.D.BlockDev.does) c.args.config.now (sums_of place q k c.loop-place.out) (served c.loop-place.backing) (served c.add_parity.new.backing) (Err c.in-Err-add_parity.fault)) all (c.in-Err-add_parity.ensures.given q has))

pub mend_only-returns-then-eq-clause-reads : goal.mend_only-returns-then-eq-clause-reads
mend_only-returns-then-eq-clause-reads g t c =
    let config = c.args.config.now in
    let v = c.args.verity.now in
    let tree = c.args.tree.now in
    let index : ℕ = c.args.lost.now.index in
    let q = c.in-Some.parity in
    let has = c.in-Some.is in
    let round = is-round config v tree c.requires.stack.sound.loaded c.requires.block.lies index c.requires.block.there q has in
    let whole = data-whole config tree.device.0 tree.line v c.requires.stack.sound.loaded c.requires.block.lies.is in
    let good : c.digest.result ≡ c.args.lost.now.digest = (bytes_eq-Decides c.digest.result c.args.lost.now.digest).0 (sym c.eq.ensures ∙ c.if-eq.true) in
    only-ends (block_in config v index) q has round.some round.few round.low c.args.lost.now.digest (omega (arith, c.loop-place-test.false, c.loop-place.invariant.within)) (c.loop-place.invariant.summed q has) (c.in-Ok-add_parity.ensures.reads q has)
    (omega (arith, c.add_parity.auto.sums, c.loop-place.auto.out, c.fill_zeros.auto.out, c.requires.size, whole.whole)) (sym c.digest.ensures ∙ good)

pub mend_only-returns-then-eq-clause-touches : goal.mend_only-returns-then-eq-clause-touches
mend_only-returns-then-eq-clause-touches g t c = asks-then c.loop-place.invariant.touches c.in-Ok-add_parity.ensures.touches

pub mend_only-returns-clause-touches : goal.mend_only-returns-clause-touches
mend_only-returns-clause-touches g t c = asks-as (Err (Stack Mismatch)) tt (λ failures. refl) (asks-then c.loop-place.invariant.touches c.in-Ok-add_parity.ensures.touches)

pub mend_only-returns-then-eq-clause-given : goal.mend_only-returns-then-eq-clause-given
mend_only-returns-then-eq-clause-given g t c =
    let q = c.in-Some.parity in
    let has = c.in-Some.is in
    let place = place_in c.args.verity.now c.args.tree.now c.args.lost.now.index in
    let all : 255 - q.roots ≡ c.loop-place.place = omega (arith, c.loop-place-test.false, c.loop-place.invariant.within) in
    let good : c.digest.result ≡ c.args.lost.now.digest = (bytes_eq-Decides c.digest.result c.args.lost.now.digest).0 (sym c.eq.ensures ∙ c.if-eq.true) in
    only-given has (c.loop-place.invariant.given q has) (sym c.digest.ensures ∙ good)
    (subst (λ (k : ℕ). ReadsBy (DeviceDoes g.D.BlockDev.state g.D.BlockDev.does) c.args.config.now (sums_of place q k c.loop-place.out) (served c.loop-place.backing) (served c.add_parity.new.backing) (Ok c.add_parity.new.sums)) all (c.in-Ok-add_parity.ensures.given q has))

pub mend_only-returns-clause-reads : goal.mend_only-returns-clause-reads
mend_only-returns-clause-reads g t c =
    let config = c.args.config.now in
    let v = c.args.verity.now in
    let index : ℕ = c.args.lost.now.index in
    let q = c.in-Some.parity in
    let has = c.in-Some.is in
    let round = is-round config v c.args.tree.now c.requires.stack.sound.loaded c.requires.block.lies index c.requires.block.there q has in
    let other : digest v.salt c.add_parity.new.sums ≡ c.args.lost.now.digest → ⊥ = λ same.
    let made : c.digest.result ≡ c.args.lost.now.digest = c.digest.ensures ∙ same in
    let clash : false ≡ true = sym c.if-eq.false ∙ c.eq.ensures ∙ (bytes_eq-Decides c.digest.result c.args.lost.now.digest).1 made in
    cc in
    only-differs (block_in config v index) q has round.some round.few round.low c.args.lost.now.digest (omega (arith, c.loop-place-test.false, c.loop-place.invariant.within)) (c.loop-place.invariant.summed q has) (c.in-Ok-add_parity.ensures.reads q has) other

pub mend_only-returns-clause-given : goal.mend_only-returns-clause-given
mend_only-returns-clause-given g t c =
    let q = c.in-Some.parity in
    let has = c.in-Some.is in
    let v = c.args.verity.now in
    let place = place_in v c.args.tree.now c.args.lost.now.index in
    let all : 255 - q.roots ≡ c.loop-place.place = omega (arith, c.loop-place-test.false, c.loop-place.invariant.within) in
    let other : digest v.salt c.add_parity.new.sums ≡ c.args.lost.now.digest → ⊥ = λ same.
    let made : c.digest.result ≡ c.args.lost.now.digest = c.digest.ensures ∙ same in
    let clash : false ≡ true = sym c.if-eq.false ∙ c.eq.ensures ∙ (bytes_eq-Decides c.digest.result c.args.lost.now.digest).1 made in
    cc in
    only-other has (c.loop-place.invariant.given q has) other
    (subst (λ (k : ℕ). ReadsBy (DeviceDoes g.D.BlockDev.state g.D.BlockDev.does) c.args.config.now (sums_of place q k c.loop-place.out) (served c.loop-place.backing) (served c.add_parity.new.backing) (Ok c.add_parity.new.sums)) all (c.in-Ok-add_parity.ensures.given q has))

-- ---- the digest of a covered block

pub stored_digest-read_beneath-requires : goal.stored_digest-read_beneath-requires
stored_digest-read_beneath-requires g t c κs within =
    let e = c.in-Some.extent in
    let lies = c.in-Some.ensures.lies in
    let room : length c.as_mut_slice-all.result.now ≡ 4096 = ap (λ (l : List ℕ). length l) c.as_mut_slice-all.ensures.value in
    let size : length (take (e.sectors * 512) c.as_mut_slice-all.result.now) ≡ e.sectors * 512 = omega (arith, room, lies.few, length-take (e.sectors * 512) c.as_mut_slice-all.result.now) in
    let deep = stored-deep c.args.config.now c.args.verity.now c.args.tree.now c.requires.stack.sound.loaded c.requires.block.lies c.args.number e (extent-is c.in-Some.ensures.is) in
    (omega (arith, deep), (within, (c.requires.stack, (omega (arith, size), omega (arith, size, lies.inside)))))

pub stored_digest-returns-in-None-clause-reads : goal.stored_digest-returns-in-None-clause-reads
stored_digest-returns-in-None-clause-reads g t c = let clash : None ≡ Some (covered_at (place_in c.args.verity.now c.args.tree.now c.args.number) c.args.number) = c.in-None.ensures.is in absurd cc

pub stored_digest-returns-in-None-clause-given : goal.stored_digest-returns-in-None-clause-given
stored_digest-returns-in-None-clause-given g t c = let clash : None ≡ Some (covered_at (place_in c.args.verity.now c.args.tree.now c.args.number) c.args.number) = c.in-None.ensures.is in absurd cc

pub stored_digest-returns-in-Err-clause-reads : goal.stored_digest-returns-in-Err-clause-reads
stored_digest-returns-in-Err-clause-reads g t c =
    let e = c.in-Some.extent in
    let count = room_sectors c.as_mut_slice-all.result.now e.sectors (ap (λ (l : List ℕ). length l) c.as_mut_slice-all.ensures.value) c.in-Some.ensures.lies.few in
    stored-lacks c.args.config.now c.args.verity.now c.args.tree.now c.requires.stack.sound.loaded c.requires.block.lies c.args.number e (extent-is c.in-Some.ensures.is) _ count c.in-Err.fault c.in-Err.ensures.reads

pub stored_digest-returns-in-Ok-clause-reads : goal.stored_digest-returns-in-Ok-clause-reads
stored_digest-returns-in-Ok-clause-reads g t c =
    let e = c.in-Some.extent in
    let v = c.args.verity.now in
    let count = room_sectors c.as_mut_slice-all.result.now e.sectors (ap (λ (l : List ℕ). length l) c.as_mut_slice-all.ensures.value) c.in-Some.ensures.lies.few in
    subst (λ (x : List ℕ). Gets (stored_digest_wanted c.args.config.now v c.args.number) (map g.D.BlockDev.state c.args.backing.now.devices.items) (map g.D.BlockDev.state c.read_beneath.new.backing.devices.items) (Ok x)) (sym c.digest.ensures)
    (stored-had c.args.config.now v c.args.tree.now c.requires.stack.sound.loaded c.requires.block.lies c.args.number e (extent-is c.in-Some.ensures.is) _ count c.in-Ok.ensures.reads)

pub stored_digest-returns-in-Err-clause-touches : goal.stored_digest-returns-in-Err-clause-touches
stored_digest-returns-in-Err-clause-touches g t c =
    let touched = stored-asks c.args.config.now c.args.verity.now c.args.tree.now c.requires.stack.sound.loaded c.requires.block.lies c.args.number c.in-Some.extent (extent-is c.in-Some.ensures.is) c.in-Err.ensures.touches in
    asks-as (Err c.in-Err.fault) touched.fault (λ failures. refl) touched

pub stored_digest-returns-in-Ok-clause-touches : goal.stored_digest-returns-in-Ok-clause-touches
stored_digest-returns-in-Ok-clause-touches g t c =
    asks-as (Ok c.digest.result) tt (λ failures. refl) (stored-asks c.args.config.now c.args.verity.now c.args.tree.now c.requires.stack.sound.loaded c.requires.block.lies c.args.number c.in-Some.extent (extent-is c.in-Some.ensures.is) c.in-Ok.ensures.touches)

pub stored_digest-returns-in-Err-clause-given : goal.stored_digest-returns-in-Err-clause-given
stored_digest-returns-in-Err-clause-given g t c =
    let e = c.in-Some.extent in
    let count = room_sectors c.as_mut_slice-all.result.now e.sectors (ap (λ (l : List ℕ). length l) c.as_mut_slice-all.ensures.value) c.in-Some.ensures.lies.few in
    stored-calls c.args.config.now c.args.verity.now c.args.tree.now c.requires.stack.sound.loaded c.requires.block.lies c.args.number e (extent-is c.in-Some.ensures.is) count (c.in-Err.ensures.given.some (omega (arith, count, c.in-Some.ensures.lies.some)))

pub stored_digest-returns-in-Ok-clause-given : goal.stored_digest-returns-in-Ok-clause-given
stored_digest-returns-in-Ok-clause-given g t c =
    let e = c.in-Some.extent in
    let count = room_sectors c.as_mut_slice-all.result.now e.sectors (ap (λ (l : List ℕ). length l) c.as_mut_slice-all.ensures.value) c.in-Some.ensures.lies.few in (
      c.read_beneath.new.out,
      c.digest.ensures,
      stored-calls c.args.config.now c.args.verity.now c.args.tree.now c.requires.stack.sound.loaded c.requires.block.lies c.args.number e (extent-is c.in-Some.ensures.is) count (c.in-Ok.ensures.given.some (omega (arith, count, c.in-Some.ensures.lies.some))),
    )

-- ---- the known digest of a covered block

pub known_digest-returns-in-None-clause-reads : goal.known_digest-returns-in-None-clause-reads
known_digest-returns-in-None-clause-reads g t c = known-none c.args.config.now c.args.verity.now c.args.number (map g.D.BlockDev.state c.args.backing.now.devices.items) (sym c.in-None.ensures)

pub known_digest-returns-in-None-clause-given : goal.known_digest-returns-in-None-clause-given
known_digest-returns-in-None-clause-given g t c j = known-past (place_in c.args.verity.now c.args.tree.now j) c.args.number (sym c.in-None.ensures)

pub known_digest-digest_beneath-requires : goal.known_digest-digest_beneath-requires
known_digest-digest_beneath-requires g t c κs within =
    let tree = c.args.tree.now in
    let v = c.args.verity.now in
    let shape = (line-facts c.args.config.now tree.device.0 tree.line v c.requires.stack.sound.loaded c.requires.tree.is).2.shape in
    let end = end-verified v shape c.args.number (end_of c.in-Some.end) (sym c.in-Some.ensures) in
    (omega arith, (within, (c.requires.stack, (record { lies = c.requires.tree; there = end.index }, end.above))))

pub known_digest-returns-in-Some-clause-reads : goal.known_digest-returns-in-Some-clause-reads
known_digest-returns-in-Some-clause-reads g t c =
    let tree = c.args.tree.now in
    let v = c.args.verity.now in
    let shape = (line-facts c.args.config.now tree.device.0 tree.line v c.requires.stack.sound.loaded c.requires.tree.is).2.shape in
    let at = sym c.in-Some.ensures in
    let end = end-verified v shape c.args.number (end_of c.in-Some.end) at in
    known-beneath c.args.config.now v c.args.number (end_of c.in-Some.end) at end.above c.digest_beneath.result c.digest_beneath.ensures.reads

pub known_digest-returns-in-Some-clause-given : goal.known_digest-returns-in-Some-clause-given
known_digest-returns-in-Some-clause-given g t c j = known-given (end_of c.in-Some.end) (sym c.in-Some.ensures) (c.digest_beneath.ensures.given j)

-- ---- the digest beneath some hash blocks

pub digest_beneath-loop-height-init : goal.digest_beneath-loop-height-init
digest_beneath-loop-height-init g t c =
    let config = c.args.config.now in
    let v = c.args.verity.now in
    let tree = c.args.tree.now in
    let leaves = map g.D.BlockDev.state c.args.backing.now.devices.items in
    let all : c.levels-height.result ≡ levels (tree_of v) = c.levels-height.ensures.value ∙ ap levels c.requires.block.lies.shape_is in
    let none : levels (tree_of v) - c.levels-height.result ≡ 0 = omega (arith, all) in
    record {
      within = (omega arith, omega (arith, all));
      known = subst (λ (k : ℕ). IsDigestBeneath (block_in config v c.args.end.index) k v.root leaves leaves) (sym none) (beneath-begins (block_in config v c.args.end.index) leaves);
      cached = record { capacity = refl; sound = c.requires.stack.cached };
      touches = asks-none _ (leaves_of config (mapped tree.device.0)) leaves (Ok tt) tt refl;
      given = λ j. subst (λ (k : ℕ). LeadsTo (DeviceDoes g.D.BlockDev.state g.D.BlockDev.does) config (digest_of (place_in v tree j) (end_of c.args.end) 0 v.root) (digest_of (place_in v tree j) (end_of c.args.end) k v.root) (served c.args.backing.now) (served c.args.backing.now)) (sym none) (leads-begin (digest_of (place_in v tree j) (end_of c.args.end) 0 v.root));
    }

pub digest_beneath-hash_key-key-requires : goal.digest_beneath-hash_key-key-requires
digest_beneath-hash_key-key-requires g t c = subst (λ (k : ℕ). c.args.end.index < k) (sym (ap (λ (s : ShapeRecord). s.blocks) c.requires.block.lies.shape_is)) c.requires.block.there

pub digest_beneath-hash_extent-extent-requires-clause-level : goal.digest_beneath-hash_extent-extent-requires-clause-level
digest_beneath-hash_extent-extent-requires-clause-level g t c = omega (arith, c.loop-height-test.true, c.loop-height.invariant.within.1)

pub digest_beneath-returns-clause-cached : goal.digest_beneath-returns-clause-cached
digest_beneath-returns-clause-cached g t c = c.loop-height.invariant.cached

pub digest_beneath-hash_block-requires : goal.digest_beneath-hash_block-requires
digest_beneath-hash_block-requires g t c κs within =
    let config = c.args.config.now in
    let v = c.args.verity.now in
    let tree = c.args.tree.now in
    let extent = c.hash_extent-extent in
    let deep = hash-depth config v tree c.requires.stack.sound.loaded c.requires.block.lies in
    let same : depth config extent.result.lower ≡ depth config tree.hash = ap (λ (e : Extent). depth config e.lower) extent.ensures.value in
    let key = place_key config v tree _ c.args.end.index c.hash_key-key.result extent.result c.requires.block.lies c.hash_key-key.ensures extent.ensures in
    (omega (arith, deep, same), (within, (stack-later config c.loop-height.invariant.known.moved.moved.fixed c.requires.stack c.loop-height.invariant.cached, key)))

pub digest_beneath-digest_in-digest-requires : goal.digest_beneath-digest_in-digest-requires
digest_beneath-digest_in-digest-requires g t c =
    let v = c.args.verity.now in
    let tree = c.args.tree.now in
    let is = c.requires.block.lies in
    let size = hash-whole c.args.config.now tree.device.0 tree.line v c.requires.stack.sound.loaded is.is in
    let same : c.hash_extent-extent.result.sectors ≡ hash_sectors v = ap (λ (e : Extent). e.sectors) c.hash_extent-extent.ensures.value in
    let len : length c.as_slice.result.now ≡ 512 * c.hash_extent-extent.result.sectors = ap (λ (l : List ℕ). length l) c.as_slice.ensures.value ∙ c.in-Ok.ensures.reads.may.0 in
    let block : tree.shape.hash_block ≡ v.hash_block = ap (λ (t : ShapeRecord). t.hash_block) is.shape_is in
    omega (arith, len, same, size.whole, block, c.slot_on_path.ensures.inside)

pub digest_beneath-returns-in-Err-clause-reads : goal.digest_beneath-returns-in-Err-clause-reads
digest_beneath-returns-in-Err-clause-reads g t c =
    let v = c.args.verity.now in
    let all : c.levels-height.result ≡ levels (tree_of v) = c.levels-height.ensures.value ∙ ap levels c.requires.block.lies.shape_is in
    let inv = c.loop-height.invariant in
    beneath-fails c.args.config.now v c.args.tree.now c.args.end.index c.requires.block.lies c.loop-height.height (omega (arith, c.loop-height-test.true)) inv.within.1 c.hash_extent-extent.result c.hash_extent-extent.ensures inv.known c.args.end.above c.in-Err.stops
    (omega (arith, c.loop-height-test.true, all, inv.within.0, inv.within.1, c.requires.above)) c.in-Err.ensures.reads

pub digest_beneath-returns-in-Err-clause-cached : goal.digest_beneath-returns-in-Err-clause-cached
digest_beneath-returns-in-Err-clause-cached g t c = record { capacity = c.in-Err.ensures.cached.capacity ∙ c.loop-height.invariant.cached.capacity; sound = c.in-Err.ensures.cached.sound }

pub digest_beneath-returns-in-Err-clause-touches : goal.digest_beneath-returns-in-Err-clause-touches
digest_beneath-returns-in-Err-clause-touches g t c =
    let touched = hash-touched c.args.config.now c.args.verity.now c.args.tree.now c.requires.stack.sound.loaded c.requires.block.lies c.hash_extent-extent.result c.hash_extent-extent.ensures c.in-Err.ensures.touches in
    asks-then c.loop-height.invariant.touches (asks-as (Err c.in-Err.stops) touched.fault (λ failures. refl) touched)

pub digest_beneath-returns-in-Err-clause-given : goal.digest_beneath-returns-in-Err-clause-given
digest_beneath-returns-in-Err-clause-given g t c j =
    let v = c.args.verity.now in
    let all : c.levels-height.result ≡ levels (tree_of v) = c.levels-height.ensures.value ∙ ap levels c.requires.block.lies.shape_is in
    let inv = c.loop-height.invariant in
    digest-fails v c.args.tree.now j c.loop-height.height (omega (arith, c.loop-height-test.true)) inv.within.1 (inv.given j) c.in-Err.stops (omega (arith, c.loop-height-test.true, all, inv.within.0, inv.within.1, c.requires.above))
    (reads-expected hash_of (ap (λ (e : Extent). expected_in e v.salt c.loop-height.digest) c.hash_extent-extent.ensures.value) c.in-Err.ensures.given)

pub digest_beneath-loop-height-preserved : goal.digest_beneath-loop-height-preserved
digest_beneath-loop-height-preserved g t c =
    let config = c.args.config.now in
    let v = c.args.verity.now in
    let tree = c.args.tree.now in
    let index : ℕ = c.args.end.index in
    let height : ℕ = c.loop-height.height in
    let inv = c.loop-height.invariant in
    let block = c.in-Ok.block in
    let low : 0 < height = omega (arith, c.loop-height-test.true) in
    let all : c.levels-height.result ≡ levels (tree_of v) = c.levels-height.ensures.value ∙ ap levels c.requires.block.lies.shape_is in
    let less : levels (tree_of v) - height < c.args.end.above = omega (arith, c.loop-height-test.true, all, inv.within.0, inv.within.1, c.requires.above) in
    let next : c.digest_in-digest.result ≡ next_digest v (height - 1) index block.items =
    c.digest_in-digest.ensures ∙ ap (λ (b : List ℕ). digest_in b c.slot_on_path.result) c.as_slice.ensures.value
    ∙ ap (digest_in block.items) (c.slot_on_path.ensures.value ∙ ap (λ (t : ShapeRecord). slot t (ancestor t (height - 1) index)) c.requires.block.lies.shape_is) in
    let touched = hash-touched config v tree c.requires.stack.sound.loaded c.requires.block.lies c.hash_extent-extent.result c.hash_extent-extent.ensures c.in-Ok.ensures.touches in
    record {
      within = (omega (arith, c.loop-height-test.true), omega (arith, inv.within.1));
      known = subst (λ (d : List ℕ). IsDigestBeneath (block_in config v index) (levels (tree_of v) - (height - 1)) d (map g.D.BlockDev.state c.args.backing.now.devices.items) (map g.D.BlockDev.state c.hash_block.new.backing.devices.items)) (sym next)
          (beneath-down config v tree index c.requires.block.lies height low inv.within.1 c.hash_extent-extent.result c.hash_extent-extent.ensures inv.known block c.in-Ok.ensures.reads);
      cached = record { capacity = c.in-Ok.ensures.cached.capacity ∙ inv.cached.capacity; sound = c.in-Ok.ensures.cached.sound };
      touches = asks-then inv.touches (asks-as (Ok tt) tt (λ failures. refl) touched);
      given = λ j. subst (λ (d : List ℕ). LeadsTo (DeviceDoes g.D.BlockDev.state g.D.BlockDev.does) config (digest_of (place_in v tree j) (end_of c.args.end) 0 v.root) (digest_of (place_in v tree j) (end_of c.args.end) (levels (tree_of v) - (height - 1)) d) (served c.args.backing.now) (served c.hash_block.new.backing)) (sym next)
          (digest-down v tree j height low inv.within.1 (inv.given j) block.items less (reads-expected hash_of (ap (λ (e : Extent). expected_in e v.salt c.loop-height.digest) c.hash_extent-extent.ensures.value) c.in-Ok.ensures.given));
    }

pub digest_beneath-returns-clause-reads : goal.digest_beneath-returns-clause-reads
digest_beneath-returns-clause-reads g t c =
    let v = c.args.verity.now in
    let all : c.levels-height.result ≡ levels (tree_of v) = c.levels-height.ensures.value ∙ ap levels c.requires.block.lies.shape_is in
    let inv = c.loop-height.invariant in
    beneath-ends (block_in c.args.config.now v c.args.end.index) (levels (tree_of v) - c.loop-height.height) c.args.end.above (omega (arith, c.loop-height-test.false, all, inv.within.0, inv.within.1, c.requires.above)) inv.known

pub digest_beneath-returns-clause-touches : goal.digest_beneath-returns-clause-touches
digest_beneath-returns-clause-touches g t c = asks-as (Ok c.loop-height.digest) tt (λ failures. refl) c.loop-height.invariant.touches

pub digest_beneath-returns-clause-given : goal.digest_beneath-returns-clause-given
digest_beneath-returns-clause-given g t c j =
    let v = c.args.verity.now in
    let all : c.levels-height.result ≡ levels (tree_of v) = c.levels-height.ensures.value ∙ ap levels c.requires.block.lies.shape_is in
    let inv = c.loop-height.invariant in
    digest-given (omega (arith, c.loop-height-test.false, all, inv.within.0, inv.within.1, c.requires.above)) (inv.given j)

-- ---- a block that is judged

-- the line has parity
protected : (o : Option Parity) (q : Parity) → o ≡ Some q → IsTrue (is_some o)
protected o q has = ap is_some has

pub judge_block-stored_digest-requires : goal.judge_block-stored_digest-requires
judge_block-stored_digest-requires g t c κs within = (omega arith, (within, (c.requires.stack, c.requires.block)))

pub judge_block-known_digest-known-requires : goal.judge_block-known_digest-known-requires
judge_block-known_digest-known-requires g t c κs within =
    (omega arith, (within, (stack-later c.args.config.now c.stored_digest.ensures.reads.moved.moved.fixed c.requires.stack c.stored_digest.ensures.cached, c.requires.block.lies)))

pub judge_block-known_digest-known-requires-in-Ok : goal.judge_block-known_digest-known-requires-in-Ok
judge_block-known_digest-known-requires-in-Ok g t c κs within =
    (omega arith, (within, (stack-later c.args.config.now c.stored_digest.ensures.reads.moved.moved.fixed c.requires.stack c.stored_digest.ensures.cached, c.requires.block.lies)))

-- its own read ended in a fault of a line, or in memory's
fault-digest : (c : Configuration) (v : Verity) (k : ℕ) {old new : List Device} {e other : IoFault} → e ≡ other → Gets (stored_digest_wanted c v k) old new (Err e) → Gets (stored_digest_wanted c v k) old new (Err other)
fault-digest c v k {old = old} {new = new} is got = subst (λ (e : IoFault). Gets (stored_digest_wanted c v k) old new (Err e)) is got

fault-reads : {D : Type 0} {does : D → Call → D → Type 0} (c : Configuration) (p : DataPlace) (k : ℕ) {old new : Served D} {e other : IoFault} → e ≡ other → ReadsBy does c (block_at p k) old new (Err e) → ReadsBy does c (block_at p k) old new (Err other)
fault-reads {does = does} c p k {old = old} {new = new} is got = subst (λ (e : IoFault). ReadsBy does c (block_at p k) old new (Err e)) is got

pub judge_block-returns-in-Err-Stack-clause-ok : goal.judge_block-returns-in-Err-Stack-clause-ok
judge_block-returns-in-Err-Stack-clause-ok g t c =
    judged-refused c.args.config.now c.args.verity.now c.args.number _ (judge-most (block_in c.args.config.now c.args.verity.now c.args.number)) (fault-digest c.args.config.now c.args.verity.now c.args.number c.in-Err-Stack.field-0-is c.in-Err-Stack.ensures.reads)

pub judge_block-returns-in-Err-Stack-clause-touches : goal.judge_block-returns-in-Err-Stack-clause-touches
judge_block-returns-in-Err-Stack-clause-touches g t c =
    let v = c.args.verity.now in
    let b = c.requires.block in
    asks-one v.parity (Ok Lost) (protected v.parity b.parity b.has) (λ none. none c.args.tree.now.device.0 c.args.tree.now.line v b.lies.is) tt c.in-Err-Stack.ensures.touches

pub judge_block-returns-in-Err-Stack-clause-given : goal.judge_block-returns-in-Err-Stack-clause-given
judge_block-returns-in-Err-Stack-clause-given g t c j q i l expected next = judges-refused expected _ next (fault-reads c.args.config.now (place_in c.args.verity.now c.args.tree.now c.args.number) c.args.number c.in-Err-Stack.field-0-is c.in-Err-Stack.ensures.given)

pub judge_block-returns-in-Err-NoMemory-clause-err : goal.judge_block-returns-in-Err-NoMemory-clause-err
judge_block-returns-in-Err-NoMemory-clause-err g t c =
    judged-short c.args.config.now c.args.verity.now c.args.number (judge-most (block_in c.args.config.now c.args.verity.now c.args.number)) (fault-digest c.args.config.now c.args.verity.now c.args.number c.in-Err-NoMemory.field-0-is c.in-Err-NoMemory.ensures.reads)

pub judge_block-returns-in-Err-NoMemory-clause-touches : goal.judge_block-returns-in-Err-NoMemory-clause-touches
judge_block-returns-in-Err-NoMemory-clause-touches g t c =
    let v = c.args.verity.now in
    let b = c.requires.block in
    asks-one v.parity (Err NoMemory) (protected v.parity b.parity b.has) (λ none. none c.args.tree.now.device.0 c.args.tree.now.line v b.lies.is) tt c.in-Err-NoMemory.ensures.touches

pub judge_block-returns-in-Err-NoMemory-clause-given : goal.judge_block-returns-in-Err-NoMemory-clause-given
judge_block-returns-in-Err-NoMemory-clause-given g t c j q i l expected next = judges-short expected next (fault-reads c.args.config.now (place_in c.args.verity.now c.args.tree.now c.args.number) c.args.number c.in-Err-NoMemory.field-0-is c.in-Err-NoMemory.ensures.given)

-- its leaf failed
pub judge_block-returns-in-Err-Device-clause-ok : goal.judge_block-returns-in-Err-Device-clause-ok
judge_block-returns-in-Err-Device-clause-ok g t c =
    let config = c.args.config.now in
    let v = c.args.verity.now in
    let b = c.requires.block in
    let k : ℕ = c.args.number in
    subst (λ (r : Result Judged IoFault). IfOk r (IsJudged config v k (map g.D.BlockDev.state c.args.backing.now.devices.items) (map g.D.BlockDev.state c.known_digest-known.new.backing.devices.items))) (sym c.judge_by.ensures)
    (judged-unread config v k (judge-fits config v c.args.tree.now b.parity k c.requires.stack.sound.loaded b.lies b.has) c.in-Err-Device.leaf (fault-digest c.args.config.now c.args.verity.now c.args.number c.in-Err-Device.field-0-is c.in-Err-Device.ensures.reads) c.known_digest-known.result c.known_digest-known.ensures.reads)

pub judge_block-returns-in-Err-Device-clause-named : goal.judge_block-returns-in-Err-Device-clause-named
judge_block-returns-in-Err-Device-clause-named g t c =
    let these = leaves_of c.args.config.now (mapped c.args.tree.now.device.0) in
    subst (λ (r : Result Judged IoFault). IfOk r (λ judged. NamesLeaf these (failed_of judged))) (sym c.judge_by.ensures)
    (unread-named these c.in-Err-Device.leaf c.known_digest-known.result (subst (λ (e : IoFault). NamesOneOf these e) c.in-Err-Device.field-0-is c.in-Err-Device.ensures.touches.fault))

pub judge_block-returns-in-Err-Device-clause-err : goal.judge_block-returns-in-Err-Device-clause-err
judge_block-returns-in-Err-Device-clause-err g t c =
    let config = c.args.config.now in
    let v = c.args.verity.now in
    let b = c.requires.block in
    let k : ℕ = c.args.number in
    subst (λ (r : Result Judged IoFault). IfErr r (IsUnjudged (block_in config v k) (judge_cost (block_in config v k)) (map g.D.BlockDev.state c.args.backing.now.devices.items) (map g.D.BlockDev.state c.known_digest-known.new.backing.devices.items))) (sym c.judge_by.ensures)
    (unjudged-unread config v k (judge-fits config v c.args.tree.now b.parity k c.requires.stack.sound.loaded b.lies b.has) c.in-Err-Device.leaf (fault-digest c.args.config.now c.args.verity.now c.args.number c.in-Err-Device.field-0-is c.in-Err-Device.ensures.reads) c.known_digest-known.result c.known_digest-known.ensures.reads)

pub judge_block-returns-in-Err-Device-clause-cached : goal.judge_block-returns-in-Err-Device-clause-cached
judge_block-returns-in-Err-Device-clause-cached g t c = record { capacity = c.known_digest-known.ensures.cached.capacity ∙ c.in-Err-Device.ensures.cached.capacity; sound = c.known_digest-known.ensures.cached.sound }

pub judge_block-returns-in-Err-Device-clause-touches : goal.judge_block-returns-in-Err-Device-clause-touches
judge_block-returns-in-Err-Device-clause-touches g t c =
    let v = c.args.verity.now in
    let b = c.requires.block in
    let these = leaves_of c.args.config.now (mapped c.args.tree.now.device.0) in
    asks-both v.parity c.judge_by.result (protected v.parity b.parity b.has) (λ none. none c.args.tree.now.device.0 c.args.tree.now.line v b.lies.is)
    (subst (λ (r : Result Judged IoFault). IfErr r (NamesOneOf these)) (sym c.judge_by.ensures) (unread-fault these c.in-Err-Device.leaf c.known_digest-known.result (subst (λ (e : IoFault). NamesOneOf these e) c.in-Err-Device.field-0-is c.in-Err-Device.ensures.touches.fault) c.known_digest-known.ensures.touches.fault))
    c.in-Err-Device.ensures.touches c.known_digest-known.ensures.touches

pub judge_block-returns-in-Err-Device-clause-given : goal.judge_block-returns-in-Err-Device-clause-given
judge_block-returns-in-Err-Device-clause-given g t c j q i l expected next =
    judges-by expected c.judge_by.result next (fault-reads c.args.config.now (place_in c.args.verity.now c.args.tree.now c.args.number) c.args.number c.in-Err-Device.field-0-is c.in-Err-Device.ensures.given) (c.known_digest-known.ensures.given j) c.judge_by.ensures

-- it was read
pub judge_block-returns-in-Ok-clause-ok : goal.judge_block-returns-in-Ok-clause-ok
judge_block-returns-in-Ok-clause-ok g t c =
    let config = c.args.config.now in
    let v = c.args.verity.now in
    let b = c.requires.block in
    let k : ℕ = c.args.number in
    subst (λ (r : Result Judged IoFault). IfOk r (IsJudged config v k (map g.D.BlockDev.state c.args.backing.now.devices.items) (map g.D.BlockDev.state c.known_digest-known-in-Ok.new.backing.devices.items))) (sym c.judge_by-in-Ok.ensures)
    (judged-read config v k (judge-fits config v c.args.tree.now b.parity k c.requires.stack.sound.loaded b.lies b.has) c.in-Ok.own c.in-Ok.ensures.reads c.known_digest-known-in-Ok.result c.known_digest-known-in-Ok.ensures.reads)

pub judge_block-returns-in-Ok-clause-named : goal.judge_block-returns-in-Ok-clause-named
judge_block-returns-in-Ok-clause-named g t c =
    let these = leaves_of c.args.config.now (mapped c.args.tree.now.device.0) in
    subst (λ (r : Result Judged IoFault). IfOk r (λ judged. NamesLeaf these (failed_of judged))) (sym c.judge_by-in-Ok.ensures) (read-named these c.in-Ok.own c.known_digest-known-in-Ok.result)

pub judge_block-returns-in-Ok-clause-err : goal.judge_block-returns-in-Ok-clause-err
judge_block-returns-in-Ok-clause-err g t c =
    let config = c.args.config.now in
    let v = c.args.verity.now in
    let b = c.requires.block in
    let k : ℕ = c.args.number in
    subst (λ (r : Result Judged IoFault). IfErr r (IsUnjudged (block_in config v k) (judge_cost (block_in config v k)) (map g.D.BlockDev.state c.args.backing.now.devices.items) (map g.D.BlockDev.state c.known_digest-known-in-Ok.new.backing.devices.items))) (sym c.judge_by-in-Ok.ensures)
    (unjudged-read config v k (judge-fits config v c.args.tree.now b.parity k c.requires.stack.sound.loaded b.lies b.has) c.in-Ok.own c.in-Ok.ensures.reads c.known_digest-known-in-Ok.result c.known_digest-known-in-Ok.ensures.reads)

pub judge_block-returns-in-Ok-clause-cached : goal.judge_block-returns-in-Ok-clause-cached
judge_block-returns-in-Ok-clause-cached g t c = record { capacity = c.known_digest-known-in-Ok.ensures.cached.capacity ∙ c.in-Ok.ensures.cached.capacity; sound = c.known_digest-known-in-Ok.ensures.cached.sound }

pub judge_block-returns-in-Ok-clause-touches : goal.judge_block-returns-in-Ok-clause-touches
judge_block-returns-in-Ok-clause-touches g t c =
    let v = c.args.verity.now in
    let b = c.requires.block in
    let these = leaves_of c.args.config.now (mapped c.args.tree.now.device.0) in
    asks-both v.parity c.judge_by-in-Ok.result (protected v.parity b.parity b.has) (λ none. none c.args.tree.now.device.0 c.args.tree.now.line v b.lies.is)
    (subst (λ (r : Result Judged IoFault). IfErr r (NamesOneOf these)) (sym c.judge_by-in-Ok.ensures) (read-fault these c.in-Ok.own c.known_digest-known-in-Ok.result c.known_digest-known-in-Ok.ensures.touches.fault))
    c.in-Ok.ensures.touches c.known_digest-known-in-Ok.ensures.touches

pub judge_block-returns-in-Ok-clause-given : goal.judge_block-returns-in-Ok-clause-given
judge_block-returns-in-Ok-clause-given g t c j q i l expected next =
    judges-by expected c.judge_by-in-Ok.result next c.in-Ok.ensures.given.2 (c.known_digest-known-in-Ok.ensures.given j) (c.judge_by-in-Ok.ensures ∙ ap (λ (d : List ℕ). judge_by (Ok d) c.known_digest-known-in-Ok.result) c.in-Ok.ensures.given.1)

-- ---- the others of a round

-- another block is covered
pub judge_other-judge_block-requires : goal.judge_other-judge_block-requires
judge_other-judge_block-requires g t c κs within = (omega arith, (within, (c.requires.stack, c.in-Some.ensures.covered)))

pub judge_other-returns-in-None-clause-finds : goal.judge_other-returns-in-None-clause-finds
judge_other-returns-in-None-clause-finds g t c q has few low first so_far =
    let place = place_in c.args.verity.now c.args.tree.now c.args.losses.now.lost.index in
    found-past g.D.BlockDev.state c.args.config.now place q so_far few low (sym (c.in-None.ensures.is ∙ ap (λ (o : Option Parity). other_in o c.args.losses.now.lost.index c.args.place) has))

pub judge_other-returns-in-Err-clause-finds : goal.judge_other-returns-in-Err-clause-finds
judge_other-returns-in-Err-clause-finds g t c q has few low first so_far =
    let v = c.args.verity.now in
    let tree = c.args.tree.now in
    let j : ℕ = c.args.losses.now.lost.index in
    let place = place_in v tree j in
    let at : other_number q j c.args.place ≡ Some c.in-Some.number = sym (c.in-Some.ensures.is ∙ ap (λ (o : Option Parity). other_in o j c.args.place) has) in
    let next : IsNext q j c.args.place (record_of c.args.losses.now) c.in-Some.number = record { few = few; low = low; at = at } in
    let round = is-round c.args.config.now v tree c.requires.stack.sound.loaded c.requires.block.lies j c.requires.block.there q has in
    unfound-next g.D.BlockDev.state c.args.config.now place q so_far c.in-Some.number next round.some c.in-Err.full c.in-Err.ensures.err (λ expected. c.in-Err.ensures.given j q c.args.place (record_of c.args.losses.now) expected next)

pub judge_other-returns-in-Ok-note-clause-finds : goal.judge_other-returns-in-Ok-note-clause-finds
judge_other-returns-in-Ok-note-clause-finds g t c q has few low first so_far =
    let v = c.args.verity.now in
    let tree = c.args.tree.now in
    let j : ℕ = c.args.losses.now.lost.index in
    let place = place_in v tree j in
    let at : other_number q j c.args.place ≡ Some c.in-Some.number = sym (c.in-Some.ensures.is ∙ ap (λ (o : Option Parity). other_in o j c.args.place) has) in
    let next : IsNext q j c.args.place (record_of c.args.losses.now) c.in-Some.number = record { few = few; low = low; at = at } in
    subst (λ (l : LossRecord). AreFoundUpTo g.D.BlockDev.state (DeviceDoes g.D.BlockDev.state g.D.BlockDev.does) c.args.config.now place q (suc c.args.place) first c.judge_block.new.backing l) (sym c.in-Ok-note.ensures.ok.is)
    (found-next g.D.BlockDev.state c.args.config.now place q so_far c.in-Some.number next c.in-Ok.judged c.in-Ok.ensures.ok (λ expected. c.in-Ok.ensures.given j q c.args.place (record_of c.args.losses.now) expected next))

pub judge_other-returns-in-Err-note-clause-finds : goal.judge_other-returns-in-Err-note-clause-finds
judge_other-returns-in-Err-note-clause-finds g t c q has few low first so_far =
    let v = c.args.verity.now in
    let tree = c.args.tree.now in
    let j : ℕ = c.args.losses.now.lost.index in
    let place = place_in v tree j in
    let at : other_number q j c.args.place ≡ Some c.in-Some.number = sym (c.in-Some.ensures.is ∙ ap (λ (o : Option Parity). other_in o j c.args.place) has) in
    let next : IsNext q j c.args.place (record_of c.args.losses.now) c.in-Some.number = record { few = few; low = low; at = at } in
    let round = is-round c.args.config.now v tree c.requires.stack.sound.loaded c.requires.block.lies j c.requires.block.there q has in
    unfound-full g.D.BlockDev.state c.args.config.now place q round.some (omega (arith, low))
    (found-next g.D.BlockDev.state c.args.config.now place q so_far c.in-Some.number next c.in-Ok.judged c.in-Ok.ensures.ok (λ expected. c.in-Ok.ensures.given j q c.args.place (record_of c.args.losses.now) expected next)) c.in-Err-note.ensures.err

pub judge_other-returns-in-Ok-note-clause-same : goal.judge_other-returns-in-Ok-note-clause-same
judge_other-returns-in-Ok-note-clause-same g t c = c.in-Ok-note.ensures.ok.lost

pub judge_other-returns-in-Err-clause-touches : goal.judge_other-returns-in-Err-clause-touches
judge_other-returns-in-Err-clause-touches g t c = asks-as (Err c.in-Err.full) c.in-Err.ensures.touches.fault (λ failures. refl) c.in-Err.ensures.touches

pub judge_other-returns-in-Ok-note-clause-touches : goal.judge_other-returns-in-Ok-note-clause-touches
judge_other-returns-in-Ok-note-clause-touches g t c = asks-as (Ok tt) tt (λ failures. refl) c.in-Ok.ensures.touches

pub judge_other-returns-in-Err-note-clause-touches : goal.judge_other-returns-in-Err-note-clause-touches
judge_other-returns-in-Err-note-clause-touches g t c = asks-as (Err NoMemory) tt (λ failures. refl) c.in-Ok.ensures.touches

-- ---- the lost blocks of a round

pub find_losses-returns-in-Err-clause-err : goal.find_losses-returns-in-Err-clause-err
find_losses-returns-in-Err-clause-err g t c q has =
    let v = c.args.verity.now in
    let tree = c.args.tree.now in
    let j : ℕ = c.args.lost.now.index in
    let round = is-round c.args.config.now v tree c.requires.stack.sound.loaded c.requires.block.lies j c.requires.block.there q has in
    unfound-full g.D.BlockDev.state c.args.config.now (place_in v tree j) q round.some (omega arith) (found-none g.D.BlockDev.state c.args.config.now (place_in v tree j) q c.args.backing.now) c.in-Err.ensures.err

pub find_losses-returns-in-None-clause-ok : goal.find_losses-returns-in-None-clause-ok
find_losses-returns-in-None-clause-ok g t c q has = let clash : None ≡ Some q = sym c.in-None.is ∙ has in absurd cc

pub find_losses-returns-in-None-clause-touches : goal.find_losses-returns-in-None-clause-touches
find_losses-returns-in-None-clause-touches g t c = asks-none _ (leaves_of c.args.config.now (mapped c.args.tree.now.device.0)) (map g.D.BlockDev.state c.args.backing.now.devices.items) _ tt refl

pub find_losses-returns-in-None-clause-named : goal.find_losses-returns-in-None-clause-named
find_losses-returns-in-None-clause-named g t c = subst (λ (o : Option ℕ). NamesLeaf (leaves_of c.args.config.now (mapped c.args.tree.now.device.0)) o) (sym c.in-Ok.ensures.none) tt

pub find_losses-loop-place-init : goal.find_losses-loop-place-init
find_losses-loop-place-init g t c =
    let config = c.args.config.now in
    let v = c.args.verity.now in
    let tree = c.args.tree.now in
    let place = place_in v tree c.args.lost.now.index in
    let leaves = map g.D.BlockDev.state c.args.backing.now.devices.items in
    record {
      within = omega arith;
      same = c.in-Ok.ensures.ok;
      named = subst (λ (o : Option ℕ). NamesLeaf (leaves_of config (mapped tree.device.0)) o) (sym c.in-Ok.ensures.none) tt;
      found = λ q has. subst (λ (l : LossRecord). AreFoundUpTo g.D.BlockDev.state (DeviceDoes g.D.BlockDev.state g.D.BlockDev.does) config place q 0 c.args.backing.now c.args.backing.now l) (sym (c.in-Ok.ensures.place q has)) (found-none g.D.BlockDev.state config place q c.args.backing.now);
      cached = record { capacity = refl; sound = c.requires.stack.cached };
      touches = asks-none _ (leaves_of config (mapped tree.device.0)) leaves (Ok tt) tt refl;
    }

pub find_losses-judge_other-requires : goal.find_losses-judge_other-requires
find_losses-judge_other-requires g t c κs within =
    let inv = c.loop-place.invariant in
    let found = inv.found c.in-Some.parity c.in-Some.is in
    (omega arith, (within, (stack-later c.args.config.now found.judged.moved.moved.fixed c.requires.stack inv.cached, subst (λ (x : LostBlock). HasVerifiedBlock c.args.config.now c.args.verity.now c.args.tree.now x.index) (sym inv.same) c.requires.block)))

pub find_losses-returns-then-len-roots-clause-same : goal.find_losses-returns-then-len-roots-clause-same
find_losses-returns-then-len-roots-clause-same g t c = c.loop-place.invariant.same

pub find_losses-returns-then-len-roots-clause-ok : goal.find_losses-returns-then-len-roots-clause-ok
find_losses-returns-then-len-roots-clause-ok g t c q has =
    let inv = c.loop-place.invariant in
    record {
      count = c.loop-place.place;
      found = inv.found q has;
      most = omega (arith, mend-inside c.args.verity.now.parity c.in-Some.parity q c.loop-place.place c.in-Some.is has (omega (arith, c.loop-place-test.true)));
      all = inr (many-lost c.args.verity.now.parity c.in-Some.parity q (length c.loop-place.losses.places.items) c.in-Some.is has (omega (arith, c.if-len-roots.true, c.loop-place.losses.places.ok.0)));
    }

pub find_losses-returns-then-len-roots-clause-cached : goal.find_losses-returns-then-len-roots-clause-cached
find_losses-returns-then-len-roots-clause-cached g t c = c.loop-place.invariant.cached

pub find_losses-returns-then-len-roots-clause-touches : goal.find_losses-returns-then-len-roots-clause-touches
find_losses-returns-then-len-roots-clause-touches g t c = asks-as (Ok c.loop-place.losses) tt (λ failures. refl) c.loop-place.invariant.touches

pub find_losses-returns-in-Err-judge_other-clause-err : goal.find_losses-returns-in-Err-judge_other-clause-err
find_losses-returns-in-Err-judge_other-clause-err g t c q has =
    let inv = c.loop-place.invariant in
    let few = few-lost c.args.verity.now.parity c.in-Some.parity q (length c.loop-place.losses.places.items) c.in-Some.is has (omega (arith, c.if-len-roots.false, c.loop-place.losses.places.ok.0)) in
    let low = mend-inside c.args.verity.now.parity c.in-Some.parity q c.loop-place.place c.in-Some.is has (omega (arith, c.loop-place-test.true)) in
    let index : c.loop-place.losses.lost.index ≡ c.args.lost.now.index = ap (λ (x : LostBlock). x.index) inv.same in
    subst (λ (j : ℕ). AreFoundUpTo g.D.BlockDev.state (DeviceDoes g.D.BlockDev.state g.D.BlockDev.does) c.args.config.now (place_in c.args.verity.now c.args.tree.now j) q c.loop-place.place c.args.backing.now c.loop-place.backing (record_of c.loop-place.losses)
    → AreUnfound g.D.BlockDev.state (DeviceDoes g.D.BlockDev.state g.D.BlockDev.does) c.args.config.now (place_in c.args.verity.now c.args.tree.now j) q c.args.backing.now c.judge_other.new.backing c.in-Err-judge_other.full) index
    (c.in-Err-judge_other.ensures.finds q has few low c.args.backing.now) (inv.found q has)

pub find_losses-returns-in-Err-judge_other-clause-cached : goal.find_losses-returns-in-Err-judge_other-clause-cached
find_losses-returns-in-Err-judge_other-clause-cached g t c = record { capacity = c.in-Err-judge_other.ensures.cached.capacity ∙ c.loop-place.invariant.cached.capacity; sound = c.in-Err-judge_other.ensures.cached.sound }

pub find_losses-returns-in-Err-judge_other-clause-touches : goal.find_losses-returns-in-Err-judge_other-clause-touches
find_losses-returns-in-Err-judge_other-clause-touches g t c = asks-then c.loop-place.invariant.touches (asks-as (Err c.in-Err-judge_other.full) c.in-Err-judge_other.ensures.touches.fault (λ failures. refl) c.in-Err-judge_other.ensures.touches)

pub find_losses-loop-place-preserved : goal.find_losses-loop-place-preserved
find_losses-loop-place-preserved g t c =
    let inv = c.loop-place.invariant in
    let next : suc c.loop-place.place ≡ c.loop-place.place + 1 = omega arith in
    let index : c.loop-place.losses.lost.index ≡ c.args.lost.now.index = ap (λ (x : LostBlock). x.index) inv.same in
    let state = g.D.BlockDev.state in
    let does = DeviceDoes g.D.BlockDev.state g.D.BlockDev.does in
    record {
      within = omega (arith, c.loop-place-test.true);
      same = c.in-Ok-judge_other.ensures.same ∙ inv.same;
      named = c.in-Ok-judge_other.ensures.named inv.named;
      found = λ q has.
          let few = few-lost c.args.verity.now.parity c.in-Some.parity q (length c.loop-place.losses.places.items) c.in-Some.is has (omega (arith, c.if-len-roots.false, c.loop-place.losses.places.ok.0)) in
          let low = mend-inside c.args.verity.now.parity c.in-Some.parity q c.loop-place.place c.in-Some.is has (omega (arith, c.loop-place-test.true)) in
          subst (λ (k : ℕ). AreFoundUpTo state does c.args.config.now (place_in c.args.verity.now c.args.tree.now c.args.lost.now.index) q k c.args.backing.now c.judge_other.new.backing (record_of c.judge_other.new.losses)) next
          (subst (λ (j : ℕ). AreFoundUpTo state does c.args.config.now (place_in c.args.verity.now c.args.tree.now j) q c.loop-place.place c.args.backing.now c.loop-place.backing (record_of c.loop-place.losses)
          → AreFoundUpTo state does c.args.config.now (place_in c.args.verity.now c.args.tree.now j) q (suc c.loop-place.place) c.args.backing.now c.judge_other.new.backing (record_of c.judge_other.new.losses)) index
          (c.in-Ok-judge_other.ensures.finds q has few low c.args.backing.now) (inv.found q has));
      cached = record { capacity = c.in-Ok-judge_other.ensures.cached.capacity ∙ inv.cached.capacity; sound = c.in-Ok-judge_other.ensures.cached.sound };
      touches = asks-then inv.touches c.in-Ok-judge_other.ensures.touches;
    }

pub find_losses-returns-clause-same : goal.find_losses-returns-clause-same
find_losses-returns-clause-same g t c = c.loop-place.invariant.same

pub find_losses-returns-clause-ok : goal.find_losses-returns-clause-ok
find_losses-returns-clause-ok g t c q has =
    let inv = c.loop-place.invariant in
    let all = same-roots c.args.verity.now.parity c.in-Some.parity q c.in-Some.is has in
    record {
      count = c.loop-place.place;
      found = inv.found q has;
      most = omega (arith, inv.within, all);
      all = inl (omega (arith, c.loop-place-test.false, inv.within, all));
    }

pub find_losses-returns-clause-touches : goal.find_losses-returns-clause-touches
find_losses-returns-clause-touches g t c = asks-as (Ok c.loop-place.losses) tt (λ failures. refl) c.loop-place.invariant.touches

-- ---- the lost blocks are restored

pub mend_erased-returns-in-None-clause-reads : goal.mend_erased-returns-in-None-clause-reads
mend_erased-returns-in-None-clause-reads g t c = erased-none (block_in c.args.config.now c.args.verity.now c.args.lost.now.index) c.args.lost.now.digest (map g.D.BlockDev.state c.args.backing.now.devices.items) c.in-None.is

pub mend_erased-returns-in-None-clause-given : goal.mend_erased-returns-in-None-clause-given
mend_erased-returns-in-None-clause-given g t c = erased-past (place_in c.args.verity.now c.args.tree.now c.args.lost.now.index) c.args.lost.now.digest c.in-None.is

pub mend_erased-find_losses-requires : goal.mend_erased-find_losses-requires
mend_erased-find_losses-requires g t c κs within = (omega arith, (within, (c.requires.stack, c.requires.block)))

pub mend_erased-returns-in-Err-clause-reads : goal.mend_erased-returns-in-Err-clause-reads
mend_erased-returns-in-Err-clause-reads g t c =
    let config = c.args.config.now in
    let v = c.args.verity.now in
    let tree = c.args.tree.now in
    let index : ℕ = c.args.lost.now.index in
    let q = c.in-Some.parity in
    let has = c.in-Some.is in
    let round = is-round config v tree c.requires.stack.sound.loaded c.requires.block.lies index c.requires.block.there q has in
    let shape = (line-facts config tree.device.0 tree.line v c.requires.stack.sound.loaded c.requires.block.lies.is).2.shape in
    erased-unfound (block_in config v index) q has round.some round.few (block-covered config v tree index c.requires.stack.sound.loaded c.requires.block q has) shape c.args.lost.now.digest c.in-Err.full (c.in-Err.ensures.err q has).judged

pub mend_erased-returns-in-Err-clause-given : goal.mend_erased-returns-in-Err-clause-given
mend_erased-returns-in-Err-clause-given g t c = erased-unjudged c.in-Some.is ((c.in-Err.ensures.err c.in-Some.parity c.in-Some.is).given c.args.lost.now.digest)

pub mend_erased-returns-in-Err-clause-touches : goal.mend_erased-returns-in-Err-clause-touches
mend_erased-returns-in-Err-clause-touches g t c = asks-as (Err c.in-Err.full) c.in-Err.ensures.touches.fault (λ failures. refl) c.in-Err.ensures.touches

pub mend_erased-returns-then-len-roots-clause-reads : goal.mend_erased-returns-then-len-roots-clause-reads
mend_erased-returns-then-len-roots-clause-reads g t c =
    let config = c.args.config.now in
    let v = c.args.verity.now in
    let tree = c.args.tree.now in
    let index : ℕ = c.args.lost.now.index in
    let q = c.in-Some.parity in
    let has = c.in-Some.is in
    let l = record_of c.in-Ok.losses in
    let found = c.in-Ok.ensures.ok q has in
    let round = is-round config v tree c.requires.stack.sound.loaded c.requires.block.lies index c.requires.block.there q has in
    let shape = (line-facts config tree.device.0 tree.line v c.requires.stack.sound.loaded c.requires.block.lies.is).2.shape in
    subst (λ (e : IoFault). Gets (erased_wanted config v c.args.lost.now) (map g.D.BlockDev.state c.args.backing.now.devices.items) (map g.D.BlockDev.state c.find_losses.new.backing.devices.items) (Err e)) (sym c.vain.ensures)
    (erased-many (block_in config v index) q has round.some round.few (block-covered config v tree index c.requires.stack.sound.loaded c.requires.block q has) shape c.args.lost.now.digest l found.found.judged found.most (omega (arith, c.if-len-roots.true, c.in-Ok.losses.places.ok.0)))

pub mend_erased-returns-then-len-roots-clause-given : goal.mend_erased-returns-then-len-roots-clause-given
mend_erased-returns-then-len-roots-clause-given g t c =
    let has = c.in-Some.is in
    let place = place_in c.args.verity.now c.args.tree.now c.args.lost.now.index in
    let found = c.in-Ok.ensures.ok c.in-Some.parity has in
    subst (λ (e : IoFault). ReadsBy (DeviceDoes g.D.BlockDev.state g.D.BlockDev.does) c.args.config.now (erased_of place c.args.lost.now.digest) (served c.args.backing.now) (served c.find_losses.new.backing) (Err e)) (sym c.vain.ensures)
    (erased-vain has (found.found.given c.args.lost.now.digest) (omega (arith, c.if-len-roots.true, c.in-Ok.losses.places.ok.0)))

pub mend_erased-returns-then-len-roots-clause-touches : goal.mend_erased-returns-then-len-roots-clause-touches
mend_erased-returns-then-len-roots-clause-touches g t c =
    let v = c.args.verity.now in
    let these = leaves_of c.args.config.now (mapped c.args.tree.now.device.0) in
    asks-one v.parity (Err c.vain.result) (protected v.parity c.in-Some.parity c.in-Some.is) (λ none. none c.args.tree.now.device.0 c.args.tree.now.line v c.requires.block.lies.is)
    (subst (λ (e : IoFault). NamesOneOf these e) (sym c.vain.ensures) (vain-named these c.in-Ok.losses.failed c.in-Ok.ensures.named)) c.in-Ok.ensures.touches

pub find_losses-returns-then-len-roots-clause-named : goal.find_losses-returns-then-len-roots-clause-named
find_losses-returns-then-len-roots-clause-named g t c = c.loop-place.invariant.named

pub find_losses-returns-clause-named : goal.find_losses-returns-clause-named
find_losses-returns-clause-named g t c = c.loop-place.invariant.named

pub judge_other-returns-in-Ok-note-clause-named : goal.judge_other-returns-in-Ok-note-clause-named
judge_other-returns-in-Ok-note-clause-named g t c before =
    let these = leaves_of c.args.config.now (mapped c.args.tree.now.device.0) in
    subst (λ (o : Option ℕ). NamesLeaf these o) (sym (ap (λ (l : LossRecord). l.failed) c.in-Ok-note.ensures.ok.is)) (names-next these c.args.losses.now.failed (record_of c.args.losses.now) c.args.place c.in-Ok.judged refl before c.in-Ok.ensures.named)

-- ---- by erasures

pub mend_erased-restore-requires : goal.mend_erased-restore-requires
mend_erased-restore-requires g t c κs within =
    let config = c.args.config.now in
    let v = c.args.verity.now in
    let tree = c.args.tree.now in
    let index : ℕ = c.args.lost.now.index in
    let q = c.in-Some.parity in
    let has = c.in-Some.is in
    let losses = c.in-Ok.losses in
    let found = c.in-Ok.ensures.ok q has in
    let round = is-round config v tree c.requires.stack.sound.loaded c.requires.block.lies index c.requires.block.there q has in
    let same : losses.lost ≡ c.args.lost.now = c.in-Ok.ensures.same in
    let block = subst (λ (x : LostBlock). HasVerifiedBlock config v tree x.index) (sym same) c.requires.block in
    let of = subst (λ (x : LostBlock). AreLossesOf v x.index (record_of losses)) (sym same) (losses-found (record_of losses) q has round.low found) in
    let few : length losses.places.items ≤ 24 = omega (arith, c.if-len-roots.false, losses.places.ok.0, round.few) in
    (omega arith, (within, (stack-later config found.found.judged.moved.moved.fixed c.requires.stack c.in-Ok.ensures.cached, (block, (of, (few, c.requires.size))))))

-- the restored one of the block that was asked for
erased-restored : (c : Configuration) (v : Verity) (tree : Tree) (lost own : LostBlock) (l : LossRecord) (q : Parity) {mid new : List Device} (answer : Result (List ℕ) IoFault) → own ≡ lost → Gets (restored_wanted (block_in c v own.index) q l own.digest) mid new answer → Gets (restored_wanted (block_in c v lost.index) q l lost.digest) mid new answer
erased-restored c v tree lost own l q {mid = mid} {new = new} answer same got = subst (λ (x : LostBlock). Gets (restored_wanted (block_in c v x.index) q l x.digest) mid new answer) same got

pub mend_erased-returns-in-Ok-restore-clause-reads : goal.mend_erased-returns-in-Ok-restore-clause-reads
mend_erased-returns-in-Ok-restore-clause-reads g t c =
    let config = c.args.config.now in
    let v = c.args.verity.now in
    let tree = c.args.tree.now in
    let index : ℕ = c.args.lost.now.index in
    let q = c.in-Some.parity in
    let has = c.in-Some.is in
    let losses = c.in-Ok.losses in
    let found = c.in-Ok.ensures.ok q has in
    let round = is-round config v tree c.requires.stack.sound.loaded c.requires.block.lies index c.requires.block.there q has in
    let shape = (line-facts config tree.device.0 tree.line v c.requires.stack.sound.loaded c.requires.block.lies.is).2.shape in
    let few : length losses.places.items ≤ q.roots = omega (arith, c.if-len-roots.false, losses.places.ok.0) in
    erased-all (block_in config v index) q has round.some round.few (block-covered config v tree index c.requires.stack.sound.loaded c.requires.block q has) shape c.args.lost.now.digest (record_of losses) found.found.judged (all-judged q found few) few (Ok c.restore.new.out)
    (erased-restored config v tree c.args.lost.now losses.lost (record_of losses) q (Ok c.restore.new.out) c.in-Ok.ensures.same (c.in-Ok-restore.ensures.reads q has))

pub mend_erased-returns-in-Ok-restore-clause-given : goal.mend_erased-returns-in-Ok-restore-clause-given
mend_erased-returns-in-Ok-restore-clause-given g t c =
    let v = c.args.verity.now in
    let tree = c.args.tree.now in
    let q = c.in-Some.parity in
    let has = c.in-Some.is in
    let losses = c.in-Ok.losses in
    let found = c.in-Ok.ensures.ok q has in
    let few : length losses.places.items ≤ q.roots = omega (arith, c.if-len-roots.false, losses.places.ok.0) in
    erased-given has (found.found.given c.args.lost.now.digest) (Ok c.restore.new.out) (all-judged q found few) few
    (subst (λ (x : LostBlock). ReadsBy (DeviceDoes g.D.BlockDev.state g.D.BlockDev.does) c.args.config.now (restored_of (place_in v tree x.index) q (record_of losses) x.digest) (served c.find_losses.new.backing) (served c.restore.new.backing) (Ok c.restore.new.out)) c.in-Ok.ensures.same (c.in-Ok-restore.ensures.given q has))

pub mend_erased-returns-in-Ok-restore-clause-cached : goal.mend_erased-returns-in-Ok-restore-clause-cached
mend_erased-returns-in-Ok-restore-clause-cached g t c = record { capacity = c.in-Ok-restore.ensures.cached.capacity ∙ c.in-Ok.ensures.cached.capacity; sound = c.in-Ok-restore.ensures.cached.sound }

pub mend_erased-returns-in-Ok-restore-clause-touches : goal.mend_erased-returns-in-Ok-restore-clause-touches
mend_erased-returns-in-Ok-restore-clause-touches g t c = asks-then c.in-Ok.ensures.touches c.in-Ok-restore.ensures.touches

pub mend_erased-returns-clause-reads : goal.mend_erased-returns-clause-reads
mend_erased-returns-clause-reads g t c =
    let config = c.args.config.now in
    let v = c.args.verity.now in
    let tree = c.args.tree.now in
    let index : ℕ = c.args.lost.now.index in
    let q = c.in-Some.parity in
    let has = c.in-Some.is in
    let losses = c.in-Ok.losses in
    let found = c.in-Ok.ensures.ok q has in
    let round = is-round config v tree c.requires.stack.sound.loaded c.requires.block.lies index c.requires.block.there q has in
    let shape = (line-facts config tree.device.0 tree.line v c.requires.stack.sound.loaded c.requires.block.lies.is).2.shape in
    let few : length losses.places.items ≤ q.roots = omega (arith, c.if-len-roots.false, losses.places.ok.0) in
    let is : c.unhealed.result ≡ unhealed (vain_fault losses.failed) c.in-Err-restore.fault = c.unhealed.ensures ∙ ap (λ (e : IoFault). unhealed e c.in-Err-restore.fault) c.vain-in-Err-restore.ensures in
    subst (λ (e : IoFault). Gets (erased_wanted config v c.args.lost.now) (map g.D.BlockDev.state c.args.backing.now.devices.items) (map g.D.BlockDev.state c.restore.new.backing.devices.items) (Err e)) (sym is)
    (erased-all (block_in config v index) q has round.some round.few (block-covered config v tree index c.requires.stack.sound.loaded c.requires.block q has) shape c.args.lost.now.digest (record_of losses) found.found.judged (all-judged q found few) few (Err c.in-Err-restore.fault)
    (erased-restored config v tree c.args.lost.now losses.lost (record_of losses) q (Err c.in-Err-restore.fault) c.in-Ok.ensures.same (c.in-Err-restore.ensures.reads q has)))

pub mend_erased-returns-clause-given : goal.mend_erased-returns-clause-given
mend_erased-returns-clause-given g t c =
    let v = c.args.verity.now in
    let tree = c.args.tree.now in
    let q = c.in-Some.parity in
    let has = c.in-Some.is in
    let losses = c.in-Ok.losses in
    let found = c.in-Ok.ensures.ok q has in
    let few : length losses.places.items ≤ q.roots = omega (arith, c.if-len-roots.false, losses.places.ok.0) in
    let is : c.unhealed.result ≡ unhealed (vain_fault losses.failed) c.in-Err-restore.fault = c.unhealed.ensures ∙ ap (λ (e : IoFault). unhealed e c.in-Err-restore.fault) c.vain-in-Err-restore.ensures in
    subst (λ (e : IoFault). ReadsBy (DeviceDoes g.D.BlockDev.state g.D.BlockDev.does) c.args.config.now (erased_of (place_in v tree c.args.lost.now.index) c.args.lost.now.digest) (served c.args.backing.now) (served c.restore.new.backing) (Err e)) (sym is)
    (erased-given has (found.found.given c.args.lost.now.digest) (Err c.in-Err-restore.fault) (all-judged q found few) few
    (subst (λ (x : LostBlock). ReadsBy (DeviceDoes g.D.BlockDev.state g.D.BlockDev.does) c.args.config.now (restored_of (place_in v tree x.index) q (record_of losses) x.digest) (served c.find_losses.new.backing) (served c.restore.new.backing) (Err c.in-Err-restore.fault)) c.in-Ok.ensures.same (c.in-Err-restore.ensures.given q has)))

pub mend_erased-returns-clause-touches : goal.mend_erased-returns-clause-touches
mend_erased-returns-clause-touches g t c =
    let v = c.args.verity.now in
    let these = leaves_of c.args.config.now (mapped c.args.tree.now.device.0) in
    let is : c.unhealed.result ≡ unhealed (vain_fault c.in-Ok.losses.failed) c.in-Err-restore.fault = c.unhealed.ensures ∙ ap (λ (e : IoFault). unhealed e c.in-Err-restore.fault) c.vain-in-Err-restore.ensures in
    asks-both v.parity (Err c.unhealed.result) (protected v.parity c.in-Some.parity c.in-Some.is) (λ none. none c.args.tree.now.device.0 c.args.tree.now.line v c.requires.block.lies.is)
    (subst (λ (e : IoFault). NamesOneOf these e) (sym is) (unhealed-named these (vain_fault c.in-Ok.losses.failed) c.in-Err-restore.fault (vain-named these c.in-Ok.losses.failed c.in-Ok.ensures.named) c.in-Err-restore.ensures.touches.fault)) c.in-Ok.ensures.touches c.in-Err-restore.ensures.touches

-- ---- the first of the lost blocks

pub restore-returns-in-Err-clause-reads : goal.restore-returns-in-Err-clause-reads
restore-returns-in-Err-clause-reads g t c q has =
    let l = c.args.losses.now in
    restored-fails (block_in c.args.config.now c.args.verity.now l.lost.index) q (record_of l) l.lost.digest c.in-Err.fault (c.in-Err.ensures.reads q has)

pub restore-returns-in-Err-clause-given : goal.restore-returns-in-Err-clause-given
restore-returns-in-Err-clause-given g t c q has = restored-lost (c.in-Err.ensures.given q has)

pub restore-returns-clause-reads : goal.restore-returns-clause-reads
restore-returns-clause-reads g t c q has =
    let l = c.args.losses.now in
    restored-differs (block_in c.args.config.now c.args.verity.now l.lost.index) q (record_of l) l.lost.digest (c.in-Ok.ensures.reads q has) (sym c.are_whole.ensures ∙ c.if-are_whole.false)

pub restore-returns-clause-given : goal.restore-returns-clause-given
restore-returns-clause-given g t c q has = restored-other (sym c.are_whole.ensures ∙ c.if-are_whole.false) (c.in-Ok.ensures.given q has)

-- so many bytes of sums
restore-long : (size out n : ℕ) (places : List ℕ) (all : List ℕ) → n ≡ length places * out → out ≡ size → n ≤ 98304 → length all ≡ 98304 → length (take n all) ≡ length places * size
restore-long size out n places all is same fits whole =
    let long : length (take n all) ≡ n = omega (arith, fits, whole, length-take n all) in
    long ∙ is ∙ ap (λ (k : ℕ). length places * k) same

pub restore-room-requires-clause-size : goal.restore-room-requires-clause-size
restore-room-requires-clause-size g t c =
    let whole = data-whole c.args.config.now c.args.tree.now.device.0 c.args.tree.now.line c.args.verity.now c.requires.stack.sound.loaded c.requires.block.lies.is in
    omega (arith, c.requires.size, whole.whole, whole.most)

pub restore-slice_bounds-sums-end : goal.restore-slice_bounds-sums-end
restore-slice_bounds-sums-end g t c =
    let room : length c.as_mut_slice-all.result.now ≡ 98304 = ap (λ (l : List ℕ). length l) c.as_mut_slice-all.ensures.value in
    sym (length-take-le c.room.result c.as_mut_slice-all.result.now (omega (arith, room, c.room.ensures.fits)))

pub restore-decode-requires : goal.restore-decode-requires
restore-decode-requires g t c κs within =
    let room : length c.as_mut_slice-all.result.now ≡ 98304 = ap (λ (l : List ℕ). length l) c.as_mut_slice-all.ensures.value in
    let long = restore-long c.args.verity.now.data_block (length c.args.out.now) c.room.result c.args.losses.now.places.items c.as_mut_slice-all.result.now c.room.ensures.value c.requires.size c.room.ensures.fits room in
    (omega arith, (within, (c.requires.stack, (c.requires.block, (c.requires.losses, long)))))

pub restore-are_whole-requires-clause-size : goal.restore-are_whole-requires-clause-size
restore-are_whole-requires-clause-size g t c =
    let room : length c.as_mut_slice-all.result.now ≡ 98304 = ap (λ (l : List ℕ). length l) c.as_mut_slice-all.ensures.value in
    c.decode.auto.sums ∙ restore-long c.args.verity.now.data_block (length c.args.out.now) c.room.result c.args.losses.now.places.items c.as_mut_slice-all.result.now c.room.ensures.value c.requires.size c.room.ensures.fits room

pub restore-take_first-requires : goal.restore-take_first-requires
restore-take_first-requires g t c =
    let size : ℕ = c.args.verity.now.data_block in
    let room : length c.as_mut_slice-all.result.now ≡ 98304 = ap (λ (l : List ℕ). length l) c.as_mut_slice-all.ensures.value in
    let long = restore-long size (length c.args.out.now) c.room.result c.args.losses.now.places.items c.as_mut_slice-all.result.now c.room.ensures.value c.requires.size c.room.ensures.fits room in
    let one : 1 * size ≤ length c.args.losses.now.places.items * size = mul-le-mul_right size (omega (arith, c.requires.losses.some)) in
    omega (arith, c.decode.auto.sums, long, one, c.requires.size)

pub restore-returns-then-are_whole-clause-reads : goal.restore-returns-then-are_whole-clause-reads
restore-returns-then-are_whole-clause-reads g t c q has =
    let config = c.args.config.now in
    let v = c.args.verity.now in
    let l = c.args.losses.now in
    let sums = c.decode.new.sums in
    let whole = data-whole config c.args.tree.now.device.0 c.args.tree.now.line v c.requires.stack.sound.loaded c.requires.block.lies.is in
    let room : length c.as_mut_slice-all.result.now ≡ 98304 = ap (λ (l : List ℕ). length l) c.as_mut_slice-all.ensures.value in
    let long : length sums ≡ length l.places.items * v.data_block = c.decode.auto.sums ∙ restore-long v.data_block (length c.args.out.now) c.room.result l.places.items c.as_mut_slice-all.result.now c.room.ensures.value c.requires.size c.room.ensures.fits room in
    let first : c.take_first.new.out ≡ column v.data_block sums 0 = c.take_first.ensures ∙ ap (λ (k : ℕ). take k sums) c.requires.size ∙ sym (column-first v.data_block sums) in
    subst (λ (x : List ℕ). Gets (restored_wanted (block_in config v l.lost.index) q (record_of l) l.lost.digest) (map g.D.BlockDev.state c.args.backing.now.devices.items) (map g.D.BlockDev.state c.decode.new.backing.devices.items) (Ok x)) (sym first)
    (restored-whole (block_in config v l.lost.index) q (record_of l) l.lost.digest (c.in-Ok.ensures.reads q has) (sym c.are_whole.ensures ∙ c.if-are_whole.true) (column-length v.data_block (length l.places.items) sums long 0 c.requires.losses.some ∙ sym whole.whole))

pub restore-returns-then-are_whole-clause-given : goal.restore-returns-then-are_whole-clause-given
restore-returns-then-are_whole-clause-given g t c q has =
    let config = c.args.config.now in
    let v = c.args.verity.now in
    let l = c.args.losses.now in
    let sums = c.decode.new.sums in
    let first : c.take_first.new.out ≡ column v.data_block sums 0 = c.take_first.ensures ∙ ap (λ (k : ℕ). take k sums) c.requires.size ∙ sym (column-first v.data_block sums) in
    subst (λ (x : List ℕ). ReadsBy (DeviceDoes g.D.BlockDev.state g.D.BlockDev.does) config (restored_of (place_in v c.args.tree.now l.lost.index) q (record_of l) l.lost.digest) (served c.args.backing.now) (served c.decode.new.backing) (Ok x)) (sym first)
    (restored-given (sym c.are_whole.ensures ∙ c.if-are_whole.true) (c.in-Ok.ensures.given q has))

-- ---- the sums of the lost blocks

pub decode-loop-place-init : goal.decode-loop-place-init
decode-loop-place-init g t c =
    let config = c.args.config.now in
    let v = c.args.verity.now in
    let tree = c.args.tree.now in
    let l = c.args.losses.now in
    let places = l.places.items in
    let leaves = map g.D.BlockDev.state c.args.backing.now.devices.items in
    let zeros : c.fill_zeros.new.out ≡ no_columns v.data_block places = c.fill_zeros.ensures ∙ ap (λ (n : ℕ). replicate n 0) c.requires.size in
    record {
      within = omega arith;
      summed = λ q has. subst (λ (x : List ℕ). AreSummed (block_in config v l.lost.index) q places 0 x leaves leaves) (sym zeros) (sums-begin (block_in config v l.lost.index) q places leaves);
      cached = record { capacity = refl; sound = c.requires.stack.cached };
      touches = asks-none _ (leaves_of config (mapped tree.device.0)) leaves (Ok tt) tt refl;
      given = λ q has. subst (λ (x : List ℕ). LeadsTo (DeviceDoes g.D.BlockDev.state g.D.BlockDev.does) config (columns_of (place_in v tree l.lost.index) q places 0 (no_columns v.data_block places)) (columns_of (place_in v tree l.lost.index) q places 0 x) (served c.args.backing.now) (served c.args.backing.now)) (sym zeros) (leads-begin (columns_of (place_in v tree l.lost.index) q places 0 (no_columns v.data_block places)));
    }

pub decode-returns-in-None-clause-reads : goal.decode-returns-in-None-clause-reads
decode-returns-in-None-clause-reads g t c q has = let clash : None ≡ Some q = sym c.in-None.is ∙ has in absurd cc

pub decode-returns-in-None-clause-given : goal.decode-returns-in-None-clause-given
decode-returns-in-None-clause-given g t c q has = let clash : None ≡ Some q = sym c.in-None.is ∙ has in absurd cc

pub decode-add_kept-requires : goal.decode-add_kept-requires
decode-add_kept-requires g t c κs within =
    let inv = c.loop-place.invariant in
    let summed = inv.summed c.in-Some.parity c.in-Some.is in
    (omega arith, (within, (stack-later c.args.config.now summed.moved.moved.fixed c.requires.stack inv.cached, (c.requires.block, (c.requires.losses, (omega (arith, c.loop-place-test.true), omega (arith, c.loop-place.auto.sums, c.fill_zeros.auto.out, c.requires.size)))))))

pub decode-returns-in-Err-clause-reads : goal.decode-returns-in-Err-clause-reads
decode-returns-in-Err-clause-reads g t c q has =
    let config = c.args.config.now in
    let v = c.args.verity.now in
    let l = c.args.losses.now in
    let round = is-round config v c.args.tree.now c.requires.stack.sound.loaded c.requires.block.lies l.lost.index c.requires.block.there q has in
    let low = mend-inside v.parity c.in-Some.parity q c.loop-place.place c.in-Some.is has (omega (arith, c.loop-place-test.true)) in
    sums-stop (block_in config v l.lost.index) q round.few l.places.items (c.loop-place.invariant.summed q has) c.in-Err.unread low (c.in-Err.ensures.reads q has low)

pub decode-returns-in-Err-clause-touches : goal.decode-returns-in-Err-clause-touches
decode-returns-in-Err-clause-touches g t c = asks-then c.loop-place.invariant.touches c.in-Err.ensures.touches

pub decode-returns-in-Err-clause-given : goal.decode-returns-in-Err-clause-given
decode-returns-in-Err-clause-given g t c q has =
    let low = mend-inside c.args.verity.now.parity c.in-Some.parity q c.loop-place.place c.in-Some.is has (omega (arith, c.loop-place-test.true)) in
    (c.loop-place.invariant.given q has).later (served c.add_kept.new.backing) (Err c.in-Err.unread) (c.in-Err.ensures.given q has low)

pub decode-loop-place-preserved : goal.decode-loop-place-preserved
decode-loop-place-preserved g t c =
    let config = c.args.config.now in
    let v = c.args.verity.now in
    let tree = c.args.tree.now in
    let l = c.args.losses.now in
    let places = l.places.items in
    let inv = c.loop-place.invariant in
    let place : ℕ = c.loop-place.place in
    let next : suc place ≡ place + 1 = omega arith in
    let old = map g.D.BlockDev.state c.args.backing.now.devices.items in
    let new = map g.D.BlockDev.state c.add_kept.new.backing.devices.items in
    record {
      within = omega (arith, c.loop-place-test.true);
      summed = λ q has.
          let round = is-round config v tree c.requires.stack.sound.loaded c.requires.block.lies l.lost.index c.requires.block.there q has in
          let low = mend-inside v.parity c.in-Some.parity q place c.in-Some.is has (omega (arith, c.loop-place-test.true)) in
          subst (λ (k : ℕ). AreSummed (block_in config v l.lost.index) q places k c.add_kept.new.sums old new) next (sums-more (block_in config v l.lost.index) q round.few places (inv.summed q has) (c.in-Ok.ensures.reads q has low));
      cached = record { capacity = c.in-Ok.ensures.cached.capacity ∙ inv.cached.capacity; sound = c.in-Ok.ensures.cached.sound };
      touches = asks-then inv.touches c.in-Ok.ensures.touches;
      given = λ q has.
          let low = mend-inside v.parity c.in-Some.parity q place c.in-Some.is has (omega (arith, c.loop-place-test.true)) in
          subst (λ (k : ℕ). LeadsTo (DeviceDoes g.D.BlockDev.state g.D.BlockDev.does) config (columns_of (place_in v tree l.lost.index) q places 0 (no_columns v.data_block places)) (columns_of (place_in v tree l.lost.index) q places k c.add_kept.new.sums) (served c.args.backing.now) (served c.add_kept.new.backing)) next
          (leads-then (inv.given q has) (c.in-Ok.ensures.given q has low));
    }

pub decode-add_columns-requires : goal.decode-add_columns-requires
decode-add_columns-requires g t c κs within =
    let inv = c.loop-place.invariant in
    let summed = inv.summed c.in-Some.parity c.in-Some.is in
    (omega arith, (within, (stack-later c.args.config.now summed.moved.moved.fixed c.requires.stack inv.cached, (c.requires.block, (c.requires.losses, omega (arith, c.loop-place.auto.sums, c.fill_zeros.auto.out, c.requires.size))))))

pub decode-returns-clause-reads : goal.decode-returns-clause-reads
decode-returns-clause-reads g t c q has =
    let config = c.args.config.now in
    let v = c.args.verity.now in
    let l = c.args.losses.now in
    let round = is-round config v c.args.tree.now c.requires.stack.sound.loaded c.requires.block.lies l.lost.index c.requires.block.there q has in
    let all = same-roots v.parity c.in-Some.parity q c.in-Some.is has in
    sums-end (block_in config v l.lost.index) q round.few l.places.items (c.loop-place.invariant.summed q has) (omega (arith, c.loop-place-test.false, c.loop-place.invariant.within, all)) (buffer_answer c.add_columns.result c.add_columns.new.sums) (c.add_columns.ensures.reads q has)

pub decode-returns-clause-cached : goal.decode-returns-clause-cached
decode-returns-clause-cached g t c = record { capacity = c.add_columns.ensures.cached.capacity ∙ c.loop-place.invariant.cached.capacity; sound = c.add_columns.ensures.cached.sound }

pub decode-returns-clause-touches : goal.decode-returns-clause-touches
decode-returns-clause-touches g t c = asks-then c.loop-place.invariant.touches c.add_columns.ensures.touches

pub decode-returns-clause-given : goal.decode-returns-clause-given
decode-returns-clause-given g t c q has =
    let l = c.args.losses.now in
    let place = place_in c.args.verity.now c.args.tree.now l.lost.index in
    let all = same-roots c.args.verity.now.parity c.in-Some.parity q c.in-Some.is has in
    let end : 255 - q.roots ≡ c.loop-place.place = omega (arith, c.loop-place-test.false, c.loop-place.invariant.within, all) in
    let answer = buffer_answer c.add_columns.result c.add_columns.new.sums in
    (c.loop-place.invariant.given q has).later (served c.add_columns.new.backing) answer
    (subst (λ (k : ℕ). ReadsBy (DeviceDoes g.D.BlockDev.state g.D.BlockDev.does) c.args.config.now (columns_of place q l.places.items k c.loop-place.sums) (served c.loop-place.backing) (served c.add_columns.new.backing) answer) end (c.add_columns.ensures.given q has))

-- ---- what is added to them

pub add_kept-read_beneath-requires : goal.add_kept-read_beneath-requires
add_kept-read_beneath-requires g t c κs within =
    let config = c.args.config.now in
    let v = c.args.verity.now in
    let tree = c.args.tree.now in
    let index : ℕ = c.args.at.0.now.lost.index in
    let e = c.in-Some.extent in
    let given = other-given (place_in v tree index) v.parity c.args.at.1 e (sym c.in-Some.ensures.is) in
    let of = other-of config v tree c.requires.stack.sound.loaded c.requires.block.lies index given.0 c.args.at.1 e given.2 in
    let lies = c.in-Some.ensures.lies in
    let room : length c.as_mut_slice-all.result.now ≡ 4096 = ap (λ (l : List ℕ). length l) c.as_mut_slice-all.ensures.value in
    let size : length (take (e.sectors * 512) c.as_mut_slice-all.result.now) ≡ e.sectors * 512 = omega (arith, room, lies.few, length-take (e.sectors * 512) c.as_mut_slice-all.result.now) in
    let deep = of.2.deep in
    (omega (arith, deep), (within, (c.requires.stack, (omega (arith, size), omega (arith, size, lies.inside)))))

pub add_kept-add_block-requires-clause-places : goal.add_kept-add_block-requires-clause-places
add_kept-add_block-requires-clause-places g t c k low =
    let given = other-given (place_in c.args.verity.now c.args.tree.now c.args.at.0.now.lost.index) c.args.verity.now.parity c.args.at.1 c.in-Some.extent (sym c.in-Some.ensures.is) in
    omega (arith, c.requires.losses.inside given.0 given.1 k low)

pub add_kept-add_block-requires-clause-place : goal.add_kept-add_block-requires-clause-place
add_kept-add_block-requires-clause-place g t c = c.requires.place

pub add_kept-add_block-requires-clause-size : goal.add_kept-add_block-requires-clause-size
add_kept-add_block-requires-clause-size g t c =
    let config = c.args.config.now in
    let v = c.args.verity.now in
    let tree = c.args.tree.now in
    let index : ℕ = c.args.at.0.now.lost.index in
    let e = c.in-Some.extent in
    let given = other-given (place_in v tree index) v.parity c.args.at.1 e (sym c.in-Some.ensures.is) in
    let of = other-of config v tree c.requires.stack.sound.loaded c.requires.block.lies index given.0 c.args.at.1 e given.2 in
    let lies = c.in-Some.ensures.lies in
    let room : length c.as_mut_slice-all.result.now ≡ 4096 = ap (λ (l : List ℕ). length l) c.as_mut_slice-all.ensures.value in
    let size : length (take (e.sectors * 512) c.as_mut_slice-all.result.now) ≡ e.sectors * 512 = omega (arith, room, lies.few, length-take (e.sectors * 512) c.as_mut_slice-all.result.now) in
    let whole = data-whole config tree.device.0 tree.line v c.requires.stack.sound.loaded c.requires.block.lies.is in
    let one : v.data_block ≡ length c.read_beneath.new.out = omega (arith, c.read_beneath.auto.out, size, of.1, whole.whole) in
    c.requires.size ∙ ap (λ (n : ℕ). length c.args.at.0.now.places.items * n) one

pub add_kept-returns-then-has-clause-reads : goal.add_kept-returns-then-has-clause-reads
add_kept-returns-then-has-clause-reads g t c q has low =
    let l = c.args.at.0.now in
    kept-lost c.args.config.now c.args.verity.now c.args.tree.now c.requires.stack.sound.loaded c.requires.block.lies l.lost.index q l.places.items c.args.at.1 c.args.sums.now (map g.D.BlockDev.state c.args.backing.now.devices.items) (sym c.has.ensures ∙ c.if-has.true)

pub add_kept-returns-then-has-clause-given : goal.add_kept-returns-then-has-clause-given
add_kept-returns-then-has-clause-given g t c q has low = column-past low (inl (sym c.has.ensures ∙ c.if-has.true))

pub add_kept-returns-in-None-clause-reads : goal.add_kept-returns-in-None-clause-reads
add_kept-returns-in-None-clause-reads g t c q has low =
    let l = c.args.at.0.now in
    let v = c.args.verity.now in
    let kept : is_among l.places.items c.args.at.1 ≡ false = sym c.has.ensures ∙ c.if-has.false in
    let none : other_at (place_in v c.args.tree.now l.lost.index) q c.args.at.1 ≡ None = sym (c.in-None.ensures.is ∙ ap (λ (o : Option Parity). other_by (place_in v c.args.tree.now l.lost.index) o c.args.at.1) has) in
    kept-none c.args.config.now v c.args.tree.now c.requires.stack.sound.loaded c.requires.block.lies l.lost.index q l.places.items c.args.at.1 c.args.sums.now kept (kept-apart v q l.lost.index (record_of l) c.args.at.1 c.requires.losses has kept) (map g.D.BlockDev.state c.args.backing.now.devices.items) none

pub add_kept-returns-in-None-clause-given : goal.add_kept-returns-in-None-clause-given
add_kept-returns-in-None-clause-given g t c q has low =
    let l = c.args.at.0.now in
    let v = c.args.verity.now in
    column-past low (inr (sym (c.in-None.ensures.is ∙ ap (λ (o : Option Parity). other_by (place_in v c.args.tree.now l.lost.index) o c.args.at.1) has)))

pub add_kept-returns-in-Err-clause-reads : goal.add_kept-returns-in-Err-clause-reads
add_kept-returns-in-Err-clause-reads g t c q has low =
    let l = c.args.at.0.now in
    let v = c.args.verity.now in
    let e = c.in-Some.extent in
    let kept : is_among l.places.items c.args.at.1 ≡ false = sym c.has.ensures ∙ c.if-has.false in
    let at : other_at (place_in v c.args.tree.now l.lost.index) q c.args.at.1 ≡ Some e = sym (c.in-Some.ensures.is ∙ ap (λ (o : Option Parity). other_by (place_in v c.args.tree.now l.lost.index) o c.args.at.1) has) in
    let count = room_sectors c.as_mut_slice-all.result.now e.sectors (ap (λ (l : List ℕ). length l) c.as_mut_slice-all.ensures.value) c.in-Some.ensures.few in
    kept-unread c.args.config.now v c.args.tree.now c.requires.stack.sound.loaded c.requires.block.lies l.lost.index q l.places.items c.args.at.1 c.args.sums.now kept (kept-apart v q l.lost.index (record_of l) c.args.at.1 c.requires.losses has kept) e at _ count c.in-Err.fault c.in-Err.ensures.reads

pub add_kept-returns-in-Ok-clause-reads : goal.add_kept-returns-in-Ok-clause-reads
add_kept-returns-in-Ok-clause-reads g t c q has low =
    let config = c.args.config.now in
    let l = c.args.at.0.now in
    let v = c.args.verity.now in
    let tree = c.args.tree.now in
    let e = c.in-Some.extent in
    let kept : is_among l.places.items c.args.at.1 ≡ false = sym c.has.ensures ∙ c.if-has.false in
    let at : other_at (place_in v tree l.lost.index) q c.args.at.1 ≡ Some e = sym (c.in-Some.ensures.is ∙ ap (λ (o : Option Parity). other_by (place_in v tree l.lost.index) o c.args.at.1) has) in
    let count = room_sectors c.as_mut_slice-all.result.now e.sectors (ap (λ (l : List ℕ). length l) c.as_mut_slice-all.ensures.value) c.in-Some.ensures.few in
    let room : length c.as_mut_slice-all.result.now ≡ 4096 = ap (λ (l : List ℕ). length l) c.as_mut_slice-all.ensures.value in
    let of = other-of config v tree c.requires.stack.sound.loaded c.requires.block.lies l.lost.index q c.args.at.1 e at in
    let whole = data-whole config tree.device.0 tree.line v c.requires.stack.sound.loaded c.requires.block.lies.is in
    let one : length c.read_beneath.new.out ≡ v.data_block = omega (arith, c.read_beneath.auto.out, room, length-take (e.sectors * 512) c.as_mut_slice-all.result.now, c.in-Some.ensures.few, of.1, whole.whole) in
    let made : c.add_block.new.sums ≡ added_columns v.data_block l.places.items c.args.at.1 c.read_beneath.new.out c.args.sums.now = c.add_block.ensures ∙ ap (λ (n : ℕ). added_columns n l.places.items c.args.at.1 c.read_beneath.new.out c.args.sums.now) one in
    subst (λ (x : List ℕ). Gets (kept_wanted (block_in config v l.lost.index) q l.places.items c.args.at.1 c.args.sums.now) (map g.D.BlockDev.state c.args.backing.now.devices.items) (map g.D.BlockDev.state c.read_beneath.new.backing.devices.items) (Ok x)) (sym made)
    (kept-read config v tree c.requires.stack.sound.loaded c.requires.block.lies l.lost.index q l.places.items c.args.at.1 c.args.sums.now kept (kept-apart v q l.lost.index (record_of l) c.args.at.1 c.requires.losses has kept) e at _ count c.in-Ok.ensures.reads)

pub add_kept-returns-in-Err-clause-touches : goal.add_kept-returns-in-Err-clause-touches
add_kept-returns-in-Err-clause-touches g t c =
    let v = c.args.verity.now in
    let tree = c.args.tree.now in
    let index : ℕ = c.args.at.0.now.lost.index in
    let given = other-given (place_in v tree index) v.parity c.args.at.1 c.in-Some.extent (sym c.in-Some.ensures.is) in
    asks-up (other-of c.args.config.now v tree c.requires.stack.sound.loaded c.requires.block.lies index given.0 c.args.at.1 c.in-Some.extent given.2).2.within c.in-Err.ensures.touches

pub add_kept-returns-in-Ok-clause-touches : goal.add_kept-returns-in-Ok-clause-touches
add_kept-returns-in-Ok-clause-touches g t c =
    let v = c.args.verity.now in
    let tree = c.args.tree.now in
    let index : ℕ = c.args.at.0.now.lost.index in
    let given = other-given (place_in v tree index) v.parity c.args.at.1 c.in-Some.extent (sym c.in-Some.ensures.is) in
    asks-up (other-of c.args.config.now v tree c.requires.stack.sound.loaded c.requires.block.lies index given.0 c.args.at.1 c.in-Some.extent given.2).2.within c.in-Ok.ensures.touches

pub add_kept-returns-in-Err-clause-given : goal.add_kept-returns-in-Err-clause-given
add_kept-returns-in-Err-clause-given g t c q has low =
    let l = c.args.at.0.now in
    let e = c.in-Some.extent in
    let kept : is_among l.places.items c.args.at.1 ≡ false = sym c.has.ensures ∙ c.if-has.false in
    let at : other_at (place_in c.args.verity.now c.args.tree.now l.lost.index) q c.args.at.1 ≡ Some e = sym (c.in-Some.ensures.is ∙ ap (λ (o : Option Parity). other_by (place_in c.args.verity.now c.args.tree.now l.lost.index) o c.args.at.1) has) in
    let count = room_sectors c.as_mut_slice-all.result.now e.sectors (ap (λ (l : List ℕ). length l) c.as_mut_slice-all.ensures.value) c.in-Some.ensures.few in
    column-lost c.args.sums.now e low kept at count (c.in-Err.ensures.given.some (omega (arith, count, c.in-Some.ensures.lies.some)))

pub add_kept-returns-in-Ok-clause-given : goal.add_kept-returns-in-Ok-clause-given
add_kept-returns-in-Ok-clause-given g t c q has low =
    let config = c.args.config.now in
    let l = c.args.at.0.now in
    let v = c.args.verity.now in
    let tree = c.args.tree.now in
    let i : ℕ = c.args.at.1 in
    let e = c.in-Some.extent in
    let kept : is_among l.places.items i ≡ false = sym c.has.ensures ∙ c.if-has.false in
    let at : other_at (place_in v tree l.lost.index) q i ≡ Some e = sym (c.in-Some.ensures.is ∙ ap (λ (o : Option Parity). other_by (place_in v tree l.lost.index) o i) has) in
    let count = room_sectors c.as_mut_slice-all.result.now e.sectors (ap (λ (l : List ℕ). length l) c.as_mut_slice-all.ensures.value) c.in-Some.ensures.few in
    let room : length c.as_mut_slice-all.result.now ≡ 4096 = ap (λ (l : List ℕ). length l) c.as_mut_slice-all.ensures.value in
    let of = other-of config v tree c.requires.stack.sound.loaded c.requires.block.lies l.lost.index q i e at in
    let whole = data-whole config tree.device.0 tree.line v c.requires.stack.sound.loaded c.requires.block.lies.is in
    let one : length c.read_beneath.new.out ≡ v.data_block = omega (arith, c.read_beneath.auto.out, room, length-take (e.sectors * 512) c.as_mut_slice-all.result.now, c.in-Some.ensures.few, of.1, whole.whole) in
    let made : c.add_block.new.sums ≡ added_columns v.data_block l.places.items i c.read_beneath.new.out c.args.sums.now = c.add_block.ensures ∙ ap (λ (n : ℕ). added_columns n l.places.items i c.read_beneath.new.out c.args.sums.now) one in
    subst (λ (x : List ℕ). LeadsTo (DeviceDoes g.D.BlockDev.state g.D.BlockDev.does) config (columns_of (place_in v tree l.lost.index) q l.places.items i c.args.sums.now) (columns_of (place_in v tree l.lost.index) q l.places.items (suc i) x) (served c.args.backing.now) (served c.read_beneath.new.backing)) (sym made)
    (column-added e low kept at count (c.in-Ok.ensures.given.some (omega (arith, count, c.in-Some.ensures.lies.some))))

-- ---- the parity of a round, for all lost blocks

-- how many bytes it has for each of a block
columns-count : (c : Configuration) (v : Verity) (tree : Tree) (q : Parity) (out all : List ℕ) (at : Stored) → IsLoaded c → IsTreeOf c v tree → at.sectors ≡ block_sectors v * q.roots → length out ≡ length (take (at.sectors * 512) all) → length all ≡ 98304 → at.sectors ≤ 192
    → (length out / v.data_block ≡ q.roots) × (length out ≡ v.data_block * q.roots)
columns-count c v tree q out all at loaded lies sectors long room few =
    let whole = data-whole c tree.device.0 tree.line v loaded lies.is in
    let len : length out ≡ block_sectors v * q.roots * 512 = omega (arith, long, room, few, sectors, length-take (at.sectors * 512) all) in
    let parts = stored-count (block_sectors v) q.roots v.data_block (length out) whole.whole (omega (arith, whole.whole, whole.some)) len in
    let swap : block_sectors v * q.roots * 512 ≡ 512 * block_sectors v * q.roots = grind arith in
    (parts.1, len ∙ swap ∙ ap (λ (n : ℕ). n * q.roots) whole.whole)

pub add_columns-read_beneath-requires : goal.add_columns-read_beneath-requires
add_columns-read_beneath-requires g t c κs within =
    let at = c.in-Some.stored in
    let is = c.in-Some.ensures.is in
    let room : length c.as_mut_slice-all.result.now ≡ 98304 = ap (λ (l : List ℕ). length l) c.as_mut_slice-all.ensures.value in
    let size : length (take (at.sectors * 512) c.as_mut_slice-all.result.now) ≡ at.sectors * 512 = omega (arith, room, c.in-Some.ensures.few, length-take (at.sectors * 512) c.as_mut_slice-all.result.now) in
    let deep = (parity-of c.args.config.now c.args.verity.now c.args.tree.now c.requires.stack.sound.loaded c.requires.block.lies c.args.losses.now.lost.index at.lower is.2.on).deep in
    (omega (arith, deep), (within, (c.requires.stack, (omega (arith, size), omega (arith, size, is.2.inside)))))

pub add_columns-add_parity-requires-clause-places : goal.add_columns-add_parity-requires-clause-places
add_columns-add_parity-requires-clause-places g t c k low = omega (arith, c.requires.losses.inside c.in-Some.ensures.is.0 c.in-Some.ensures.is.1 k low)

pub add_columns-add_parity-requires-clause-roots : goal.add_columns-add_parity-requires-clause-roots
add_columns-add_parity-requires-clause-roots g t c =
    let v = c.args.verity.now in
    let is = c.in-Some.ensures.is in
    let q = is.0 in
    let room = ap (λ (l : List ℕ). length l) c.as_mut_slice-all.ensures.value in
    let count = columns-count c.args.config.now v c.args.tree.now q c.read_beneath.new.out c.as_mut_slice-all.result.now c.in-Some.stored c.requires.stack.sound.loaded c.requires.block.lies is.2.sectors c.read_beneath.auto.out room c.in-Some.ensures.few in
    let round = is-round c.args.config.now v c.args.tree.now c.requires.stack.sound.loaded c.requires.block.lies c.args.losses.now.lost.index c.requires.block.there q is.1 in
    let roots : length c.read_beneath.new.out / v.data_block ≡ q.roots = count.0 in
    let zero_rest : length c.read_beneath.new.out % (length c.read_beneath.new.out / v.data_block) ≡ 0 = ap (λ (n : ℕ). length c.read_beneath.new.out % n) roots ∙ ap (λ (n : ℕ). n % q.roots) count.1 ∙ mul-mod_left v.data_block q.roots in
    (omega (arith, roots, round.some), (omega (arith, roots, round.few), zero_rest))

pub add_columns-add_parity-requires-clause-size : goal.add_columns-add_parity-requires-clause-size
add_columns-add_parity-requires-clause-size g t c =
    let v = c.args.verity.now in
    let is = c.in-Some.ensures.is in
    let q = is.0 in
    let room = ap (λ (l : List ℕ). length l) c.as_mut_slice-all.ensures.value in
    let count = columns-count c.args.config.now v c.args.tree.now q c.read_beneath.new.out c.as_mut_slice-all.result.now c.in-Some.stored c.requires.stack.sound.loaded c.requires.block.lies is.2.sectors c.read_beneath.auto.out room c.in-Some.ensures.few in
    let round = is-round c.args.config.now v c.args.tree.now c.requires.stack.sound.loaded c.requires.block.lies c.args.losses.now.lost.index c.requires.block.there q is.1 in
    let back : length c.read_beneath.new.out / (length c.read_beneath.new.out / v.data_block) ≡ v.data_block = ap (λ (n : ℕ). length c.read_beneath.new.out / n) count.0 ∙ ap (λ (n : ℕ). n / q.roots) count.1 ∙ mul-div_cancel v.data_block (omega (arith, round.some)) in
    c.requires.size ∙ ap (λ (n : ℕ). length c.args.losses.now.places.items * n) (sym back)

pub add_columns-returns-in-None-clause-reads : goal.add_columns-returns-in-None-clause-reads
add_columns-returns-in-None-clause-reads g t c q has = let clash : false ≡ true = c.in-None.ensures.some q has in absurd cc

pub add_columns-returns-in-None-clause-given : goal.add_columns-returns-in-None-clause-given
add_columns-returns-in-None-clause-given g t c q has = let clash : false ≡ true = c.in-None.ensures.some q has in absurd cc

pub add_columns-returns-in-Err-clause-reads : goal.add_columns-returns-in-Err-clause-reads
add_columns-returns-in-Err-clause-reads g t c q has =
    let v = c.args.verity.now in
    let l = c.args.losses.now in
    let at = c.in-Some.stored in
    let stored = stored-as c.args.config.now (place_in v c.args.tree.now l.lost.index) v.parity q at c.in-Some.ensures.is has in
    let count = stored-room c.as_mut_slice-all.result.now at.sectors (ap (λ (l : List ℕ). length l) c.as_mut_slice-all.ensures.value) c.in-Some.ensures.few in
    columns-unread c.args.config.now v c.args.tree.now c.requires.stack.sound.loaded c.requires.block.lies l.lost.index q l.places.items c.args.sums.now at stored _ count c.in-Err.fault c.in-Err.ensures.reads

-- the sums, as the line's parity has them
columns-made : (c : Configuration) (v : Verity) (tree : Tree) (q : Parity) (places sums out made all : List ℕ) (at : Stored) (roots : ℕ) → IsLoaded c → IsTreeOf c v tree → 0 < q.roots → roots ≡ length out / v.data_block → at.sectors ≡ block_sectors v * q.roots → length out ≡ length (take (at.sectors * 512) all) → length all ≡ 98304 → at.sectors ≤ 192
    → made ≡ added_parity places roots (length out / roots) out sums → made ≡ added_parity places q.roots v.data_block out sums
columns-made c v tree q places sums out made all at roots loaded lies some is sectors long room few made_is =
    let count = columns-count c v tree q out all at loaded lies sectors long room few in
    let same : roots ≡ q.roots = is ∙ count.0 in
    let size : length out / q.roots ≡ v.data_block = ap (λ (n : ℕ). n / q.roots) count.1 ∙ mul-div_cancel v.data_block some in
    made_is ∙ ap (λ (n : ℕ). added_parity places n (length out / n) out sums) same ∙ ap (λ (n : ℕ). added_parity places q.roots n out sums) size

pub add_columns-returns-in-Ok-clause-reads : goal.add_columns-returns-in-Ok-clause-reads
add_columns-returns-in-Ok-clause-reads g t c q has =
    let config = c.args.config.now in
    let v = c.args.verity.now in
    let tree = c.args.tree.now in
    let l = c.args.losses.now in
    let at = c.in-Some.stored in
    let loaded = c.requires.stack.sound.loaded in
    let stored = stored-as config (place_in v tree l.lost.index) v.parity q at c.in-Some.ensures.is has in
    let room = ap (λ (l : List ℕ). length l) c.as_mut_slice-all.ensures.value in
    let count = stored-room c.as_mut_slice-all.result.now at.sectors room c.in-Some.ensures.few in
    let round = is-round config v tree loaded c.requires.block.lies l.lost.index c.requires.block.there q has in
    let made = columns-made config v tree q l.places.items c.args.sums.now c.read_beneath.new.out c.add_parity.new.sums c.as_mut_slice-all.result.now at _ loaded c.requires.block.lies (omega (arith, round.some)) refl stored.sectors c.read_beneath.auto.out room c.in-Some.ensures.few c.add_parity.ensures in
    subst (λ (x : List ℕ). Gets (columns_wanted (block_in config v l.lost.index) q l.places.items c.args.sums.now) (map g.D.BlockDev.state c.args.backing.now.devices.items) (map g.D.BlockDev.state c.read_beneath.new.backing.devices.items) (Ok x)) (sym made)
    (columns-read config v tree loaded c.requires.block.lies l.lost.index q l.places.items c.args.sums.now at stored _ count c.in-Ok.ensures.reads)

pub add_columns-returns-in-Err-clause-touches : goal.add_columns-returns-in-Err-clause-touches
add_columns-returns-in-Err-clause-touches g t c = asks-up (parity-of c.args.config.now c.args.verity.now c.args.tree.now c.requires.stack.sound.loaded c.requires.block.lies c.args.losses.now.lost.index c.in-Some.stored.lower c.in-Some.ensures.is.2.on).within c.in-Err.ensures.touches

pub add_columns-returns-in-Ok-clause-touches : goal.add_columns-returns-in-Ok-clause-touches
add_columns-returns-in-Ok-clause-touches g t c = asks-up (parity-of c.args.config.now c.args.verity.now c.args.tree.now c.requires.stack.sound.loaded c.requires.block.lies c.args.losses.now.lost.index c.in-Some.stored.lower c.in-Some.ensures.is.2.on).within c.in-Ok.ensures.touches

pub add_columns-returns-in-Err-clause-given : goal.add_columns-returns-in-Err-clause-given
add_columns-returns-in-Err-clause-given g t c q has =
    let config = c.args.config.now in
    let v = c.args.verity.now in
    let tree = c.args.tree.now in
    let l = c.args.losses.now in
    let loaded = c.requires.stack.sound.loaded in
    let at = c.in-Some.stored in
    let stored = stored-as config (place_in v tree l.lost.index) v.parity q at c.in-Some.ensures.is has in
    let room = ap (λ (l : List ℕ). length l) c.as_mut_slice-all.ensures.value in
    let count = stored-room c.as_mut_slice-all.result.now at.sectors room c.in-Some.ensures.few in
    let round = is-round config v tree loaded c.requires.block.lies l.lost.index c.requires.block.there q has in
    columns-lost l.places.items c.args.sums.now at stored count (c.in-Err.ensures.given.some (stored-some config v tree q c.as_mut_slice-all.result.now at loaded c.requires.block.lies round.some stored.sectors room c.in-Some.ensures.few))

pub add_columns-returns-in-Ok-clause-given : goal.add_columns-returns-in-Ok-clause-given
add_columns-returns-in-Ok-clause-given g t c q has =
    let config = c.args.config.now in
    let v = c.args.verity.now in
    let tree = c.args.tree.now in
    let l = c.args.losses.now in
    let loaded = c.requires.stack.sound.loaded in
    let place = place_in v tree l.lost.index in
    let at = c.in-Some.stored in
    let stored = stored-as config place v.parity q at c.in-Some.ensures.is has in
    let room = ap (λ (l : List ℕ). length l) c.as_mut_slice-all.ensures.value in
    let count = stored-room c.as_mut_slice-all.result.now at.sectors room c.in-Some.ensures.few in
    let round = is-round config v tree loaded c.requires.block.lies l.lost.index c.requires.block.there q has in
    let made = columns-made config v tree q l.places.items c.args.sums.now c.read_beneath.new.out c.add_parity.new.sums c.as_mut_slice-all.result.now at _ loaded c.requires.block.lies (omega (arith, round.some)) refl stored.sectors c.read_beneath.auto.out room c.in-Some.ensures.few c.add_parity.ensures in
    subst (λ (x : List ℕ). ReadsBy (DeviceDoes g.D.BlockDev.state g.D.BlockDev.does) config (columns_of place q l.places.items (255 - q.roots) c.args.sums.now) (served c.args.backing.now) (served c.read_beneath.new.backing) (Ok x)) (sym made)
    (columns-given l.places.items c.args.sums.now at stored count (c.in-Ok.ensures.given.some (stored-some config v tree q c.as_mut_slice-all.result.now at loaded c.requires.block.lies round.some stored.sectors room c.in-Some.ensures.few)))

-- ---- the spare of a block

pub mend-mend_only-requires : goal.mend-mend_only-requires
mend-mend_only-requires g t c κs within = (omega arith, (within, (c.requires.stack, (c.requires.block, c.requires.size))))

pub mend-returns-in-Ok-clause-reads : goal.mend-returns-in-Ok-clause-reads
mend-returns-in-Ok-clause-reads g t c = spare-only (block_in c.args.config.now c.args.verity.now c.args.lost.now.index) c.args.lost.now.digest c.mend_only.new.out c.in-Ok.ensures.reads

pub mend-returns-in-Ok-clause-given : goal.mend-returns-in-Ok-clause-given
mend-returns-in-Ok-clause-given g t c = spare-alone tt c.in-Ok.ensures.given

pub mend-returns-else-can_heal-clause-reads : goal.mend-returns-else-can_heal-clause-reads
mend-returns-else-can_heal-clause-reads g t c = spare-settled (block_in c.args.config.now c.args.verity.now c.args.lost.now.index) c.args.lost.now.digest c.in-Err.alone (sym c.can_heal.ensures ∙ c.if-can_heal.false) c.in-Err.ensures.reads

pub mend-returns-else-can_heal-clause-given : goal.mend-returns-else-can_heal-clause-given
mend-returns-else-can_heal-clause-given g t c = spare-alone (sym c.can_heal.ensures ∙ c.if-can_heal.false) c.in-Err.ensures.given

pub mend-mend_erased-requires : goal.mend-mend_erased-requires
mend-mend_erased-requires g t c κs within =
    (omega arith, (within, (stack-later c.args.config.now c.in-Err.ensures.reads.moved.moved.fixed c.requires.stack c.in-Err.ensures.cached, (c.requires.block, c.mend_only.auto.out ∙ c.requires.size))))

pub mend-returns-in-Ok-mend_erased-clause-reads : goal.mend-returns-in-Ok-mend_erased-clause-reads
mend-returns-in-Ok-mend_erased-clause-reads g t c =
    spare-mended (block_in c.args.config.now c.args.verity.now c.args.lost.now.index) c.args.lost.now.digest c.requires.block.there c.in-Err.alone (Ok c.mend_erased.new.out) (sym c.can_heal.ensures ∙ c.if-can_heal.true) c.in-Err.ensures.reads c.in-Ok-mend_erased.ensures.reads

pub mend-returns-in-Ok-mend_erased-clause-given : goal.mend-returns-in-Ok-mend_erased-clause-given
mend-returns-in-Ok-mend_erased-clause-given g t c = spare-by_erasures c.in-Err.alone (sym c.can_heal.ensures ∙ c.if-can_heal.true) c.in-Err.ensures.given c.in-Ok-mend_erased.ensures.given

pub mend-returns-in-Ok-mend_erased-clause-cached : goal.mend-returns-in-Ok-mend_erased-clause-cached
mend-returns-in-Ok-mend_erased-clause-cached g t c = record { capacity = c.in-Ok-mend_erased.ensures.cached.capacity ∙ c.in-Err.ensures.cached.capacity; sound = c.in-Ok-mend_erased.ensures.cached.sound }

pub mend-returns-in-Ok-mend_erased-clause-touches : goal.mend-returns-in-Ok-mend_erased-clause-touches
mend-returns-in-Ok-mend_erased-clause-touches g t c =
    asks-healed c.args.verity.now.parity c.in-Err.alone (sym c.can_heal.ensures ∙ c.if-can_heal.true) (λ none. none c.args.tree.now.device.0 c.args.tree.now.line c.args.verity.now c.requires.block.lies.is) c.in-Err.ensures.touches c.in-Ok-mend_erased.ensures.touches

pub mend-returns-in-Err-mend_erased-clause-reads : goal.mend-returns-in-Err-mend_erased-clause-reads
mend-returns-in-Err-mend_erased-clause-reads g t c =
    subst (λ (e : IoFault). Gets (spare_wanted c.args.config.now c.args.verity.now c.args.lost.now) (map g.D.BlockDev.state c.args.backing.now.devices.items) (map g.D.BlockDev.state c.mend_erased.new.backing.devices.items) (Err e)) (sym c.unhealed.ensures)
    (spare-mended (block_in c.args.config.now c.args.verity.now c.args.lost.now.index) c.args.lost.now.digest c.requires.block.there c.in-Err.alone (Err c.in-Err-mend_erased.vain) (sym c.can_heal.ensures ∙ c.if-can_heal.true) c.in-Err.ensures.reads c.in-Err-mend_erased.ensures.reads)

pub mend-returns-in-Err-mend_erased-clause-given : goal.mend-returns-in-Err-mend_erased-clause-given
mend-returns-in-Err-mend_erased-clause-given g t c =
    subst (λ (e : IoFault). ReadsBy (DeviceDoes g.D.BlockDev.state g.D.BlockDev.does) c.args.config.now (spare_of (place_in c.args.verity.now c.args.tree.now c.args.lost.now.index) c.args.lost.now.digest) (served c.args.backing.now) (served c.mend_erased.new.backing) (Err e)) (sym c.unhealed.ensures)
    (spare-by_erasures c.in-Err.alone (sym c.can_heal.ensures ∙ c.if-can_heal.true) c.in-Err.ensures.given c.in-Err-mend_erased.ensures.given)

pub mend-returns-in-Err-mend_erased-clause-cached : goal.mend-returns-in-Err-mend_erased-clause-cached
mend-returns-in-Err-mend_erased-clause-cached g t c = record { capacity = c.in-Err-mend_erased.ensures.cached.capacity ∙ c.in-Err.ensures.cached.capacity; sound = c.in-Err-mend_erased.ensures.cached.sound }

pub mend-returns-in-Err-mend_erased-clause-touches : goal.mend-returns-in-Err-mend_erased-clause-touches
mend-returns-in-Err-mend_erased-clause-touches g t c =
    let v = c.args.verity.now in
    let these = leaves_of c.args.config.now (mapped c.args.tree.now.device.0) in
    let heals = sym c.can_heal.ensures ∙ c.if-can_heal.true in
    asks-both v.parity (Err c.unhealed.result) (heals-some v.parity c.in-Err.alone heals) (λ none. none c.args.tree.now.device.0 c.args.tree.now.line v c.requires.block.lies.is)
    (subst (λ (e : IoFault). NamesOneOf these e) (sym c.unhealed.ensures) (unhealed-named these c.in-Err.alone c.in-Err-mend_erased.vain c.in-Err.ensures.touches.fault c.in-Err-mend_erased.ensures.touches.fault)) c.in-Err.ensures.touches c.in-Err-mend_erased.ensures.touches

-- ---- healing

pub heal-zero_block-requires : goal.heal-zero_block-requires
heal-zero_block-requires g t c =
    let tree = c.args.tree.now in
    let size = data-whole c.args.config.now tree.device.0 tree.line c.args.verity.now c.requires.stack.sound.loaded c.requires.block.lies.is in
    omega (arith, size.whole, size.most)

pub heal-returns-in-Err-clause-reads : goal.heal-returns-in-Err-clause-reads
heal-returns-in-Err-clause-reads g t c = heals-short g.D.BlockDev.state c.args.config.now (place_in c.args.verity.now c.args.tree.now c.args.lost.now.index) c.args.lost.now c.args.fault refl c.in-Err.ensures.err

pub heal-returns-in-Ok-mend-clause-reads : goal.heal-returns-in-Ok-mend-clause-reads
heal-returns-in-Ok-mend-clause-reads g t c =
    let block = c.in-Ok.block in
    let out = c.mend.new.out in
    let held : length out ≡ block.len = c.mend.auto.out ∙ ap (λ (l : List ℕ). length l) c.as_mut_slice.ensures.value ∙ sym block.ok.0 in
    heals-had g.D.BlockDev.state c.args.config.now (place_in c.args.verity.now c.args.tree.now c.args.lost.now.index) c.args.lost.now c.args.fault (with_items block out) (with_items_is block out held) c.in-Ok-mend.ensures.reads {read = served c.mend.new.backing} (ap (serving c.mend.new.backing.devices.items) c.one_more-backing.ensures) c.in-Ok-mend.ensures.given

pub heal-returns-in-Err-mend-clause-reads : goal.heal-returns-in-Err-mend-clause-reads
heal-returns-in-Err-mend-clause-reads g t c =
    let place = place_in c.args.verity.now c.args.tree.now c.args.lost.now.index in
    subst (λ (y : IoFault). HealsBy g.D.BlockDev.state (DeviceDoes g.D.BlockDev.state g.D.BlockDev.does) c.args.config.now place c.args.lost.now c.args.fault c.args.backing.now c.mend.new.backing (Err y)) (sym c.unhealed.ensures)
    (heals-failed g.D.BlockDev.state c.args.config.now place c.args.lost.now c.args.fault c.in-Err-mend.vain c.in-Err-mend.ensures.reads c.in-Err-mend.ensures.given)

pub heal-returns-in-Err-mend-clause-touches : goal.heal-returns-in-Err-mend-clause-touches
heal-returns-in-Err-mend-clause-touches g t c =
    rw c.unhealed.ensures (asks-vain c.args.verity.now.parity c.args.fault c.in-Err-mend.vain c.requires.fault.heals (λ none. none c.args.tree.now.device.0 c.args.tree.now.line c.args.verity.now c.requires.block.lies.is) c.requires.fault.named c.in-Err-mend.ensures.touches)

-- ---- a block that was read together with others

pub settle_block-read_data-requires : goal.settle_block-read_data-requires
settle_block-read_data-requires g t c κs within = (omega arith, (within, (c.requires.stack, c.requires.block)))

pub settle_block-mend-requires : goal.settle_block-mend-requires
settle_block-mend-requires g t c κs within = (omega arith, (within, (c.requires.stack, (data-verified c.requires.block, c.settle.auto.block ∙ c.requires.size))))

pub settle_block-copy_from_slice-requires : goal.settle_block-copy_from_slice-requires
settle_block-copy_from_slice-requires g t c =
    let tree = c.args.tree.now in
    let size = data-whole c.args.config.now tree.device.0 tree.line c.args.verity.now c.requires.stack.sound.loaded c.requires.block.lies.is in
    omega (arith, c.requires.size, size.whole, c.in-Ok.ensures.reads.may.0, ap (λ (l : List ℕ). length l) c.as_slice.ensures.value)

pub settle_block-returns-in-Err-clause-reads : goal.settle_block-returns-in-Err-clause-reads
settle_block-returns-in-Err-clause-reads g t c = inr (inr (record { alone = c.if-one.true; own = Err c.in-Err.gone; is = refl; got = c.in-Err.ensures.reads; given = c.in-Err.ensures.given }))

pub settle_block-returns-in-Ok-clause-reads : goal.settle_block-returns-in-Ok-clause-reads
settle_block-returns-in-Ok-clause-reads g t c = inr (inr (record { alone = c.if-one.true; own = Ok c.in-Ok.content; is = ap Ok (c.copy_from_slice.ensures.after ∙ c.as_slice.ensures.value); got = c.in-Ok.ensures.reads; given = c.in-Ok.ensures.given }))

pub settle_block-returns-in-Err-clause-touches : goal.settle_block-returns-in-Err-clause-touches
settle_block-returns-in-Err-clause-touches g t c = asks-as (Err c.in-Err.gone) c.in-Err.ensures.touches.fault (λ failures. refl) c.in-Err.ensures.touches

pub settle_block-returns-in-Ok-clause-touches : goal.settle_block-returns-in-Ok-clause-touches
settle_block-returns-in-Ok-clause-touches g t c = asks-as (Ok tt) tt (λ failures. refl) c.in-Ok.ensures.touches

pub settle_block-returns-then-settle-clause-reads : goal.settle_block-returns-then-settle-clause-reads
settle_block-returns-then-settle-clause-reads g t c = inl (
  refl,
  record {
    together = c.if-one.false;
    zeros = λ is. ap Ok (c.if-settle.ensures.zeros refl is);
    same = λ is. let own = c.if-settle.ensures.same refl is in (own.0, ap Ok own.1);
  },
)

pub settle_block-returns-in-Ok-mend-clause-reads : goal.settle_block-returns-in-Ok-mend-clause-reads
settle_block-returns-in-Ok-mend-clause-reads g t c =
    let other = c.if-settle.ensures.other refl in
    inr (inl (record { together = c.if-one.false; used = other.0; differs = other.1; spare = Ok c.mend.new.out; is = refl; got = c.in-Ok-mend.ensures.reads; read = served c.mend.new.backing; counted = ap (serving c.mend.new.backing.devices.items) c.one_more-backing.ensures; given = c.in-Ok-mend.ensures.given }))

pub settle_block-returns-in-Err-mend-clause-reads : goal.settle_block-returns-in-Err-mend-clause-reads
settle_block-returns-in-Err-mend-clause-reads g t c =
    let other = c.if-settle.ensures.other refl in
    inr (inl (record { together = c.if-one.false; used = other.0; differs = other.1; spare = Err c.in-Err-mend.vain; is = ap Err c.unhealed.ensures; got = c.in-Err-mend.ensures.reads; read = served c.mend.new.backing; counted = refl; given = c.in-Err-mend.ensures.given }))

pub settle_block-returns-in-Err-mend-clause-touches : goal.settle_block-returns-in-Err-mend-clause-touches
settle_block-returns-in-Err-mend-clause-touches g t c = rw c.unhealed.ensures (asks-unhealed Mismatch c.in-Err-mend.vain c.in-Err-mend.ensures.touches)

pub fetch_data-heal-requires : goal.fetch_data-heal-requires
fetch_data-heal-requires g t c κs within =
    let own = asks-up (data-within c.args.config.now c.args.verity.now c.args.tree.now c.requires.stack.sound.loaded c.requires.block.lies) (extent-touched c.args.config.now c.data_extent-extent.result c.data_extent-extent.ensures c.in-Err.ensures.touches) in
    (omega arith, (within, (stack-later c.args.config.now c.in-Err.ensures.reads.moved.moved.fixed c.requires.stack c.in-Err.ensures.cached, (data-verified c.requires.block, record { heals = sym c.can_heal.ensures ∙ c.if-can_heal.true; named = own.fault }))))

pub fetch_data-returns-in-Ok-clause-touches : goal.fetch_data-returns-in-Ok-clause-touches
fetch_data-returns-in-Ok-clause-touches g t c =
    asks-up (data-within c.args.config.now c.args.verity.now c.args.tree.now c.requires.stack.sound.loaded c.requires.block.lies) (extent-touched c.args.config.now c.data_extent-extent.result c.data_extent-extent.ensures c.in-Ok.ensures.touches)

pub fetch_data-returns-in-Ok-clause-given : goal.fetch_data-returns-in-Ok-clause-given
fetch_data-returns-in-Ok-clause-given g t c last = one-given last c.requires.used c.data_extent-extent.ensures.value tt c.in-Ok.ensures.given

pub fetch_data-returns-then-can_heal-clause-reads : goal.fetch_data-returns-then-can_heal-clause-reads
fetch_data-returns-then-can_heal-clause-reads g t c =
    let v = c.args.verity.now in
    let config = c.args.config.now in
    let healed = c.heal.ensures.reads in
    let b = block_in config v c.args.wanted.now.block in
    let own = checked_as config v.data c.args.tree.now.data (block_sectors v * c.args.wanted.now.block) (block_sectors v) v.salt c.args.wanted.now.digest (Err c.in-Err.own) c.data_extent-extent.result c.requires.block.lies.on_data c.data_extent-extent.ensures.value c.in-Err.ensures.reads in
    subst (λ (r : Result (Vec ℕ Global) IoFault). Gets (data_expected bytes b c.args.wanted.now.digest) (map g.D.BlockDev.state c.args.backing.now.devices.items) (map g.D.BlockDev.state c.heal.new.backing.devices.items) r) (sym healed.is)
    (data_answered bytes b c.args.wanted.now.digest c.in-Err.own healed.spare (sym c.can_heal.ensures ∙ c.if-can_heal.true) c.requires.block.there c.requires.used own healed.got)

pub fetch_data-returns-else-can_heal-clause-reads : goal.fetch_data-returns-else-can_heal-clause-reads
fetch_data-returns-else-can_heal-clause-reads g t c =
    let v = c.args.verity.now in
    let config = c.args.config.now in
    data_settled bytes (block_in config v c.args.wanted.now.block) c.args.wanted.now.digest c.in-Err.own (sym c.can_heal.ensures ∙ c.if-can_heal.false) c.requires.used
    (checked_as config v.data c.args.tree.now.data (block_sectors v * c.args.wanted.now.block) (block_sectors v) v.salt c.args.wanted.now.digest (Err c.in-Err.own) c.data_extent-extent.result c.requires.block.lies.on_data c.data_extent-extent.ensures.value c.in-Err.ensures.reads)

pub fetch_data-returns-then-can_heal-clause-touches : goal.fetch_data-returns-then-can_heal-clause-touches
fetch_data-returns-then-can_heal-clause-touches g t c =
    asks-healed c.args.verity.now.parity c.in-Err.own (sym c.can_heal.ensures ∙ c.if-can_heal.true) (λ none. none c.args.tree.now.device.0 c.args.tree.now.line c.args.verity.now c.requires.block.lies.is)
    (asks-up (data-within c.args.config.now c.args.verity.now c.args.tree.now c.requires.stack.sound.loaded c.requires.block.lies) (extent-touched c.args.config.now c.data_extent-extent.result c.data_extent-extent.ensures c.in-Err.ensures.touches))
    c.heal.ensures.touches

-- the bytes of what is answered after the spare
healed-bytes : (fault : IoFault) (spare : Result (Vec ℕ Global) IoFault) → healed_result fault (block_answer spare) ≡ block_answer (healed_result fault spare)
healed-bytes fault (Ok x) = refl
healed-bytes fault (Err vain) = refl

pub fetch_data-returns-then-can_heal-clause-given : goal.fetch_data-returns-then-can_heal-clause-given
fetch_data-returns-then-can_heal-clause-given g t c last =
    let healed = c.heal.ensures.reads in
    let place = place_in c.args.verity.now c.args.tree.now c.args.wanted.now.block in
    let fault = c.in-Err.own in
    subst (λ (r : Result (List ℕ) IoFault). ReadsBy (DeviceDoes g.D.BlockDev.state g.D.BlockDev.does) c.args.config.now (data_of place 0 c.args.wanted.now.digest last one_block) (served c.args.backing.now) (served c.heal.new.backing) r)
    (healed-bytes fault healed.spare ∙ ap block_answer (sym healed.is))
    (subst (λ s. ReadsBy (DeviceDoes g.D.BlockDev.state g.D.BlockDev.does) c.args.config.now (data_of place 0 c.args.wanted.now.digest last one_block) (served c.args.backing.now) s (healed_result fault (block_answer healed.spare))) (sym healed.counted)
    (one-healed last c.requires.used (sym c.can_heal.ensures ∙ c.if-can_heal.true) c.data_extent-extent.ensures.value c.in-Err.ensures.given healed.given))

pub fetch_data-returns-else-can_heal-clause-touches : goal.fetch_data-returns-else-can_heal-clause-touches
fetch_data-returns-else-can_heal-clause-touches g t c =
    asks-up (data-within c.args.config.now c.args.verity.now c.args.tree.now c.requires.stack.sound.loaded c.requires.block.lies) (extent-touched c.args.config.now c.data_extent-extent.result c.data_extent-extent.ensures c.in-Err.ensures.touches)

pub fetch_data-returns-else-can_heal-clause-given : goal.fetch_data-returns-else-can_heal-clause-given
fetch_data-returns-else-can_heal-clause-given g t c last = one-given last c.requires.used c.data_extent-extent.ensures.value (sym c.can_heal.ensures ∙ c.if-can_heal.false) c.in-Err.ensures.given

-- ---- a hash block on the way, or its spare

pub way_block-hash_block-requires : goal.way_block-hash_block-requires
way_block-hash_block-requires g t c κs within =
    let config = c.args.config.now in
    let extent = c.hash_extent-extent in
    let deep = hash-depth config c.args.verity.now c.args.tree.now c.requires.stack.sound.loaded c.requires.block.lies in
    let same : depth config extent.result.lower ≡ depth config c.args.tree.now.hash = ap (λ (e : Extent). depth config e.lower) extent.ensures.value in
    let key = place_key config c.args.verity.now c.args.tree.now _ c.args.wanted.now.block c.hash_key-key.result extent.result c.requires.block.lies c.hash_key-key.ensures extent.ensures in
    (omega (arith, deep, same), (within, (c.requires.stack, key)))

pub way_block-returns-in-Ok-clause-reads : goal.way_block-returns-in-Ok-clause-reads
way_block-returns-in-Ok-clause-reads g t c =
    let w = c.args.wanted.now in
    way-read c.args.config.now c.args.verity.now c.args.tree.now w.level w.block c.requires.stack.sound.loaded c.requires.block.lies c.requires.block.there c.requires.level w.digest c.hash_extent-extent.result c.hash_extent-extent.ensures c.in-Ok.block c.in-Ok.ensures.reads

pub way_block-returns-in-Ok-clause-touches : goal.way_block-returns-in-Ok-clause-touches
way_block-returns-in-Ok-clause-touches g t c =
    hash-touched c.args.config.now c.args.verity.now c.args.tree.now c.requires.stack.sound.loaded c.requires.block.lies c.hash_extent-extent.result c.hash_extent-extent.ensures c.in-Ok.ensures.touches

pub way_block-returns-in-Ok-clause-given : goal.way_block-returns-in-Ok-clause-given
way_block-returns-in-Ok-clause-given g t c =
    way-had tt (reads-expected hash_of (ap (λ (e : Extent). expected_in e c.args.verity.now.salt c.args.wanted.now.digest) c.hash_extent-extent.ensures.value) c.in-Ok.ensures.given)

pub way_block-heal-requires : goal.way_block-heal-requires
way_block-heal-requires g t c κs within =
    let config = c.args.config.now in
    let v = c.args.verity.now in
    let tree = c.args.tree.now in
    let w = c.args.wanted.now in
    let own = hash-touched config v tree c.requires.stack.sound.loaded c.requires.block.lies c.hash_extent-extent.result c.hash_extent-extent.ensures c.in-Err.ensures.touches in
    let low = way-verified config v tree w.level w.block c.requires.stack.sound.loaded c.requires.block.lies c.requires.block.there c.requires.level in
    let block : HasVerifiedBlock config v tree c.hash_number-number.result = record { lies = c.requires.block.lies; there = subst (λ (k : ℕ). k < verified_blocks v) (sym c.hash_number-number.ensures) low } in
    (omega arith, (within, (stack-later config c.in-Err.ensures.reads.moved.moved.fixed c.requires.stack c.in-Err.ensures.cached, (block, record { heals = sym c.can_heal.ensures ∙ c.if-can_heal.true; named = own.fault }))))

pub way_block-returns-then-can_heal-clause-reads : goal.way_block-returns-then-can_heal-clause-reads
way_block-returns-then-can_heal-clause-reads g t c =
    let config = c.args.config.now in
    let v = c.args.verity.now in
    let w = c.args.wanted.now in
    let healed = c.heal.ensures.reads in
    let old = map g.D.BlockDev.state c.args.backing.now.devices.items in
    let mid = map g.D.BlockDev.state c.hash_block.new.backing.devices.items in
    let new = map g.D.BlockDev.state c.heal.new.backing.devices.items in
    let got = subst (λ (k : ℕ). Gets (spare_expected bytes (block_in config v k) w.digest) mid new healed.spare) c.hash_number-number.ensures healed.got in
    subst (λ (r : Result (Vec ℕ Global) IoFault). Gets (way_expected bytes (block_in config v w.block) w.level w.digest) old new r) (sym healed.is)
    (way-answered config v c.args.tree.now w.level w.block c.requires.stack.sound.loaded c.requires.block.lies c.requires.block.there c.requires.level w.digest c.hash_extent-extent.result c.hash_extent-extent.ensures
    c.in-Err.own healed.spare (sym c.can_heal.ensures ∙ c.if-can_heal.true) c.in-Err.ensures.reads got)

pub way_block-returns-then-can_heal-clause-touches : goal.way_block-returns-then-can_heal-clause-touches
way_block-returns-then-can_heal-clause-touches g t c =
    asks-healed c.args.verity.now.parity c.in-Err.own (sym c.can_heal.ensures ∙ c.if-can_heal.true) (λ none. none c.args.tree.now.device.0 c.args.tree.now.line c.args.verity.now c.requires.block.lies.is)
    (hash-touched c.args.config.now c.args.verity.now c.args.tree.now c.requires.stack.sound.loaded c.requires.block.lies c.hash_extent-extent.result c.hash_extent-extent.ensures c.in-Err.ensures.touches)
    c.heal.ensures.touches

pub way_block-returns-then-can_heal-clause-given : goal.way_block-returns-then-can_heal-clause-given
way_block-returns-then-can_heal-clause-given g t c =
    let healed = c.heal.ensures.reads in
    let v = c.args.verity.now in
    let tree = c.args.tree.now in
    let w = c.args.wanted.now in
    let place = place_in v tree w.block in
    let fault = c.in-Err.own in
    let does = DeviceDoes g.D.BlockDev.state g.D.BlockDev.does in
    let own = reads-expected hash_of (ap (λ (e : Extent). expected_in e v.salt w.digest) c.hash_extent-extent.ensures.value) c.in-Err.ensures.given in
    let given = subst (λ (k : ℕ). ReadsBy does c.args.config.now (spare_of (place_in v tree k) w.digest) (served c.hash_block.new.backing) healed.read (block_answer healed.spare)) c.hash_number-number.ensures healed.given in
    subst (λ (r : Result (List ℕ) IoFault). ReadsBy does c.args.config.now (way_of place w.level w.digest) (served c.args.backing.now) (served c.heal.new.backing) r)
    (healed-bytes fault healed.spare ∙ ap block_answer (sym healed.is))
    (subst (λ s. ReadsBy does c.args.config.now (way_of place w.level w.digest) (served c.args.backing.now) s (healed_result fault (block_answer healed.spare))) (sym healed.counted)
    (way-healed (sym c.can_heal.ensures ∙ c.if-can_heal.true) own given))

pub way_block-returns-else-can_heal-clause-reads : goal.way_block-returns-else-can_heal-clause-reads
way_block-returns-else-can_heal-clause-reads g t c =
    let w = c.args.wanted.now in
    way-settled c.args.config.now c.args.verity.now c.args.tree.now w.level w.block c.requires.stack.sound.loaded c.requires.block.lies c.requires.block.there c.requires.level w.digest c.hash_extent-extent.result c.hash_extent-extent.ensures
    c.in-Err.own (sym c.can_heal.ensures ∙ c.if-can_heal.false) c.in-Err.ensures.reads

pub way_block-returns-else-can_heal-clause-touches : goal.way_block-returns-else-can_heal-clause-touches
way_block-returns-else-can_heal-clause-touches g t c =
    hash-touched c.args.config.now c.args.verity.now c.args.tree.now c.requires.stack.sound.loaded c.requires.block.lies c.hash_extent-extent.result c.hash_extent-extent.ensures c.in-Err.ensures.touches

pub way_block-returns-else-can_heal-clause-given : goal.way_block-returns-else-can_heal-clause-given
way_block-returns-else-can_heal-clause-given g t c =
    way-had (sym c.can_heal.ensures ∙ c.if-can_heal.false) (reads-expected hash_of (ap (λ (e : Extent). expected_in e c.args.verity.now.salt c.args.wanted.now.digest) c.hash_extent-extent.ensures.value) c.in-Err.ensures.given)
