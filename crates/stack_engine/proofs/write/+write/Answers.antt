use Rattle.std.proofs.Common.{◌≡◌, inl, ◌+◌, ◌/◌, ◌*◌, ◌-◌, ◌%◌, length, take, drop, map, ℕ, List, ◌++◌, Ok, Err, refl, sym, ap, ◌∙◌, subst, arith, rules}
use Rattle.std.proofs.lemmas.List.{length-take, take_all}
use Rattle.stack_rules.specs.Names.{mapped}
use Rattle.stack_rules.specs.declared.lower.Lower.{Lower}
use Rattle.stack_lines.specs.declared.source.Source.{Source}
use Rattle.stack_rules.specs.Descend.{depth}
use Rattle.stack_lines.specs.declared.source.Source.TheVariants.{Below, Units, UnitPart}
use Rattle.stack_lines.specs.Cuts.{PutsInSteps}
use Rattle.stack_meaning.specs.Puts.{put_on}
use Rattle.stack_lines.specs.Sources.{AreUnits, source_said, source_depth}
use Rattle.stack_meaning.specs.Meaning.{said_at}
use Rattle.stack_lines.specs.Writing.{AreHeld, sectors_in, destination_of, WritesSectors, source_destination}
use Rattle.stack_engine.specs.Premises.{FitsIn, CanWrite}
use Rattle.stack_engine.proofs.SpentLemmas.{IsCutBehind}
use Rattle.stack_engine.proofs.UncutLemmas.{units-plain-below}
use Rattle.stack_engine.proofs.PaidLemmas.{once-paid}
use Rattle.stack_engine.proofs.StackLemmas.{stack-later}
use Rattle.stack_meaning.proofs.lemmas.LoadedLemmas.{size-small}
use Rattle.stack_lines.proofs.lemmas.SourceLemmas.{served-depth}
use Rattle.stack_lines.proofs.lemmas.WriteSourceLemmas.{served-may_write, below-alike, zeros-written, fails-written, device-written, device-ended}
use Rattle.stack_lines.proofs.lemmas.PutLemmas.{put-none}
use Rattle.stack_lines.proofs.lemmas.WriteRunLemmas.{length-sectors_in, sectors_in-none, write_none, write_as}
use Rattle.stack_meaning.specs.declared.units.CryptUnits.{CryptUnits}
use Rattle.stack_rules.specs.declared.lower.Lower.TheVariants.{Leaf}
use Rattle.stack_meaning.specs.Units.{per_unit, encrypted_units, unit_first}
use Rattle.stack_lines.proofs.lemmas.UnitSourceLemmas.{units-bytes}
use Rattle.std.proofs.lemmas.Slice.{drop-put_mid}
use Rattle.stack_meaning.proofs.lemmas.UnitSizeLemmas.{per_unit-some}
use Rattle.stack_lines.proofs.lemmas.UnitSourceLemmas.{whole-units}
use Rattle.std.proofs.Common.{IsTrue}
use Rattle.stack_rules.specs.Names.{may_write}
use Rattle.stack_lines.specs.declared.source.CryptPart.{CryptPart}
use Rattle.stack_meaning.specs.Places.{LeafRead}
use Rattle.stack_meaning.specs.Reading.{IsPlain}
use Rattle.stack_lines.specs.Sources.{ReadsSource}
use Rattle.stack_meaning.proofs.lemmas.LeafLemmas.{all-whole}
use Rattle.stack_engine.proofs.UnitChangeLemmas.{part-ended, part-written, unit-ends}
use Rattle.stack_engine.proofs.UnitWriteLemmas.{lower-written, units-none, units-more, units-ended}
use Rattle.stack_engine.proofs.RunBytesLemmas.{room_length, room_sectors, front_whole, with_run, with_rest, run_served, ends_before, ends_after, ends_behind, IsNextRun, next-run, run-fits}
use Rattle.stack_engine.proofs.UnitStepLemmas.{step-at, step-width, step-written}
use Rattle.stack_engine.proofs.HeldLemmas.{rest-later, one-none, none-of_units, none-of_part, IsCut, cut-bytes, cut-rest, cut-held}
use Rattle.block_device.specs.Call.{DeviceDoes}
use Rattle.stack_engine.specs.SectorCalls.{Hands, in_steps, zeros_written, fails_written}
use Rattle.stack_engine.proofs.LeafCallLemmas.{makes-none}
use Rattle.stack_engine.proofs.SectorCallLemmas.{runs_of, run-piece, step-piece, writes-begin, leaf-handed, run-handed, run-unhanded, all-handed, step-handed, step-unhanded, steps-handed, each-handed, units-handed, part-handed, part-lost}
use Rattle.stack_engine.specs.Backings.{backing_of}
use Rattle.stack_engine.specs.WriteSteps.{write_to, write_beneath, IsWriteStep}
use Rattle.stack_engine.proofs.WriteStepLemmas.{write_some, write-step-none, device-write-step, device-write-err, unit-write-step, unit-write-err, part-read-step, part-write-step}
use Rattle.stack_engine.proofs.KeepingLemmas.{kept-reads}
use Rattle.stack_engine.proofs.write.+write.Goals as goal

-- ---- the loop

pub write_device-loop-at-init : goal.write_device-loop-at-init
write_device-loop-at-init g t c =
    let to = destination_of c.args.config.now (mapped c.args.d.0) in
    let leaves = map g.D.BlockDev.state c.args.backing.now.devices.items in
    record {
      whole = refl;
      within = omega arith;
      rest = refl;
      so_far = subst (λ (l : List (List ℕ)). WritesSectors to c.args.first l leaves leaves (Ok tt)) (sym sectors_in-none) (write_none to c.args.first leaves (put-none c.args.config.now (mapped c.args.d.0) c.args.first));
      ends = inl (inl refl);
      handed = writes-begin (runs_of c.args.d.0) c.args.first (c.args.plain.now ++ c.args.buffer.now);
      step = write-step-none c.requires.can.stack.cached;
      cut = inl refl;
    }

pub write_device-overflow_add-first : goal.write_device-overflow_add-first
write_device-overflow_add-first g t c =
    let small = size-small c.args.config.now (mapped c.args.d.0) c.requires.can.stack.sound.loaded in omega (arith, small, c.requires.can.fits.holds, ap (λ (l : List ℕ). length l) c.held-len.ensures)

pub write_device-write_run-requires : goal.write_device-write_run-requires
write_device-write_run-requires g t c κs within =
    let config = c.args.config.now in
    let plain = c.args.plain.now in
    let buffer = c.args.buffer.now in
    let bytes = plain ++ buffer in
    let at = c.loop-at.at in
    let next = c.run_at-run in
    let inv = c.loop-at.invariant in
    let loaded = c.requires.can.stack.sound.loaded in
    let source = next.result.source in
    let count = next.result.count in
    let run = subst (λ (b : List ℕ). IsNextRun config c.args.d.0 c.args.first at (length bytes / 512) b count source) c.held-len.ensures
    (next-run c.args.first at (length bytes / 512) c.held-len.result.now inv.whole c.loop-at-test.true (ap (λ (l : List ℕ). length l / 512) c.held-len.ensures) next.ensures.served next.ensures.some next.ensures.most next.ensures.longest) in
    let deep = served-depth config c.args.d.0 (c.args.first + at / 512) count source loaded run.some run.served in
    let cut : IsCut plain buffer c.loop-at.buffer c.between-part.result.now at (at + count * 512) c.min-from.result c.min-to.result =
    record { part_is = c.between-part.ensures; from_is = c.min-from.ensures; to_is = c.min-to.ensures; same_len = c.loop-at.auto.buffer; same_rest = inv.rest; order = omega arith } in
    let same = cut-bytes cut (one-none (said_at config (mapped c.args.d.0)) c.args.first plain buffer c.requires.bytes) in (
      omega (arith, deep),
      (
        within,
        (
          record {
            stack = stack-later config inv.so_far.moved.moved.fixed c.requires.can.stack inv.step.cached;
            allowed = served-may_write config c.args.d.0 (c.args.first + at / 512) count source loaded run.some c.requires.can.allowed run.served;
            fits = subst (FitsIn config source) (sym same) (run-fits run);
          },
          cut-held cut config c.args.d.0 c.args.first count source loaded run.some inv.whole refl run.fits run.served c.requires.bytes,
        ),
      ),
    )

pub write_device-loop-at-preserved : goal.write_device-loop-at-preserved
write_device-loop-at-preserved g t c =
    let config = c.args.config.now in
    let state = g.D.BlockDev.state in
    let plain = c.args.plain.now in
    let buffer = c.args.buffer.now in
    let bytes = plain ++ buffer in
    let d = c.args.d.0 in
    let first = c.args.first in
    let at = c.loop-at.at in
    let next = c.run_at-run in
    let inv = c.loop-at.invariant in
    let loaded = c.requires.can.stack.sound.loaded in
    let source = next.result.source in
    let count = next.result.count in
    let old = map state c.args.backing.now.devices.items in
    let mid = map state c.loop-at.backing.devices.items in
    let new = map state c.write_run.new.backing.devices.items in
    let rest : ℕ = (length c.held-len.result.now - at) / 512 in
    let run = subst (λ (b : List ℕ). IsNextRun config d first at (length bytes / 512) b count source) c.held-len.ensures
    (next-run first at (length bytes / 512) c.held-len.result.now inv.whole c.loop-at-test.true (ap (λ (l : List ℕ). length l / 512) c.held-len.ensures) next.ensures.served next.ensures.some next.ensures.most next.ensures.longest) in
    let cut : IsCut plain buffer c.loop-at.buffer c.between-part.result.now at (at + count * 512) c.min-from.result c.min-to.result =
    record { part_is = c.between-part.ensures; from_is = c.min-from.ensures; to_is = c.min-to.ensures; same_len = c.loop-at.auto.buffer; same_rest = inv.rest; order = omega arith } in
    let same = cut-bytes cut (one-none (said_at config (mapped d)) first plain buffer c.requires.bytes) in
    let may = served-may_write config d (first + at / 512) count source loaded run.some c.requires.can.allowed run.served in
    let all = device-written config d first (take at bytes) (take (at + count * 512 - at) (drop at bytes)) source loaded
    (front_whole bytes at count run.fits inv.whole) (omega (arith, run.len)) (omega (arith, run.len, run.some)) may
    (ends_before bytes at count run.fits config d first run.some inv.ends) (run_served bytes at count run.fits config d first source run.served) inv.so_far
    (subst (λ (b : List ℕ). WritesSectors (source_destination config source) 0 (sectors_in b) mid new (Ok tt)) same c.in-Ok.ensures.writes) in
    record {
      whole = omega (arith, inv.whole);
      within = run.fits;
      rest = cut-rest cut c.write_run.new.buffer c.write_run.auto.buffer;
      so_far = subst (λ (b : List ℕ). WritesSectors (destination_of config (mapped d)) first (sectors_in b) old new (Ok tt)) (with_run bytes at count run.fits) all;
      ends = ends_after bytes at count run.fits config d first rest inv.whole run.some (omega (arith, c.requires.can.fits.sectors.whole, ap (λ (l : List ℕ). length l) c.held-len.ensures)) next.ensures.longest;
      handed = run-handed (run-piece d first at rest bytes _ next.result inv.whole run.fits (ap (λ (l : List ℕ). (length l - at) / 512) c.held-len.ensures) next.ensures same) inv.handed c.in-Ok.ensures.handed;
      step = device-write-step loaded run inv.cut (ap (λ (l : List ℕ). length l / 512) same ∙ run.sectors) inv.step c.in-Ok.ensures.step;
      cut = subst (λ (k : ℕ). IsCutBehind config d first k (length bytes / 512)) run.next run.behind;
    }

pub write_device-returns-in-Err-clause-writes : goal.write_device-returns-in-Err-clause-writes
write_device-returns-in-Err-clause-writes g t c =
    let config = c.args.config.now in
    let state = g.D.BlockDev.state in
    let plain = c.args.plain.now in
    let buffer = c.args.buffer.now in
    let bytes = plain ++ buffer in
    let d = c.args.d.0 in
    let first = c.args.first in
    let at = c.loop-at.at in
    let next = c.run_at-run in
    let inv = c.loop-at.invariant in
    let loaded = c.requires.can.stack.sound.loaded in
    let source = next.result.source in
    let count = next.result.count in
    let run = subst (λ (b : List ℕ). IsNextRun config d first at (length bytes / 512) b count source) c.held-len.ensures
    (next-run first at (length bytes / 512) c.held-len.result.now inv.whole c.loop-at-test.true (ap (λ (l : List ℕ). length l / 512) c.held-len.ensures) next.ensures.served next.ensures.some next.ensures.most next.ensures.longest) in
    let cut : IsCut plain buffer c.loop-at.buffer c.between-part.result.now at (at + count * 512) c.min-from.result c.min-to.result =
    record { part_is = c.between-part.ensures; from_is = c.min-from.ensures; to_is = c.min-to.ensures; same_len = c.loop-at.auto.buffer; same_rest = inv.rest; order = omega arith } in
    let same = cut-bytes cut (one-none (said_at config (mapped d)) first plain buffer c.requires.bytes) in
    let may = served-may_write config d (first + at / 512) count source loaded run.some c.requires.can.allowed run.served in
    let all = device-ended config d first (take at bytes) (take (at + count * 512 - at) (drop at bytes)) source loaded
    (front_whole bytes at count run.fits inv.whole) (omega (arith, run.len)) (omega (arith, run.len, run.some)) may
    (ends_before bytes at count run.fits config d first run.some inv.ends) (run_served bytes at count run.fits config d first source run.served) inv.so_far (drop (at + count * 512 - at) (drop at bytes)) c.in-Err.fault
    (ends_behind bytes at count run.fits config d first ((length c.held-len.result.now - at) / 512) inv.whole (omega (arith, c.requires.can.fits.sectors.whole, ap (λ (l : List ℕ). length l) c.held-len.ensures)) next.ensures.longest)
    (subst (λ (b : List ℕ). WritesSectors (source_destination config source) 0 (sectors_in b) (map state c.loop-at.backing.devices.items) (map state c.write_run.new.backing.devices.items) (Err c.in-Err.fault)) same c.in-Err.ensures.writes) in
    subst (λ (b : List ℕ). WritesSectors (destination_of config (mapped d)) first (sectors_in b) (map state c.args.backing.now.devices.items) (map state c.write_run.new.backing.devices.items) (Err c.in-Err.fault)) (with_rest bytes at count run.fits) all

pub write_device-returns-clause-writes : goal.write_device-returns-clause-writes
write_device-returns-clause-writes g t c =
    let state = g.D.BlockDev.state in
    let bytes = c.args.plain.now ++ c.args.buffer.now in
    let whole : take c.loop-at.at bytes ≡ bytes = take_all c.loop-at.at bytes (omega (arith, c.loop-at-test.false, ap (λ (l : List ℕ). length l) c.held-len.ensures)) in
    subst (λ (b : List ℕ). WritesSectors (destination_of c.args.config.now (mapped c.args.d.0)) c.args.first (sectors_in b) (map state c.args.backing.now.devices.items) (map state c.loop-at.backing.devices.items) (Ok tt)) whole c.loop-at.invariant.so_far

pub write_device-returns-in-Err-clause-step : goal.write_device-returns-in-Err-clause-step
write_device-returns-in-Err-clause-step g t c =
    let config = c.args.config.now in
    let plain = c.args.plain.now in
    let buffer = c.args.buffer.now in
    let bytes = plain ++ buffer in
    let at = c.loop-at.at in
    let next = c.run_at-run in
    let inv = c.loop-at.invariant in
    let count = next.result.count in
    let run = subst (λ (b : List ℕ). IsNextRun config c.args.d.0 c.args.first at (length bytes / 512) b count next.result.source) c.held-len.ensures
    (next-run c.args.first at (length bytes / 512) c.held-len.result.now inv.whole c.loop-at-test.true (ap (λ (l : List ℕ). length l / 512) c.held-len.ensures) next.ensures.served next.ensures.some next.ensures.most next.ensures.longest) in
    let cut : IsCut plain buffer c.loop-at.buffer c.between-part.result.now at (at + count * 512) c.min-from.result c.min-to.result =
    record { part_is = c.between-part.ensures; from_is = c.min-from.ensures; to_is = c.min-to.ensures; same_len = c.loop-at.auto.buffer; same_rest = inv.rest; order = omega arith } in
    let same = cut-bytes cut (one-none (said_at config (mapped c.args.d.0)) c.args.first plain buffer c.requires.bytes) in
    device-write-err c.requires.can.stack.sound.loaded run inv.cut (ap (λ (l : List ℕ). length l / 512) same ∙ run.sectors) inv.step c.in-Err.ensures.step

pub write_device-returns-clause-step : goal.write_device-returns-clause-step
write_device-returns-clause-step g t c =
    let config = c.args.config.now in
    let bytes = c.args.plain.now ++ c.args.buffer.now in
    let all : c.loop-at.at / 512 ≡ length bytes / 512 = omega (arith, c.loop-at.invariant.within, c.loop-at-test.false, ap (λ (l : List ℕ). length l) c.held-len.ensures) in
    subst (λ (k : ℕ). IsWriteStep config (write_some config c.args.d.0 c.args.first k (length bytes / 512)) (backing_of g.D.BlockDev.state c.args.backing.now) (backing_of g.D.BlockDev.state c.loop-at.backing)) all c.loop-at.invariant.step

-- ---- lower devices and runs

pub write_lower-write_device-requires : goal.write_lower-write_device-requires
write_lower-write_device-requires g t c κs within =
    let config = c.args.config.now in
    let backing = c.args.backing.now in
    let plain = c.args.plain.now in
    let buffer = c.args.buffer.now in
    let deep : depth config c.args.lower ≡ depth config (mapped c.in-Device.d.0) = ap (depth config) c.in-Device.is in (
      omega (arith, deep),
      (
        within,
        (
          subst (λ (x : Lower). CanWrite config (map g.D.BlockDev.state backing.devices.items) backing.cache (Below x c.args.first) (plain ++ buffer)) c.in-Device.is c.requires.can,
          subst (λ (x : Lower). AreHeld (said_at config x) c.args.first plain buffer) c.in-Device.is c.requires.bytes,
        ),
      ),
    )

pub write_lower-returns-in-Leaf-clause-writes : goal.write_lower-returns-in-Leaf-clause-writes
write_lower-returns-in-Leaf-clause-writes g t c =
    let config = c.args.config.now in
    let old = map g.D.BlockDev.state c.args.backing.now.devices.items in
    let new = map g.D.BlockDev.state c.write_leaf.new.backing.devices.items in
    subst (λ (x : Lower). WritesSectors (destination_of config x) c.args.first (sectors_in (c.args.plain.now ++ c.args.buffer.now)) old new c.write_leaf.result) (sym c.in-Leaf.is)
    (subst (λ (b : List ℕ). WritesSectors (destination_of config (Leaf c.in-Leaf.leaf)) c.args.first (sectors_in b) old new c.write_leaf.result) c.held.ensures c.write_leaf.ensures.writes)

pub write_lower-returns-in-Device-clause-writes : goal.write_lower-returns-in-Device-clause-writes
write_lower-returns-in-Device-clause-writes g t c = rw c.in-Device.is c.write_device.ensures.writes

pub write_lower-returns-in-Leaf-clause-step : goal.write_lower-returns-in-Leaf-clause-step
write_lower-returns-in-Leaf-clause-step g t c =
    let config = c.args.config.now in
    let old = backing_of g.D.BlockDev.state c.args.backing.now in
    let new = backing_of g.D.BlockDev.state c.write_leaf.new.backing in
    subst (λ (x : Lower). IsWriteStep config (write_beneath config x c.args.first (length (c.args.plain.now ++ c.args.buffer.now) / 512)) old new) (sym c.in-Leaf.is)
    (subst (λ (b : List ℕ). IsWriteStep config (write_beneath config (Leaf c.in-Leaf.leaf) c.args.first (length b / 512)) old new) c.held.ensures c.write_leaf.ensures.step)

pub write_lower-returns-in-Device-clause-step : goal.write_lower-returns-in-Device-clause-step
write_lower-returns-in-Device-clause-step g t c = rw c.in-Device.is c.write_device.ensures.step

pub write_run-returns-in-Below-clause-writes : goal.write_run-returns-in-Below-clause-writes
write_run-returns-in-Below-clause-writes g t c =
    let sectors = sectors_in (c.args.plain.now ++ c.args.buffer.now) in
    rw c.in-Below.is (write_as (below-alike c.args.config.now c.in-Below.lower c.in-Below.first sectors) c.write_lower.ensures.writes)

pub write_run-write_units-requires : goal.write_run-write_units-requires
write_run-write_units-requires g t c κs within =
    let run = c.in-Units in
    let plain = c.args.plain.now in
    let buffer = c.args.buffer.now in
    let none = none-of_units c.args.config.now run.part c.args.source plain buffer c.requires.can.fits c.requires.bytes run.is in
    let config = c.args.config.now in
    let backing = c.args.backing.now in
    let Can : Source → List ℕ → Type 0 = λ from bytes. CanWrite config (map g.D.BlockDev.state backing.devices.items) backing.cache from bytes in
    let deep : source_depth config c.args.source ≡ depth config run.part.lower + 1 = ap (source_depth config) run.is in
    (omega (arith, deep), (within, subst (λ (p : List ℕ). Can (Units run.part) (p ++ buffer)) none (subst (λ (from : Source). Can from (plain ++ buffer)) run.is c.requires.can)))

pub write_run-write_unit_part-requires : goal.write_run-write_unit_part-requires
write_run-write_unit_part-requires g t c κs within =
    let run = c.in-UnitPart in
    let plain = c.args.plain.now in
    let buffer = c.args.buffer.now in
    let none = none-of_part c.args.config.now run.part c.args.source plain buffer c.requires.can.fits c.requires.bytes run.is in
    let config = c.args.config.now in
    let backing = c.args.backing.now in
    let Can : Source → List ℕ → Type 0 = λ from bytes. CanWrite config (map g.D.BlockDev.state backing.devices.items) backing.cache from bytes in
    let deep : source_depth config c.args.source ≡ depth config run.part.lower + 1 = ap (source_depth config) run.is in
    (omega (arith, deep), (within, subst (λ (p : List ℕ). Can (UnitPart run.part) (p ++ buffer)) none (subst (λ (from : Source). Can from (plain ++ buffer)) run.is c.requires.can)))

pub write_run-returns-in-Units-clause-writes : goal.write_run-returns-in-Units-clause-writes
write_run-returns-in-Units-clause-writes g t c =
    let run = c.in-Units in
    let none = none-of_units c.args.config.now run.part c.args.source c.args.plain.now c.args.buffer.now c.requires.can.fits c.requires.bytes run.is in
    rw (run.is, none) c.write_units.ensures.writes

pub write_run-returns-in-UnitPart-clause-writes : goal.write_run-returns-in-UnitPart-clause-writes
write_run-returns-in-UnitPart-clause-writes g t c =
    let run = c.in-UnitPart in
    let none = none-of_part c.args.config.now run.part c.args.source c.args.plain.now c.args.buffer.now c.requires.can.fits c.requires.bytes run.is in
    rw (run.is, none) c.write_unit_part.ensures.writes

pub write_run-returns-in-Zeros-clause-writes : goal.write_run-returns-in-Zeros-clause-writes
write_run-returns-in-Zeros-clause-writes g t c =
    rw c.in-Zeros.is (zeros-written c.args.config.now (sectors_in (c.args.plain.now ++ c.args.buffer.now)) (map g.D.BlockDev.state c.args.backing.now.devices.items))

pub write_run-returns-in-Fails-clause-writes : goal.write_run-returns-in-Fails-clause-writes
write_run-returns-in-Fails-clause-writes g t c =
    let leaves = map g.D.BlockDev.state c.args.backing.now.devices.items in
    let bytes = c.args.plain.now ++ c.args.buffer.now in
    rw c.in-Fails.is (fails-written c.args.config.now (sectors_in bytes) leaves (omega (arith, c.requires.can.fits.sectors.some, c.requires.can.fits.sectors.whole, length-sectors_in bytes)))

pub write_run-returns-in-Below-clause-step : goal.write_run-returns-in-Below-clause-step
write_run-returns-in-Below-clause-step g t c = rw c.in-Below.is c.write_lower.ensures.step

pub write_run-returns-in-Units-clause-step : goal.write_run-returns-in-Units-clause-step
write_run-returns-in-Units-clause-step g t c =
    let run = c.in-Units in
    let none = none-of_units c.args.config.now run.part c.args.source c.args.plain.now c.args.buffer.now c.requires.can.fits c.requires.bytes run.is in
    rw (run.is, none) c.write_units.ensures.step

pub write_run-returns-in-UnitPart-clause-step : goal.write_run-returns-in-UnitPart-clause-step
write_run-returns-in-UnitPart-clause-step g t c =
    let run = c.in-UnitPart in
    let none = none-of_part c.args.config.now run.part c.args.source c.args.plain.now c.args.buffer.now c.requires.can.fits c.requires.bytes run.is in
    rw (run.is, none) c.write_unit_part.ensures.step

pub write_run-returns-in-Zeros-clause-step : goal.write_run-returns-in-Zeros-clause-step
write_run-returns-in-Zeros-clause-step g t c = write-step-none c.requires.can.stack.cached

pub write_run-returns-in-Fails-clause-step : goal.write_run-returns-in-Fails-clause-step
write_run-returns-in-Fails-clause-step g t c = write-step-none c.requires.can.stack.cached

-- ---- units of crypt lines

pub write_units-unit_at-unit-requires : goal.write_units-unit_at-unit-requires
write_units-unit_at-unit-requires g t c = let small = size-small c.args.config.now c.args.part.lower c.requires.stack.sound.loaded in omega (arith, small, c.requires.fits.holds.inside)

pub write_units-encrypt-requires-clause-fits : goal.write_units-encrypt-requires-clause-fits
write_units-encrypt-requires-clause-fits g t c =
    omega (arith, c.requires.fits.holds.small, c.unit_at-unit.ensures.index, c.requires.fits.sectors.whole)

pub write_units-encrypt-requires-clause-whole : goal.write_units-encrypt-requires-clause-whole
write_units-encrypt-requires-clause-whole g t c =
    units-bytes c.args.config.now c.args.part _ _ c.requires.fits.holds (omega (arith, c.requires.fits.sectors.whole))

-- the bytes, encrypted
encrypted-is : (units : CryptUnits) (key : List ℕ) (k k' : ℕ) (bytes new : List ℕ) → new ≡ encrypted_units units key k bytes → k ≡ k' → new ≡ encrypted_units units key k' bytes
encrypted-is units key k k' bytes new is same = is ∙ ap (λ (j : ℕ). encrypted_units units key j bytes) same

pub write_units-lower_cuts-requires-clause-sectors : goal.write_units-lower_cuts-requires-clause-sectors
write_units-lower_cuts-requires-clause-sectors g t c =
    let config = c.args.config.now in
    let p = c.args.part in
    let n : ℕ = length c.args.units.now / 512 in
    record {
      allowed = c.requires.allowed;
      holds = omega (arith, c.requires.fits.holds.inside, c.unit_at-unit.ensures.first, c.encrypt.auto.units);
      steps = search rules;
    }

pub write_units-write_lower-requires : goal.write_units-write_lower-requires
write_units-write_lower-requires g t c κs within =
    let same = c.encrypt.auto.units in (
      omega arith,
      (
        within,
        (
          record {
            stack = c.requires.stack;
            allowed = c.requires.allowed;
            fits = record {
              sectors = record { some = omega (arith, same, c.requires.fits.sectors.some); whole = omega (arith, same, c.requires.fits.sectors.whole) };
              holds = omega (arith, c.requires.fits.holds.inside, c.unit_at-unit.ensures.first, same);
            };
          },
          inl refl,
        ),
      ),
    )

pub write_units-returns-then-lower_cuts-clause-writes : goal.write_units-returns-then-lower_cuts-clause-writes
write_units-returns-then-lower_cuts-clause-writes g t c =
    let config = c.args.config.now in
    let state = g.D.BlockDev.state in
    let p = c.args.part in
    let bytes = c.args.units.now in
    let n : ℕ = length bytes / 512 in
    let unit = c.unit_at-unit in
    let lower = c.args.part.lower in
    let enc = encrypted-is p.units p.key.now unit.result.index (p.first / per_unit p.units) bytes c.encrypt.new.units c.encrypt.ensures unit.ensures.index in
    let old = map state c.args.backing.now.devices.items in
    let new = map state c.write_lower.new.backing.devices.items in
    let count : length c.encrypt.new.units / 512 ≡ n = omega (arith, c.encrypt.auto.units) in
    let cut : PutsInSteps (put_on config lower) (unit_first p.units p.first) n (record { size = per_unit p.units; skip = 0 }) =
    subst (λ (k : ℕ). PutsInSteps (put_on config lower) (unit_first p.units p.first) n (record { size = k; skip = 0 })) (c.from.ensures ∙ c.sectors-sectors.ensures.value)
    (subst (λ (k : ℕ). PutsInSteps (put_on config lower) (unit_first p.units p.first) k (record { size = c.from.result; skip = 0 })) count
    (subst (λ (k : ℕ). PutsInSteps (put_on config lower) k (length c.encrypt.new.units / 512) (record { size = c.from.result; skip = 0 })) unit.ensures.first (c.lower_cuts.ensures.puts c.if-lower_cuts.true))) in
    lower-written config p bytes n c.requires.fits.holds (omega (arith, c.requires.fits.sectors.whole)) cut
    (subst (λ (k : ℕ). WritesSectors (destination_of config lower) k (sectors_in (encrypted_units p.units p.key.now (p.first / per_unit p.units) bytes)) old new c.write_lower.result) unit.ensures.first
    (subst (λ (b : List ℕ). WritesSectors (destination_of config lower) unit.result.first (sectors_in b) old new c.write_lower.result) enc c.write_lower.ensures.writes))

pub write_units-write_lower-requires-in-loop-at : goal.write_units-write_lower-requires-in-loop-at
write_units-write_lower-requires-in-loop-at g t c κs within =
    let bytes = c.args.units.now in
    let n : ℕ = length bytes / 512 in
    let p = c.args.part in
    let size : ℕ = c.sectors-sectors.result * 512 in
    let long : length bytes ≡ 512 * n = omega (arith, c.requires.fits.sectors.whole) in
    let step = step-at p.units (length bytes) n c.loop-at.at size c.min-end.result (omega (arith, c.sectors-sectors.ensures.value)) long
    c.requires.fits.holds.whole c.loop-at.invariant.even (omega (arith, c.loop-at-test.true, c.encrypt.auto.units)) (omega (arith, c.min-end.ensures, c.encrypt.auto.units)) in
    let width = step-width step c.loop-at.units (omega (arith, long, c.loop-at.auto.units, c.encrypt.auto.units)) in (
      omega arith,
      (
        within,
        (
          record {
            stack = stack-later c.args.config.now c.loop-at.invariant.so_far.moved.moved.fixed c.requires.stack c.loop-at.invariant.step.cached;
            allowed = c.requires.allowed;
            fits = record {
              sectors = record { some = omega (arith, width, step.is, per_unit-some p.units); whole = omega (arith, width) };
              holds = omega (arith, width, c.requires.fits.holds.inside, c.unit_at-unit.ensures.first, step.place, step.fits, step.is);
            };
          },
          inl refl,
        ),
      ),
    )

pub write_units-loop-at-init : goal.write_units-loop-at-init
write_units-loop-at-init g t c =
    let to = source_destination c.args.config.now (Units c.args.part) in
    let leaves = map g.D.BlockDev.state c.args.backing.now.devices.items in
    record {
      even = omega arith;
      within = omega arith;
      rest = refl;
      so_far = subst (λ (l : List (List ℕ)). WritesSectors to 0 l leaves leaves (Ok tt)) (sym sectors_in-none) (write_none to 0 leaves (λ images. units-none c.args.config.now c.args.part images));
      handed = writes-begin (in_steps (per_unit c.args.part.units) c.args.part.lower) (unit_first c.args.part.units c.args.part.first) c.encrypt.new.units;
      step = write-step-none c.requires.stack.cached;
    }

pub write_units-loop-at-preserved : goal.write_units-loop-at-preserved
write_units-loop-at-preserved g t c =
    let state = g.D.BlockDev.state in
    let config = c.args.config.now in
    let p = c.args.part in
    let bytes = c.args.units.now in
    let n : ℕ = length bytes / 512 in
    let unit = c.unit_at-unit in
    let inv = c.loop-at.invariant in
    let size : ℕ = c.sectors-sectors.result * 512 in
    let at = c.loop-at.at in
    let long : length bytes ≡ 512 * n = omega (arith, c.requires.fits.sectors.whole) in
    let step = step-at p.units (length bytes) n at size c.min-end.result (omega (arith, c.sectors-sectors.ensures.value)) long
    c.requires.fits.holds.whole inv.even (omega (arith, c.loop-at-test.true, c.encrypt.auto.units)) (omega (arith, c.min-end.ensures, c.encrypt.auto.units)) in
    let now = c.loop-at.units in
    let now_long : length now ≡ 512 * n = omega (arith, long, c.loop-at.auto.units, c.encrypt.auto.units) in
    let enc = encrypted-is p.units p.key.now unit.result.index (p.first / per_unit p.units) bytes c.encrypt.new.units c.encrypt.ensures unit.ensures.index in
    let old = map state c.args.backing.now.devices.items in
    let wrote = step-written step config c.args.part.lower unit.result.first (unit_first p.units p.first) now c.encrypt.new.units (encrypted_units p.units p.key.now (p.first / per_unit p.units) bytes) unit.ensures.first inv.rest enc c.in-Ok.ensures.writes in
    let so_far = subst (λ (k : ℕ). WritesSectors (source_destination config (Units p)) 0 (sectors_in (take k bytes)) old (map state c.loop-at.backing.devices.items) (Ok tt)) step.place inv.so_far in
    let all = units-more config p bytes n c.requires.fits.holds long (at / size) step.fits so_far wrote in
    record {
      even = ap (λ (k : ℕ). k % size) step.end_is ∙ step.even;
      within = omega (arith, c.min-end.ensures, c.encrypt.auto.units);
      rest = drop-put_mid at (c.min-end.result - at) now c.write_lower-in-loop-at.new.buffer c.min-end.result (omega (arith, step.end_is)) (omega (arith, c.loop-at-test.true, c.loop-at.auto.units))
          (c.write_lower-in-loop-at.auto.buffer ∙ step-width step now now_long ∙ (omega (arith, step.end_is)))
          ∙ ap (λ (k : ℕ). drop k now) step.end_is ∙ rest-later now c.encrypt.new.units at size inv.rest ∙ ap (λ (k : ℕ). drop k c.encrypt.new.units) (sym step.end_is);
      so_far = subst (λ (k : ℕ). WritesSectors (source_destination config (Units p)) 0 (sectors_in (take k bytes)) old (map state c.write_lower-in-loop-at.new.backing.devices.items) (Ok tt)) (sym (step.end_is ∙ step.next)) all;
      handed = step-handed p.lower (step-piece (per_unit p.units) unit.result.first (unit_first p.units p.first) at c.min-end.result c.encrypt.new.units now (omega (arith, step.place)) (omega (arith, step.fits, step.place, long, c.encrypt.auto.units)) (omega (arith, step.end_is, step.is)) unit.ensures.first inv.rest)
          inv.handed c.in-Ok.ensures.handed;
      step = unit-write-step step c.requires.stack.sound.loaded c.requires.fits.holds now now_long unit.ensures.first inv.step c.in-Ok.ensures.step c.in-Ok.ensures.writes.unread;
    }

pub write_units-returns-in-Err-clause-writes : goal.write_units-returns-in-Err-clause-writes
write_units-returns-in-Err-clause-writes g t c =
    let state = g.D.BlockDev.state in
    let config = c.args.config.now in
    let p = c.args.part in
    let bytes = c.args.units.now in
    let n : ℕ = length bytes / 512 in
    let unit = c.unit_at-unit in
    let size : ℕ = c.sectors-sectors.result * 512 in
    let at = c.loop-at.at in
    let long : length bytes ≡ 512 * n = omega (arith, c.requires.fits.sectors.whole) in
    let step = step-at p.units (length bytes) n at size c.min-end.result (omega (arith, c.sectors-sectors.ensures.value)) long
    c.requires.fits.holds.whole c.loop-at.invariant.even (omega (arith, c.loop-at-test.true, c.encrypt.auto.units)) (omega (arith, c.min-end.ensures, c.encrypt.auto.units)) in
    let lower = c.args.part.lower in
    let now = c.loop-at.units in
    let enc = encrypted-is p.units p.key.now unit.result.index (p.first / per_unit p.units) bytes c.encrypt.new.units c.encrypt.ensures unit.ensures.index in
    let old = map state c.args.backing.now.devices.items in
    let wrote = step-written step config lower unit.result.first (unit_first p.units p.first) now c.encrypt.new.units (encrypted_units p.units p.key.now (p.first / per_unit p.units) bytes) unit.ensures.first c.loop-at.invariant.rest enc c.in-Err.ensures.writes in
    let so_far = subst (λ (k : ℕ). WritesSectors (source_destination config (Units p)) 0 (sectors_in (take k bytes)) old (map state c.loop-at.backing.devices.items) (Ok tt)) step.place c.loop-at.invariant.so_far in
    units-ended config p bytes n c.requires.fits.holds long (at / size) step.fits so_far c.in-Err.fault wrote

pub write_units-overflow_add-first : goal.write_units-overflow_add-first
write_units-overflow_add-first g t c =
    let small = size-small c.args.config.now c.args.part.lower c.requires.stack.sound.loaded in
    omega (arith, c.requires.fits.holds.inside, small, c.unit_at-unit.ensures.first, c.encrypt.auto.units, c.loop-at-test.true)

pub write_units-returns-clause-writes : goal.write_units-returns-clause-writes
write_units-returns-clause-writes g t c =
    let state = g.D.BlockDev.state in
    let bytes = c.args.units.now in
    let whole : take c.loop-at.at bytes ≡ bytes = take_all c.loop-at.at bytes (omega (arith, c.loop-at-test.false, c.encrypt.auto.units)) in
    subst (λ (b : List ℕ). WritesSectors (source_destination c.args.config.now (Units c.args.part)) 0 (sectors_in b) (map state c.args.backing.now.devices.items) (map state c.loop-at.backing.devices.items) (Ok tt)) whole c.loop-at.invariant.so_far

pub write_units-returns-then-lower_cuts-clause-step : goal.write_units-returns-then-lower_cuts-clause-step
write_units-returns-then-lower_cuts-clause-step g t c =
    let config = c.args.config.now in
    let state = g.D.BlockDev.state in
    let n : ℕ = length c.args.units.now / 512 in
    let unit = c.unit_at-unit in
    let wrote = c.write_lower.ensures in
    record {
      uncut = λ cuts. wrote.writes.unread (units-plain-below config c.args.part n unit.result.first cuts 0 (length (sectors_in c.encrypt.new.units)) (omega (arith, unit.ensures.first)) (omega (arith, length-sectors_in c.encrypt.new.units, c.encrypt.auto.units)));
      paid = λ k. once-paid config k c.args.part n c.requires.stack.sound.loaded c.requires.fits.holds unit.result.first (length c.encrypt.new.units / 512) (map state c.args.backing.now.devices.items) (map state c.write_lower.new.backing.devices.items) unit.ensures.first (omega (arith, c.encrypt.auto.units))
          (omega (arith, c.requires.fits.sectors.some, c.requires.fits.sectors.whole)) (wrote.step.paid k);
      cached = wrote.step.cached;
      uncounted = wrote.step.uncounted;
      forgets = wrote.step.forgets;
      drops = wrote.step.drops;
    }

pub write_units-returns-in-Err-clause-step : goal.write_units-returns-in-Err-clause-step
write_units-returns-in-Err-clause-step g t c =
    let bytes = c.args.units.now in
    let n : ℕ = length bytes / 512 in
    let p = c.args.part in
    let inv = c.loop-at.invariant in
    let long : length bytes ≡ 512 * n = omega (arith, c.requires.fits.sectors.whole) in
    let step = step-at p.units (length bytes) n c.loop-at.at (c.sectors-sectors.result * 512) c.min-end.result (omega (arith, c.sectors-sectors.ensures.value)) long
    c.requires.fits.holds.whole inv.even (omega (arith, c.loop-at-test.true, c.encrypt.auto.units)) (omega (arith, c.min-end.ensures, c.encrypt.auto.units)) in
    unit-write-err step c.requires.stack.sound.loaded c.requires.fits.holds c.loop-at.units (omega (arith, long, c.loop-at.auto.units, c.encrypt.auto.units)) c.unit_at-unit.ensures.first inv.step c.in-Err.ensures.step c.in-Err.ensures.writes.unread

pub write_units-returns-clause-step : goal.write_units-returns-clause-step
write_units-returns-clause-step g t c =
    let config = c.args.config.now in
    let all : c.loop-at.at / 512 ≡ length c.args.units.now / 512 = omega (arith, c.loop-at-test.false, c.loop-at.invariant.within, c.encrypt.auto.units) in
    subst (λ (j : ℕ). IsWriteStep config (write_to config (Units c.args.part) j) (backing_of g.D.BlockDev.state c.args.backing.now) (backing_of g.D.BlockDev.state c.loop-at.backing)) all c.loop-at.invariant.step

-- ---- part of a unit

pub write_unit_part-read_units-requires : goal.write_unit_part-read_units-requires
write_unit_part-read_units-requires g t c =
    let config = c.args.config.now in
    let n : ℕ = length c.args.bytes.now / 512 in
    let whole = c.whole_unit-whole in
    let units = whole-units config c.args.part whole.result n whole.ensures.whole c.requires.fits.holds (omega (arith, c.requires.fits.sectors.some, c.requires.fits.sectors.whole)) in
    let size = room_length c.as_mut_slice-all.result.now whole.result.sectors (ap (λ (l : List ℕ). length l) c.as_mut_slice-all.ensures.value) whole.ensures.few in
    let count = room_sectors c.as_mut_slice-all.result.now whole.result.sectors (ap (λ (l : List ℕ). length l) c.as_mut_slice-all.ensures.value) whole.ensures.few in
    record {
      stack = c.requires.stack;
      kept = search rules;
      fits = record {
        sectors = record { some = omega (arith, size, whole.ensures.some); whole = omega (arith, size) };
        holds = subst (AreUnits config whole.result.from) (sym count) units;
      };
      can_go = tt;
    }

pub write_unit_part-returns-in-Err-clause-writes : goal.write_unit_part-returns-in-Err-clause-writes
write_unit_part-returns-in-Err-clause-writes g t c =
    let config = c.args.config.now in
    let state = g.D.BlockDev.state in
    let p = c.args.part in
    let bytes = c.args.bytes.now in
    let n : ℕ = length bytes / 512 in
    let whole = c.whole_unit-whole in
    let count = room_sectors c.as_mut_slice-all.result.now whole.result.sectors (ap (λ (l : List ℕ). length l) c.as_mut_slice-all.ensures.value) whole.ensures.few in
    let old = map state c.args.backing.now.devices.items in
    let new = map state c.read_units.new.backing.devices.items in
    let did : LeafRead = record { old = old; new = new; before = c.new-own.result.items; after = c.read_units.new.found.items } in
    part-ended config p whole.result bytes n c.requires.stack.sound.loaded whole.ensures.whole c.requires.fits.holds (omega (arith, c.requires.fits.sectors.some, c.requires.fits.sectors.whole)) (omega (arith, c.requires.fits.sectors.whole)) c.requires.allowed c.in-Err.fault
    (all-whole state g.met.D.BlockDev.whole c.args.backing.now.devices.items)
    (subst (λ (k : ℕ). ReadsSource config (Units whole.result.from) k did (Err c.in-Err.fault)) count (kept-reads c.in-Err.ensures.reads))
    (subst (λ (k : ℕ). IsPlain (source_said config (Units whole.result.from)) 0 k old new (Err c.in-Err.fault)) count c.in-Err.ensures.step.plain)
    (unit-ends config c.args.part whole.result bytes n c.requires.stack.sound.loaded whole.ensures.whole c.requires.fits.holds (omega (arith, c.requires.fits.sectors.some, c.requires.fits.sectors.whole)) (omega (arith, c.requires.fits.sectors.whole)) c.requires.allowed count c.in-Err.ensures.step.touches.ends)

pub write_unit_part-put_sectors-requires : goal.write_unit_part-put_sectors-requires
write_unit_part-put_sectors-requires g t c =
    let whole = c.whole_unit-whole in
    let of = whole.ensures.whole in
    let room : length c.as_mut_slice-all.result.now ≡ 4096 = ap (λ (l : List ℕ). length l) c.as_mut_slice-all.ensures.value in
    omega (arith, c.requires.fits.holds.within, of.within, of.sectors, c.requires.fits.sectors.whole, room, whole.ensures.few, c.read_units.auto.out, length-take (whole.result.sectors * 512) c.as_mut_slice-all.result.now)

pub write_unit_part-write_units-requires : goal.write_unit_part-write_units-requires
write_unit_part-write_units-requires g t c κs within =
    let config = c.args.config.now in
    let p = c.args.part in
    let n : ℕ = length c.args.bytes.now / 512 in
    let whole = c.whole_unit-whole in
    let of = whole.ensures.whole in
    let units = whole-units config p whole.result n of c.requires.fits.holds (omega (arith, c.requires.fits.sectors.some, c.requires.fits.sectors.whole)) in
    let same : depth config whole.result.from.lower ≡ depth config p.lower = ap (λ (x : CryptPart). depth config x.lower) of.from in
    let room : length c.as_mut_slice-all.result.now ≡ 4096 = ap (λ (l : List ℕ). length l) c.as_mut_slice-all.ensures.value in
    let size : length c.put_sectors.new.unit ≡ whole.result.sectors * 512 = omega (arith, room, whole.ensures.few, c.read_units.auto.out, c.put_sectors.auto.unit, length-take (whole.result.sectors * 512) c.as_mut_slice-all.result.now) in
    let count : length c.put_sectors.new.unit / 512 ≡ whole.result.sectors = omega (arith, size) in (
      omega (arith, same),
      (
        within,
        record {
          stack = stack-later config c.in-Ok.ensures.reads.reads.got.moved.moved.fixed c.requires.stack c.in-Ok.ensures.step.cached;
          allowed = subst (λ (x : CryptPart). IsTrue (may_write config x.lower)) (sym of.from) c.requires.allowed;
          fits = record {
            sectors = record { some = omega (arith, size, whole.ensures.some); whole = omega (arith, size) };
            holds = subst (AreUnits config whole.result.from) (sym count) units;
          };
        },
      ),
    )

pub write_unit_part-returns-clause-writes : goal.write_unit_part-returns-clause-writes
write_unit_part-returns-clause-writes g t c =
    let config = c.args.config.now in
    let state = g.D.BlockDev.state in
    let bytes = c.args.bytes.now in
    let n : ℕ = length bytes / 512 in
    let whole = c.whole_unit-whole in
    let of = whole.ensures.whole in
    let count = room_sectors c.as_mut_slice-all.result.now whole.result.sectors (ap (λ (l : List ℕ). length l) c.as_mut_slice-all.ensures.value) whole.ensures.few in
    let old = map state c.args.backing.now.devices.items in
    let mid = map state c.read_units.new.backing.devices.items in
    let did : LeafRead = record { old = old; new = mid; before = c.new-own.result.items; after = c.read_units.new.found.items } in
    let plain = c.read_units.new.out in
    part-written config c.args.part whole.result bytes n c.requires.stack.sound.loaded of c.requires.fits.holds (omega (arith, c.requires.fits.sectors.some, c.requires.fits.sectors.whole)) (omega (arith, c.requires.fits.sectors.whole)) c.requires.allowed
    (all-whole state g.met.D.BlockDev.whole c.args.backing.now.devices.items)
    (subst (λ (k : ℕ). ReadsSource config (Units whole.result.from) k did (Ok plain)) count (kept-reads c.in-Ok.ensures.reads))
    (subst (λ (k : ℕ). IsPlain (source_said config (Units whole.result.from)) 0 k old mid (Ok tt)) count c.in-Ok.ensures.step.plain)
    (unit-ends config c.args.part whole.result bytes n c.requires.stack.sound.loaded whole.ensures.whole c.requires.fits.holds (omega (arith, c.requires.fits.sectors.some, c.requires.fits.sectors.whole)) (omega (arith, c.requires.fits.sectors.whole)) c.requires.allowed count c.in-Ok.ensures.step.touches.ends)
    (c.put_sectors.ensures ∙ ap (λ (k : ℕ). take (512 * k) plain ++ bytes ++ drop (512 * k + length bytes) plain) of.within)
    c.write_units.ensures.writes

pub write_unit_part-returns-in-Err-clause-step : goal.write_unit_part-returns-in-Err-clause-step
write_unit_part-returns-in-Err-clause-step g t c =
    let whole = c.whole_unit-whole in
    let count = room_sectors c.as_mut_slice-all.result.now whole.result.sectors (ap (λ (l : List ℕ). length l) c.as_mut_slice-all.ensures.value) whole.ensures.few in
    part-read-step c.args.config.now c.args.part whole.result c.args.bytes.now c.requires.stack.sound.loaded whole.ensures.whole c.requires.fits c.requires.allowed count c.in-Err.ensures.reads.reads.got.moved c.in-Err.ensures.step

pub write_unit_part-returns-clause-step : goal.write_unit_part-returns-clause-step
write_unit_part-returns-clause-step g t c =
    let whole = c.whole_unit-whole in
    let count = room_sectors c.as_mut_slice-all.result.now whole.result.sectors (ap (λ (l : List ℕ). length l) c.as_mut_slice-all.ensures.value) whole.ensures.few in
    let same : length c.put_sectors.new.unit / 512 ≡ whole.result.sectors = ap (λ (j : ℕ). j / 512) (c.put_sectors.auto.unit ∙ c.read_units.auto.out) ∙ count in
    part-write-step c.args.config.now c.args.part whole.result c.args.bytes.now c.requires.stack.sound.loaded whole.ensures.whole c.requires.fits c.requires.allowed count c.in-Ok.ensures.reads.reads.got.moved c.in-Ok.ensures.step same c.write_units.ensures.step

-- ---- which calls were made

pub write_lower-returns-in-Leaf-clause-handed : goal.write_lower-returns-in-Leaf-clause-handed
write_lower-returns-in-Leaf-clause-handed g t c =
    let config = c.args.config.now in
    let does = DeviceDoes g.D.BlockDev.state g.D.BlockDev.does in
    let old = c.args.backing.now.devices.items in
    let new = c.write_leaf.new.backing.devices.items in
    let one : Hands does config (Below (Leaf c.in-Leaf.leaf) c.args.first) c.held.result.now old new c.write_leaf.result = leaf-handed c.in-Leaf.leaf c.args.first c.held.result.now c.write_leaf.result c.write_leaf.ensures.err c.write_leaf.ensures.call in
    subst (λ (x : Lower). Hands does config (Below x c.args.first) (c.args.plain.now ++ c.args.buffer.now) old new c.write_leaf.result) (sym c.in-Leaf.is)
    (subst (λ (b : List ℕ). Hands does config (Below (Leaf c.in-Leaf.leaf) c.args.first) b old new c.write_leaf.result) c.held.ensures one)

pub write_lower-returns-in-Device-clause-handed : goal.write_lower-returns-in-Device-clause-handed
write_lower-returns-in-Device-clause-handed g t c = rw c.in-Device.is c.write_device.ensures.handed

pub write_run-returns-in-Below-clause-handed : goal.write_run-returns-in-Below-clause-handed
write_run-returns-in-Below-clause-handed g t c = rw c.in-Below.is c.write_lower.ensures.handed

pub write_run-returns-in-Units-clause-handed : goal.write_run-returns-in-Units-clause-handed
write_run-returns-in-Units-clause-handed g t c =
    let run = c.in-Units in
    let none = none-of_units c.args.config.now run.part c.args.source c.args.plain.now c.args.buffer.now c.requires.can.fits c.requires.bytes run.is in
    rw (run.is, none) c.write_units.ensures.handed

pub write_run-returns-in-UnitPart-clause-handed : goal.write_run-returns-in-UnitPart-clause-handed
write_run-returns-in-UnitPart-clause-handed g t c =
    let run = c.in-UnitPart in
    let none = none-of_part c.args.config.now run.part c.args.source c.args.plain.now c.args.buffer.now c.requires.can.fits c.requires.bytes run.is in
    rw (run.is, none) c.write_unit_part.ensures.handed

pub write_run-returns-in-Zeros-clause-handed : goal.write_run-returns-in-Zeros-clause-handed
write_run-returns-in-Zeros-clause-handed g t c = rw c.in-Zeros.is (makes-none (zeros_written (c.args.plain.now ++ c.args.buffer.now)))

pub write_run-returns-in-Fails-clause-handed : goal.write_run-returns-in-Fails-clause-handed
write_run-returns-in-Fails-clause-handed g t c = rw c.in-Fails.is (makes-none (fails_written (c.args.plain.now ++ c.args.buffer.now)))

pub write_units-returns-then-lower_cuts-clause-handed : goal.write_units-returns-then-lower_cuts-clause-handed
write_units-returns-then-lower_cuts-clause-handed g t c =
    let p = c.args.part in
    let unit = c.unit_at-unit in
    units-handed p unit.result.first c.args.units.now c.encrypt.new.units unit.ensures.first (encrypted-is p.units p.key.now unit.result.index (p.first / per_unit p.units) c.args.units.now c.encrypt.new.units c.encrypt.ensures unit.ensures.index) c.write_lower.ensures.handed

pub write_units-returns-in-Err-clause-handed : goal.write_units-returns-in-Err-clause-handed
write_units-returns-in-Err-clause-handed g t c =
    let p = c.args.part in
    let bytes = c.args.units.now in
    let unit = c.unit_at-unit in
    let inv = c.loop-at.invariant in
    let long : length bytes ≡ 512 * (length bytes / 512) = omega (arith, c.requires.fits.sectors.whole) in
    let step = step-at p.units (length bytes) (length bytes / 512) c.loop-at.at (c.sectors-sectors.result * 512) c.min-end.result (omega (arith, c.sectors-sectors.ensures.value)) long
    c.requires.fits.holds.whole inv.even (omega (arith, c.loop-at-test.true, c.encrypt.auto.units)) (omega (arith, c.min-end.ensures, c.encrypt.auto.units)) in
    let enc = encrypted-is p.units p.key.now unit.result.index (p.first / per_unit p.units) bytes c.encrypt.new.units c.encrypt.ensures unit.ensures.index in
    let next = step-piece (per_unit p.units) unit.result.first (unit_first p.units p.first) c.loop-at.at c.min-end.result c.encrypt.new.units c.loop-at.units (omega (arith, step.place)) (omega (arith, step.fits, step.place, long, c.encrypt.auto.units)) (omega (arith, step.end_is, step.is)) unit.ensures.first inv.rest in
    each-handed p unit.result.first (length c.encrypt.new.units / 512) bytes c.encrypt.new.units unit.ensures.first enc (ap (λ (k : ℕ). k / 512) c.encrypt.auto.units) (c.lower_cuts.ensures.units c.if-lower_cuts.false)
    (step-unhanded p.lower next inv.handed c.in-Err.ensures.handed)

pub write_units-returns-clause-handed : goal.write_units-returns-clause-handed
write_units-returns-clause-handed g t c =
    let p = c.args.part in
    let unit = c.unit_at-unit in
    let enc = encrypted-is p.units p.key.now unit.result.index (p.first / per_unit p.units) c.args.units.now c.encrypt.new.units c.encrypt.ensures unit.ensures.index in
    each-handed p unit.result.first (length c.encrypt.new.units / 512) c.args.units.now c.encrypt.new.units unit.ensures.first enc (ap (λ (k : ℕ). k / 512) c.encrypt.auto.units) (c.lower_cuts.ensures.units c.if-lower_cuts.false)
    (steps-handed (per_unit p.units) p.lower (unit_first p.units p.first) c.loop-at.at c.encrypt.new.units (omega (arith, c.loop-at-test.false)) c.loop-at.invariant.handed)

pub write_unit_part-returns-in-Err-clause-handed : goal.write_unit_part-returns-in-Err-clause-handed
write_unit_part-returns-in-Err-clause-handed g t c =
    let bytes = c.args.bytes.now in
    let n : ℕ = length bytes / 512 in
    let whole = c.whole_unit-whole in
    let count = room_sectors c.as_mut_slice-all.result.now whole.result.sectors (ap (λ (l : List ℕ). length l) c.as_mut_slice-all.ensures.value) whole.ensures.few in
    part-lost c.args.part whole.result _ bytes c.in-Err.fault whole.ensures.whole count c.in-Err.ensures.given

pub write_unit_part-returns-clause-handed : goal.write_unit_part-returns-clause-handed
write_unit_part-returns-clause-handed g t c =
    let bytes = c.args.bytes.now in
    let n : ℕ = length bytes / 512 in
    let whole = c.whole_unit-whole in
    let count = room_sectors c.as_mut_slice-all.result.now whole.result.sectors (ap (λ (l : List ℕ). length l) c.as_mut_slice-all.ensures.value) whole.ensures.few in
    part-handed c.args.part whole.result _ bytes c.read_units.new.out c.put_sectors.new.unit whole.ensures.whole count c.put_sectors.ensures c.in-Ok.ensures.given c.write_units.ensures.handed

pub write_device-returns-in-Err-clause-handed : goal.write_device-returns-in-Err-clause-handed
write_device-returns-in-Err-clause-handed g t c =
    let config = c.args.config.now in
    let plain = c.args.plain.now in
    let buffer = c.args.buffer.now in
    let bytes = plain ++ buffer in
    let d = c.args.d.0 in
    let first = c.args.first in
    let at = c.loop-at.at in
    let next = c.run_at-run in
    let inv = c.loop-at.invariant in
    let count = next.result.count in
    let run = subst (λ (b : List ℕ). IsNextRun config d first at (length bytes / 512) b count next.result.source) c.held-len.ensures
    (next-run first at (length bytes / 512) c.held-len.result.now inv.whole c.loop-at-test.true (ap (λ (l : List ℕ). length l / 512) c.held-len.ensures) next.ensures.served next.ensures.some next.ensures.most next.ensures.longest) in
    let cut : IsCut plain buffer c.loop-at.buffer c.between-part.result.now at (at + count * 512) c.min-from.result c.min-to.result =
    record { part_is = c.between-part.ensures; from_is = c.min-from.ensures; to_is = c.min-to.ensures; same_len = c.loop-at.auto.buffer; same_rest = inv.rest; order = omega arith } in
    let same = cut-bytes cut (one-none (said_at config (mapped d)) first plain buffer c.requires.bytes) in
    let rest : ℕ = (length c.held-len.result.now - at) / 512 in
    run-unhanded (run-piece d first at rest bytes _ next.result inv.whole run.fits (ap (λ (l : List ℕ). (length l - at) / 512) c.held-len.ensures) next.ensures same) inv.handed c.in-Err.ensures.handed

pub write_device-returns-clause-handed : goal.write_device-returns-clause-handed
write_device-returns-clause-handed g t c =
    all-handed c.args.d.0 c.args.first c.loop-at.at (c.args.plain.now ++ c.args.buffer.now) (omega (arith, c.loop-at-test.false, ap (λ (l : List ℕ). length l) c.held-len.ensures)) c.loop-at.invariant.handed
