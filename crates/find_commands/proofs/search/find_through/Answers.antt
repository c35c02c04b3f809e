use Rattle.std.proofs.Common.{◌≡◌, ◌-◌, ◌*◌, ℕ, true, false, None, arith, sym, ap, subst, subst₂, ◌∙◌, length, take, length-take-le}
use Rattle.block_device.specs.Call.{DeviceDoes, Read}
use Rattle.find_commands.specs.Searches.{IsSearch, search_sides}
use Rattle.find_commands.proofs.EndingLemmas.{err-from}
use Rattle.find_commands.proofs.SearchLemmas.{search-failed, search-none, search-read, search-stops, search-stops-last, search-whole}
use Rattle.find_commands.proofs.search.find_through.Goals as goal

pub pieces-init : goal.pieces-init
pieces-init g c =
    let p = c.new-position.ensures in
    let start = search_sides c.args.device.now c.args.list.now in
    record {
      so_far = subst₂ (λ (a l : ℕ). IsSearch (DeviceDoes g.D.BlockDev.state g.D.BlockDev.does) g.L.FindingList.receives start start a l None) (sym p.at) (sym p.lost)
          (search-none (DeviceDoes g.D.BlockDev.state g.D.BlockDev.does) g.L.FindingList.receives start);
      all = c.sectors-sectors.ensures.size;
      same = sym c.sectors-sectors.ensures.size;
      within = omega (arith, p.at);
      few = c.sectors-sectors.ensures.small;
      lost_few = omega (arith, p.at, p.lost);
      some = omega (arith, p.most);
      most = omega (arith, p.most);
    }

pub read-requires : goal.read-requires
read-requires g c =
    let u = c.pieces.invariant in
    let n : ℕ = c.piece-count.result in
    let wide : length (take (n * 512) c.pieces.room) ≡ n * 512 = length-take-le (n * 512) c.pieces.room (omega (arith, c.requires, c.pieces.auto.room, c.piece-count.ensures.few, u.most)) in
    record {
      some = omega (arith, wide, c.piece-count.ensures.some);
      whole = omega (arith, wide);
      inside = omega (arith, wide, c.piece-count.ensures.inside, u.same);
    }

pub tell_sectors-requires : goal.tell_sectors-requires
tell_sectors-requires g c =
    let u = c.pieces.invariant in
    let n : ℕ = c.piece-count.result in
    let wide : length (take (n * 512) c.pieces.room) ≡ n * 512 = length-take-le (n * 512) c.pieces.room (omega (arith, c.requires, c.pieces.auto.room, c.piece-count.ensures.few, u.most)) in
    omega (arith, wide, c.read.auto.out, c.piece-count.ensures.inside, u.few)

pub returns-in_err-header-in-Ok-clause-err : goal.returns-in_err-header-in-Ok-clause-err
returns-in_err-header-in-Ok-clause-err g c =
    let u = c.pieces.invariant in
    let Does = DeviceDoes g.D.BlockDev.state g.D.BlockDev.does in
    err-from c.from_residual.result _ _ c.from_residual.ensures.1
    (search-stops Does g.L.FindingList.receives g.L.FindingList.refuses (search_sides c.args.device.now c.args.list.now) (search_sides c.pieces.device c.pieces.list) c.pieces.position.at c.pieces.position.lost c.pieces.header u.so_far (Read c.pieces.position.at c.read.new.out true) c.read.new.self
    c.tell_sectors.new.list c.in_err-header-in-Ok.field-0.0 c.in-Ok.ensures.call c.in_err-header-in-Ok.ensures.err)

pub returns-in_err-header-in-Err-clause-err : goal.returns-in_err-header-in-Err-clause-err
returns-in_err-header-in-Err-clause-err g c =
    let u = c.pieces.invariant in
    let Does = DeviceDoes g.D.BlockDev.state g.D.BlockDev.does in
    err-from c.from_residual-in_err-header-in-Err.result _ _ c.from_residual-in_err-header-in-Err.ensures.1
    (search-stops Does g.L.FindingList.receives g.L.FindingList.refuses (search_sides c.args.device.now c.args.list.now) (search_sides c.pieces.device c.pieces.list) c.pieces.position.at c.pieces.position.lost c.pieces.header u.so_far (Read c.pieces.position.at c.read.new.out false) c.read.new.self
    c.tell_lost.new.list c.in_err-header-in-Err.field-0.0 c.in-Err.ensures.call c.in_err-header-in-Err.ensures.err)

pub returns-in_err-interrupt-clause-err : goal.returns-in_err-interrupt-clause-err
returns-in_err-interrupt-clause-err g c =
    let u = c.pieces.invariant in
    let Does = DeviceDoes g.D.BlockDev.state g.D.BlockDev.does in
    err-from c.from_residual-in_err-interrupt.result _ _ c.from_residual-in_err-interrupt.ensures.1
    (search-stops-last Does g.L.FindingList.receives g.L.FindingList.refuses (search_sides c.args.device.now c.args.list.now) (search_sides c.pieces.device c.pieces.list) c.pieces.position.at c.pieces.position.lost c.pieces.header u.so_far
    c.interrupt.new.list c.in_err-interrupt.field-0.0 c.in_err-interrupt.ensures.err)

pub pieces-preserved-in-Ok : goal.pieces-preserved-in-Ok
pieces-preserved-in-Ok g c =
    let u = c.pieces.invariant in
    let Does = DeviceDoes g.D.BlockDev.state g.D.BlockDev.does in
    let n : ℕ = c.piece-count.result in
    let after = c.after_read-position.ensures in
    let wide : length (take (n * 512) c.pieces.room) ≡ n * 512 = length-take-le (n * 512) c.pieces.room (omega (arith, c.requires, c.pieces.auto.room, c.piece-count.ensures.few, u.most)) in
    let bytes : length c.read.new.out ≡ n * 512 = omega (arith, wide, c.read.auto.out) in
    record {
      so_far = subst₂ (λ (a l : ℕ). IsSearch Does g.L.FindingList.receives (search_sides c.args.device.now c.args.list.now) (search_sides c.read.new.self c.tell_sectors.new.list) a l c.in_ok-header-in-Ok.header) (sym after.moved.0) (sym after.moved.1)
          (search-read Does g.L.FindingList.receives (search_sides c.args.device.now c.args.list.now) (search_sides c.pieces.device c.pieces.list) c.pieces.position.at c.pieces.position.lost c.pieces.header u.so_far n c.read.new.out c.read.new.self
          c.tell_sectors.new.list c.in_ok-header-in-Ok.header bytes c.in-Ok.ensures.call c.in_ok-header-in-Ok.ensures.ok);
      all = u.all;
      same = c.in-Ok.ensures.moved.same.size ∙ u.same;
      within = omega (arith, after.moved.0, c.piece-count.ensures.inside);
      few = u.few;
      lost_few = omega (arith, after.moved.0, after.moved.1, u.lost_few);
      some = after.most.0;
      most = after.most.1;
    }

pub pieces-preserved : goal.pieces-preserved
pieces-preserved g c =
    let u = c.pieces.invariant in
    let Does = DeviceDoes g.D.BlockDev.state g.D.BlockDev.does in
    let n : ℕ = c.piece-count.result in
    let after = c.after_failure-position.ensures in
    let wide : length (take (n * 512) c.pieces.room) ≡ n * 512 = length-take-le (n * 512) c.pieces.room (omega (arith, c.requires, c.pieces.auto.room, c.piece-count.ensures.few, u.most)) in
    let bytes : length c.read.new.out ≡ n * 512 = omega (arith, wide, c.read.auto.out) in
    record {
      so_far = subst₂ (λ (a l : ℕ). IsSearch Does g.L.FindingList.receives (search_sides c.args.device.now c.args.list.now) (search_sides c.read.new.self c.tell_lost.new.list) a l c.in_ok-header-in-Err.header) (sym after.moved.0) (sym after.moved.1)
          (search-failed Does g.L.FindingList.receives (search_sides c.args.device.now c.args.list.now) (search_sides c.pieces.device c.pieces.list) c.pieces.position.at c.pieces.position.lost c.pieces.header u.so_far n c.read.new.out c.read.new.self c.tell_lost.new.list c.in_ok-header-in-Err.header bytes c.in-Err.ensures.call c.in_ok-header-in-Err.ensures.ok);
      all = u.all;
      same = c.in-Err.ensures.moved.same.size ∙ u.same;
      within = omega (arith, after.moved.2, c.piece-count.ensures.inside);
      few = u.few;
      lost_few = omega (arith, after.moved.0, after.moved.1, u.lost_few);
      some = after.most.0;
      most = after.most.1;
    }

pub returns-clause-ok : goal.returns-clause-ok
returns-clause-ok g c =
    let u = c.pieces.invariant in
    let Does = DeviceDoes g.D.BlockDev.state g.D.BlockDev.does in
    let start = search_sides c.args.device.now c.args.list.now in
    let end : c.pieces.position.at ≡ (g.D.BlockDev.state c.args.device.now).size = omega (arith, u.within, u.all, c.pieces-test.false) in
    let now = search_sides c.pieces.device c.pieces.list in
    let lost : ℕ = c.pieces.position.lost in
    search-whole Does g.L.FindingList.receives start now (g.D.BlockDev.state c.args.device.now).size lost c.pieces.header c.interrupt.new.list _
    (subst (λ (a : ℕ). IsSearch Does g.L.FindingList.receives start now a lost c.pieces.header) end u.so_far) c.in_ok-interrupt.ensures.ok
    (ap (λ (m : ℕ). record { read = m - lost; lost = lost; untried = 0 }) u.all)
