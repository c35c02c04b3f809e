use Rattle.std.proofs.Common.{◌≡◌, ◌≢◌, ◌≤◌, ◌<◌, ◌+◌, ◌-◌, ◌^◌, ℕ, min, List, ◌++◌, replicate, Option, None, Some, refl, sym, ap, ◌∙◌, arith, subst}
use Rattle.std.proofs.lemmas.Bool.{false≢true}
use Rattle.std.proofs.lemmas.Slice.Eq.{bytes_eq-Decides}
use Rattle.block_device.specs.Device.{Device}
use Rattle.tree_shape.specs.Shape.{ShapeRecord, per_block}
use Rattle.tree_path.specs.Path.{digest_on}
use Rattle.tree_path.specs.Spans.{IsTopAt}
use Rattle.runs.specs.declared.kind.Kind.TheVariants.{Changed}
use Rattle.runs.specs.Kinds.{count_of}
use Rattle.runs.proofs.lemmas.ListingLemmas.{listed-had, listed-none, listed-run}
use Rattle.runs.proofs.lemmas.KindLemmas.{count_of-append, count_of-had, count_of-some}
use Rattle.tree_difference.specs.declared.walk.Walk.{Walk}
use Rattle.tree_difference.specs.Comparisons.{DifferenceWorld, difference_world}
use Rattle.tree_difference.proofs.EndLemmas.{span-some, blocks-few, changed-few, underway-all, walk-comparison}
use Rattle.tree_difference.proofs.ReportLemmas.{below-way, reported-runs, way-then}
use Rattle.tree_difference.proofs.UnderwayLemmas.{IsNext, count-some, have-block, next-of, progress, seen-changed, seen-same, stored-changed, stored-same, top-of, underway-next, underway-none, width}
use Rattle.tree_difference.proofs.WalkLemmas.{cause-then, on-read}
use Rattle.tree_difference.proofs.difference.compare.Goals as goal
use Rattle.tree_difference.proofs.difference.compare.Goals.{then-stop+in_ok-close, else-stop+in_ok-add}

pub spans-init : goal.spans-init
spans-init g c =
    let w0 : Walk = c.args.walk.now in
    let d0 : Device = g.D.BlockDev.state c.args.first.now in
    let e0 : Device = g.E.BlockDev.state c.args.second.now in
    let old : Option (List ℕ) = g.L.Listing.told c.args.listing.now in
    record {
      so_far = underway-none w0 d0 e0 c.args.most old c.new-tally.result c.requires (listed-none c.args.most old c.new-tally.result c.new-tally.ensures);
      kept = refl;
    }

pub descend-requires : goal.descend-requires
descend-requires g c =
    let w0 : Walk = c.args.walk.now in
    let d0 : Device = g.D.BlockDev.state c.args.first.now in
    let e0 : Device = g.E.BlockDev.state c.args.second.now in
    let old : Option (List ℕ) = g.L.Listing.told c.args.listing.now in
    let w : Walk = c.spans.walk in
    let d : Device = g.D.BlockDev.state c.spans.first in
    let e : Device = g.E.BlockDev.state c.spans.second in
    let u = c.spans.invariant.so_far in
    let at : ℕ = c.spans.at in
    let top : ℕ = c.top_at-top.result in
    let is : IsTopAt (width w0) w0.levels at top = subst (λ (s : ShapeRecord). IsTopAt (per_block s) w0.levels at top) c.requires.have.of.shape c.top_at-top.ensures in
    record {
      have = have-block w0 w d0 e0 d e at c.requires.have u.trees c.spans-test.true u.first_read.read.same.size u.second_read.read.same.size;
      on = on-read w d0 e0 d e at top u.first_read.read u.second_read.read (u.next c.spans-test.true top c.top_at-top.ensures.few (top-of (width w0) w0.levels at top is));
      few = omega (arith, c.top_at-top.ensures.few, u.trees.levels);
    }

pub returns-in-Err-clause-err : goal.returns-in-Err-clause-err
returns-in-Err-clause-err g c =
    let w0 : Walk = c.args.walk.now in
    let d0 : Device = g.D.BlockDev.state c.args.first.now in
    let e0 : Device = g.E.BlockDev.state c.args.second.now in
    let w : Walk = c.spans.walk in
    let d : Device = g.D.BlockDev.state c.spans.first in
    let e : Device = g.E.BlockDev.state c.spans.second in
    let u = c.spans.invariant.so_far in
    let d' : Device = g.D.BlockDev.state c.descend.new.first in
    let e' : Device = g.E.BlockDev.state c.descend.new.second in
    walk-comparison w0 d0 e0 d' e' (g.L.Listing.failed c.close.new.listing) c.in-Err.fault
    (cause-then w0 w d0 e0 d e d' e' c.in-Err.fault u.trees u.first_read.read u.second_read.read u.first_read.failures u.second_read.failures c.in-Err.ensures.err)

pub returns-in-Err-clause-before : goal.returns-in-Err-clause-before
returns-in-Err-clause-before g c =
    let w0 : Walk = c.args.walk.now in
    let d0 : Device = g.D.BlockDev.state c.args.first.now in
    let e0 : Device = g.E.BlockDev.state c.args.second.now in
    let w : Walk = c.spans.walk in
    let d : Device = g.D.BlockDev.state c.spans.first in
    let e : Device = g.E.BlockDev.state c.spans.second in
    let u = c.spans.invariant.so_far in
    let at : ℕ = c.spans.at in
    let top : ℕ = c.top_at-top.result in
    let is : IsTopAt (width w0) w0.levels at top = subst (λ (s : ShapeRecord). IsTopAt (per_block s) w0.levels at top) c.requires.have.of.shape c.top_at-top.ensures in
    let way = way-then w0 w at top top c.in-Err.fault u.trees (omega arith) c.in-Err.ensures.way in
    reported-runs w0 w d0 e0 d e c.requires.have (g.D.BlockDev.state c.descend.new.first) (g.E.BlockDev.state c.descend.new.second)
    (g.L.Listing.told c.args.listing.now) (g.L.Listing.told c.spans.listing) (g.L.Listing.told c.close.new.listing) c.args.most (progress c.spans.tally c.spans.changed at) u c.in-Err.fault
    (below-way w0 d0 e0 c.requires.have at top is c.in-Err.fault way) c.in_ok-close-in-Err.ensures.text.ok

pub overflow_add-changed : goal.overflow_add-changed
overflow_add-changed g c =
    let w0 : Walk = c.args.walk.now in
    let d0 : Device = g.D.BlockDev.state c.args.first.now in
    let e0 : Device = g.E.BlockDev.state c.args.second.now in
    let old : Option (List ℕ) = g.L.Listing.told c.args.listing.now in
    let w : Walk = c.spans.walk in
    let d : Device = g.D.BlockDev.state c.spans.first in
    let e : Device = g.E.BlockDev.state c.spans.second in
    let u = c.spans.invariant.so_far in
    let at : ℕ = c.spans.at in
    let few = changed-few w0 w d0 e0 c.requires.have _ _ _ u in
    omega (arith, few, c.span-count.ensures, blocks-few w0 d0 e0 c.requires.have, c.spans-test.true)

pub spans-smaller : goal.spans-smaller
spans-smaller g c =
    let w0 : Walk = c.args.walk.now in
    let d0 : Device = g.D.BlockDev.state c.args.first.now in
    let e0 : Device = g.E.BlockDev.state c.args.second.now in
    let old : Option (List ℕ) = g.L.Listing.told c.args.listing.now in
    let some : 1 ≤ c.span-count.result = span-some w0 d0 e0 c.in-Ok.stop.level c.span-count.result (w0.blocks - c.spans.at) c.requires.have c.span-count.ensures (omega (arith, c.spans-test.true)) in
    let less : w0.blocks - (c.spans.at + c.span-count.result) < w0.blocks - c.spans.at = omega (arith, some, c.spans-test.true) in
    less

pub spans-preserved : goal.spans-preserved
spans-preserved g c =
    let w0 : Walk = c.args.walk.now in
    let d0 : Device = g.D.BlockDev.state c.args.first.now in
    let e0 : Device = g.E.BlockDev.state c.args.second.now in
    let old : Option (List ℕ) = g.L.Listing.told c.args.listing.now in
    let w : Walk = c.spans.walk in
    let d : Device = g.D.BlockDev.state c.spans.first in
    let e : Device = g.E.BlockDev.state c.spans.second in
    let u = c.spans.invariant.so_far in
    let at : ℕ = c.spans.at in
    let top : ℕ = c.top_at-top.result in
    let is : IsTopAt (width w0) w0.levels at top = subst (λ (s : ShapeRecord). IsTopAt (per_block s) w0.levels at top) c.requires.have.of.shape c.top_at-top.ensures in
    let w' : Walk = c.descend.new.self in
    let d' : Device = g.D.BlockDev.state c.descend.new.first in
    let e' : Device = g.E.BlockDev.state c.descend.new.second in
    let now : Option (List ℕ) = g.L.Listing.told c.spans.listing in
    let level : ℕ = c.in-Ok.stop.level in
    let count : ℕ = c.span-count.result in
    let have = c.requires.have in
    let h = c.in-Ok.ensures.ok in
    let span : count ≡ min (width w0 ^ level) (w0.blocks - at) = c.span-count.ensures ∙ ap (λ (s : ShapeRecord). min (per_block s ^ level) (w0.blocks - at)) have.of.shape in
    let i : DifferenceWorld = difference_world d0 e0 d e old now in
    elim c.if-stop.branch [
      | then-stop+in_ok-close v ↦
          let new : Option (List ℕ) = g.L.Listing.told v.close-then-stop.new.listing in
          let i' : DifferenceWorld = difference_world d0 e0 d' e' old new in
          let n : IsNext w0 w w' i i' at top level count = next-of w0 w w' d0 e0 d e d' e' old now new at top level count c.in-Ok.stop.same u.trees c.spans-test.true is u.first_read.read u.second_read.read h span in
          let same : digest_on w'.first at level ≡ digest_on w'.second at level = (bytes_eq-Decides _ _).0 (sym h.test ∙ v.if-stop.true) in
          let counted : c.spans.changed ≡ count_of Changed (u.compared ++ replicate count None) = omega (arith, u.counted, count_of-append Changed u.compared (replicate count None), count_of-had Changed count) in
          rw (v.listing-is, v.tally-is, v.changed-is) (record {
            so_far = underway-next w0 w w' d0 e0 have i i' c.args.most (progress c.spans.tally c.spans.changed at) (progress v.close-then-stop.new.self c.spans.changed (at + count)) top level count None u n
                (seen-same w0 w w' d0 e0 have i i' at top level count n same) (stored-same w0 w w' d0 e0 have i i' at top level count n same)
                (listed-had c.args.most u.compared c.spans.tally v.close-then-stop.new.self old now new count (count-some w0 w w' d0 e0 have i i' at top level count n) u.listed v.in_ok-close.ensures.text.ok v.in_ok-close.ensures.last v.in_ok-close.ensures.limit)
                counted refl;
            kept = v.in_ok-close.ensures.text.kept ∙ c.spans.invariant.kept;
          })
      | else-stop+in_ok-add v ↦
          let new : Option (List ℕ) = g.L.Listing.told v.add.new.listing in
          let i' : DifferenceWorld = difference_world d0 e0 d' e' old new in
          let n : IsNext w0 w w' i i' at top level count = next-of w0 w w' d0 e0 d e d' e' old now new at top level count c.in-Ok.stop.same u.trees c.spans-test.true is u.first_read.read u.second_read.read h span in
          let low : level ≡ 0 = h.last v.if-stop.false in
          let differ : digest_on w'.first at level ≢ digest_on w'.second at level = λ same. false≢true (sym v.if-stop.false ∙ h.test ∙ (bytes_eq-Decides _ _).1 same) in
          let counted : c.spans.changed + count ≡ count_of Changed (u.compared ++ replicate count (Some Changed)) = omega (arith, u.counted, count_of-append Changed u.compared (replicate count (Some Changed)), count_of-some count Changed) in
          rw (v.listing-is, v.tally-is, v.changed-is) (record {
            so_far = underway-next w0 w w' d0 e0 have i i' c.args.most (progress c.spans.tally c.spans.changed at) (progress v.add.new.self (c.spans.changed + count) (at + count)) top level count (Some Changed) u n
                (seen-changed w0 w w' d0 e0 have i i' at top level count n low differ) (stored-changed w0 w w' d0 e0 have i i' at top level count n low differ)
                (listed-run c.args.most u.compared c.spans.tally v.add.new.self old now new at count Changed u.here (count-some w0 w w' d0 e0 have i i' at top level count n) u.listed v.in_ok-add.ensures.text.ok v.in_ok-add.ensures.last v.in_ok-add.ensures.limit)
                counted refl;
            kept = v.in_ok-add.ensures.text.kept ∙ c.spans.invariant.kept;
          })
    ]

pub totals_after-requires-clause-few : goal.totals_after-requires-clause-few
totals_after-requires-clause-few g c =
    let w0 : Walk = c.args.walk.now in
    let d0 : Device = g.D.BlockDev.state c.args.first.now in
    let e0 : Device = g.E.BlockDev.state c.args.second.now in
    let old : Option (List ℕ) = g.L.Listing.told c.args.listing.now in
    let w : Walk = c.spans.walk in
    let d : Device = g.D.BlockDev.state c.spans.first in
    let e : Device = g.E.BlockDev.state c.spans.second in
    let u = c.spans.invariant.so_far in
    let at : ℕ = c.spans.at in
    let few = changed-few w0 w d0 e0 c.requires.have _ _ _ u in
    omega (arith, few, u.within, u.trees.blocks)

pub returns-clause-ok : goal.returns-clause-ok
returns-clause-ok g c =
    let w0 : Walk = c.args.walk.now in
    let d0 : Device = g.D.BlockDev.state c.args.first.now in
    let e0 : Device = g.E.BlockDev.state c.args.second.now in
    let old : Option (List ℕ) = g.L.Listing.told c.args.listing.now in
    let w : Walk = c.spans.walk in
    let d : Device = g.D.BlockDev.state c.spans.first in
    let e : Device = g.E.BlockDev.state c.spans.second in
    let u = c.spans.invariant.so_far in
    let at : ℕ = c.spans.at in
    underway-all w0 w d0 e0 c.requires.have (difference_world d0 e0 d e old (g.L.Listing.told c.spans.listing)) c.args.most (progress c.spans.tally c.spans.changed at) u (omega (arith, u.within, c.spans-test.false)) c.totals_after.result c.totals_after.ensures
    (g.L.Listing.told c.finish.new.listing) c.in_ok-finish.ensures.ok
