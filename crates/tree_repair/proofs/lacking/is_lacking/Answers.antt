use Rattle.std.proofs.Common.{inl, inr, refl, ◌∙◌}
use Rattle.block_device.specs.Call.{DeviceDoes}
use Rattle.tree_repair.specs.Jobs.{job}
use Rattle.tree_repair.proofs.FetchLemmas.{lacking-before, lacking-here}
use Rattle.tree_repair.proofs.RepairCallLemmas.{both-more, both-nothing, hash-both}
use Rattle.tree_repair.proofs.RunLemmas.{can-read, world-none, world-then}
use Rattle.tree_repair.proofs.lacking.is_lacking.Goals as goal

pub returns-then-not-is_place-clause-read : goal.returns-then-not-is_place-clause-read
returns-then-not-is_place-clause-read g c = world-none c.args.image.now.world

pub returns-then-not-is_place-clause-called : goal.returns-then-not-is_place-clause-called
returns-then-not-is_place-clause-called g c =
    let asks = DeviceDoes g.D.BlockDev.state g.D.BlockDev.does in
    let does = DeviceDoes g.H.BlockDev.state g.H.BlockDev.does in
    both-nothing asks does c.args.image.now

pub reach-requires-clause-place : goal.reach-requires-clause-place
reach-requires-clause-place g c = c.is_place.ensures.some c.if-not-is_place.false

pub returns-then-not-reach-clause-called : goal.returns-then-not-reach-clause-called
returns-then-not-reach-clause-called g c =
    let asks = DeviceDoes g.D.BlockDev.state g.D.BlockDev.does in
    let does = DeviceDoes g.H.BlockDev.state g.H.BlockDev.does in
    hash-both asks does c.args.image.now c.reach.new.image c.reach.ensures.called

pub isnt_on_data-requires-clause-can : goal.isnt_on_data-requires-clause-can
isnt_on_data-requires-clause-can g c = can-read c.reach.ensures.read c.requires.can

pub isnt_on_data-requires-clause-inside : goal.isnt_on_data-requires-clause-inside
isnt_on_data-requires-clause-inside g c = (c.is_place.ensures.some c.if-not-is_place.false).inside

pub isnt_on_data-requires-clause-way : goal.isnt_on_data-requires-clause-way
isnt_on_data-requires-clause-way g c = rw c.if-not-reach.false at c.reach.ensures.way

pub returns-clause-read : goal.returns-clause-read
returns-clause-read g c = world-then c.args.image.now.world c.reach.new.image.world c.isnt_on_data.new.image.world c.reach.ensures.read c.isnt_on_data.ensures.read

pub returns-clause-lacking : goal.returns-clause-lacking
returns-clause-lacking g c = λ yes.
    let j = job c.args.repair.now in
    lacking-before j c.args.index c.args.image.now.world c.reach.new.image.world c.isnt_on_data.new.image.world c.reach.ensures.read
    (lacking-here j c.reach.new.self.path c.args.index c.reach.new.image.world c.isnt_on_data.new.image.world (rw c.if-not-reach.false at c.reach.ensures.way) (c.isnt_on_data.ensures.bad yes))

pub returns-clause-called : goal.returns-clause-called
returns-clause-called g c =
    let asks = DeviceDoes g.D.BlockDev.state g.D.BlockDev.does in
    let does = DeviceDoes g.H.BlockDev.state g.H.BlockDev.does in
    both-more asks does c.args.image.now c.reach.new.image c.isnt_on_data.new.image (hash-both asks does c.args.image.now c.reach.new.image c.reach.ensures.called) c.isnt_on_data.ensures.called

pub returns-then-not-is_place-clause-other : goal.returns-then-not-is_place-clause-other
returns-then-not-is_place-clause-other g c = λ no.
    let w = c.args.image.now.world in
    record { a = w; b = w; before = world-none w; why = inl (c.is_place.ensures.none c.if-not-is_place.true) }

pub returns-then-not-reach-clause-other : goal.returns-then-not-reach-clause-other
returns-then-not-reach-clause-other g c = λ no.
    let w = c.args.image.now.world in
    record { a = w; b = c.reach.new.image.world; before = world-none w; why = inr (inl (rw c.if-not-reach.true at c.reach.ensures.way)) }

pub returns-clause-other : goal.returns-clause-other
returns-clause-other g c = λ no.
    let w = c.reach.new.image.world in
    let way = rw c.if-not-reach.false at c.reach.ensures.way in
    record { a = w; b = w; before = c.reach.ensures.read; why = inr (inr (c.reach.new.self.path, (way, (c.isnt_on_data.new.block, c.isnt_on_data.ensures.there no)))) }

pub returns-clause-kept : goal.returns-clause-kept
returns-clause-kept g c = c.isnt_on_data.ensures.kept ∙ c.reach.ensures.kept

pub returns-then-not-is_place-clause-kept : goal.returns-then-not-is_place-clause-kept
returns-then-not-is_place-clause-kept g c = refl

pub returns-then-not-reach-clause-kept : goal.returns-then-not-reach-clause-kept
returns-then-not-reach-clause-kept g c = c.reach.ensures.kept
