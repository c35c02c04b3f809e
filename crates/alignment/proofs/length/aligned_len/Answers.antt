use Rattle.std.proofs.Common.{◌≡◌, ℕ, ◌<◌, ◌≤◌, Bool, refl, sym, ap, ◌∙◌, arith}
use Rattle.stack_rules.specs.Names.{mapped}
use Rattle.stack_meaning.proofs.lemmas.LoadedLemmas.{size-small}
use Rattle.alignment.specs.Ends.{ends_units}
use Rattle.alignment.specs.Lengths.{last_end}
use Rattle.alignment.proofs.LastLemmas.{last-before, last-here, last-none, len-all, len-last, len-most}
use Rattle.alignment.proofs.length.aligned_len.Goals as goal

pub returns-then-rest-most : goal.returns-then-rest-most
returns-then-rest-most c =
    let few : c.args.rest ≤ c.args.most = omega (arith, c.if-rest-most.true) in
    record {
      value = sym (len-all c.args.config.now c.args.d.0 c.args.first c.args.rest c.args.most few);
      some = omega (arith, c.requires.left);
      inside = omega arith;
      few = few;
    }

pub sectors-init : goal.sectors-init
sectors-init c = record { same = refl; within = omega arith }

pub overflow_add-first : goal.overflow_add-first
overflow_add-first c =
    let small = size-small c.args.config.now (mapped c.args.d.0) c.count-loaded.ensures.loaded in
    omega (arith, small, c.requires.inside, c.sectors.invariant.within, c.if-rest-most.false, c.sectors-test.true)

pub ends_units-requires : goal.ends_units-requires
ends_units-requires c = omega (arith, c.sectors.invariant.within, c.sectors-test.true, c.if-rest-most.false, c.requires.inside)

pub returns-then-ends_units : goal.returns-then-ends_units
returns-then-ends_units c =
    let ends : ℕ → Bool = ends_units c.args.config.now (mapped c.args.d.0) in
    let n : ℕ = c.sectors.count in
    let many : c.args.most < c.args.rest = omega (arith, c.if-rest-most.false) in
    let some : 0 < n = omega (arith, c.sectors-test.true) in
    let last : last_end (ends_units c.args.config.now (mapped c.args.d.0)) c.args.first c.args.most ≡ n = c.sectors.invariant.same ∙ last-here ends c.args.first n some (sym c.ends_units.ensures ∙ c.if-ends_units.true) in
    record {
      value = sym (len-last c.args.config.now c.args.d.0 c.args.first c.args.rest c.args.most many n last some);
      some = some;
      inside = omega (arith, c.sectors.invariant.within, many);
      few = c.sectors.invariant.within;
    }

pub sectors-preserved : goal.sectors-preserved
sectors-preserved c =
    let ends : ℕ → Bool = ends_units c.args.config.now (mapped c.args.d.0) in
    let n : ℕ = c.sectors.count in
    let some : 0 < n = omega (arith, c.sectors-test.true) in
    record {
      same = c.sectors.invariant.same ∙ last-before ends c.args.first n some (sym c.ends_units.ensures ∙ c.if-ends_units.false);
      within = omega (arith, c.sectors.invariant.within);
    }

pub returns : goal.returns
returns c =
    let ends : ℕ → Bool = ends_units c.args.config.now (mapped c.args.d.0) in
    let many : c.args.most < c.args.rest = omega (arith, c.if-rest-most.false) in
    let none : c.sectors.count ≡ 0 = omega (arith, c.sectors-test.false) in
    let last : last_end (ends_units c.args.config.now (mapped c.args.d.0)) c.args.first c.args.most ≡ 0 = c.sectors.invariant.same ∙ ap (last_end ends c.args.first) none ∙ last-none ends c.args.first in
    record {
      value = sym (len-most c.args.config.now c.args.d.0 c.args.first c.args.rest c.args.most many last);
      some = omega (arith, c.requires.some);
      inside = omega (arith, many);
      few = omega arith;
    }
