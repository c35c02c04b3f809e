use Rattle.std.proofs.Common.{◌≡◌, ◌+◌, ◌-◌, ◌*◌, ◌/◌, ◌%◌, ◌<◌, ℕ, refl, ap, ◌∙◌, inr, arith}
use Rattle.std.proofs.lemmas.Nat.{div-add-mod', mod-mul-add, mod_below}
use Rattle.stack_rules.specs.Trees.{block_sectors}
use Rattle.stack_lines.proofs.StripeLemmas.{part-ends}
use Rattle.stack_lines.proofs.lemmas.VerityLineLemmas.{data-whole, line-inside}
use Rattle.stack_meaning.proofs.lemmas.UnitLemmas.{unit-more}
use Rattle.stack_lines.proofs.serve.blocks_run.Goals as goal

-- as many sectors as whole blocks have
whole-count : (u count : ℕ) → 0 < u → (count - count % u) % u ≡ 0
whole-count u count some =
    let all : count - count % u ≡ count / u * u + 0 = omega (arith, div-add-mod' count u) in
    ap (λ (k : ℕ). k % u) all ∙ mod-mul-add (count / u) u 0 some

pub returns : goal.returns
returns c =
    let x = c.args.part in
    let u : ℕ = block_sectors x.verity.now in
    let some : 0 < u = (data-whole c.args.config.now x.device.0 x.line x.verity.now c.requires.loaded c.requires.part.is).some in
    let few : c.from-sectors.result ≡ u = c.from-sectors.ensures in
    let n : ℕ = c.args.count - c.args.count % c.from-sectors.result in
    let whole : n % u ≡ 0 = ap (λ (k : ℕ). (c.args.count - c.args.count % k) % u) few ∙ whole-count u c.args.count some in
    let low = mod_below c.args.count c.from-sectors.result (omega (arith, few, some)) in
    record {
      come = (refl, c.requires.place, refl, record { of = c.requires.part; aligned = c.requires.aligned; whole = whole; inside = omega (arith, line-inside c.args.config.now c.args.at.0.0 c.args.at.1 x.verity.now (x.first + c.args.count) c.requires.loaded c.requires.line) });
      some = omega (arith, few, c.requires.enough, low);
      most = omega (arith);
      longest = inr (part-ends u (x.first + n) some (omega (arith, few, c.requires.enough, low)) ((unit-more u x.first n some c.requires.aligned).1 ∙ whole));
      units = tt;
    }
