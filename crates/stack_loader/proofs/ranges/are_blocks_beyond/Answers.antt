use Rattle.std.proofs.Common.{◌≡◌, ℕ, List, [], ◌∷◌, Option, false, nat_lt, map, subst, sym, ap, ◌∙◌, refl, arith}
use Rattle.dm_table.specs.declared.parity.Parity.{Parity}
use Rattle.dm_table.specs.declared.table.Base.{Base}
use Rattle.stack_rules.specs.declared.lower.Lower.TheVariants.{Leaf as leaf}
use Rattle.stack_rules.specs.Records.{Configuration, configuration}
use Rattle.stack_rules.specs.Passing.{Mean}
use Rattle.stack_rules.specs.Rules.{ends_past}
use Rattle.stack_rules.specs.Trees.{line_data_sectors, covered_sectors, parity_sectors}
use Rattle.stack_rules.specs.targets.Verity.{parity_bases}
use Rattle.stack_loader.proofs.LineRuleLemmas.{ends-name, beyond-parity, lt-false}
use Rattle.stack_loader.proofs.ranges.are_blocks_beyond.Goals as goal

pub returns-else-size_of-covered_sectors : goal.returns-else-size_of-covered_sectors
returns-else-size_of-covered_sectors c =
    let c' : Configuration = configuration c.args.leaves.now c.args.devices.now in
    let v = c.args.verity.now in
    let p = c.in-Some.parity in
    let lowers = c.args.lowers.now in
    let ns : List (List ℕ) = v.data ∷ v.hash ∷ p.device ∷ [] in
    let means : Mean c' lowers ns = subst (λ (o : Option Parity). Mean c' lowers (v.data ∷ v.hash ∷ map (λ (base : Base). base.device) (parity_bases o))) c.in-Some.is c.requires.lowers in
    let last = c.size_of-else-size_of-covered_sectors.result in
    let on_data : ends_past c' v.data (line_data_sectors v) ≡ false =
    ends-name c' lowers ns 0 v.data (leaf 0) c.size_of.result (line_data_sectors v) means (omega arith) refl c.size_of.ensures
    ∙ lt-false c.size_of.result (line_data_sectors v) (omega (arith, c.if-size_of-data_sectors.false, c.data_sectors.ensures)) in
    let on_hash : ends_past c' v.hash (covered_sectors v p) ≡ false =
    ends-name c' lowers ns 1 v.hash (leaf 0) c.size_of-in-Some.result (covered_sectors v p) means (omega arith) refl c.size_of-in-Some.ensures
    ∙ lt-false c.size_of-in-Some.result (covered_sectors v p) (omega (arith, c.if-size_of-covered_sectors.false, c.covered_sectors.ensures)) in
    let on_parity = ends-name c' lowers ns 2 p.device (leaf 0) last (parity_sectors v p) means (omega arith) refl c.size_of-else-size_of-covered_sectors.ensures in
    λ len. ap (nat_lt last) c.parity_sectors.ensures ∙ sym (beyond-parity c' len v p (nat_lt last (parity_sectors v p)) c.in-Some.is on_data on_hash on_parity)
