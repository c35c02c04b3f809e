use Rattle.std.proofs.Common.{◌≡◌, ℕ, ◌+◌, ◌-◌, ◌*◌, ◌/◌, ◌%◌, ◌<◌, ◌≤◌, ◌^◌, min, refl, ap, subst, ◌∙◌, arith}
use Rattle.std.proofs.lemmas.Nat.{mod_below}
use Rattle.dm_table.specs.declared.unstriped.Unstriped.{Unstriped}
use Rattle.dm_table.specs.declared.table.Target.TheVariants.{Unstriped as unstriped_target}
use Rattle.dm_table.specs.Grammar.{IsUnstripedOfGrammar}
use Rattle.stack_rules.specs.Records.{Configuration}
use Rattle.stack_rules.specs.Rules.{IsLoaded}
use Rattle.stack_lines.specs.Sources.{LieOn}
use Rattle.stack_lines.specs.Runs.{HasLineSectors}
use Rattle.stack_lines.proofs.StripeLemmas.{part-more, part-longest}
use Rattle.stack_lines.proofs.UnstripedLemmas.{unstriped-small, unstriped-lies, chunk-low}
use Rattle.stack_lines.proofs.unstriped.unstriped_run.Goals as goal

-- the number of the chunk, and its first sector on the striped device, are numbers that fit
small : (c : Configuration) (d l : ℕ) (line : Unstriped) (w n chunk stripes stripe : ℕ) → IsLoaded c → IsUnstripedOfGrammar line → HasLineSectors c d l (unstriped_target line) w n
    → chunk ≡ line.chunk → stripes ≡ line.stripes → stripe ≡ line.stripe
    → (line.base.offset + (w / chunk * stripes + stripe) * chunk + chunk ≤ 2 ^ 54) × (w / chunk * stripes + stripe ≤ (w / chunk * stripes + stripe) * chunk)
small c d l line w n chunk stripes stripe loaded g t e f h =
    rw (e, f, h) (unstriped-small c d l line w n loaded g t.has t.some, chunk-low (w / line.chunk * line.stripes + line.stripe) line.chunk g.chunk_some)

place : (offset w c n k chunk stripes stripe : ℕ) → chunk ≡ c → stripes ≡ n → stripe ≡ k → offset + (w / c * n + k) * c + w % c ≡ offset + (w / chunk * stripes + stripe) * chunk + w % chunk
place offset w c n k chunk stripes stripe e f h = rw (e, f, h) refl

pub overflow_mul-number : goal.overflow_mul-number
overflow_mul-number c =
    let fits = small c.args.config.now c.args.d.0 c.args.line c.args.unstriped.now c.args.within c.args.count c.from-chunk.result c.from-stripes.result c.from-stripe.result c.requires.loaded c.requires.grammar c.requires.line c.from-chunk.ensures c.from-stripes.ensures c.from-stripe.ensures in
    omega (arith, fits.0, fits.1)

pub overflow_add-number : goal.overflow_add-number
overflow_add-number c =
    let fits = small c.args.config.now c.args.d.0 c.args.line c.args.unstriped.now c.args.within c.args.count c.from-chunk.result c.from-stripes.result c.from-stripe.result c.requires.loaded c.requires.grammar c.requires.line c.from-chunk.ensures c.from-stripes.ensures c.from-stripe.ensures in
    omega (arith, fits.0, fits.1)

pub overflow_mul-first : goal.overflow_mul-first
overflow_mul-first c =
    let fits = small c.args.config.now c.args.d.0 c.args.line c.args.unstriped.now c.args.within c.args.count c.from-chunk.result c.from-stripes.result c.from-stripe.result c.requires.loaded c.requires.grammar c.requires.line c.from-chunk.ensures c.from-stripes.ensures c.from-stripe.ensures in
    omega (arith, fits.0)

pub overflow_add-first : goal.overflow_add-first
overflow_add-first c =
    let fits = small c.args.config.now c.args.d.0 c.args.line c.args.unstriped.now c.args.within c.args.count c.from-chunk.result c.from-stripes.result c.from-stripe.result c.requires.loaded c.requires.grammar c.requires.line c.from-chunk.ensures c.from-stripes.ensures c.from-stripe.ensures in
    omega (arith, fits.0)

pub overflow_add-first-2 : goal.overflow_add-first-2
overflow_add-first-2 c =
    let fits = small c.args.config.now c.args.d.0 c.args.line c.args.unstriped.now c.args.within c.args.count c.from-chunk.result c.from-stripes.result c.from-stripe.result c.requires.loaded c.requires.grammar c.requires.line c.from-chunk.ensures c.from-stripes.ensures c.from-stripe.ensures in
    let some : 0 < c.from-chunk.result = omega (arith, c.from-chunk.ensures, c.requires.grammar.chunk_some) in
    omega (arith, fits.0, mod_below c.args.within c.from-chunk.result some)

pub returns : goal.returns
returns c =
    let line = c.args.unstriped.now in
    let k : ℕ = line.chunk in
    let w : ℕ = c.args.within in
    let same : c.from-chunk.result ≡ k = c.from-chunk.ensures in
    let is : c.min-count.result ≡ min c.args.count (k - w % k) = c.min-count.ensures ∙ ap (λ (x : ℕ). min c.args.count (x - w % x)) same in
    let part : w % k < k = mod_below w k c.requires.grammar.chunk_some in
    record {
      come = (
        tt,
        subst (λ (first : ℕ). LieOn c.args.config.now (unstriped_target line) w c.min-count.result c.lower-lower.result first)
            (place line.base.offset w k line.stripes line.stripe c.from-chunk.result c.from-stripes.result c.from-stripe.result c.from-chunk.ensures c.from-stripes.ensures c.from-stripe.ensures)
            (unstriped-lies c.args.config.now c.args.d.0 c.args.line line w c.args.count c.requires.loaded c.requires.grammar c.requires.line.has c.min-count.result
            (omega (arith, is, part, c.requires.line.some)) (omega (arith, is)) (omega (arith, is, part)) c.lower-lower.result c.lower-lower.ensures),
        λ j h. part-more k w j (omega (arith, h, is, part)),
      );
      some = omega (arith, is, c.requires.line.some, part);
      most = omega (arith, is);
      longest = part-longest k w c.args.count c.min-count.result c.requires.grammar.chunk_some c.requires.line.some is;
      units = tt;
    }
