use Rattle.std.proofs.Common.{◌≡◌, ℕ, ◌+◌, ◌-◌, ◌*◌, ◌/◌, ◌%◌, ◌<◌, ◌≤◌, ◌^◌, List, length, get_or, Some, min, refl, arith}
use Rattle.std.specs.Prelude.{slice_get}
use Rattle.std.proofs.lemmas.Option.{slice_get_read}
use Rattle.std.proofs.lemmas.Nat.{mod_below}
use Rattle.dm_table.specs.declared.table.Base.{Base}
use Rattle.dm_table.specs.declared.table.Target.TheVariants.{Striped}
use Rattle.dm_table.specs.Grammar.{IsStripedOfGrammar}
use Rattle.stack_rules.specs.Records.{Configuration}
use Rattle.stack_rules.specs.Rules.{IsLoaded}
use Rattle.stack_lines.specs.Sources.{HasTarget}
use Rattle.stack_meaning.proofs.lemmas.LoadedLemmas.{device-there}
use Rattle.stack_lines.proofs.StripeLemmas.{part-more, part-longest, striped-small, striped-lies}
use Rattle.stack_lines.proofs.serve.striped_run.Goals as goal

base_at : (bases : List Base) (k : ℕ) (base : Base) → 1 ≤ length bases → base ≡ get_or bases (k % length bases) base → slice_get bases (k % length bases) ≡ Some base
base_at bases k base some is = slice_get_read bases (length bases) (k % length bases) base refl (mod_below k (length bases) (omega (arith, some))) is

-- the sector on the lower device, and those of one chunk after it, are numbers that fit
small : (c : Configuration) (d l chunk : ℕ) (bases : List Base) (w n : ℕ) (base : Base) → IsLoaded c → IsStripedOfGrammar chunk bases → HasTarget c d l (Striped chunk bases) (w + n) → 0 < n
    → base ≡ get_or bases (w / chunk % length bases) base → base.offset + w / chunk / length bases * chunk + w % chunk + min n (chunk - w % chunk) ≤ 2 ^ 54
small c d l chunk bases w n base loaded g t some is =
    let part : w % chunk < chunk = mod_below w chunk (omega (arith, g.chunk_some)) in
    striped-small c d l chunk bases w n loaded g t base (base_at bases (w / chunk) base g.some is) (min n (chunk - w % chunk)) (omega (arith, some, part)) (omega arith) (omega (arith, part))

pub overflow_add-first : goal.overflow_add-first
overflow_add-first c =
    let all = small c.args.config.now c.args.at.0.0 c.args.at.1 c.args.chunk c.args.bases.now c.args.within c.args.count c.index-bases-stripe.result c.requires.loaded c.requires.grammar c.requires.line.has c.requires.line.some c.index-bases-stripe.is in
    omega (arith, all)

pub overflow_add-first-2 : goal.overflow_add-first-2
overflow_add-first-2 c =
    let all = small c.args.config.now c.args.at.0.0 c.args.at.1 c.args.chunk c.args.bases.now c.args.within c.args.count c.index-bases-stripe.result c.requires.loaded c.requires.grammar c.requires.line.has c.requires.line.some c.index-bases-stripe.is in
    omega (arith, all)

pub lower-lower-requires-clause-device : goal.lower-lower-requires-clause-device
lower-lower-requires-clause-device c =
    let line = c.requires.line.has in device-there c.args.config.now c.args.at.0.0 c.args.at.1 line.line line.is

pub returns : goal.returns
returns c = record {
  come =
      let part : c.args.within % c.args.chunk < c.args.chunk = mod_below c.args.within c.args.chunk (omega (arith, c.requires.grammar.chunk_some)) in
      let count = c.min-count.ensures in (
        tt,
        striped-lies c.args.config.now c.args.at.0.0 c.args.at.1 c.args.chunk c.args.bases.now c.args.within c.args.count c.requires.loaded c.requires.grammar c.requires.line.has c.index-bases-stripe.result
            (base_at c.args.bases.now (c.args.within / c.args.chunk) c.index-bases-stripe.result c.requires.grammar.some c.index-bases-stripe.is)
            c.min-count.result (omega (arith, count, part, c.requires.line.some)) (omega (arith, count)) (omega (arith, count, part)) c.lower-lower.result c.lower-lower.ensures,
        λ j h. part-more c.args.chunk c.args.within j (omega (arith, h, count, part)),
      );
  some = omega (arith, c.min-count.ensures, c.requires.line.some, mod_below c.args.within c.args.chunk (omega (arith, c.requires.grammar.chunk_some)));
  most = omega (arith, c.min-count.ensures);
  longest = part-longest c.args.chunk c.args.within c.args.count c.min-count.result (omega (arith, c.requires.grammar.chunk_some)) c.requires.line.some c.min-count.ensures;
  units = tt;
}
