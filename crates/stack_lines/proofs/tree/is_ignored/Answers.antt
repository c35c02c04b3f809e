use Rattle.std.proofs.Common.{◌≡◌, ℕ, Bool, true, false, ◌&&◌, cond, List, Some, None, refl, sym, ap, ◌∙◌}
use Rattle.std.specs.Option.{option_and_then}
use Rattle.std.specs.Str.{bytes_eq}
use Rattle.tree_shape.specs.Digests.{digest}
use Rattle.dm_table.specs.declared.table.Line.{Line}
use Rattle.dm_table.specs.declared.verity.Verity.{Verity}
use Rattle.stack_rules.specs.Records.{Configuration}
use Rattle.stack_rules.specs.Lines.{zero_digest_of, zero_digest_at}
use Rattle.stack_rules.specs.Trees.{zero_block}
use Rattle.stack_lines.specs.Walks.{HasVerity}
use Rattle.stack_lines.proofs.tree.is_ignored.Goals as goal

-- what is kept of the line
kept : (c : Configuration) (d l : ℕ) (v : Verity) → HasVerity c d l v → zero_digest_at c d l ≡ cond v.ignore_zero_blocks (Some (digest v.salt (zero_block v))) None
kept c d l v has = ap (option_and_then (λ (line : Line). zero_digest_of line.target)) has.is ∙ ap zero_digest_of has.has

some-kept : (b : Bool) (zeros kept expected : List ℕ) → cond b (Some zeros) None ≡ Some kept → bytes_eq kept expected ≡ (b && bytes_eq zeros expected)
some-kept true zeros kept expected e = let same : zeros ≡ kept = cc in ap (λ (d : List ℕ). bytes_eq d expected) (sym same)
some-kept false zeros kept expected e = cc

none-kept : (b : Bool) (zeros expected : List ℕ) → cond b (Some zeros) None ≡ None → false ≡ (b && bytes_eq zeros expected)
none-kept true zeros expected e = cc
none-kept false zeros expected e = refl

pub returns-in-Some : goal.returns-in-Some
returns-in-Some c =
    let v = c.args.verity.now in
    let tree = c.args.tree.now in
    let is = sym (kept c.args.config.now tree.device.0 tree.line v c.requires.is) ∙ sym c.in-Some.ensures in
    c.eq.ensures ∙ some-kept v.ignore_zero_blocks (digest v.salt (zero_block v)) c.in-Some.zeros c.args.expected.now is

pub returns-in-None : goal.returns-in-None
returns-in-None c =
    let v = c.args.verity.now in
    let tree = c.args.tree.now in
    let is = sym (kept c.args.config.now tree.device.0 tree.line v c.requires.is) ∙ sym c.in-None.ensures in
    none-kept v.ignore_zero_blocks (digest v.salt (zero_block v)) c.args.expected.now is
