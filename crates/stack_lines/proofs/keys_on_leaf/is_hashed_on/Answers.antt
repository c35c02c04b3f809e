use Rattle.std.proofs.Common.{◌≡◌, ℕ, ◌<◌, true, false, List, length, get_or, refl, sym, ap, ◌∙◌, arith}
use Rattle.std.proofs.lemmas.Option.{slice_get_read}
use Rattle.dm_table.specs.declared.table.Line.{Line}
use Rattle.stack_rules.specs.Lines.{IsLine}
use Rattle.stack_rules.specs.Names.{lines_of}
use Rattle.stack_rules.specs.Records.{Configuration}
use Rattle.stack_lines.specs.Standing.{is_verity}
use Rattle.stack_lines.proofs.lemmas.StandingLemmas.{knows-at, lower-inside, lower-stands, stands-not, verity-names}
use Rattle.stack_lines.proofs.keys_on_leaf.is_hashed_on.Goals as goal

-- the line that was looked at
line_is : (config : Configuration) (d l : ℕ) (lines : List Line) (x : Line) → l < length (lines_of config d) → lines ≡ lines_of config d → x ≡ get_or lines l x → IsLine config d l x
line_is config d l lines x inside same is = slice_get_read (lines_of config d) (length (lines_of config d)) l x refl inside (is ∙ ap (λ (ls : List Line). get_or ls l x) same)

pub returns-then-not-is_verity : goal.returns-then-not-is_verity
returns-then-not-is_verity c =
    let config = c.args.config.now in
    let x = c.index-lines-line.result in
    let at = line_is config c.args.d.0 c.args.line c.lines-lines.result.now x c.requires.line (c.lines-lines.ensures.value ∙ c.table.ensures) c.index-lines-line.is in
    let other : is_verity x.target ≡ false = ap (λ (l : Line). is_verity l.target) c.index-lines-line.is ∙ sym c.is_verity.ensures ∙ c.if-not-is_verity.true in
    sym (stands-not config c.args.leaf c.args.d.0 c.args.line x at other)

pub lower-hash-requires-clause-name : goal.lower-hash-requires-clause-name
lower-hash-requires-clause-name c =
    let config = c.args.config.now in
    let x = c.index-lines-line.result in
    let at = line_is config c.args.d.0 c.args.line c.lines-lines.result.now x c.requires.line (c.lines-lines.ensures.value ∙ c.table.ensures) c.index-lines-line.is in
    let verity : is_verity x.target ≡ true = ap (λ (l : Line). is_verity l.target) c.index-lines-line.is ∙ sym c.is_verity.ensures ∙ c.if-not-is_verity.false in
    let two = verity-names config c.args.d.0 c.args.line x at verity in
    omega (arith, two)

pub lower_leaves-requires : goal.lower_leaves-requires
lower_leaves-requires c = lower-inside c.args.config.now c.requires.loaded c.args.d.0 c.args.line 1 c.lower-hash.result c.lower-hash.ensures

pub returns : goal.returns
returns c =
    let config = c.args.config.now in
    let x = c.index-lines-line.result in
    let at = line_is config c.args.d.0 c.args.line c.lines-lines.result.now x c.requires.line (c.lines-lines.ensures.value ∙ c.table.ensures) c.index-lines-line.is in
    let verity : is_verity x.target ≡ true = ap (λ (l : Line). is_verity l.target) c.index-lines-line.is ∙ sym c.is_verity.ensures ∙ c.if-not-is_verity.false in
    let known = knows-at config c.requires.loaded c.args.beneath.now c.requires.sets c.args.d.0 c.args.line 1 c.lower-hash.result c.lower-hash.ensures in
    c.contains.ensures ∙ (c.lower_leaves.ensures config c.requires.loaded known).leaves c.args.leaf
    ∙ sym (lower-stands config c.args.leaf c.args.d.0 c.args.line x c.lower-hash.result c.requires.loaded at verity c.lower-hash.ensures)
