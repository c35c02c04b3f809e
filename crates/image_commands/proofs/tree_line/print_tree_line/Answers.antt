use Rattle.std.proofs.Common.{◌≡◌, ◌∙◌, ℕ, List, Bool, None, ap, subst}
use Rattle.std.proofs.lemmas.Result.{IfErr-weaker, on_ok_weaker}
use Rattle.std.specs.Io.KnownBytes.{Appends}
use Rattle.allocation.specs.Refusal.{IsOutOfMemory}
use Rattle.verity_format.specs.declared.formatting.FormatOptions.{FormatOptions}
use Rattle.verity_format.specs.Options.{superblock_with}
use Rattle.verity_format.specs.declared.tree.VerityTree.{VerityTree}
use Rattle.verity_format.specs.Trees.{tree_alone}
use Rattle.image_commands.specs.declared.fault.ImageFault.{ImageFault}
use Rattle.image_commands.specs.declared.fault.ImageFault.TheVariants.{Format, Unaligned}
use Rattle.image_commands.specs.Endings.{IsCommonEnd}
use Rattle.image_commands.specs.Places.{tree_start}
use Rattle.image_commands.specs.TableLines.{named_line, tree_line, words_room}
use Rattle.image_commands.specs.TreeImages.{IsTreeLineEnd}
use Rattle.image_commands.proofs.lemmas.EndingLemmas.{common-as}
use Rattle.image_commands.proofs.tree_line.print_tree_line.Goals as goal

common-end : (room first : ℕ) (options : FormatOptions) (failed : Bool) (fault : ImageFault) → IsCommonEnd (IsOutOfMemory room) failed fault → IsTreeLineEnd room first options failed fault
common-end room first options failed Unaligned h = absurd h
common-end room first options failed (Format fault) h = absurd h
common-end room first options failed fault h = h

pub returns-clause-err : goal.returns-clause-err
returns-clause-err g c =
    let s = superblock_with c.args.options 0 in
    let start = c.tree_start-start.result in
    let failed = c.say_line.new.writer.failed in
    let tree : c.tree_alone-tree.result ≡ tree_alone s = c.tree_alone-tree.ensures.value ∙ ap tree_alone c.in_ok-params.ensures.ok.0 in
    let room : words_room c.tree_alone-tree.result c.args.words start None ≡ words_room (tree_alone s) c.args.words (tree_start c.args.first c.args.options.hash_block 0) None =
    ap (λ (t : VerityTree). words_room t c.args.words start None) tree ∙ ap (λ (n : ℕ). words_room (tree_alone s) c.args.words n None) c.tree_start-start.ensures in
    IfErr-weaker c.say_line.result _ _
    (λ fault ends. common-end _ c.args.first c.args.options failed fault (common-as failed (subst IsOutOfMemory room) fault ends))
    c.say_line.ensures.err

pub returns-clause-ok : goal.returns-clause-ok
returns-clause-ok g c =
    let old = g.W.Write.contents c.args.writer.now.inner in
    let new = g.W.Write.contents c.say_line.new.writer.inner in
    let s = superblock_with c.args.options 0 in
    let tree : c.tree_alone-tree.result ≡ tree_alone s = c.tree_alone-tree.ensures.value ∙ ap tree_alone c.in_ok-params.ensures.ok.0 in
    let line : named_line c.args.name c.tree_alone-tree.result c.args.words c.tree_start-start.result None ≡ tree_line c.args.name s c.args.words c.args.first =
    ap (λ (t : VerityTree). named_line c.args.name t c.args.words c.tree_start-start.result None) tree
    ∙ ap (λ (n : ℕ). named_line c.args.name (tree_alone s) c.args.words n None) c.tree_start-start.ensures in
    on_ok_weaker c.say_line.result
    (λ printed. record {
      aligned = cc (c.if-not-is_aligned.ensures);
      shape = c.in_ok-params.ensures.ok.1;
      printed = subst (λ (text : List ℕ). Appends old new text) line printed;
    })
    c.say_line.ensures.ok
