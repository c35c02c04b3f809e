use Rattle.std.proofs.Common.{◌≡◌, ◌∙◌, ℕ, None, ap, arith, inl, inr, refl, subst}
use Rattle.std.proofs.Math.Path.{subst₂}
use Rattle.std.proofs.lemmas.Result.{IfErr-weaker, on_ok_weaker}
use Rattle.std.specs.Io.KnownBytes.{Appends}
use Rattle.block_device.specs.Device.{Device}
use Rattle.device_adapters.specs.Parts.{part_behind}
use Rattle.device_adapters.specs.Windows.{windowed}
use Rattle.image_pin.specs.Finding.{IsNoTree, ReadsSuper}
use Rattle.image_commands.specs.Finding.{no_tree_fault}
use Rattle.image_commands.specs.Places.{tree_start}
use Rattle.allocation.specs.Refusal.{IsOutOfMemory}
use Rattle.verity_format.specs.declared.tree.VerityTree.{VerityTree}
use Rattle.image_commands.specs.PlacedImages.{RefusesLineOf}
use Rattle.image_commands.specs.TableLines.{named_line, words_room}
use Rattle.image_commands.proofs.lemmas.EndingLemmas.{common-as}
use Rattle.image_commands.proofs.OpeningLemmas.{err-from}
use Rattle.image_commands.proofs.PlacedLemmas.{first-small, windowed-same}
use Rattle.image_commands.proofs.placed.table_behind.Goals as goal

pub returns-in_err-superblock-clause-err : goal.returns-in_err-superblock-clause-err
returns-in_err-superblock-clause-err g c =
    let hash_dev = g.H.BlockDev.state c.args.placed.0 in
    let first = c.args.placed.1 in
    let new = c.find_tree.new.hash_dev in
    let after = windowed (g.H.BlockDev.state new.inner) new.part in
    let fault = c.in_err-superblock.field-0.0 in
    let b = windowed-same _ hash_dev _ (part_behind hash_dev first) (ap g.H.BlockDev.state c.behind-window.ensures.inner) c.behind-window.ensures.part in
    err-from c.from_residual.result _ (no_tree_fault fault) c.from_residual.ensures.1
    (inl (record {
      cause = fault;
      device' = after;
      left = (new.inner, (new.part, refl));
      none = subst (λ (v : Device). IsNoTree v first c.args.words.root.now.pin after fault) b c.in_err-superblock.ensures.err;
      is = refl;
    }))

-- there is a sector at the place, so that the device doesn't end before it
pub tree_start-start-requires : goal.tree_start-start-requires
tree_start-start-requires g c =
    let window = c.behind-window.result in
    let below = first-small (g.H.BlockDev.state c.args.placed.0) c.args.placed.1 window.part c.behind-window.ensures.part window.small c.in_ok-superblock.ensures.ok.read.some in
    omega (arith, below)

pub returns-clause-err : goal.returns-clause-err
returns-clause-err g c =
    let hash_dev = g.H.BlockDev.state c.args.placed.0 in
    let first = c.args.placed.1 in
    let failed = c.say_line.new.writer.failed in
    let s = c.in_ok-superblock.superblock in
    let b = windowed-same _ hash_dev _ (part_behind hash_dev first) (ap g.H.BlockDev.state c.behind-window.ensures.inner) c.behind-window.ensures.part in
    let found = subst (λ (v : Device). ReadsSuper v first c.args.words.root.now.pin s) b c.in_ok-superblock.ensures.ok in
    let start : c.tree_start-start.result ≡ tree_start first s.hash_block 1 = c.tree_start-start.ensures ∙ ap (λ (n : ℕ). tree_start first n 1) c.hash_block-size.ensures in
    let room : VerityTree → ℕ → ℕ = λ t n. words_room t c.args.words n None in
    let refuses : IsOutOfMemory (room c.tree-tree.result c.tree_start-start.result) → RefusesLineOf first c.args.words hash_dev =
    (λ refused. record {
      super = s;
      super_read = found;
      refused = subst₂ (λ (t : VerityTree) (n : ℕ). IsOutOfMemory (room t n)) c.tree-tree.ensures.value start refused;
    }) in
    IfErr-weaker c.say_line.result _ _ (λ fault ends. inr (common-as failed refuses fault ends)) c.say_line.ensures.err

pub returns-clause-ok : goal.returns-clause-ok
returns-clause-ok g c =
    let hash_dev = g.H.BlockDev.state c.args.placed.0 in
    let first = c.args.placed.1 in
    let old = g.W.Write.contents c.args.writer.now.inner in
    let new = g.W.Write.contents c.say_line.new.writer.inner in
    let s = c.in_ok-superblock.superblock in
    let b = windowed-same _ hash_dev _ (part_behind hash_dev first) (ap g.H.BlockDev.state c.behind-window.ensures.inner) c.behind-window.ensures.part in
    let found = subst (λ (v : Device). ReadsSuper v first c.args.words.root.now.pin s) b c.in_ok-superblock.ensures.ok in
    let start : c.tree_start-start.result ≡ tree_start first s.hash_block 1 = c.tree_start-start.ensures ∙ ap (λ (n : ℕ). tree_start first n 1) c.hash_block-size.ensures in
    on_ok_weaker c.say_line.result
    (λ printed. record {
      super = s;
      sector = found.sector;
      read = found.read;
      pinned = found.pinned;
      allowed = found.aligned;
      printed = subst₂ (λ (t : VerityTree) (n : ℕ). Appends old new (named_line c.args.name t c.args.words n None)) c.tree-tree.ensures.value start printed;
    })
    c.say_line.ensures.ok
