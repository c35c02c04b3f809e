-- A tree made in a part of a device.
use Rattle.std.proofs.Common.{◌≡◌, ◌≤◌, ◌+◌, ◌/◌, ℕ, IsTrue, List, ◌++◌, length, take, drop, Result, ap, subst, sym, ◌∙◌, arith, inl, inr}
use Rattle.std.specs.Prelude.{IfErr, IfOk}
use Rattle.std.proofs.Math.Nat.{zero-mul}
use Rattle.std.proofs.lemmas.List.{append_assoc, drop-append-le, drop-drop, length-drop, length-take-le, take-append-drop}
use Rattle.block_device.specs.Device.{Device, IsUnsynced, IsWhole, run_of, spliced}
use Rattle.block_device.specs.Whole.{length-sectors_of}
use Rattle.device_adapters.specs.Parts.{Outside, StandOutside, outside_of, part_behind}
use Rattle.device_adapters.specs.Windows.{windowed}
use Rattle.verity_format.specs.declared.formatting.FormatFault.{FormatFault}
use Rattle.verity_format.specs.Image.{area_sectors, tree_over}
use Rattle.verity_format.specs.Superblock.{SuperRecord}
use Rattle.verity_format.specs.Trees.{shape_alone}
use Rattle.verity_format.proofs.lemmas.RoomLemmas.{area-within, fits-from_none}
use Rattle.image_commands.specs.declared.format.MadeImage.{MadeImage}
use Rattle.image_commands.specs.ClearedTrees.{IsClearedEnd, IsKeptBehind, IsMadeCleared, sectors_alone}
use Rattle.image_commands.specs.Places.{IsPartState}
use Rattle.image_commands.specs.TreeFormats.{IsFinished, IsPlacedTreeCause, IsTreeEnd, IsTreeKept, IsTreeMade, IsUnfinished}

-- an image is what lies before a part, the part and what lies after it
parts : (image : List (List ℕ)) (f c : ℕ) → image ≡ take f image ++ (run_of image f c ++ drop (f + c) image)
parts image f c = sym (take-append-drop f image) ∙ ap (λ l. take f image ++ l) (sym (take-append-drop c (drop f image)) ∙ ap (λ l. run_of image f c ++ l) (drop-drop c f image))

-- sectors put in at the beginning of a part are put into the whole
pub joined : (old new sectors : List (List ℕ)) (f c : ℕ) → f + c ≤ length old → length sectors ≤ c → run_of new f c ≡ spliced (run_of old f c) 0 sectors → take f new ≡ take f old → drop (f + c) new ≡ drop (f + c) old
    → new ≡ spliced old f sectors
joined old new sectors f c inside few part front back =
    let m : ℕ = length sectors in
    let run : List (List ℕ) = run_of old f c in
    let rest : List (List ℕ) = drop (f + c) old in
    let full : m ≤ length run = omega (arith, length-take-le c (drop f old) (omega (arith, length-drop f old, inside)), few) in
    let zero : 0 + m ≡ m = omega arith in
    let behind : drop m run ++ rest ≡ drop (f + m) old =
    sym (drop-append-le m run rest full) ∙ ap (drop m) (ap (λ l. run ++ l) (sym (drop-drop c f old)) ∙ take-append-drop c (drop f old)) ∙ drop-drop m f old in
    parts new f c
    ∙ ap (λ l. l ++ (run_of new f c ++ drop (f + c) new)) front
    ∙ ap (λ l. take f old ++ (run_of new f c ++ l)) back
    ∙ ap (λ l. take f old ++ (l ++ rest)) (part ∙ ap (λ k. sectors ++ drop k run) zero)
    ∙ ap (λ l. take f old ++ l) (append_assoc sectors (drop m run) rest ∙ ap (λ l. sectors ++ l) behind)
    ∙ sym (append_assoc (take f old) sectors (drop (f + m) old))

-- what holds of the data device that calls left, weakened
pub made-left : {Data Data' Hash : Device → Type 0} {s : SuperRecord} {d h h' : Device} {first : ℕ} {made : MadeImage} → IsTreeMade Data Hash s d h first h' made → ((device : Device) → Data device → Data' device) → IsTreeMade Data' Hash s d h first h' made
made-left m f = record {
  data_dev' = m.data_dev';
  left = f m.data_dev' m.left;
  written = m.written;
  tree = m.tree;
  kept = m.kept;
  fit = m.fit;
  read = m.read;
  image = m.image;
  clean = m.clean;
  root = m.root;
  salt = m.salt;
  blocks = m.blocks;
}

-- a tree that isn't made, over a data device around another one, of the type of `outer`
pub tree_end-inner : {D E : Type 0} {Hash : Device → Type 0} (outer : E) (inner : E → D) (state : D → Device) (s : SuperRecord) (d h : Device) (first : ℕ) (h' : Device) (fault : FormatFault)
    → IsTreeEnd (IsPartState (λ (e : E). state (inner e))) Hash s d h first h' fault → IsTreeEnd (IsPartState state) Hash s d h first h' fault
tree_end-inner outer inner state s d h first h' fault (inl none) = inl none
tree_end-inner outer inner state s d h first h' fault (inr ends) = inr ((ends.0.0, ((inner ends.0.1.0.0, ends.0.1.0.1), ends.0.1.1)), ends.1)

module _ (Data Hash : Device → Type 0) (s : SuperRecord) (data_dev data_dev' hash_dev hash_dev' : Device) (first : ℕ) (left : Data data_dev') (is_whole : IsWhole hash_dev) (image image' : Device) (root : Result (List ℕ) FormatFault)
    (written : IsKeptBehind s (windowed hash_dev (part_behind hash_dev first)) image) (back : image' ≡ windowed hash_dev' (part_behind hash_dev first))
    (outside : StandOutside hash_dev' (part_behind hash_dev first) (outside_of hash_dev.image (part_behind hash_dev first))) where
  -- a tree that was made and put on the medium
  pub made-placed : (made : MadeImage) → IsMadeCleared Hash s data_dev (windowed hash_dev (part_behind hash_dev first)) data_dev' image made.root → IsFinished s root image image' made → IsTreeMade Data Hash s data_dev hash_dev first hash_dev' made
  made-placed made built done =
      let p = part_behind hash_dev first in
      let sectors : List (List ℕ) = tree_over (shape_alone s) s.salt data_dev.image in
      let steady_is : hash_dev'.steady ≡ hash_dev.steady = sym (ap (λ (d : Device). d.steady) back) ∙ ap (λ (d : Device). d.steady) done.is_synced ∙ written.same.steady in
      let fit = fits-from_none (shape_alone s) (sectors_alone s) data_dev (windowed hash_dev (part_behind hash_dev first)) built.fit in
      let count : length sectors ≡ area_sectors (shape_alone s) = length-sectors_of (area_sectors (shape_alone s)) _ in
      let few : length sectors ≤ p.count = omega (arith, count, fit.1, area-within (shape_alone s)) in
      let inside : p.first + p.count ≤ length hash_dev.image = omega (arith, is_whole.length) in
      record {
        data_dev' = data_dev';
        left = left;
        written = image;
        tree = built;
        kept = sym back ∙ done.is_synced;
        fit = built.fit;
        read = built.making.written.read;
        image = λ a b.
            let kept : outside_of hash_dev'.image p ≡ outside_of hash_dev.image p = outside.stands (subst IsTrue (sym steady_is) b) in
            let run : run_of hash_dev'.image p.first p.count ≡ spliced (run_of hash_dev.image p.first p.count) 0 sectors = ap (λ (d : Device). d.image) (sym back ∙ done.is_synced) ∙ built.image a b ∙ ap (λ (n : ℕ). spliced (run_of hash_dev.image p.first p.count) n sectors) (zero-mul (s.hash_block / 512)) in
            joined hash_dev.image hash_dev'.image sectors p.first p.count inside few run (ap (λ (o : Outside). o.before) kept) (ap (λ (o : Outside). o.behind) kept);
        clean = ap (λ (d : Device). d.dirty) (sym back ∙ done.is_synced);
        root = built.making.written.root;
        salt = done.salt;
        blocks = done.blocks;
      }

  -- whatever came of it
  pub kept-placed : image'.image ≡ image.image → IsTreeKept s hash_dev first hash_dev'
  kept-placed same = record {
    outside = outside;
    behind = λ steady. ap (λ (d : Device). drop (sectors_alone s) d.image) (sym back) ∙ ap (drop (sectors_alone s)) same ∙ written.after steady;
  }

  -- a tree that wasn't made, or not put on the medium
  pub end-placed : (fault : FormatFault) → IfOk root (IsMadeCleared Hash s data_dev (windowed hash_dev (part_behind hash_dev first)) data_dev' image) → IfErr root (IsClearedEnd Hash s data_dev (windowed hash_dev (part_behind hash_dev first)) data_dev' image)
      → IsUnfinished root image image' fault → IsPlacedTreeCause Data Hash s data_dev hash_dev first hash_dev' fault × IsTreeKept s hash_dev first hash_dev'
  end-placed fault ok err (inl (is, same)) =
      let cause : IsClearedEnd Hash s data_dev (windowed hash_dev (part_behind hash_dev first)) data_dev' image fault =
      subst (λ (r : Result (List ℕ) FormatFault). IfErr r (IsClearedEnd Hash s data_dev (windowed hash_dev (part_behind hash_dev first)) data_dev' image)) is err in (
        (data_dev', (left, inl (subst (λ (d : Device). IsClearedEnd Hash s data_dev (windowed hash_dev (part_behind hash_dev first)) data_dev' d fault) (sym same ∙ back) cause))),
        kept-placed (ap (λ (d : Device). d.image) same),
      )
  end-placed fault ok err (inr dirty) =
      let made : IsMadeCleared Hash s data_dev (windowed hash_dev (part_behind hash_dev first)) data_dev' image dirty.made =
      subst (λ (r : Result (List ℕ) FormatFault). IfOk r (IsMadeCleared Hash s data_dev (windowed hash_dev (part_behind hash_dev first)) data_dev' image)) dirty.root_is ok in (
        (data_dev', (left, inr (record { root = dirty.made; written = image; made = made; unsynced = subst (IsUnsynced image) back dirty.unsynced; is = dirty.is }))),
        kept-placed (ap (λ (d : Device). d.image) dirty.unsynced.moved),
      )
