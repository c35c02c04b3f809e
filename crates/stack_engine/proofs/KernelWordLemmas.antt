-- The words of a `verity` line that are for the kernel alone.
use Rattle.std.proofs.Common.{◌≡◌, ℕ, zero, suc, ◌+◌, ◌-◌, ◌*◌, ◌/◌, ◌%◌, ◌==◌, ◌&&◌, Bool, true, false, cond, List, [], ◌∷◌, ◌++◌, length, map, not, Option, Some, None, Ok, Err, refl, sym, ap, ◌∙◌}
use Rattle.std.specs.Prelude.{find, nat_lt, position, slice_get, option_map}
use Rattle.std.specs.List.{enumerate_from, position_or_len}
use Rattle.std.specs.Option.{option_map_or, option_or}
use Rattle.std.specs.Str.{bytes_eq}
use Rattle.std.proofs.Math.Path.{fun_ext}
use Rattle.std.proofs.lemmas.List.{length-map}
use Rattle.tree_shape.specs.Shape.{ancestor, levels}
use Rattle.dm_table.specs.declared.table.Line.{Line}
use Rattle.dm_table.specs.declared.table.Target.{Target}
use Rattle.dm_table.specs.declared.table.Target.TheVariants as targets
use Rattle.dm_table.specs.declared.parity.Parity.{Parity}
use Rattle.dm_table.specs.declared.verity.Verity.{Verity}
use Rattle.stack_rules.specs.declared.lower.Lower.{Lower}
use Rattle.stack_rules.specs.declared.lower.Lower.TheVariants.{Leaf as leaf, Device as device}
use Rattle.stack_rules.specs.Descend.{descend, after_steps, most_devices, by_name, known}
use Rattle.stack_rules.specs.Lines.{line_in}
use Rattle.stack_rules.specs.Names.{mapped, named, path_of, lines_of}
use Rattle.stack_rules.specs.Records.{Configuration, DeviceRecord, LeafRecord}
use Rattle.stack_rules.specs.Trees.{round_count, tree_of, block_sectors, zero_block}
use Rattle.stack_rules.specs.targets.Verity.{parity_bases}
use Rattle.stack_meaning.specs.declared.units.CryptUnits.{CryptUnits}
use Rattle.stack_meaning.specs.Beneath.{below, beneath, said_or}
use Rattle.stack_meaning.specs.Blocks.{checked, covered_hash, hash_block_at, hash_sectors, hash_start, next_digest, checked_span, block_below, is_ignored, verified_block}
use Rattle.stack_meaning.specs.Erasures.{PathEnd, covered_spare, digest_at, digest_beneath, erasures_by, is_lost_beside, is_lost_by, lost_places, path_end}
use Rattle.stack_meaning.specs.Spares.{BlockSources, covered_block, healed_outcome, place_number, spare_block}
use Rattle.stack_meaning.specs.targets.Verity.{sources_over}
use Rattle.stack_meaning.specs.Found.{FoundRecord, Entry}
use Rattle.stack_meaning.specs.Meaning.{IsShown, Said, content_part, leaf_said, line_said, none_said, said_by_name}
use Rattle.stack_meaning.specs.Outcomes.{Images, Outcome, changed_outcome, then_outcome}
use Rattle.stack_meaning.specs.Sectors.{on_found, sector_rule}
use Rattle.stack_meaning.specs.Units.{units_of, per_unit, unit_part, unit_first}
use Rattle.stack_meaning.proofs.lemmas.SpanLemmas.{span_same}
use Rattle.stack_engine.specs.Laws.{without_kernel_words, target_without, line_without, device_without, stack_without, KernelWordsChangeNoLine, KernelWordsChangeNoSector}

-- ---- a block

-- the same next step
then-same : (x : Outcome) (next other : List ℕ → Outcome) → ((bytes : List ℕ) → next bytes ≡ other bytes) → then_outcome x next ≡ then_outcome x other
then-same (Ok bytes) next other same = same bytes
then-same (Err fault) next other same = refl

-- the same known digests, and so the same lost blocks
beneath-same : (v : Verity) (from : BlockSources) (i n : ℕ) → digest_beneath (without_kernel_words v) from i n ≡ digest_beneath v from i n
unfolding digest_beneath
beneath-same v from i zero = refl
beneath-same v from i (suc n) =
    ap (λ (x : Outcome). then_outcome x (λ expected. changed_outcome (next_digest v (levels (tree_of v) - suc n) i) (checked_span from.on_hash (hash_start v (levels (tree_of v) - suc n) i) (hash_sectors v) v.salt expected))) (beneath-same v from i n)

digest-same : (v : Verity) (from : BlockSources) (o : Option PathEnd) → digest_at (without_kernel_words v) from o ≡ digest_at v from o
digest-same v from None = refl
digest-same v from (Some end) = beneath-same v from end.index end.above

beside-same : (v : Verity) (p : Parity) (from : BlockSources) (j i : ℕ) → is_lost_beside (without_kernel_words v) p from j i ≡ is_lost_beside v p from j i
beside-same v p from j i =
    ap (λ (x : Outcome). not (i == j / round_count p) && (nat_lt (place_number p (j % round_count p) i) p.blocks && is_lost_by v.salt (covered_block v from (place_number p (j % round_count p) i)) x))
    (digest-same v from (path_end v (place_number p (j % round_count p) i)))

losses-same : (v : Verity) (p : Parity) (from : BlockSources) (j m : ℕ) → lost_places (without_kernel_words v) p from j m ≡ lost_places v p from j m
unfolding lost_places
losses-same v p from j zero = refl
losses-same v p from j (suc m) =
    ap (λ (b : Bool). cond b (lost_places (without_kernel_words v) p from j m ++ (m ∷ [])) (lost_places (without_kernel_words v) p from j m)) (beside-same v p from j m)
    ∙ ap (λ (xs : List ℕ). cond (is_lost_beside v p from j m) (xs ++ (m ∷ [])) xs) (losses-same v p from j m)

-- the same spare
spare-same : (v : Verity) (from : BlockSources) (o : Option Parity) (i : ℕ) (expected : List ℕ) → covered_spare (without_kernel_words v) from o i expected ≡ covered_spare v from o i expected
spare-same v from None i expected = refl
spare-same v from (Some p) i expected =
    ap (λ (lost : List ℕ). healed_outcome (spare_block v p from i expected) (then_outcome (erasures_by v p from i lost) (checked v.salt expected))) (losses-same v p from i (255 - p.roots))

-- from any level down
block-same : (v : Verity) (from : BlockSources) (i l : ℕ) (expected : List ℕ) → block_below (without_kernel_words v) from i l expected ≡ block_below v from i l expected
block-same v from i zero expected =
    ap (λ (x : Outcome). cond (is_ignored v expected) (Ok (zero_block v)) (healed_outcome (checked_span from.on_data (block_sectors v * i) (block_sectors v) v.salt expected) x)) (spare-same v from v.parity i expected)
block-same v from i (suc l) expected =
    ap (λ (x : Outcome). then_outcome (healed_outcome (checked_span from.on_hash (hash_start v l i) (hash_sectors v) v.salt expected) x) (λ block. block_below (without_kernel_words v) from i l (next_digest v l i block)))
    (spare-same v from v.parity (covered_hash v l (ancestor (tree_of v) (l + 1) i)) expected)
    ∙ then-same
    (hash_block_at v from l (ancestor (tree_of v) (l + 1) i) expected)
    (λ block. block_below (without_kernel_words v) from i l (next_digest v l i block))
    (λ block. block_below v from i l (next_digest v l i block))
    (λ block. block-same v from i l (next_digest v l i block))

-- ---- a line, over devices whose sectors mean the same

module _ (images : Images) (at' at : List ℕ → ℕ → Said) (all : (name : List ℕ) (t : ℕ) → (at' name t).means images ≡ (at name t).means images) where
  or-same : (o : Option (List ℕ × ℕ)) → (said_or none_said at' o).means images ≡ (said_or none_said at o).means images
  or-same None = refl
  or-same (Some p) = all p.0 p.1

  target-same : (d l : ℕ) (target : Target) (s : ℕ) → (line_said at' d l (target_without target) s).means images ≡ (line_said at d l target s).means images
  target-same d l (targets.Linear base) s = or-same (beneath (targets.Linear base) s)
  target-same d l (targets.Striped chunk bases) s = or-same (beneath (targets.Striped chunk bases) s)
  target-same d l targets.Zero s = refl
  target-same d l targets.Error s = refl
  target-same d l (targets.Crypt line) s =
      let units : CryptUnits = units_of line in
      let f : (List ℕ → ℕ → Said) → ℕ → Outcome = λ said t. (said line.base.device t).means images in
      ap (changed_outcome (unit_part units line.key s)) (span_same (f at') (f at) (unit_first units s) (unit_first units s) (per_unit units) (λ j h. all line.base.device (unit_first units s + j)))
  target-same d l (targets.Verity v) s =
      let i : ℕ = s / block_sectors v in
      let next : List ℕ → Outcome = λ block. Ok (content_part v s block) in
      let of : (List ℕ → ℕ → Said) → BlockSources = λ said. sources_over (below none_said said (targets.Verity v)) images in
      let third : ℕ → Option (List ℕ × ℕ) = λ t. option_map (λ base. (base.device, t)) (slice_get (record { device = v.data; offset = 0 } ∷ record { device = v.hash; offset = 0 } ∷ parity_bases v.parity) 2) in
      let on_data : (of at').on_data ≡ (of at).on_data = fun_ext (all v.data) in
      let on_hash : (of at').on_hash ≡ (of at).on_hash = fun_ext (all v.hash) in
      let on_parity : (of at').on_parity ≡ (of at).on_parity = fun_ext (λ t. or-same (third t)) in
      let same : of at' ≡ of at =
      ap {B = BlockSources} (λ (g : ℕ → Outcome). record { on_data = g; on_hash = (of at').on_hash; on_parity = (of at').on_parity }) on_data
      ∙ ap {B = BlockSources} (λ (g : ℕ → Outcome). record { on_data = (of at).on_data; on_hash = g; on_parity = (of at').on_parity }) on_hash
      ∙ ap {B = BlockSources} (λ (g : ℕ → Outcome). record { on_data = (of at).on_data; on_hash = (of at).on_hash; on_parity = g }) on_parity in
      ap (λ (o : Outcome). then_outcome o next) (block-same v (of at') i (levels (tree_of v)) v.root)
      ∙ ap (λ (g : BlockSources). then_outcome (verified_block v g i) next) same
  target-same d l (targets.Unstriped line) s = or-same (beneath (targets.Unstriped line) s)

  choose : (d s : ℕ) (p' p : ℕ × Line) (b : Bool) (o' o : Option (ℕ × Line))
      → (on_found none_said (line_said at') d s (Some p')).means images ≡ (on_found none_said (line_said at) d s (Some p)).means images
      → (on_found none_said (line_said at') d s o').means images ≡ (on_found none_said (line_said at) d s o).means images
      → (on_found none_said (line_said at') d s (cond b (Some p') o')).means images ≡ (on_found none_said (line_said at) d s (cond b (Some p) o)).means images
  choose d s p' p true o' o here there = here
  choose d s p' p false o' o here there = there

  found-same : (d s k : ℕ) (lines : List Line)
      → (on_found none_said (line_said at') d s (find (λ (p : ℕ × Line). nat_lt s (p.1.start + p.1.length)) (enumerate_from k (map line_without lines)))).means images
      ≡ (on_found none_said (line_said at) d s (find (λ (p : ℕ × Line). nat_lt s (p.1.start + p.1.length)) (enumerate_from k lines))).means images
  found-same d s k [] = refl
  found-same d s k (line ∷ lines) =
      choose d s (k, line_without line) (k, line) (nat_lt s (line.start + line.length))
      (find (λ (p : ℕ × Line). nat_lt s (p.1.start + p.1.length)) (enumerate_from (k + 1) (map line_without lines)))
      (find (λ (p : ℕ × Line). nat_lt s (p.1.start + p.1.length)) (enumerate_from (k + 1) lines))
      (target-same d k line.target (s - line.start))
      (found-same d s (k + 1) lines)

-- ---- the devices that names mean

module _ {X Y : Type 0} (f : X → Y) where
  place-mapped : (p : Y → Bool) (xs : List X) → position_or_len p (map f xs) ≡ position_or_len (λ x. p (f x)) xs
  place-mapped p [] = refl
  place-mapped p (x ∷ xs) = ap (λ n. cond (not (p (f x))) (1 + n) 0) (place-mapped p xs)

  position-mapped : (p : Y → Bool) (xs : List X) → position (λ x. p (f x)) xs ≡ position p (map f xs)
  position-mapped p xs =
      let place = sym (place-mapped p xs) in
      let size = sym (length-map xs f) in
      ap (λ n. cond (nat_lt n (length xs)) (Some n) None) place ∙ ap (λ n. cond (nat_lt (position_or_len p (map f xs)) n) (Some (position_or_len p (map f xs))) None) size

named-same : (c : Configuration) (name : List ℕ) → named (stack_without c) name ≡ named c name
named-same c name =
    ap (λ (o : Option ℕ). option_or (option_map leaf (position (λ (l : LeafRecord). bytes_eq l.name name) c.leaves)) (option_map mapped o))
    (sym (position-mapped device_without (λ (x : DeviceRecord). bytes_eq (path_of x.name) name) c.devices))

lines-same : (xs : List DeviceRecord) (d : ℕ) → option_map_or (λ (x : DeviceRecord). x.table) (slice_get (map device_without xs) d) [] ≡ map line_without (option_map_or (λ (x : DeviceRecord). x.table) (slice_get xs d) [])
lines-same [] d = refl
lines-same (x ∷ xs) zero = refl
lines-same (x ∷ xs) (suc d) = lines-same xs d

module _ (images : Images) (f' f : Lower → ℕ → Said) (same : (x : Lower) (t : ℕ) → (f' x t).means images ≡ (f x t).means images) where
  known-same : (o : Option Lower) (t : ℕ) → (known (λ (t : ℕ). none_said) f' o t).means images ≡ (known (λ (t : ℕ). none_said) f o t).means images
  known-same None t = refl
  known-same (Some x) t = same x t

  name-same : (c : Configuration) (name : List ℕ) (t : ℕ) → (by_name (stack_without c) (λ (t : ℕ). none_said) f' name t).means images ≡ (by_name c (λ (t : ℕ). none_said) f name t).means images
  name-same c name t = ap (λ (o : Option Lower). (known (λ (t : ℕ). none_said) f' o t).means images) (named-same c name) ∙ known-same (named c name) t

-- ---- a stack

abbrev said_after : Configuration → ℕ → Lower → ℕ → Said
said_after c n = after_steps (λ (s : ℕ). none_said) (sector_rule c none_said leaf_said line_said) n

steps-same : (c : Configuration) (images : Images) (n : ℕ) (x : Lower) (s : ℕ) → (said_after (stack_without c) n x s).means images ≡ (said_after c n x s).means images
steps-same c images zero x s = refl
steps-same c images (suc n) (leaf i) s = refl
steps-same c images (suc n) (device d) s =
    let at' : List ℕ → ℕ → Said = by_name (stack_without c) (λ (t : ℕ). none_said) (said_after (stack_without c) n) in
    let at : List ℕ → ℕ → Said = by_name c (λ (t : ℕ). none_said) (said_after c n) in
    let all = name-same images (said_after (stack_without c) n) (said_after c n) (λ y t. steps-same c images n y t) c in
    ap (λ (lines : List Line). (on_found none_said (line_said at') d.0 s (line_in lines s)).means images) (lines-same c.devices d.0)
    ∙ found-same images at' at all d.0 s 0 (lines_of c d.0)

pub no-sector : KernelWordsChangeNoSector
unfolding descend
no-sector c images lower s = steps-same c images (suc most_devices) lower s

-- ---- what one line may be

shown-without : (chains : List FoundRecord) (entry : Entry) (v : Verity) (x : FoundRecord) → IsShown chains entry v x → IsShown chains entry (without_kernel_words v) x
shown-without chains entry v x h = record { given = h.given; at = h.at; good = h.good }

shown-with : (chains : List FoundRecord) (entry : Entry) (v : Verity) (x : FoundRecord) → IsShown chains entry (without_kernel_words v) x → IsShown chains entry v x
shown-with chains entry v x h = record { given = h.given; at = h.at; good = h.good }

pub no-line : KernelWordsChangeNoLine
no-line v = (
  refl,
  λ c d l s.
      let i : ℕ = s / block_sectors v in
      record {
        means = λ images. target-same images (said_by_name c) (said_by_name c) (λ name t. refl) d l (targets.Verity v) s;
        may = λ chains bytes. (λ h. (h.0, shown-with chains (d, l, i) v h.0 h.1, h.2), λ h. (h.0, shown-without chains (d, l, i) v h.0 h.1, h.2));
        meets = λ fault. (λ h. h, λ h. h);
      },
)
