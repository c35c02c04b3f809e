-- Trees, row by row.
use Rattle.std.proofs.Common.{◌≡◌, ◌<◌, ◌≤◌, ◌+◌, ◌∙◌, ℕ, zero, suc, Bool, true, false, List, [], ◌∷◌, ◌++◌, length, Option, Some, None, Result, get_or, refl, sym, ap, subst, position, arith}
use Rattle.std.specs.Prelude.{◌==◌, not, codes, slice_get, slice_index_or, slice_set}
use Rattle.std.specs.Io.KnownBytes.{Appends}
use Rattle.std.specs.Option.{option_map, option_map_or, option_or, option_and_then}
use Rattle.std.specs.Str.{bytes_eq}
use Rattle.std.proofs.lemmas.List.{append-nil}
use Rattle.std.proofs.lemmas.Option.{slice_get_read, slice_get_within}
use Rattle.std.proofs.lemmas.Result.{on_ok_weaker}
use Rattle.std.proofs.lemmas.List.Quantifiers.{position-Some}
use Rattle.program_io.specs.Counted.{CountedRecord, Writes}
use Rattle.program_io.specs.declared.fault.WriteFault.{WriteFault}
use Rattle.stack_rules.specs.Records.{Configuration, DeviceRecord, LeafRecord}
use Rattle.stack_rules.specs.declared.lower.Lower.{Lower}
use Rattle.stack_rules.specs.declared.lower.Lower.TheVariants.{Leaf as leaf, Device as device}
use Rattle.stack_rules.specs.declared.lower.DevId.{DevId}
use Rattle.dm_table.specs.declared.table.Line.{Line}
use Rattle.stack_rules.specs.Names.{lines_of, mapped, named, names, path_of}
use Rattle.stack_rules.specs.Rules.{IsLoaded}
use Rattle.stack_rules.proofs.lemmas.KeptLemmas.{lines_of-read}
use Rattle.stack_rules.proofs.lemmas.ListLemmas.{slice_get-some}
use Rattle.stack_rules.proofs.lemmas.ValidLineLemmas.{few_lines}
use Rattle.stack_config.proofs.lemmas.LoadedLineLemmas.{device_of}
use Rattle.stack_rules.specs.Lines.{IsLine, lower_at, names_at}
use Rattle.scan_commands.specs.TreeRows.{IsIn, file_text, lower_text, size_text}
use Rattle.scan_commands.specs.Trees.{Beneath, BoundRecord, PlacedLine, Showing, bare_text, beneath, each, is_last_name, join, line_at_shown, line_shown, lines_shown, name_shown, name_text, opened, place_beneath, placed, says, PlaceRecord, Shown}
use Rattle.scan_commands.proofs.ChartLemmas.{writes-then}

-- ---- texts, one after another

-- a text after another one
pub text-then : {T : Type 0} (contents : T → Option (List ℕ)) (old between new : CountedRecord T) (result : Result Unit WriteFault) (a b text : List ℕ)
    → Appends (contents old.inner) (contents between.inner) a → between.failed ≡ old.failed → Writes contents between new b result → a ++ b ≡ text → Writes contents old new text result
text-then contents old between new result a b text before kept after is = record {
  ok = on_ok_weaker result (λ done. subst (Appends (contents old.inner) (contents new.inner)) is (writes-then (contents old.inner) (contents between.inner) (contents new.inner) a b before done)) after.ok;
  kept = on_ok_weaker result (λ same. same ∙ kept) after.kept;
  failed = after.failed;
}

-- this was written until now, and the lines of these devices were printed
pub record IsShown {T : Type 0} (contents : T → Option (List ℕ)) (old new : CountedRecord T) (shown : Shown) (devices : List Bool) : Type 0 where
  pub written : Appends (contents old.inner) (contents new.inner) shown.text
  pub kept : new.failed ≡ old.failed
  pub printed : devices ≡ shown.printed

nothing : (o : Option (List ℕ)) → Appends o o []
nothing None = tt
nothing (Some xs) = sym (append-nil xs)

pub shown-none : {T : Type 0} (contents : T → Option (List ℕ)) (writer : CountedRecord T) (show : ℕ → Showing) (first : List Bool)
    → IsShown contents writer writer (each show 0 first) first
unfolding each
shown-none contents writer show first = record { written = nothing (contents writer.inner); kept = refl; printed = refl }

-- one more of them
pub shown-more : {T : Type 0} (contents : T → Option (List ℕ)) (old between new : CountedRecord T) (show : ℕ → Showing) (n m : ℕ) (first printed last : List Bool)
    → m ≡ n + 1 → IsShown contents old between (each show n first) printed
    → Appends (contents between.inner) (contents new.inner) (show n printed).text → new.failed ≡ between.failed → last ≡ (show n printed).printed
    → IsShown contents old new (each show m first) last
unfolding each
shown-more contents old between new show n m first printed last next before after kept lines =
    let whole : Shown = join (each show n first) (show n) in
    let same : printed ≡ (each show n first).printed = before.printed in
    let more : IsShown contents old new whole last = record {
      written = subst (λ (p : List Bool). Appends (contents old.inner) (contents new.inner) ((each show n first).text ++ (show n p).text)) same
          (writes-then (contents old.inner) (contents between.inner) (contents new.inner) (each show n first).text (show n printed).text before.written after);
      kept = kept ∙ before.kept;
      printed = lines ∙ ap (λ (p : List Bool). (show n p).printed) same;
    } in
    let count : suc n ≡ m = omega (arith, next) in
    subst (λ (k : ℕ). IsShown contents old new (each show k first) last) count more

-- what a name leads to is there
named-in : (c : Configuration) (name : List ℕ) (y : Lower) → named c name ≡ Some y → IsIn c y
named-in c name y is = go (position (λ l. bytes_eq l.name name) c.leaves) (position (λ d. bytes_eq (path_of d.name) name) c.devices) refl refl is
  where
    go : (a b : Option ℕ) → position (λ l. bytes_eq l.name name) c.leaves ≡ a → position (λ d. bytes_eq (path_of d.name) name) c.devices ≡ b
        → option_or (option_map leaf a) (option_map mapped b) ≡ Some y → IsIn c y
    go (Some i) b f e h =
        let same : leaf i ≡ y = cc in
        let low = (position-Some (λ (x : LeafRecord). bytes_eq x.name name) c.leaves i (record { name = name; sectors = 0; writable = true }) f).0 in
        rw (← same) low
    go None None f e h = let clash : None ≡ Some y = h in cc
    go None (Some d) f e h =
        let same : mapped d ≡ y = cc in
        let low = (position-Some (λ (x : DeviceRecord). bytes_eq (path_of x.name) name) c.devices d (record { name = name; writable = true; table = [] }) e).0 in
        rw (← same) low

pub lower-in : (c : Configuration) (d l i : ℕ) (y : Lower) → lower_at c d l i ≡ Some y → IsIn c y
lower-in c d l i y is = go (slice_get (names_at c d l) i) is
  where
    go : (o : Option (List ℕ)) → option_and_then (named c) o ≡ Some y → IsIn c y
    go None h = let clash : None ≡ Some y = h in cc
    go (Some name) h = named-in c name y h

-- the device of a line
pub device-inside : (c : Configuration) (d l : ℕ) (line : Line) → IsLine c d l line → d < length c.devices
device-inside c d l line is = let x = device_of c d l line is in slice_get_within c.devices d x.0 x.1

pub names-placed : (c : Configuration) (d l : ℕ) (line : Line) → IsLine c d l line → names_at c d l ≡ names line.target
names-placed c d l line is = ap (λ (o : Option Line). option_map_or (λ (line : Line). names line.target) o []) is

-- a device has at most 256 lines
pub lines-few : (c : Configuration) (d : ℕ) → IsLoaded c → d < length c.devices → length (lines_of c d) ≤ 256
lines-few c d loaded low =
    let x = slice_get-some c.devices d low in
    rw (lines_of-read c d x.0 x.1) (few_lines c loaded.valid d x.0 x.1)

-- ---- places

pub place-full : (bars : List Bool) (n : ℕ) (bar : Bool) → n ≡ 0 → None ≡ place_beneath bars n bar
place-full bars n bar is = rw is refl

pub place-beneath : (bars more : List Bool) (n m : ℕ) (bar : Bool) → n ≡ suc m → more ≡ bars ++ bar ∷ [] → Some (record { bars = more; steps = m }) ≡ place_beneath bars n bar
place-beneath bars more n m bar is longer = rw (is, longer) refl

pub place-some : (bars : List Bool) (steps : ℕ) (bar : Bool) (below : PlaceRecord) → Some below ≡ place_beneath bars steps bar
    → (steps ≡ suc below.steps) × (below.bars ≡ bars ++ bar ∷ [])
place-some bars zero bar below is = let clash : Some below ≡ None = is in cc
place-some bars (suc n) bar below is =
    let given : Some below ≡ Some (record { bars = bars ++ bar ∷ []; steps = n }) = is in
    let same : below ≡ record { bars = bars ++ bar ∷ []; steps = n } = cc in
    (ap (λ (p : PlaceRecord). suc p.steps) (sym same), ap (λ (p : PlaceRecord). p.bars) same)

pub place-none : (bars : List Bool) (steps : ℕ) (bar : Bool) → None ≡ place_beneath bars steps bar → steps ≡ 0
place-none bars zero bar is = refl
place-none bars (suc n) bar is = let below : PlaceRecord = record { bars = bars ++ bar ∷ []; steps = n } in let clash : None ≡ Some below = is in cc

-- ---- rows

pub leaf-text : (c : Configuration) (lower : Lower) (i : ℕ) (leaves : List LeafRecord) (x : LeafRecord) (name : List ℕ) (sectors : ℕ) (writable : Bool)
    → IsIn c lower → lower ≡ leaf i → leaves ≡ c.leaves → x ≡ get_or leaves i x → name ≡ x.name → sectors ≡ x.sectors → writable ≡ x.writable
    → name ++ size_text sectors writable ≡ lower_text c lower
unfolding lower_text
leaf-text c lower i leaves x name sectors writable inside is same at named sized flag =
    let low : i < length c.leaves = rw is at inside in
    let there : slice_get c.leaves i ≡ Some x = slice_get_read c.leaves (length c.leaves) i x refl low (at ∙ ap (λ (l : List LeafRecord). get_or l i x) same) in
    rw (is, there, named, sized, flag) refl

pub opened-again : (b : Beneath) (bars : List Bool) (e : ℕ) (printed : List Bool) → slice_index_or printed e false ≡ true
    → opened b bars e printed ≡ says (codes " (above)\n") printed
unfolding opened
opened-again b bars e printed is = rw is refl

pub opened-first : (b : Beneath) (bars : List Bool) (e : ℕ) (printed : List Bool) → slice_index_or printed e false ≡ false
    → opened b bars e printed ≡ join (says (codes "\n") printed) (b bars e)
unfolding opened
opened-first b bars e printed is = rw is refl

pub name-leaf : (s : BoundRecord) (b : Beneath) (bars : List Bool) (at : PlacedLine) (i : ℕ) (lower : Lower) (j : ℕ) (printed : List Bool)
    → lower_at s.config at.device at.number i ≡ Some lower → lower ≡ leaf j
    → name_shown s b bars at i printed ≡ says (name_text s.config bars at i lower ++ (file_text s.bindings j ++ codes "\n")) printed
unfolding name_shown
name-leaf s b bars at i lower j printed is same = rw (is, same) refl

pub name-device : (s : BoundRecord) (b : Beneath) (bars : List Bool) (at : PlacedLine) (i : ℕ) (lower : Lower) (e : DevId) (last : Bool) (printed : List Bool)
    → lower_at s.config at.device at.number i ≡ Some lower → lower ≡ device e → last ≡ is_last_name at i
    → name_shown s b bars at i printed ≡ join (says (name_text s.config bars at i lower) printed) (opened b (bars ++ not last ∷ []) e.0)
unfolding name_shown
name-device s b bars at i lower e last printed is same ends = rw (is, same, ends) refl

pub line-bare : (s : BoundRecord) (b : Beneath) (bars : List Bool) (at : PlacedLine) (printed : List Bool) → length (names at.line.target) ≡ 0
    → line_shown s b bars at printed ≡ says (bare_text bars at) printed
unfolding line_shown
line-bare s b bars at printed is = rw is refl

line-names : (s : BoundRecord) (b : Beneath) (bars : List Bool) (at : PlacedLine) (printed : List Bool) → (length (names at.line.target) == 0) ≡ false
    → line_shown s b bars at printed ≡ each (name_shown s b bars at) (length (names at.line.target)) printed
unfolding line_shown
line-names s b bars at printed is = rw is refl

pub line-at : (s : BoundRecord) (b : Beneath) (bars : List Bool) (d l : ℕ) (lines : List Line) (line : Line) (printed : List Bool) → slice_get lines l ≡ Some line
    → line_at_shown s b bars d lines l printed ≡ line_shown s b bars (placed d (length lines) l line) printed
line-at s b bars d l lines line printed is = rw is refl

-- all lines of a device
pub lines-all : (s : BoundRecord) (b : Beneath) (bars : List Bool) (d : ℕ) (lines : List Line) (l : ℕ) (first printed : List Bool)
    → lines ≡ lines_of s.config d → l ≡ length lines → first ≡ slice_set printed d true
    → each (line_at_shown s b bars d lines) l first ≡ lines_shown s b bars d printed
unfolding lines_shown
lines-all s b bars d lines l first printed same all begun = rw (all, same, begun) refl

not-zero : (n : ℕ) → 0 < n → (n == 0) ≡ false
not-zero n some = grind (arith, some)

-- all names of a line
pub names-all : (s : BoundRecord) (b : Beneath) (bars : List Bool) (at : PlacedLine) (i : ℕ) (printed : List Bool)
    → 0 < length (names at.line.target) → i ≡ length (names at.line.target)
    → each (name_shown s b bars at) i printed ≡ line_shown s b bars at printed
names-all s b bars at i printed some all = rw all (sym (line-names s b bars at printed (not-zero (length (names at.line.target)) some)))

pub beneath-more : (s : BoundRecord) (n steps : ℕ) (bars : List Bool) (e : ℕ) (printed : List Bool) → steps ≡ suc n
    → beneath s steps bars e printed ≡ lines_shown s (beneath s n) bars e printed
unfolding beneath
beneath-more s n steps bars e printed is = rw is refl

pub beneath-none : (s : BoundRecord) (steps : ℕ) (bars : List Bool) (e : ℕ) (printed : List Bool) → steps ≡ 0 → beneath s steps bars e printed ≡ says [] printed
unfolding beneath
beneath-none s steps bars e printed is = rw is refl
