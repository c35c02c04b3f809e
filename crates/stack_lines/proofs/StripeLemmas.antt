-- Sectors of one line that lie one after another on a lower device.
use Rattle.std.proofs.Common.{◌≡◌, ℕ, zero, suc, ◌+◌, ◌*◌, ◌/◌, ◌%◌, ◌^◌, ◌-◌, ◌<◌, ◌≤◌, ◌⊎◌, min, true, false, nat_lt, List, [], ◌∷◌, length, Option, Some, None, refl, sym, ap, ◌∙◌, subst, arith, inl, inr}
use Rattle.std.specs.Prelude.{slice_get, option_map, option_and_then}
use Rattle.std.specs.List.{list_any}
use Rattle.std.specs.Option.{option_map_or}
use Rattle.std.proofs.lemmas.Bool.{cases_lt, lt-ltb, le-ltb, ltb-false, eqb-true, not-false, or_parts}
use Rattle.std.proofs.lemmas.Option.{slice_get-map}
use Rattle.std.proofs.lemmas.Nat.{div-add-mod', div_below, row_fits, div-mul-add, mod-mul-add, mod_below}
use Rattle.std.proofs.Math.Nat.{add-mul, div-div-eq-div-mul, mul-div_cancel, mul_comm, mul_assoc}
use Rattle.dm_table.specs.declared.table.Base.{Base}
use Rattle.dm_table.specs.declared.table.Line.{Line}
use Rattle.dm_table.specs.declared.table.Target.{Target}
use Rattle.dm_table.specs.declared.table.Target.TheVariants.{Linear, Striped}
use Rattle.dm_table.specs.Grammar.{IsStripedOfGrammar}
use Rattle.stack_rules.specs.declared.lower.Lower.{Lower}
use Rattle.stack_rules.specs.Records.{Configuration}
use Rattle.stack_rules.specs.Names.{named, names, size}
use Rattle.stack_rules.specs.Lines.{IsLine, names_at, lower_at}
use Rattle.stack_rules.proofs.lemmas.RangeLemmas.{is_beyond-linear, is_beyond-striped}
use Rattle.stack_rules.specs.Rules.{IsLoaded, is_undivided, is_beyond, ends_past, most_sectors}
use Rattle.stack_meaning.specs.Beneath.{beneath}
use Rattle.stack_lines.specs.Sources.{LieOn, HasTarget}
use Rattle.stack_meaning.proofs.lemmas.LoadedLemmas.{line-divided, line-inside, size-small}

-- ---- names

pub names-at : (c : Configuration) (d l : ℕ) (line : Line) → IsLine c d l line → names_at c d l ≡ names line.target
names-at c d l line is = ap (λ (o : Option Line). option_map_or (λ (x : Line). names x.target) o []) is

-- what the i-th name of a line means
pub named-by : (c : Configuration) (d l i : ℕ) (target : Target) (name : List ℕ) (lower : Lower) → names_at c d l ≡ names target → slice_get (names target) i ≡ Some name → lower_at c d l i ≡ Some lower → named c name ≡ Some lower
named-by c d l i target name lower all at is =
    sym (ap (option_and_then (named c)) at) ∙ sym (ap (λ (ns : List (List ℕ)). option_and_then (named c) (slice_get ns i)) all) ∙ is

-- a range that doesn't end past the device that is named
pub inside_named : (c : Configuration) (name : List ℕ) (lower : Lower) (end : ℕ) → ends_past c name end ≡ false → named c name ≡ Some lower → end ≤ size c lower
inside_named c name lower end h is = ltb-false (size c lower) end (sym (ap (λ (o : Option Lower). option_map_or (λ lower. nat_lt (size c lower) end) o true) is) ∙ h)

pub small_named : (c : Configuration) (name : List ℕ) (end : ℕ) → IsLoaded c → ends_past c name end ≡ false → end ≤ most_sectors
small_named c name end loaded h = go (named c name) refl
  where
    go : (o : Option Lower) → named c name ≡ o → end ≤ most_sectors
    go None e = let clash : true ≡ false = sym (ap (λ (o : Option Lower). option_map_or (λ lower. nat_lt (size c lower) end) o true) e) ∙ h in cc
    go (Some lower) e = omega (arith, inside_named c name lower end h e, size-small c lower loaded)

pub target-names : (c : Configuration) (d l n : ℕ) (target : Target) → HasTarget c d l target n → names_at c d l ≡ names target
target-names c d l n target t = names-at c d l t.line t.is ∙ ap names t.has

pub target-inside : (c : Configuration) (d l n : ℕ) (target : Target) → IsLoaded c → (t : HasTarget c d l target n) → is_beyond c t.line.length target ≡ false
target-inside c d l n target loaded t = sym (ap (is_beyond c t.line.length) t.has) ∙ line-inside c d l t.line loaded.valid t.is

target-divided : (c : Configuration) (d l n : ℕ) (target : Target) → IsLoaded c → (t : HasTarget c d l target n) → is_undivided t.line.length target ≡ false
target-divided c d l n target loaded t = sym (ap (is_undivided t.line.length) t.has) ∙ line-divided c d l t.line loaded.valid t.is

-- ---- linear lines

module _ (c : Configuration) (d l : ℕ) (base : Base) (w n : ℕ) (loaded : IsLoaded c) (t : HasTarget c d l (Linear base) (w + n)) where
  range-inside : ends_past c base.device (base.offset + t.line.length) ≡ false
  range-inside = sym (is_beyond-linear c t.line.length base) ∙ target-inside c d l (w + n) (Linear base) loaded t

  pub linear-small : base.offset + w + n ≤ 2 ^ 54
  linear-small = let room = small_named c base.device (base.offset + t.line.length) loaded range-inside in omega (arith, room, t.fits)

  pub linear-lies : (lower : Lower) → lower_at c d l 0 ≡ Some lower → LieOn c (Linear base) w n lower (base.offset + w)
  linear-lies lower at =
      let is : named c base.device ≡ Some lower = named-by c d l 0 (Linear base) base.device lower (target-names c d l (w + n) (Linear base) t) refl at in
      record {
        name = base.device;
        is = is;
        under = λ j h. let e : base.offset + (w + j) ≡ base.offset + w + j = omega arith in ap (λ (k : ℕ). Some (base.device, k)) e;
        inside = omega (arith, t.fits, inside_named c base.device lower (base.offset + t.line.length) range-inside is);
      }

-- ---- striped lines

-- the chunk in which a sector of a divided line lies ends inside the share of its device
stripe_room : (w len n chunk : ℕ) → 0 < n → 0 < chunk → w < len → len % (n * chunk) ≡ 0 → w / chunk / n * chunk + chunk ≤ len / n
stripe_room w len n chunk some_n some_chunk inside divided =
    let q : ℕ = len / (n * chunk) in
    let whole : q * (n * chunk) ≡ len = omega (arith, div-add-mod' len (n * chunk), divided) in
    let turned : chunk * n ≡ n * chunk = mul_comm chunk n in
    let regrouped : q * chunk * n ≡ q * (n * chunk) = mul_assoc q chunk n ∙ ap (λ (k : ℕ). q * k) turned in
    let share : len / n ≡ q * chunk = ap (λ (k : ℕ). k / n) (sym (regrouped ∙ whole)) ∙ mul-div_cancel (q * chunk) {n = n} some_n in
    let some : 0 < chunk * n = Rattle.std.proofs.lemmas.Nat.mul-lt 0 0 chunk n some_chunk some_n in
    let row : w / chunk / n < q = subst (λ (k : ℕ). k < q) (sym (div-div-eq-div-mul w chunk n)) (div_below w (chunk * n) q some (let e : q * (chunk * n) ≡ len = ap (λ (k : ℕ). q * k) turned ∙ whole in omega (arith, inside, e))) in
    omega (arith, share, row_fits (w / chunk / n) chunk q chunk row (omega arith))

base_inside : (c : Configuration) (bases : List Base) (i share : ℕ) (base : Base) → list_any (λ base. ends_past c base.device (base.offset + share)) bases ≡ false → slice_get bases i ≡ Some base → ends_past c base.device (base.offset + share) ≡ false
base_inside c [] i share base h e = cc
base_inside c (x ∷ bases) zero share base h e = let same : x ≡ base = cc in
    subst (λ (b : Base). ends_past c b.device (b.offset + share) ≡ false) same (or_parts (ends_past c x.device (x.offset + share)) (list_any (λ base. ends_past c base.device (base.offset + share)) bases) h).0
base_inside c (x ∷ bases) (suc i) share base h e = base_inside c bases i share base (or_parts (ends_past c x.device (x.offset + share)) (list_any (λ base. ends_past c base.device (base.offset + share)) bases) h).1 e

-- further on in the same chunk
pub chunk-more : (chunk w j : ℕ) → w % chunk + j < chunk → ((w + j) / chunk ≡ w / chunk) × ((w + j) % chunk ≡ w % chunk + j)
chunk-more chunk w j low =
    let split : w + j ≡ w / chunk * chunk + (w % chunk + j) = omega (arith, div-add-mod' w chunk) in
    (ap (λ (x : ℕ). x / chunk) split ∙ div-mul-add (w / chunk) chunk (w % chunk + j) low, ap (λ (x : ℕ). x % chunk) split ∙ mod-mul-add (w / chunk) chunk (w % chunk + j) low)

-- ---- parts of so many sectors: chunks, units and data blocks

pub part-more : (k w j : ℕ) → w % k + suc j < k → nat_lt ((w + j) % k + 1) k ≡ true
part-more k w j low =
    let next = chunk-more k w j (omega (arith, low)) in
    ap (λ (r : ℕ). nat_lt (r + 1) k) next.1 ∙ lt-ltb (w % k + j + 1) k (omega (arith, low))

-- the last sector of a part doesn't go down together with the next one
pub part-ends : (k e : ℕ) → 0 < k → 0 < e → e % k ≡ 0 → nat_lt ((e - 1) % k + 1) k ≡ false
part-ends k e some_k some_e whole =
    let q : ℕ = e / k in
    let all : q * k ≡ e = omega (arith, div-add-mod' e k, whole) in
    let some : 0 < q = positive q all in
    let one : q ≡ q - 1 + 1 = omega (arith, some) in
    let last : e - 1 ≡ (q - 1) * k + (k - 1) = omega (arith, all, some_k, some_e, ap (λ (x : ℕ). x * k) one, add-mul (q - 1) 1 k) in
    ap (λ (x : ℕ). nat_lt (x % k + 1) k) last
    ∙ ap (λ (x : ℕ). nat_lt (x + 1) k) (mod-mul-add (q - 1) k (k - 1) (omega (arith, some_k)))
    ∙ le-ltb (k - 1 + 1) k (omega (arith, some_k))
  where
    positive : (q : ℕ) → q * k ≡ e → 0 < q
    positive zero all = let none : 0 * k ≡ 0 = omega arith in absurd (omega (arith, some_e, all, none))
    positive (suc q) all = omega arith

-- a run that ends by its part or by what is asked for
pub part-longest : (k w count n : ℕ) → 0 < k → 0 < count → n ≡ min count (k - w % k) → (n ≡ count) ⊎ (nat_lt ((w + n - 1) % k + 1) k ≡ false)
part-longest k w count n some_k some is = elim (cases_lt (k - w % k) count) [
  | inl less ↦
      let low : w % k < k = mod_below w k some_k in
      let all : n ≡ k - w % k = omega (arith, is, less) in
      let end : w + n ≡ (w / k + 1) * k + 0 = omega (arith, all, low, div-add-mod' w k, add-mul (w / k) 1 k) in
      let whole : (w + n) % k ≡ 0 = ap (λ (x : ℕ). x % k) end ∙ mod-mul-add (w / k + 1) k 0 some_k in
      inr (part-ends k (w + n) some_k (omega (arith, all, low)) whole)
  | inr more ↦ inl (omega (arith, is, more))
]

-- the sector beneath, where its chunk and its place in the chunk are known
on_chunk : ℕ → List Base → ℕ → ℕ → Option (List ℕ × ℕ)
on_chunk chunk bases k r = option_map (λ (b : Base). (b.device, b.offset + (k / length bases * chunk + r))) (slice_get bases (k % length bases))

beneath-stripe : (chunk : ℕ) (bases : List Base) (base : Base) (w j : ℕ) → slice_get bases (w / chunk % length bases) ≡ Some base → w % chunk + j < chunk
    → beneath (Striped chunk bases) (w + j) ≡ Some (base.device, base.offset + w / chunk / length bases * chunk + w % chunk + j)
unfolding on_chunk
beneath-stripe chunk bases base w j at low =
    let same = chunk-more chunk w j low in
    let first : on_chunk chunk bases ((w + j) / chunk) ((w + j) % chunk) ≡ on_chunk chunk bases (w / chunk) ((w + j) % chunk) = ap (λ (q : ℕ). on_chunk chunk bases q ((w + j) % chunk)) same.0 in
    let second : on_chunk chunk bases (w / chunk) ((w + j) % chunk) ≡ on_chunk chunk bases (w / chunk) (w % chunk + j) = ap (on_chunk chunk bases (w / chunk)) same.1 in
    let third : on_chunk chunk bases (w / chunk) (w % chunk + j) ≡ Some (base.device, base.offset + (w / chunk / length bases * chunk + (w % chunk + j))) =
    ap (option_map (λ (b : Base). (b.device, b.offset + (w / chunk / length bases * chunk + (w % chunk + j))))) at in
    let regrouped : base.offset + (w / chunk / length bases * chunk + (w % chunk + j)) ≡ base.offset + w / chunk / length bases * chunk + w % chunk + j = omega arith in
    first ∙ second ∙ third ∙ ap (λ (x : ℕ). Some (base.device, x)) regrouped

module _ (c : Configuration) (d l chunk : ℕ) (bases : List Base) (w n : ℕ) (loaded : IsLoaded c) (g : IsStripedOfGrammar chunk bases) (t : HasTarget c d l (Striped chunk bases) (w + n)) where
  room : 0 < n → w / chunk / length bases * chunk + chunk ≤ t.line.length / length bases
  room some =
      stripe_room w t.line.length (length bases) chunk (omega (arith, g.some)) (omega (arith, g.chunk_some)) (omega (arith, some, t.fits))
      (eqb-true (t.line.length % (length bases * chunk)) 0 (not-false _ (target-divided c d l (w + n) (Striped chunk bases) loaded t)))

  module _ (base : Base) (at : slice_get bases (w / chunk % length bases) ≡ Some base) (m : ℕ) (some : 0 < m) (fits : m ≤ n) (one_chunk : w % chunk + m ≤ chunk) where
    past : ends_past c base.device (base.offset + t.line.length / length bases) ≡ false
    past = base_inside c bases (w / chunk % length bases) (t.line.length / length bases) base (sym (is_beyond-striped c t.line.length chunk bases) ∙ target-inside c d l (w + n) (Striped chunk bases) loaded t) at

    pub striped-small : base.offset + w / chunk / length bases * chunk + w % chunk + m ≤ 2 ^ 54
    striped-small = omega (arith, small_named c base.device (base.offset + t.line.length / length bases) loaded past, room (omega (arith, some, fits)), one_chunk)

    pub striped-lies : (lower : Lower) → lower_at c d l (w / chunk % length bases) ≡ Some lower → LieOn c (Striped chunk bases) w m lower (base.offset + w / chunk / length bases * chunk + w % chunk)
    striped-lies lower is_at =
        let k : ℕ = w / chunk in
        let name_at : slice_get (names (Striped chunk bases)) (k % length bases) ≡ Some base.device = slice_get-map (λ (b : Base). b.device) bases (k % length bases) ∙ ap (option_map (λ (b : Base). b.device)) at in
        let is : named c base.device ≡ Some lower = named-by c d l (k % length bases) (Striped chunk bases) base.device lower (target-names c d l (w + n) (Striped chunk bases) t) name_at is_at in
        record {
          name = base.device;
          is = is;
          under = λ j h. beneath-stripe chunk bases base w j at (omega (arith, h, one_chunk));
          inside = omega (arith, inside_named c base.device lower (base.offset + t.line.length / length bases) past is, room (omega (arith, some, fits)), one_chunk);
        }
