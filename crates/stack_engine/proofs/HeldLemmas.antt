-- The bytes of a write, which are the caller's or a buffer's, and those of one of its runs.
use Rattle.std.proofs.Common.{◌≡◌, ℕ, ◌+◌, ◌-◌, ◌*◌, ◌/◌, ◌%◌, ◌<◌, ◌≤◌, ◌⊎◌, min, List, [], ◌++◌, length, take, drop, sym, ap, ◌∙◌, subst, arith, inl, inr}
use Rattle.std.proofs.lemmas.List.{length-take, length-drop, length-append, append-nil, take_all, drop_all, drop-drop}
use Rattle.std.proofs.lemmas.Bool.{cases_lt}
use Rattle.std.proofs.Math.Seq.{drop-nil}
use Rattle.std.proofs.lemmas.Slice.{drop-put_mid}
use borrow.Rule.Slice.PartMut.{put_mid}
use Rattle.stack_rules.specs.Records.{Configuration}
use Rattle.stack_rules.specs.Names.{mapped}
use Rattle.stack_rules.specs.Rules.{IsLoaded}
use Rattle.stack_lines.specs.declared.source.CryptPart.{CryptPart}
use Rattle.stack_lines.specs.declared.source.Source.{Source}
use Rattle.stack_lines.specs.declared.source.Source.TheVariants.{Units, UnitPart}
use Rattle.stack_meaning.specs.Meaning.{Said, said_at}
use Rattle.stack_lines.specs.Sources.{IsServed, SourceHolds, source_said}
use Rattle.stack_lines.specs.Writing.{AreSectors, SomeEncrypt, AreHeld}
use Rattle.stack_engine.specs.Premises.{FitsIn}
use Rattle.stack_lines.proofs.lemmas.EncryptLemmas.{units-some, unit_part-some, run-some}

-- ---- parts of lists

-- a part as far as the bytes go
pub part-min : (xs : List ℕ) (at end from to : ℕ) → at ≤ end → from ≡ min at (length xs) → to ≡ min end (length xs) → take (to - from) (drop from xs) ≡ take (end - at) (drop at xs)
part-min xs at end from to h e f = elim (cases_lt at (length xs)) [
  | inl low ↦
      let a : from ≡ at = omega (arith, low, e) in
      ap (λ (k : ℕ). take (to - k) (drop k xs)) a ∙ (elim (cases_lt end (length xs)) [
        | inl below ↦ let b : to ≡ end = omega (arith, below, f) in ap (λ (k : ℕ). take (k - at) (drop at xs)) b
        | inr past ↦ take_all (to - at) (drop at xs) (omega (arith, past, f, length-drop at xs)) ∙ sym (take_all (end - at) (drop at xs) (omega (arith, past, h, length-drop at xs)))
      ])
  | inr high ↦
      let a : from ≡ length xs = omega (arith, high, e) in
      ap (λ (l : List ℕ). take (to - from) l) (drop_all from xs (omega (arith, a)) ∙ sym (drop_all at xs (omega (arith, high))))
      ∙ take_all (to - from) (drop at xs) (omega (arith, f, a, length-drop at xs))
      ∙ sym (take_all (end - at) (drop at xs) (omega (arith, high, length-drop at xs)))
]

-- what is the same from one place on is the same further on
pub rest-later : (xs ys : List ℕ) (at more : ℕ) → drop at xs ≡ drop at ys → drop (at + more) xs ≡ drop (at + more) ys
rest-later xs ys at more e = sym (drop-drop more at xs) ∙ ap (drop more) e ∙ drop-drop more at ys

-- the rest after a part that was changed
pub rest-kept : (xs ys new : List ℕ) (at end from to : ℕ) → at ≤ end → from ≡ min at (length xs) → to ≡ min end (length xs) → length new ≡ to - from → drop at xs ≡ drop at ys
    → drop end (put_mid from (to - from) xs new) ≡ drop end ys
rest-kept xs ys new at end from to h e f len rest =
    let more : at + (end - at) ≡ end = omega (arith, h) in
    drop-put_mid from (to - from) xs new end (omega (arith, h, e, f)) (omega (arith, e)) len
    ∙ ap (λ (k : ℕ). drop k xs) (sym more) ∙ rest-later xs ys at (end - at) rest ∙ ap (λ (k : ℕ). drop k ys) more

-- ---- bytes in one of two places

abbrev pub OneIsNone : List ℕ → List ℕ → Type 0
OneIsNone plain buffer = (plain ≡ []) ⊎ (buffer ≡ [])

part-none : (at n : ℕ) → take {A = ℕ} n (drop at []) ≡ []
part-none at n = ap (take n) (drop-nil {A = ℕ} at) ∙ take_all {A = ℕ} n [] (omega arith)

-- a part of what is in one of two places
pub part-held : (plain buffer : List ℕ) (at n : ℕ) → OneIsNone plain buffer → take n (drop at plain) ++ take n (drop at buffer) ≡ take n (drop at (plain ++ buffer))
part-held plain buffer at n one = elim one [
  | inl none ↦
      ap (λ (l : List ℕ). take n (drop at l) ++ take n (drop at buffer)) none
      ∙ ap (λ (l : List ℕ). l ++ take n (drop at buffer)) (part-none at n)
      ∙ ap (λ (l : List ℕ). take n (drop at (l ++ buffer))) (sym none)
  | inr none ↦
      ap (λ (l : List ℕ). take n (drop at plain) ++ take n (drop at l)) none
      ∙ ap (λ (l : List ℕ). take n (drop at plain) ++ l) (part-none at n)
      ∙ append-nil (take n (drop at plain))
      ∙ ap (λ (l : List ℕ). take n (drop at l)) (sym (append-nil plain))
      ∙ ap (λ (l : List ℕ). take n (drop at (plain ++ l))) (sym none)
]

pub one-none : (said : ℕ → Said) (first : ℕ) (plain buffer : List ℕ) → AreHeld said first plain buffer → OneIsNone plain buffer
one-none said first plain buffer held = elim held [ inl none ↦ inl none | inr other ↦ inr other.0 ]

-- the caller's are none where a line encrypts
pub none-plain : (said : ℕ → Said) (plain buffer : List ℕ) → AreSectors (plain ++ buffer) → AreHeld said 0 plain buffer → ((n : ℕ) → n ≡ length (plain ++ buffer) / 512 → 0 < n → SomeEncrypt said 0 n) → plain ≡ []
none-plain said plain buffer sectors held some = elim held [
  | inl none ↦ none
  | inr other ↦
      let long = ap (λ (b : List ℕ). length (plain ++ b)) other.0 in
      let same : length plain / 512 ≡ length (plain ++ buffer) / 512 = omega (arith, long, length-append plain []) in
      absurd (other.1 (some (length plain / 512) same (omega (arith, sectors.some, sectors.whole, long, length-append plain []))))
]

-- the bytes of a run through a crypt line are a buffer's
module _ (c : Configuration) (x : CryptPart) (source : Source) (plain buffer : List ℕ) (fits : FitsIn c source (plain ++ buffer)) (held : AreHeld (source_said c source) 0 plain buffer) where
  abbrev Encrypts : Source → Type 0
  Encrypts from = (n : ℕ) → 0 < n → SourceHolds c from n → SomeEncrypt (source_said c from) 0 n

  none-of : (from : Source) → source ≡ from → Encrypts from → plain ≡ []
  none-of from is some =
      none-plain (source_said c source) plain buffer fits.sectors held
      (λ n same more. subst (λ (s : Source). SomeEncrypt (source_said c s) 0 n) (sym is) (some n more (subst (SourceHolds c from) (sym same) (subst (λ (s : Source). SourceHolds c s (length (plain ++ buffer) / 512)) is fits.holds))))

  pub none-of_units : source ≡ Units x → plain ≡ []
  none-of_units is = none-of (Units x) is (λ n more holds. units-some c x n more)

  pub none-of_part : source ≡ UnitPart x → plain ≡ []
  none-of_part is = none-of (UnitPart x) is (λ n more holds. unit_part-some c x n more)

-- the bytes of one run of a device
module _ (c : Configuration) (d first at count : ℕ) (plain buffer : List ℕ) (source : Source) (loaded : IsLoaded c) (some : 0 < count) (whole : at % 512 ≡ 0) (fits : at + count * 512 ≤ length (plain ++ buffer)) where
  pub run-held : IsServed c d (first + at / 512) count source → AreHeld (said_at c (mapped d)) first plain buffer → AreHeld (source_said c source) 0 (take (count * 512) (drop at plain)) (take (count * 512) (drop at buffer))
  run-held served held = elim held [
    | inl none ↦ inl (ap (λ (l : List ℕ). take (count * 512) (drop at l)) none ∙ part-none at (count * 512))
    | inr other ↦ inr (
      ap (λ (l : List ℕ). take (count * 512) (drop at l)) other.0 ∙ part-none at (count * 512),
      λ encrypted.
          let long : at + count * 512 ≤ length plain = omega (arith, fits, ap (λ (l : List ℕ). length (plain ++ l)) other.0, length-append plain []) in
          other.1 (run-some c d first (at / 512) count source loaded served (length (take (count * 512) (drop at plain)) / 512) (length plain / 512) (omega (arith, length-take (count * 512) (drop at plain)))
          (omega (arith, long, whole, length-take (count * 512) (drop at plain))) encrypted),
    )
  ]

-- how a run's part of a buffer is cut, where the buffer's front was changed
pub record IsCut (plain buffer now part : List ℕ) (at end from to : ℕ) : Type 0 where
  pub part_is : part ≡ take (end - at) (drop at plain)
  pub from_is : from ≡ min at (length buffer)
  pub to_is : to ≡ min end (length buffer)
  pub same_len : length now ≡ length buffer
  pub same_rest : drop at now ≡ drop at buffer
  pub order : at ≤ end

module _ {plain buffer now part : List ℕ} {at end from to : ℕ} (cut : IsCut plain buffer now part at end from to) where
  room-is : take (to - from) (drop from now) ≡ take (end - at) (drop at buffer)
  room-is =
      part-min now at end from to cut.order (cut.from_is ∙ ap (λ (k : ℕ). min at k) (sym cut.same_len)) (cut.to_is ∙ ap (λ (k : ℕ). min end k) (sym cut.same_len))
      ∙ ap (take (end - at)) cut.same_rest

  pub cut-bytes : OneIsNone plain buffer → part ++ take (to - from) (drop from now) ≡ take (end - at) (drop at (plain ++ buffer))
  cut-bytes one = ap (λ (l : List ℕ). l ++ take (to - from) (drop from now)) cut.part_is ∙ ap (λ (l : List ℕ). take (end - at) (drop at plain) ++ l) room-is ∙ part-held plain buffer at (end - at) one

  pub cut-rest : (new : List ℕ) → length new ≡ length (take (to - from) (drop from now)) → drop end (put_mid from (to - from) now new) ≡ drop end buffer
  cut-rest new len =
      rest-kept now buffer new at end from to cut.order (cut.from_is ∙ ap (λ (k : ℕ). min at k) (sym cut.same_len)) (cut.to_is ∙ ap (λ (k : ℕ). min end k) (sym cut.same_len))
      (len ∙ omega (arith, cut.from_is, cut.to_is, cut.same_len, cut.order, length-take (to - from) (drop from now), length-drop from now)) cut.same_rest

  pub cut-held : (c : Configuration) (d first count : ℕ) (source : Source) → IsLoaded c → 0 < count → at % 512 ≡ 0 → end ≡ at + count * 512 → end ≤ length (plain ++ buffer) → IsServed c d (first + at / 512) count source
      → AreHeld (said_at c (mapped d)) first plain buffer → AreHeld (source_said c source) 0 part (take (to - from) (drop from now))
  cut-held c d first count source loaded some whole is fits served held =
      let width : count * 512 ≡ end - at = omega (arith, is) in
      let all = run-held c d first at count plain buffer source loaded some whole (omega (arith, is, fits)) served held in
      subst (λ (l : List ℕ). AreHeld (source_said c source) 0 l (take (to - from) (drop from now))) (ap (λ (k : ℕ). take k (drop at plain)) width ∙ sym cut.part_is)
      (subst (λ (l : List ℕ). AreHeld (source_said c source) 0 (take (count * 512) (drop at plain)) l) (ap (λ (k : ℕ). take k (drop at buffer)) width ∙ sym room-is) all)
