-- Sectors of one chunk of an `unstriped` line lie one after another on the striped device.
use Rattle.std.proofs.Common.{◌≡◌, ℕ, ◌+◌, ◌*◌, ◌/◌, ◌%◌, ◌^◌, ◌<◌, ◌≤◌, false, List, Option, Some, refl, sym, ap, ◌∙◌, arith}
use Rattle.std.proofs.lemmas.Bool.{eqb-true, not-false}
use Rattle.std.proofs.Math.Nat.{mul-le-mul_left}
use Rattle.dm_table.specs.declared.unstriped.Unstriped.{Unstriped}
use Rattle.dm_table.specs.declared.table.Target.TheVariants.{Unstriped as unstriped_target}
use Rattle.dm_table.specs.Grammar.{IsUnstripedOfGrammar}
use Rattle.stack_rules.specs.declared.lower.Lower.{Lower}
use Rattle.stack_rules.specs.Records.{Configuration}
use Rattle.stack_rules.specs.Names.{named}
use Rattle.stack_rules.specs.Lines.{lower_at}
use Rattle.stack_rules.specs.Rules.{IsLoaded, is_undivided, ends_past}
use Rattle.stack_rules.specs.targets.Unstriped.{striped_span}
use Rattle.stack_rules.proofs.lemmas.targets.Unstriped.{unstriped-room, is_beyond-unstriped}
use Rattle.stack_meaning.specs.Beneath.{beneath}
use Rattle.stack_meaning.proofs.lemmas.LoadedLemmas.{line-divided}
use Rattle.stack_lines.specs.Sources.{LieOn, HasTarget}
use Rattle.stack_lines.proofs.StripeLemmas.{named-by, inside_named, small_named, target-names, target-inside, chunk-more}

-- the sector beneath, where its chunk and its place in the chunk are known
on_stripe : Unstriped → ℕ → ℕ → Option (List ℕ × ℕ)
on_stripe line q r = Some (line.base.device, line.base.offset + ((q * line.stripes + line.stripe) * line.chunk + r))

beneath-unstriped : (line : Unstriped) (w j : ℕ) → w % line.chunk + j < line.chunk → beneath (unstriped_target line) (w + j) ≡ Some (line.base.device, line.base.offset + (w / line.chunk * line.stripes + line.stripe) * line.chunk + w % line.chunk + j)
unfolding on_stripe
beneath-unstriped line w j low =
    let same = chunk-more line.chunk w j low in
    let first : on_stripe line ((w + j) / line.chunk) ((w + j) % line.chunk) ≡ on_stripe line (w / line.chunk) ((w + j) % line.chunk) = ap (λ (q : ℕ). on_stripe line q ((w + j) % line.chunk)) same.0 in
    let second : on_stripe line (w / line.chunk) ((w + j) % line.chunk) ≡ on_stripe line (w / line.chunk) (w % line.chunk + j) = ap (on_stripe line (w / line.chunk)) same.1 in
    let regrouped : line.base.offset + ((w / line.chunk * line.stripes + line.stripe) * line.chunk + (w % line.chunk + j)) ≡ line.base.offset + (w / line.chunk * line.stripes + line.stripe) * line.chunk + w % line.chunk + j = omega arith in
    first ∙ second ∙ ap (λ (x : ℕ). Some (line.base.device, x)) regrouped

module _ (c : Configuration) (d l : ℕ) (line : Unstriped) (w n : ℕ) (loaded : IsLoaded c) (g : IsUnstripedOfGrammar line) (t : HasTarget c d l (unstriped_target line) (w + n)) where
  past : ends_past c line.base.device (line.base.offset + striped_span line t.line.length) ≡ false
  past = sym (is_beyond-unstriped c t.line.length line) ∙ target-inside c d l (w + n) (unstriped_target line) loaded t

  whole : t.line.length % line.chunk ≡ 0
  whole = eqb-true (t.line.length % line.chunk) 0 (not-false _ (sym (ap (is_undivided t.line.length) t.has) ∙ line-divided c d l t.line loaded.valid t.is))

  room : 0 < n → (w / line.chunk * line.stripes + line.stripe) * line.chunk + line.chunk ≤ striped_span line t.line.length
  room some = unstriped-room line t.line.length w g.chunk_some whole (omega (arith, some, t.fits))

  -- the sectors of the chunk are numbers that fit
  pub unstriped-small : 0 < n → line.base.offset + (w / line.chunk * line.stripes + line.stripe) * line.chunk + line.chunk ≤ 2 ^ 54
  unstriped-small some = omega (arith, small_named c line.base.device (line.base.offset + striped_span line t.line.length) loaded past, room some)

  pub unstriped-lies : (m : ℕ) → 0 < m → m ≤ n → w % line.chunk + m ≤ line.chunk → (lower : Lower) → lower_at c d l 0 ≡ Some lower
      → LieOn c (unstriped_target line) w m lower (line.base.offset + (w / line.chunk * line.stripes + line.stripe) * line.chunk + w % line.chunk)
  unstriped-lies m some fits one_chunk lower at =
      let is : named c line.base.device ≡ Some lower = named-by c d l 0 (unstriped_target line) line.base.device lower (target-names c d l (w + n) (unstriped_target line) t) refl at in
      record {
        name = line.base.device;
        is = is;
        under = λ j h. beneath-unstriped line w j (omega (arith, h, one_chunk));
        inside = omega (arith, inside_named c line.base.device lower (line.base.offset + striped_span line t.line.length) past is, room (omega (arith, some, fits)), one_chunk);
      }

-- the number of a chunk isn't above that of its first sector
pub chunk-low : (number chunk : ℕ) → 1 ≤ chunk → number ≤ number * chunk
chunk-low number chunk some = let least : number * 1 ≤ number * chunk = mul-le-mul_left number some in omega (arith, least)
