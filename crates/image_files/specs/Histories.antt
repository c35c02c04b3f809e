-- Calls of an opener, one after the other.
use Rattle.std.specs.Prelude.{◌≡◌, ℕ, suc, List, [], ◌∷◌, Some, slice_get}
use Rattle.image_files.specs.ImageCalls.{ImageCall, Open, OpenPart, Narrow, Lack, ReadText, Close, ClosePart, Grow, Shrink, Measure, Compare, Replace, TryReplace}
use Rattle.image_files.specs.Opener.{Opener}

-- the call was made
abbrev pub IsMade : {S D : Type 0} → Opener S D → S → ImageCall D → S → Type 0
IsMade o old (Open path writable outcome) new = o.opens old path writable outcome new
IsMade o old (OpenPart path writable part outcome) new = o.opens_part old path writable part outcome new
IsMade o old (Narrow device part narrowed) new = o.narrows old device part narrowed new
IsMade o old (Lack device lost lacking) new = o.lacks old device lost lacking new
IsMade o old (ReadText path most outcome) new = o.tells old path most outcome new
IsMade o old (Close path device) new = o.takes old path device new
IsMade o old (ClosePart path part device) new = o.takes_part old path part device new
IsMade o old (Grow path sectors outcome) new = o.grows old path sectors outcome new
IsMade o old (Shrink path sectors outcome) new = o.shrinks old path sectors outcome new
IsMade o old (Measure path outcome) new = o.measures old path outcome new
IsMade o old (Compare path other outcome) new = o.compares old path other outcome new
IsMade o old (Replace path bytes outcome) new = o.replaces old path bytes outcome new
IsMade o old (TryReplace path outcome) new = o.tries old path outcome new

-- a call, and those that follow it
pub record IsMadeFirst {S D : Type 0} (o : Opener S D) (old : S) (call : ImageCall D) (Rest : S → Type 0) : Type 0 where
  pub between : S
  pub made : IsMade o old call between
  pub rest : Rest between

-- these calls were made, each on what the one before left
abbrev pub AreMade : {S D : Type 0} → Opener S D → S → List (ImageCall D) → S → Type 0
AreMade o old [] new = new ≡ old
AreMade o old (call ∷ rest) new = IsMadeFirst o old call (λ between. AreMade o between rest new)

-- it is the call of a history after n of its calls
abbrev pub IsCallAt : {D : Type 0} → List (ImageCall D) → ℕ → ImageCall D → ℕ → Type 0
IsCallAt calls n call n' = (slice_get calls n ≡ Some call) × (n' ≡ suc n)

-- a history as an opener, whose value is how many of its calls were made
abbrev pub in_history : {D : Type 0} → List (ImageCall D) → Opener ℕ D
in_history calls = record {
  opens = λ n path writable outcome n'. IsCallAt calls n (Open path writable outcome) n';
  opens_part = λ n path writable part outcome n'. IsCallAt calls n (OpenPart path writable part outcome) n';
  narrows = λ n device part narrowed n'. IsCallAt calls n (Narrow device part narrowed) n';
  lacks = λ n device lost lacking n'. IsCallAt calls n (Lack device lost lacking) n';
  tells = λ n path most outcome n'. IsCallAt calls n (ReadText path most outcome) n';
  takes = λ n path device n'. IsCallAt calls n (Close path device) n';
  takes_part = λ n path part device n'. IsCallAt calls n (ClosePart path part device) n';
  grows = λ n path sectors outcome n'. IsCallAt calls n (Grow path sectors outcome) n';
  shrinks = λ n path sectors outcome n'. IsCallAt calls n (Shrink path sectors outcome) n';
  measures = λ n path outcome n'. IsCallAt calls n (Measure path outcome) n';
  compares = λ n path other outcome n'. IsCallAt calls n (Compare path other outcome) n';
  replaces = λ n path bytes outcome n'. IsCallAt calls n (Replace path bytes outcome) n';
  tries = λ n path outcome n'. IsCallAt calls n (TryReplace path outcome) n';
}
