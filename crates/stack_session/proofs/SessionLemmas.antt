-- How a session goes on.
use Rattle.std.proofs.Common.{◌≡◌, ◌≢◌, ℕ, List, [], ◌∷◌, ◌++◌, refl, ap, sym, ◌∙◌, append_assoc, append-nil, subst, ◌+◌, ◌≤◌, length, arith, length-append}
use Rattle.std.specs.Prelude.{flat_map, Option, Err, IsErrOf, Result, Ok, OnOk}
use Rattle.std.proofs.KnownBytes.{Appends-nil, Appends-trans}
use Rattle.program_io.specs.Counted.{Grows}
use Rattle.stack_session.specs.Session.{Replying, ended, IsOneLine, ServesLines, ServesWhole, ServesAll}
use Rattle.std.proofs.lemmas.Grind.{flat_map-append}
use Rattle.std.proofs.lemmas.List.Elements.{All-append, All-nil, All-push}

-- an error is the same one in a result of another type
pub same_error : {T U E : Type 0} (fault error : E) → IsErrOf {T = T} (Err fault) error → IsErrOf {T = U} (Err fault) error
same_error fault error is = let same : fault ≡ error = cc in ap Err same

-- a run goes on by a run
pub ServesLines-append : {S : Type 0} (replies : Replying S) (a b c : S) (xs ys rs ss : List (List ℕ)) → ServesLines replies a xs rs b → ServesLines replies b ys ss c → ServesLines replies a (xs ++ ys) (rs ++ ss) c
ServesLines-append replies a b c [] ys [] ss p q = subst (λ n. ServesLines replies n ys ss c) p q
ServesLines-append replies a b c [] ys (r ∷ rs) ss p q = absurd p
ServesLines-append replies a b c (x ∷ xs) ys [] ss p q = absurd p
ServesLines-append replies a b c (x ∷ xs) ys (r ∷ rs) ss p q = (p.0, p.1, ServesLines-append replies p.0 b c xs ys rs ss p.2 q)

-- one more line
pub ServesLines-push : {S : Type 0} (replies : Replying S) (a b c : S) (xs rs : List (List ℕ)) (line reply : List ℕ) → ServesLines replies a xs rs b → replies b line reply c
    → ServesLines replies a (xs ++ line ∷ []) (rs ++ reply ∷ []) c
ServesLines-push replies a b c xs rs line reply p s =
    let one : ServesLines replies b (line ∷ []) (reply ∷ []) c = (c, s, refl) in
    ServesLines-append replies a b c xs (line ∷ []) rs (reply ∷ []) p one

joined_more : (xs : List (List ℕ)) (x : List ℕ) → flat_map (λ r. r) (xs ++ x ∷ []) ≡ flat_map (λ r. r) xs ++ x
joined_more xs x = flat_map-append (λ r. r) xs (x ∷ []) ∙ ap (λ t. flat_map (λ r. r) xs ++ t) (append-nil x)

ended_more : (xs : List (List ℕ)) (x : List ℕ) → flat_map ended (xs ++ x ∷ []) ≡ flat_map ended xs ++ ended x
ended_more xs x = flat_map-append ended xs (x ∷ []) ∙ ap (λ t. flat_map ended xs ++ t) (append-nil (ended x))

-- nothing is served yet
pub serves_nothing : {S : Type 0} (replies : Replying S) (first : S) (rest : List ℕ) (w : Option (List ℕ)) → IsOneLine rest → Grows w w (ServesWhole replies first rest first rest)
serves_nothing replies first rest w one = record {
  text = [];
  holds = record {
    whole = [];
    texts = [];
    cut = record { joined = refl; each = All-nil _; open_end = one };
    run = refl;
    joined = refl;
  };
  written = Appends-nil w;
}

-- bytes that end no line
pub serves_start : {S : Type 0} {replies : Replying S} {first now : S} {input rest : List ℕ} {old new : Option (List ℕ)} (start : List ℕ) → IsOneLine start
    → Grows old new (ServesWhole replies first input now rest) → Grows old new (ServesWhole replies first (input ++ start) now (rest ++ start))
serves_start {replies = replies} {first = first} {now = now} {input = input} {rest = rest} {old = old} {new = new} start one f = record {
  text = f.text;
  holds = record {
    whole = f.holds.whole;
    texts = f.holds.texts;
    cut = record {
      joined = ap (λ t. t ++ start) f.holds.cut.joined ∙ append_assoc (flat_map ended f.holds.whole) rest start;
      each = f.holds.cut.each;
      open_end = All-append (λ b. b ≢ 10) rest start f.holds.cut.open_end one;
    };
    run = f.holds.run;
    joined = f.holds.joined;
  };
  written = f.written;
}

-- a newline, and the reply to the line that it ends
pub serves_line : {S : Type 0} {replies : Replying S} {first now : S} {input rest : List ℕ} {old mid : Option (List ℕ)} (new : S) (later : Option (List ℕ))
    → Grows old mid (ServesWhole replies first input now rest) → Grows mid later (λ reply. replies now rest reply new) → Grows old later (ServesWhole replies first (input ++ 10 ∷ []) new [])
serves_line {replies = replies} {first = first} {now = now} {input = input} {rest = rest} {old = old} {mid = mid} new later f w = record {
  text = f.text ++ w.text;
  holds = record {
    whole = f.holds.whole ++ rest ∷ [];
    texts = f.holds.texts ++ w.text ∷ [];
    cut = record {
      joined = ap (λ t. t ++ 10 ∷ []) f.holds.cut.joined ∙ append_assoc (flat_map ended f.holds.whole) rest (10 ∷ [])
          ∙ sym (ended_more f.holds.whole rest) ∙ sym (append-nil (flat_map ended (f.holds.whole ++ rest ∷ [])));
      each = All-push IsOneLine f.holds.whole rest f.holds.cut.each f.holds.cut.open_end;
      open_end = All-nil _;
    };
    run = ServesLines-push replies first now new f.holds.whole f.holds.texts rest w.text f.holds.run w.holds;
    joined = ap (λ t. t ++ w.text) f.holds.joined ∙ sym (joined_more f.holds.texts w.text);
  };
  written = Appends-trans old mid later f.text w.text f.written w.written;
}

-- what was served of the input, and then of its open line and a piece
pub serves_more : {S : Type 0} {replies : Replying S} {first now last : S} {input rest left : List ℕ} (piece : List ℕ) {old mid new : Option (List ℕ)}
    → Grows old mid (ServesWhole replies first input now rest) → Grows mid new (ServesWhole replies now (rest ++ piece) last left) → Grows old new (ServesWhole replies first (input ++ piece) last left)
serves_more {replies = replies} {first = first} {now = now} {last = last} {input = input} {rest = rest} {left = left} piece {old = old} {mid = mid} {new = new} f m = record {
  text = f.text ++ m.text;
  holds = record {
    whole = f.holds.whole ++ m.holds.whole;
    texts = f.holds.texts ++ m.holds.texts;
    cut = record {
      joined = ap (λ t. t ++ piece) f.holds.cut.joined ∙ append_assoc (flat_map ended f.holds.whole) rest piece
          ∙ ap (λ t. flat_map ended f.holds.whole ++ t) m.holds.cut.joined
          ∙ sym (append_assoc (flat_map ended f.holds.whole) (flat_map ended m.holds.whole) left)
          ∙ ap (λ t. t ++ left) (sym (flat_map-append ended f.holds.whole m.holds.whole));
      each = All-append IsOneLine f.holds.whole m.holds.whole f.holds.cut.each m.holds.cut.each;
      open_end = m.holds.cut.open_end;
    };
    run = ServesLines-append replies first now last f.holds.whole m.holds.whole f.holds.texts m.holds.texts f.holds.run m.holds.run;
    joined = ap (λ t. t ++ m.text) f.holds.joined ∙ ap (λ t. flat_map (λ r. r) f.holds.texts ++ t) m.holds.joined
        ∙ sym (flat_map-append (λ r. r) f.holds.texts m.holds.texts);
  };
  written = Appends-trans old mid new f.text m.text f.written m.written;
}

-- the input's end, and the reply to the line that it ends
pub serves_end : {S : Type 0} {replies : Replying S} {first now : S} {input rest : List ℕ} {old mid : Option (List ℕ)} (last : S) (new : Option (List ℕ))
    → Grows old mid (ServesWhole replies first input now rest) → Grows mid new (λ reply. replies now rest reply last) → Grows old new (ServesAll replies first input last)
serves_end {replies = replies} {first = first} {now = now} {input = input} {rest = rest} {old = old} {mid = mid} last new f w = record {
  text = f.text ++ w.text;
  holds = record {
    whole = f.holds.whole;
    rest = rest;
    texts = f.holds.texts ++ w.text ∷ [];
    cut = f.holds.cut;
    run = ServesLines-push replies first now last f.holds.whole f.holds.texts rest w.text f.holds.run w.holds;
    joined = ap (λ t. t ++ w.text) f.holds.joined ∙ sym (joined_more f.holds.texts w.text);
  };
  written = Appends-trans old mid new f.text w.text f.written w.written;
}

-- what a piece has ahead of what is left of it was fed
pub record Feeding (piece left : List ℕ) (Fed : List ℕ → Type 0) : Type 0 where
  pub done : List ℕ
  pub split : piece ≡ done ++ left
  pub fed : Fed done

pub feeding_starts : {S : Type 0} (replies : Replying S) (first : S) (start piece : List ℕ) (w : Option (List ℕ)) → IsOneLine start
    → Feeding piece piece (λ done. Grows w w (ServesWhole replies first (start ++ done) first start))
feeding_starts replies first start piece w one = record {
  done = [];
  split = refl;
  fed = subst (λ t. Grows w w (ServesWhole replies first t first start)) (sym (append-nil start)) (serves_nothing replies first start w one);
}

-- the next line of a piece
pub feeding_line : {S : Type 0} {replies : Replying S} {first now : S} {piece left rest : List ℕ} {old mid : Option (List ℕ)} (start head tail : List ℕ) (last : S) (new : Option (List ℕ))
    → left ≡ head ++ 10 ∷ tail → IsOneLine head → Grows mid new (λ reply. replies now (rest ++ head) reply last)
    → Feeding piece left (λ done. Grows old mid (ServesWhole replies first (start ++ done) now rest))
    → Feeding piece tail (λ done. Grows old new (ServesWhole replies first (start ++ done) last []))
feeding_line {replies = replies} {first = first} {now = now} {piece = piece} {left = left} {rest = rest} {old = old} {mid = mid} start head tail last new cut one w f = record {
  done = f.done ++ (head ++ 10 ∷ []);
  split = f.split ∙ ap (λ t. f.done ++ t) (cut ∙ sym (append_assoc head (10 ∷ []) tail)) ∙ sym (append_assoc f.done (head ++ 10 ∷ []) tail);
  fed = subst (λ t. Grows old new (ServesWhole replies first t last []))
      (append_assoc (start ++ f.done) head (10 ∷ []) ∙ append_assoc start f.done (head ++ 10 ∷ []))
      (serves_line last new (serves_start head one f.fed) w);
}

-- what is left of a piece is kept
pub feeding_ends : {S E : Type 0} {replies : Replying S} {first now : S} {piece left rest : List ℕ} {old new : Option (List ℕ)} (start kept : List ℕ) (most : ℕ) (result : Result Unit E)
    → IsOneLine left → length rest + length left ≤ most → Feeding piece left (λ done. Grows old new (ServesWhole replies first (start ++ done) now rest)) → OnOk result (kept ≡ rest ++ left)
    → OnOk result ((length kept ≤ most) × Grows old new (ServesWhole replies first (start ++ piece) now kept))
feeding_ends start kept most (Err fault) one room f same = tt
feeding_ends {replies = replies} {first = first} {now = now} {piece = piece} {left = left} {rest = rest} {old = old} {new = new} start kept most (Ok done) one room f same =
    let all : Grows old new (ServesWhole replies first (start ++ piece) now (rest ++ left)) =
    subst (λ t. Grows old new (ServesWhole replies first t now (rest ++ left)))
    (append_assoc start f.done left ∙ ap (λ t. start ++ t) (sym f.split))
    (serves_start left one f.fed) in (
      omega (arith, ap length same, length-append rest left),
      subst (λ t. Grows old new (ServesWhole replies first (start ++ piece) now t)) (sym same) all,
    )
