-- The chains that answers hand out.
use Rattle.std.proofs.Common.{◌≡◌, ℕ, ◌+◌, suc, List, [], ◌∷◌, ◌++◌, map, get_or, set, take, drop, All, Contains, refl, sym, ap, ◌∙◌, subst, Result, Ok, Err}
use Rattle.std.specs.Prelude.{remove}
use Rattle.block_device.specs.Device.{synced}
use Rattle.std.proofs.lemmas.List.{get_or_default}
use Rattle.std.proofs.lemmas.List.Elements.{All-append, All-take, All-drop, All-set, All-cons, All-nil}
use Rattle.std.proofs.lemmas.Option.{slice_get_within, get_or_from_slice_get}
use Rattle.stack_rules.specs.declared.lower.Lower.{Lower}
use Rattle.stack_rules.specs.Names.{mapped}
use Rattle.stack_rules.specs.Records.{Configuration}
use Rattle.stack_rules.specs.Rules.{IsLoaded}
use Rattle.stack_meaning.specs.declared.fault.IoFault.{IoFault}
use Rattle.stack_meaning.specs.Found.{FoundRecord}
use Rattle.stack_engine.specs.Laws.{AnsweredChainsAreGood, ForgedAnswersCollide}
use Rattle.stack_meaning.specs.May.{MayBe}
use Rattle.stack_engine.specs.Stacks.{StackRecord, AnswerRecord}
use Rattle.request_queue.specs.declared.fault.BusyOr.TheVariants.{Busy, Fault}
use Rattle.request_queue.specs.declared.reply.Progress.{Progress}
use Rattle.request_queue.specs.declared.reply.Progress.TheVariants.{More, Done}
use Rattle.request_queue.specs.declared.reply.Reply.{Reply}
use Rattle.request_queue.specs.Chains.{reply_chains, answer_chains, progress_chains, chains_of, IsVerified}
use Rattle.request_queue.specs.Flights.{FlightRecord, WorkRecord, reads, writes, first_work, next_work, next_flight, first_flight, reply_to}
use Rattle.request_queue.specs.Parts.{AnyPart, AsksPiece, bytes_part, write_part, part_of_work, done_of, without_bytes, without_chains}
use Rattle.request_queue.specs.Requests.{RequestRecord, a_read, a_write}
use Rattle.request_queue.specs.World.{World, world, Event, submit, step, read_bytes, write_piece, load, remove_device, run, sync, Step, IsAt, Begins, Serves, AnswersStep, EndsRequest, at_once, later, next_count}
use Rattle.request_queue.specs.Runs.{Turn, AreTurns, last}
use Rattle.request_queue.proofs.lemmas.PartLemmas.{any-keeps}

-- the chains that a request has got so far
abbrev pub work_chains : WorkRecord → List FoundRecord
work_chains (reads got) = got.chains
work_chains (writes bytes) = []

abbrev pub AllVerified : Configuration → List FoundRecord → Type 0
AllVerified c chains = All (IsVerified c) chains

abbrev pub HasVerified : Configuration → FlightRecord → Type 0
HasVerified c f = AllVerified c (work_chains f.work)

-- what holds of each world: its configuration is loaded, and what its requests have got so far is verified
pub record IsHonest (w : World) : Type 0 where
  pub loaded : IsLoaded w.stack.config
  pub flights : All (HasVerified w.stack.config) w.in_flight

-- an event that hands out such chains leaves such a world, over the same configuration
pub record HandsOut (w : World) (chains : List FoundRecord) (w' : World) : Type 0 where
  pub honest : IsHonest w'
  pub verified : AllVerified w.stack.config chains
  pub config : w'.stack.config ≡ w.stack.config

-- an event hands out verified chains, and leaves such a world again
pub record IsHonestTurn (w : World) (e : Event) (w' : World) : Type 0 where
  pub honest : IsHonest w'
  pub chains : AllVerified w.stack.config (chains_of e)

-- ---- worlds

honest-over : (c : Configuration) (stack : StackRecord) (given : ℕ) (fs : List FlightRecord) → stack.config ≡ c → IsLoaded c → All (HasVerified c) fs → IsHonest (world stack given fs)
honest-over c stack given fs same loaded all = record { loaded = subst IsLoaded (sym same) loaded; flights = subst (λ (x : Configuration). All (HasVerified x) fs) (sym same) all }

hands-out : (w : World) (chains : List FoundRecord) (stack : StackRecord) (fs : List FlightRecord) (w' : World) → w' ≡ world stack w.given fs → stack.config ≡ w.stack.config → IsLoaded w.stack.config
    → All (HasVerified w.stack.config) fs → AllVerified w.stack.config chains → HandsOut w chains w'
hands-out w chains stack fs w' is same loaded all out = subst (HandsOut w chains) (sym is) (record { honest = honest-over w.stack.config stack w.given fs same loaded all; verified = out; config = same })

-- nothing is handed out
same-world : (w w' : World) → IsHonest w → w' ≡ w → HandsOut w [] w'
same-world w w' honest same = subst (HandsOut w []) (sym same) (record { honest = honest; verified = All-nil _; config = refl })

without : (c : Configuration) (fs : List FlightRecord) (i : ℕ) → All (HasVerified c) fs → All (HasVerified c) (remove fs i)
without c fs i all = All-append (HasVerified c) (take i fs) (drop (suc i) fs) (All-take (HasVerified c) i fs all) (All-drop (HasVerified c) (suc i) fs all)

-- what holds of each holds of the one at a place
at-place : (c : Configuration) (fs : List FlightRecord) (t i : ℕ) (f : FlightRecord) → IsAt fs t i f → All (HasVerified c) fs → HasVerified c f
at-place c fs t i f at all = subst (HasVerified c) (get_or_from_slice_get fs i f f at.is) (all i f (slice_get_within fs i f at.is))

first-none : (r : RequestRecord) → work_chains (first_work r) ≡ []
first-none (a_read name first count) = refl
first-none (a_write name first bytes) = refl

begun : (w : World) (r : RequestRecord) (t : ℕ) (w' : World) → IsHonest w → Begins w r t w' → HandsOut w [] w'
begun w r t w' honest b =
    let f = first_flight (w.given + 1) b.range r in
    let none : HasVerified w.stack.config f = subst (AllVerified w.stack.config) (sym (first-none r)) (All-nil _) in
    let all = All-append (HasVerified w.stack.config) w.in_flight (f ∷ []) honest.flights (All-cons (HasVerified w.stack.config) f [] none (All-nil _)) in
    subst (HandsOut w []) (sym b.leaves) (record { honest = honest-over w.stack.config w.stack (w.given + 1) (w.in_flight ++ f ∷ []) refl honest.loaded all; verified = All-nil _; config = refl })

pub idle-honest : (w : World) → IsLoaded w.stack.config → w.in_flight ≡ [] → IsHonest w
idle-honest w loaded none = record { loaded = loaded; flights = subst (All (HasVerified w.stack.config)) (sym none) (All-nil _) }

reply-out : (c : Configuration) (work : WorkRecord) → AllVerified c (work_chains work) → AllVerified c (reply_chains (reply_to work))
reply-out c (reads got) all = all
reply-out c (writes bytes) all = all

-- ---- what follows from the laws of pieces

module _ (good : AnsweredChainsAreGood) (forged : ForgedAnswersCollide) where
  -- one chain of a piece
  chain-verified : (c : Configuration) → IsLoaded c → (lower : Lower) (first n : ℕ) (bytes : List ℕ) (chains : List FoundRecord) → MayBe c lower first n bytes chains
      → (x : FoundRecord) → Contains chains x → IsVerified c x
  chain-verified c loaded lower first n bytes chains may x there =
      let own = good c lower first n bytes chains may x there in
      record {
        line = own.0;
        has = own.1;
        good = own.2;
        forged = λ blocks data_of unlike.
            let found = forged c loaded lower first n bytes chains may x there own.0 own.1 blocks data_of.sized data_of.root_is unlike in
            record { place = found.0; topmost = found.1.0; collision = found.1.1 };
      }

  piece-verified : (c : Configuration) → IsLoaded c → (lower : Lower) (first n : ℕ) (got : AnswerRecord) → MayBe c lower first n got.bytes got.chains → AllVerified c got.chains
  piece-verified c loaded lower first n got may = λ k d below.
      let x : FoundRecord = get_or got.chains k d in
      chain-verified c loaded lower first n got.bytes got.chains may x (k, below, get_or_default got.chains k x d below)

  -- a request after one piece more
  work-verified : (v : StackRecord) (d first done n : ℕ) (work : WorkRecord) (got : AnswerRecord) (v' : StackRecord) → IsLoaded v.config → AnyPart v d first (part_of_work work done n) (Ok got) v'
      → AllVerified v.config (work_chains work) → AllVerified v.config (work_chains (next_work work got))
  work-verified v d first done n (reads old) got v' loaded p all = All-append (IsVerified v.config) old.chains got.chains all (piece-verified v.config loaded (mapped d) first n got p.answered.may)
  work-verified v d first done n (writes bytes) got v' loaded p all = all

  module _ (w : World) (honest : IsHonest w) (i : ℕ) (f : FlightRecord) (own : HasVerified w.stack.config f) where
    same-config : (stack : StackRecord) (answer : Result AnswerRecord IoFault) → AsksPiece AnyPart w.stack f answer stack → stack.config ≡ w.stack.config
    same-config stack answer p = (any-keeps w.stack f.rest.device.0 f.rest.first (part_of_work f.work (done_of f) (next_count w f)) answer stack p).config

    with-piece : (stack : StackRecord) (got : AnswerRecord) → AsksPiece AnyPart w.stack f (Ok got) stack → HasVerified w.stack.config (next_flight f (next_count w f) got)
    with-piece stack got p = work-verified w.stack f.rest.device.0 f.rest.first (done_of f) (next_count w f) f.work got stack honest.loaded p own

    answered : (progress : Progress) (w' : World) → AnswersStep AnyPart w i f progress w' → HandsOut w (progress_chains progress) w'
    answered More w' s =
        let next = next_flight f (next_count w f) s.got in
        hands-out w [] s.stack (set w.in_flight i next) w' s.leaves (same-config s.stack (Ok s.got) s.asks) honest.loaded
        (All-set (HasVerified w.stack.config) w.in_flight i next (with-piece s.stack s.got s.asks) honest.flights) (All-nil _)
    answered (Done (Ok reply)) w' s =
        let next = next_flight f (next_count w f) s.got in
        hands-out w (reply_chains reply) s.stack (remove w.in_flight i) w' s.leaves (same-config s.stack (Ok s.got) s.asks) honest.loaded
        (without w.stack.config w.in_flight i honest.flights)
        (subst (λ (x : Reply). AllVerified w.stack.config (reply_chains x)) (sym s.replies) (reply-out w.stack.config next.work (with-piece s.stack s.got s.asks)))
    answered (Done (Err fault)) w' s =
        hands-out w [] s.stack (remove w.in_flight i) w' s.leaves (same-config s.stack (Err fault) s.asks) honest.loaded (without w.stack.config w.in_flight i honest.flights) (All-nil _)

  served : (w : World) (t : ℕ) (progress : Progress) (w' : World) → IsHonest w → Serves AnyPart w t progress w' → HandsOut w (progress_chains progress) w'
  served w t progress w' honest s = answered w honest s.i s.f (at-place w.stack.config w.in_flight t s.i s.f s.at honest.flights) progress w' s.answers

  after-another : (w v w' : World) (chains : List FoundRecord) → v.stack.config ≡ w.stack.config → HandsOut v chains w' → HandsOut w chains w'
  after-another w v w' chains same out = record { honest = out.honest; verified = subst (λ (c : Configuration). AllVerified c chains) same out.verified; config = out.config ∙ same }

  ended : (t : ℕ) (answer : Result Reply IoFault) (w w' : World) → IsHonest w → EndsRequest AnyPart t answer w w' → HandsOut w (answer_chains answer) w'
  ended t answer w w' honest (at_once s) = served w t (Done answer) w' honest s
  ended t answer w w' honest (later {v = v} s more) =
      let first = served w t More v honest s in
      after-another w v w' (answer_chains answer) first.config (ended t answer v w' first.honest more)

  -- ---- events

  turn-of : (w : World) (e : Event) (w' : World) → HandsOut w (chains_of e) w' → IsHonestTurn w e w'
  turn-of w e w' out = record { honest = out.honest; chains = out.verified }

  pub honest-turn : (w : World) (e : Event) (w' : World) → IsHonest w → Step AnyPart w e w' → IsHonestTurn w e w'
  honest-turn w (submit r (Ok t)) w' honest s = turn-of w (submit r (Ok t)) w' (begun w r t w' honest s)
  honest-turn w (submit r (Err fault)) w' honest s = turn-of w (submit r (Err fault)) w' (same-world w w' honest s.same)
  honest-turn w (step t (Ok progress)) w' honest s = turn-of w (step t (Ok progress)) w' (served w t progress w' honest s)
  honest-turn w (step t (Err none)) w' honest s = turn-of w (step t (Err none)) w' (same-world w w' honest s.1)
  honest-turn w (read_bytes d first bytes (Ok answer)) w' honest s =
      let kept = any-keeps w.stack s.range.device.0 s.range.first (bytes_part s.range.count) (without_chains answer) s.stack s.asks in
      turn-of w (read_bytes d first bytes (Ok answer)) w' (hands-out w [] s.stack w.in_flight w' s.leaves kept.config honest.loaded honest.flights (All-nil _))
  honest-turn w (read_bytes d first bytes (Err fault)) w' honest s = turn-of w (read_bytes d first bytes (Err fault)) w' (same-world w w' honest s.1)
  honest-turn w (write_piece d first bytes result) w' honest s =
      let kept = any-keeps w.stack d first (write_part bytes) (without_bytes result) s.stack s.asks in
      turn-of w (write_piece d first bytes result) w' (hands-out w [] s.stack w.in_flight w' s.leaves kept.config honest.loaded honest.flights (All-nil _))
  honest-turn w (load text (Ok done)) w' honest s = record { honest = idle-honest w' s.loaded (ap (λ (x : World). x.in_flight) s.leaves ∙ s.idle); chains = All-nil _ }
  honest-turn w (load text (Err Busy)) w' honest s = turn-of w (load text (Err Busy)) w' (same-world w w' honest s.1)
  honest-turn w (load text (Err (Fault fault))) w' honest s = turn-of w (load text (Err (Fault fault))) w' (same-world w w' honest s.2)
  honest-turn w (remove_device name (Ok done)) w' honest s = record { honest = idle-honest w' s.loaded (ap (λ (x : World). x.in_flight) s.leaves ∙ s.idle); chains = All-nil _ }
  honest-turn w (remove_device name (Err Busy)) w' honest s = turn-of w (remove_device name (Err Busy)) w' (same-world w w' honest s.1)
  honest-turn w (remove_device name (Err (Fault fault))) w' honest s = turn-of w (remove_device name (Err (Fault fault))) w' (same-world w w' honest s.2)
  honest-turn w (run r (Ok answer)) w' honest s =
      let first = begun w r (w.given + 1) s.begun honest s.begins in
      turn-of w (run r (Ok answer)) w' (after-another w s.begun w' (answer_chains answer) first.config (ended (w.given + 1) answer s.begun w' first.honest s.ends))
  honest-turn w (run r (Err fault)) w' honest s = turn-of w (run r (Err fault)) w' (same-world w w' honest s.same)
  honest-turn w (sync (Ok done)) w' honest s =
      let stack : StackRecord = record w.stack { leaves = map synced w.stack.leaves } in
      turn-of w (sync (Ok done)) w' (hands-out w [] stack w.in_flight w' s refl honest.loaded honest.flights (All-nil _))
  honest-turn w (sync (Err fault)) w' honest s =
      let stack : StackRecord = record w.stack { leaves = s.after } in
      turn-of w (sync (Err fault)) w' (hands-out w [] stack w.in_flight w' s.leaves refl honest.loaded honest.flights (All-nil _))

  pub honest-run : (w : World) (turns : List Turn) → IsHonest w → AreTurns AnyPart w turns → IsHonest (last w turns)
  honest-run w [] honest r = honest
  honest-run w (x ∷ more) honest r = honest-run x.after more (honest-turn w x.event x.after honest r.0).honest r.1
