-- Replies to commands.
use Rattle.std.proofs.Common.{◌≡◌, List, ℕ, refl, ap, sym, ◌∙◌, subst, inl, Result, Ok, Some, None}
use Rattle.std.specs.Prelude.{option_map, Option}
use Rattle.std.specs.Option.{option_map_or}
use Rattle.stack_rules.specs.declared.lower.DevId.{DevId}
use Rattle.stack_rules.specs.Records.{Configuration}
use Rattle.stack_rules.specs.Names.{device_named}
use Rattle.request_queue.specs.declared.fault.SubmitFault.TheVariants.{NoSuchDevice}
use Rattle.request_queue.specs.declared.fault.SubmitFault.{SubmitFault}
use Rattle.request_queue.specs.Parts.{EachPart}
use Rattle.request_queue.specs.Requests.{RequestRecord}
use Rattle.request_queue.specs.World.{World, Step}
use Rattle.request_queue.specs.World as event
use Rattle.program_io.specs.declared.fault.WriteFault.{WriteFault}
use Rattle.request_queue.specs.declared.fault.NoSuchTicket.{NoSuchTicket}
use Rattle.request_queue.specs.declared.reply.Progress.{Progress}
use Rattle.request_queue.specs.declared.reply.Progress.TheVariants.{Done}
use Rattle.request_queue.specs.declared.reply.Reply.{Reply}
use Rattle.stack_session.specs.Commands.{step, submit}
use Rattle.program_io.specs.Counted.{CountedRecord, Writes}
use Rattle.stack_session.specs.Texts.{reply_text, step_text, submit_text, submission_text}
use Rattle.stack_session.specs.Replies.{device_text, first_sector, RepliesTo, WholeStep}
use Rattle.stack_session.specs.Session.{WritesReply}

named-none : (o : Option ℕ) → None ≡ option_map {U = DevId} (λ d. record { 0 = d }) o → o ≡ None
named-none None e = refl
named-none (Some d) e = let one : DevId = record { 0 = d } in let clash : None ≡ Some one = e in cc

named-some : (o : Option ℕ) (d : DevId) → Some d ≡ option_map {U = DevId} (λ d. record { 0 = d }) o → o ≡ Some d.0
named-some None d e = let clash : Some d ≡ None = e in cc
named-some (Some x) d e =
    let one : DevId = record { 0 = x } in
    let same : Some d ≡ Some one = e in
    let inner : d ≡ one = cc in
    ap (λ y. Some y.0) (sym inner)

-- what is printed of a name that no device has
pub device_text-none : (c : Configuration) (name : List ℕ) (text : ℕ → List ℕ) → None ≡ option_map {U = DevId} (λ d. record { 0 = d }) (device_named c name)
    → submit_text NoSuchDevice ≡ device_text c name text
device_text-none c name text e = ap (λ o. option_map_or text o (submit_text NoSuchDevice)) (sym (named-none (device_named c name) e))

-- what is printed of a device
pub device_text-some : (c : Configuration) (name : List ℕ) (text : ℕ → List ℕ) (d : DevId) → Some d ≡ option_map {U = DevId} (λ d. record { 0 = d }) (device_named c name)
    → text d.0 ≡ device_text c name text
device_text-some c name text d e = ap (λ o. option_map_or text o (submit_text NoSuchDevice)) (sym (named-some (device_named c name) d e))

-- a text that is written is a reply of which P holds
pub writes_reply : {T : Type 0} {old new : CountedRecord T} {result : Result Unit WriteFault} (contents : T → Option (List ℕ)) (P : List ℕ → Type 0) (reply : List ℕ)
    → P reply → Writes contents old new reply result → WritesReply contents old new P result
writes_reply contents P reply holds writes = record { reply = reply; holds = holds; writes = writes }

pub submit_replies : (w w' : World) (r s : RequestRecord) (result : Result ℕ SubmitFault) → s ≡ r → Step EachPart w (event.submit s result) w'
    → RepliesTo WholeStep w (submit r) (submission_text result) w'
submit_replies w w' r s result same each = subst (λ x. RepliesTo WholeStep w (submit x) (submission_text result) w') same (inl (result, record { each = each; whole = tt }, refl))

-- a piece that ends its request, whose sectors are numbered from its first
pub step_replies : (w w' : World) (ticket first : ℕ) (reply : Reply) (result : Result Progress NoSuchTicket) → result ≡ Ok (Done (Ok reply)) → first ≡ first_sector w ticket → Step EachPart w (event.step ticket result) w'
    → RepliesTo WholeStep w (step ticket) (reply_text first reply) w'
step_replies w w' ticket first reply result is same each =
    (result, record { each = each; whole = tt }, ap (λ n. reply_text n reply) same ∙ ap (λ r. step_text (first_sector w ticket) r) (sym is))
