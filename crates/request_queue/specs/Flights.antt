-- Requests in flight, and their parts.
use Rattle.std.specs.Prelude.{◌≡◌, ℕ, ◌+◌, ◌-◌, ◌*◌, ◌≤◌, ◌==◌, Bool, IsTrue, List, [], ◌++◌, length}
use Rattle.stack_rules.specs.Records.{Configuration}
use Rattle.stack_rules.specs.Names.{mapped, may_write}
use Rattle.stack_rules.specs.Descend.{read_cost, write_cost}
use Rattle.stack_engine.specs.Stacks.{AnswerRecord}
use Rattle.request_queue.specs.declared.range.SectorRange.{SectorRange}
use Rattle.request_queue.specs.declared.reply.Reply.{Reply}
use Rattle.request_queue.specs.declared.reply.Reply.TheVariants.{Sectors, Written}
use Rattle.request_queue.specs.declared.work.Work.{Work}
use Rattle.request_queue.specs.declared.work.Work.TheVariants.{Read, Write}
use Rattle.request_queue.specs.Ranges.{IsRangeInside, range_after}
use Rattle.request_queue.specs.Requests.{RequestRecord, a_read, a_write}

-- what a request does: it reads, and has read so much, or it writes these bytes in all
pub data WorkRecord : Type 0 where
  reads : AnswerRecord → WorkRecord
  writes : List ℕ → WorkRecord

abbrev pub work_record : Work → WorkRecord
work_record (Read got) = reads got
work_record (Write bytes) = writes bytes.items

-- a request in flight: its first sector, the sectors that are left, and what it does
pub record FlightRecord : Type 0 where
  pub ticket : ℕ
  pub first : ℕ
  pub rest : SectorRange
  pub work : WorkRecord

-- no bytes and no chains
abbrev pub nothing : AnswerRecord
nothing = record { bytes = []; chains = [] }

-- bytes and chains of two reads, one after the other
abbrev pub joint_answer : AnswerRecord → AnswerRecord → AnswerRecord
joint_answer a b = record { bytes = a.bytes ++ b.bytes; chains = a.chains ++ b.chains }

-- what a request does, before anything of it is done
abbrev pub first_work : RequestRecord → WorkRecord
first_work (a_read name first count) = reads nothing
first_work (a_write name first bytes) = writes bytes

-- with a piece more
abbrev pub next_work : WorkRecord → AnswerRecord → WorkRecord
next_work (reads got) piece = reads (joint_answer got piece)
next_work (writes bytes) piece = writes bytes

-- what is answered once all is done
abbrev pub reply_to : WorkRecord → Reply
reply_to (reads got) = Sectors got
reply_to (writes bytes) = Written

-- the most leaf sectors that one sector moves
abbrev pub work_cost : Configuration → ℕ → WorkRecord → ℕ
work_cost c d (reads got) = read_cost c (mapped d)
work_cost c d (writes bytes) = write_cost c (mapped d)

-- a request of which nothing is done yet
abbrev pub first_flight : ℕ → SectorRange → RequestRecord → FlightRecord
first_flight ticket range r = record { ticket = ticket; first = range.first; rest = range; work = first_work r }

-- the request after a piece of n sectors
abbrev pub next_flight : FlightRecord → ℕ → AnswerRecord → FlightRecord
next_flight f n piece = record { ticket = f.ticket; first = f.first; rest = range_after f.rest n; work = next_work f.work piece }

abbrev pub has_ticket : ℕ → FlightRecord → Bool
has_ticket ticket f = f.ticket == ticket

-- what is written are count sectors in all, to a device that may be written
abbrev pub IsWorkOn : Configuration → ℕ → ℕ → WorkRecord → Type 0
IsWorkOn c d count (reads got) = Unit {0}
IsWorkOn c d count (writes bytes) = (length bytes ≡ 512 * count) × IsTrue (may_write c (mapped d))

-- what holds of every request in flight
pub record IsSoundFlight (c : Configuration) (f : FlightRecord) : Type 0 where
  pub inside : IsRangeInside c f.rest
  pub start : f.first ≤ f.rest.first
  pub work : IsWorkOn c f.rest.device.0 (f.rest.first - f.first + f.rest.count) f.work

-- what holds of a request that may be begun
pub record IsAdmissible (c : Configuration) (r : RequestRecord) (range : SectorRange) : Type 0 where
  pub inside : IsRangeInside c range
  pub work : IsWorkOn c range.device.0 range.count (first_work r)
