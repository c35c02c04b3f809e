-- Worked values: requests of lines, and texts of replies.
use Rattle.std.proofs.Common.{◌≡◌, ◌++◌, refl, codes, replicate, Ok, Err}
use Rattle.std.specs.Fmt.{digits}
use Rattle.hex.specs.Hex.{encode_with, decode_pairs}
use Rattle.dm_table.specs.Words.{words}
use Rattle.dm_table.specs.Numbers.{number}
use Rattle.stack_rules.specs.declared.refusal.LoadKind.TheVariants.{Gap}
use Rattle.request_queue.specs.declared.fault.SubmitFault.TheVariants.{Full}
use Rattle.request_queue.specs.declared.reply.Progress.TheVariants.{More}
use Rattle.request_queue.specs.Requests.{a_read, a_write}
use Rattle.stack_session.specs.Commands.{line_command, after_word, verb_of, hex_byte, load, run, submit, step, remove, cost, table, moved, usage, nothing}
use Rattle.stack_session.specs.Texts.{sector_line, sector_lines, load_refusal_text, submission_text, step_text, cost_text, moved_text}

refusal : load_refusal_text (record { kind = Gap; device = 1; line = 2 }) ≡ codes "refused 6 Gap device 1 line 2\n"
unfolding digits
refusal = refl

printed : sector_lines 2 3 (replicate 512 5 ++ replicate 512 0) ≡ codes "3 all 05\n4 all 00\n"
unfolding digits sector_line encode_with
printed = refl

reads : line_command (codes "read a 3 02") ≡ run (a_read (codes "a") 3 2)
unfolding line_command words number after_word verb_of
reads = refl

writes : line_command (codes "write a 3 02 Fe") ≡ run (a_write (codes "a") 3 (replicate 1024 254))
unfolding line_command words number verb_of hex_byte decode_pairs
writes = refl

too_many : line_command (codes "write a 3 2050 Fe") ≡ usage
unfolding line_command words number verb_of hex_byte decode_pairs
too_many = refl

one_digit : line_command (codes "write a 3 2 F") ≡ usage
unfolding line_command words number verb_of hex_byte decode_pairs
one_digit = refl

submits : line_command (codes "submit read a 3 02") ≡ submit (a_read (codes "a") 3 2)
unfolding line_command words number verb_of
submits = refl

submits_write : line_command (codes "submit write a 3 1 Fe") ≡ submit (a_write (codes "a") 3 (replicate 512 254))
unfolding line_command words number verb_of hex_byte decode_pairs
submits_write = refl

submits_step : line_command (codes "submit step 1") ≡ usage
unfolding line_command words number verb_of
submits_step = refl

steps : line_command (codes "step 012") ≡ step 12
unfolding line_command words number verb_of
steps = refl

two_tickets : line_command (codes "step 1 2") ≡ usage
unfolding line_command words number verb_of
two_tickets = refl

removes : line_command (codes "remove a") ≡ remove (codes "a")
unfolding line_command words verb_of
removes = refl

loads : line_command (codes " load a,,,rw ") ≡ load (codes " a,,,rw ")
unfolding line_command words number after_word verb_of
loads = refl

plus : line_command (codes "read a +3 2") ≡ usage
unfolding line_command words number after_word verb_of
plus = refl

blank : line_command (codes " \t") ≡ nothing
unfolding line_command words number after_word verb_of
blank = refl

costs : line_command (codes "cost a\r") ≡ cost (codes "a")
unfolding line_command words verb_of
costs = refl

two_names : line_command (codes "cost a b") ≡ usage
unfolding line_command words verb_of
two_names = refl

tables : line_command (codes "table a") ≡ table (codes "a")
unfolding line_command words verb_of
tables = refl

moves : line_command (codes "moved") ≡ moved
unfolding line_command words verb_of
moves = refl

moved_more : line_command (codes "moved a") ≡ usage
unfolding line_command words verb_of
moved_more = refl

cost_printed : cost_text 1032 6 191102976 0 ≡ codes "sectors 1032 depth 6 read 191102976 write 0\n"
unfolding digits
cost_printed = refl

moved_printed : moved_text 4 2 ≡ codes "moved 4 2\n"
unfolding digits
moved_printed = refl

began : submission_text (Ok 65) ≡ codes "ticket 65\n"
unfolding digits
began = refl

full : submission_text (Err Full) ≡ codes "refused 5 Full\n"
unfolding digits
full = refl

goes_on : step_text 0 (Ok More) ≡ codes "more\n"
goes_on = refl
