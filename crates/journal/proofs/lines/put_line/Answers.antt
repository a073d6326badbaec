-- The parts of the line one after the other.
use Rattle.std.proofs.Common.{arith, get_or}
use Rattle.codec.specs.Refusals.{reply}
use Rattle.codec.proofs.Walk.{walked_both, room-first, room_next}
use Rattle.journal.specs.Lines.{line_bytes}
use Rattle.journal.proofs.Putting.{line-room}
use Rattle.journal.proofs.lines.put_line.Goals as goal

pub put_number-next-requires : goal.put_number-next-requires
unfolding line_bytes
put_number-next-requires c =
    let all = line-room c.requires.room (omega arith) c.args.event (reply c.args.answer) c.args.places (λ p. get_or c.args.estimates.now p 0) c.args.groups
    (λ i. get_or c.args.numbers.now i 0) c.requires.places c.requires.groups in
    room-first _ (room-first _ (room-first _ (room-first _ all)))

pub put_answer-next-requires : goal.put_answer-next-requires
unfolding line_bytes
put_answer-next-requires c =
    let all = line-room c.requires.room (omega arith) c.args.event (reply c.args.answer) c.args.places (λ p. get_or c.args.estimates.now p 0) c.args.groups
    (λ i. get_or c.args.numbers.now i 0) c.requires.places c.requires.groups in
    room_next (room-first _ (room-first _ (room-first _ all))) c.put_number-next.ensures

pub put_numbers-next-requires-clause-room : goal.put_numbers-next-requires-clause-room
unfolding line_bytes
put_numbers-next-requires-clause-room c =
    let all = line-room c.requires.room (omega arith) c.args.event (reply c.args.answer) c.args.places (λ p. get_or c.args.estimates.now p 0) c.args.groups
    (λ i. get_or c.args.numbers.now i 0) c.requires.places c.requires.groups in
    room_next (room-first _ (room-first _ all)) (walked_both c.put_number-next.ensures c.put_answer-next.ensures)

pub put_numbers-next-requires-2-clause-room : goal.put_numbers-next-requires-2-clause-room
unfolding line_bytes
put_numbers-next-requires-2-clause-room c =
    let all = line-room c.requires.room (omega arith) c.args.event (reply c.args.answer) c.args.places (λ p. get_or c.args.estimates.now p 0) c.args.groups
    (λ i. get_or c.args.numbers.now i 0) c.requires.places c.requires.groups in
    room_next (room-first _ all) (walked_both (walked_both c.put_number-next.ensures c.put_answer-next.ensures) c.put_numbers-next.ensures)

pub put_byte-requires : goal.put_byte-requires
unfolding line_bytes
put_byte-requires c =
    let all = line-room c.requires.room (omega arith) c.args.event (reply c.args.answer) c.args.places (λ p. get_or c.args.estimates.now p 0) c.args.groups
    (λ i. get_or c.args.numbers.now i 0) c.requires.places c.requires.groups in
    room_next all (walked_both (walked_both (walked_both c.put_number-next.ensures c.put_answer-next.ensures) c.put_numbers-next.ensures) c.put_numbers-next-2.ensures)

pub returns : goal.returns
unfolding line_bytes
returns c =
    walked_both (walked_both (walked_both (walked_both c.put_number-next.ensures c.put_answer-next.ensures) c.put_numbers-next.ensures) c.put_numbers-next-2.ensures) c.put_byte.ensures
