use Rattle.braidpuddle_forms.proofs.FormAnswers.{packet_inside, packet_value, packet_stopped}
use borrow.Author.Rules.{rules}
use Rattle.braidpuddle_forms.proofs.form.braidpuddle_read_packet.Goals as goal

pub overflow_sub-begins : goal.overflow_sub-begins
overflow_sub-begins c = search (packet_inside, rules)

pub returns-in-Ok : goal.returns-in-Ok
returns-in-Ok c = search (packet_value, rules)

pub returns-in-Err : goal.returns-in-Err
returns-in-Err c = search (packet_stopped, rules)
