use Rattle.std.proofs.Common.{◌∙◌}
use Rattle.jg_guard.specs.Guard.{next_entry}
use Rattle.jg_script.proofs.Taking.{not_taken, taken_kept, not_made, line_made, written, not_written}
use Rattle.jg_script.proofs.answer.answer_line.Goals as goal

pub returns-in-Err-take_call-clause-answers : goal.returns-in-Err-take_call-clause-answers
returns-in-Err-take_call-clause-answers g c =
    let spelt = rw c.deref.ensures.value at c.in-Ok.ensures.spelt in
    not_taken (g.W.Write.contents c.args.writer.now.device) c.args.guard.now c.take_call.new.guard c.args.text.now.items c.in-Ok.spelt.0 c.in-Ok.spelt.1
    c.in-Ok.spelt.2 c.args.line
    c.in-Err-take_call.fault c.in-Err-take_call.ensures.err spelt

pub returns-in_default-complete-clause-answers : goal.returns-in_default-complete-clause-answers
returns-in_default-complete-clause-answers g c =
    let spelt = rw c.deref.ensures.value at c.in-Ok.ensures.spelt in
    let holds = g.W.Write.contents in
    not_made (holds c.args.writer.now.device) (holds c.args.writer.now.device) c.args.guard.now c.take_call.new.guard c.args.text.now.items
    c.args.text.now.items c.in-Ok.spelt.0 c.in-Ok.spelt.1
    c.in-Ok.spelt.2 c.args.line c.in_default.ensures.took spelt

pub returns-in-Ok-write_text-clause-answers : goal.returns-in-Ok-write_text-clause-answers
returns-in-Ok-write_text-clause-answers g c =
    let spelt = rw c.deref.ensures.value at c.in-Ok.ensures.spelt in
    let holds = g.W.Write.contents in
    let made = line_made (holds c.args.writer.now.device) (holds c.write_text.new.writer.device) c.args.guard.now c.take_call.new.guard c.args.text.now.items
    c.complete.new.text.items c.in-Ok.spelt.0
    c.in-Ok.spelt.1 c.in-Ok.spelt.2 c.args.line c.in_default.ensures.took spelt c.in-Ok-complete.ensures in
    written (holds c.args.writer.now.device) (holds c.write_text.new.writer.device) c.args.guard.now c.take_call.new.guard c.args.text.now.items
    c.deref-2.result.now c.in-Ok.spelt.0
    c.in-Ok.spelt.1 c.in-Ok.spelt.2 c.args.line c.in_default.ensures.took spelt (c.deref-2.ensures.value ∙ made) c.in-Ok-write_text.ensures.written

pub returns-in-Err-write_text-clause-answers : goal.returns-in-Err-write_text-clause-answers
returns-in-Err-write_text-clause-answers g c =
    let spelt = rw c.deref.ensures.value at c.in-Ok.ensures.spelt in
    let holds = g.W.Write.contents in
    let made = line_made (holds c.args.writer.now.device) (holds c.write_text.new.writer.device) c.args.guard.now c.take_call.new.guard c.args.text.now.items
    c.complete.new.text.items c.in-Ok.spelt.0
    c.in-Ok.spelt.1 c.in-Ok.spelt.2 c.args.line c.in_default.ensures.took spelt c.in-Ok-complete.ensures in
    not_written (holds c.args.writer.now.device) (holds c.write_text.new.writer.device) c.args.guard.now c.take_call.new.guard c.args.text.now.items
    c.deref-2.result.now c.in-Ok.spelt.0
    c.in-Ok.spelt.1 c.in-Ok.spelt.2 c.args.line c.in_default.ensures.took spelt (c.deref-2.ensures.value ∙ made) c.in-Err-write_text.ensures.front

pub returns-in-Err-take_call-clause-kept : goal.returns-in-Err-take_call-clause-kept
returns-in-Err-take_call-clause-kept g c =
    taken_kept c.args.guard.now c.take_call.new.guard (next_entry c.args.guard.now c.in-Ok.spelt.0 c.in-Ok.spelt.1 c.in-Ok.spelt.2) c.args.text.now.items
    c.args.line c.in-Err-take_call.fault
    c.in-Err-take_call.ensures.err
