use Rattle.std.proofs.Common.{◌∙◌, ◌++◌, ap, codes, string_bytes}
use Rattle.std.specs.Fmt.{decimal}
use Rattle.jg_fault_text.proofs.Setups.{at_added, position_is}
use Rattle.jg_fault_text.proofs.Told.{five}
use Rattle.jg_fault_text.proofs.setup.position.push_at.Goals as goal

pub returns : goal.returns
returns c =
    let front = c.args.front.now in
    let line = c.line_behind.result in
    let column = c.column_behind.result in
    let old = string_bytes c.args.out.now in
    let pieces = five (codes "line ") (decimal line) (codes ", column ") (decimal column) (codes ": ")
    ∙ position_is front line column c.line_behind.ensures c.column_behind.ensures in
    at_added c.push_str-2.result front c.args.words.now old (c.in_ok-push_pieces.ensures.text ∙ ap (λ it. old ++ it) pieces) c.in_ok-push_str.ensures.bytes
    c.push_str-2.ensures.bytes
