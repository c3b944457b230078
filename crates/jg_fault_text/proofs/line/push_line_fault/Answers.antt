use Rattle.std.proofs.Common.{◌∙◌, ◌++◌, ap, codes, string_bytes}
use Rattle.std.specs.Fmt.{decimal}
use Rattle.jg_fault_text.proofs.Told.{told_at, five}
use Rattle.jg_fault_text.proofs.line.push_line_fault.Goals as goal

pub returns : goal.returns
returns c =
    let place = c.in-Some.place in
    let old = string_bytes c.args.out.now in
    let first = c.in_ok-push_pieces.ensures.text
    ∙ ap (λ it. old ++ it) (five (codes "field ") (decimal place.field) (codes ", column ") (decimal place.column) (codes ": ")) in
    told_at c.push_str-2.result c.args.fault c.args.line.now place old c.in-Some.ensures.some first c.in_ok-push_words.ensures c.push_str-2.ensures.bytes
