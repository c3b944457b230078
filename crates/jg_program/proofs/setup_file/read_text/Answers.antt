use Rattle.std.proofs.Common.{rules, ◌≡◌, ◌≤◌, ◌<◌, subst, List, ℕ, length, string_bytes}
use Rattle.std.proofs.lemmas.Bool.{false≢true}
use Rattle.jg_policy.specs.declared.fault.SetupFault.TheVariants.{NotToml}
use Rattle.jg_program.specs.StatedBy.{Gives}
use Rattle.jg_program.proofs.Reading.{told_long, failed, read_long, gives_all, no_text}
use Rattle.jg_program.proofs.Refusals.{refused_as_long, refused_for, refused_unread}
use Rattle.jg_program.proofs.setup_file.read_text.Goals as goal

pub returns-then-told-gt-MAX_BYTES-clause-refused : goal.returns-then-told-gt-MAX_BYTES-clause-refused
returns-then-told-gt-MAX_BYTES-clause-refused g c =
    refused_as_long c.args.explained _ c.args.told c.end_too_long.result (told_long _ _ c.if-told-gt-MAX_BYTES.true) c.end_too_long.ensures

pub returns-in-Err-clause-refused : goal.returns-in-Err-clause-refused
returns-in-Err-clause-refused g c =
    let either = c.stop_of.ensures.either in
    refused_unread c.args.explained _ c.args.told c.stop_of.result c.quietly.result (failed _ _ _ either) either c.quietly.ensures.ended c.quietly.ensures.said

pub returns-then-len-gt-MAX_BYTES-clause-refused : goal.returns-then-len-gt-MAX_BYTES-clause-refused
returns-then-len-gt-MAX_BYTES-clause-refused g c =
    let long : 16777216 < length c.in-Ok.bytes.items = search rules in
    refused_as_long c.args.explained _ c.args.told c.end_too_long-then-len-gt-MAX_BYTES.result (read_long _ _ c.in-Ok.bytes.items c.in-Ok.ensures long)
    c.end_too_long-then-len-gt-MAX_BYTES.ensures

pub returns-in-Ok-from_utf8-clause-bytes : goal.returns-in-Ok-from_utf8-clause-bytes
returns-in-Ok-from_utf8-clause-bytes g c =
    let short : length c.in-Ok.bytes.items ≤ 16777216 = search rules in
    let same : c.in-Ok.bytes.items ≡ string_bytes c.in-Ok-from_utf8.text = search rules in
    subst (λ (bytes : List ℕ). Gives (g.F.Read.remaining c.args.file.now) bytes) same (gives_all _ c.in-Ok.bytes.items c.in-Ok.ensures short)

pub returns-in-Err-from_utf8-clause-refused : goal.returns-in-Err-from_utf8-clause-refused
returns-in-Err-from_utf8-clause-refused g c =
    let known = g.F.Read.remaining c.args.file.now in
    let short : length c.in-Ok.bytes.items ≤ 16777216 = search rules in
    let same : c.in-Ok.bytes.items ≡ c.as_bytes.result.now = search rules in
    let gives = subst (λ (bytes : List ℕ). Gives known bytes) same (gives_all _ c.in-Ok.bytes.items c.in-Ok.ensures short) in
    let refused = no_text _ _ c.in-Ok.bytes.items c.in-Ok.ensures c.if-told-gt-MAX_BYTES.false short
    (λ utf8. false≢true (c.in-Err-from_utf8.ensures.succeeds utf8)) in
    refused_for c.args.explained known c.args.told c.as_bytes.result.now NotToml c.end_faulty.result refused gives c.end_faulty.ensures
