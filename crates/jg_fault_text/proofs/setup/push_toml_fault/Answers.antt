use Rattle.std.proofs.Common.{[], append-nil, codes, string_bytes, sym}
use Rattle.jg_fault_text.proofs.Setups.{toml_told}
use Rattle.jg_fault_text.proofs.setup.push_toml_fault.Goals as goal

pub returns-in_default : goal.returns-in_default
returns-in_default c =
    let bytes = c.args.bytes.now in
    toml_told c.push_at.result bytes bytes [] (codes "a TOML document ends here") (string_bytes c.args.out.now) (string_bytes c.push_at.new.out)
    (sym (append-nil bytes)) c.push_at.ensures

pub returns : goal.returns
returns c =
    let front = c.split_at.result.0.now in
    let rest = c.split_at.result.1.now in
    toml_told c.push_at-2.result c.args.bytes.now front rest c.message.result.now (string_bytes c.args.out.now) (string_bytes c.push_at-2.new.out)
    c.split_at.ensures.by_index.0 c.push_at-2.ensures
