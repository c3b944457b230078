use Rattle.std.proofs.Common.{◌++◌, flat_map, string_bytes, refl}
use Rattle.std.proofs.lemmas.Result.{on_ok_weaker}
use Rattle.jg_denial_text.proofs.Chains.{two}
use Rattle.jg_program.specs.Summary.{all_rules, calls_line, peaks_line, rule_line, summary_text}
use Rattle.jg_program.proofs.summary.push_summary.Goals as goal

pub returns : goal.returns
returns c = on_ok_weaker c.push_peaks.result (λ last.
    let h = c.args.guard.now.journal in
    let old = string_bytes c.args.out.now in
    let calls = calls_line h in
    let rules = flat_map (rule_line h) all_rules in
    let line = peaks_line c.peaks.result in
    let all = two old (calls ++ rules) line (two old calls rules c.in_ok-push_calls.ensures c.in_ok-push_rules.ensures) last in
    (summary_text h c.peaks.result, (c.peaks.result, c.peaks.ensures, refl), all)) c.push_peaks.ensures
