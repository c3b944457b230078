use Rattle.jg_explain.proofs.traces.traced.Goals as goal

pub returns-then-is_same : goal.returns-then-is_same
returns-then-is_same c s journal below old own before after =
    c.noted.ensures s journal below old (c.is_same.ensures c.if-is_same.true) own before after
