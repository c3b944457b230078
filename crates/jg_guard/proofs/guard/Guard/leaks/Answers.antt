use Rattle.jg_rules.specs.Parts.{HeapTells, Parts}
use Rattle.jg_rules.specs.View.{rows_in}
use Rattle.jg_rules.proofs.Holders.{holders_stand}
use Rattle.jg_guard.proofs.guard.Guard.leaks.Goals as goal

pub returns-clause-refs : goal.returns-clause-refs
returns-clause-refs g c = (c.in_ok-list_left.ensures _ (holders_stand HeapTells _ (rows_in c.view.result) _ c.view.ensures.stands)).refs

pub returns-clause-refs_ascend : goal.returns-clause-refs_ascend
returns-clause-refs_ascend g c = (c.in_ok-list_left.ensures _ (holders_stand HeapTells _ (rows_in c.view.result) _ c.view.ensures.stands)).refs_ascend

pub returns-clause-buffers : goal.returns-clause-buffers
returns-clause-buffers g c = (c.in_ok-list_left.ensures _ (holders_stand HeapTells _ (rows_in c.view.result) _ c.view.ensures.stands)).buffers

pub returns-clause-buffers_ascend : goal.returns-clause-buffers_ascend
returns-clause-buffers_ascend g c = (c.in_ok-list_left.ensures _ (holders_stand HeapTells _ (rows_in c.view.result) _ c.view.ensures.stands)).buffers_ascend

pub returns-clause-monitors : goal.returns-clause-monitors
returns-clause-monitors g c = (c.in_ok-list_left.ensures _ (holders_stand HeapTells _ (rows_in c.view.result) _ c.view.ensures.stands)).monitors

pub returns-clause-monitors_ascend : goal.returns-clause-monitors_ascend
returns-clause-monitors_ascend g c = (c.in_ok-list_left.ensures _ (holders_stand HeapTells _ (rows_in c.view.result) _ c.view.ensures.stands)).monitors_ascend
