-- Why a worker stops whose call was refused.
use Rattle.jg_guard.specs.declared.guard.Refusal.{Refusal}
use Rattle.jg_guard.specs.declared.guard.Refusal.TheVariants as refusal
use Rattle.jg_shell.specs.declared.account.Stop.{Stop}
use Rattle.jg_shell.specs.declared.account.Stop.TheVariants.{Limit, NoMemory}

abbrev pub stop_for : Refusal → Stop
stop_for (refusal.Limit call) = Limit
stop_for (refusal.NoMemory call) = NoMemory
