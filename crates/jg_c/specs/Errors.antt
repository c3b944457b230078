-- Why a call did nothing, by the numbers of jg.h.
use Rattle.std.specs.Prelude.{ℤ, negsuc, pos}
use Rattle.jg_policy.specs.declared.fault.SetupFault.{SetupFault}
use Rattle.jg_policy.specs.declared.fault.SetupFault.TheVariants as setup
use Rattle.jg_text.specs.declared.fault.ScriptFault.{ScriptFault}
use Rattle.jg_text.specs.declared.fault.ScriptFault.TheVariants as script
use Rattle.jg_core.specs.declared.kernel.Untold.{Untold}
use Rattle.jg_core.specs.declared.kernel.Untold.TheVariants as untold

abbrev pub done : ℤ
done = pos 0

-- n below 0
abbrev pub closed : ℤ
closed = negsuc 0

abbrev pub is_open : ℤ
is_open = negsuc 1

abbrev pub bad_version : ℤ
bad_version = negsuc 2

abbrev pub no_memory : ℤ
no_memory = negsuc 3

abbrev pub bad_thread : ℤ
bad_thread = negsuc 4

abbrev pub bad_value : ℤ
bad_value = negsuc 5

abbrev pub no_function : ℤ
no_function = negsuc 6

abbrev pub misfit : ℤ
misfit = negsuc 7

abbrev pub bad_fact : ℤ
bad_fact = negsuc 8

abbrev pub impossible : ℤ
impossible = negsuc 9

abbrev pub bad_ticket : ℤ
bad_ticket = negsuc 11

abbrev pub no_text : ℤ
no_text = negsuc 13

abbrev pub limit : ℤ
limit = negsuc 12

abbrev pub no_rule : ℤ
no_rule = negsuc 14

-- the call was made and journaled, and memory ran out for its line
abbrev pub unwritten : ℤ
unwritten = negsuc 15

abbrev pub no_name : ℤ
no_name = negsuc 16

abbrev pub of_untold : Untold → ℤ
of_untold untold.Impossible = impossible
of_untold untold.Full = negsuc 10
of_untold untold.NoMemory = no_memory

abbrev pub of_setup_fault : SetupFault → ℤ
of_setup_fault setup.NotToml = negsuc 31
of_setup_fault setup.BadVersion = negsuc 32
of_setup_fault setup.UnknownKey = negsuc 33
of_setup_fault setup.Missing = negsuc 34
of_setup_fault setup.BadType = negsuc 35
of_setup_fault setup.BadMode = negsuc 36
of_setup_fault setup.BadName = negsuc 37
of_setup_fault setup.Duplicate = negsuc 38
of_setup_fault setup.TooMany = negsuc 39
of_setup_fault setup.NoMemory = no_memory

abbrev pub of_script_fault : ScriptFault → ℤ
of_script_fault script.LineTooLong = negsuc 63
of_script_fault script.NotAscii = negsuc 64
of_script_fault script.NoThread = negsuc 65
of_script_fault script.NoEnv = negsuc 66
of_script_fault script.UnknownFunction = negsuc 67
of_script_fault script.WrongCount = negsuc 68
of_script_fault script.BadOperand = negsuc 69
of_script_fault script.TooManyThreads = negsuc 70
of_script_fault script.NoMemory = no_memory
