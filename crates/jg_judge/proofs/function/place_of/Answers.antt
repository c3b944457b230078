use Rattle.std.proofs.Common.{◌≡◌, Some, subst, sym}
use Rattle.std.specs.Prelude.{slice_get}
use Rattle.jg_rows.specs.Table.{functions}
use Rattle.jg_judge.specs.Written.{row_for}
use Rattle.jg_judge.proofs.function.place_of.Goals as goal

pub returns-in-Vm : goal.returns-in-Vm
returns-in-Vm c = subst (λ f. slice_get functions c.vm_place.result ≡ Some (row_for f)) (sym c.in-Vm.is) c.vm_place.ensures

pub returns-in-Refs : goal.returns-in-Refs
returns-in-Refs c = subst (λ f. slice_get functions c.refs_place.result ≡ Some (row_for f)) (sym c.in-Refs.is) c.refs_place.ensures

pub returns-in-Frames : goal.returns-in-Frames
returns-in-Frames c = subst (λ f. slice_get functions c.frames_place.result ≡ Some (row_for f)) (sym c.in-Frames.is) c.frames_place.ensures

pub returns-in-Exceptions : goal.returns-in-Exceptions
returns-in-Exceptions c = subst (λ f. slice_get functions c.exceptions_place.result ≡ Some (row_for f)) (sym c.in-Exceptions.is) c.exceptions_place.ensures

pub returns-in-Objects : goal.returns-in-Objects
returns-in-Objects c = subst (λ f. slice_get functions c.objects_place.result ≡ Some (row_for f)) (sym c.in-Objects.is) c.objects_place.ensures

pub returns-in-Strings : goal.returns-in-Strings
returns-in-Strings c = subst (λ f. slice_get functions c.strings_place.result ≡ Some (row_for f)) (sym c.in-Strings.is) c.strings_place.ensures

pub returns-in-Arrays : goal.returns-in-Arrays
returns-in-Arrays c = subst (λ f. slice_get functions c.arrays_place.result ≡ Some (row_for f)) (sym c.in-Arrays.is) c.arrays_place.ensures

pub returns-in-Monitors : goal.returns-in-Monitors
returns-in-Monitors c = subst (λ f. slice_get functions c.monitors_place.result ≡ Some (row_for f)) (sym c.in-Monitors.is) c.monitors_place.ensures

pub returns-in-Buffers : goal.returns-in-Buffers
returns-in-Buffers c = subst (λ f. slice_get functions c.buffers_place.result ≡ Some (row_for f)) (sym c.in-Buffers.is) c.buffers_place.ensures
