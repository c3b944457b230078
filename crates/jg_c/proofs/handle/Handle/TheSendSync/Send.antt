-- A handle may go to another thread.
use denote.Param.Send.{IsSend, owning_send, sendable}
use Rattle.jg_slot.proofs.SlotSteps.{held_keyless}
use Rattle.jg_c.proofs.session.Session.TheSendSync as session
use Rattle.jg_c.specs.contracts.session.Session as value
use Rattle.jg_c.specs.contracts.handle.Handle.{the_row, the_type}

pub send : IsSend the_row
send = owning_send the_type (search sendable, tt) (λ h. held_keyless value.the_row session.the_send h.at h.value) (λ k x w. tt)
