use Rattle.std.proofs.Common.{◌≡◌, rules, w32}
use mir.Val.{to_z, of_z}
use Rattle.jg_guard.proofs.groups.buffers.perform_buffers.Goals as goal

pub returns-in-ReleaseArrayElements-clause-stands : goal.returns-in-ReleaseArrayElements-clause-stands
returns-in-ReleaseArrayElements-clause-stands g c = λ p stands.
    let plain : to_z w32 (of_z w32 c.in-ReleaseArrayElements.mode) ≡ c.in-ReleaseArrayElements.mode = search rules in
    rw c.in-ReleaseArrayElements.is (rw plain at (c.close_by.ensures.stands c.args.setup.now _ (c.copy_back.ensures.stands p stands)))

pub returns-in-ReleaseStringChars-clause-stands : goal.returns-in-ReleaseStringChars-clause-stands
returns-in-ReleaseStringChars-clause-stands g c = λ p stands. rw c.in-ReleaseStringChars.is (c.close.ensures.stands _ p stands)

pub returns-in-ReleaseStringUTFChars-clause-stands : goal.returns-in-ReleaseStringUTFChars-clause-stands
returns-in-ReleaseStringUTFChars-clause-stands g c = λ p stands. rw c.in-ReleaseStringUTFChars.is (c.close-in-ReleaseStringUTFChars.ensures.stands _ p stands)

pub returns-in-ReleasePrimitiveArrayCritical-clause-stands : goal.returns-in-ReleasePrimitiveArrayCritical-clause-stands
returns-in-ReleasePrimitiveArrayCritical-clause-stands g c = λ p stands.
    let plain : to_z w32 (of_z w32 c.in-ReleasePrimitiveArrayCritical.mode) ≡ c.in-ReleasePrimitiveArrayCritical.mode = search rules in
    rw c.in-ReleasePrimitiveArrayCritical.is (rw plain at (c.close_by-in-ReleasePrimitiveArrayCritical.ensures.stands _ p stands))

pub returns-in-ReleaseStringCritical-clause-stands : goal.returns-in-ReleaseStringCritical-clause-stands
returns-in-ReleaseStringCritical-clause-stands g c = λ p stands. rw c.in-ReleaseStringCritical.is (c.close-in-ReleaseStringCritical.ensures.stands _ p stands)
