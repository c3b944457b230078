use Rattle.std.proofs.Common.{◌≡◌, ◌+◌, ◌∙◌, refl, ap, length, if◌then◌else◌, string_bytes, arith}
use Rattle.std.specs.HashMap.{get_by}
use Rattle.std.specs.Str.{bytes_eq}
use Rattle.jg_policy.specs.declared.access.Access.TheVariants.{Allowed}
use Rattle.jg_policy.specs.declared.access.Operation.TheVariants.{Load, Register, Link}
use Rattle.jg_policy.specs.NativeAccess.{module_access, access_by}
use Rattle.jg_policy.specs.Settling.{setup_view}
use Rattle.jg_policy.proofs.Settling.{starts, continues}
use Rattle.jg_policy.proofs.setup.settling.settle_classes.Goals as goal

pub loop-class-init : goal.loop-class-init
loop-class-init c =
    rw (c.in_ok-settled.ensures.items, c.into_iter-class-iterator.ensures.into_iter_gives, c.values-class-items.ensures.rest)
    (starts (setup_view c.args.mode c.args.grants.now c.args.classes.now.entries) c.args.classes.now.entries _ refl
    (λ name. c.in_ok-insert.ensures.updates.0 (record { ref_ptr = (0, 0); now = name }) ∙ rw c.new-numbers.ensures.empty refl))

pub loop-class-preserved : goal.loop-class-preserved
loop-class-preserved c =
    let setup = setup_view c.args.mode c.args.grants.now c.args.classes.now.entries in
    let name = string_bytes c.in-Some.class.now.module_name in
    let next : c.len-in-loop-class.result + 1 ≡ 1 + length c.loop-class.settled.items = omega (arith, c.len-in-loop-class.ensures) in
    let load : c.access_among.result ≡ module_access setup name Load =
    c.access_among.ensures ∙ rw c.as_str-name.ensures.value (ap (λ b. if b then Allowed else access_by c.args.mode) (c.in_ok-loading.ensures name)) in
    let register : c.access_among-in-loop-class.result ≡ module_access setup name Register =
    c.access_among-in-loop-class.ensures
    ∙ rw c.as_str-name.ensures.value (ap (λ b. if b then Allowed else access_by c.args.mode) (c.in_ok-registering.ensures name)) in
    let link : c.access_among-in-loop-class-2.result ≡ module_access setup name Link =
    c.access_among-in-loop-class-2.ensures
    ∙ rw c.as_str-name.ensures.value (ap (λ b. if b then Allowed else access_by c.args.mode) (c.in_ok-linking.ensures name)) in
    rw c.in_ok-push.ensures.items
    (continues setup c.loop-class.settled.items (λ t. get_by (λ k. bytes_eq t k.now) c.loop-class.numbers) c.in-Some.class.now c.next.new.self
    (rw (← c.in-Some.ensures.steps) c.loop-class.invariant)
    (record {
      home = c.in_ok-home.home;
      load = c.access_among.result;
      register = c.access_among-in-loop-class.result;
      link =
          c.access_among-in-loop-class-2.result;
    }) _
    (rw (← c.as_str-name.ensures.value, ← next) c.in_ok-home.ensures.number)
    (rw (← c.as_str-name.ensures.value) c.in_ok-home.ensures.kept)
    load register link)
