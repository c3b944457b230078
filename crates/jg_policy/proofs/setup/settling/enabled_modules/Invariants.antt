use Rattle.std.proofs.Common.{◌≡◌, ℕ, ◌||◌, List, take, map, codes}
use Rattle.std.specs.HashSet.{contains_by}
use Rattle.std.specs.Str.{bytes_eq}
use Rattle.jg_policy.specs.NativeAccess.{is_granted}
use Rattle.jg_policy.specs.Kept.{grant_view}
use Rattle.jg_policy.proofs.setup.settling.enabled_modules.Given as goal

abbrev pub invariant-loop-grant : goal.invariant-loop-grant
invariant-loop-grant l =
    (name : List ℕ) → contains_by (λ k. bytes_eq name k.now) l.modules
    ≡ (bytes_eq name (codes "java.base") || is_granted (map grant_view (take l.grant-index l.grants)) name l.operation)
