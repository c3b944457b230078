-- What is known of a call that breaks no rule.
use Rattle.std.specs.Prelude.{◌≡◌, ℕ, false, Option}
use Rattle.jg_words.specs.declared.thread.EnvId.{EnvId}
use Rattle.jg_words.specs.declared.call.Call.{Call}
use Rattle.jg_policy.specs.Stated.{StatedSetup}
use Rattle.jg_rules.specs.Parts.{Parts}
use Rattle.jg_words.specs.declared.rule.Rule.TheVariants.{WrongThread, Detached, InCritical, Pending, ForeignLocal, DeadReference, WrongRefKind, NullReference, WrongType, BadField, BadBuffer, BadArgument, Pinned, NotOwner, BadFrame, NoNativeAccess, NotLinked}
use Rattle.jg_rules.specs.Rules.{broken}

pub record Unbroken (s : StatedSetup) (p : Parts) (t : ℕ) (env : Option EnvId) (call : Call) : Type 0 where
  pub own_thread : broken WrongThread s p t env call ≡ false
  pub is_attached : broken Detached s p t env call ≡ false
  pub not_critical : broken InCritical s p t env call ≡ false
  pub calm : broken Pending s p t env call ≡ false
  pub own_locals : broken ForeignLocal s p t env call ≡ false
  pub alive : broken DeadReference s p t env call ≡ false
  pub right_kind : broken WrongRefKind s p t env call ≡ false
  pub not_null : broken NullReference s p t env call ≡ false
  pub right_type : broken WrongType s p t env call ≡ false
  pub right_field : broken BadField s p t env call ≡ false
  pub right_buffer : broken BadBuffer s p t env call ≡ false
  pub right_argument : broken BadArgument s p t env call ≡ false
  pub not_pinned : broken Pinned s p t env call ≡ false
  pub owned : broken NotOwner s p t env call ≡ false
  pub right_frame : broken BadFrame s p t env call ≡ false
  pub accessible : broken NoNativeAccess s p t env call ≡ false
  pub is_linked : broken NotLinked s p t env call ≡ false
