use Rattle.std.proofs.Common.{codes, string_bytes}
use Rattle.jg_denial_text.proofs.Chains.{words_alone}
use Rattle.jg_denial_text.proofs.breaches.push_breach.Goals as goal

pub returns-in-OnlyForMachine : goal.returns-in-OnlyForMachine
returns-in-OnlyForMachine c = rw c.in-OnlyForMachine.is c.push_after_fun.ensures

pub returns-in-NoEnv : goal.returns-in-NoEnv
returns-in-NoEnv c = rw c.in-NoEnv.is
    (words_alone c.push_str.result (string_bytes c.args.out.now) (codes "no environment was handed in") c.push_str.ensures.bytes)

pub returns-in-InRegion : goal.returns-in-InRegion
returns-in-InRegion c = rw c.in-InRegion.is c.push_after_tid.ensures

pub returns-in-NotOpen : goal.returns-in-NotOpen
returns-in-NotOpen c = rw c.in-NotOpen.is c.push_after_buffer.ensures

pub returns-in-OfString : goal.returns-in-OfString
returns-in-OfString c = rw c.in-OfString.is c.push_after_buffer-in-OfString.ensures

pub returns-in-NotModifiedUtf8 : goal.returns-in-NotModifiedUtf8
returns-in-NotModifiedUtf8 c = rw c.in-NotModifiedUtf8.is
    (words_alone c.push_str-in-NotModifiedUtf8.result (string_bytes c.args.out.now) (codes "the bytes are no modified UTF-8")
    c.push_str-in-NotModifiedUtf8.ensures.bytes)

pub returns-in-PinnedReference : goal.returns-in-PinnedReference
returns-in-PinnedReference c = rw c.in-PinnedReference.is c.push_after_ref.ensures
