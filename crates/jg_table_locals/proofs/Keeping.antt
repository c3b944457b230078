-- What a thread's stack keeps, with its counts, whatever is done to it.
use Rattle.std.proofs.Common.{◌≡◌, ℕ, ◌+◌, ◌^◌, ◌<◌, ◌≤◌, length, Bool, true, false, List, [], ◌∷◌, ◌++◌, Option, Some, None, refl, ◌∙◌, ap, sym, subst, arith}
use Rattle.std.specs.Prelude.{◌==◌, not, if◌then◌else◌, filter, find, map, All}
use Rattle.std.specs.Option.{option_map, option_to_list}
use Rattle.std.specs.List.{AllByRecursion, list_any}
use Rattle.std.proofs.lemmas.Bool.Decides.{nat_tests}
use Rattle.std.proofs.lemmas.List.{map-append}
use Rattle.jg_lists.specs.Acts.{how_many}
use Rattle.jg_table_locals.specs.declared.row.LocalSlot.{LocalSlot}
use Rattle.jg_table_locals.specs.declared.row.Frame.{Frame}
use Rattle.jg_table_locals.specs.declared.row.Opened.{Opened}
use Rattle.jg_table_locals.specs.Seen.{last, Chain, is_in, is_live, is_below, is_under, is_opened_under, stays, passes, frame_of, at_frame, one_more, one_less, with_room, room_set, counted_less, slot_made, held_in, Sound, Kept, Counted, Stacked, IsNext}
use Rattle.jg_table_locals.proofs.Chains.{each-map, each-filter, last-map, last-split, each-end}
use Rattle.jg_table_locals.proofs.Numbers.{one_live}
use Rattle.jg_table_locals.proofs.Opened.{chain_opened, filter_frames, recounted, room_changed, kept_set}
use Rattle.jg_table_locals.proofs.Counts.{counted_made, counted_ended, counted_closed, stays_live, counted_opened, counted_set, counted_most}
use Rattle.jg_table_locals.proofs.Invariant.{make_kept, open_kept, cut_kept, filter_end, next_frames, any_gives}

pub length-push : {X : Type 0} (xs : List X) (x : X) → length (xs ++ x ∷ []) ≡ length xs + 1
length-push [] x = refl
length-push (y ∷ xs) x = omega (arith, length-push xs x)

pub opens_ascending : (slots : List LocalSlot) (os : List Opened) → Stacked slots os → Chain is_opened_under os
opens_ascending slots os stacked = chain_opened os stacked.kept.opened

pub counts_fit : (slots : List LocalSlot) (os : List Opened) → Stacked slots os → length slots + 1 < 2 ^ 64 → AllByRecursion (λ o. o.held + 1 < 2 ^ 64) os
counts_fit slots os stacked fits =
    each-map (λ o. o.held ≤ length slots) (λ o. o.held + 1 < 2 ^ 64) (λ o le. omega (arith, le, fits)) os (counted_most slots os stacked.counted)

same_frames : (slots : List LocalSlot) (fs gs : List Frame) → gs ≡ fs → Kept slots fs → Kept slots gs
same_frames slots fs gs is kept = subst (λ (l : List Frame). Kept slots l) (sym is) kept

pub make_stacked : (slots : List LocalSlot) (os out : List Opened) (top : Frame) (n o : ℕ) → Stacked slots os → last (map frame_of os) ≡ Some top
    → All (λ s. s.n < n) (filter is_live slots)
    → out ≡ map (at_frame one_more top.depth top.frame) os → Stacked (slots ++ slot_made n o top ∷ []) out
make_stacked slots os out top n o stacked is above changed =
    let frames : map frame_of out ≡ map frame_of os = ap (map frame_of) changed ∙ recounted one_more (λ x. refl) top.depth top.frame os in
    let live : filter is_live (slots ++ slot_made n o top ∷ []) ≡ filter is_live slots ++ slot_made n o top ∷ [] = filter_end slots (slot_made n o top) refl in
    let counted = counted_made (filter is_live slots) os (slot_made n o top) stacked.counted in
    let P : List LocalSlot → List Opened → Type 0 = λ l m. Counted l m in
    record {
      kept = same_frames _ (map frame_of os) (map frame_of out) frames (make_kept slots (map frame_of os) top n o stacked.kept is above);
      counted = subst (λ (l : List LocalSlot). P l out) (sym live)
          (subst (λ (m : List Opened). P (filter is_live slots ++ slot_made n o top ∷ []) m) (sym changed) counted);
    }

not_in_next : (s : LocalSlot) (f g : Frame) → is_under g f ≡ true → is_in s g ≡ true → is_in s f ≡ false
not_in_next s f g under is = grind (arith, nat_tests, under, is)

pub open_stacked : (slots : List LocalSlot) (os out : List Opened) (f : Frame) → Stacked slots os → IsNext (last (map frame_of os)) f
    → out ≡ os ++ record { frame = f; held = 0 } ∷ []
    → Stacked slots out
open_stacked slots os out f stacked next pushed =
    let frames : map frame_of out ≡ map frame_of os ++ f ∷ [] = ap (map frame_of) pushed ∙ map-append frame_of os (record { frame = f; held = 0 } ∷ []) in
    let under = next_frames (map frame_of os) f stacked.kept.opened next in
    let new = each-map (λ s. list_any (is_in s) (map frame_of os) ≡ true) (λ s. is_in s f ≡ false)
    (λ s any. any_gives (is_in s f ≡ false) (λ g. is_under g f ≡ true) (is_in s) (map frame_of os) (λ g low is. not_in_next s f g low is) under any) slots
    stacked.kept.sound.inside in
    record {
      kept = same_frames slots (map frame_of os ++ f ∷ []) (map frame_of out) frames (open_kept slots (map frame_of os) f stacked.kept next);
      counted = subst (λ (m : List Opened). Counted (filter is_live slots) m) (sym pushed)
          (counted_opened (filter is_live slots) os f (each-filter (λ s. is_in s f ≡ false) is_live slots new) stacked.counted);
    }

gone_frames : (gone : Option LocalSlot) (os : List Opened) → map frame_of (counted_less gone os) ≡ map frame_of os
gone_frames None os = refl
gone_frames (Some s) os = recounted one_less (λ x. refl) s.depth s.frame os

none_gone : (n : ℕ) (live : List LocalSlot) → filter (λ s. s.n == n) live ≡ [] → filter (λ s. not (s.n == n)) live ≡ live
none_gone n [] none = refl
none_gone n (s ∷ live) none = at n s live (s.n == n) refl none (none_gone n live)
  where
    at : (n : ℕ) (s : LocalSlot) (live : List LocalSlot) (b : Bool) → (s.n == n) ≡ b
        → (if b then s ∷ filter (λ s. s.n == n) live else filter (λ s. s.n == n) live) ≡ []
        → (filter (λ s. s.n == n) live ≡ [] → filter (λ s. not (s.n == n)) live ≡ live)
        → (if not b then s ∷ filter (λ s. not (s.n == n)) live else filter (λ s. not (s.n == n)) live) ≡ s ∷ live
    at n s live true is none later = cc
    at n s live false is none later = ap (λ l. s ∷ l) (later none)

gone_counted : (live : List LocalSlot) (os : List Opened) (gone : Option LocalSlot) (n : ℕ) → filter (λ s. s.n == n) live ≡ option_to_list gone
    → Counted live os
    → Counted (filter (λ s. not (s.n == n)) live) (counted_less gone os)
gone_counted live os None n none counted = subst (λ (l : List LocalSlot). Counted l os) (sym (none_gone n live none)) counted
gone_counted live os (Some s) n only counted = counted_ended live os s n only counted

pub delete_stacked : (slots mid new : List LocalSlot) (os out : List Opened) (gone : Option LocalSlot) (n : ℕ) → Stacked slots os → out ≡ counted_less gone os
    → gone ≡ find (λ s. s.n == n) (filter is_live slots) → filter is_live mid ≡ filter (λ s. not (s.n == n)) (filter is_live slots)
    → filter is_live new ≡ filter is_live mid
    → Sound new (map frame_of os) → passes is_live (last new) ≡ true → Stacked new out
delete_stacked slots mid new os out gone n stacked changed found ended closed sound ends =
    let frames : map frame_of out ≡ map frame_of os = ap (map frame_of) changed ∙ gone_frames gone os in
    let only : filter (λ s. s.n == n) (filter is_live slots) ≡ option_to_list gone = one_live n slots stacked.kept.sound.rises ∙ ap option_to_list (sym found)
    in
    let counted = gone_counted (filter is_live slots) os gone n only stacked.counted in
    record {
      kept = same_frames new (map frame_of os) (map frame_of out) frames (record { sound = sound; opened = stacked.kept.opened; ends = ends });
      counted = subst (λ (l : List LocalSlot). Counted l out) (sym (closed ∙ ended))
          (subst (λ (m : List Opened). Counted (filter (λ s. not (s.n == n)) (filter is_live slots)) m) (sym changed) counted);
    }

pub delete_frames : (gone : Option LocalSlot) (os out : List Opened) → out ≡ counted_less gone os → map frame_of out ≡ map frame_of os
delete_frames gone os out changed = ap (map frame_of) changed ∙ gone_frames gone os

-- frames are closed down to one, and the slots are cut
pub cut_stacked : (slots mid new : List LocalSlot) (os out : List Opened) (from : Frame) → Stacked slots os → out ≡ filter (λ o. is_under o.frame from) os
    → filter is_live mid ≡ filter (stays (Some from)) slots → filter is_live new ≡ filter is_live mid → Sound new (map frame_of os)
    → AllByRecursion (λ s. is_below s from ≡ true) new
    → passes is_live (last new) ≡ true → Stacked new out
cut_stacked slots mid new os out from stacked closed cut up sound below ends =
    let frames : map frame_of out ≡ filter (λ f. is_under f from) (map frame_of os) = ap (map frame_of) closed ∙ filter_frames (λ f. is_under f from) os in
    let live : filter is_live new ≡ filter (λ s. is_below s from) (filter is_live slots) = up ∙ (cut ∙ stays_live from slots) in
    record {
      kept = same_frames new (filter (λ f. is_under f from) (map frame_of os)) (map frame_of out) frames
          (cut_kept new (map frame_of os) from sound stacked.kept.opened below ends);
      counted = subst (λ (l : List LocalSlot). Counted l out) (sym live)
          (subst (λ (m : List Opened). Counted (filter (λ s. is_below s from) (filter is_live slots)) m) (sym closed)
          (counted_closed (filter is_live slots) from os stacked.counted));
    }

pub closed_frames : (os out : List Opened) (from : Frame) → out ≡ filter (λ o. is_under o.frame from) os
    → map frame_of out ≡ filter (λ f. is_under f from) (map frame_of os)
closed_frames os out from closed = ap (map frame_of) closed ∙ filter_frames (λ f. is_under f from) os

pub set_stacked : (slots : List LocalSlot) (os out : List Opened) (room d k : ℕ) → Stacked slots os → out ≡ map (at_frame (with_room room) d k) os
    → Stacked slots out
set_stacked slots os out room d k stacked changed =
    let frames : map frame_of out ≡ map (room_set room d k) (map frame_of os) = ap (map frame_of) changed ∙ room_changed room d k os in
    record {
      kept = same_frames slots (map (room_set room d k) (map frame_of os)) (map frame_of out) frames (kept_set room d k slots (map frame_of os) stacked.kept);
      counted = subst (λ (m : List Opened). Counted (filter is_live slots) m) (sym changed) (counted_set (filter is_live slots) room d k os stacked.counted);
    }

pub set_frames : (os out : List Opened) (room d k : ℕ) → out ≡ map (at_frame (with_room room) d k) os
    → map frame_of out ≡ map (room_set room d k) (map frame_of os)
set_frames os out room d k changed = ap (map frame_of) changed ∙ room_changed room d k os

last_held : (live : List LocalSlot) (os : List Opened) (o : Opened) → last os ≡ Some o → Counted live os → o.held ≡ how_many (λ s. is_in s o.frame) live
last_held live os o is counted =
    let split = last-split os o is in
    each-end (λ (x : Opened). x.held ≡ how_many (λ s. is_in s x.frame) live) split.0 o (subst (λ (l : List Opened). Counted live l) split.1 counted)

-- the newest frame's count is what it holds
pub newest_holds : (slots : List LocalSlot) (os : List Opened) (o : Opened) → Stacked slots os → last os ≡ Some o
    → o.held ≡ held_in (last (map frame_of os)) (filter is_live slots)
newest_holds slots os o stacked is =
    last_held (filter is_live slots) os o is stacked.counted
    ∙ ap (λ f. held_in f (filter is_live slots)) (sym (last-map frame_of os ∙ ap (option_map frame_of) is))

pub none_holds : (slots : List LocalSlot) (os : List Opened) → last os ≡ None → 0 ≡ held_in (last (map frame_of os)) (filter is_live slots)
none_holds slots os is = ap (λ f. held_in f (filter is_live slots)) (sym (last-map frame_of os ∙ ap (option_map frame_of) is))

pub held_most : (slots : List LocalSlot) (os : List Opened) (o : Opened) → Stacked slots os → last os ≡ Some o → o.held ≤ length slots
held_most slots os o stacked is =
    let split = last-split os o is in
    each-end (λ (x : Opened). x.held ≤ length slots) split.0 o
    (subst (λ (l : List Opened). AllByRecursion (λ x. x.held ≤ length slots) l) split.1 (counted_most slots os stacked.counted))
