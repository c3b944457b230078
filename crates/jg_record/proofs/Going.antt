-- Objects that are gone, read one after another.
use Rattle.std.proofs.Common.{◌≡◌, ◌≢◌, ◌∙◌, ◌∷◌, ◌++◌, ℕ, List, [], map, refl, sym, ap, arith}
use Rattle.std.specs.List.{AllByRecursion}
use Rattle.jg_words.specs.declared.object.ObjId.{ObjId}
use Rattle.jg_record.specs.Words.{object_text, FitsObject}
use Rattle.jg_record.specs.Events.{AreGone}

-- the words are those of the objects read, and those that are left
pub record GoneThen (words : List (List ℕ)) (read : List ObjId) (left : List (List ℕ)) : Type 0 where
  pub fits : AllByRecursion FitsObject read
  pub split : words ≡ map object_text read ++ left

texts_more : (read : List ObjId) (o : ObjId) (later : List (List ℕ)) → map object_text (read ++ o ∷ []) ++ later ≡ map object_text read ++ object_text o ∷ later
texts_more [] o later = refl
texts_more (r ∷ read) o later = ap (λ ws. object_text r ∷ ws) (texts_more read o later)

fits_more : (read : List ObjId) (o : ObjId) → AllByRecursion FitsObject read → FitsObject o → AllByRecursion FitsObject (read ++ o ∷ [])
fits_more [] o fits new = (new, tt)
fits_more (r ∷ read) o fits new = (fits.0, fits_more read o fits.1 new)

pub one_more : (words : List (List ℕ)) (read : List ObjId) (o : ObjId) (later : List (List ℕ)) → GoneThen words read (object_text o ∷ later) → FitsObject o
    → GoneThen words (read ++ o ∷ []) later
one_more words read o later old new = record { fits = fits_more read o old.fits new; split = old.split ∙ sym (texts_more read o later) }

no_text : (read : List ObjId) (word : List ℕ) (later : List (List ℕ)) (gone : List ObjId) → ((o : ObjId) → FitsObject o → word ≢ object_text o)
    → AllByRecursion FitsObject gone
    → map object_text read ++ word ∷ later ≢ map object_text gone
no_text [] word later [] none fits is = cc
no_text [] word later (o ∷ gone) none fits is = none o fits.0 (let same : word ≡ object_text o = cc in same)
no_text (r ∷ read) word later [] none fits is = cc
no_text (r ∷ read) word later (o ∷ gone) none fits is =
    no_text read word later gone none fits.1 (let same : map object_text read ++ word ∷ later ≡ map object_text gone = cc in same)

-- a word that spells no object
pub no_object : (words : List (List ℕ)) (read : List ObjId) (word : List ℕ) (later : List (List ℕ)) → GoneThen words read (word ∷ later)
    → ((o : ObjId) → FitsObject o → word ≢ object_text o)
    → (gone : List ObjId) → ¬ AreGone words gone
no_object words read word later old none gone are = no_text read word later gone none are.0 (sym old.split ∙ are.2)

-- no word
pub no_word : (words : List (List ℕ)) (read : List ObjId) → GoneThen words read [] → read ≡ [] → (gone : List ObjId) → ¬ AreGone words gone
no_word words [] old empty [] are = absurd (omega (arith, are.1))
no_word words [] old empty (o ∷ gone) are = let is : [] ≡ map object_text (o ∷ gone) = sym old.split ∙ are.2 in cc
no_word words (r ∷ read) old empty gone are = cc
