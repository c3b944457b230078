-- Open critical buffers in order.
use Rattle.std.specs.Prelude.{ℕ, ◌==◌, ◌&&◌, ◌||◌, Bool, nat_lt, if◌then◌else◌, List, [], ◌∷◌, filter}
use Rattle.jg_words.specs.declared.buffer.BufId.{BufId}
use Rattle.jg_words.specs.declared.reference.Ref.{Ref}
use Rattle.jg_table_buffers.specs.History.{Buffer, Event, pins, same_ref}
use Rattle.jg_table_buffers.specs.Rows.{name_of}

abbrev pub buffer_key : BufId → ℕ × ℕ
buffer_key b = (b.maker.0, b.n)

-- by the thread that was lent it, and then by number
abbrev pub is_before : BufId → BufId → Bool
is_before b c = nat_lt b.maker.0 c.maker.0 || ((b.maker.0 == c.maker.0) && nat_lt b.n c.n)

-- with the name in its place, once
abbrev pub put_in : BufId → List BufId → List BufId
put_in b [] = b ∷ []
put_in b (c ∷ cs) = if is_before b c then b ∷ c ∷ cs else if is_before c b then c ∷ put_in b cs else c ∷ cs

abbrev pub in_order : List Buffer → List BufId
in_order [] = []
in_order (b ∷ bs) = put_in (name_of b) (in_order bs)

-- the open critical buffers that the thread was lent
abbrev pub pins_of : List Event → ℕ → List BufId
pins_of e t = in_order (filter (λ b. b.maker == t) (pins e))

-- the open critical buffers that were opened through the reference
abbrev pub pins_through : List Event → Ref → List BufId
pins_through e r = in_order (filter (λ b. same_ref b.via r) (pins e))
