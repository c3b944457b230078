use Rattle.std.proofs.Common.{ℕ, List, map, pos, Option, Some, None, Result, Ok, Err, Vec}
use Rattle.std.specs.Prelude.{IfOk, IfSome}
use Rattle.jg_table_heap.specs.Spelling.{IsSpelt, IsSpeltInItems}
use Rattle.jg_table_heap.proofs.Bytes.{same_bytes}
use Rattle.jg_table_heap.proofs.mutf8.read.from_mutf8.Goals as goal

bytes_found : {A E : Type 0} (bytes : List ℕ) (r : Result (Option (Vec ℕ A)) E)
    → IfOk r (λ found. IfSome found (λ units. IsSpeltInItems units.items (map pos bytes)))
    → IfOk r (λ found. IfSome found (λ units. IsSpelt units.items bytes))
bytes_found bytes (Err e) h = tt
bytes_found bytes (Ok None) h = tt
bytes_found bytes (Ok (Some units)) h = (h.0, same_bytes bytes _ h.1)

pub returns-clause-found : goal.returns-clause-found
returns-clause-found g c = bytes_found c.args.bytes.now c.units_of.result c.units_of.ensures.found
