-- An answer compared with what it should be.
use Rattle.std.specs.Prelude.{◌≡◌, Option, Result, Ok, Err, IfSome}

-- What a call answered, seen by view and by fault, is what its definition gives. Want of memory, which fault sees as none, is free.
abbrev pub Gives : {X Y E F : Type 0} → (X → Y) → (E → Option F) → Result X E → Result Y F → Type 0
Gives view fault (Ok x) meaning = meaning ≡ Ok (view x)
Gives view fault (Err e) meaning = IfSome (fault e) (λ f. meaning ≡ Err f)
