-- Decimal numbers as text.
-- Assumes nothing.
use Rattle.std.specs.Prelude.{cond, List, [], ◌∷◌, ◌++◌, ℕ, zero, suc, ◌+◌, ◌/◌, ◌%◌, ltb}
use Rattle.stores.specs.Putting.{Put, placed, putting}

-- The digits of n, the last one after those of n / 10. n steps are enough, since n / 10 is less.
unfoldable pub digits : ℕ → ℕ → List ℕ
digits zero n = (48 + n % 10) ∷ []
digits (suc f) n = cond (ltb n 10) ((48 + n % 10) ∷ []) (digits f (n / 10) ++ ((48 + n % 10) ∷ []))

unfoldable pub decimal : ℕ → List ℕ
decimal n = digits n n

-- a number, and the byte after it
unfoldable pub field : ℕ → ℕ → List ℕ
field n after = decimal n ++ (after ∷ [])

-- bytes over a buffer from a place on, one after another, as many as fit
abbrev pub putting_each : List ℕ → ℕ → List ℕ → Put
putting_each l p [] = placed p l
putting_each l p (b ∷ bs) = putting_each (putting l p (b ∷ [])).bytes (putting l p (b ∷ [])).place bs
