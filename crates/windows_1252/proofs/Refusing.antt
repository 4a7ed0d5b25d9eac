-- What is refused, and what that leaves.
-- Assumes nothing.
use mathlib.Core.Path.{◌≡◌, sym, ap, ◌∙◌}
use mathlib.Core.Bool.{Bool, true, false, cond, false≢true}
use mathlib.Core.List.{List}
use Prim.Native.Nat.{ℕ, ◌/◌, ◌≤◌}
use lib.ListN.{length}
use lib.Dec.{leb}
use borrow.Author.Tests.{leb-true, leb-false}
use Rattle.std.specs.Prelude.{Result, Ok, Err}
use Rattle.format.specs.Writing.{outcome}
use Rattle.format.specs.declared.Written.{Written}
use Rattle.windows_1252_table.specs.Utf16.{whole_test, utf16_refusal}
use Rattle.windows_1252.specs.declared.Fault.{Fault}
use Rattle.windows_1252.specs.Calls.{writing_bytes}
use Rattle.windows_1252.specs.Faults.{fault_of, told}
use Rattle.windows_1252.specs.Theorems.{outside_table, bytes_no_room}

-- the answer of a call, if n bytes are written
answer : ℕ → Result (Unit {0}) Fault → Written
answer n (Ok x) = told (Ok n)
answer n (Err k) = told (Err k)

is_right : Result (Unit {0}) Fault → Bool
is_right (Ok x) = true
is_right (Err k) = false

module _ (s out : List ℕ) {right fits : Bool} (e : right ≡ whole_test s) (f : fits ≡ leb (length s / 2) (length out)) where
  pub refused_told : {k : Fault} → Err k ≡ fault_of right fits → outcome (told (Err k)) out ≡ writing_bytes s out
  unfolding utf16_refusal answer is_right
  refused_told {k} h =
      ap (λ r. outcome (answer 0 r) out) h ∙ go right fits e f (ap is_right (sym h))
    where
      go : (a b : Bool) → a ≡ whole_test s → b ≡ leb (length s / 2) (length out) → is_right (fault_of a b) ≡ false → outcome (answer 0 (fault_of a b)) out ≡ writing_bytes s out
      go false b p q z = sym (outside_table s out (ap (λ t. cond t 0 18) (sym p)))
      go true false p q z =
          sym (bytes_no_room s out (ap (λ t. cond t 0 18) (sym p)) (leb-false (length s / 2) (length out) (sym q)))
      go true true p q z = absurd (false≢true (sym z))

  pub not_refused : {x : Unit {0}} → Ok x ≡ fault_of right fits → (utf16_refusal s ≡ 0) × (length s / 2 ≤ length out)
  unfolding utf16_refusal is_right
  not_refused h = go right fits e f (ap is_right (sym h))
    where
      go : (a b : Bool) → a ≡ whole_test s → b ≡ leb (length s / 2) (length out) → is_right (fault_of a b) ≡ true → (utf16_refusal s ≡ 0) × (length s / 2 ≤ length out)
      go false b p q z = absurd (false≢true z)
      go true false p q z = absurd (false≢true z)
      go true true p q z = (ap (λ t. cond t 0 18) (sym p), leb-true (length s / 2) (length out) (sym q))
