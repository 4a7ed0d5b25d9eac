-- Units and bytes put over the start of the output, one after another.
-- Assumes nothing.
use mathlib.Core.Path.{◌≡◌, refl, sym, ap, ap₂, ◌∙◌}
use mathlib.Core.List.{List, ◌++◌}
use Prim.Native.Nat.{ℕ, ◌+◌, ◌*◌, ◌/◌, ◌%◌, ◌≤◌, ◌<◌}
use native.Mathlib.Omega.{arith}
use native.Mathlib.Nat.{zero-add}
use lib.ListN.{length, get_or, take, drop, set}
use lib.Seq.{take_all}
use Rattle.std.specs.Prelude.{Option, Some}
use Rattle.format.specs.Stores.{over}
use Rattle.format.specs.Writing.{outcome}
use Rattle.format.proofs.Laws.Stores.{over_nothing, over_next}
use Rattle.windows_1252_table.specs.Table.{table, unit_of}
use Rattle.windows_1252_table.specs.Utf16.{units_in, to_utf16, utf16_refusal, from_utf16}
use Rattle.windows_1252_table.proofs.Laws.Utf16.{length_to_utf16, to_low, to_high, from_at, accepted_byte}
use Rattle.windows_1252.specs.Code.{byte_in}
use Rattle.windows_1252.specs.Theorems.{wrote}
use Rattle.windows_1252.proofs.Finding.{found}

-- the output with the first n bytes of t over its start
pub started : List ℕ → ℕ → List ℕ → List ℕ
started t n l = over l 0 (take n t)

pub start : (t l : List ℕ) → l ≡ started t 0 l
unfolding started
start t l = sym (over_nothing l 0)

-- the next byte
pub next : (t l m : List ℕ) (j v : ℕ) → j < length t → length t ≤ length l → v ≡ get_or t j 0 → m ≡ started t j l → set m j v ≡ started t (j + 1) l
unfolding started
next t l m j v h room e f =
    ap₂ (λ (k x : ℕ). set m k x) (sym (zero-add j)) e ∙ over_next l m 0 j t h (omega (arith, room)) f

-- all of them
pub all : (t l m : List ℕ) (n : ℕ) → length t ≤ n → m ≡ started t n l → m ≡ over l 0 t
unfolding started
all t l m n h e = e ∙ ap (over l 0) (take_all n t h)

-- the two bytes of the next unit
pub next_unit : (bs l m : List ℕ) (i a b u : ℕ) → i < length bs → 2 * length bs ≤ length l → u ≡ unit_of (get_or bs i 0) → a ≡ u % 256 → b ≡ u / 256 % 256
    → m ≡ started (to_utf16 bs) (2 * i) l → set (set m (2 * i) a) (2 * i + 1) b ≡ started (to_utf16 bs) (2 * (i + 1)) l
next_unit bs l m i a b u h room e low high f =
    let long = length_to_utf16 bs in
    let t : List ℕ = to_utf16 bs in
    let two : 2 * i + 1 + 1 ≡ 2 * (i + 1) = omega arith in
    next t l (set m (2 * i) a) (2 * i + 1) b (omega (arith, h, long)) (omega (arith, room, long)) (high ∙ ap (λ x. x / 256 % 256) e ∙ sym (to_high bs i h))
    (next t l m (2 * i) a (omega (arith, h, long)) (omega (arith, room, long)) (low ∙ ap (λ x. x % 256) e ∙ sym (to_low bs i h)) f)
    ∙ ap (λ n. started t n l) two

-- a unit as the code reads it
pub unit_read : (us : List ℕ) {b x : ℕ} → us ≡ table → b ≡ x → get_or us b 0 ≡ unit_of x
unfolding unit_of
unit_read us e f = ap₂ (λ (t : List ℕ) (k : ℕ). get_or t k 0) e f

-- what a call leaves that has put all of t
pub put_all : (t l m : List ℕ) {n : ℕ} → length t ≡ n → m ≡ over l 0 t → outcome (record { refusal = 0; length = n }) m ≡ wrote t l
unfolding over
put_all t l m e f =
    ap₂ (λ (a : ℕ) (b : List ℕ). outcome (record { refusal = 0; length = a }) b) (sym e)
    (f ∙ ap (λ k. t ++ drop k l) (zero-add (length t)))

-- the byte of a unit, as the code finds it
module _ (s : List ℕ) (i : ℕ) (h : i < length s / 2) {o : Option ℕ} {u : ℕ} (e : o ≡ byte_in u) (f : u ≡ get_or (units_in s) i 0) (z : utf16_refusal s ≡ 0) where
  pub unit_byte : o ≡ Some (get_or (from_utf16 s) i 0)
  unit_byte =
      e ∙ ap byte_in f ∙ sym (found (get_or (units_in s) i 0) (accepted_byte s i z h) refl) ∙ ap Some (sym (from_at s i h))
