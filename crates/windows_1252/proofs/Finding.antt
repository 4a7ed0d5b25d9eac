-- The byte of a unit without a search, and the test of all units.
-- Assumes nothing.
use mathlib.Core.Path.{◌≡◌, refl, sym, ap, ◌∙◌}
use mathlib.Core.Bool.{Bool, true, false, cond, ◌&&◌, ◌||◌}
use mathlib.Core.Logic.{⊎_elim}
use mathlib.Core.List.{List}
use Prim.Native.Nat.{ℕ, ◌+◌, ◌/◌, ◌%◌, ◌≤◌, ◌<◌}
use native.Mathlib.Omega.{arith}
use native.Mathlib.Numerals.{add-one}
use lib.ListN.{length, get_or, drop, drop_of_length-le}
use lib.Seq.{drop-cons}
use lib.Dec.{eqb, leb}
use borrow.Author.Tests.{eqb-true, lt-ltb, le-ltb}
use Rattle.std.specs.Prelude.{Option, Some, None}
use Rattle.std.specs.Option.{is_some}
use Rattle.format.specs.Good.{member}
use Rattle.format.proofs.Laws.Tests.{eqb_means, leb_means, or_means}
use Rattle.windows_1252_table.specs.Table.{table, unit_of, byte_of}
use Rattle.windows_1252_table.specs.Utf16.{units_in, all_in_table}
use Rattle.windows_1252.specs.Code.{candidate_bytes, candidate_of, byte_in}
use Rattle.windows_1252_table.proofs.Laws.Table.{every, every_at, table_long, byte_of_unit, unit_of_byte, byte_small, byte_missing}
use Rattle.windows_1252_table.proofs.Laws.Utf16.{length_units}

-- which units are in the table
outside : (u : ℕ) → byte_of u ≡ 256 → member u table ≡ false
outside u e = go (member u table) refl
  where
    go : (t : Bool) → member u table ≡ t → member u table ≡ false
    go true m = absurd (omega (arith, e, byte_small u m))
    go false m = m

inside : (u : ℕ) → byte_of u < 256 → member u table ≡ true
inside u h = go (member u table) refl
  where
    go : (t : Bool) → member u table ≡ t → member u table ≡ true
    go true m = m
    go false m = absurd (omega (arith, h, byte_missing u m))

-- a byte that is found, and none
pub found : (u : ℕ) {b : ℕ} → b < 256 → b ≡ byte_of u → Some b ≡ byte_in u
unfolding byte_in
found u {b} h e =
    ap Some e ∙ ap (λ t. cond t (Some (byte_of u)) None) (sym (inside u (omega (arith, h, e))))

pub some_byte : (u : ℕ) → is_some (byte_in u) ≡ member u table
unfolding byte_in
some_byte u = go (member u table)
  where
    go : (t : Bool) → is_some (cond t (Some (byte_of u)) None) ≡ t
    go true = refl
    go false = refl

pub missing : (u : ℕ) → 256 ≡ byte_of u → None ≡ byte_in u
unfolding byte_in
missing u e = ap (λ t. cond t (Some (byte_of u)) None) (sym (outside u (sym e)))

-- ---- units below 128

low : ℕ → ℕ → Bool
low b u = leb 128 b || eqb u b

table_low : every low 0 table ≡ true
unfolding every low table
table_low = refl

low_unit : (b : ℕ) → b < 128 → unit_of b ≡ b
unfolding unit_of low
low_unit b h =
    ⊎_elim (λ high. absurd (omega (arith, h, high))) (λ e. e)
    ((or_means (leb_means 128 b) (eqb_means (get_or table b 0) b)).holds (every_at low table table_low b (omega (arith, table_long))))

-- they are their own bytes
pub byte_low : (u : ℕ) → u < 128 → Some u ≡ byte_in u
byte_low u h =
    found u (omega (arith, h)) (sym (ap byte_of (sym (low_unit u h)) ∙ byte_of_unit u (omega (arith, h))))

-- ---- candidates

-- a unit's candidate, as the code reads it
pub candidate_low : (u : ℕ) → u < 256 → u ≡ candidate_of u
unfolding candidate_of
candidate_low u h = ap (λ t. cond t u (get_or candidate_bytes (u % 79) 0)) (sym (lt-ltb u 256 h))

pub candidate_high : (bs : List ℕ) (u : ℕ) → bs ≡ candidate_bytes → 256 ≤ u → get_or bs (u % 79) 0 ≡ candidate_of u
unfolding candidate_of
candidate_high bs u e h =
    ap (λ t. get_or t (u % 79) 0) e
    ∙ ap (λ t. cond t u (get_or candidate_bytes (u % 79) 0)) (sym (le-ltb u 256 h))

-- the candidate of a byte's unit is that byte: one test over the whole table
right : ℕ → ℕ → Bool
right b u = eqb (candidate_of u) b

table_right : every right 0 table ≡ true
unfolding every right table candidate_of candidate_bytes
table_right = refl

candidate_of_unit : (b : ℕ) → b < 256 → candidate_of (unit_of b) ≡ b
unfolding unit_of right
candidate_of_unit b h =
    eqb-true (candidate_of (get_or table b 0)) b (every_at right table table_right b (omega (arith, table_long)))

-- so a unit that is its candidate's has that byte, and no other unit has one
module _ (u : ℕ) {b : ℕ} (same : b ≡ candidate_of u) where
  pub candidate_found : b < 256 → unit_of b ≡ u → Some b ≡ byte_in u
  candidate_found h f = found u h (sym (ap byte_of (sym f) ∙ byte_of_unit b (omega (arith, h))))

  pub candidate_missing : (unit_of b ≡ u → ⊥) → None ≡ byte_in u
  candidate_missing f = missing u (go (member u table) refl)
    where
      go : (t : Bool) → member u table ≡ t → 256 ≡ byte_of u
      go true m =
          let back : unit_of (byte_of u) ≡ u = unit_of_byte u m in
          let at : candidate_of u ≡ byte_of u = ap candidate_of (sym back) ∙ candidate_of_unit (byte_of u) (byte_small u m) in
          absurd (f (ap unit_of (same ∙ at) ∙ back))
      go false m = sym (byte_missing u m)

-- ---- all units of some bytes

-- whether those from number i on are
pub rest_in_table : List ℕ → ℕ → Bool
rest_in_table s i = all_in_table (drop i (units_in s))

pub rest_all : (s : List ℕ) → all_in_table (units_in s) ≡ rest_in_table s 0
unfolding rest_in_table
rest_all s = refl

pub rest_none : (s : List ℕ) (i : ℕ) → length s / 2 ≤ i → true ≡ rest_in_table s i
unfolding rest_in_table all_in_table
rest_none s i h = sym (ap all_in_table (drop_of_length-le (units_in s) {i = i} (omega (arith, h, length_units s))))

module _ (s : List ℕ) (i : ℕ) (h : i < length s / 2) where
  rest_cons : rest_in_table s i ≡ (member (get_or (units_in s) i 0) table && rest_in_table s (i + 1))
  unfolding rest_in_table all_in_table
  rest_cons =
      ap all_in_table (drop-cons (units_in s) i 0 (omega (arith, h, length_units s)))
      ∙ ap (λ k. member (get_or (units_in s) i 0) table && all_in_table (drop k (units_in s))) (sym (add-one i))

  pub rest_outside : {o : Option ℕ} {u : ℕ} → o ≡ byte_in u → u ≡ get_or (units_in s) i 0 → is_some o ≡ false → false ≡ rest_in_table s i
  rest_outside {o} {u} e f g =
      sym (rest_cons ∙ ap (λ t. t && rest_in_table s (i + 1)) (sym (some_byte (get_or (units_in s) i 0)) ∙ ap is_some (ap byte_in (sym f) ∙ sym e) ∙ g))

  pub rest_next : {o : Option ℕ} {u : ℕ} → o ≡ byte_in u → u ≡ get_or (units_in s) i 0 → is_some o ≡ true → rest_in_table s i ≡ rest_in_table s (i + 1)
  rest_next {o} {u} e f g =
      rest_cons
      ∙ ap (λ t. t && rest_in_table s (i + 1)) (sym (some_byte (get_or (units_in s) i 0)) ∙ ap is_some (ap byte_in (sym f) ∙ sym e) ∙ g)
