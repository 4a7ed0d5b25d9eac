-- Laws of units as bytes, and of both conversions.
-- Assumes nothing.
use Rattle.std.specs.Prelude.{◌≡◌, refl, Bool, true, false, cond, List, [], ◌∷◌, ◌++◌, map, ℕ, zero, suc, ◌+◌, ◌*◌, ◌/◌, ◌%◌, ◌<◌, length, get_or, eqb}
use Rattle.std.proofs.Common.{sym, ap, ap₂, ◌∙◌, subst, suc-ne-zero, le_of_suc-le-suc, not-suc-le-zero, arith, eqb-true}
use Rattle.std.proofs.lemmas.List.{length-map}
use Rattle.format.specs.Bytes.{IsBytes, All, none, more, num}
use Rattle.format.specs.Good.{member}
use Rattle.format.proofs.Laws.Bytes.{bytes_nil, bytes_cons, bytes_tail, num_le, le_num}
use Rattle.format.proofs.Laws.Tests.{eqb_means, test_means, and_means, and_left, and_right}
use Rattle.windows_1252_table.specs.Table.{table, unit_of, byte_of}
use Rattle.windows_1252_table.specs.Utf16.{unit_bytes, units_in, to_utf16, all_in_table, whole_test, utf16_refusal, from_utf16}
use Rattle.windows_1252_table.proofs.Laws.Table.{byte_of_unit, unit_member, unit_of_byte, byte_small, in_table_small}

get_d_map : (f : ℕ → ℕ) (xs : List ℕ) (i : ℕ) → i < length xs → get_or (map f xs) i 0 ≡ f (get_or xs i 0)
get_d_map f [] i h = absurd (not-suc-le-zero h)
get_d_map f (x ∷ xs) zero h = refl
get_d_map f (x ∷ xs) (suc i) h = get_d_map f xs i (le_of_suc-le-suc h)

-- ---- units and their bytes

units_back : {us : List ℕ} → All (λ u. u < 65536) us → units_in (unit_bytes us) ≡ us
unfolding unit_bytes units_in
units_back none = refl
units_back (more {x} {xs} h rest) = ap₂ (λ (u : ℕ) (us : List ℕ). u ∷ us) (num_le 2 x [] h) (units_back rest)

length_unit_bytes : (us : List ℕ) → length (unit_bytes us) ≡ 2 * length us
unfolding unit_bytes
length_unit_bytes [] = refl
length_unit_bytes (u ∷ us) = omega (arith, length_unit_bytes us)

pub bytes_back : (s : List ℕ) → IsBytes s → length s % 2 ≡ 0 → unit_bytes (units_in s) ≡ s
unfolding unit_bytes units_in
bytes_back [] b e = refl
bytes_back (a ∷ []) b e = absurd (omega (arith, e))
bytes_back (x ∷ y ∷ s) b e =
    let c = bytes_tail b in
    ap₂ ◌++◌ (le_num 2 (x ∷ y ∷ []) (bytes_cons (b.byte 0) (bytes_cons (c.byte 0) bytes_nil)) (omega arith))
    (bytes_back s (bytes_tail c) (omega (arith, e)))

pub length_units : (s : List ℕ) → length (units_in s) ≡ length s / 2
unfolding units_in
length_units [] = refl
length_units (a ∷ []) = refl
length_units (a ∷ b ∷ s) = omega (arith, length_units s)

-- ---- units and the table

abbrev pub InTable : ℕ → Type 0
InTable u = member u table ≡ true

-- the test of all units
all_in_table_lem : (us : List ℕ) → all_in_table us ≡ true → All InTable us
unfolding all_in_table
all_in_table_lem [] e = none
all_in_table_lem (u ∷ us) e =
    more (and_left (member u table) (all_in_table us) e) (all_in_table_lem us (and_right (member u table) (all_in_table us) e))

in_table_all : {us : List ℕ} → All InTable us → all_in_table us ≡ true
unfolding all_in_table
in_table_all none = refl
in_table_all (more {x} {xs} h rest) = (and_means (test_means {t = member x table}) (test_means {t = all_in_table xs})).yes (h, in_table_all rest)

-- the units of bytes are in the table
units_of_bytes : (bs : List ℕ) → IsBytes bs → All InTable (map unit_of bs)
units_of_bytes [] h = none
units_of_bytes (b ∷ bs) h = more (unit_member b (h.byte 0)) (units_of_bytes bs (bytes_tail h))

bytes_again : (bs : List ℕ) → IsBytes bs → map byte_of (map unit_of bs) ≡ bs
bytes_again [] h = refl
bytes_again (b ∷ bs) h = ap₂ (λ (x : ℕ) (xs : List ℕ). x ∷ xs) (byte_of_unit b (h.byte 0)) (bytes_again bs (bytes_tail h))

units_again : {us : List ℕ} → All InTable us → map unit_of (map byte_of us) ≡ us
units_again none = refl
units_again (more {x} {xs} h rest) = ap₂ (λ (u : ℕ) (us : List ℕ). u ∷ us) (unit_of_byte x h) (units_again rest)

-- ---- what is accepted

-- whole units, and each in the table
pub record Whole (s : List ℕ) : Type 0 where
  pub even : length s % 2 ≡ 0
  pub each : All InTable (units_in s)

pub accepted_whole : (s : List ℕ) → utf16_refusal s ≡ 0 → Whole s
unfolding utf16_refusal
accepted_whole s e = go (whole_test s) refl e
  where
    go : (t : Bool) → whole_test s ≡ t → ◌≡◌ {A = ℕ} (cond t 0 18) 0 → Whole s
    go true f z = record {
      even = eqb-true (length s % 2) 0 (and_left (eqb (length s % 2) 0) (all_in_table (units_in s)) f);
      each = all_in_table_lem (units_in s) (and_right (eqb (length s % 2) 0) (all_in_table (units_in s)) f);
    }
    go false f z = absurd (suc-ne-zero 17 z)

pub whole_accepted : (s : List ℕ) → Whole s → utf16_refusal s ≡ 0
unfolding utf16_refusal
whole_accepted s x =
    ap (λ t. cond t 0 18)
    ((and_means (eqb_means (length s % 2) 0) (test_means {t = all_in_table (units_in s)})).yes (x.even, in_table_all x.each))

-- ---- both ways

pub length_to_utf16 : (bs : List ℕ) → length (to_utf16 bs) ≡ 2 * length bs
unfolding to_utf16
length_to_utf16 bs = length_unit_bytes (map unit_of bs) ∙ ap (λ n. 2 * n) (length-map bs unit_of)

pub length_from_utf16 : (s : List ℕ) → length (from_utf16 s) ≡ length s / 2
unfolding from_utf16
length_from_utf16 s = length-map (units_in s) byte_of ∙ length_units s

-- the units of a run are those that it was made of
pub run_whole : {us : List ℕ} → All InTable us → Whole (unit_bytes us)
run_whole {us} each =
    record {
      even = omega (arith, length_unit_bytes us);
      each = subst (All InTable) (sym (units_back (in_table_small each))) each;
    }

pub to_whole : (bs : List ℕ) → IsBytes bs → Whole (to_utf16 bs)
unfolding to_utf16
to_whole bs h = run_whole (units_of_bytes bs h)

pub there_back : (bs : List ℕ) → IsBytes bs → from_utf16 (to_utf16 bs) ≡ bs
unfolding to_utf16 from_utf16
there_back bs h = ap (map byte_of) (units_back (in_table_small (units_of_bytes bs h))) ∙ bytes_again bs h

pub back_there : (s : List ℕ) → IsBytes s → Whole s → to_utf16 (from_utf16 s) ≡ s
unfolding to_utf16 from_utf16
back_there s h x = ap unit_bytes (units_again x.each) ∙ bytes_back s h x.even

-- ---- byte by byte, and unit by unit

-- the two bytes of a unit
bytes_at : (us : List ℕ) (i : ℕ) → i < length us
    → (get_or (unit_bytes us) (2 * i) 0 ≡ get_or us i 0 % 256) × (get_or (unit_bytes us) (2 * i + 1) 0 ≡ get_or us i 0 / 256 % 256)
unfolding unit_bytes
bytes_at [] i h = absurd (not-suc-le-zero h)
bytes_at (u ∷ us) zero h = (refl, refl)
bytes_at (u ∷ us) (suc i) h =
    let low : 2 * suc i ≡ suc (suc (2 * i)) = omega arith in
    let high : 2 * suc i + 1 ≡ suc (suc (2 * i + 1)) = omega arith in
    let x = bytes_at us i (le_of_suc-le-suc h) in (
      ap (λ k. get_or (unit_bytes (u ∷ us)) k 0) low ∙ x.0,
      ap (λ k. get_or (unit_bytes (u ∷ us)) k 0) high ∙ x.1,
    )

pub to_low : (bs : List ℕ) (i : ℕ) → i < length bs → get_or (to_utf16 bs) (2 * i) 0 ≡ unit_of (get_or bs i 0) % 256
unfolding to_utf16
to_low bs i h = (bytes_at (map unit_of bs) i (omega (arith, h, length-map bs unit_of))).0 ∙ ap (λ u. u % 256) (get_d_map unit_of bs i h)

pub to_high : (bs : List ℕ) (i : ℕ) → i < length bs → get_or (to_utf16 bs) (2 * i + 1) 0 ≡ unit_of (get_or bs i 0) / 256 % 256
unfolding to_utf16
to_high bs i h = (bytes_at (map unit_of bs) i (omega (arith, h, length-map bs unit_of))).1 ∙ ap (λ u. u / 256 % 256) (get_d_map unit_of bs i h)

-- a unit, from its two bytes
pub unit_at : (s : List ℕ) (i : ℕ) → i < length s / 2 → get_or (units_in s) i 0 ≡ num 2 (get_or s (2 * i) 0 ∷ get_or s (2 * i + 1) 0 ∷ [])
unfolding units_in
unit_at [] i h = absurd (omega (arith, h))
unit_at (a ∷ []) i h = absurd (omega (arith, h))
unit_at (a ∷ b ∷ s) zero h = refl
unit_at (a ∷ b ∷ s) (suc i) h =
    let low : 2 * suc i ≡ suc (suc (2 * i)) = omega arith in
    let high : 2 * suc i + 1 ≡ suc (suc (2 * i + 1)) = omega arith in
    unit_at s i (omega (arith, h))
    ∙ ap₂ (λ (x y : ℕ). num 2 (x ∷ y ∷ [])) (sym (ap (λ k. get_or (a ∷ b ∷ s) k 0) low)) (sym (ap (λ k. get_or (a ∷ b ∷ s) k 0) high))

pub from_at : (s : List ℕ) (i : ℕ) → i < length s / 2 → get_or (from_utf16 s) i 0 ≡ byte_of (get_or (units_in s) i 0)
unfolding from_utf16
from_at s i h = get_d_map byte_of (units_in s) i (omega (arith, h, length_units s))

-- where nothing is refused, each unit has a byte
all_at : {P : ℕ → Type 0} {xs : List ℕ} → All P xs → (i : ℕ) → i < length xs → P (get_or xs i 0)
all_at none i h = absurd (not-suc-le-zero h)
all_at (more p rest) zero h = p
all_at (more p rest) (suc i) h = all_at rest i (le_of_suc-le-suc h)

pub accepted_byte : (s : List ℕ) (i : ℕ) → utf16_refusal s ≡ 0 → i < length s / 2 → byte_of (get_or (units_in s) i 0) < 256
accepted_byte s i e h = byte_small (get_or (units_in s) i 0) (all_at (accepted_whole s e).each i (omega (arith, h, length_units s)))
