-- Laws of places in a list, and what they say of the table.
-- Assumes nothing.
use Rattle.std.specs.Prelude.{◌≡◌, refl, Bool, true, false, cond, not, ◌&&◌, ◌||◌, List, [], ◌∷◌, ℕ, zero, suc, ◌+◌, ◌<◌, length, get_or, eqb, ltb}
use Rattle.std.proofs.Common.{sym, ap, ◌∙◌, subst, add-zero, zero-add, le_of_suc-le-suc, not-suc-le-zero, arith, eqb-true, eq-eqb, ltb-true}
use Rattle.std.proofs.lemmas.Bool.{false≢true}
use Rattle.format.specs.Bytes.{All, none, more}
use Rattle.format.specs.Good.{member}
use Rattle.format.proofs.Laws.Tests.{nope, eqb_means, and_left, and_right, or_right}
use Rattle.windows_1252_table.specs.Table.{table, unit_of, place, byte_of}

-- ---- any list

-- no number stands in it twice
unfoldable pub different : List ℕ → Bool
different [] = true
different (x ∷ xs) = not (member x xs) && different xs

-- what stands in a list is a member
pub member_at : (xs : List ℕ) (k : ℕ) → k < length xs → member (get_or xs k 0) xs ≡ true
member_at [] k h = absurd (not-suc-le-zero h)
member_at (x ∷ xs) zero h = ap (λ t. t || member x xs) (eq-eqb x x refl)
member_at (x ∷ xs) (suc k) h = or_right (eqb (get_or xs k 0) x) _ (member_at xs k (le_of_suc-le-suc h))

-- so what is no member differs from it
not_at : (x : ℕ) (xs : List ℕ) (k : ℕ) → not (member x xs) ≡ true → k < length xs → get_or xs k 0 ≡ x → ⊥
not_at x xs k e h same =
    false≢true (ap not (sym (ap (λ y. member y xs) (sym same) ∙ member_at xs k h)) ∙ e)

-- a number is found at the first place where it stands
place_here : (u x : ℕ) (xs : List ℕ) → u ≡ x → place u (x ∷ xs) ≡ 0
unfolding place
place_here u x xs e = ap (λ t. cond t 0 (suc (place u xs))) (eq-eqb u x e)

place_later : (u x : ℕ) (xs : List ℕ) → (u ≡ x → ⊥) → place u (x ∷ xs) ≡ suc (place u xs)
unfolding place
place_later u x xs f = ap (λ t. cond t 0 (suc (place u xs))) (nope (eqb_means u x) f)

-- where no number stands twice, each is found where it stands
place_at : (xs : List ℕ) → different xs ≡ true → (k : ℕ) → k < length xs → place (get_or xs k 0) xs ≡ k
unfolding different
place_at [] d k h = absurd (not-suc-le-zero h)
place_at (x ∷ xs) d zero h = place_here x x xs refl
place_at (x ∷ xs) d (suc k) h =
    let below : k < length xs = le_of_suc-le-suc h in
    place_later (get_or xs k 0) x xs (not_at x xs k (and_left (not (member x xs)) (different xs) d) below)
    ∙ ap suc (place_at xs (and_right (not (member x xs)) (different xs) d) k below)

-- a member stands at its place
pub record Found (u : ℕ) (xs : List ℕ) : Type 0 where
  pub inside : place u xs < length xs
  pub here : get_or xs (place u xs) 0 ≡ u

place_found : (u : ℕ) (xs : List ℕ) → member u xs ≡ true → Found u xs
unfolding place
place_found u [] e = absurd (false≢true e)
place_found u (x ∷ xs) e = go (eqb u x) refl e (place_found u xs)
  where
    go : (t : Bool) → eqb u x ≡ t → (t || member u xs) ≡ true → (member u xs ≡ true → Found u xs) → Found u (x ∷ xs)
    go true f h rest =
        let z = place_here u x xs (eqb-true u x f) in
        record { inside = omega (arith, z); here = ap (λ k. get_or (x ∷ xs) k 0) z ∙ sym (eqb-true u x f) }
    go false f h rest =
        let z : place u (x ∷ xs) ≡ suc (place u xs) = ap (λ t. cond t 0 (suc (place u xs))) f in
        let y = rest h in
        record { inside = omega (arith, z, y.inside); here = ap (λ k. get_or (x ∷ xs) k 0) z ∙ y.here }

-- what is no member has the place after the last
pub place_missing : (u : ℕ) (xs : List ℕ) → member u xs ≡ false → place u xs ≡ length xs
unfolding place
place_missing u [] e = refl
place_missing u (x ∷ xs) e = go (eqb u x) refl e (place_missing u xs)
  where
    go : (t : Bool) → eqb u x ≡ t → (t || member u xs) ≡ false → (member u xs ≡ false → place u xs ≡ length xs) → place u (x ∷ xs) ≡ suc (length xs)
    go true f h rest = absurd (false≢true (sym h))
    go false f h rest = ap (λ t. cond t 0 (suc (place u xs))) f ∙ ap suc (rest h)

-- a test of each number and its place, counted from i, that all pass
unfoldable pub every : (ℕ → ℕ → Bool) → ℕ → List ℕ → Bool
every f i [] = true
every f i (x ∷ xs) = f i x && every f (suc i) xs

every_from : (f : ℕ → ℕ → Bool) (i : ℕ) (xs : List ℕ) → every f i xs ≡ true → (k : ℕ) → k < length xs → f (i + k) (get_or xs k 0) ≡ true
unfolding every
every_from f i [] e k h = absurd (not-suc-le-zero h)
every_from f i (x ∷ xs) e zero h = ap (λ m. f m x) (add-zero i) ∙ and_left (f i x) (every f (suc i) xs) e
every_from f i (x ∷ xs) e (suc k) h =
    let next : i + suc k ≡ suc i + k = omega arith in
    ap (λ m. f m (get_or xs k 0)) next ∙ every_from f (suc i) xs (and_right (f i x) (every f (suc i) xs) e) k (le_of_suc-le-suc h)

pub every_at : (f : ℕ → ℕ → Bool) (xs : List ℕ) → every f 0 xs ≡ true → (k : ℕ) → k < length xs → f k (get_or xs k 0) ≡ true
every_at f xs e k h = ap (λ m. f m (get_or xs k 0)) (sym (zero-add k)) ∙ every_from f 0 xs e k h

-- ---- the table

pub table_long : length table ≡ 256
unfolding table
table_long = refl

-- Rule 14.1: its entries are all different: one test over the whole table
table_different : different table ≡ true
unfolding different table
table_different = refl

-- and each is a number of two bytes
unit : ℕ → ℕ → Bool
unit b u = ltb u 65536

table_units : every unit 0 table ≡ true
unfolding every unit table
table_units = refl

-- a byte's unit is that byte's
pub byte_of_unit : (b : ℕ) → b < 256 → byte_of (unit_of b) ≡ b
unfolding byte_of unit_of
byte_of_unit b h = place_at table table_different b (omega (arith, table_long))

pub unit_member : (b : ℕ) → b < 256 → member (unit_of b) table ≡ true
unfolding unit_of
unit_member b h = member_at table b (omega (arith, table_long))

pub unit_small : (b : ℕ) → b < 256 → unit_of b < 65536
unfolding unit_of unit
unit_small b h = ltb-true (get_or table b 0) 65536 (every_at unit table table_units b (omega (arith, table_long)))

-- a unit of the table is its byte's
pub unit_of_byte : (u : ℕ) → member u table ≡ true → unit_of (byte_of u) ≡ u
unfolding unit_of byte_of
unit_of_byte u e = (place_found u table e).here

pub byte_small : (u : ℕ) → member u table ≡ true → byte_of u < 256
unfolding byte_of
byte_small u e = let x = (place_found u table e).inside in omega (arith, x, table_long)

pub byte_missing : (u : ℕ) → member u table ≡ false → byte_of u ≡ 256
unfolding byte_of
byte_missing u e = place_missing u table e ∙ table_long

-- so a run of units of the table is one of numbers of two bytes
pub in_table_small : {us : List ℕ} → All (λ u. member u table ≡ true) us → All (λ u. u < 65536) us
in_table_small none = none
in_table_small (more {x} {xs} h rest) =
    more (subst (λ u. u < 65536) (unit_of_byte x h) (unit_small (byte_of x) (byte_small x h))) (in_table_small rest)
