-- Bytes that are stored by way of others, and such as are stored twice: a last block over the one before it.
-- Assumes nothing.
use mathlib.Core.Path.{◌≡◌, sym, ap, ap₂, ◌∙◌, subst}
use mathlib.Core.List.{List, ◌++◌, append_assoc, append-nil}
use Prim.Native.Nat.{ℕ, ◌+◌, ◌-◌, ◌≤◌}
use native.Mathlib.Nat.{add-zero, add-sub_cancel_left}
use native.Mathlib.Omega.{arith}
use lib.ListN.{length, take, drop, length-append, length-drop, take-append-drop}
use lib.Seq.{length-take-le, take_at, take_all, drop_at, drop-drop, drop-length, take-add}
use Rattle.format.specs.Bytes.{part}
use Rattle.format.specs.Stores.{over}
use Rattle.format.specs.Stores.{Stored}
use Rattle.format.proofs.Laws.Stores.{length_over, over_then, stored_then}
use Rattle.stores.specs.Laws.{StoredPart}

-- how many bytes are lent from a place to a place
pub length_lent : (t : List ℕ) (from n : ℕ) → from + n ≤ length t → length (part from (from + n - from) t) ≡ n
length_lent t from n h =
    ap (λ k. length (part from k t)) (add-sub_cancel_left from n)
    ∙ length-take-le n (drop from t) (omega (arith, h, length-drop from t))

-- bytes put over as many
over_whole : (b t : List ℕ) → length t ≡ length b → over b 0 t ≡ t
unfolding over
over_whole b t h =
    let end : 0 + length t ≡ length b = omega (arith, h) in
    ap (λ k. t ++ drop k b) end ∙ ap (λ l. t ++ l) (drop-length b) ∙ append-nil t

-- by way of b
pub stored_through : {b c l m t : List ℕ} {at q r : ℕ} → length t ≡ length b → Stored b 0 t q c → Stored l at c r m → Stored l at t r m
stored_through {b} {c} {l} {m} {t} {at} {q} {r} h x y = subst (λ u. Stored l at u r m) (x.bytes ∙ over_whole b t h) y

-- bytes put over others from the same place on, and past them
over_again : (l : List ℕ) (p : ℕ) (u v : List ℕ) → length u ≤ length v → p + length v ≤ length l → over (over l p u) p v ≡ over l p v
unfolding over
over_again l p u v h room =
    let x : List ℕ = drop (p + length u) l in
    let k : ℕ = length v - length u in
    let long : p + length v ≡ p + length u + k = omega (arith, h) in
    let front : length (take p l ++ u) ≡ p + length u = length-append (take p l) u ∙ ap (λ n. n + length u) (length-take-le p l (omega arith)) in
    let rest : drop (p + length u) (take p l ++ (u ++ x)) ≡ x = ap (drop (p + length u)) (sym (append_assoc (take p l) u x)) ∙ drop_at (take p l ++ u) x (p + length u) front in
    let high : drop (p + length v) (take p l ++ (u ++ x)) ≡ drop (p + length v) l = ap (λ n. drop n (take p l ++ (u ++ x))) long ∙ sym (drop-drop k (p + length u) (take p l ++ (u ++ x))) ∙ ap (drop k) rest ∙ drop-drop k (p + length u) l ∙ ap (λ n. drop n l) (sym long) in
    ap₂ (λ a b. a ++ (v ++ b)) (take_at (take p l) (u ++ x) p (length-take-le p l (omega arith))) high

-- the first m bytes of t, and then those from s on
stored_twice : (t : List ℕ) (s m : ℕ) {l : List ℕ} {at q r : ℕ} {l₁ l₂ : List ℕ} → s ≤ m → m ≤ length t → at + length t ≤ length l
    → Stored l at (take m t) q l₁ → Stored l₁ (at + s) (drop s t) r l₂ → Stored l at t r l₂
stored_twice t s m {l} {at} h high room x y =
    let u : List ℕ = take s t in
    let v : List ℕ = take (m - s) (drop s t) in
    let ulong : length u ≡ s = length-take-le s t (omega (arith, h, high)) in
    let rest : length (drop s t) ≡ length t - s = length-drop s t in
    let vlong : length v ≡ m - s = length-take-le (m - s) (drop s t) (omega (arith, h, high, rest)) in
    let long : m ≡ s + (m - s) = omega (arith, h) in
    let joined : take m t ≡ u ++ v = ap (λ k. take k t) long ∙ take-add s (m - s) t in
    let kept : length (over l at u) ≡ length l = length_over l at u (omega (arith, ulong, room, high, h)) in
    record {
      place = y.place ∙ omega (arith, h, high, rest);
      bytes =
          y.bytes
          ∙ ap₂ (λ (a : List ℕ) (k : ℕ). over a k (drop s t)) (x.bytes ∙ ap (over l at) joined ∙ sym (over_then l at u v (omega (arith, ulong, vlong, room, high, h)))) (ap (λ k. at + k) (sym ulong))
          ∙ over_again (over l at u) (at + length u) v (drop s t) (omega (arith, ulong, vlong, rest, high, h)) (omega (arith, kept, ulong, rest, room))
          ∙ over_then l at u (drop s t) (omega (arith, ulong, rest, room))
          ∙ ap (over l at) (take-append-drop s t);
    }

-- the first i bytes of t, and then the n after them
pub stored_next : (t : List ℕ) (i n : ℕ) {l l₁ l₂ : List ℕ} {at q r : ℕ} → i + n ≤ length t → at + length t ≤ length l
    → Stored l at (take i t) q l₁ → Stored l₁ (at + i) (part i n t) r l₂ → Stored l at (take (i + n) t) (at + (i + n)) l₂
stored_next t i n {l} {l₁} {l₂} {at} {q} {r} h room x y =
    let first : length (take i t) ≡ i = length-take-le i t (omega (arith, h)) in
    let next : length (part i n t) ≡ n = length-take-le n (drop i t) (omega (arith, h, length-drop i t)) in
    let both : length (take (i + n) t) ≡ i + n = length-take-le (i + n) t h in
    let z : Stored l at (take i t ++ part i n t) r l₂ =
    stored_then (omega (arith, first, next, h, room)) x (subst (λ p. Stored l₁ p (part i n t) r l₂) (sym (x.place ∙ ap (λ k. at + k) first)) y) in
    record { place = sym (ap (λ k. at + k) both); bytes = z.bytes ∙ ap (over l at) (sym (take-add i n t)) }

-- the part at the start of t
pub stored_first : {l m t : List ℕ} {at n q : ℕ} → StoredPart l at t 0 n q m → Stored l at (take n t) q m
stored_first {l} {m} {t} {at} {n} {q} x = subst (λ p. Stored l p (take n t) q m) (add-zero at) x.stored

-- the first m bytes of t, and then a part that reaches back to them and goes to the end
pub stored_last : (m : ℕ) {l l₁ l₂ t : List ℕ} {at q r s n : ℕ} → Stored l at (take m t) q l₁ → StoredPart l₁ at t s n r l₂
    → s + n ≡ length t → s ≤ m → m ≤ length t → at + length t ≤ length l → Stored l at t r l₂
stored_last m {l} {l₁} {l₂} {t} {at} {q} {r} {s} {n} x y end h high room =
    stored_twice t s m h high room x
    (subst (λ u. Stored l₁ (at + s) u r l₂) (take_all n (drop s t) (omega (arith, end, length-drop s t))) y.stored)
