-- What is proved of windows-1252 and UTF-16 (section 14): read this file first. Each theorem holds for any bytes and
-- any output.
-- Assumes nothing.
use Rattle.std.specs.Prelude.{◌≡◌, refl, Bool, true, false, cond, ◌↔◌, List, [], ◌∷◌, ◌++◌, ℕ, ◌*◌, ◌/◌, ◌≤◌, ◌<◌, length, drop}
use Rattle.std.proofs.Common.{sym, ap, ◌∙◌, arith, le-leb}
use Rattle.std.proofs.lemmas.Bool.{lt-leb}
use Rattle.format.specs.Bytes.{IsBytes, All}
use Rattle.format.specs.Good.{member}
use Rattle.format.specs.Writing.{Output, outcome, writing_as}
use Rattle.format.proofs.Laws.Writing.{wrote as format-wrote, unwritten, writing_holds}
use Rattle.windows_1252_table.specs.Table.{table, unit_of, byte_of}
use Rattle.windows_1252_table.specs.Utf16.{unit_bytes, units_in, to_utf16, whole_test, utf16_refusal, from_utf16}
use Rattle.windows_1252.specs.Calls.{writing_utf16, writing_bytes}
use Rattle.windows_1252_table.proofs.Laws.Table.{byte_of_unit}
use Rattle.windows_1252_table.proofs.Laws.Utf16.{bytes_back, accepted_whole, whole_accepted, length_to_utf16, length_from_utf16, run_whole, to_whole, there_back, back_there}

-- ---- what a call answers, and its output afterwards

-- Rules 14.5 and 14.8: the bytes r over the start of the output
abbrev pub wrote : List ℕ → List ℕ → Output
wrote r out = outcome (record { refusal = 0; length = length r }) (r ++ drop (length r) out)

-- Rules 14.5 and 14.8: refused, and no byte has changed
abbrev pub refused : ℕ → List ℕ → Output
refused k out = outcome (record { refusal = k; length = 0 }) out

-- with room for what is written, and without
roomy : (r out : List ℕ) → length r ≤ length out → writing_as 0 r out ≡ wrote r out
roomy r out h = ap (λ t. cond t (wrote r out) (refused 15 out)) (le-leb (length r) (length out) h)

no_room : (r out : List ℕ) → length out < length r → writing_as 0 r out ≡ refused 15 out
no_room r out h = ap (λ t. cond t (wrote r out) (refused 15 out)) (lt-leb (length r) (length out) h)

-- ---- Rule 14.1: the table

-- its entries are all different
pub entries_different : (i j : ℕ) → i < 256 → j < 256 → unit_of i ≡ unit_of j → i ≡ j
entries_different i j h k e = sym (byte_of_unit i h) ∙ ap byte_of e ∙ byte_of_unit j k

-- ---- Rule 14.5: to UTF-16

-- any bytes are written, two for each, where there is room
pub utf16_written : (bytes out : List ℕ) → 2 * length bytes ≤ length out → writing_utf16 bytes out ≡ wrote (to_utf16 bytes) out
unfolding writing_utf16
utf16_written bytes out h = roomy (to_utf16 bytes) out (omega (arith, h, length_to_utf16 bytes))

pub utf16_size : (bytes : List ℕ) → length (to_utf16 bytes) ≡ 2 * length bytes
utf16_size bytes = length_to_utf16 bytes

pub utf16_no_room : (bytes out : List ℕ) → length out < 2 * length bytes → writing_utf16 bytes out ≡ refused 15 out
unfolding writing_utf16
utf16_no_room bytes out h = no_room (to_utf16 bytes) out (omega (arith, h, length_to_utf16 bytes))

-- ---- Rule 14.8: from UTF-16

pub bytes_written : (s out : List ℕ) → utf16_refusal s ≡ 0 → length s / 2 ≤ length out → writing_bytes s out ≡ wrote (from_utf16 s) out
unfolding writing_bytes
bytes_written s out e h =
    ap (λ k. writing_as k (from_utf16 s) out) e ∙ roomy (from_utf16 s) out (omega (arith, h, length_from_utf16 s))

-- 18 comes first, whatever the output
pub outside_table : (s out : List ℕ) → utf16_refusal s ≡ 18 → writing_bytes s out ≡ refused 18 out
unfolding writing_bytes
outside_table s out e = ap (λ k. writing_as k (from_utf16 s) out) e

-- and then 15
pub bytes_no_room : (s out : List ℕ) → utf16_refusal s ≡ 0 → length out < length s / 2 → writing_bytes s out ≡ refused 15 out
unfolding writing_bytes
bytes_no_room s out e h =
    ap (λ k. writing_as k (from_utf16 s) out) e ∙ no_room (from_utf16 s) out (omega (arith, h, length_from_utf16 s))

-- ---- Rule 14.9: there and back, and back and there

pub reads_back : (bytes out : List ℕ) → IsBytes bytes → length bytes ≤ length out → writing_bytes (to_utf16 bytes) out ≡ wrote bytes out
reads_back bytes out h room =
    bytes_written (to_utf16 bytes) out (whole_accepted (to_utf16 bytes) (to_whole bytes h)) (omega (arith, room, length_to_utf16 bytes))
    ∙ ap (λ r. wrote r out) (there_back bytes h)

pub writes_back : (s out : List ℕ) → IsBytes s → utf16_refusal s ≡ 0 → length s ≤ length out → writing_utf16 (from_utf16 s) out ≡ wrote s out
writes_back s out h e room =
    utf16_written (from_utf16 s) out (omega (arith, room, length_from_utf16 s))
    ∙ ap (λ r. wrote r out) (back_there s h (accepted_whole s e))

-- ---- Rule 14.10: exactly the runs of units in the table are accepted

pub record IsRun (s : List ℕ) : Type 0 where
  pub units : List ℕ
  pub each : All (λ u. member u table ≡ true) units
  pub bytes : s ≡ unit_bytes units

run_of : (s : List ℕ) → IsBytes s → utf16_refusal s ≡ 0 → IsRun s
run_of s h e =
    let x = accepted_whole s e in
    record { units = units_in s; each = x.each; bytes = sym (bytes_back s h x.even) }

-- with room for the bytes
pub accepted_exactly : (s out : List ℕ) → IsBytes s → length s ≤ length out → ((writing_bytes s out).answer.refusal ≡ 0) ↔ IsRun s
unfolding writing_bytes
accepted_exactly s out h room = (there, back)
  where
    there : (writing_bytes s out).answer.refusal ≡ 0 → IsRun s
    there e = run_of s h (format-wrote (utf16_refusal s) (from_utf16 s) out e).accepted

    back : IsRun s → (writing_bytes s out).answer.refusal ≡ 0
    back r =
        let e : utf16_refusal s ≡ 0 = ap utf16_refusal r.bytes ∙ whole_accepted (unit_bytes r.units) (run_whole r.each) in
        ap (λ (x : Output). x.answer.refusal) (bytes_written s out e (omega (arith, room)))

-- all other bytes are refused with 18, whatever the output
pub others_refused : (s out : List ℕ) → IsBytes s → (IsRun s → ⊥) → writing_bytes s out ≡ refused 18 out
unfolding utf16_refusal
others_refused s out h f = go (whole_test s) refl
  where
    go : (t : Bool) → whole_test s ≡ t → writing_bytes s out ≡ refused 18 out
    go true e = absurd (f (run_of s h (ap (λ t. cond t 0 18) e)))
    go false e = outside_table s out (ap (λ t. cond t 0 18) e)

-- ---- Rules 14.5 and 14.8: the numbers that are answered, and what a refusal leaves

pub to_number : (bytes out : List ℕ) → member (writing_utf16 bytes out).answer.refusal (0 ∷ 15 ∷ []) ≡ true
unfolding writing_utf16
to_number bytes out = writing_holds (λ r. member r (0 ∷ 15 ∷ []) ≡ true) 0 (to_utf16 bytes) out refl refl

pub from_number : (s out : List ℕ) → member (writing_bytes s out).answer.refusal (0 ∷ 18 ∷ 15 ∷ []) ≡ true
unfolding writing_bytes utf16_refusal
from_number s out =
    let P : ℕ → Type 0 = λ r. member r (0 ∷ 18 ∷ 15 ∷ []) ≡ true in
    writing_holds P (utf16_refusal s) (from_utf16 s) out (go P (whole_test s) refl refl) refl
  where
    go : (P : ℕ → Type 0) (t : Bool) → P 0 → P 18 → P (cond t 0 18)
    go P true p q = p
    go P false p q = q

pub to_refused : (bytes out : List ℕ) → ((writing_utf16 bytes out).answer.refusal ≡ 0 → ⊥)
    → writing_utf16 bytes out ≡ refused (writing_utf16 bytes out).answer.refusal out
unfolding writing_utf16
to_refused bytes out h = unwritten 0 (to_utf16 bytes) out h

pub from_refused : (s out : List ℕ) → ((writing_bytes s out).answer.refusal ≡ 0 → ⊥)
    → writing_bytes s out ≡ refused (writing_bytes s out).answer.refusal out
unfolding writing_bytes
from_refused s out h = unwritten (utf16_refusal s) (from_utf16 s) out h
