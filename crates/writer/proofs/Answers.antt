-- What writing answers, by its ways out.
-- Assumes nothing.
use Rattle.std.specs.Prelude.{true, Some, Result, Ok, Err, leb}
use Rattle.std.proofs.lemmas.Option.{cond_some}
use mathlib.Core.Path.{◌≡◌, sym, ap, ◌∙◌}
use mathlib.Core.List.{List}
use Prim.Native.Nat.{ℕ, zero, suc, ◌≤◌, ◌<◌}
use native.Mathlib.Omega.{arith}
use lib.ListN.{length}
use Rattle.format.specs.Layout.{max_length, Event, size}
use Rattle.format.specs.declared.Written.{Written}
use Rattle.format.specs.Writing.{Output, outcome, writing_as, written_sizes, written, event_refusal, writing}
use Rattle.format.specs.Stores.{Stored}
use Rattle.format.proofs.Laws.Tests.{leb_means}
use Rattle.format.proofs.Laws.Writing.{short_refused, stored_written}
use Rattle.places.specs.declared.Places.{Places}
use Rattle.places.specs.Placing.{places_of, places_in}
use Rattle.event.specs.Refusing.{Checked, checked_of}
use Rattle.event.specs.declared.WriteRefusal.{WriteRefusal}
use Rattle.event.specs.Given.{number}
use Rattle.writer.specs.Answer.{answer}
use Rattle.writer.specs.Room.{RoomFor}
use Rattle.writer.proofs.WholeRecord.{length_written}

-- ---- an event that is refused

refused_as : (j k : ℕ) (r out : List ℕ) → 0 < k → k ≡ j → outcome (record { refusal = k; length = 0 }) out ≡ writing_as j r out
refused_as zero k r out some e = absurd (omega (arith, some, e))
refused_as (suc j) k r out some e = ap (λ n. outcome (record { refusal = n; length = 0 }) out) e

pub writing_refused : (w : ℕ) (e : Event) (out : List ℕ) (k : ℕ) → k ≡ event_refusal w e → 0 < k
    → outcome (record { refusal = k; length = 0 }) out ≡ writing w e out
unfolding writing
writing_refused w e out k same some = refused_as (event_refusal w e) k (written w e) out some same

-- ---- an event that nothing refuses

module _ (w : ℕ) (e : Event) (z : Places) (same : record { refusal = 0; places = Some z } ≡ checked_of w e) where
  unrefused : event_refusal w e ≡ 0
  unrefused = sym (ap (λ (c : Checked). c.refusal) same)

  fit : (leb (size w (written_sizes w e)) max_length ≡ true) × (places_of w (written_sizes w e) ≡ z)
  unfolding places_in written_sizes
  fit = cond_some (leb (size w (written_sizes w e)) max_length) (places_of w (written_sizes w e)) z (sym (ap (λ (c : Checked). c.places) same))

  short : size w (written_sizes w e) ≤ max_length
  short = (leb_means (size w (written_sizes w e)) max_length).holds fit.0

  long : z.length ≡ length (written w e)
  long = ap (λ (x : Places). x.length) (sym fit.1) ∙ sym (length_written w e)

  module _ (out : List ℕ) where
    tested : writing w e out ≡ writing_as 0 (written w e) out
    unfolding writing
    tested = ap (λ j. writing_as j (written w e) out) unrefused

    pub writing_short : length out < z.length → outcome (record { refusal = 15; length = 0 }) out ≡ writing w e out
    writing_short h = short_refused (written w e) out long h ∙ sym tested

    pub roomy : z.length ≤ length out → RoomFor w z e (length out)
    roomy h = record { places = sym fit.1; short = short; fits = omega (arith, h, ap (λ (x : Places). x.length) (sym fit.1)) }

    pub writing_done : {r : ℕ} {m : List ℕ} → z.length ≤ length out → Stored out 0 (written w e) r m
        → outcome (record { refusal = 0; length = z.length }) m ≡ writing w e out
    writing_done h x = stored_written (written w e) out long h x ∙ sym tested

-- ---- the answer, as it crosses to C

module _ {r : Result ℕ WriteRefusal} {a : Written} {out : List ℕ} {o : Output} (e : outcome (answer r) out ≡ o) where
  pub answered : {n : ℕ} → r ≡ Ok n → a.refusal ≡ 0 → a.length ≡ n → outcome a out ≡ o
  answered {n} is refusal length = (λ i. outcome (record { refusal = refusal i; length = length i }) out) ∙ sym (ap (λ x. outcome (answer x) out) is) ∙ e

  pub answered_refused : {k : WriteRefusal} → r ≡ Err k → a.refusal ≡ number k → a.length ≡ 0 → outcome a out ≡ o
  answered_refused {k} is refusal length = (λ i. outcome (record { refusal = refusal i; length = length i }) out) ∙ sym (ap (λ x. outcome (answer x) out) is) ∙ e
