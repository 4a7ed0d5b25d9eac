-- A read call's answer as it crosses, with the new handle or the caller's own.
-- Assumes nothing.
use mathlib.Core.Path.{◌≡◌, sym, ap, ap₂, ◌∙◌}
use mathlib.Core.Bool.{Bool, true, cond}
use mathlib.Core.List.{List}
use Prim.Native.Nat.{ℕ}
use borrow.Author.Tests.{eq-eqb, ne_eqb}
use Rattle.format.specs.declared.Edition.{Edition}
use Rattle.format.specs.Text.{width}
use Rattle.edition.specs.Editions.{edition_of, unit_of}
use Rattle.serve.specs.declared.Place.{Place}
use Rattle.serve.specs.declared.Answer.{Answer}
use Rattle.serve.specs.Answers.{Served, served}
use Rattle.serve.specs.Serving.{serving}
use Rattle.eventlog_serving.specs.declared.ReadHandle.{ReadHandle}
use Rattle.eventlog_serving.specs.Handles.{ReadServed, handle_of, read_handle, read_outcome, answered}

module _ (h : ReadHandle) (a : Answer) (out : List ℕ) where
  abbrev chosen : ℕ → Bool → ReadServed
  chosen status b =
      read_outcome (record { status = status; read = a.read; needed = a.needed; handle = cond b (read_handle a.handle.place a.handle.types) h }) out

  pub read_done : a.status ≡ 0 → chosen 0 true ≡ answered h (served a out)
  read_done e = ap₂ chosen (sym e) (sym (eq-eqb a.status 0 e))

  pub read_refused_lem : (a.status ≡ 0 → ⊥)
      → read_outcome (record { status = a.status; read = a.read; needed = a.needed; handle = h }) out ≡ answered h (served a out)
  read_refused_lem e = ap (chosen a.status) (sym (ne_eqb a.status 0 e))

-- The call below, in the edition and at the place that were given. It is a law over variables, so that the prover does
-- not write out what stands in the caller's proof.
pub read_in : (n : ℕ) (h : ReadHandle) (log : List ℕ) (flags number size : ℕ) (out : List ℕ) {e : Edition} {p : Place} {x : Served}
    → e ≡ edition_of n → p ≡ (handle_of h).place
    → x ≡ serving (width e) log (record { place = p; types = h.types }) flags number size out
    → answered h x ≡ answered h (serving (unit_of n) log (handle_of h) flags number size out)
read_in n h log flags number size out f g k =
    ap (answered h)
    (k ∙ λ i. serving (width (f i)) log (record { place = g i; types = h.types }) flags number size out)
