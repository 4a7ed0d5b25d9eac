-- One operation after a series of others.
-- Assumes nothing.
use Rattle.std.specs.Prelude.{◌≡◌, ℕ}
use Rattle.std.proofs.Math.Path.{refl, ap}
use mathlib.Core.List.{List, [], ◌∷◌, ◌++◌, map}
use Rattle.format.specs.Bytes.{All, none, more}
use Rattle.reads.specs.Model.{Read}
use Rattle.reads.specs.Operations.{Operation, Reading, Givable, given_read, State, Outcome, outcome, outcomes, state_after}
use Rattle.reads.specs.Calls.{Handed, Result, result, handed_on, results, handed_after}

pub all_then_one : (os : List Operation) {o : Operation} → All Givable os → Givable o → All Givable (os ++ (o ∷ []))
all_then_one [] none g = more g none
all_then_one (a ∷ os) (more h hs) g = more h (all_then_one os hs g)

pub all_reads : (qs : List Read) → All Givable (map Reading qs)
all_reads [] = none
all_reads (q ∷ qs) = more given_read (all_reads qs)

module _ (w : ℕ) where
  pub results_then : (x : Handed) (os : List Operation) (o : Operation) → results w x (os ++ (o ∷ [])) ≡ results w x os ++ (result w (handed_after w x os) o ∷ [])
  unfolding results handed_after
  results_then x [] o = refl
  results_then x (a ∷ os) o = ap (λ (l : List Result). result w x a ∷ l) (results_then (handed_on x (result w x a)) os o)

  pub handed_then : (x : Handed) (os : List Operation) (o : Operation)
      → handed_after w x (os ++ (o ∷ [])) ≡ handed_on (handed_after w x os) (result w (handed_after w x os) o)
  unfolding handed_after
  handed_then x [] o = refl
  handed_then x (a ∷ os) o = handed_then (handed_on x (result w x a)) os o

  pub outcomes_then : (types : ℕ) (m : State) (os : List Operation) (o : Operation)
      → outcomes w types m (os ++ (o ∷ [])) ≡ outcomes w types m os ++ (outcome w types (state_after w types m os) o ∷ [])
  unfolding outcomes state_after
  outcomes_then types m [] o = refl
  outcomes_then types m (a ∷ os) o = ap (λ (l : List Outcome). outcome w types m a ∷ l) (outcomes_then types (outcome w types m a).state os o)

  pub state_then : (types : ℕ) (m : State) (os : List Operation) (o : Operation)
      → state_after w types m (os ++ (o ∷ [])) ≡ (outcome w types (state_after w types m os) o).state
  unfolding state_after
  state_then types m [] o = refl
  state_then types m (a ∷ os) o = state_then types (outcome w types m a).state os o
