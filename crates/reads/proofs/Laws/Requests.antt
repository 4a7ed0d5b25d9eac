-- What the flags of a read ask for, and where a read with right size, set and handle starts.
-- Assumes nothing.
use Rattle.std.specs.Prelude.{◌≡◌, refl, true, cond, ◌&&◌, List, ℕ, length, leb, Some}
use Rattle.std.proofs.Math.Path.{ap}
use Rattle.std.proofs.Common.{◌∙◌, le-leb}
use Rattle.format.specs.declared.Direction.{Direction}
use Rattle.format.specs.declared.Direction.TheVariants.{Forwards, Backwards}
use Rattle.format.specs.Layout.{max_read}
use Rattle.event_types.specs.Types.{is_type_set}
use Rattle.delivery.specs.Delivering.{delivering}
use Rattle.request.specs.declared.Request.TheVariants.{Sequential, Seek}
use Rattle.request.specs.Statuses.{invalid_parameter, invalid_handle}
use Rattle.request.specs.Asking.{request}
use Rattle.seek.specs.Seeking.{seek_start}
use Rattle.serve.specs.declared.Place.{Place}
use Rattle.serve.specs.declared.Place.TheVariants.{Fresh, Boundary}
use Rattle.serve.specs.declared.Handle.{Handle}
use Rattle.serve.specs.Answers.{Served}
use Rattle.serve.specs.Serving.{reading_place, in_log, refused, served_with, started, allowed, asked, serving}
use Rattle.reads.specs.Model.{Read, sequential_flags, seek_flags, RightSize, RightSet, Inside, Asks}
use Rattle.reads.specs.Series.{call}

pub request_sequential : (d : Direction) → request (sequential_flags d) ≡ Some (Sequential d)
unfolding request
request_sequential Forwards = refl
request_sequential Backwards = refl

pub request_seek : (d : Direction) → request (seek_flags d) ≡ Some (Seek d)
unfolding request
request_seek Forwards = refl
request_seek Backwards = refl

-- ---- a size, a set and a handle that are right

inside_log : (s : List ℕ) (h : Handle) → Inside s h → in_log s h.place ≡ true
inside_log s h i = go h.place refl
  where
    go : (x : Place) → h.place ≡ x → in_log s x ≡ true
    go Fresh e = refl
    go (Boundary b) e = le-leb b (length s) (i.boundary b e)

-- the boundary decides, and before it the set
abbrev pub placed : List ℕ → Handle → List ℕ → Served → Served
placed s h out x = cond (in_log s h.place) x (refused invalid_handle 0 h out)

abbrev pub typed : List ℕ → Handle → List ℕ → Served → Served
typed s h out x = cond (is_type_set h.types) (placed s h out x) (refused invalid_parameter 0 h out)

pub size_allowed : (s : List ℕ) (h : Handle) {q : Read} → RightSize q → (x : Served) → allowed s h q.size q.output x ≡ typed s h q.output x
size_allowed s h {q} z x =
    ap (λ b. cond (b && leb q.size (length q.output)) (typed s h q.output x) (refused invalid_parameter 0 h q.output)) (le-leb q.size max_read z.limit)
    ∙ ap (λ b. cond b (typed s h q.output x) (refused invalid_parameter 0 h q.output)) (le-leb q.size (length q.output) z.room)

pub set_allowed : (s : List ℕ) (h : Handle) (out : List ℕ) → RightSet h → (x : Served) → typed s h out x ≡ placed s h out x
set_allowed s h out z x = ap (λ b. cond b (placed s h out x) (refused invalid_parameter 0 h out)) z.set

all_allowed : {flags : ℕ} {s : List ℕ} {h : Handle} {q : Read} → Asks flags s h q → (x : Served) → allowed s h q.size q.output x ≡ x
all_allowed {flags} {s} {h} {q} a x =
    size_allowed s h a.sized x
    ∙ set_allowed s h q.output a.typed x
    ∙ ap (λ b. cond b x (refused invalid_handle 0 h q.output)) (inside_log s h a.inside)

module _ (d : Direction) (w : ℕ) (s : List ℕ) (h : Handle) (q : Read) where
  -- a sequential read goes on from the handle's place
  pub sequential_started : Asks (sequential_flags d) s h q
      → call w s h q ≡ served_with h (delivering d w s h.types (reading_place d s h.place) q.size q.output)
  unfolding serving
  sequential_started a =
      ap (asked w s h q.number q.size q.output) (ap request a.flagged ∙ request_sequential d)
      ∙ all_allowed a (served_with h (delivering d w s h.types (reading_place d s h.place) q.size q.output))

  -- a seek from the record with the number
  pub seek_started : Asks (seek_flags d) s h q
      → call w s h q ≡ started d w s q.size h q.output (seek_start d w s q.number)
  unfolding serving
  seek_started a =
      ap (asked w s h q.number q.size q.output) (ap request a.flagged ∙ request_seek d)
      ∙ all_allowed a (started d w s q.size h q.output (seek_start d w s q.number))
