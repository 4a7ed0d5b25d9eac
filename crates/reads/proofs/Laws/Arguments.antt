-- Reads whose flags, size, set or handle are wrong, and reads of which all are right.
-- Assumes nothing.
use Rattle.std.specs.Prelude.{◌≡◌, refl, Bool, true, false, cond, ◌&&◌, List, ℕ, ◌+◌, length, eqb, leb}
use Rattle.std.proofs.Common.{sym, ◌∙◌, arith, eqb-true, leb-true, leb-false}
use Rattle.std.proofs.Math.Path.{ap}
use Rattle.std.proofs.lemmas.Bool.{false≢true, eqb-false}
use Rattle.format.specs.declared.Direction.{Direction}
use Rattle.format.specs.declared.Direction.TheVariants.{Forwards, Backwards}
use Rattle.format.specs.Layout.{max_read}
use Rattle.event_types.specs.Types.{is_type_set}
use Rattle.request.specs.Statuses.{invalid_parameter, invalid_handle}
use Rattle.request.specs.Asking.{request}
use Rattle.request.specs.Laws.{request_wrong}
use Rattle.serve.specs.declared.Place.{Place}
use Rattle.serve.specs.declared.Place.TheVariants.{Fresh, Boundary}
use Rattle.serve.specs.declared.Handle.{Handle}
use Rattle.serve.specs.Answers.{Served}
use Rattle.serve.specs.Serving.{size_ok, in_log, refused, allowed, asked, serving}
use Rattle.reads.specs.Model.{Read, Wrong, sequential_flags, seek_flags, RightSize, RightSet, Inside, Asks}
use Rattle.reads.specs.Series.{call}
use Rattle.reads.proofs.Laws.Requests.{request_sequential, request_seek, placed, typed, size_allowed, set_allowed}

-- ---- each is right or wrong

by_flags : {X : Type 0} (flags : ℕ) → (Wrong flags → X) → ((d : Direction) → flags ≡ sequential_flags d → X) → ((d : Direction) → flags ≡ seek_flags d → X) → X
by_flags {X} flags f g k =
    go (eqb flags (1 + 4)) refl (eqb flags (1 + 8)) refl (eqb flags (2 + 4)) refl (eqb flags (2 + 8)) refl
  where
    go : (a : Bool) → eqb flags (1 + 4) ≡ a → (b : Bool) → eqb flags (1 + 8) ≡ b → (c : Bool) → eqb flags (2 + 4) ≡ c → (t : Bool) → eqb flags (2 + 8) ≡ t → X
    go true ea b eb c ec t et = g Forwards (eqb-true flags (1 + 4) ea)
    go false ea true eb c ec t et = g Backwards (eqb-true flags (1 + 8) eb)
    go false ea false eb true ec t et = k Forwards (eqb-true flags (2 + 4) ec)
    go false ea false eb false ec true et = k Backwards (eqb-true flags (2 + 8) et)
    go false ea false eb false ec false et =
        f (record {
          sequential_forwards = eqb-false flags (1 + 4) ea;
          sequential_backwards = eqb-false flags (1 + 8) eb;
          seek_forwards = eqb-false flags (2 + 4) ec;
          seek_backwards = eqb-false flags (2 + 8) et;
        })

by_size : {X : Type 0} (q : Read) → ((RightSize q → ⊥) → size_ok q.size q.output ≡ false → X) → (RightSize q → X) → X
by_size {X} q f g = go (leb q.size max_read) refl (leb q.size (length q.output)) refl
  where
    go : (a : Bool) → leb q.size max_read ≡ a → (b : Bool) → leb q.size (length q.output) ≡ b → X
    go false ea b eb =
        f (λ z. omega (arith, z.limit, leb-false q.size max_read ea))
        (ap (λ t. t && leb q.size (length q.output)) ea)
    go true ea false eb =
        f (λ z. omega (arith, z.room, leb-false q.size (length q.output) eb))
        (ap (λ t. t && leb q.size (length q.output)) ea ∙ eb)
    go true ea true eb =
        g (record { limit = leb-true q.size max_read ea; room = leb-true q.size (length q.output) eb })

by_set : {X : Type 0} (h : Handle) → ((RightSet h → ⊥) → is_type_set h.types ≡ false → X) → (RightSet h → X) → X
by_set {X} h f g = go (is_type_set h.types) refl
  where
    go : (b : Bool) → is_type_set h.types ≡ b → X
    go true e = g (record { set = e })
    go false e = f (λ z. false≢true (sym e ∙ z.set)) e

by_place : {X : Type 0} (s : List ℕ) (h : Handle) → ((Inside s h → ⊥) → in_log s h.place ≡ false → X) → (Inside s h → X) → X
by_place {X} s h f g = go h.place refl
  where
    bounded : (b : ℕ) → h.place ≡ Boundary b → (t : Bool) → leb b (length s) ≡ t → X
    bounded b e true l =
        g (record { boundary = λ c k. let same : b ≡ c = cc in omega (arith, same, leb-true b (length s) l) })
    bounded b e false l =
        f (λ i. omega (arith, i.boundary b e, leb-false b (length s) l)) (ap (in_log s) e ∙ l)

    go : (x : Place) → h.place ≡ x → X
    go Fresh e = g (record { boundary = λ c k. let z : ◌≡◌ {A = ℕ} 0 1 = cc in absurd (omega arith) })
    go (Boundary b) e = bounded b e (leb b (length s)) refl

-- ---- what is answered

module _ (w : ℕ) (s : List ℕ) (h : Handle) (q : Read) where
  pub wrong_flags : Wrong q.flags → call w s h q ≡ refused 0xC000000D 0 h q.output
  unfolding serving
  wrong_flags x =
      ap (asked w s h q.number q.size q.output) (request_wrong q.flags x.sequential_forwards x.sequential_backwards x.seek_forwards x.seek_backwards)

  -- flags that are right, whatever they ask for
  by_request : {X : Type 0} → (Wrong q.flags → X) → ((y : Served) → call w s h q ≡ allowed s h q.size q.output y → X) → X
  unfolding serving
  by_request f g =
      by_flags q.flags f
      (λ d e. g _ (ap (asked w s h q.number q.size q.output) (ap request e ∙ request_sequential d)))
      (λ d e. g _ (ap (asked w s h q.number q.size q.output) (ap request e ∙ request_seek d)))

  pub wrong_size : (RightSize q → ⊥) → call w s h q ≡ refused 0xC000000D 0 h q.output
  wrong_size bad =
      by_request wrong_flags
      (λ y e.
      by_size q
      (λ n z. e ∙ ap (λ b. cond b (typed s h q.output y) (refused invalid_parameter 0 h q.output)) z)
      (λ z. absurd (bad z)))

  pub wrong_set : (RightSet h → ⊥) → call w s h q ≡ refused 0xC000000D 0 h q.output
  wrong_set bad =
      by_request wrong_flags
      (λ y e.
      by_size q (λ n z. wrong_size n)
      (λ size.
      by_set h
      (λ n z. e ∙ size_allowed s h size y ∙ ap (λ b. cond b (placed s h q.output y) (refused invalid_parameter 0 h q.output)) z)
      (λ z. absurd (bad z))))

  pub past_end : (Wrong q.flags → ⊥) → RightSize q → RightSet h → (Inside s h → ⊥) → call w s h q ≡ refused 0xC0000008 0 h q.output
  past_end right size set bad =
      by_request (λ x. absurd (right x))
      (λ y e.
      by_place s h
      (λ n i.
      e ∙ size_allowed s h size y ∙ set_allowed s h q.output set y ∙ ap (λ b. cond b y (refused invalid_handle 0 h q.output)) i)
      (λ i. absurd (bad i)))

  -- every read is one of these
  pub by_arguments : {X : Type 0} → (Wrong q.flags → X) → ((RightSize q → ⊥) → X) → ((RightSet h → ⊥) → X)
      → ((Wrong q.flags → ⊥) → RightSize q → RightSet h → (Inside s h → ⊥) → X)
      → ((d : Direction) → Asks (sequential_flags d) s h q → X) → ((d : Direction) → Asks (seek_flags d) s h q → X) → X
  by_arguments {X} f g l k sequential seek =
      by_flags q.flags f
      (λ d e. rest (sequential_flags d) e (not_wrong_sequential d e) (sequential d))
      (λ d e. rest (seek_flags d) e (not_wrong_seek d e) (seek d))
    where
      not_wrong_sequential : (d : Direction) → q.flags ≡ sequential_flags d → Wrong q.flags → ⊥
      not_wrong_sequential Forwards e x = x.sequential_forwards e
      not_wrong_sequential Backwards e x = x.sequential_backwards e

      not_wrong_seek : (d : Direction) → q.flags ≡ seek_flags d → Wrong q.flags → ⊥
      not_wrong_seek Forwards e x = x.seek_forwards e
      not_wrong_seek Backwards e x = x.seek_backwards e

      rest : (flags : ℕ) → q.flags ≡ flags → (Wrong q.flags → ⊥) → (Asks flags s h q → X) → X
      rest flags e right ok =
          by_size q (λ n z. g n)
          (λ z.
          by_set h (λ n y. l n)
          (λ y. by_place s h (λ n i. k right z y n) (λ i. ok (record { flagged = e; sized = z; typed = y; inside = i }))))
