-- The statuses of wrong flags, sizes, sets and handles, of every read.
-- Assumes nothing.
use Rattle.std.specs.Prelude.{◌≡◌, List, ℕ}
use Rattle.std.proofs.Common.{sym, ap, subst, inl, inr, ⊎_elim, arith}
use Rattle.format.specs.declared.Direction.{Direction}
use Rattle.serve.specs.declared.Handle.{Handle}
use Rattle.serve.specs.Answers.{Served}
use Rattle.serve.specs.Serving.{reading_place}
use Rattle.reads.specs.Model.{Read, sequential_flags, seek_flags, Asks}
use Rattle.reads.specs.Series.{call}
use Rattle.reads.specs.Ahead.{ReadsFrom, Absent, Judges}
use Rattle.reads.proofs.Laws.Requests.{sequential_started}
use Rattle.reads.proofs.Laws.Arguments.{wrong_flags, wrong_size, wrong_set, past_end, by_arguments}
use Rattle.reads.proofs.Laws.Ahead.{reads_from_lem, by_status}
use Rattle.reads.proofs.Laws.Sought.{seek_absent, seek_status}

module _ (w : ℕ) (s : List ℕ) (h : Handle) (q : Read) where
  abbrev x : Served
  x = call w s h q

  pub sequential_from : (d : Direction) → Asks (sequential_flags d) s h q → ReadsFrom d w s h.types (reading_place d s h.place) q x
  sequential_from d a =
      subst (ReadsFrom d w s h.types (reading_place d s h.place) q) (sym (sequential_started d w s h q a)) (reads_from_lem d w s (reading_place d s h.place) h q)

  told : {y : Served} → x ≡ y → x.answer.status ≡ y.answer.status
  told e = ap (λ (z : Served). z.answer.status) e

  -- a status that no read has whose arguments are right, but for a seek of an absent number
  otherwise : {X : Type 0} → (x.answer.status ≡ 0xC0000011 → ⊥) → (x.answer.status ≡ 0xC000018E → ⊥) → (x.answer.status ≡ 0xC0000023 → ⊥)
      → (x.answer.status ≡ 0 → ⊥) → (Absent w s h q → x.answer.status ≡ 0xC000000D → X) → (d : Direction)
      → (Asks (sequential_flags d) s h q → X) × (Asks (seek_flags d) s h q → X)
  otherwise i j k l f d = (
    λ a. by_status d w s h.types (reading_place d s h.place) q x (sequential_from d a) (λ y e. absurd (i e)) (λ y e. absurd (j e)) (λ y e. absurd (k e)) (λ y e. absurd (l e)),
    λ a.
        seek_status d w s h q a (λ n e. f (record { direction = d; asks = a; none = n; walked = e })) (λ e. absurd (i e))
        (λ e. absurd (j e))
        (λ e. absurd (k e))
        (λ e. absurd (l e)),
  )

  pub judges : Judges w s h q x
  judges =
      record {
        parameter =
            record {
              only = λ m.
                  let right = otherwise (λ e. omega (arith, m, e)) (λ e. omega (arith, m, e)) (λ e. omega (arith, m, e)) (λ e. omega (arith, m, e)) (λ y e. inr (inr (inr y))) in
                  by_arguments w s h q inl (λ n. inr (inl n)) (λ n. inr (inr (inl n)))
                  (λ a b c t. absurd (omega (arith, m, told (past_end w s h q a b c t))))
                  (λ d. (right d).0)
                  (λ d. (right d).1);
              when =
                  ⊎_elim (λ y. told (wrong_flags w s h q y))
                  (⊎_elim (λ n. told (wrong_size w s h q n))
                  (⊎_elim (λ n. told (wrong_set w s h q n)) (λ y. told (seek_absent y.direction w s h q y.asks y.none y.walked))));
            };
        handle =
            record {
              only = λ m.
                  let right = otherwise (λ e. omega (arith, m, e)) (λ e. omega (arith, m, e)) (λ e. omega (arith, m, e)) (λ e. omega (arith, m, e)) (λ y e. absurd (omega (arith, m, e))) in
                  by_arguments w s h q (λ y. absurd (omega (arith, m, told (wrong_flags w s h q y))))
                  (λ n. absurd (omega (arith, m, told (wrong_size w s h q n))))
                  (λ n. absurd (omega (arith, m, told (wrong_set w s h q n))))
                  (λ a b c t. (a, b, c, t))
                  (λ d. (right d).0)
                  (λ d. (right d).1);
              when = λ y. told (past_end w s h q y.0 y.1 y.2 y.3);
            };
      }
