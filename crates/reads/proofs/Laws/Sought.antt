-- A seek in any log, with a cut or none.
-- Assumes nothing.
use Rattle.std.specs.Prelude.{◌≡◌, refl, Bool, true, false, cond, ◌⊎◌, List, [], ◌∷◌, ◌++◌, ℕ, eqb, Ok}
use Rattle.std.proofs.Common.{sym, ◌∙◌, subst, arith, eq-eqb, ne_eqb, eqb-true}
use Rattle.std.proofs.Math.Path.{ap}
use Rattle.std.proofs.Math.Logic.{inl, inr, ⊎_elim}
use Rattle.std.proofs.lemmas.Bool.{eqb-false}
use Rattle.format.specs.declared.Record.{Record}
use Rattle.format.specs.declared.Direction.{Direction}
use Rattle.format.specs.declared.Direction.TheVariants.{Forwards, Backwards}
use Rattle.format.specs.Bytes.{All, none, more}
use Rattle.format.specs.Judge.{past, step_at}
use Rattle.format.specs.Walk.{Trace, trace}
use Rattle.format.proofs.Laws.Walks.{rest_start}
use Rattle.seek.specs.Seeking.{place_of, sought}
use Rattle.serve.specs.declared.Handle.{Handle}
use Rattle.serve.specs.Answers.{Served}
use Rattle.serve.specs.Serving.{refused, started}
use Rattle.reads.specs.Model.{Read, seek_flags, Asks}
use Rattle.reads.specs.Series.{call}
use Rattle.reads.specs.Ahead.{Skips, here, skip, NoneLeft, NextRefuses, NextLonger, NextFits, ReadsFrom, FirstHas, NoneHas, SeeksIn}
use Rattle.reads.proofs.Laws.Requests.{seek_started}
use Rattle.reads.proofs.Laws.Seeking.{sought_first, seek_none}
use Rattle.reads.proofs.Laws.Found.{found_lies}
use Rattle.reads.proofs.Laws.Wanted.{walked_on}
use Rattle.reads.proofs.Laws.Ahead.{reads_from_lem, by_status}

-- ---- a record of the walk is met at its start, and at its end backwards

sought_next : (w : ℕ) (s : List ℕ) (d : Direction) (number : ℕ) (a : Record) → FirstHas w s number a → step_at d w s (place_of d a) ≡ Ok a
sought_next w s d number a x = go d
  where
    front : step_at Forwards w s a.start ≡ Ok a
    front =
        (walked_on Forwards w s 0 x.older a x.newer (sym (ap (λ (t : Trace). t.records) (rest_start Forwards w s)) ∙ x.whole)).0

    go : (d : Direction) → step_at d w s (place_of d a) ≡ Ok a
    go Forwards = front
    go Backwards = (found_lies Forwards w s a.start a front).again

-- ---- some record has the number, or none has

record Some (number : ℕ) (bs : List Record) : Type 0 where
  this : Record
  older : List Record
  newer : List Record
  whole : bs ≡ older ++ (this ∷ newer)
  numbered : this.fields.record_number ≡ number
  others : All (λ b. b.fields.record_number ≡ number → ⊥) older

search_for : (number : ℕ) (bs : List Record) → All (λ b. b.fields.record_number ≡ number → ⊥) bs ⊎ Some number bs
search_for number [] = inl none
search_for number (b ∷ bs) = go (eqb b.fields.record_number number) refl (search_for number bs)
  where
    go : (t : Bool) → eqb b.fields.record_number number ≡ t
        → All (λ a. a.fields.record_number ≡ number → ⊥) bs ⊎ Some number bs
        → All (λ a. a.fields.record_number ≡ number → ⊥) (b ∷ bs) ⊎ Some number (b ∷ bs)
    go true e y =
        inr (record {
          this = b;
          older = [];
          newer = bs;
          whole = refl;
          numbered = eqb-true b.fields.record_number number e;
          others = none;
        })
    go false e (inl ps) = inl (more (eqb-false b.fields.record_number number e) ps)
    go false e (inr y) =
        inr (record {
          this = y.this;
          older = b ∷ y.older;
          newer = y.newer;
          whole = ap (λ l. b ∷ l) y.whole;
          numbered = y.numbered;
          others = more (eqb-false b.fields.record_number number e) y.others;
        })

by_number : {X : Type 0} (w : ℕ) (s : List ℕ) (number : ℕ) → (NoneHas w s number → X) → ((a : Record) → FirstHas w s number a → X) → X
by_number w s number f g =
    ⊎_elim (λ ps. f (record { others = ps }))
    (λ y.
    g y.this (record {
      older = y.older;
      newer = y.newer;
      whole = y.whole;
      numbered = y.numbered;
      others = y.others;
    }))
    (search_for number (trace Forwards w s).records)

-- ---- what a seek answers

module _ (d : Direction) (w : ℕ) (s : List ℕ) (h : Handle) (q : Read) (asks : Asks (seek_flags d) s h q) where
  abbrev x : Served
  x = call w s h q

  abbrev types : ℕ
  types = h.types

  seek_onward : (a : Record) → FirstHas w s q.number a → ReadsFrom d w s types (place_of d a) q x
  seek_onward a y =
      subst (ReadsFrom d w s types (place_of d a) q)
      (sym
      (seek_started d w s h q asks
      ∙ ap (started d w s q.size h q.output)
      (ap (λ bs. sought d q.number (trace Forwards w s).refusal.number bs) y.whole
      ∙ sought_first d q.number (trace Forwards w s).refusal.number y.older a y.newer y.others y.numbered)))
      (reads_from_lem d w s (place_of d a) h q)

  pub seek_absent : NoneHas w s q.number → (trace Forwards w s).refusal.number ≡ 0 → x ≡ refused 0xC000000D 0 h q.output
  seek_absent n e =
      seek_none d w s h q asks n.others
      ∙ ap (λ b. refused (cond b 0xC000000D 0xC000018E) 0 h q.output) (eq-eqb (trace Forwards w s).refusal.number 0 e)

  pub seek_corrupt : NoneHas w s q.number → ((trace Forwards w s).refusal.number ≡ 0 → ⊥) → x ≡ refused 0xC000018E 0 h q.output
  seek_corrupt n e =
      seek_none d w s h q asks n.others
      ∙ ap (λ b. refused (cond b 0xC000000D 0xC000018E) 0 h q.output) (ne_eqb (trace Forwards w s).refusal.number 0 e)

  abbrev status : ℕ
  status = x.answer.status

  -- the walk ends with a refusal or without one
  by_end : {X : Type 0} → NoneHas w s q.number → ((trace Forwards w s).refusal.number ≡ 0 → status ≡ 0xC000000D → X)
      → (((trace Forwards w s).refusal.number ≡ 0 → ⊥) → status ≡ 0xC000018E → X) → X
  by_end {X} n f g = go (eqb (trace Forwards w s).refusal.number 0) refl
    where
      go : (b : Bool) → eqb (trace Forwards w s).refusal.number 0 ≡ b → X
      go true e =
          let none_left = eqb-true (trace Forwards w s).refusal.number 0 e in
          f none_left (ap (λ (y : Served). y.answer.status) (seek_absent n none_left))
      go false e =
          let some_left = eqb-false (trace Forwards w s).refusal.number 0 e in
          g some_left (ap (λ (y : Served). y.answer.status) (seek_corrupt n some_left))

  -- the first record with the number, and what holds from it on
  Found_then : (ℕ → Type 0) → Type 0
  Found_then P = (a : Record) × FirstHas w s q.number a × P (place_of d a)

  -- every answer is one of these
  by_answer : {X : Type 0} → (NoneHas w s q.number → (trace Forwards w s).refusal.number ≡ 0 → status ≡ 0xC000000D → X)
      → (NoneHas w s q.number → ((trace Forwards w s).refusal.number ≡ 0 → ⊥) → status ≡ 0xC000018E → X)
      → (Found_then (NextRefuses d w s types) → status ≡ 0xC000018E → X)
      → (Found_then (NoneLeft d w s types) → status ≡ 0xC0000011 → X)
      → (Found_then (λ p. NextLonger d w s types p q.size) → status ≡ 0xC0000023 → X)
      → (Found_then (λ p. NextFits d w s types p q.size) → status ≡ 0 → X)
      → X
  unfolding Found_then
  by_answer absent corrupt refuses ended small success =
      by_number w s q.number (λ n. by_end n (absent n) (corrupt n))
      (λ a y.
      by_status d w s types (place_of d a) q x (seek_onward a y) (λ z. ended (a, y, z)) (λ z. refuses (a, y, z)) (λ z. small (a, y, z)) (λ z. success (a, y, z)))

  pub seeks_in : SeeksIn d w s types q x
  unfolding Found_then
  seeks_in =
      record {
        absent =
            record {
              only = λ k.
                  by_answer (λ n e f. (n, e)) (λ n e f. absurd (omega (arith, k, f))) (λ y f. absurd (omega (arith, k, f)))
                  (λ y f. absurd (omega (arith, k, f)))
                  (λ y f. absurd (omega (arith, k, f)))
                  (λ y f. absurd (omega (arith, k, f)));
              when = λ y. ap (λ (z : Served). z.answer.status) (seek_absent y.0 y.1);
            };
        corrupt =
            record {
              only = λ k.
                  by_answer (λ n e f. absurd (omega (arith, k, f))) (λ n e f. inl (n, e)) (λ y f. inr y)
                  (λ y f. absurd (omega (arith, k, f)))
                  (λ y f. absurd (omega (arith, k, f)))
                  (λ y f. absurd (omega (arith, k, f)));
              when =
                  ⊎_elim (λ y. ap (λ (z : Served). z.answer.status) (seek_corrupt y.0 y.1))
                  (λ y. (seek_onward y.0 y.1).corrupt.when y.2);
            };
        ended =
            record {
              only = λ k.
                  by_answer (λ n e f. absurd (omega (arith, k, f))) (λ n e f. absurd (omega (arith, k, f)))
                  (λ y f. absurd (omega (arith, k, f)))
                  (λ y f. y)
                  (λ y f. absurd (omega (arith, k, f)))
                  (λ y f. absurd (omega (arith, k, f)));
              when = λ y. (seek_onward y.0 y.1).ended.when y.2;
            };
        small =
            record {
              only = λ k.
                  by_answer (λ n e f. absurd (omega (arith, k, f))) (λ n e f. absurd (omega (arith, k, f)))
                  (λ y f. absurd (omega (arith, k, f)))
                  (λ y f. absurd (omega (arith, k, f)))
                  (λ y f. y)
                  (λ y f. absurd (omega (arith, k, f)));
              when = λ y. (seek_onward y.0 y.1).small.when y.2;
            };
        success =
            record {
              only = λ k.
                  by_answer (λ n e f. absurd (omega (arith, k, f))) (λ n e f. absurd (omega (arith, k, f)))
                  (λ y f. absurd (omega (arith, k, f)))
                  (λ y f. absurd (omega (arith, k, f)))
                  (λ y f. absurd (omega (arith, k, f)))
                  (λ y f. y);
              when = λ y. (seek_onward y.0 y.1).success.when y.2;
            };
        first = λ a y u. record {
          at = place_of d a;
          skipped = here;
          found = sought_next w s d q.number a y;
          want = u;
        };
        passed = λ a y u.
            let f = sought_next w s d q.number a y in
            skip f u
            (subst (Skips d w s types (past d (place_of d a) a.length)) (sym (found_lies d w s (place_of d a) a f).ends) here);
        onward = seek_onward;
      }

  -- the status is one of these five
  pub seek_status : {X : Type 0} → (NoneHas w s q.number → (trace Forwards w s).refusal.number ≡ 0 → status ≡ 0xC000000D → X)
      → (status ≡ 0xC0000011 → X) → (status ≡ 0xC000018E → X) → (status ≡ 0xC0000023 → X) → (status ≡ 0 → X) → X
  seek_status absent ended corrupt small success =
      by_answer absent (λ n e. corrupt) (λ y. corrupt) (λ y. ended) (λ y. small) (λ y. success)
