-- A read from a place of any log: what it answers, by the next wanted record.
-- Assumes nothing.
use Rattle.std.specs.Prelude.{◌≡◌, Bool, cond, ℕ, ◌+◌, ◌-◌, ◌≤◌, ◌<◌, length, drop, eqb, Err}
use Rattle.std.proofs.Math.Path.{refl, ap}
use Rattle.std.proofs.Common.{sym, ap₂, ◌∙◌, subst, arith, length-append}
use Rattle.std.proofs.Math.Bool.{true, false}
use mathlib.Core.List.{List, [], ◌∷◌, ◌++◌, nil≢cons}
use Rattle.std.proofs.Math.Dec.{leb}
use borrow.Author.Tests.{eq-eqb, ne_eqb, leb-true, leb-false}
use Rattle.format.specs.declared.Record.{Record}
use Rattle.format.specs.declared.Direction.{Direction}
use Rattle.format.specs.Bytes.{part}
use Rattle.delivered.specs.declared.Undelivered.TheVariants.{End, Corrupt, TooLong}
use Rattle.delivery.specs.Delivering.{trace_ahead, fitting, records_bytes, edge, last_edge, delivery, copied, delivered, delivering}
use Rattle.serve.specs.declared.Place.TheVariants.{Boundary}
use Rattle.serve.specs.declared.Handle.{Handle}
use Rattle.serve.specs.Answers.{Served, served}
use Rattle.serve.specs.Serving.{refused, served_with}
use Rattle.reads.specs.Model.{Read}
use Rattle.reads.specs.Ahead.{Exactly, NoneLeft, NextRefuses, Next, NextLonger, NextFits, Finds, stop, step, total, Copies, ReadsFrom}
use Rattle.reads.proofs.Laws.Found.{found_lies}
use Rattle.reads.proofs.Laws.Wanted.{wanted_from, none_left, next_refuses, next_found, by_next, left_found, refuses_found, left_refuses, next_same, next_of}

always : {A B : Type 0} → A → B → Exactly A B
always a b = record { only = λ x. b; when = λ y. a }

never : {A B : Type 0} → (A → ⊥) → (B → ⊥) → Exactly A B
never f g = record { only = λ x. absurd (f x); when = λ y. absurd (g y) }

-- ---- the records that are copied

-- wanted records one after another from p on, as many as fit
record Fitted (d : Direction) (w : ℕ) (s : List ℕ) (types p size : ℕ) (bs : List Record) : Type 0 where
  found : Finds d w s types p bs (last_edge d p bs)
  fit : total bs ≤ size
  most : (b : Record) → Next d w s types (last_edge d p bs) b → size < total bs + b.length
  bytes : length (records_bytes s bs) ≡ total bs

module _ (d : Direction) (w : ℕ) (s : List ℕ) (types : ℕ) where
  -- one more in front of them
  fitted_more : (p size : ℕ) (a : Record) (bs : List Record) → Next d w s types p a → a.length ≤ size
      → Fitted d w s types (edge d a) (size - a.length) bs → Fitted d w s types p size (a ∷ bs)
  fitted_more p size a bs n h y =
      record {
        found = step n y.found;
        fit = omega (arith, h, y.fit);
        most = λ b g. omega (arith, h, y.most b g);
        bytes =
            length-append (part a.start a.length s) (records_bytes s bs)
            ∙ ap₂ ◌+◌ (found_lies d w s n.at a n.found).bytes y.bytes;
      }

  fitted : (p size : ℕ) (t : List Record) → wanted_from d w s types p ≡ t → Fitted d w s types p size (fitting size t)
  unfolding fitting
  fitted p size [] e =
      record {
        found = stop;
        fit = omega arith;
        most = λ b g. absurd (nil≢cons (sym e ∙ (next_found d w s types g).0));
        bytes = refl;
      }
  fitted p size (a ∷ bs) e =
      let n = next_of d w s types p a bs e in
      go n.0 (leb a.length size) refl (fitted (edge d a) (size - a.length) bs n.1)
    where
      go : Next d w s types p a → (b : Bool) → leb a.length size ≡ b
          → Fitted d w s types (edge d a) (size - a.length) (fitting (size - a.length) bs)
          → Fitted d w s types p size (cond b (a ∷ fitting (size - a.length) bs) [])
      go n true l y = fitted_more p size a (fitting (size - a.length) bs) n (leb-true a.length size l) y
      go n false l y =
          record {
            found = stop;
            fit = omega arith;
            most = λ b g.
                omega (arith, leb-false a.length size l, ap (λ (c : Record). c.length) (next_same d w s types n g));
            bytes = refl;
          }

-- ---- what is answered

module _ (d : Direction) (w : ℕ) (s : List ℕ) (p : ℕ) (h : Handle) (q : Read) where
  abbrev types : ℕ
  types = h.types

  abbrev out : List ℕ
  out = q.output

  -- no wanted record is left
  reads_end : NoneLeft d w s types p → ReadsFrom d w s types p q (refused 0xC0000011 0 h out)
  reads_end e =
      record {
        ended = always refl e;
        corrupt = never (λ k. omega (arith, k)) (λ x. left_refuses d w s types e x);
        small = never (λ k. omega (arith, k)) (λ x. left_found d w s types e x.found);
        needed = λ a f. absurd (left_found d w s types e f);
        success = never (λ k. omega (arith, k)) (λ x. left_found d w s types e x.found);
        copies = λ k. absurd (omega (arith, k));
      }

  -- a record refuses before a wanted one
  reads_corrupt : NextRefuses d w s types p → ReadsFrom d w s types p q (refused 0xC000018E 0 h out)
  reads_corrupt r =
      record {
        ended = never (λ k. omega (arith, k)) (λ e. left_refuses d w s types e r);
        corrupt = always refl r;
        small = never (λ k. omega (arith, k)) (λ x. refuses_found d w s types r x.found);
        needed = λ a f. absurd (refuses_found d w s types r f);
        success = never (λ k. omega (arith, k)) (λ x. refuses_found d w s types r x.found);
        copies = λ k. absurd (omega (arith, k));
      }

  module _ (a : Record) (n : Next d w s types p a) where
    long : {b : Record} → Next d w s types p b → a.length ≡ b.length
    long m = ap (λ (c : Record). c.length) (next_same d w s types n m)

    -- it is too long
    reads_small : q.size < a.length → ReadsFrom d w s types p q (refused 0xC0000023 a.length h out)
    reads_small l =
        record {
          ended = never (λ k. omega (arith, k)) (λ e. left_found d w s types e n);
          corrupt = never (λ k. omega (arith, k)) (λ r. refuses_found d w s types r n);
          small = always refl (record { next = a; found = n; longer = l });
          needed = λ b m k. long m;
          success = never (λ k. omega (arith, k)) (λ x. omega (arith, l, x.fits, long x.found));
          copies = λ k. absurd (omega (arith, k));
        }

    -- it fits
    reads_some : a.length ≤ q.size → {x : Served} → x.answer.status ≡ 0 → Copies d w s types p q x → ReadsFrom d w s types p q x
    reads_some l e y =
        record {
          ended = never (λ k. omega (arith, e, k)) (λ z. left_found d w s types z n);
          corrupt = never (λ k. omega (arith, e, k)) (λ r. refuses_found d w s types r n);
          small = never (λ k. omega (arith, e, k)) (λ x. omega (arith, l, x.longer, long x.found));
          needed = λ b m k. absurd (omega (arith, e, k));
          success = always e (record { next = a; found = n; fits = l });
          copies = λ k. y;
        }

    -- the answer where it does not fit, or where it does
    abbrev others : List Record
    others = wanted_from d w s types (edge d a)

    abbrev chosen : Bool → Served
    chosen b =
        served_with h (cond b (copied (records_bytes s (cond b (a ∷ fitting (q.size - a.length) others) [])) (last_edge d 0 (cond b (a ∷ fitting (q.size - a.length) others) [])) out) (delivery (Err (TooLong a.length)) out))

    answered : served_with h (delivering d w s types p q.size out) ≡ chosen (leb a.length q.size)
    unfolding delivering fitting
    answered =
        ap (λ t. served_with h (delivered d s q.size out (trace_ahead d w s p).refusal.number t)) (next_found d w s types n).0

    reads_chosen : (b : Bool) → leb a.length q.size ≡ b → ReadsFrom d w s types p q (chosen b)
    reads_chosen false l = reads_small (leb-false a.length q.size l)
    reads_chosen true l =
        let fit : a.length ≤ q.size = leb-true a.length q.size l in
        let bs : List Record = a ∷ fitting (q.size - a.length) others in
        let y : Fitted d w s types p q.size bs = fitted_more d w s types p q.size a (fitting (q.size - a.length) others) n fit (fitted d w s types (edge d a) (q.size - a.length) others refl) in
        reads_some fit refl
        (record {
          records = bs;
          end = last_edge d p bs;
          found = y.found;
          fit = y.fit;
          most = y.most;
          answer =
              ap (λ k. served (record { status = 0; read = k; needed = 0; handle = record { place = Boundary (last_edge d p bs); types = types } }) (records_bytes s bs ++ drop k out)) y.bytes;
        })

    reads_found : ReadsFrom d w s types p q (served_with h (delivering d w s types p q.size out))
    reads_found = subst (ReadsFrom d w s types p q) (sym answered) (reads_chosen (leb a.length q.size) refl)

  -- no wanted record: the refusal that ends the walk says why
  unanswered : wanted_from d w s types p ≡ [] → (b : Bool) → eqb (trace_ahead d w s p).refusal.number 0 ≡ b
      → served_with h (delivering d w s types p q.size out) ≡ served_with h (delivery (Err (cond b End Corrupt)) out)
  unfolding delivering
  unanswered e b f =
      ap (λ t. served_with h (delivered d s q.size out (trace_ahead d w s p).refusal.number t)) e
      ∙ ap (λ t. served_with h (delivery (Err (cond t End Corrupt)) out)) f

  pub reads_from_lem : ReadsFrom d w s types p q (served_with h (delivering d w s types p q.size out))
  reads_from_lem =
      let number = (trace_ahead d w s p).refusal.number in
      by_next d w s types p
      (λ x.
      let y = none_left d w s types x in
      subst (ReadsFrom d w s types p q) (sym (unanswered y.0 true (eq-eqb number 0 y.1))) (reads_end x))
      (λ x.
      let y = next_refuses d w s types x in
      subst (ReadsFrom d w s types p q) (sym (unanswered y.0 false (ne_eqb number 0 y.1))) (reads_corrupt x))
      reads_found

-- the status is one of these four
pub by_status : {X : Type 0} (d : Direction) (w : ℕ) (s : List ℕ) (types p : ℕ) (q : Read) (x : Served) → ReadsFrom d w s types p q x
    → (NoneLeft d w s types p → x.answer.status ≡ 0xC0000011 → X)
    → (NextRefuses d w s types p → x.answer.status ≡ 0xC000018E → X)
    → (NextLonger d w s types p q.size → x.answer.status ≡ 0xC0000023 → X)
    → (NextFits d w s types p q.size → x.answer.status ≡ 0 → X)
    → X
by_status {X} d w s types p q x y ended corrupt small success =
    by_next d w s types p (λ e. ended e (y.ended.when e)) (λ r. corrupt r (y.corrupt.when r))
    (λ a n. go a n (leb a.length q.size) refl)
  where
    go : (a : Record) → Next d w s types p a → (b : Bool) → leb a.length q.size ≡ b → X
    go a n true l =
        let z : NextFits d w s types p q.size = record { next = a; found = n; fits = leb-true a.length q.size l } in
        success z (y.success.when z)
    go a n false l =
        let z : NextLonger d w s types p q.size = record { next = a; found = n; longer = leb-false a.length q.size l } in
        small z (y.small.when z)
