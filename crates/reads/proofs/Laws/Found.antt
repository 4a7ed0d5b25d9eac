-- A record that a step finds: where it lies, and that a step back from its other end finds it again.
-- Assumes nothing.
use Rattle.std.specs.Prelude.{◌≡◌, refl, true, List, ◌++◌, ℕ, ◌+◌, ◌-◌, ◌≤◌, length, take, drop, Ok}
use Rattle.std.proofs.Common.{sym, ap, ◌∙◌, subst, append_assoc, arith, length-append, take-append-drop, length-take-le, take_at, drop_at}
use Rattle.format.specs.declared.Record.{Record}
use Rattle.format.specs.declared.Direction.{Direction}
use Rattle.format.specs.declared.Direction.TheVariants.{Forwards, Backwards}
use Rattle.format.specs.Bytes.{part}
use Rattle.format.specs.Good.{is_event_type}
use Rattle.format.specs.Judge.{ahead, start_of, past, BytesAt, shown, step_at}
use Rattle.format.proofs.Laws.Steps.{Judged, bytes_at_found, found_bytes_at, found_same, met_length}
use Rattle.format.proofs.Laws.Records.{bytes_at_part}
use Rattle.delivery.specs.Delivering.{edge}
use Rattle.reads.specs.Ahead.{opposite}

-- ---- bytes that stand at a place stand before their end in the other direction

module _ (w : ℕ) (s : List ℕ) (p : ℕ) (r : List ℕ) where
  ahead_again : (d : Direction) → BytesAt d s p r → BytesAt (opposite d) s (past d p (length r)) r
  ahead_again Forwards x =
      let whole : s ≡ take p s ++ r ++ x.rest = sym (take-append-drop p s) ∙ ap (λ t. take p s ++ t) x.here ∙ sym (append_assoc (take p s) r x.rest) in
      let front : length (take p s ++ r) ≡ p + length r = length-append (take p s) r ∙ ap (λ n. n + length r) (length-take-le p s x.inside) in
      record {
        inside = omega (arith, ap length whole, length-append (take p s ++ r) x.rest, front);
        rest = take p s;
        here = ap (take (p + length r)) whole ∙ take_at (take p s ++ r) x.rest (p + length r) front;
      }
  ahead_again Backwards x =
      let whole : s ≡ x.rest ++ (r ++ drop p s) = sym (take-append-drop p s) ∙ ap (λ t. t ++ drop p s) x.here ∙ append_assoc x.rest r (drop p s) in
      let front : length x.rest ≡ p - length r = omega (arith, ap length x.here, length-append x.rest r, length-take-le p s x.inside) in
      record {
        inside = omega (arith, x.inside);
        rest = drop p s;
        here = ap (drop (p - length r)) whole ∙ drop_at x.rest (r ++ drop p s) (p - length r) front;
      }

  start_again : (d : Direction) → BytesAt d s p r → start_of (opposite d) (past d p (length r)) (length r) ≡ start_of d p (length r)
  start_again Forwards x = omega arith
  start_again Backwards x = refl

  found_again : (d : Direction) → Judged w r → BytesAt d s p r
      → step_at (opposite d) w s (past d p (length r)) ≡ Ok (shown w (start_of d p (length r)) r)
  found_again d j x = bytes_at_found j (ahead_again d x) ∙ ap (λ i. Ok (shown w i r)) (start_again d x)

-- ---- what is known of a record that a step finds

pub record Lies (d : Direction) (w : ℕ) (s : List ℕ) (p : ℕ) (a : Record) : Type 0 where
  pub inside : p ≤ length s
  pub low : 64 ≤ a.length
  pub fits : a.length ≤ length (ahead d s p)
  pub kind : is_event_type a.fields.event_type ≡ true
  -- its bytes in the log are as many as its Length
  pub bytes : length (part a.start a.length s) ≡ a.length
  -- it ends where the next step starts
  pub ends : edge d a ≡ past d p a.length
  -- and is found from there in the other direction
  pub again : step_at (opposite d) w s (past d p a.length) ≡ Ok a

shown_lies : (d : Direction) (w : ℕ) (s : List ℕ) (p : ℕ) (r : List ℕ) → Judged w r → BytesAt d s p r → Lies d w s p (shown w (start_of d p (length r)) r)
unfolding shown
shown_lies d w s p r j x =
    record {
      inside = x.inside;
      low = j.rule.low;
      fits = omega (arith, ap length x.here, met_length d r x.rest);
      kind = j.unrefused.event_type;
      bytes = ap length (bytes_at_part x);
      ends = edges d;
      again = found_again w s p r d j x;
    }
  where
    edges : (d : Direction) → edge d (shown w (start_of d p (length r)) r) ≡ past d p (length r)
    edges Forwards = refl
    edges Backwards = refl

pub found_lies : (d : Direction) (w : ℕ) (s : List ℕ) (p : ℕ) (a : Record) → step_at d w s p ≡ Ok a → Lies d w s p a
found_lies d w s p a e =
    let m = found_bytes_at d w s p a e in
    let r : List ℕ = m.0 in
    subst (Lies d w s p) (sym (found_same (step_at d w s p) a (shown w (start_of d p (length r)) r) e (bytes_at_found m.1 m.2)))
    (shown_lies d w s p r m.1 m.2)
