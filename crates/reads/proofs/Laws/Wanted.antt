-- The wanted records from a place of any log on, and what the walk from there has of them.
-- Assumes nothing.
use Rattle.std.specs.Prelude.{◌≡◌, Bool, cond, ◌⊎◌, ℕ, zero, suc, ◌≤◌, ◌<◌, length, Ok, Err, Result}
use Rattle.std.proofs.Math.Path.{refl, ap}
use Rattle.std.proofs.Common.{sym, ◌∙◌, subst, arith, length-take-le}
use Rattle.std.proofs.Math.Bool.{true, false}
use Rattle.std.proofs.Math.Logic.{inl, inr}
use mathlib.Core.List.{List, [], ◌∷◌, ◌++◌, nil≢cons, head-eq_of_cons-eq, tail-eq_of_cons-eq}
use Rattle.format.specs.declared.Refusal.{Refusal}
use Rattle.format.specs.declared.Record.{Record}
use Rattle.format.specs.declared.Refused.{Refused}
use Rattle.format.specs.declared.Direction.{Direction}
use Rattle.format.specs.declared.Direction.TheVariants.{Forwards, Backwards}
use Rattle.format.specs.Judge.{ahead, past, step_at, refused_at}
use Rattle.format.specs.Walk.{Trace, onto}
use Rattle.format.proofs.Laws.Steps.{refused_number}
use Rattle.format.proofs.Laws.Records.{found_start}
use Rattle.format.proofs.Laws.Walks.{rest_end, rest_refused, rest_found}
use Rattle.delivery.specs.Delivering.{trace_ahead, wanted, wanted_of, edge}
use Rattle.seek.specs.Seeking.{place_of}
use Rattle.reads.specs.Ahead.{Skips, here, skip, NoneLeft, NextRefuses, Next}
use Rattle.reads.proofs.Laws.Found.{found_lies}

-- the wanted records that the walk from a place on finds
abbrev pub wanted_from : Direction → ℕ → List ℕ → ℕ → ℕ → List Record
wanted_from d w s types p = wanted_of types (trace_ahead d w s p).records

-- ---- the walk from a place on

module _ (d : Direction) (w : ℕ) (s : List ℕ) where
  found_on : (p : ℕ) (a : Record) → step_at d w s p ≡ Ok a → trace_ahead d w s p ≡ onto a (trace_ahead d w s (past d p a.length))
  found_on p a f =
      let x = found_lies d w s p a f in
      rest_found d w s p a x.inside (omega (arith, x.low, x.fits)) f

  -- a step finds no bytes, refuses, or finds a record
  by_step : {X : Type 0} (p : ℕ) → (length (ahead d s p) ≡ 0 → X) → ((k : Refusal) (q : ℕ) → zero < length (ahead d s p) → step_at d w s p ≡ Err (refused_at k q) → X)
      → ((a : Record) → step_at d w s p ≡ Ok a → X) → X
  by_step {X} p none refuses finds = go (length (ahead d s p)) refl (step_at d w s p) refl
    where
      go : (n : ℕ) → length (ahead d s p) ≡ n → (x : Result Record Refused) → step_at d w s p ≡ x → X
      go zero e x f = none e
      go (suc n) e (Ok a) f = finds a f
      go (suc n) e (Err x) f = refuses x.refusal x.at (omega (arith, e)) f

  -- the walk's first record is what the step finds
  pub first_found : (p : ℕ) (a : Record) (bs : List Record) → (trace_ahead d w s p).records ≡ a ∷ bs
      → (step_at d w s p ≡ Ok a) × ((trace_ahead d w s (past d p a.length)).records ≡ bs)
  first_found p a bs e =
      by_step p (λ none. absurd (nil≢cons (sym (ap (λ (t : Trace). t.records) (rest_end d w s p none)) ∙ e)))
      (λ k q some f. absurd (nil≢cons (sym (ap (λ (t : Trace). t.records) (rest_refused d w s p k q some f)) ∙ e)))
      (λ b f.
      let same : b ∷ (trace_ahead d w s (past d p b.length)).records ≡ a ∷ bs = sym (ap (λ (t : Trace). t.records) (found_on p b f)) ∙ e in
      let this : b ≡ a = head-eq_of_cons-eq same in
      (f ∙ ap Ok this, ap (λ (c : Record). (trace_ahead d w s (past d p c.length)).records) (sym this) ∙ tail-eq_of_cons-eq same))

-- ---- a record of the walk

-- the place from which a record is met is the one where the step found it
place_found : (d : Direction) (w : ℕ) (s : List ℕ) (p : ℕ) (a : Record) → step_at d w s p ≡ Ok a → place_of d a ≡ p
place_found Forwards w s p a f = found_start w s p a f
place_found Backwards w s p a f =
    let x = found_lies Backwards w s p a f in
    omega (arith, x.ends, x.fits, length-take-le p s x.inside)

-- the walk from there goes on as the walk that met it
pub record Onward (d : Direction) (w : ℕ) (s : List ℕ) (p i : ℕ) (bs : List Record) : Type 0 where
  pub inside : i ≤ length s
  pub records : (trace_ahead d w s i).records ≡ bs
  pub refusal : (trace_ahead d w s i).refusal ≡ (trace_ahead d w s p).refusal

pub walked_on : (d : Direction) (w : ℕ) (s : List ℕ) (p : ℕ) (before : List Record) (a : Record) (bs : List Record) → (trace_ahead d w s p).records ≡ before ++ (a ∷ bs)
    → (step_at d w s (place_of d a) ≡ Ok a) × Onward d w s p (place_of d a) (a ∷ bs)
walked_on d w s p [] a bs e =
    let f = (first_found d w s p a bs e).0 in
    subst (λ i. (step_at d w s i ≡ Ok a) × Onward d w s p i (a ∷ bs)) (sym (place_found d w s p a f)) (
      f,
      record { inside = (found_lies d w s p a f).inside; records = e; refusal = refl },
    )
walked_on d w s p (b ∷ before) a bs e =
    let f = first_found d w s p b (before ++ (a ∷ bs)) e in
    let y = walked_on d w s (past d p b.length) before a bs f.1 in (
      y.0,
      record {
        inside = y.1.inside;
        records = y.1.records;
        refusal = y.1.refusal ∙ sym (ap (λ (t : Trace). t.refusal) (found_on d w s p b f.0));
      },
    )

-- ---- what comes next, by the walk

module _ (d : Direction) (w : ℕ) (s : List ℕ) (types : ℕ) where
  -- skipping changes neither the wanted records nor the refusal that ends the walk
  skipped_on : {p e : ℕ} → Skips d w s types p e
      → (wanted_from d w s types p ≡ wanted_from d w s types e) × ((trace_ahead d w s p).refusal ≡ (trace_ahead d w s e).refusal)
  skipped_on here = (refl, refl)
  skipped_on {p} {e} (skip {a = a} f u r) =
      let others : List Record = wanted_from d w s types (past d p a.length) in
      let ih = skipped_on r in (
        ap (λ (t : Trace). wanted_of types t.records) (found_on d w s p a f) ∙ ap (λ b. cond b (a ∷ others) others) u ∙ ih.0,
        ap (λ (t : Trace). t.refusal) (found_on d w s p a f) ∙ ih.1,
      )

  pub none_left : {p : ℕ} → NoneLeft d w s types p → (wanted_from d w s types p ≡ []) × ((trace_ahead d w s p).refusal.number ≡ 0)
  none_left x =
      let y = skipped_on x.skipped in
      let there = rest_end d w s x.end x.left in (
        y.0 ∙ ap (λ (t : Trace). wanted_of types t.records) there,
        ap (λ (k : Refusal). k.number) y.1 ∙ ap (λ (t : Trace). t.refusal.number) there,
      )

  pub next_refuses : {p : ℕ} → NextRefuses d w s types p
      → (wanted_from d w s types p ≡ []) × ((trace_ahead d w s p).refusal.number ≡ 0 → ⊥)
  next_refuses x =
      let y = skipped_on x.skipped in
      let there = rest_refused d w s x.at x.refusal x.told x.left x.refused in
      let number = ap (λ (k : Refusal). k.number) y.1 ∙ ap (λ (t : Trace). t.refusal.number) there in (
        y.0 ∙ ap (λ (t : Trace). wanted_of types t.records) there,
        λ none. omega (arith, none, number, (refused_number d w s x.at x.refusal x.told x.refused).1),
      )

  pub next_found : {p : ℕ} {a : Record} → Next d w s types p a
      → (wanted_from d w s types p ≡ a ∷ wanted_from d w s types (edge d a)) × ((trace_ahead d w s p).refusal ≡ (trace_ahead d w s (edge d a)).refusal)
  next_found {p} {a} x =
      let y = skipped_on x.skipped in
      let ends = (found_lies d w s x.at a x.found).ends in
      let there : trace_ahead d w s x.at ≡ onto a (trace_ahead d w s (edge d a)) = found_on d w s x.at a x.found ∙ ap (λ i. onto a (trace_ahead d w s i)) (sym ends) in
      let others : List Record = wanted_from d w s types (edge d a) in (
        y.0 ∙ ap (λ (t : Trace). wanted_of types t.records) there ∙ ap (λ b. cond b (a ∷ others) others) x.want,
        y.1 ∙ ap (λ (t : Trace). t.refusal) there,
      )

  -- what comes next is one of three things
  Coming : ℕ → Type 0
  Coming p = NoneLeft d w s types p ⊎ (NextRefuses d w s types p ⊎ ((a : Record) × Next d w s types p a))

  skip_more : (p : ℕ) (a : Record) → step_at d w s p ≡ Ok a → wanted types a ≡ false → Coming (past d p a.length) → Coming p
  unfolding Coming
  skip_more p a f u (inl x) = inl (record { end = x.end; skipped = skip f u x.skipped; left = x.left })
  skip_more p a f u (inr (inl x)) =
      inr (inl (record {
        at = x.at;
        skipped = skip f u x.skipped;
        left = x.left;
        refusal = x.refusal;
        told = x.told;
        refused = x.refused;
      }))
  skip_more p a f u (inr (inr x)) =
      inr (inr (x.0, record { at = x.1.at; skipped = skip f u x.1.skipped; found = x.1.found; want = x.1.want }))

  coming : (p : ℕ) (t : List Record) → (trace_ahead d w s p).records ≡ t → Coming p
  unfolding Coming
  coming p [] e =
      by_step d w s p (λ none. inl (record { end = p; skipped = here; left = none }))
      (λ k q some f. inr (inl (record {
        at = p;
        skipped = here;
        left = some;
        refusal = k;
        told = q;
        refused = f;
      }))) (λ a f. absurd (nil≢cons (sym e ∙ ap (λ (t : Trace). t.records) (found_on d w s p a f))))
  coming p (a ∷ bs) e =
      let f = first_found d w s p a bs e in
      go f.0 (wanted types a) refl (coming (past d p a.length) bs f.1)
    where
      go : step_at d w s p ≡ Ok a → (b : Bool) → wanted types a ≡ b → Coming (past d p a.length) → Coming p
      go f true u y = inr (inr (a, record { at = p; skipped = here; found = f; want = u }))
      go f false u y = skip_more p a f u y

  pub by_next : {X : Type 0} (p : ℕ) → (NoneLeft d w s types p → X) → (NextRefuses d w s types p → X) → ((a : Record) → Next d w s types p a → X) → X
  unfolding Coming
  by_next {X} p none refuses finds = go (coming p (trace_ahead d w s p).records refl)
    where
      go : Coming p → X
      go (inl x) = none x
      go (inr (inl x)) = refuses x
      go (inr (inr x)) = finds x.0 x.1

  -- and only one of them
  pub left_found : {p : ℕ} {a : Record} → NoneLeft d w s types p → Next d w s types p a → ⊥
  left_found x y = nil≢cons (sym (none_left x).0 ∙ (next_found y).0)

  pub refuses_found : {p : ℕ} {a : Record} → NextRefuses d w s types p → Next d w s types p a → ⊥
  refuses_found x y = nil≢cons (sym (next_refuses x).0 ∙ (next_found y).0)

  pub left_refuses : {p : ℕ} → NoneLeft d w s types p → NextRefuses d w s types p → ⊥
  left_refuses x y = (next_refuses y).1 (none_left x).1

  pub next_same : {p : ℕ} {a b : Record} → Next d w s types p a → Next d w s types p b → a ≡ b
  next_same x y = head-eq_of_cons-eq (sym (next_found x).0 ∙ (next_found y).0)

  -- the first wanted record of the walk comes next, and the others follow from its far end on
  pub next_of : (p : ℕ) (a : Record) (bs : List Record) → wanted_from d w s types p ≡ a ∷ bs
      → Next d w s types p a × (wanted_from d w s types (edge d a) ≡ bs)
  next_of p a bs e =
      by_next p (λ x. absurd (nil≢cons (sym (none_left x).0 ∙ e))) (λ x. absurd (nil≢cons (sym (next_refuses x).0 ∙ e)))
      (λ b x.
      let same : b ∷ wanted_from d w s types (edge d b) ≡ a ∷ bs = sym (next_found x).0 ∙ e in
      let this : b ≡ a = head-eq_of_cons-eq same in
      (subst (Next d w s types p) this x, ap (λ (c : Record). wanted_from d w s types (edge d c)) (sym this) ∙ tail-eq_of_cons-eq same))
