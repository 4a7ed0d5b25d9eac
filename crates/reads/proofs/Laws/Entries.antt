-- Records of a cut that lie ahead of a place, in either direction: what fits, what is answered, where reading
-- stands then. Nothing here speaks of a count or a list of reads.
-- Assumes nothing.
use Rattle.std.specs.Prelude.{◌≡◌, refl, Bool, true, false, cond, ℕ, zero, suc, ◌+◌, ◌-◌, ◌≤◌, length, take, drop, leb, Err}
use Rattle.std.proofs.Common.{sym, ap, ap₂, ◌∙◌, subst, arith, take_at}
use mathlib.Core.List.{List, [], ◌∷◌, ◌++◌, map, map-append, reverse, reverse-cons}
use Rattle.format.specs.declared.Record.{Record}
use Rattle.format.specs.declared.Refusal.{Refusal}
use Rattle.format.specs.declared.Direction.{Direction}
use Rattle.format.specs.declared.Direction.TheVariants.{Forwards, Backwards}
use Rattle.format.specs.Bytes.{All, none, more, part, join}
use Rattle.format.specs.Judge.{shown}
use Rattle.format.specs.Walk.{Trace, shown_from, begin}
use Rattle.format.proofs.Laws.Places.{drop_next}
use Rattle.format.proofs.Laws.Steps.{Judged}
use Rattle.format.proofs.Laws.Walks.{all_reverse, found_moves, rest_start, front_trace, rear_trace}
use Rattle.event_types.specs.Types.{only}
use Rattle.event_types.specs.Laws.{only_reverse, all_only}
use Rattle.delivered.specs.declared.Undelivered.TheVariants.{TooLong}
use Rattle.delivery.specs.Delivering.{trace_ahead, wanted_of, fitting, records_bytes, edge, last_edge, delivery, copied, delivered, delivering}
use Rattle.request.specs.Statuses.{end_of_file, buffer_too_small}
use Rattle.serve.specs.declared.Place.{Place}
use Rattle.serve.specs.declared.Place.TheVariants.{Boundary}
use Rattle.serve.specs.declared.Handle.{Handle}
use Rattle.serve.specs.Answers.{Served, served}
use Rattle.serve.specs.Serving.{refused, served_with}
use Rattle.reads.specs.Model.{Entry, entries, wanted_bytes, in_order, records_for, joined, edge_of, reached, fits_by, fits}
use Rattle.reads.proofs.Laws.Found.{found_lies}
use Rattle.reads.proofs.Laws.Wanted.{wanted_from, next_found, next_of}

-- what is shown of a record of the cut
abbrev pub record_of : ℕ → Entry → Record
record_of w e = shown w e.start e.bytes

-- its bytes stand in the log where it starts
abbrev pub There : List ℕ → Entry → Type 0
There s e = part e.start (length e.bytes) s ≡ e.bytes

-- ahead of p lie just these wanted records, and nothing that refuses
pub record Stands (d : Direction) (w : ℕ) (s : List ℕ) (types p : ℕ) (es : List Entry) : Type 0 where
  pub inside : p ≤ length s
  pub ended : (trace_ahead d w s p).refusal.number ≡ 0
  pub wanted : wanted_from d w s types p ≡ map (record_of w) es
  pub there : All (There s) es

edge_of_lem : (d : Direction) (w : ℕ) (e : Entry) → edge d (record_of w e) ≡ edge_of d e
unfolding shown
edge_of_lem Forwards w e = refl
edge_of_lem Backwards w e = refl

-- past the first, the others lie ahead
all_tail : {s : List ℕ} {e : Entry} {es : List Entry} → All (There s) (e ∷ es) → All (There s) es
all_tail (more p ps) = ps

pub stands_next : {d : Direction} {w : ℕ} {s : List ℕ} {types p : ℕ} {e : Entry} {es : List Entry} → Stands d w s types p (e ∷ es) → Stands d w s types (edge_of d e) es
stands_next {d} {w} {s} {types} {p} {e} {es} x =
    let n = next_of d w s types p (record_of w e) (map (record_of w) es) x.wanted in
    let lies = found_lies d w s n.0.at (record_of w e) n.0.found in
    let inside = (found_moves d w s n.0.at (record_of w e) n.0.found lies.inside).1 in
    subst (λ i. Stands d w s types i es) (edge_of_lem d w e)
    (record {
      inside = subst (λ i. i ≤ length s) (sym lies.ends) inside;
      ended = ap (λ (k : Refusal). k.number) (sym (next_found d w s types n.0).1) ∙ x.ended;
      wanted = n.1;
      there = all_tail x.there;
    })

-- ---- what fits

fitting_fits : (w size : ℕ) (es : List Entry) → fitting size (map (record_of w) es) ≡ map (record_of w) (take (fits size es) es)
unfolding fitting fits_by shown
fitting_fits w size [] = refl
fitting_fits w size (e ∷ es) = go (leb (length e.bytes) size) (fitting_fits w (size - length e.bytes) es)
  where
    rest : List Entry
    rest = take (fits (size - length e.bytes) es) es

    go : (b : Bool) → fitting (size - length e.bytes) (map (record_of w) es) ≡ map (record_of w) rest
        → cond b (record_of w e ∷ fitting (size - length e.bytes) (map (record_of w) es)) [] ≡ map (record_of w) (take (cond b (suc (fits (size - length e.bytes) es)) 0) (e ∷ es))
    go true f = ap (λ bs. record_of w e ∷ bs) f
    go false f = refl

bytes_there : {s : List ℕ} (w : ℕ) (es : List Entry) → All (There s) es → records_bytes s (map (record_of w) es) ≡ joined es
unfolding shown
bytes_there w [] none = refl
bytes_there w (e ∷ es) (more p ps) = ap₂ ◌++◌ p (bytes_there w es ps)

pub all_drop : {A : Type 0} {P : A → Type 0} (k : ℕ) (xs : List A) → All P xs → All P (drop k xs)
all_drop zero xs ps = ps
all_drop (suc k) [] none = none
all_drop (suc k) (x ∷ xs) (more p ps) = all_drop k xs ps

pub all_take : {A : Type 0} {P : A → Type 0} (k : ℕ) (xs : List A) → All P xs → All P (take k xs)
all_take zero xs ps = none
all_take (suc k) [] none = none
all_take (suc k) (x ∷ xs) (more p ps) = more p (all_take k xs ps)

reached_edge : (d : Direction) (w p : ℕ) (es : List Entry) → Boundary (last_edge d p (map (record_of w) es)) ≡ reached d (Boundary p) es
reached_edge d w p [] = refl
reached_edge d w p (e ∷ es) =
    reached_edge d w (edge d (record_of w e)) es ∙ ap (λ i. reached d (Boundary i) es) (edge_of_lem d w e)

-- of a record and those after it, the place to start from does not matter
reached_some : (d : Direction) (w : ℕ) (x : Place) (e : Entry) (es : List Entry) → Boundary (last_edge d 0 (map (record_of w) (e ∷ es))) ≡ reached d x (e ∷ es)
reached_some d w x e es =
    reached_edge d w (edge d (record_of w e)) es ∙ ap (λ i. reached d (Boundary i) es) (edge_of_lem d w e)

pub fits_first : (size : ℕ) (e : Entry) (es : List Entry) → leb (length e.bytes) size ≡ true → fits size (e ∷ es) ≡ suc (fits (size - length e.bytes) es)
unfolding fits_by
fits_first size e es f = ap (λ b. cond b (suc (fits (size - length e.bytes) es)) 0) f

-- ---- what is answered

-- bytes that were copied, and where reading stands then
abbrev pub success : Place → ℕ → List ℕ → List ℕ → Served
success x types bytes out =
    served (record { status = 0; read = length bytes; needed = 0; handle = record { place = x; types = types } })
    (bytes ++ drop (length bytes) out)

-- what the wanted records ahead are answered with
abbrev pub answer_ahead : Direction → ℕ → Handle → List ℕ → List Entry → Served
answer_ahead d size h out [] = refused end_of_file 0 h out
answer_ahead d size h out (e ∷ es) =
    cond (leb (length e.bytes) size)
    (success (reached d h.place (take (fits size (e ∷ es)) (e ∷ es))) h.types (joined (take (fits size (e ∷ es)) (e ∷ es))) out)
    (refused buffer_too_small (length e.bytes) h out)

delivered_entries : (d : Direction) (w : ℕ) (s : List ℕ) (size : ℕ) (h : Handle) (out : List ℕ) (es : List Entry) → All (There s) es
    → served_with h (delivered d s size out 0 (map (record_of w) es)) ≡ answer_ahead d size h out es
unfolding shown
delivered_entries d w s size h out [] ps = refl
delivered_entries d w s size h out (e ∷ es) ps = go (leb (length e.bytes) size) refl
  where
    some : List Entry
    some = take (fits size (e ∷ es)) (e ∷ es)

    go : (b : Bool) → leb (length e.bytes) size ≡ b
        → served_with h (cond b (copied (records_bytes s (fitting size (map (record_of w) (e ∷ es)))) (last_edge d 0 (fitting size (map (record_of w) (e ∷ es)))) out) (delivery (Err (TooLong (length e.bytes))) out))
        ≡ cond b (success (reached d h.place some) h.types (joined some) out) (refused buffer_too_small (length e.bytes) h out)
    go false f = refl
    go true f =
        let first : some ≡ e ∷ take (fits (size - length e.bytes) es) es = ap (λ k. take k (e ∷ es)) (fits_first size e es f) in
        ap₂ (λ (bytes : List ℕ) (x : Place). success x h.types bytes out)
        (ap (records_bytes s) (fitting_fits w size (e ∷ es)) ∙ bytes_there w some (all_take (fits size (e ∷ es)) (e ∷ es) ps))
        (ap (λ bs. Boundary (last_edge d 0 bs)) (fitting_fits w size (e ∷ es))
        ∙ ap (λ bs. Boundary (last_edge d 0 (map (record_of w) bs))) first
        ∙ reached_some d w h.place e (take (fits (size - length e.bytes) es) es)
        ∙ ap (reached d h.place) (sym first))

-- what is answered from a place with these records ahead of it
pub read_stands : {d : Direction} {w : ℕ} {s : List ℕ} {p : ℕ} (size : ℕ) (h : Handle) (out : List ℕ) {es : List Entry} → Stands d w s h.types p es
    → served_with h (delivering d w s h.types p size out) ≡ answer_ahead d size h out es
unfolding delivering
read_stands {d} {w} {s} size h out {es} x =
    ap₂ (λ (k : ℕ) (t : List Record). served_with h (delivered d s size out k t)) x.ended x.wanted
    ∙ delivered_entries d w s size h out es x.there

-- ---- a whole log

entries_shown : (w p : ℕ) (rs : List (List ℕ)) → shown_from Forwards w p rs ≡ map (record_of w) (entries p rs)
entries_shown w p [] = refl
entries_shown w p (r ∷ rs) = ap (λ bs. shown w p r ∷ bs) (entries_shown w (p + length r) rs)

entries_there : (s : List ℕ) (p : ℕ) (rs : List (List ℕ)) → drop p s ≡ join rs → All (There s) (entries p rs)
entries_there s p [] e = none
entries_there s p (r ∷ rs) e =
    more (ap (take (length r)) e ∙ take_at r (join rs) (length r) refl)
    (entries_there s (p + length r) rs (drop_next p (length r) s r (join rs) e refl))

abbrev pub wanted_in : ℕ → List Entry → List Entry
wanted_in types es = only (λ (e : Entry). wanted_bytes types e.bytes) es

pub wanted_entries : (w types : ℕ) (es : List Entry) → wanted_of types (map (record_of w) es) ≡ map (record_of w) (wanted_in types es)
unfolding shown
wanted_entries w types [] = refl
wanted_entries w types (e ∷ es) = go (wanted_bytes types e.bytes) (wanted_entries w types es)
  where
    rest : List Entry
    rest = wanted_in types es

    go : (b : Bool) → wanted_of types (map (record_of w) es) ≡ map (record_of w) rest
        → cond b (record_of w e ∷ wanted_of types (map (record_of w) es)) (wanted_of types (map (record_of w) es)) ≡ map (record_of w) (cond b (e ∷ rest) rest)
    go true f = ap (λ bs. record_of w e ∷ bs) f
    go false f = f

map_reverse : (w : ℕ) (es : List Entry) → reverse (map (record_of w) es) ≡ map (record_of w) (reverse es)
map_reverse w [] = refl
map_reverse w (e ∷ es) =
    reverse-cons (record_of w e) (map (record_of w) es)
    ∙ ap (λ bs. bs ++ (record_of w e ∷ [])) (map_reverse w es)
    ∙ sym (map-append (record_of w) (reverse es) (e ∷ []))
    ∙ ap (map (record_of w)) (sym (reverse-cons e es))

-- the walk of a log that has a cut
log_walk : (d : Direction) (w : ℕ) (s : List ℕ) (rs : List (List ℕ)) → All (Judged w) rs → join rs ≡ s
    → ((trace_ahead d w s (begin d s)).records ≡ map (record_of w) (in_order d (entries 0 rs))) × ((trace_ahead d w s (begin d s)).refusal.number ≡ 0)
log_walk Forwards w s rs js whole =
    let t = sym (rest_start Forwards w s) ∙ front_trace w s rs js whole in
    (ap (λ (x : Trace). x.records) t ∙ entries_shown w 0 rs, ap (λ (x : Trace). x.refusal.number) t)
log_walk Backwards w s rs js whole =
    let t = sym (rest_start Backwards w s) ∙ rear_trace w s rs js whole in (
      ap (λ (x : Trace). x.records) t ∙ ap reverse (entries_shown w 0 rs) ∙ map_reverse w (entries 0 rs),
      ap (λ (x : Trace). x.refusal.number) t,
    )

pub walk_entries : (d : Direction) (w : ℕ) (s : List ℕ) (rs : List (List ℕ)) → All (Judged w) rs → join rs ≡ s
    → (trace_ahead d w s (begin d s)).records ≡ map (record_of w) (in_order d (entries 0 rs))
walk_entries d w s rs js whole = (log_walk d w s rs js whole).0

-- the wanted ones, before or after they are put in order
pub order_wanted : (types : ℕ) (d : Direction) (rs : List (List ℕ)) → wanted_in types (in_order d (entries 0 rs)) ≡ records_for types d rs
order_wanted types Forwards rs = refl
order_wanted types Backwards rs = only_reverse (λ (e : Entry). wanted_bytes types e.bytes) (entries 0 rs)

for_there : (s : List ℕ) (types : ℕ) (d : Direction) (rs : List (List ℕ)) → join rs ≡ s → All (There s) (records_for types d rs)
for_there s types d rs whole = go d
  where
    some : All (There s) (wanted_in types (entries 0 rs))
    some = all_only (λ (e : Entry). wanted_bytes types e.bytes) (entries 0 rs) (entries_there s 0 rs (sym whole))

    go : (d : Direction) → All (There s) (records_for types d rs)
    go Forwards = some
    go Backwards = all_reverse (wanted_in types (entries 0 rs)) some

begin_inside : (d : Direction) (s : List ℕ) → begin d s ≤ length s
begin_inside Forwards s = omega arith
begin_inside Backwards s = omega arith

-- from its beginning on, R lies ahead
pub stands_begin : (d : Direction) (w : ℕ) (s : List ℕ) (types : ℕ) (rs : List (List ℕ)) → All (Judged w) rs → join rs ≡ s
    → Stands d w s types (begin d s) (records_for types d rs)
stands_begin d w s types rs js whole =
    let t = log_walk d w s rs js whole in
    record {
      inside = begin_inside d s;
      ended = t.1;
      wanted =
          ap (wanted_of types) t.0
          ∙ wanted_entries w types (in_order d (entries 0 rs))
          ∙ ap (map (record_of w)) (order_wanted types d rs);
      there = for_there s types d rs whole;
    }
