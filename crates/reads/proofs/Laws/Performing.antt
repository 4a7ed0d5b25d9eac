-- One read or append of a log that has a cut, and any series of them, are the model's.
-- Assumes nothing.
use Rattle.std.specs.Prelude.{◌≡◌, refl, Bool, true, false, cond, ◌&&◌, List, [], ◌∷◌, ◌++◌, map, ℕ, zero, suc, ◌+◌, ◌-◌, ◌≤◌, ◌<◌, length, take, drop, eqb, leb, Option, Some, None, Ok, Err}
use Rattle.std.specs.Prelude as std
use Rattle.std.proofs.Common.{sym, ap₂, ◌∙◌, append_assoc, append-nil, add-zero, zero-add, arith, length-append, length-drop, take-append-drop, take_at, drop_at, drop-drop, leb-true, le-leb}
use Rattle.std.proofs.Math.Path.{ap}
use Rattle.std.proofs.lemmas.List.{take-append-le}
use Rattle.std.proofs.Math.Seq.{take-length}
use Rattle.std.proofs.Math.Dec.{leb-suc-suc}
use Rattle.format.specs.declared.Direction.{Direction}
use Rattle.format.specs.declared.Direction.TheVariants.{Forwards, Backwards}
use Rattle.format.specs.Bytes.{All, none, more, join}
use Rattle.format.specs.Good.{Good, Ranges}
use Rattle.format.specs.Layout.{Event}
use Rattle.format.specs.Judge.{record_number, refusal, shown}
use Rattle.format.specs.Walk.{Trace, shown_from}
use Rattle.format.specs.Cut.{Cut}
use Rattle.format.specs.Writing.{Output, outcome, event_refusal, blank, written, writing_as, writing}
use Rattle.format.specs.Appending.{next_number, resumed}
use Rattle.format.proofs.Laws.Cleared.{join_then}
use Rattle.format.proofs.Laws.Steps.{Judged}
use Rattle.format.proofs.Laws.Walks.{front_trace}
use Rattle.format.proofs.Laws.Appending.{all_then, next_number_lem}
use Rattle.format.proofs.Laws.Writing.{accepted_laid_out}
use Rattle.format.proofs.Theorems as format
use Rattle.event_types.specs.Types.{only, is_type_set}
use Rattle.delivery.specs.Delivering.{delivering}
use Rattle.request.specs.declared.Request.{Request}
use Rattle.request.specs.declared.Request.TheVariants.{Sequential, Seek}
use Rattle.request.specs.Statuses.{invalid_parameter, invalid_handle, buffer_too_small}
use Rattle.request.specs.Asking.{request}
use Rattle.request.specs.declared.status.Status.{Status}
use Rattle.request.specs.declared.status.Status.TheVariants.{InvalidParameter}
use Rattle.seek.specs.Seeking.{place_of, sought, seek_start}
use Rattle.serve.specs.declared.Place.{Place}
use Rattle.serve.specs.declared.Place.TheVariants.{Boundary}
use Rattle.serve.specs.declared.Handle.{Handle}
use Rattle.serve.specs.Answers.{Served}
use Rattle.serve.specs.Serving.{size_ok, reading_place, in_log, refused, served_with, started, allowed, asked, serving}
use Rattle.reads.specs.Model.{Entry, wanted_bytes, Read, joined, reached, fits_by, fits}
use Rattle.reads.specs.Series.{call}
use Rattle.reads.specs.Operations.{Operation, Reading, Appending, Givable, given_read, given_append, Cursor, Unset, Behind, State, Outcome, read_refused, starts_at, records_ahead, through, moved, read_copies, reads_ahead, reads_from, older_than, seeks_at, read_asked, read_outcome, append_refused, append_accepted, append_judged, append_outcome, outcomes, state_after}
use Rattle.reads.specs.Operations as model
use Rattle.reads.specs.Calls.{Handed, Result, ReadResult, AppendResult, result, handed_on, results, handed_after, place_at, handle_at, buffer_with, handed_at, shown_result}
use Rattle.reads.proofs.Laws.Entries.{fits_first, success, answer_ahead, read_stands, wanted_in}
use Rattle.reads.proofs.Laws.Counting.{place_inside, fits_exist}
use Rattle.reads.proofs.Laws.Between.{met_entries, met_stands, entry_bytes, met_bytes, joined_bytes, take_bytes, fits_bytes, through_exist, reached_through, place_behind, place_inside_log, ahead_line, all_ahead, starts_within, seeks_within, ending_moved}

-- ---- where a seek starts

-- the record found, or 0xC000000D, by how many are before it
abbrev sought_at : Direction → ℕ → ℕ → List (List ℕ) → std.Result ℕ Status
sought_at d number p rs =
    cond (leb (suc (older_than number rs)) (length rs)) (Ok (p + place_behind rs (seeks_at d (older_than number rs)))) (Err InvalidParameter)

sought_at_lem : (d : Direction) (w number p : ℕ) (rs : List (List ℕ)) → sought d number 0 (shown_from Forwards w p rs) ≡ sought_at d number p rs
unfolding shown
sought_at_lem d w number p [] = refl
sought_at_lem d w number p (r ∷ rs) = go (eqb (record_number r) number) (sought_at_lem d w number (p + length r) rs)
  where
    o : ℕ
    o = older_than number rs

    found : (d : Direction) → place_of d (shown w p r) ≡ p + place_behind (r ∷ rs) (seeks_at d 0)
    found Forwards = omega arith
    found Backwards = omega (arith, ap length (append-nil r))

    onward : (d : Direction) → p + length r + place_behind rs (seeks_at d o) ≡ p + place_behind (r ∷ rs) (seeks_at d (suc o))
    onward Forwards = omega (arith, length-append r (join (take o rs)))
    onward Backwards = omega (arith, length-append r (join (take (suc o) rs)))

    go : (b : Bool) → sought d number 0 (shown_from Forwards w (p + length r) rs) ≡ sought_at d number (p + length r) rs
        → cond b (Ok (place_of d (shown w p r))) (sought d number 0 (shown_from Forwards w (p + length r) rs))
        ≡ cond (leb (suc (cond b 0 (suc o))) (suc (length rs))) (Ok (p + place_behind (r ∷ rs) (seeks_at d (cond b 0 (suc o))))) (Err InvalidParameter)
    go true e =
        ap Ok (found d)
        ∙ ap (λ b. cond b (Ok (p + place_behind (r ∷ rs) (seeks_at d 0))) (Err InvalidParameter)) (sym (le-leb 1 (suc (length rs)) (omega arith)))
    go false e =
        e
        ∙ ap₂ (λ (b : Bool) (i : ℕ). cond b (Ok i) (Err InvalidParameter)) (sym (leb-suc-suc (suc o) (length rs))) (onward d)

-- ---- what holds of a state

pub record Proper (w : ℕ) (lent : List ℕ) (m : State) : Type 0 where
  pub good : All (Good w) m.records
  pub within : starts_at Forwards m.records m.cursor ≤ length m.records
  pub room : length (join m.records) + m.room ≡ length lent

-- an outcome whose state is what the calls hand on
pub record Leaves (w types : ℕ) (lent : List ℕ) (m : State) (x : Outcome) : Type 0 where
  pub handed : handed_on (handed_at types lent m) (shown_result types lent x) ≡ handed_at types lent x.state
  pub proper : Proper w lent x.state

pub record Performs (w types : ℕ) (lent : List ℕ) (m : State) (o : Operation) : Type 0 where
  pub same : result w (handed_at types lent m) o ≡ shown_result types lent (model.outcome w types m o)
  pub leaves : Leaves w types lent m (model.outcome w types m o)

module _ (w types : ℕ) (lent : List ℕ) (m : State) (pos : zero < w) (y : Proper w lent m) where
  abbrev rs : List (List ℕ)
  rs = m.records

  abbrev s : List ℕ
  s = join rs

  abbrev h : Handle
  h = handle_at types m

  abbrev buffer : List ℕ
  buffer = buffer_with lent rs

  judged : All (Judged w) rs
  judged = format.all_judged pos y.good

  -- ---- a read

  module _ (q : Read) where
    -- of these wanted records ahead
    ahead_outcome : (d : Direction) (n : ℕ) (es : List Entry)
        → ((k : ℕ) → suc k ≤ length es → reached d h.place (take (suc k) es) ≡ Boundary (place_behind rs (moved d n (through types (suc k) (records_ahead d n rs)))))
        → ReadResult (answer_ahead d q.size h q.output es) ≡ shown_result types lent (reads_ahead types d m q n (entry_bytes es))
    ahead_outcome d n [] stands = refl
    ahead_outcome d n (e ∷ es) stands = go (leb (length e.bytes) q.size) refl
      where
        all : List Entry
        all = e ∷ es

        k : ℕ
        k = fits q.size all

        copies : ℕ → Result
        copies j = shown_result types lent (read_copies types d m q n j (join (take j (entry_bytes all))))

        refuses : Served
        refuses = refused buffer_too_small (length e.bytes) h q.output

        go : (b : Bool) → leb (length e.bytes) q.size ≡ b
            → ReadResult (cond b (success (reached d h.place (take k all)) types (joined (take k all)) q.output) refuses)
            ≡ shown_result types lent (cond b (read_copies types d m q n (fits_by length q.size (entry_bytes all)) (join (take (fits_by length q.size (entry_bytes all)) (entry_bytes all)))) (read_refused m q 0xC0000023 (length e.bytes)))
        go false f = refl
        go true f =
            let first = fits_first q.size e es f in
            let place : reached d h.place (take k all) ≡ Boundary (place_behind rs (moved d n (through types k (records_ahead d n rs)))) =
            ap (λ j. reached d h.place (take j all)) first
            ∙ stands (fits (q.size - length e.bytes) es) (omega (arith, sym first, fits_exist q.size all))
            ∙ ap (λ j. Boundary (place_behind rs (moved d n (through types j (records_ahead d n rs))))) (sym first) in
            ap₂ (λ (x : Place) (bytes : List ℕ). ReadResult (success x types bytes q.output)) place (joined_bytes (take k all) ∙ ap join (take_bytes k all))
            ∙ ap copies (fits_bytes q.size all)

    -- from the place behind n records on
    from_outcome : (d : Direction) (n : ℕ) → n ≤ length rs
        → ReadResult (served_with h (delivering d w s types (place_behind rs n) q.size q.output)) ≡ shown_result types lent (reads_from types d m q n)
    from_outcome d n l =
        let p : ℕ = place_behind rs n in
        let ms : List (List ℕ) = records_ahead d n rs in
        let stands = met_stands d w s types p ms (all_ahead d n rs judged) (place_inside_log n rs) (ahead_line d n rs) in
        ap ReadResult (read_stands q.size h q.output stands)
        ∙ ahead_outcome d n (wanted_in types (met_entries d p ms))
        (λ k i. reached_through d types p ms k h.place i ∙ ap Boundary (ending_moved d n rs (through types (suc k) ms) l (through_exist types (suc k) ms)))
        ∙ ap (λ ts. shown_result types lent (reads_ahead types d m q n ts)) (met_bytes d types p ms)

    -- rows a and b of Rule 8.7
    abbrev bad : Served
    bad = refused invalid_parameter 0 h q.output

    abbrev wrong : Outcome
    wrong = read_refused m q 0xC000000D 0

    pick : (a b : Bool) (x : Served) (z : Outcome) → ReadResult x ≡ shown_result types lent z
        → ReadResult (cond a (cond b x bad) bad) ≡ shown_result types lent (cond (a && b) z wrong)
    pick true true x z e = e
    pick true false x z e = refl
    pick false b x z e = refl

    same_wrong : (a : Bool) → ReadResult bad ≡ shown_result types lent (cond a wrong wrong)
    same_wrong true = refl
    same_wrong false = refl

    inside : in_log s h.place ≡ true
    inside = go m.cursor
      where
        go : (c : Cursor) → in_log s (place_at rs c) ≡ true
        go Unset = refl
        go (Behind n) = place_inside Forwards s (Boundary (place_behind rs n)) (place_inside_log n rs)

    allowed_outcome : (x : Served) (z : Outcome) → ReadResult x ≡ shown_result types lent z
        → ReadResult (allowed s h q.size q.output x) ≡ shown_result types lent (cond (size_ok q.size q.output && is_type_set types) z wrong)
    allowed_outcome x z e =
        ap (λ b. ReadResult (cond (size_ok q.size q.output) (cond (is_type_set types) (cond b x (refused invalid_handle 0 h q.output)) bad) bad)) inside
        ∙ pick (size_ok q.size q.output) (is_type_set types) x z e

    -- a sequential read goes on from the cursor
    place_starts : (d : Direction) (c : Cursor) → reading_place d s (place_at rs c) ≡ place_behind rs (starts_at d rs c)
    place_starts d (Behind n) = refl
    place_starts Forwards Unset = refl
    place_starts Backwards Unset = ap (λ ts. length (join ts)) (sym (take-length rs))

    sequential_outcome : (d : Direction)
        → ReadResult (started d w s q.size h q.output (Ok (reading_place d s h.place))) ≡ shown_result types lent (read_asked types m q (Some (Sequential d)))
    sequential_outcome d =
        ap (λ p. ReadResult (served_with h (delivering d w s types p q.size q.output))) (place_starts d m.cursor)
        ∙ from_outcome d (starts_at d rs m.cursor) (starts_within rs d m.cursor y.within)

    -- a seek from the record that it finds
    seek_outcome : (d : Direction)
        → ReadResult (started d w s q.size h q.output (seek_start d w s q.number)) ≡ shown_result types lent (read_asked types m q (Some (Seek d)))
    seek_outcome d =
        ap (λ (t : Trace). ReadResult (started d w s q.size h q.output (sought d q.number t.refusal.number t.records))) (front_trace w s rs judged refl)
        ∙ ap (λ x. ReadResult (started d w s q.size h q.output x)) (sought_at_lem d w q.number 0 rs)
        ∙ go (leb (suc o) (length rs)) refl
      where
        o : ℕ
        o = older_than q.number rs

        go : (b : Bool) → leb (suc o) (length rs) ≡ b
            → ReadResult (started d w s q.size h q.output (cond b (Ok (0 + place_behind rs (seeks_at d o))) (Err InvalidParameter)))
            ≡ shown_result types lent (cond b (reads_from types d m q (seeks_at d o)) wrong)
        go true f =
            ap (λ p. ReadResult (served_with h (delivering d w s types p q.size q.output))) (zero-add (place_behind rs (seeks_at d o)))
            ∙ from_outcome d (seeks_at d o) (seeks_within rs d o (leb-true (suc o) (length rs) f))
        go false f = refl

    asked_outcome : (r : Option Request)
        → ReadResult (asked w s h q.number q.size q.output r) ≡ shown_result types lent (cond (size_ok q.size q.output && is_type_set types) (read_asked types m q r) wrong)
    asked_outcome (Some (Sequential d)) = allowed_outcome _ (read_asked types m q (Some (Sequential d))) (sequential_outcome d)
    asked_outcome (Some (Seek d)) = allowed_outcome _ (read_asked types m q (Some (Seek d))) (seek_outcome d)
    asked_outcome None = same_wrong (size_ok q.size q.output && is_type_set types)

    used_bytes : take (length s) buffer ≡ s
    used_bytes = take_at s (drop (length s) lent) (length s) refl

    read_same : result w (handed_at types lent m) (Reading q) ≡ shown_result types lent (read_outcome types m q)
    unfolding serving
    read_same = ap (λ t. ReadResult (call w t h q)) used_bytes ∙ asked_outcome (request q.flags)

    -- what it leaves
    leaves_refused : (status needed : ℕ) → Leaves w types lent m (read_refused m q status needed)
    leaves_refused status needed = record { handed = refl; proper = y }

    moved_within : (d : Direction) (n j : ℕ) → n ≤ length rs → j ≤ length (records_ahead d n rs) → moved d n j ≤ length rs
    moved_within Forwards n j l i = omega (arith, l, i, length-drop n rs)
    moved_within Backwards n j l i = omega (arith, l)

    leaves_from : (d : Direction) (n : ℕ) → n ≤ length rs → (ts : List (List ℕ)) → Leaves w types lent m (reads_ahead types d m q n ts)
    leaves_from d n l [] = leaves_refused 0xC0000011 0
    leaves_from d n l (t ∷ ts) = go (leb (length t) q.size)
      where
        k : ℕ
        k = fits_by length q.size (t ∷ ts)

        copies : Outcome
        copies = read_copies types d m q n k (join (take k (t ∷ ts)))

        go : (b : Bool) → Leaves w types lent m (cond b copies (read_refused m q 0xC0000023 (length t)))
        go true =
            record {
              handed = refl;
              proper =
                  record {
                    good = y.good;
                    within = moved_within d n (through types k (records_ahead d n rs)) l (through_exist types k (records_ahead d n rs));
                    room = y.room;
                  };
            }
        go false = leaves_refused 0xC0000023 (length t)

    leaves_at : (d : Direction) (n : ℕ) → n ≤ length rs → Leaves w types lent m (reads_from types d m q n)
    leaves_at d n l = leaves_from d n l (only (wanted_bytes types) (records_ahead d n rs))

    leaves_asked : (r : Option Request) → Leaves w types lent m (read_asked types m q r)
    leaves_asked (Some (Sequential d)) = leaves_at d (starts_at d rs m.cursor) (starts_within rs d m.cursor y.within)
    leaves_asked (Some (Seek d)) = go (leb (suc o) (length rs)) refl
      where
        o : ℕ
        o = older_than q.number rs

        go : (b : Bool) → leb (suc o) (length rs) ≡ b → Leaves w types lent m (cond b (reads_from types d m q (seeks_at d o)) wrong)
        go true f = leaves_at d (seeks_at d o) (seeks_within rs d o (leb-true (suc o) (length rs) f))
        go false f = leaves_refused 0xC000000D 0
    leaves_asked None = leaves_refused 0xC000000D 0

    leaves_read : (b : Bool) → Leaves w types lent m (cond b (read_asked types m q (request q.flags)) wrong)
    leaves_read true = leaves_asked (request q.flags)
    leaves_read false = leaves_refused 0xC000000D 0

    read_performs : Performs w types lent m (Reading q)
    read_performs = record { same = read_same; leaves = leaves_read (size_ok q.size q.output && is_type_set types) }

  -- ---- an append

  module _ (event : ℕ → Event) (ranges : (n : ℕ) → n < 4294967296 → Ranges (event n)) where
    abbrev e : Event
    e = event (next_number rs)

    abbrev r : List ℕ
    r = written w e

    abbrev u : ℕ
    u = length s

    buffer_used : take u buffer ≡ s
    buffer_used = take_at s (drop u lent) u refl

    buffer_left : drop u buffer ≡ drop u lent
    buffer_left = drop_at s (drop u lent) u refl

    left_room : length (drop u buffer) ≡ m.room
    left_room = ap length buffer_left ∙ omega (arith, length-drop u lent, y.room)

    inside_buffer : u ≤ length buffer
    inside_buffer = omega (arith, length-append s (drop u lent))

    more_records : length (join (rs ++ (r ∷ []))) ≡ u + length r
    more_records = ap length (join_then rs r) ∙ length-append s r

    -- a refusal leaves all as it was
    kept : (k : ℕ)
        → AppendResult (record { answer = record { refusal = refusal k 0; used = u + 0 }; buffer = take u buffer ++ drop u buffer })
        ≡ AppendResult (record { answer = record { refusal = refusal k 0; used = u }; buffer = buffer })
    kept k =
        ap₂ (λ (n : ℕ) (b : List ℕ). AppendResult (record { answer = record { refusal = refusal k 0; used = n }; buffer = b })) (add-zero u) (take-append-drop u buffer)

    -- the record goes behind the others
    longer : take u buffer ++ (r ++ drop (length r) (drop u buffer)) ≡ buffer_with lent (rs ++ (r ∷ []))
    longer =
        ap₂ (λ (a b : List ℕ). a ++ (r ++ drop (length r) b)) buffer_used buffer_left
        ∙ ap (λ t. s ++ (r ++ t)) (drop-drop (length r) u lent)
        ∙ sym (append_assoc s r (drop (u + length r) lent))
        ∙ ap₂ (λ (a : List ℕ) (n : ℕ). a ++ drop n lent) (sym (join_then rs r)) (sym more_records)

    abbrev wrote : Output
    wrote = outcome (record { refusal = 0; length = length r }) (r ++ drop (length r) (drop u buffer))

    abbrev full : Output
    full = outcome (record { refusal = 15; length = 0 }) (drop u buffer)

    judged_same : (k : ℕ) → AppendResult (resumed buffer u (writing_as k r (drop u buffer))) ≡ shown_result types lent (append_judged m k r)
    judged_same (suc k) = kept (suc k)
    judged_same zero =
        ap (λ n. AppendResult (resumed buffer u (cond (leb (length r) n) wrote full))) left_room ∙ go (leb (length r) m.room)
      where
        go : (b : Bool) → AppendResult (resumed buffer u (cond b wrote full)) ≡ shown_result types lent (cond b (append_accepted m r) (append_refused m 15))
        go true =
            ap₂ (λ (n : ℕ) (b : List ℕ). AppendResult (record { answer = record { refusal = refusal 0 0; used = n }; buffer = b })) (sym more_records) longer
        go false = kept 15

    cut : Cut w (take u buffer) rs
    cut = record { good = y.good; joined = sym buffer_used }

    append_same : result w (handed_at types lent m) (Appending event) ≡ shown_result types lent (append_outcome w m event)
    unfolding writing
    append_same = ap AppendResult (format.append_numbered event buffer u pos inside_buffer cut) ∙ judged_same (event_refusal w e)

    -- what it leaves
    cursor_stays : (c : Cursor) → starts_at Forwards rs c ≤ length rs
        → (place_at rs c ≡ place_at (rs ++ (r ∷ [])) c) × (starts_at Forwards (rs ++ (r ∷ [])) c ≤ length (rs ++ (r ∷ [])))
    cursor_stays Unset l = (refl, omega arith)
    cursor_stays (Behind n) l = (
      ap (λ ts. Boundary (length (join ts))) (sym (take-append-le n rs (r ∷ []) l)),
      omega (arith, l, length-append rs (r ∷ [])),
    )

    leaves_accepted : event_refusal w e ≡ 0 → length r ≤ m.room → Leaves w types lent m (append_accepted m r)
    leaves_accepted z l =
        let stays = cursor_stays m.cursor y.within in
        let good : Good w r = record { event = e; ignored = blank w e; laid_out = accepted_laid_out pos (record { ranges = ranges (next_number rs) (next_number_lem rs); unrefused = z }) } in
        record {
          handed =
              ap (λ (x : Place). record {
                buffer = buffer_with lent (rs ++ (r ∷ []));
                used = length (join (rs ++ (r ∷ [])));
                handle = record { place = x; types = types };
              }) stays.0;
          proper =
              record {
                good = all_then rs y.good good;
                within = stays.1;
                room = omega (arith, l, more_records, y.room);
              };
        }

    leaves_unchanged : (k : ℕ) → Leaves w types lent m (append_refused m k)
    leaves_unchanged k = record { handed = refl; proper = y }

    leaves_judged : (k : ℕ) → event_refusal w e ≡ k → Leaves w types lent m (append_judged m k r)
    leaves_judged (suc k) z = leaves_unchanged (suc k)
    leaves_judged zero z = go (leb (length r) m.room) refl
      where
        go : (b : Bool) → leb (length r) m.room ≡ b → Leaves w types lent m (cond b (append_accepted m r) (append_refused m 15))
        go true f = leaves_accepted z (leb-true (length r) m.room f)
        go false f = leaves_unchanged 15

    append_performs : Performs w types lent m (Appending event)
    append_performs = record { same = append_same; leaves = leaves_judged (event_refusal w e) refl }

  performs : (o : Operation) → Givable o → Performs w types lent m o
  performs (Reading q) given_read = read_performs q
  performs (Appending event) (given_append ranges) = append_performs event ranges

-- ---- a series

pub record Follows (w types : ℕ) (lent : List ℕ) (m : State) (os : List Operation) : Type 0 where
  pub same : results w (handed_at types lent m) os ≡ map (shown_result types lent) (outcomes w types m os)
  pub handed : handed_after w (handed_at types lent m) os ≡ handed_at types lent (state_after w types m os)
  pub proper : Proper w lent (state_after w types m os)

pub follows : (w types : ℕ) (lent : List ℕ) → zero < w → (m : State) → Proper w lent m → (os : List Operation) → All Givable os → Follows w types lent m os
unfolding results outcomes handed_after state_after
follows w types lent pos m y [] none = record { same = refl; handed = refl; proper = y }
follows w types lent pos m y (o ∷ os) (more g gs) =
    let one = performs w types lent m pos y o g in
    let next : Handed = handed_at types lent (model.outcome w types m o).state in
    let on : handed_on (handed_at types lent m) (result w (handed_at types lent m) o) ≡ next = ap (handed_on (handed_at types lent m)) one.same ∙ one.leaves.handed in
    let rest = follows w types lent pos (model.outcome w types m o).state one.leaves.proper os gs in
    record {
      same = ap₂ (λ (x : Result) (l : List Result). x ∷ l) one.same (ap (λ x. results w x os) on ∙ rest.same);
      handed = ap (λ x. handed_after w x os) on ∙ rest.handed;
      proper = rest.proper;
    }
