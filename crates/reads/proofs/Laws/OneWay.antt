-- On sequential reads in one direction, without appends, the model with a cursor is the model with a count.
-- Assumes nothing.
use Rattle.std.specs.Prelude.{◌≡◌, Bool, true, false, ◌&&◌, ℕ, zero, suc, ◌+◌, ◌-◌, ◌≤◌, length, take, drop, leb}
use Rattle.std.proofs.Math.Path.{refl, sym, ap, ap₂}
use Rattle.std.proofs.Common.{◌∙◌, subst, ⊎_elim, zero-add, suc-add, arith, length-append, eq-eqb}
use Rattle.std.proofs.Math.Bool.{cond}
use mathlib.Core.List.{List, [], ◌∷◌, ◌++◌, map, reverse, reverse-append, reverse-cons, reverse-reverse}
use Rattle.std.proofs.Math.Seq.{take-length}
use Rattle.format.specs.declared.Direction.{Direction}
use Rattle.format.specs.declared.Direction.TheVariants.{Forwards, Backwards}
use Rattle.format.specs.Bytes.{All, none, more, join}
use Rattle.format.proofs.Laws.Walks.{line, line_backwards}
use Rattle.event_types.specs.Types.{only, is_type_set}
use Rattle.request.specs.Asking.{request}
use Rattle.request.specs.Laws.{request_wrong}
use Rattle.serve.specs.declared.Place.TheVariants.{Fresh, Boundary}
use Rattle.serve.specs.declared.Handle.{Handle}
use Rattle.serve.specs.Answers.{served}
use Rattle.serve.specs.Serving.{size_ok}
use Rattle.reads.specs.Model as model
use Rattle.reads.specs.Model.{Entry, entries, wanted_bytes, in_order, records_for, joined, reached, Read, OneWay, sequential_flags, fits_by, fits, handle_after, Counted, unread, next, answered, answers}
use Rattle.reads.specs.Operations.{Reading, Cursor, Unset, Behind, State, ReadAnswer, Outcome, read_refused, starts_at, records_ahead, through, moved, read_copies, reads_ahead, reads_from, read_asked, read_outcome, outcomes}
use Rattle.reads.specs.Calls.{Result, ReadResult, handle_at, shown_result}
use Rattle.reads.proofs.Laws.Requests.{request_sequential}
use Rattle.reads.proofs.Laws.Entries.{fits_first, wanted_in, order_wanted}
use Rattle.reads.proofs.Laws.Counting.{answered_advances}
use Rattle.reads.proofs.Laws.Reading.{not_sequential}
use Rattle.reads.proofs.Laws.Seeking.{entries_append}
use Rattle.reads.proofs.Laws.Between.{met_entries, entry_bytes, met_bytes, joined_bytes, take_bytes, fits_bytes, through_exist, reached_through, place_behind, ending_moved, ahead_moved}

-- ---- records up to a wanted one

pub only_through : (types k : ℕ) (ms : List (List ℕ)) → only (wanted_bytes types) (drop (through types k ms) ms) ≡ drop k (only (wanted_bytes types) ms)
only_through types zero ms = refl
only_through types (suc k) [] = refl
only_through types (suc k) (m ∷ ms) = go (wanted_bytes types m) (only_through types k ms) (only_through types (suc k) ms)
  where
    W : List (List ℕ)
    W = only (wanted_bytes types) ms

    go : (b : Bool) → only (wanted_bytes types) (drop (through types k ms) ms) ≡ drop k W → only (wanted_bytes types) (drop (through types (suc k) ms) ms) ≡ drop (suc k) W
        → only (wanted_bytes types) (drop (suc (cond b (through types k ms) (through types (suc k) ms))) (m ∷ ms)) ≡ drop (suc k) (cond b (m ∷ W) W)
    go true e f = e
    go false e f = f

through_none : (types k : ℕ) → through types k [] ≡ 0
through_none types zero = refl
through_none types (suc k) = refl

pub through_add : (types c k : ℕ) (ms : List (List ℕ)) → through types (c + k) ms ≡ through types c ms + through types k (drop (through types c ms) ms)
through_add types zero k ms = ap (λ i. through types i ms) (zero-add k) ∙ sym (zero-add (through types k ms))
through_add types (suc c) k [] = through_none types (suc c + k) ∙ sym (zero-add (through types k []) ∙ through_none types k)
through_add types (suc c) k (m ∷ ms) =
    ap (λ i. through types i (m ∷ ms)) (suc-add c k) ∙ go (wanted_bytes types m) (through_add types c k ms) (through_add types (suc c) k ms)
  where
    left : ℕ → ℕ
    left j = through types k (drop j ms)

    go : (b : Bool) → through types (c + k) ms ≡ through types c ms + left (through types c ms) → through types (suc c + k) ms ≡ through types (suc c) ms + left (through types (suc c) ms)
        → suc (cond b (through types (c + k) ms) (through types (suc (c + k)) ms))
        ≡ suc (cond b (through types c ms) (through types (suc c) ms)) + through types k (drop (suc (cond b (through types c ms) (through types (suc c) ms))) (m ∷ ms))
    go true e f = ap suc e ∙ sym (suc-add (through types c ms) (left (through types c ms)))
    go false e f =
        ap suc (ap (λ i. through types i ms) (sym (suc-add c k)) ∙ f) ∙ sym (suc-add (through types (suc c) ms) (left (through types (suc c) ms)))

moved_moved : (d : Direction) (n i j : ℕ) → moved d (moved d n i) j ≡ moved d n (i + j)
moved_moved Forwards n i j = omega arith
moved_moved Backwards n i j = omega arith

-- ---- R

met_forwards : (p : ℕ) (rs : List (List ℕ)) → met_entries Forwards p rs ≡ entries p rs
met_forwards p [] = refl
met_forwards p (r ∷ rs) = ap (λ es. record { start = p; bytes = r } ∷ es) (met_forwards (p + length r) rs)

met_reversed : (ms : List (List ℕ)) → met_entries Backwards (length (line Backwards ms)) ms ≡ reverse (entries 0 (reverse ms))
met_reversed [] = refl
met_reversed (m ∷ ms) =
    let before : ℕ = length (line Backwards ms) in
    let start : length (line Backwards ms ++ m) - length m ≡ before = omega (arith, length-append (line Backwards ms) m) in
    ap (λ k. record { start = k; bytes = m } ∷ met_entries Backwards k ms) start
    ∙ ap (λ (es : List Entry). record { start = before; bytes = m } ∷ es) (met_reversed ms)
    ∙ sym (reverse-append (entries 0 (reverse ms)) (record { start = before; bytes = m } ∷ []))
    ∙ ap (λ k. reverse (entries 0 (reverse ms) ++ (record { start = k; bytes = m } ∷ []))) (ap length (line_backwards ms) ∙ sym (zero-add (length (join (reverse ms)))))
    ∙ ap reverse (sym (entries_append 0 (reverse ms) (m ∷ [])) ∙ ap (entries 0) (sym (reverse-cons m ms)))

module _ (types : ℕ) (d : Direction) (rs : List (List ℕ)) (room : ℕ) where
  abbrev n0 : ℕ
  n0 = starts_at d rs Unset

  abbrev A : List (List ℕ)
  A = records_ahead d n0 rs

  abbrev R : List Entry
  R = records_for types d rs

  met_order : (d : Direction) → met_entries d (place_behind rs (starts_at d rs Unset)) (records_ahead d (starts_at d rs Unset) rs) ≡ in_order d (entries 0 rs)
  met_order Forwards = met_forwards 0 rs
  met_order Backwards =
      ap (λ ts. met_entries Backwards (length (join ts)) (reverse ts)) (take-length rs)
      ∙ ap (λ (t : List ℕ). met_entries Backwards (length t) (reverse rs)) (ap join (sym (reverse-reverse rs)) ∙ sym (line_backwards (reverse rs)))
      ∙ met_reversed (reverse rs)
      ∙ ap (λ ts. reverse (entries 0 ts)) (reverse-reverse rs)

  met_R : wanted_in types (met_entries d (place_behind rs n0) A) ≡ R
  met_R = ap (wanted_in types) (met_order d) ∙ order_wanted types d rs

  bytes_R : entry_bytes R ≡ only (wanted_bytes types) A
  bytes_R = ap entry_bytes (sym met_R) ∙ met_bytes d types (place_behind rs n0) A

  first_within : (d : Direction) → starts_at d rs Unset ≤ length rs
  first_within Forwards = omega arith
  first_within Backwards = omega arith

  -- ---- the cursor after c records of R

  abbrev index : ℕ → ℕ
  index c = moved d n0 (through types c A)

  abbrev cursor_at : ℕ → Cursor
  cursor_at zero = Unset
  cursor_at (suc c) = Behind (index (suc c))

  abbrev at : ℕ → State
  at c = record { records = rs; cursor = cursor_at c; room = room }

  starts_index : (c : ℕ) → starts_at d rs (cursor_at c) ≡ index c
  starts_index zero = go d
    where
      go : (d : Direction) → starts_at d rs Unset ≡ moved d (starts_at d rs Unset) 0
      go Forwards = omega arith
      go Backwards = omega arith
  starts_index (suc c) = refl

  index_ahead : (c : ℕ) → records_ahead d (index c) rs ≡ drop (through types c A) A
  index_ahead c = ahead_moved d n0 rs (through types c A) (first_within d) (through_exist types c A)

  drop_bytes : (k : ℕ) (es : List Entry) → entry_bytes (drop k es) ≡ drop k (entry_bytes es)
  drop_bytes zero es = refl
  drop_bytes (suc k) [] = refl
  drop_bytes (suc k) (e ∷ es) = drop_bytes k es

  wanted_left : (c : ℕ) → only (wanted_bytes types) (records_ahead d (index c) rs) ≡ entry_bytes (drop c R)
  wanted_left c =
      ap (only (wanted_bytes types)) (index_ahead c)
      ∙ only_through types c A
      ∙ ap (drop c) (sym bytes_R)
      ∙ sym (drop_bytes c R)

  index_add : (c k : ℕ) → moved d (index c) (through types k (records_ahead d (index c) rs)) ≡ index (c + k)
  index_add c k =
      ap (λ ts. moved d (index c) (through types k ts)) (index_ahead c)
      ∙ moved_moved d n0 (through types c A) (through types k (drop (through types c A) A))
      ∙ ap (moved d n0) (sym (through_add types c k A))

  cursor_add : (c k : ℕ) → cursor_at (c + suc k) ≡ Behind (index (c + suc k))
  cursor_add c k =
      let e : c + suc k ≡ suc (c + k) = omega arith in
      ap cursor_at e ∙ ap (λ i. Behind (index i)) (sym e)

  handle_at_lem : (c : ℕ) → c ≤ length R → handle_at types (at c) ≡ handle_after types d R c
  handle_at_lem zero l = refl
  handle_at_lem (suc c) l =
      ap (λ p. record { place = p; types = types })
      (sym
      (ap (λ es. reached d Fresh (take (suc c) es)) (sym met_R)
      ∙ reached_through d types (place_behind rs n0) A c Fresh (subst (λ es. suc c ≤ length es) (sym met_R) l)
      ∙ ap Boundary (ending_moved d n0 rs (through types (suc c) A) (first_within d) (through_exist types (suc c) A))))

  -- ---- one read

  -- what the model with a count answers, as an outcome of the one with a cursor
  abbrev counted : Counted → Outcome
  counted x =
      record {
        answer = ReadAnswer x.served.answer.status x.served.answer.read x.served.answer.needed x.served.output;
        state = at x.count;
      }

  module _ (c : ℕ) (q : Read) where
    next_counted : (es : List Entry) → reads_ahead types d (at c) q (index c) (entry_bytes es) ≡ counted (next types d R c q es)
    next_counted [] = refl
    next_counted (e ∷ es) = go (leb (length e.bytes) q.size) refl
      where
        all : List Entry
        all = e ∷ es

        k : ℕ
        k = fits q.size all

        refuses : Outcome
        refuses = read_refused (at c) q 0xC0000023 (length e.bytes)

        go : (b : Bool) → leb (length e.bytes) q.size ≡ b
            → cond b (read_copies types d (at c) q (index c) (fits_by length q.size (entry_bytes all)) (join (take (fits_by length q.size (entry_bytes all)) (entry_bytes all)))) refuses
            ≡ counted (cond b (model.reads types d R c q k (joined (take k all))) (unread types d R c q 0xC0000023 (length e.bytes)))
        go false f = refl
        go true f =
            let first = fits_first q.size e es f in
            let cursor : Behind (moved d (index c) (through types k (records_ahead d (index c) rs))) ≡ cursor_at (c + k) =
            ap Behind (index_add c k)
            ∙ ap (λ j. Behind (index (c + j))) first
            ∙ sym (cursor_add c (fits (q.size - length e.bytes) es))
            ∙ ap (λ j. cursor_at (c + j)) (sym first) in
            ap (λ j. read_copies types d (at c) q (index c) j (join (take j (entry_bytes all)))) (sym (fits_bytes q.size all))
            ∙ ap₂ (λ (bytes : List ℕ) (x : Cursor). record {
              answer = ReadAnswer 0 (length bytes) 0 (bytes ++ drop (length bytes) q.output);
              state = record { records = rs; cursor = x; room = room };
            }) (sym (joined_bytes (take k all) ∙ ap join (take_bytes k all))) cursor

    abbrev sized : Bool
    sized = size_ok q.size q.output

    abbrev wrong : Outcome
    wrong = read_refused (at c) q 0xC000000D 0

    abbrev N : Counted
    N = next types d R c q (drop c R)

    abbrev U : Counted
    U = unread types d R c q 0xC000000D 0

    pick : (b : Bool) → cond b (counted N) wrong ≡ counted (cond b N U)
    pick true = refl
    pick false = refl

    same_wrong : (b : Bool) → cond b wrong wrong ≡ wrong
    same_wrong true = refl
    same_wrong false = refl

    sequential_read : q.flags ≡ sequential_flags d → read_outcome types (at c) q ≡ counted (answered types d R c q)
    unfolding answered
    sequential_read e =
        ap (λ r. cond (sized && is_type_set types) (read_asked types (at c) q r) wrong) (ap request e ∙ request_sequential d)
        ∙ ap (λ n. cond (sized && is_type_set types) (reads_from types d (at c) q n) wrong) (starts_index c)
        ∙ ap (λ ts. cond (sized && is_type_set types) (reads_ahead types d (at c) q (index c) ts) wrong) (wanted_left c)
        ∙ ap (λ (x : Outcome). cond (sized && is_type_set types) x wrong) (next_counted (drop c R))
        ∙ pick (sized && is_type_set types)
        ∙ ap (λ b. counted (cond (b && sized && is_type_set types) N U)) (sym (eq-eqb q.flags (sequential_flags d) e))

    wrong_read : model.Wrong q.flags → read_outcome types (at c) q ≡ counted (answered types d R c q)
    unfolding answered
    wrong_read x =
        ap (λ r. cond (sized && is_type_set types) (read_asked types (at c) q r) wrong) (request_wrong q.flags x.sequential_forwards x.sequential_backwards x.seek_forwards x.seek_backwards)
        ∙ same_wrong (sized && is_type_set types)
        ∙ ap (λ b. counted (cond (b && sized && is_type_set types) N U)) (sym (not_sequential d q.flags x))

    one_way_read : OneWay d q → read_outcome types (at c) q ≡ counted (answered types d R c q)
    one_way_read x = ⊎_elim sequential_read wrong_read x.asks

  -- ---- reads one after another

  pub one_way_outcomes : (w : ℕ) (lent : List ℕ) (c : ℕ) (qs : List Read) → c ≤ length R → All (OneWay d) qs
      → map (shown_result types lent) (outcomes w types (at c) (map Reading qs)) ≡ map ReadResult (answers types d R c qs)
  unfolding outcomes answers
  one_way_outcomes w lent c [] l none = refl
  one_way_outcomes w lent c (q ∷ qs) l (more x xs) =
      let same = one_way_read c q x in
      let then = answered_advances types d R c q l in
      let X : Counted = answered types d R c q in
      ap (λ (z : Outcome). shown_result types lent z ∷ map (shown_result types lent) (outcomes w types z.state (map Reading qs))) same
      ∙ ap₂ (λ (h : Handle) (rest : List Result). ReadResult (served (record {
        status = X.served.answer.status;
        read = X.served.answer.read;
        needed = X.served.answer.needed;
        handle = h;
      }) X.served.output) ∷ rest) (handle_at_lem X.count then.exists ∙ sym then.handle) (one_way_outcomes w lent X.count qs then.exists xs)
