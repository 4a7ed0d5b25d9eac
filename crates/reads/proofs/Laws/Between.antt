-- A place between two records of a log that has a cut: what lies ahead of it in either direction, and where reading
-- stands after some of that.
-- Assumes nothing.
use Rattle.std.specs.Prelude.{◌≡◌, refl, Bool, true, false, cond, List, [], ◌∷◌, ◌++◌, map, reverse, ℕ, zero, suc, ◌-◌, ◌≤◌, length, take, drop, leb}
use Rattle.std.proofs.Common.{sym, ap, ◌∙◌, arith, le_of_suc-le-suc, length-append, length-drop, take-append-drop, take-add, take_at, take-take, drop_at, drop-drop, length-take-le}
use Rattle.std.proofs.lemmas.List.{reverse-append, reverse-reverse, length-reverse}
use Rattle.format.specs.declared.Direction.{Direction}
use Rattle.format.specs.declared.Direction.TheVariants.{Forwards, Backwards}
use Rattle.format.specs.Bytes.{All, none, more, join}
use Rattle.format.specs.Judge.{ahead, past, start_of, shown}
use Rattle.format.specs.Walk.{Trace, shown_from}
use Rattle.format.proofs.Laws.Cleared.{join_split}
use Rattle.format.proofs.Laws.Steps.{Judged}
use Rattle.format.proofs.Laws.Records.{bytes_at_part}
use Rattle.format.proofs.Laws.Walks.{line, past_ahead, past_inside, ending, ending_forwards, walks_line, line_forwards, line_backwards, all_reverse}
use Rattle.event_types.specs.Types.{only}
use Rattle.event_types.specs.Laws.{all_only}
use Rattle.delivery.specs.Delivering.{wanted_of}
use Rattle.serve.specs.declared.Place.{Place}
use Rattle.serve.specs.declared.Place.TheVariants.{Boundary}
use Rattle.reads.specs.Model.{Entry, wanted_bytes, joined, edge_of, reached, fits_by, fits}
use Rattle.reads.specs.Operations.{Cursor, Unset, Behind, starts_at, records_ahead, through, moved, seeks_at}
use Rattle.reads.proofs.Laws.Entries.{record_of, There, Stands, wanted_in, wanted_entries, all_drop, all_take}

-- ---- records met one after another from a place on

abbrev pub met_entries : Direction → ℕ → List (List ℕ) → List Entry
met_entries d p [] = []
met_entries d p (m ∷ ms) = record { start = start_of d p (length m); bytes = m } ∷ met_entries d (past d p (length m)) ms

met_shown : (d : Direction) (w p : ℕ) (ms : List (List ℕ)) → shown_from d w p ms ≡ map (record_of w) (met_entries d p ms)
met_shown d w p [] = refl
met_shown d w p (m ∷ ms) = ap (λ bs. shown w (start_of d p (length m)) m ∷ bs) (met_shown d w (past d p (length m)) ms)

met_there : (d : Direction) (s : List ℕ) (p : ℕ) (ms : List (List ℕ)) → p ≤ length s → ahead d s p ≡ line d ms → All (There s) (met_entries d p ms)
met_there d s p [] h e = none
met_there d s p (m ∷ ms) h e =
    more (bytes_at_part {d = d} {s = s} {p = p} {r = m} (record { inside = h; rest = line d ms; here = e }))
    (met_there d s (past d p (length m)) ms (past_inside d s p m (line d ms) h e) (past_ahead d s p m (line d ms) h e))

-- those of them that are wanted lie ahead
pub met_stands : (d : Direction) (w : ℕ) (s : List ℕ) (types p : ℕ) (ms : List (List ℕ)) → All (Judged w) ms → p ≤ length s → ahead d s p ≡ line d ms
    → Stands d w s types p (wanted_in types (met_entries d p ms))
met_stands d w s types p ms js h e =
    let t = walks_line d w (length (ahead d s p)) s p ms js h e (omega (arith, ap length e)) in
    record {
      inside = h;
      ended = ap (λ (x : Trace). x.refusal.number) t;
      wanted =
          ap (λ (x : Trace). wanted_of types x.records) t
          ∙ ap (wanted_of types) (met_shown d w p ms)
          ∙ wanted_entries w types (met_entries d p ms);
      there = all_only (λ (e : Entry). wanted_bytes types e.bytes) (met_entries d p ms) (met_there d s p ms h e);
    }

-- their bytes
abbrev pub entry_bytes : List Entry → List (List ℕ)
entry_bytes es = map (λ (e : Entry). e.bytes) es

pub met_bytes : (d : Direction) (types p : ℕ) (ms : List (List ℕ)) → entry_bytes (wanted_in types (met_entries d p ms)) ≡ only (wanted_bytes types) ms
met_bytes d types p [] = refl
met_bytes d types p (m ∷ ms) = go (wanted_bytes types m) (met_bytes d types (past d p (length m)) ms)
  where
    rest : List Entry
    rest = wanted_in types (met_entries d (past d p (length m)) ms)

    go : (b : Bool) → entry_bytes rest ≡ only (wanted_bytes types) ms
        → entry_bytes (cond b (record { start = start_of d p (length m); bytes = m } ∷ rest) rest) ≡ cond b (m ∷ only (wanted_bytes types) ms) (only (wanted_bytes types) ms)
    go true f = ap (λ (l : List (List ℕ)). m ∷ l) f
    go false f = f

pub joined_bytes : (es : List Entry) → joined es ≡ join (entry_bytes es)
joined_bytes [] = refl
joined_bytes (e ∷ es) = ap (λ t. e.bytes ++ t) (joined_bytes es)

pub take_bytes : (k : ℕ) (es : List Entry) → entry_bytes (take k es) ≡ take k (entry_bytes es)
take_bytes zero es = refl
take_bytes (suc k) [] = refl
take_bytes (suc k) (e ∷ es) = ap (λ (l : List (List ℕ)). e.bytes ∷ l) (take_bytes k es)

pub fits_bytes : (size : ℕ) (es : List Entry) → fits size es ≡ fits_by length size (entry_bytes es)
unfolding fits_by
fits_bytes size [] = refl
fits_bytes size (e ∷ es) =
    ap (λ k. cond (leb (length e.bytes) size) (suc k) 0) (fits_bytes (size - length e.bytes) es)

-- ---- where reading stands after k wanted ones

past_edge : (d : Direction) (p : ℕ) (m : List ℕ) → edge_of d (record { start = start_of d p (length m); bytes = m }) ≡ past d p (length m)
past_edge Forwards p m = refl
past_edge Backwards p m = refl

pub through_exist : (types k : ℕ) (ms : List (List ℕ)) → through types k ms ≤ length ms
through_exist types zero ms = omega arith
through_exist types (suc k) [] = omega arith
through_exist types (suc k) (m ∷ ms) = go (wanted_bytes types m) (through_exist types k ms) (through_exist types (suc k) ms)
  where
    go : (b : Bool) → through types k ms ≤ length ms → through types (suc k) ms ≤ length ms
        → suc (cond b (through types k ms) (through types (suc k) ms)) ≤ suc (length ms)
    go true h i = omega (arith, h)
    go false h i = omega (arith, i)

pub reached_through : (d : Direction) (types p : ℕ) (ms : List (List ℕ)) (k : ℕ) (x : Place) → suc k ≤ length (wanted_in types (met_entries d p ms))
    → reached d x (take (suc k) (wanted_in types (met_entries d p ms))) ≡ Boundary (ending d p (take (through types (suc k) ms) ms))
reached_through d types p [] k x h = absurd (omega (arith, h))
reached_through d types p (m ∷ ms) k x h =
    go (wanted_bytes types m) k h (λ j y. reached_through d types (past d p (length m)) ms j y)
  where
    this : Entry
    this = record { start = start_of d p (length m); bytes = m }

    rest : List Entry
    rest = wanted_in types (met_entries d (past d p (length m)) ms)

    Then : ℕ → Place → Type 0
    Then j y = suc j ≤ length rest → reached d y (take (suc j) rest) ≡ Boundary (ending d (past d p (length m)) (take (through types (suc j) ms) ms))

    go : (b : Bool) (k : ℕ) → suc k ≤ length (cond b (this ∷ rest) rest) → ((j : ℕ) (y : Place) → Then j y)
        → reached d x (take (suc k) (cond b (this ∷ rest) rest)) ≡ Boundary (ending d p (take (suc (cond b (through types k ms) (through types (suc k) ms))) (m ∷ ms)))
    go false k l ih = ih k x l
    go true zero l ih = ap Boundary (past_edge d p m)
    go true (suc k) l ih =
        ih k (Boundary (edge_of d this)) (le_of_suc-le-suc l)

-- ---- the records before a place

abbrev pub place_behind : List (List ℕ) → ℕ → ℕ
place_behind rs n = length (join (take n rs))

parts_joined : (n : ℕ) (rs : List (List ℕ)) → join (take n rs) ++ join (drop n rs) ≡ join rs
parts_joined n rs = sym (join_split (take n rs) (drop n rs)) ∙ ap join (take-append-drop n rs)

pub place_inside_log : (n : ℕ) (rs : List (List ℕ)) → place_behind rs n ≤ length (join rs)
place_inside_log n rs = omega (arith, ap length (parts_joined n rs), length-append (join (take n rs)) (join (drop n rs)))

pub ahead_line : (d : Direction) (n : ℕ) (rs : List (List ℕ)) → ahead d (join rs) (place_behind rs n) ≡ line d (records_ahead d n rs)
ahead_line Forwards n rs =
    ap (drop (place_behind rs n)) (sym (parts_joined n rs))
    ∙ drop_at (join (take n rs)) (join (drop n rs)) (place_behind rs n) refl
    ∙ sym (line_forwards (drop n rs))
ahead_line Backwards n rs =
    ap (take (place_behind rs n)) (sym (parts_joined n rs))
    ∙ take_at (join (take n rs)) (join (drop n rs)) (place_behind rs n) refl
    ∙ ap join (sym (reverse-reverse (take n rs)))
    ∙ sym (line_backwards (reverse (take n rs)))

pub all_ahead : {P : List ℕ → Type 0} (d : Direction) (n : ℕ) (rs : List (List ℕ)) → All P rs → All P (records_ahead d n rs)
all_ahead Forwards n rs ps = all_drop n rs ps
all_ahead Backwards n rs ps = all_reverse (take n rs) (all_take n rs ps)

-- where a read starts
pub starts_within : (rs : List (List ℕ)) (d : Direction) (c : Cursor) → starts_at Forwards rs c ≤ length rs → starts_at d rs c ≤ length rs
starts_within rs d (Behind n) l = l
starts_within rs Forwards Unset l = l
starts_within rs Backwards Unset l = omega arith

pub seeks_within : (rs : List (List ℕ)) (d : Direction) (n : ℕ) → suc n ≤ length rs → seeks_at d n ≤ length rs
seeks_within rs Forwards n l = omega (arith, l)
seeks_within rs Backwards n l = l

-- the first j of a list read backwards are its last j, and the rest is what is before them
reversed_split : (xs : List (List ℕ)) (n j : ℕ) → length xs ≡ n → j ≤ n
    → (reverse xs ≡ reverse (drop (n - j) xs) ++ reverse (take (n - j) xs)) × (length (reverse (drop (n - j) xs)) ≡ j)
reversed_split xs n j long l = (
  ap reverse (sym (take-append-drop (n - j) xs)) ∙ reverse-append (take (n - j) xs) (drop (n - j) xs),
  omega (arith, l, long, length-reverse (drop (n - j) xs), length-drop (n - j) xs),
)

pub last_of_reversed : (xs : List (List ℕ)) (n j : ℕ) → length xs ≡ n → j ≤ n → take j (reverse xs) ≡ reverse (drop (n - j) xs)
last_of_reversed xs n j long l =
    let x = reversed_split xs n j long l in
    ap (take j) x.0 ∙ take_at (reverse (drop (n - j) xs)) (reverse (take (n - j) xs)) j x.1

-- from there on so many records further
ending_backwards : (p : ℕ) (ms : List (List ℕ)) → ending Backwards p ms ≡ p - length (line Backwards ms)
ending_backwards p [] = omega arith
ending_backwards p (m ∷ ms) =
    ending_backwards (p - length m) ms ∙ omega (arith, length-append (line Backwards ms) m)

pub ending_moved : (d : Direction) (n : ℕ) (rs : List (List ℕ)) (j : ℕ) → n ≤ length rs → j ≤ length (records_ahead d n rs)
    → ending d (place_behind rs n) (take j (records_ahead d n rs)) ≡ place_behind rs (moved d n j)
ending_moved Forwards n rs j h l =
    ending_forwards (place_behind rs n) (take j (drop n rs))
    ∙ sym (length-append (join (take n rs)) (join (take j (drop n rs))))
    ∙ ap length (sym (join_split (take n rs) (take j (drop n rs))))
    ∙ ap (λ ts. length (join ts)) (sym (take-add n j rs))
ending_moved Backwards n rs j h l =
    let xs : List (List ℕ) = take n rs in
    let long : length xs ≡ n = length-take-le n rs h in
    let before : List (List ℕ) = take (n - j) xs in
    let passed : List (List ℕ) = drop (n - j) xs in
    let bytes : line Backwards (take j (reverse xs)) ≡ join passed =
    ap (line Backwards) (last_of_reversed xs n j long (omega (arith, l, length-reverse xs, long))) ∙ line_backwards (reverse passed) ∙ ap join (reverse-reverse passed) in
    ending_backwards (place_behind rs n) (take j (reverse xs))
    ∙ ap (λ (t : List ℕ). place_behind rs n - length t) bytes
    ∙ omega (arith, ap length (parts_joined (n - j) xs), length-append (join before) (join passed))
    ∙ ap (λ ts. length (join ts)) (take-take (n - j) n rs (omega arith))

-- so many records further, the others lie ahead
pub ahead_moved : (d : Direction) (n : ℕ) (rs : List (List ℕ)) (j : ℕ) → n ≤ length rs → j ≤ length (records_ahead d n rs)
    → records_ahead d (moved d n j) rs ≡ drop j (records_ahead d n rs)
ahead_moved Forwards n rs j h l = sym (drop-drop j n rs)
ahead_moved Backwards n rs j h l =
    let xs : List (List ℕ) = take n rs in
    let long : length xs ≡ n = length-take-le n rs h in
    let x = reversed_split xs n j long (omega (arith, l, length-reverse xs, long)) in
    sym
    (ap (drop j) x.0
    ∙ drop_at (reverse (drop (n - j) xs)) (reverse (take (n - j) xs)) j x.1
    ∙ ap reverse (take-take (n - j) n rs (omega arith)))
