-- In the model: the record that a read copied last is the first one in the other direction; and a seek finds the
-- oldest record with its number.
-- Assumes nothing.
use Rattle.std.specs.Prelude.{◌≡◌, refl, Bool, true, false, cond, ◌&&◌, List, [], ◌∷◌, ◌++◌, reverse, ℕ, zero, suc, ◌+◌, ◌-◌, ◌≤◌, length, take, drop, leb}
use Rattle.std.proofs.Common.{sym, ap, ◌∙◌, le_of_suc-le-suc, arith, length-append, take-append-drop, take-add, length-take-le, eq-eqb, ne_eqb, le-leb}
use Rattle.std.proofs.lemmas.List.{reverse-append, reverse-reverse, length-reverse, drop-append-le}
use Rattle.format.specs.declared.Direction.{Direction}
use Rattle.format.specs.declared.Direction.TheVariants.{Forwards, Backwards}
use Rattle.format.specs.Bytes.{All, none, more}
use Rattle.format.specs.Judge.{record_number}
use Rattle.event_types.specs.Types.{only, is_type_set}
use Rattle.request.specs.Asking.{request}
use Rattle.reads.specs.Model.{wanted_bytes, Read, seek_flags, RightSize, First}
use Rattle.reads.specs.Ahead.{opposite}
use Rattle.reads.specs.Operations.{State, Outcome, records_ahead, through, moved, read_refused, reads_from, older_than, seeks_at, read_asked, read_outcome}
use Rattle.reads.proofs.Laws.Requests.{request_seek}
use Rattle.reads.proofs.Laws.Between.{through_exist, last_of_reversed}

-- ---- the oldest with a number

pub older_first : (number : ℕ) (older : List (List ℕ)) (r : List ℕ) (newer : List (List ℕ)) → All (λ a. record_number a ≡ number → ⊥) older
    → record_number r ≡ number → older_than number (older ++ (r ∷ newer)) ≡ length older
older_first number [] r newer none e = ap (λ b. cond b 0 (suc (older_than number newer))) (eq-eqb (record_number r) number e)
older_first number (a ∷ older) r newer (more other others) e =
    ap (λ b. cond b 0 (suc (older_than number (older ++ (r ∷ newer))))) (ne_eqb (record_number a) number other)
    ∙ ap suc (older_first number older r newer others e)

-- size and set are right, so the flags decide
pub asked_right : (types : ℕ) (m : State) (q : Read) → RightSize q → is_type_set types ≡ true → read_outcome types m q ≡ read_asked types m q (request q.flags)
asked_right types m q sized set =
    let asked : Outcome = read_asked types m q (request q.flags) in
    let wrong : Outcome = read_refused m q 0xC000000D 0 in
    ap (λ b. cond (b && leb q.size (length q.output) && is_type_set types) asked wrong) (le-leb q.size 524287 sized.limit)
    ∙ ap (λ b. cond (b && is_type_set types) asked wrong) (le-leb q.size (length q.output) sized.room)
    ∙ ap (λ b. cond b asked wrong) set

pub seek_oldest : (types : ℕ) (m : State) (d : Direction) (q : Read) → q.flags ≡ seek_flags d → RightSize q → is_type_set types ≡ true
    → (older : List (List ℕ)) (r : List ℕ) (newer : List (List ℕ)) → First q.number m.records older r newer
    → read_outcome types m q ≡ reads_from types d m q (seeks_at d (length older))
seek_oldest types m d q flags sized set older r newer y =
    let wrong : Outcome = read_refused m q 0xC000000D 0 in
    let o : older_than q.number m.records ≡ length older = ap (older_than q.number) y.whole ∙ older_first q.number older r newer y.others y.numbered in
    let long : length m.records ≡ length older + suc (length newer) = ap length y.whole ∙ length-append older (r ∷ newer) in
    asked_right types m q sized set
    ∙ ap (read_asked types m q) (ap request flags ∙ request_seek d)
    ∙ ap (λ n. cond (leb (suc n) (length m.records)) (reads_from types d m q (seeks_at d n)) wrong) o
    ∙ ap (λ b. cond b (reads_from types d m q (seeks_at d (length older))) wrong) (le-leb (suc (length older)) (length m.records) (omega (arith, long)))

-- ---- the last of k wanted ones

-- of the records passed and of those copied the last is the same, and wanted
pub record LastOf (types : ℕ) (passed copied : List (List ℕ)) : Type 0 where
  pub before : List (List ℕ)
  pub last : List ℕ
  pub ends : passed ≡ before ++ (last ∷ [])
  pub wanted : wanted_bytes types last ≡ true
  pub copies : copied ≡ only (wanted_bytes types) before ++ (last ∷ [])

-- a record before them
last_onto : (types : ℕ) (m : List ℕ) (b : Bool) → wanted_bytes types m ≡ b → {passed copied : List (List ℕ)} → LastOf types passed copied
    → LastOf types (m ∷ passed) (cond b (m ∷ copied) copied)
last_onto types m b f x =
    let kept : List (List ℕ) = only (wanted_bytes types) x.before in
    record {
      before = m ∷ x.before;
      last = x.last;
      ends = ap (λ (l : List (List ℕ)). m ∷ l) x.ends;
      wanted = x.wanted;
      copies = ap (λ l. cond b (m ∷ l) l) x.copies ∙ go b kept x.last ∙ ap (λ c. cond c (m ∷ kept) kept ++ (x.last ∷ [])) (sym f);
    }
  where
    go : (b : Bool) (kept : List (List ℕ)) (last : List ℕ) → cond b (m ∷ (kept ++ (last ∷ []))) (kept ++ (last ∷ [])) ≡ cond b (m ∷ kept) kept ++ (last ∷ [])
    go true kept last = refl
    go false kept last = refl

pub last_wanted : (types k : ℕ) (ms : List (List ℕ)) → suc k ≤ length (only (wanted_bytes types) ms)
    → LastOf types (take (through types (suc k) ms) ms) (take (suc k) (only (wanted_bytes types) ms))
last_wanted types k [] h = absurd (omega (arith, h))
last_wanted types k (m ∷ ms) h = go (wanted_bytes types m) refl k h (λ j i. last_wanted types j ms i)
  where
    W : List (List ℕ)
    W = only (wanted_bytes types) ms

    Before : Type 0
    Before = (j : ℕ) → suc j ≤ length W → LastOf types (take (through types (suc j) ms) ms) (take (suc j) W)

    go : (b : Bool) → wanted_bytes types m ≡ b → (k : ℕ) → suc k ≤ length (cond b (m ∷ W) W) → Before
        → LastOf types (take (suc (cond b (through types k ms) (through types (suc k) ms))) (m ∷ ms)) (take (suc k) (cond b (m ∷ W) W))
    go true f zero h ih = record { before = []; last = m; ends = refl; wanted = f; copies = refl }
    go true f (suc k) h ih = last_onto types m true f (ih k (le_of_suc-le-suc h))
    go false f k h ih = last_onto types m false f (ih k h)

-- ---- the other direction

-- what was passed lies ahead in the other direction, the last first
pub opposite_ahead : (d : Direction) (n : ℕ) (rs : List (List ℕ)) (j : ℕ) → n ≤ length rs → j ≤ length (records_ahead d n rs)
    → records_ahead (opposite d) (moved d n j) rs ≡ reverse (take j (records_ahead d n rs)) ++ records_ahead (opposite d) n rs
opposite_ahead Forwards n rs j h l = ap reverse (take-add n j rs) ∙ reverse-append (take n rs) (take j (drop n rs))
opposite_ahead Backwards n rs j h l =
    let xs : List (List ℕ) = take n rs in
    let long : length xs ≡ n = length-take-le n rs h in
    ap (drop (n - j)) (sym (take-append-drop n rs))
    ∙ drop-append-le (n - j) xs (drop n rs) (omega (arith, long))
    ∙ ap (λ (t : List (List ℕ)). t ++ drop n rs)
    (sym (ap reverse (last_of_reversed xs n j long (omega (arith, l, length-reverse xs, long))) ∙ reverse-reverse (drop (n - j) xs)))

-- after k wanted records were copied, the last of them is the next wanted one in the other direction
pub record Again (types : ℕ) (copied ahead : List (List ℕ)) : Type 0 where
  pub before : List (List ℕ)
  pub last : List ℕ
  pub others : List (List ℕ)
  pub copies : copied ≡ before ++ (last ∷ [])
  pub next : only (wanted_bytes types) ahead ≡ last ∷ others

pub copied_again : (types : ℕ) (d : Direction) (n : ℕ) (rs : List (List ℕ)) (k : ℕ) → n ≤ length rs → suc k ≤ length (only (wanted_bytes types) (records_ahead d n rs))
    → Again types (take (suc k) (only (wanted_bytes types) (records_ahead d n rs))) (records_ahead (opposite d) (moved d n (through types (suc k) (records_ahead d n rs))) rs)
copied_again types d n rs k h l =
    let A : List (List ℕ) = records_ahead d n rs in
    let j : ℕ = through types (suc k) A in
    let x = last_wanted types k A l in
    let rest : List (List ℕ) = reverse x.before ++ records_ahead (opposite d) n rs in
    record {
      before = only (wanted_bytes types) x.before;
      last = x.last;
      others = only (wanted_bytes types) rest;
      copies = x.copies;
      next =
          ap (only (wanted_bytes types))
          (opposite_ahead d n rs j h (through_exist types (suc k) A)
          ∙ ap (λ t. reverse t ++ records_ahead (opposite d) n rs) x.ends
          ∙ ap (λ t. t ++ records_ahead (opposite d) n rs) (reverse-append x.before (x.last ∷ [])))
          ∙ ap (λ b. cond b (x.last ∷ only (wanted_bytes types) rest) (only (wanted_bytes types) rest)) x.wanted;
    }
