-- In the model: a read that succeeds, and after it a sequential read in the other direction.
-- Assumes nothing.
use Rattle.std.specs.Prelude.{◌≡◌, refl, Bool, true, false, cond, ◌&&◌, ◌⊎◌, List, [], ◌∷◌, ◌++◌, ℕ, suc, ◌-◌, ◌≤◌, length, take, drop, leb, Some}
use Rattle.std.proofs.Common.{sym, ap, ◌∙◌, subst, ⊎_elim, append_assoc, suc-ne-zero, arith, take_at, le-leb, leb-true}
use Rattle.format.specs.declared.Direction.{Direction}
use Rattle.format.specs.declared.Direction.TheVariants.{Forwards}
use Rattle.format.specs.Bytes.{join}
use Rattle.event_types.specs.Types.{only, is_type_set}
use Rattle.request.specs.declared.Request.TheVariants.{Sequential, Seek}
use Rattle.request.specs.Asking.{request}
use Rattle.serve.specs.Serving.{size_ok}
use Rattle.reads.specs.Model.{wanted_bytes, Read, fits_by, sequential_flags, seek_flags, RightSize}
use Rattle.reads.specs.Operations.{Behind, State, Answer, ReadAnswer, AppendAnswer, Outcome, starts_at, records_ahead, read_refused, read_copies, reads_ahead, reads_from, older_than, seeks_at, read_asked, read_outcome}
use Rattle.reads.specs.Calls.{Result, ReadResult, AppendResult, result_of, shown_result}
use Rattle.reads.proofs.Laws.Requests.{request_sequential, request_seek}
use Rattle.reads.proofs.Laws.Between.{starts_within, seeks_within}
use Rattle.reads.proofs.Laws.Again.{asked_right}

abbrev pub status_of : Answer → ℕ
status_of (ReadAnswer status read needed output) = status
status_of (AppendAnswer k) = k

pub fits_one : (size : ℕ) (r : List ℕ) (rs : List (List ℕ)) → leb (length r) size ≡ true → fits_by length size (r ∷ rs) ≡ suc (fits_by length (size - length r) rs)
unfolding fits_by
fits_one size r rs e = ap (λ b. cond b (suc (fits_by length (size - length r) rs)) 0) e

pub fits_within : (size : ℕ) (rs : List (List ℕ)) → fits_by length size rs ≤ length rs
unfolding fits_by
fits_within size [] = omega arith
fits_within size (r ∷ rs) = go (leb (length r) size) (fits_within (size - length r) rs)
  where
    go : (b : Bool) → fits_by length (size - length r) rs ≤ length rs → cond b (suc (fits_by length (size - length r) rs)) 0 ≤ suc (length rs)
    go true h = omega (arith, h)
    go false h = omega arith

module _ (types : ℕ) (m : State) where
  abbrev rs : List (List ℕ)
  rs = m.records

  -- a read that copied k + 1 records from the place behind n records on
  pub record Copies (d : Direction) (q : Read) (x : Outcome) : Type 0 where
    pub n : ℕ
    pub k : ℕ
    pub inside : n ≤ length rs
    pub exist : suc k ≤ length (only (wanted_bytes types) (records_ahead d n rs))
    pub same : x ≡ read_copies types d m q n (suc k) (join (take (suc k) (only (wanted_bytes types) (records_ahead d n rs))))

  module _ (d : Direction) (q : Read) where
    from_copies : (n : ℕ) → n ≤ length rs → status_of (reads_from types d m q n).answer ≡ 0 → Copies d q (reads_from types d m q n)
    from_copies n l e = go (only (wanted_bytes types) (records_ahead d n rs)) refl e
      where
        W : List (List ℕ)
        W = only (wanted_bytes types) (records_ahead d n rs)

        go : (ts : List (List ℕ)) → W ≡ ts → status_of (reads_ahead types d m q n ts).answer ≡ 0 → Copies d q (reads_ahead types d m q n ts)
        go [] f z = absurd (suc-ne-zero _ z)
        go (t ∷ ts) f z = pick (leb (length t) q.size) refl z
          where
            copies : ℕ → Outcome
            copies j = read_copies types d m q n j (join (take j (t ∷ ts)))

            pick : (b : Bool) → leb (length t) q.size ≡ b → status_of (cond b (copies (fits_by length q.size (t ∷ ts))) (read_refused m q 0xC0000023 (length t))).answer ≡ 0
                → Copies d q (cond b (copies (fits_by length q.size (t ∷ ts))) (read_refused m q 0xC0000023 (length t)))
            pick false g z = absurd (suc-ne-zero _ z)
            pick true g z =
                let first = fits_one q.size t ts g in
                record {
                  n = n;
                  k = fits_by length (q.size - length t) ts;
                  inside = l;
                  exist = subst (λ us. suc (fits_by length (q.size - length t) ts) ≤ length us) (sym f) (subst (λ j. j ≤ length (t ∷ ts)) first (fits_within q.size (t ∷ ts)));
                  same = ap copies first ∙ ap (λ us. read_copies types d m q n (suc (fits_by length (q.size - length t) ts)) (join (take (suc (fits_by length (q.size - length t) ts)) us))) (sym f);
                }

    abbrev wrong : Outcome
    wrong = read_refused m q 0xC000000D 0

    module _ (within : starts_at Forwards rs m.cursor ≤ length rs) where
      -- a sequential read or a seek in the direction d
      asked_copies : (seek : Bool) → status_of (read_asked types m q (Some (cond seek (Seek d) (Sequential d)))).answer ≡ 0
          → Copies d q (read_asked types m q (Some (cond seek (Seek d) (Sequential d))))
      asked_copies false z = from_copies (starts_at d rs m.cursor) (starts_within rs d m.cursor within) z
      asked_copies true z = go (leb (suc (older_than q.number rs)) (length rs)) refl z
        where
          o : ℕ
          o = older_than q.number rs

          go : (b : Bool) → leb (suc o) (length rs) ≡ b → status_of (cond b (reads_from types d m q (seeks_at d o)) wrong).answer ≡ 0
              → Copies d q (cond b (reads_from types d m q (seeks_at d o)) wrong)
          go true f z = from_copies (seeks_at d o) (seeks_within rs d o (leb-true (suc o) (length rs) f)) z
          go false f z = absurd (suc-ne-zero _ z)

      request_either : (q.flags ≡ sequential_flags d) ⊎ (q.flags ≡ seek_flags d) → (seek : Bool) × (request q.flags ≡ Some (cond seek (Seek d) (Sequential d)))
      request_either a =
          ⊎_elim (λ e. (false, ap request e ∙ request_sequential d)) (λ e. (true, ap request e ∙ request_seek d)) a

      -- a read that succeeded copied records, and its set is right
      pub success_copies : (q.flags ≡ sequential_flags d) ⊎ (q.flags ≡ seek_flags d) → status_of (read_outcome types m q).answer ≡ 0
          → (is_type_set types ≡ true) × Copies d q (read_outcome types m q)
      success_copies a z = go (size_ok q.size q.output) (is_type_set types) refl z
        where
          r : (seek : Bool) × (request q.flags ≡ Some (cond seek (Seek d) (Sequential d)))
          r = request_either a

          go : (a b : Bool) → is_type_set types ≡ b → status_of (cond (a && b) (read_asked types m q (request q.flags)) wrong).answer ≡ 0
              → (is_type_set types ≡ true) × Copies d q (cond (a && b) (read_asked types m q (request q.flags)) wrong)
          go true true f z = (
            f,
            subst (λ t. Copies d q (read_asked types m q t)) (sym r.1) (asked_copies r.0 (subst (λ t. status_of (read_asked types m q t).answer ≡ 0) r.1 z)),
          )
          go true false f z = absurd (suc-ne-zero _ z)
          go false b f z = absurd (suc-ne-zero _ z)

-- ---- the read after it

abbrev pub output_of : Answer → List ℕ
output_of (ReadAnswer status read needed output) = output
output_of (AppendAnswer k) = []

-- the next wanted record of a state with a cursor is copied first where it fits
pub first_copied : (types : ℕ) (d : Direction) (rs : List (List ℕ)) (n room : ℕ) (q : Read) (last : List ℕ) (others : List (List ℕ))
    → only (wanted_bytes types) (records_ahead d n rs) ≡ last ∷ others → is_type_set types ≡ true → q.flags ≡ sequential_flags d → RightSize q → length last ≤ q.size
    → (status_of (read_outcome types (record { records = rs; cursor = Behind n; room = room }) q).answer ≡ 0)
    × (take (length last) (output_of (read_outcome types (record { records = rs; cursor = Behind n; room = room }) q).answer) ≡ last)
first_copied types d rs n room q last others e set flags sized fit =
    let m : State = record { records = rs; cursor = Behind n; room = room } in
    let room : leb (length last) q.size ≡ true = le-leb (length last) q.size fit in
    let more : ℕ = fits_by length (q.size - length last) others in
    let whole : read_outcome types m q ≡ read_copies types d m q n (suc more) (join (take (suc more) (last ∷ others))) =
    asked_right types m q sized set
    ∙ ap (read_asked types m q) (ap request flags ∙ request_sequential d)
    ∙ ap (reads_ahead types d m q n) e
    ∙ ap (λ b. cond b (read_copies types d m q n (fits_by length q.size (last ∷ others)) (join (take (fits_by length q.size (last ∷ others)) (last ∷ others)))) (read_refused m q 0xC0000023 (length last))) room
    ∙ ap (λ j. read_copies types d m q n j (join (take j (last ∷ others)))) (fits_one q.size last others room) in
    let rest : List ℕ = join (take more others) in (
      ap (λ (x : Outcome). status_of x.answer) whole,
      ap (λ (x : Outcome). take (length last) (output_of x.answer)) whole
          ∙ ap (take (length last)) (append_assoc last rest (drop (length (last ++ rest)) q.output))
          ∙ take_at last (rest ++ drop (length (last ++ rest)) q.output) (length last) refl,
    )

-- ---- results

abbrev pub status_in : Result → ℕ
status_in (ReadResult x) = x.answer.status
status_in (AppendResult x) = x.answer.refusal.number

abbrev pub output_in : Result → List ℕ
output_in (ReadResult x) = x.output
output_in (AppendResult x) = []

abbrev pub bytes_in : Result → List ℕ
bytes_in (ReadResult x) = take x.answer.read x.output
bytes_in (AppendResult x) = []

-- a result has the model's status and output
pub shown_answer : (types : ℕ) (lent : List ℕ) (x : Outcome)
    → (status_in (shown_result types lent x) ≡ status_of x.answer) × (output_in (shown_result types lent x) ≡ output_of x.answer)
shown_answer types lent x = go x.answer
  where
    go : (a : Answer) → (status_in (result_of types lent x.state a) ≡ status_of a) × (output_in (result_of types lent x.state a) ≡ output_of a)
    go (ReadAnswer status read needed output) = (refl, refl)
    go (AppendAnswer k) = (refl, refl)
