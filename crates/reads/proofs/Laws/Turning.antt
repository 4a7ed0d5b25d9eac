-- Turning round: the record that was copied last is the next one in the other direction.
-- Assumes nothing.
use Rattle.std.specs.Prelude.{◌≡◌, refl, true, List, [], ◌∷◌, ◌++◌, ℕ, ◌+◌, ◌≤◌, ◌<◌, length, take, drop, Ok}
use Rattle.std.proofs.Common.{sym, ap, ap₂, ◌∙◌, subst, append_assoc, append-nil, arith, length-append, take_at}
use Rattle.format.specs.declared.Record.{Record}
use Rattle.format.specs.declared.Direction.{Direction}
use Rattle.format.specs.Bytes.{part}
use Rattle.format.specs.Judge.{step_at}
use Rattle.event_types.specs.Types.{is_type_set}
use Rattle.delivery.specs.Delivering.{wanted, records_bytes, edge}
use Rattle.serve.specs.declared.Place.TheVariants.{Boundary}
use Rattle.serve.specs.declared.Handle.{Handle}
use Rattle.serve.specs.Answers.{Served}
use Rattle.reads.specs.Model.{Read, sequential_flags, Asks}
use Rattle.reads.specs.Series.{call}
use Rattle.reads.specs.Ahead.{here, Next, NextFits, Finds, stop, step, total, Copies, ReadsFrom, opposite, Turns}
use Rattle.reads.proofs.Laws.Requests.{sequential_started}
use Rattle.reads.proofs.Laws.Found.{found_lies}
use Rattle.reads.proofs.Laws.Wanted.{next_same}
use Rattle.reads.proofs.Laws.Ahead.{reads_from_lem}

module _ (d : Direction) (w : ℕ) (s : List ℕ) (types : ℕ) where
  abbrev bytes_in : Record → List ℕ
  bytes_in a = part a.start a.length s

  -- the records found have as many bytes as their Lengths say
  finds_bytes : {p e : ℕ} {bs : List Record} → Finds d w s types p bs e → length (records_bytes s bs) ≡ total bs
  finds_bytes stop = refl
  finds_bytes (step {a = a} {bs = bs} n r) =
      length-append (bytes_in a) (records_bytes s bs) ∙ ap₂ ◌+◌ (found_lies d w s n.at a n.found).bytes (finds_bytes r)

  -- the last of the records found
  record Last (bs : List Record) (e : ℕ) : Type 0 where
    last : Record
    before : List ℕ
    bytes : records_bytes s bs ≡ before ++ bytes_in last
    next : step_at (opposite d) w s e ≡ Ok last
    want : wanted types last ≡ true

  last_of : {p q : ℕ} {a : Record} {bs : List Record} {e : ℕ} → Next d w s types p a → q ≡ edge d a → Finds d w s types q bs e → Last (a ∷ bs) e
  last_of {a = a} n at stop =
      let x = found_lies d w s n.at a n.found in
      record {
        last = a;
        before = [];
        bytes = append-nil (bytes_in a);
        next = ap (step_at (opposite d) w s) (at ∙ x.ends) ∙ x.again;
        want = n.want;
      }
  last_of {p = p} {a = a} n at (step {p = p'} {e = e} {a = b} {bs = bs} m r) =
      let y = last_of {p = p'} m refl r in
      record {
        last = y.last;
        before = bytes_in a ++ y.before;
        bytes = ap (λ t. bytes_in a ++ t) y.bytes ∙ sym (append_assoc (bytes_in a) y.before (bytes_in y.last));
        next = y.next;
        want = y.want;
      }

  -- where the next record fits, some record is copied
  some_last : (size : ℕ) {p e : ℕ} {bs : List Record} → Finds d w s types p bs e → ((b : Record) → Next d w s types e b → size < total bs + b.length)
      → NextFits d w s types p size → Last bs e
  some_last size stop most x = absurd (omega (arith, most x.next x.found, x.fits))
  some_last size (step n r) most x = last_of n refl r

  -- and it is the first
  some_first : (size : ℕ) {p e : ℕ} {bs : List Record} → Finds d w s types p bs e → ((b : Record) → Next d w s types e b → size < total bs + b.length)
      → (a : Record) → Next d w s types p a → a.length ≤ size → (rest : List ℕ) × (records_bytes s bs ≡ bytes_in a ++ rest)
  some_first size stop most a n h = absurd (omega (arith, most a n, h))
  some_first size (step {a = b} {bs = bs} m r) most a n h = (
    records_bytes s bs,
    ap (λ (c : Record). bytes_in c ++ records_bytes s bs) (next_same d w s types m n),
  )

  -- a read whose next record fits copies it first
  copies_first : (p : ℕ) (q : Read) (x : Served) → ReadsFrom d w s types p q x → (a : Record) → Next d w s types p a → a.length ≤ q.size
      → (x.answer.status ≡ 0) × (take a.length x.output ≡ bytes_in a)
  copies_first p q x y a n h =
      let done : x.answer.status ≡ 0 = y.success.when (record { next = a; found = n; fits = h }) in
      let c : Copies d w s types p q x = y.copies done in
      let first = some_first q.size c.found c.most a n h in
      let rest : List ℕ = drop (total c.records) q.output in (
        done,
        ap (λ (z : Served). take a.length z.output) c.answer
            ∙ ap (λ t. take a.length (t ++ rest)) first.1
            ∙ ap (take a.length) (append_assoc (bytes_in a) first.0 rest)
            ∙ take_at (bytes_in a) (first.0 ++ rest) a.length (found_lies d w s n.at a n.found).bytes,
      )

boundary_inside : (s : List ℕ) (h : Handle) (e : ℕ) → h.place ≡ Boundary e → e ≤ length s → (b : ℕ) → h.place ≡ Boundary b → b ≤ length s
boundary_inside s h e f l b g =
    let same : e ≡ b = cc in
    omega (arith, same, l)

-- a read from p on that copies something
pub turns : (d : Direction) (w : ℕ) (s : List ℕ) (types p : ℕ) (q : Read) (x : Served) → is_type_set types ≡ true → ReadsFrom d w s types p q x → x.answer.status ≡ 0
    → Turns d w s types x
turns d w s types p q x set y done =
    let c : Copies d w s types p q x = y.copies done in
    let l : Last d w s types c.records c.end = some_last d w s types q.size c.found c.most (y.success.only done) in
    let bytes : List ℕ = records_bytes s c.records in
    let handle : x.answer.handle ≡ record { place = Boundary c.end; types = types } = ap (λ (z : Served). z.answer.handle) c.answer in
    let inside : c.end ≤ length s = (found_lies (opposite d) w s c.end l.last l.next).inside in
    let first : Next (opposite d) w s types c.end l.last = record { at = c.end; skipped = here; found = l.next; want = l.want } in
    record {
      last = l.last;
      before = l.before;
      boundary = c.end;
      bytes =
          ap (λ (z : Served). take z.answer.read z.output) c.answer
          ∙ take_at bytes (drop (total c.records) q.output) (total c.records) (finds_bytes d w s types c.found)
          ∙ l.bytes;
      handle = handle;
      next = l.next;
      want = l.want;
      again = λ o f z h.
          let given : Handle = record { place = Boundary c.end; types = types } in
          let a : Asks (sequential_flags (opposite d)) s given o = record {
            flagged = f;
            sized = z;
            typed = record { set = set };
            inside = record { boundary = boundary_inside s given c.end refl inside };
          } in
          subst (λ (k : Handle). ((call w s k o).answer.status ≡ 0) × (take l.last.length (call w s k o).output ≡ part l.last.start l.last.length s)) (sym handle)
          (copies_first (opposite d) w s types c.end o (call w s given o)
          (subst (ReadsFrom (opposite d) w s types c.end o) (sym (sequential_started (opposite d) w s given o a)) (reads_from_lem (opposite d) w s c.end given o))
          l.last first h);
    }
