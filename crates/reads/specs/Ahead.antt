-- What a read answers in any log, with a cut or none (section 8), said by what the steps answer from the place
-- on where it starts. w is the width of a unit of text, types the set of the types wanted.
-- Assumes nothing.
use Rattle.std.specs.Prelude.{◌≡◌, true, false, ◌⊎◌, List, [], ◌∷◌, ◌++◌, ℕ, zero, ◌+◌, ◌≤◌, ◌<◌, length, take, drop, Ok, Err}
use Rattle.format.specs.declared.Refusal.{Refusal}
use Rattle.format.specs.declared.Record.{Record}
use Rattle.format.specs.declared.Direction.{Direction}
use Rattle.format.specs.declared.Direction.TheVariants.{Forwards, Backwards}
use Rattle.format.specs.Bytes.{All, part}
use Rattle.format.specs.Judge.{ahead, past, step_at, refused_at}
use Rattle.format.specs.Walk.{trace}
use Rattle.delivery.specs.Delivering.{wanted, records_bytes, edge}
use Rattle.seek.specs.Seeking.{place_of}
use Rattle.serve.specs.declared.Place.TheVariants.{Boundary}
use Rattle.serve.specs.declared.Handle.{Handle}
use Rattle.serve.specs.Answers.{Served, served}
use Rattle.reads.specs.Model.{Read, sequential_flags, seek_flags, Wrong, RightSize, RightSet, Inside, Asks}
use Rattle.reads.specs.Series.{call}

-- A holds exactly when B does
pub record Exactly (A B : Type 0) : Type 0 where
  pub only : A → B
  pub when : B → A

-- ---- the next wanted record from a place on

-- Rule 8.15: from p up to e every step finds a record that is not wanted
pub data Skips (d : Direction) (w : ℕ) (s : List ℕ) (types : ℕ) : ℕ → ℕ → Type 0 where
  here : {p : ℕ} → Skips d w s types p p
  skip : {p e : ℕ} {a : Record} → step_at d w s p ≡ Ok a → wanted types a ≡ false → Skips d w s types (past d p a.length) e → Skips d w s types p e

-- Rule 8.7, row e: no wanted record is left
pub record NoneLeft (d : Direction) (w : ℕ) (s : List ℕ) (types p : ℕ) : Type 0 where
  pub end : ℕ
  pub skipped : Skips d w s types p end
  pub left : length (ahead d s end) ≡ 0

-- row f: bytes are left, and the step refuses
pub record NextRefuses (d : Direction) (w : ℕ) (s : List ℕ) (types p : ℕ) : Type 0 where
  pub at : ℕ
  pub skipped : Skips d w s types p at
  pub left : zero < length (ahead d s at)
  pub refusal : Refusal
  pub told : ℕ
  pub refused : step_at d w s at ≡ Err (refused_at refusal told)

-- Rule 8.28: this is the next wanted record
pub record Next (d : Direction) (w : ℕ) (s : List ℕ) (types p : ℕ) (a : Record) : Type 0 where
  pub at : ℕ
  pub skipped : Skips d w s types p at
  pub found : step_at d w s at ≡ Ok a
  pub want : wanted types a ≡ true

-- row g: it is longer than a size
pub record NextLonger (d : Direction) (w : ℕ) (s : List ℕ) (types p size : ℕ) : Type 0 where
  pub next : Record
  pub found : Next d w s types p next
  pub longer : size < next.length

-- no row: it fits into a size
pub record NextFits (d : Direction) (w : ℕ) (s : List ℕ) (types p size : ℕ) : Type 0 where
  pub next : Record
  pub found : Next d w s types p next
  pub fits : next.length ≤ size

-- ---- the wanted records from a place on

-- Rule 8.15: these are the next wanted records: the first from p on, each other from where the last one ended,
-- and the last of them ends at e
pub data Finds (d : Direction) (w : ℕ) (s : List ℕ) (types : ℕ) : ℕ → List Record → ℕ → Type 0 where
  stop : {p : ℕ} → Finds d w s types p [] p
  step : {p e : ℕ} {a : Record} {bs : List Record} → Next d w s types p a → Finds d w s types (edge d a) bs e → Finds d w s types p (a ∷ bs) e

-- Rule 8.18: the sum of their Lengths
abbrev pub total : List Record → ℕ
total [] = 0
total (a ∷ bs) = a.length + total bs

-- Rules 8.15 to 8.20: a read that copies the wanted records from p on: as many as fit, since there is no room for
-- the next wanted one from their end on. They are copied in the order in which they were found, each with its own
-- bytes; the rest of the output keeps its bytes, the new boundary is their end, and the set stays
pub record Copies (d : Direction) (w : ℕ) (s : List ℕ) (types p : ℕ) (q : Read) (x : Served) : Type 0 where
  pub records : List Record
  pub end : ℕ
  pub found : Finds d w s types p records end
  pub fit : total records ≤ q.size
  pub most : (b : Record) → Next d w s types end b → q.size < total records + b.length
  pub answer : x ≡ served (record { status = 0; read = total records; needed = 0; handle = record { place = Boundary end; types = types } }) (records_bytes s records ++ drop (total records) q.output)

-- Rule 8.7, rows e to g: what a read from p on answers: each status, and when exactly
pub record ReadsFrom (d : Direction) (w : ℕ) (s : List ℕ) (types p : ℕ) (q : Read) (x : Served) : Type 0 where
  -- no wanted record is left
  pub ended : Exactly (x.answer.status ≡ 0xC0000011) (NoneLeft d w s types p)
  -- a record refuses before a wanted one comes
  pub corrupt : Exactly (x.answer.status ≡ 0xC000018E) (NextRefuses d w s types p)
  -- the next wanted record is longer than the size, and its Length is needed
  pub small : Exactly (x.answer.status ≡ 0xC0000023) (NextLonger d w s types p q.size)
  pub needed : (a : Record) → Next d w s types p a → x.answer.status ≡ 0xC0000023 → x.answer.needed ≡ a.length
  -- the next wanted record fits, and those behind it are copied with it that fit too
  pub success : Exactly (x.answer.status ≡ 0) (NextFits d w s types p q.size)
  pub copies : x.answer.status ≡ 0 → Copies d w s types p q x

-- ---- a seek

-- Rule 8.10: the first record with the number, of those that the walk from the front finds
pub record FirstHas (w : ℕ) (s : List ℕ) (number : ℕ) (a : Record) : Type 0 where
  pub older : List Record
  pub newer : List Record
  pub whole : (trace Forwards w s).records ≡ older ++ (a ∷ newer)
  pub numbered : a.fields.record_number ≡ number
  pub others : All (λ b. b.fields.record_number ≡ number → ⊥) older

-- Rule 8.7, rows c and d: none of them has the number
pub record NoneHas (w : ℕ) (s : List ℕ) (number : ℕ) : Type 0 where
  pub others : All (λ b. b.fields.record_number ≡ number → ⊥) (trace Forwards w s).records

-- Rules 8.7, rows c to g, and 8.11: what a seek answers: the read goes on from the first record with the number,
-- whatever its type and whatever comes behind it in the log
pub record SeeksIn (d : Direction) (w : ℕ) (s : List ℕ) (types : ℕ) (q : Read) (x : Served) : Type 0 where
  -- no record has the number, and the walk ends with the log
  pub absent : Exactly (x.answer.status ≡ 0xC000000D) (NoneHas w s q.number × ((trace Forwards w s).refusal.number ≡ 0))
  -- a record refuses: before one with the number, or before a wanted one from there on
  pub corrupt : Exactly (x.answer.status ≡ 0xC000018E)
      ((NoneHas w s q.number × ((trace Forwards w s).refusal.number ≡ 0 → ⊥))
      ⊎ ((a : Record) × FirstHas w s q.number a × NextRefuses d w s types (place_of d a)))
  -- from the first record with the number on no wanted one is left, the next wanted one is too long, or it fits
  pub ended : Exactly (x.answer.status ≡ 0xC0000011) ((a : Record) × FirstHas w s q.number a × NoneLeft d w s types (place_of d a))
  pub small : Exactly (x.answer.status ≡ 0xC0000023) ((a : Record) × FirstHas w s q.number a × NextLonger d w s types (place_of d a) q.size)
  pub success : Exactly (x.answer.status ≡ 0) ((a : Record) × FirstHas w s q.number a × NextFits d w s types (place_of d a) q.size)
  -- the next wanted one is the record found if it is wanted; else reading goes on past it
  pub first : (a : Record) → FirstHas w s q.number a → wanted types a ≡ true → Next d w s types (place_of d a) a
  pub passed : (a : Record) → FirstHas w s q.number a → wanted types a ≡ false → Skips d w s types (place_of d a) (edge d a)
  pub onward : (a : Record) → FirstHas w s q.number a → ReadsFrom d w s types (place_of d a) q x

-- ---- every read

-- Rule 8.7, row d: a seek of a number that no record of the log has
pub record Absent (w : ℕ) (s : List ℕ) (h : Handle) (q : Read) : Type 0 where
  pub direction : Direction
  pub asks : Asks (seek_flags direction) s h q
  pub none : NoneHas w s q.number
  pub walked : (trace Forwards w s).refusal.number ≡ 0

-- Rule 8.7, rows a, b and d: the two statuses of flags, size, set and handle, and when exactly
pub record Judges (w : ℕ) (s : List ℕ) (h : Handle) (q : Read) (x : Served) : Type 0 where
  pub parameter : Exactly (x.answer.status ≡ 0xC000000D) (Wrong q.flags ⊎ ((RightSize q → ⊥) ⊎ ((RightSet h → ⊥) ⊎ Absent w s h q)))
  pub handle : Exactly (x.answer.status ≡ 0xC0000008) ((Wrong q.flags → ⊥) × RightSize q × RightSet h × (Inside s h → ⊥))

-- ---- turning round

abbrev pub opposite : Direction → Direction
opposite Forwards = Backwards
opposite Backwards = Forwards

-- Rule 8.21: after a read x in the direction d: the bytes read end with those of its last record, which is
-- the next wanted one in the other direction, and which a read in the other direction copies first where it fits
pub record Turns (d : Direction) (w : ℕ) (s : List ℕ) (types : ℕ) (x : Served) : Type 0 where
  pub last : Record
  pub before : List ℕ
  pub boundary : ℕ
  pub bytes : take x.answer.read x.output ≡ before ++ part last.start last.length s
  pub handle : x.answer.handle ≡ record { place = Boundary boundary; types = types }
  pub next : step_at (opposite d) w s boundary ≡ Ok last
  pub want : wanted types last ≡ true
  pub again : (q : Read) → q.flags ≡ sequential_flags (opposite d) → RightSize q → last.length ≤ q.size
      → ((call w s x.answer.handle q).answer.status ≡ 0) × (take last.length (call w s x.answer.handle q).output ≡ part last.start last.length s)
