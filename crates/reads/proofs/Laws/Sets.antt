-- The set of a handle: every read hands it back, and with all six types every record is wanted.
-- Assumes nothing.
use Rattle.std.specs.Prelude.{◌≡◌, Bool, true, false, cond, List, [], ◌∷◌, ℕ, Option, Some, None, Result, Ok, Err}
use Rattle.std.proofs.Math.Path.{refl, ap}
use Rattle.std.proofs.Common.{◌∙◌}
use Rattle.format.specs.declared.Record.{Record}
use Rattle.format.specs.declared.Direction.{Direction}
use Rattle.format.specs.Bytes.{All, none, more}
use Rattle.format.specs.Judge.{past}
use Rattle.event_types.specs.Types.{is_type_set}
use Rattle.event_types.specs.Laws.{only_all, all_hold, all_right}
use Rattle.delivered.specs.declared.Delivered.{Delivered}
use Rattle.delivered.specs.declared.Undelivered.{Undelivered}
use Rattle.delivered.specs.declared.Undelivered.TheVariants.{End, Corrupt, TooLong}
use Rattle.delivery.specs.Delivering.{trace_ahead, wanted, wanted_of, delivered, delivering}
use Rattle.request.specs.declared.Request.{Request}
use Rattle.request.specs.declared.Request.TheVariants.{Sequential, Seek}
use Rattle.request.specs.declared.status.Status.{Status}
use Rattle.request.specs.Statuses.{invalid_parameter, invalid_handle}
use Rattle.seek.specs.Seeking.{seek_start}
use Rattle.serve.specs.declared.Place.{Place}
use Rattle.serve.specs.declared.Handle.{Handle}
use Rattle.serve.specs.Answers.{Served, served}
use Rattle.serve.specs.Serving.{size_ok, reading_place, in_log, refused, answer_to, served_with, started, allowed, asked}
use Rattle.reads.specs.WithoutSets.{plain, plain_refused, plain_to, plain_started, plain_allowed, plain_asked}
use Rattle.reads.proofs.Laws.Found.{found_lies}
use Rattle.reads.proofs.Laws.Wanted.{first_found}

-- ---- every read hands the set back

module _ (h : Handle) where
  abbrev Keeps : Served → Type 0
  Keeps x = x.answer.handle.types ≡ h.types

  answer_keeps : (x : Result Delivered Undelivered) (out : List ℕ) → Keeps (served (answer_to h x) out)
  answer_keeps (Ok x) out = refl
  answer_keeps (Err End) out = refl
  answer_keeps (Err Corrupt) out = refl
  answer_keeps (Err (TooLong n)) out = refl

  started_keeps : (d : Direction) (w : ℕ) (s : List ℕ) (size : ℕ) (out : List ℕ) (x : Result ℕ Status) → Keeps (started d w s size h out x)
  started_keeps d w s size out (Err k) = refl
  started_keeps d w s size out (Ok p) =
      let x = delivering d w s h.types p size out in answer_keeps x.answer x.output

  allowed_keeps : (s : List ℕ) (size : ℕ) (out : List ℕ) (x : Served) → Keeps x → Keeps (allowed s h size out x)
  allowed_keeps s size out x k = go (size_ok size out) (is_type_set h.types) (in_log s h.place)
    where
      go : (a b c : Bool)
          → Keeps (cond a (cond b (cond c x (refused invalid_handle 0 h out)) (refused invalid_parameter 0 h out)) (refused invalid_parameter 0 h out))
      go true true true = k
      go true true false = refl
      go true false c = refl
      go false b c = refl

  pub asked_keeps : (w : ℕ) (s : List ℕ) (number size : ℕ) (out : List ℕ) (x : Option Request) → Keeps (asked w s h number size out x)
  asked_keeps w s number size out (Some (Sequential d)) =
      let p : Result ℕ Status = Ok (reading_place d s h.place) in
      allowed_keeps s size out (started d w s size h out p) (started_keeps d w s size out p)
  asked_keeps w s number size out (Some (Seek d)) =
      let p : Result ℕ Status = seek_start d w s number in
      allowed_keeps s size out (started d w s size h out p) (started_keeps d w s size out p)
  asked_keeps w s number size out None = refl

-- ---- with all six types

-- every record that a walk finds is wanted
walk_wanted : (d : Direction) (w : ℕ) (s : List ℕ) (p : ℕ) (t : List Record) → (trace_ahead d w s p).records ≡ t → All (λ a. wanted 0x3F a ≡ true) t
walk_wanted d w s p [] e = none
walk_wanted d w s p (a ∷ bs) e =
    let f = first_found d w s p a bs e in
    more (all_hold a.fields.event_type (found_lies d w s p a f.0).kind) (walk_wanted d w s (past d p a.length) bs f.1)

all_wanted : (d : Direction) (w : ℕ) (s : List ℕ) (p : ℕ) → wanted_of 0x3F (trace_ahead d w s p).records ≡ (trace_ahead d w s p).records
all_wanted d w s p = only_all (wanted 0x3F) (trace_ahead d w s p).records (walk_wanted d w s p (trace_ahead d w s p).records refl)

module _ (place : Place) where
  abbrev h : Handle
  h = record { place = place; types = 0x3F }

  plain_answer : (x : Result Delivered Undelivered) (out : List ℕ) → plain (served (answer_to h x) out) ≡ plain_to place x out
  plain_answer (Ok x) out = refl
  plain_answer (Err End) out = refl
  plain_answer (Err Corrupt) out = refl
  plain_answer (Err (TooLong n)) out = refl

  plain_started_lem : (d : Direction) (w : ℕ) (s : List ℕ) (size : ℕ) (out : List ℕ) (x : Result ℕ Status) → plain (started d w s size h out x) ≡ plain_started d w s size place out x
  unfolding delivering
  plain_started_lem d w s size out (Err k) = refl
  plain_started_lem d w s size out (Ok p) =
      let number = (trace_ahead d w s p).refusal.number in
      let all = delivered d s size out number (trace_ahead d w s p).records in
      ap (λ t. plain (served_with h (delivered d s size out number t))) (all_wanted d w s p) ∙ plain_answer all.answer all.output

  plain_allowed_lem : (s : List ℕ) (size : ℕ) (out : List ℕ) (x : Served) → plain (allowed s h size out x) ≡ plain_allowed s place size out (plain x)
  plain_allowed_lem s size out x =
      ap (λ b. plain (cond (size_ok size out) (cond b (cond (in_log s place) x (refused invalid_handle 0 h out)) (refused invalid_parameter 0 h out)) (refused invalid_parameter 0 h out))) all_right
      ∙ go (size_ok size out) (in_log s place)
    where
      go : (a b : Bool) → plain (cond a (cond b x (refused invalid_handle 0 h out)) (refused invalid_parameter 0 h out))
          ≡ cond a (cond b (plain x) (plain_refused 0xC0000008 0 place out)) (plain_refused 0xC000000D 0 place out)
      go true true = refl
      go true false = refl
      go false b = refl

  pub plain_asked_lem : (w : ℕ) (s : List ℕ) (number size : ℕ) (out : List ℕ) (x : Option Request) → plain (asked w s h number size out x) ≡ plain_asked w s place number size out x
  plain_asked_lem w s number size out (Some (Sequential d)) =
      let p : Result ℕ Status = Ok (reading_place d s place) in
      plain_allowed_lem s size out (started d w s size h out p) ∙ ap (plain_allowed s place size out) (plain_started_lem d w s size out p)
  plain_asked_lem w s number size out (Some (Seek d)) =
      let p : Result ℕ Status = seek_start d w s number in
      plain_allowed_lem s size out (started d w s size h out p) ∙ ap (plain_allowed s place size out) (plain_started_lem d w s size out p)
  plain_asked_lem w s number size out None = refl
