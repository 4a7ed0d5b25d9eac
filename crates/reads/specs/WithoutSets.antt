-- The read call as it was before a handle carried a set of types: a handle is a place, and every record is wanted.
-- It is kept for one theorem, that with all six types a read answers what it answered then (Rule 8.31); no promise
-- cites it. What that landing did not touch is cited and not repeated: flags, size, starting place, search, records
-- ahead, and what is copied of them. w is the width of a unit of text.
-- Assumes nothing.
use Rattle.std.specs.Prelude.{cond, List, ℕ, Option, Some, None, Result, Ok, Err}
use Rattle.format.specs.declared.Direction.{Direction}
use Rattle.delivered.specs.declared.Delivered.{Delivered}
use Rattle.delivered.specs.declared.Undelivered.{Undelivered}
use Rattle.delivered.specs.declared.Undelivered.TheVariants.{End, Corrupt, TooLong}
use Rattle.delivery.specs.Delivering.{Delivery, trace_ahead, delivered}
use Rattle.request.specs.declared.Request.{Request}
use Rattle.request.specs.declared.Request.TheVariants.{Sequential, Seek}
use Rattle.request.specs.Asking.{request}
use Rattle.request.specs.declared.status.Status.{Status}
use Rattle.request.specs.Statuses.{number_of}
use Rattle.seek.specs.Seeking.{seek_start}
use Rattle.serve.specs.declared.Place.{Place}
use Rattle.serve.specs.declared.Place.TheVariants.{Boundary}
use Rattle.serve.specs.Answers.{Served}
use Rattle.serve.specs.Serving.{size_ok, reading_place, in_log}

-- what a read answered, and the output afterwards
pub record Plain : Type 0 where
  pub status : ℕ
  pub read : ℕ
  pub needed : ℕ
  pub place : Place
  pub output : List ℕ

-- what is left of an answer without its set
abbrev pub plain : Served → Plain
plain x =
    record {
      status = x.answer.status;
      read = x.answer.read;
      needed = x.answer.needed;
      place = x.answer.handle.place;
      output = x.output;
    }

abbrev pub plain_refused : ℕ → ℕ → Place → List ℕ → Plain
plain_refused status needed place out =
    record { status = status; read = 0; needed = needed; place = place; output = out }

abbrev pub plain_to : Place → Result Delivered Undelivered → List ℕ → Plain
plain_to place (Ok x) out =
    record { status = 0; read = x.read; needed = 0; place = Boundary x.place; output = out }
plain_to place (Err End) out = plain_refused 0xC0000011 0 place out
plain_to place (Err Corrupt) out = plain_refused 0xC000018E 0 place out
plain_to place (Err (TooLong n)) out = plain_refused 0xC0000023 n place out

-- all records from p on that fit
abbrev pub plain_delivering : Direction → ℕ → List ℕ → ℕ → ℕ → List ℕ → Delivery
plain_delivering d w s p size out = delivered d s size out (trace_ahead d w s p).refusal.number (trace_ahead d w s p).records

abbrev pub plain_started : Direction → ℕ → List ℕ → ℕ → Place → List ℕ → Result ℕ Status → Plain
plain_started d w s size place out (Err k) = plain_refused (number_of k) 0 place out
plain_started d w s size place out (Ok p) =
    plain_to place (plain_delivering d w s p size out).answer (plain_delivering d w s p size out).output

abbrev pub plain_allowed : List ℕ → Place → ℕ → List ℕ → Plain → Plain
plain_allowed s place size out x =
    cond (size_ok size out) (cond (in_log s place) x (plain_refused 0xC0000008 0 place out)) (plain_refused 0xC000000D 0 place out)

abbrev pub plain_asked : ℕ → List ℕ → Place → ℕ → ℕ → List ℕ → Option Request → Plain
plain_asked w s place number size out (Some (Sequential d)) = plain_allowed s place size out (plain_started d w s size place out (Ok (reading_place d s place)))
plain_asked w s place number size out (Some (Seek d)) = plain_allowed s place size out (plain_started d w s size place out (seek_start d w s number))
plain_asked w s place number size out None = plain_refused 0xC000000D 0 place out

unfoldable pub plain_serving : ℕ → List ℕ → Place → ℕ → ℕ → ℕ → List ℕ → Plain
plain_serving w s place flags number size out = plain_asked w s place number size out (request flags)
