-- The read handle that C is given and gives, a struct in the place of an enum (Rule 8.25).
-- Assumes nothing.
use Rattle.std.specs.Prelude.{cond, List, ℕ, eqb}
use Rattle.serve.specs.declared.Place.{Place}
use Rattle.serve.specs.declared.Place.TheVariants.{Fresh, Boundary}
use Rattle.serve.specs.declared.Handle.{Handle}
use Rattle.serve.specs.Answers.{Served}
use Rattle.eventlog_serving.specs.declared.ReadHandle.{ReadHandle}
use Rattle.eventlog_serving.specs.declared.ReadAnswer.{ReadAnswer}

-- Rule 8.25: a handle that was given: every kind but 0 is a boundary
abbrev pub placed : ℕ → ℕ → Place
placed kind b = cond (eqb kind 0) Fresh (Boundary b)

abbrev pub handle_of : ReadHandle → Handle
handle_of h = record { place = placed h.kind h.boundary; types = h.types }

-- Rule 8.25: a handle that is answered
abbrev pub read_handle : Place → ℕ → ReadHandle
read_handle Fresh types = record { kind = 0; types = types; boundary = 0 }
read_handle (Boundary b) types = record { kind = 1; types = types; boundary = b }

abbrev pub fresh_read : ℕ → ReadHandle
fresh_read types = read_handle Fresh types

-- Rule 8.25: what a read call answers and leaves
pub record ReadServed : Type 0 where
  pub answer : ReadAnswer
  pub output : List ℕ

abbrev pub read_outcome : ReadAnswer → List ℕ → ReadServed
read_outcome r out = record { answer = r; output = out }

-- Rule 8.25: a refusal gives back the caller's own handle, whatever its kind
abbrev pub answered : ReadHandle → Served → ReadServed
answered h x =
    record {
      answer =
          record {
            status = x.answer.status;
            read = x.answer.read;
            needed = x.answer.needed;
            handle = cond (eqb x.answer.status 0) (read_handle x.answer.handle.place x.answer.handle.types) h;
          };
      output = x.output;
    }
