-- What an answer says.
use Rattle.std.specs.Prelude.{ℕ, List, Some, None, Ok, Err, Option, Result}
use Rattle.frames.specs.declared.refusal.Refusal.{Refusal}
use Rattle.frames.specs.declared.frame.AckNack.{AckNack}
use Rattle.frames.specs.declared.frame.AckNack.TheVariants.{Ack, Nack}
use Rattle.frames.specs.Contents.{Reply}
use Rattle.payloads.specs.Payloads.{ack_in, nack_in}

-- what is told of an answer that was read
abbrev pub told_by : {A B : Type 0} → (A → B) → Result A Refusal → Result B Refusal
told_by f (Ok a) = Ok (f a)
told_by f (Err e) = Err e

-- an Ack has no cause, and a Nack names one
abbrev pub cause_by : AckNack → (version : ℕ) → List ℕ → Result (Option ℕ) Refusal
cause_by Ack version payload = told_by (λ _. None) (ack_in version payload)
cause_by Nack version payload = told_by Some (nack_in version payload)

abbrev pub cause_in : Reply → Result (Option ℕ) Refusal
cause_in r = cause_by r.ack_nack r.version r.payload
