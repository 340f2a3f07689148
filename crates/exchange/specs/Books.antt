-- The books of one kind of procedure, kept from what calls answer and name.
use Rattle.std.specs.Prelude.{◌≡◌, ℕ, ◌+◌, ◌-◌, ◌*◌, ◌/◌, ◌%◌, ◌≤◌, max, Bool, true, false, cond, ◌&&◌, ◌||◌, List, [], ◌∷◌, ◌++◌, Some, None, Option, ◌==◌}
use Rattle.reports.specs.declared.ending.Kind.{Kind}
use Rattle.reports.specs.declared.ending.Kind.TheVariants.{Initialisation, RateControl, TimeAlignment, HostQuestion}
use Rattle.reports.specs.declared.ending.Ending.{Ending}
use Rattle.reports.specs.declared.ending.Ending.TheVariants.{Done, Overtaken, Accepted, NoAnswer, Rejected, RateFailure, AlignmentNotSupported, AlignmentNotPossible, AlignmentFailure}
use Rattle.reports.specs.declared.happening.Happening.{Happening}
use Rattle.reports.specs.declared.happening.Happening.TheVariants.{Started, Ended, Delivered, HandedOver, Refused}

-- what the books of one kind take note of
pub data Mark : Type 0 where
  -- a request was accepted, or a question put to the host
  opened : Mark
  -- its start was named
  announced : Mark
  -- its end was named
  closed : Mark
  -- a question frame with this number was sent, or its sending refused
  asked : ℕ → Mark
  -- a tick passed
  waited : Mark

-- the number of each procedure; a question to the host is in no frame
abbrev pub procedure_of : Kind → ℕ
procedure_of Initialisation = 0
procedure_of RateControl = 1
procedure_of TimeAlignment = 2
procedure_of HostQuestion = 16

abbrev pub same : Kind → Kind → Bool
same j k = procedure_of j == procedure_of k

-- a question frame of kind k, by its first two octets: type 14, no answer, the number; the procedure
abbrev pub question : Kind → List ℕ → List Mark
question k [] = []
question k (h ∷ []) = []
question k (h ∷ p ∷ rest) = cond (h / 4 == 56 && p % 16 == procedure_of k) (asked (h % 4) ∷ []) []

-- what an entry of a report says of kind k
abbrev pub notes : Kind → Happening → List Mark
notes k (Started j) = cond (same j k) (announced ∷ []) []
notes k (Ended j c) = cond (same j k) (closed ∷ []) []
notes k (Delivered d) = []
notes k (HandedOver f) = question k f
notes k (Refused f) = question k f

abbrev pub named : Kind → List Happening → List Mark
named k [] = []
named k (h ∷ hs) = notes k h ++ named k hs

-- whether an end is a good one
abbrev pub completes : Ending → Bool
completes Done = true
completes Overtaken = false
completes Accepted = false
completes NoAnswer = false
completes Rejected = false
completes RateFailure = false
completes AlignmentNotSupported = false
completes AlignmentNotPossible = false
completes AlignmentFailure = false

-- whether kind k is named as done
abbrev pub done_in : Kind → List Happening → Bool
done_in k [] = false
done_in k (Started j ∷ hs) = done_in k hs
done_in k (Ended j c ∷ hs) = (same j k && completes c) || done_in k hs
done_in k (Delivered d ∷ hs) = done_in k hs
done_in k (HandedOver f ∷ hs) = done_in k hs
done_in k (Refused f ∷ hs) = done_in k hs

pub record Books : Type 0 where
  pub started : ℕ
  pub announcements : ℕ
  pub ended : ℕ
  pub running : ℕ
  -- the numbers sent since the start, the latest first
  pub sent : List ℕ
  -- the number that is waited on, and the ticks waited on it
  pub number : Option ℕ
  pub waits : ℕ
  -- the most sendings of one number, and the longest wait, so far
  pub most : ℕ
  pub longest : ℕ
  -- opened while open, closed while closed, or sent while closed
  pub faults : ℕ

abbrev pub blank : Books
blank = record { started = 0; announcements = 0; ended = 0; running = 0; sent = []; number = None; waits = 0; most = 0; longest = 0; faults = 0 }

abbrev pub count : ℕ → List ℕ → ℕ
count m [] = 0
count m (x ∷ xs) = cond (x == m) (1 + count m xs) (count m xs)

-- the ticks waited on number m, if it is sent now
abbrev pub waits_on : ℕ → Option ℕ → ℕ → ℕ
waits_on m None w = 0
waits_on m (Some x) w = cond (m == x) w 0

-- a tick counts for the number that is waited on, and for nothing before the first sending
abbrev pub wait_on : Option ℕ → Books → Books
wait_on None b = b
wait_on (Some x) b = record b { waits = b.waits + 1; longest = max b.longest (b.waits + 1) }

abbrev pub enter : Mark → Books → Books
enter opened b =
    record b { started = b.started + 1; running = b.running + 1; sent = []; number = None; waits = 0; faults = b.faults + cond (b.running == 0) 0 1 }
enter announced b = record b { announcements = b.announcements + 1 }
enter closed b =
    record b { ended = b.ended + 1; running = b.running - 1; number = None; waits = 0; faults = b.faults + cond (b.running == 0) 1 0 }
enter (asked m) b =
    record b {
      sent = m ∷ b.sent;
      number = Some m;
      waits = waits_on m b.number b.waits;
      most = max b.most (count m (m ∷ b.sent));
      faults = b.faults + cond (b.running == 0) 1 0;
    }
enter waited b = wait_on b.number b

abbrev pub entered : List Mark → Books → Books
entered [] b = b
entered (m ∷ ms) b = entered ms (enter m b)

-- every start was named and every named end had one, at most one is open, and nothing was opened twice, ended twice or sent while closed
pub record Balanced (b : Books) : Type 0 where
  pub faultless : b.faults ≡ 0
  pub balance : b.started ≡ b.ended + b.running
  pub single : b.running ≤ 1
  pub told : b.announcements ≡ b.started

-- no number was sent more than 1 + n times, or waited on for more than (1 + n) × t ticks
pub record Bounded (t n : ℕ) (b : Books) : Type 0 where
  pub sendings : b.most ≤ 1 + n
  pub waiting : b.longest ≤ (1 + n) * t

pub record Kept (t n : ℕ) (b : Books) : Type 0 where
  pub balanced : Balanced b
  pub bounded : Bounded t n b
