-- What is built is read as it was.
-- Assumes nothing.
use Rattle.std.proofs.Common.{◌≡◌, ℕ, ◌+◌, ◌*◌, ◌/◌, ◌%◌, ◌<◌, ◌≤◌, Bool, eqb, List, [], ◌∷◌, length, Some, None, Ok, Err, Result, refl, ap, ◌∙◌, arith, rules}
use Rattle.std.proofs.lemmas.Bool.{cond-true, eq-eqb}
use Rattle.std.proofs.lemmas.Bool.Decides.{nat_tests}
use Rattle.checksum.specs.Division.{payload_sum}
use Rattle.checksum.proofs.Linear.{payload_below}
use Rattle.frames.specs.declared.data_type.DataType.TheVariants.{Checked, Plain}
use Rattle.frames.specs.declared.procedure.Procedure.{Procedure}
use Rattle.frames.specs.declared.procedure.Procedure.TheVariants.{Initialisation, RateControl, TimeAlignment, ErrorEvent}
use Rattle.frames.specs.declared.distance.Distance.{Distance}
use Rattle.payloads.specs.declared.event.ErrorEvent.{ErrorEvent as Event}
use Rattle.frames.specs.declared.distance.Distance.TheVariants.{Here, Beyond, FarBeyond}
use Rattle.frames.specs.declared.refusal.Refusal.{Refusal}
use Rattle.frames.specs.declared.refusal.Refusal.TheVariants.{PayloadChecksum}
use Rattle.frames.specs.Contents as seen
use Rattle.frames.specs.Contents.{parsed}
use Rattle.frames.specs.Distances.{distance_code}
use Rattle.frames.specs.Extent.{octets_for}
use Rattle.frames.specs.Values.{shift_of}
use Rattle.payloads.specs.Checks.{opened}
use Rattle.payloads.specs.Payloads.{marks_in, event_of}
use Rattle.building.specs.Rates.{rate_payload}
use Rattle.roundtrip.specs.Messages.{user, link, rate, alignment, event, ack, nack, told, read_on, mapped}
use Rattle.roundtrip.specs.Trips.{BuiltIsRead}
use Rattle.roundtrip.proofs.Marks.{marks_read}
use Rattle.building.proofs.Marks.{length-octets}
use Rattle.frames.specs.Procedures.{code_of}
use Rattle.building.specs.Building.{question_frame, spared, error_frame}
use Rattle.building.specs.UserData.{user_frame}

pub checked_read : (n f i : ℕ) (x : List ℕ) → n < 16 → f < 4 → i < 64 → 4 + length x ≤ 512 → parsed (user_frame Checked n f i x) ≡ Ok (seen.user_data Checked n f i (Some (payload_sum x)) 4 x)
checked_read n f i x hn hf hi hx = let s = payload_below x in search rules

pub plain_read : (n f i : ℕ) (x : List ℕ) → n < 16 → f < 4 → i < 64 → 3 + length x ≤ 512 → parsed (user_frame Plain n f i x) ≡ Ok (seen.user_data Plain n f i None 3 x)
plain_read n f i x hn hf hi hx = search rules

pub question_read : (q : Procedure) (n : ℕ) (x : List ℕ) → n < 4 → 4 + length x ≤ 512 → parsed (question_frame (code_of q) n x) ≡ Ok (seen.question n 0 q (payload_sum x) 4 x)
question_read Initialisation n x hn hx = let s = payload_below x in search rules
question_read RateControl n x hn hx = let s = payload_below x in search rules
question_read TimeAlignment n x hn hx = let s = payload_below x in search rules
question_read ErrorEvent n x hn hx = let s = payload_below x in search rules

pub ack_read : (q : Procedure) (n : ℕ) (x : List ℕ) → n < 4 → 4 + length x ≤ 512 → parsed (spared (228 + n) (code_of q) x) ≡ Ok (seen.ack n 0 q 4 x)
ack_read Initialisation n x hn hx = search rules
ack_read RateControl n x hn hx = search rules
ack_read TimeAlignment n x hn hx = search rules
ack_read ErrorEvent n x hn hx = search rules

pub nack_read : (q : Procedure) (n : ℕ) (x : List ℕ) → n < 4 → 4 + length x ≤ 512 → parsed (spared (232 + n) (code_of q) x) ≡ Ok (seen.nack n 0 q 4 x)
nack_read Initialisation n x hn hx = search rules
nack_read RateControl n x hn hx = search rules
nack_read TimeAlignment n x hn hx = search rules
nack_read ErrorEvent n x hn hx = search rules

pub opened_same : {A : Type 0} → (x : List ℕ) (rest : Result A Refusal) → opened 0 (payload_sum x) x rest ≡ rest
opened_same x rest = cond-true (eqb (payload_sum x) (payload_sum x)) rest (Err PayloadChecksum) (eq-eqb (payload_sum x) (payload_sum x) refl)

pub marks-told : (b : List Bool) → length b ≤ 63 → marks_in (rate_payload b) ≡ Ok b
marks-told b h =
    let c : length b % 64 ≡ length b = omega arith in
    let l = length-octets (octets_for (length b)) b in
    let m = marks_read b in
    simp (c, l, m) (search rules)

event_octet : (d : Distance) (c : ℕ) → c < 64 → event_of (distance_code d * 64 + c) ≡ Ok (record { distance = d; cause = c })
event_octet Here c h = grind (arith, nat_tests)
event_octet Beyond c h = grind (arith, nat_tests)
event_octet FarBeyond c h = grind (arith, nat_tests)

event-told : (n : ℕ) (d : Distance) (c : ℕ) → n < 4 → c < 64 → told (error_frame n (distance_code d) c) ≡ Ok (event n d c)
event-told n d c hn hc =
    let p = (distance_code d * 64 + c) ∷ [] in
    ap read_on (question_read ErrorEvent n p hn (omega arith))
    ∙ ap (mapped (λ (e : Event). event n e.distance e.cause)) (opened_same p (event_of (distance_code d * 64 + c)) ∙ event_octet d c hc)

pub built_is_read : BuiltIsRead
built_is_read (user Checked n f i x) v l =
    ap read_on (checked_read n f i x v.0 v.1 v.2 (omega arith)) ∙ search rules
built_is_read (user Plain n f i x) v l = ap read_on (plain_read n f i x v.0 v.1 v.2 (omega arith))
built_is_read (link n x) v l =
    ap read_on (question_read Initialisation n x v (omega arith)) ∙ opened_same x (Ok (link n x))
built_is_read (rate n b) v l =
    let p = rate_payload b in
    ap read_on (question_read RateControl n p v.0 (omega arith))
    ∙ ap (mapped (rate n)) (opened_same p (marks_in p) ∙ marks-told b v.1)
built_is_read (alignment n o) v l =
    let p = o ∷ [] in
    ap read_on (question_read TimeAlignment n p v.0 (omega arith))
    ∙ ap (mapped (alignment n)) (opened_same p (shift_of o) ∙ v.1)
built_is_read (event n d c) v l = event-told n d c v.0 v.1
built_is_read (ack q n) v l = ap read_on (ack_read q n [] v (omega arith))
built_is_read (nack q n c) v l =
    let e : c * 4 / 4 ≡ c = omega arith in
    ap read_on (nack_read q n ((c * 4) ∷ []) v.0 (omega arith)) ∙ ap (λ (m : ℕ). Ok (nack q n m)) e
