-- What was read is built as it was.
-- Assumes nothing.
use Rattle.std.proofs.Common.{◌≡◌, ℕ, suc, ◌+◌, ◌*◌, ◌/◌, ◌%◌, ◌<◌, Bool, List, [], ◌∷◌, length, get_or, drop, IfOk, Some, None, Ok, Err, Option, Result, sym, refl, ap, ◌∙◌, arith, rules}
use Rattle.std.proofs.lemmas.List.FromFn.{length-map-range_with_len}
use Rattle.std.proofs.lemmas.List.{get_or-drop, nil_from_length}
use Rattle.std.proofs.lemmas.Bool.Decides.{nat_tests}
use Rattle.checksum.specs.Division.{payload_sum}
use Rattle.frames.specs.declared.data_type.DataType.TheVariants.{Checked, Plain}
use Rattle.frames.specs.declared.procedure.Procedure.{Procedure}
use Rattle.frames.specs.declared.procedure.Procedure.TheVariants.{Initialisation, RateControl, TimeAlignment, ErrorEvent}
use Rattle.payloads.specs.declared.event.ErrorEvent.{ErrorEvent as Event}
use Rattle.frames.specs.declared.refusal.Refusal.{Refusal}
use Rattle.frames.specs.Contents as seen
use Rattle.frames.specs.Contents.{Contents, parsed, sum_field}
use Rattle.frames.specs.Distances.{distance_code}
use Rattle.frames.specs.Extent.{octets_for}
use Rattle.frames.specs.Values.{shift_of}
use Rattle.payloads.specs.Checks.{versioned, opened, within, summed}
use Rattle.payloads.specs.Payloads.{count_in, barred, marks_at, marks_in, rate_in, alignment_in, event_of, event_in, ack_in, nack_in}
use Rattle.building.specs.Rates.{mark_octets, rate_payload}
use Rattle.roundtrip.specs.Messages.{Message, user, link, rate, alignment, event, ack, nack, told, heard, read_on, mapped, sent, rebuilt}
use Rattle.roundtrip.specs.Trips.{Exact, ExactAs, PaddingZero, ReadIsBuilt}
use Rattle.roundtrip.proofs.Marks.{marks-packed}
use Rattle.frames.specs.Procedures.{code_of}
use Rattle.building.specs.Building.{question_frame, spared}
use Rattle.building.specs.UserData.{user_frame}

pub question_built : (o : List ℕ) (n : ℕ) (q : Procedure) (c p : ℕ) (x : List ℕ) → ((k : ℕ) → get_or o k 0 < 256) → parsed o ≡ Ok (seen.question n 0 q c p x) → c ≡ payload_sum x → question_frame (code_of q) n x ≡ o
question_built o n q c p x by e s = search rules

pub plain_built : (o : List ℕ) (n f i p : ℕ) (s : Option ℕ) (x : List ℕ) → ((k : ℕ) → get_or o k 0 < 256) → parsed o ≡ Ok (seen.user_data Plain n f i s p x) → get_or o 2 0 % 4 ≡ 0 → user_frame Plain n f i x ≡ o
plain_built o n f i p s x by e z = search rules

pub checked_built : (o : List ℕ) (n f i p c : ℕ) (x : List ℕ) → ((k : ℕ) → get_or o k 0 < 256) → parsed o ≡ Ok (seen.user_data Checked n f i (Some c) p x) → c ≡ payload_sum x → user_frame Checked n f i x ≡ o
checked_built o n f i p c x by e s = search rules

pub checked_summed : (o : List ℕ) (n f i p : ℕ) (x : List ℕ) → parsed o ≡ Ok (seen.user_data Checked n f i None p x) → ⊥
checked_summed o n f i p x e = search rules

pub ack_built : (o : List ℕ) (n : ℕ) (q : Procedure) (p : ℕ) (x : List ℕ) → ((k : ℕ) → get_or o k 0 < 256) → parsed o ≡ Ok (seen.ack n 0 q p x) → sum_field o ≡ 0 → spared (228 + n) (code_of q) x ≡ o
ack_built o n q p x by e s = search rules

pub nack_built : (o : List ℕ) (n : ℕ) (q : Procedure) (p : ℕ) (x : List ℕ) → ((k : ℕ) → get_or o k 0 < 256) → parsed o ≡ Ok (seen.nack n 0 q p x) → sum_field o ≡ 0 → spared (232 + n) (code_of q) x ≡ o
nack_built o n q p x by e s = search rules

-- the octets of a payload that was read are octets
pub question_bytes : (o : List ℕ) (n v : ℕ) (q : Procedure) (c p : ℕ) (x : List ℕ) → ((k : ℕ) → get_or o k 0 < 256) → parsed o ≡ Ok (seen.question n v q c p x) → x ≡ drop 4 o
question_bytes o n v q c p x by e = search rules

-- what an accepted value came from
pub mapped_from : {A B : Type 0} (f : A → B) (r : Result A Refusal) (m : B) → mapped f r ≡ Ok m → (y : A) × (r ≡ Ok y) × (f y ≡ m)
mapped_from f (Ok y) m e = (y, refl, cc)
mapped_from f (Err r) m e = absurd (let z : ◌≡◌ {A = ℕ} 0 1 = cc in omega arith)

versioned_from : {A : Type 0} (v : ℕ) (rest : Result A Refusal) (y : A) → versioned v rest ≡ Ok y → (v ≡ 0) × (rest ≡ Ok y)
versioned_from v rest y e = grind (arith, nat_tests)

pub opened_from : {A : Type 0} (v c : ℕ) (x : List ℕ) (rest : Result A Refusal) (y : A) → opened v c x rest ≡ Ok y → (v ≡ 0) × (c ≡ payload_sum x) × (rest ≡ Ok y)
opened_from v c x rest y e = grind (arith, nat_tests)

within_from : {A : Type 0} (n : ℕ) (x : List ℕ) (rest : Result A Refusal) (y : A) → within n x rest ≡ Ok y → rest ≡ Ok y
within_from n x rest y e = grind (arith, nat_tests)

one : (x : List ℕ) → length x ≡ 1 → x ≡ get_or x 0 0 ∷ []
one [] h = absurd (omega arith)
one (a ∷ []) h = refl
one (a ∷ b ∷ x) h = absurd (omega arith)

shift_from : (a y : ℕ) → shift_of a ≡ Ok y → y ≡ a
shift_from a y e = grind (arith, nat_tests)

event_from : (a : ℕ) (y : Event) → a < 256 → event_of a ≡ Ok y → distance_code y.distance * 64 + y.cause ≡ a
event_from a y h e = search rules

rate-packed : (x : List ℕ) → ((k : ℕ) → get_or x k 0 < 256) → get_or x 0 0 / 64 ≡ 0 → PaddingZero x → length x ≡ 1 + octets_for (count_in x) → rate_payload (marks_at (count_in x) (drop 1 x)) ≡ x
rate-packed [] by s z l = absurd (omega arith)
rate-packed (a ∷ os) by s z l =
    let n = a % 64 in
    let e : n ≡ a = omega arith in
    let t : length (marks_at n os) ≡ n = length-map-range_with_len (barred os) 0 n in
    let m = marks-packed n os (λ k. by (suc k)) z (omega arith) in
    ap (λ (k : ℕ). k ∷ mark_octets (octets_for k) (marks_at n os)) t
    ∙ ap (λ (r : List ℕ). n ∷ r) m
    ∙ ap (λ (k : ℕ). k ∷ os) e

question_exact : (o : List ℕ) (m : Message) (n v : ℕ) (q : Procedure) (c p : ℕ) (x : List ℕ) → ((k : ℕ) → get_or o k 0 < 256) → parsed o ≡ Ok (seen.question n v q c p x) → heard (seen.question n v q c p x) ≡ Ok m → ExactAs o (seen.question n v q c p x) → sent m ≡ o
question_exact o m n v Initialisation c p x by e t z =
    let i = opened_from v c x (Ok (link n x)) m t in
    let f = e ∙ ap (λ (w : ℕ). Ok (seen.question n w Initialisation c p x)) i.0 in
    let r = i.2 in
    let k : link n x ≡ m = cc in
    ap sent (sym k) ∙ question_built o n Initialisation c p x by f i.1
question_exact o m n v RateControl c p x by e t z =
    let j = mapped_from (rate n) (rate_in v c x) m t in
    let i = opened_from v c x (marks_in x) j.0 j.1 in
    let f = e ∙ ap (λ (w : ℕ). Ok (seen.question n w RateControl c p x)) i.0 in
    let r = within_from (1 + octets_for (count_in x)) x (Ok (marks_at (count_in x) (drop 1 x))) j.0 i.2 in
    let b : marks_at (count_in x) (drop 1 x) ≡ j.0 = cc in
    let d = question_bytes o n v RateControl c p x by e in
    let bx : (k : ℕ) → get_or x k 0 < 256 = λ k. rw d (rw get_or-drop (by (4 + k))) in
    ap sent (sym j.2)
    ∙ ap (λ (bars : List Bool). question_frame 1 n (rate_payload bars)) (sym b)
    ∙ ap (question_frame 1 n) (rate-packed x bx z.0 z.1 z.2)
    ∙ question_built o n RateControl c p x by f i.1
question_exact o m n v TimeAlignment c p x by e t z =
    let j = mapped_from (alignment n) (alignment_in v c x) m t in
    let i = opened_from v c x (within 1 x (shift_of (get_or x 0 0))) j.0 j.1 in
    let f = e ∙ ap (λ (w : ℕ). Ok (seen.question n w TimeAlignment c p x)) i.0 in
    let y = shift_from (get_or x 0 0) j.0 (within_from 1 x (shift_of (get_or x 0 0)) j.0 i.2) in
    ap sent (sym j.2)
    ∙ ap (λ (k : ℕ). question_frame 2 n (k ∷ [])) y
    ∙ ap (question_frame 2 n) (sym (one x z))
    ∙ question_built o n TimeAlignment c p x by f i.1
question_exact o m n v ErrorEvent c p x by e t z =
    let j = mapped_from (λ (d : Event). event n d.distance d.cause) (event_in v c x) m t in
    let i = opened_from v c x (within 1 x (event_of (get_or x 0 0))) j.0 j.1 in
    let f = e ∙ ap (λ (w : ℕ). Ok (seen.question n w ErrorEvent c p x)) i.0 in
    let d = question_bytes o n v ErrorEvent c p x by e in
    let bx : get_or x 0 0 < 256 = rw d (rw get_or-drop (by 4)) in
    let y = event_from (get_or x 0 0) j.0 bx (within_from 1 x (event_of (get_or x 0 0)) j.0 i.2) in
    ap sent (sym j.2)
    ∙ ap (λ (k : ℕ). question_frame 3 n (k ∷ [])) y
    ∙ ap (question_frame 3 n) (sym (one x z))
    ∙ question_built o n ErrorEvent c p x by f i.1

built_from : (o : List ℕ) (m : Message) (c : Contents) → ((k : ℕ) → get_or o k 0 < 256) → parsed o ≡ Ok c → heard c ≡ Ok m → ExactAs o c → sent m ≡ o
built_from o m (seen.user_data Checked n f i (Some c) p x) by e t z =
    let j = mapped_from (λ (u : Unit {0}). user Checked n f i x) (summed (Some c) x) m t in
    let s : c ≡ payload_sum x = grind (arith, nat_tests, j.1) in
    ap sent (sym j.2) ∙ checked_built o n f i p c x by e s
built_from o m (seen.user_data Checked n f i None p x) by e t z = absurd (checked_summed o n f i p x e)
built_from o m (seen.user_data Plain n f i s p x) by e t z =
    let j = mapped_from (λ (u : Unit {0}). user Plain n f i x) (summed s x) m t in
    ap sent (sym j.2) ∙ plain_built o n f i p s x by e z
built_from o m (seen.question n v q c p x) by e t z = question_exact o m n v q c p x by e t z
built_from o m (seen.ack n v q p x) by e t z =
    let j = mapped_from (λ (u : Unit {0}). ack q n) (ack_in v x) m t in
    let i = versioned_from v (within 0 x (Ok tt)) j.0 j.1 in
    let f = e ∙ ap (λ (w : ℕ). Ok (seen.ack n w q p x)) i.0 in
    ap sent (sym j.2) ∙ ap (spared (228 + n) (code_of q)) (sym (nil_from_length x z.1)) ∙ ack_built o n q p x by f z.0
built_from o m (seen.nack n v q p x) by e t z =
    let j = mapped_from (nack q n) (nack_in v x) m t in
    let i = versioned_from v (within 1 x (Ok (get_or x 0 0 / 4))) j.0 j.1 in
    let f = e ∙ ap (λ (w : ℕ). Ok (seen.nack n w q p x)) i.0 in
    let r = within_from 1 x (Ok (get_or x 0 0 / 4)) j.0 i.1 in
    let y : get_or x 0 0 / 4 ≡ j.0 = cc in
    let s : j.0 * 4 ≡ get_or x 0 0 = omega (arith, y, z.1) in
    ap sent (sym j.2)
    ∙ ap (λ (k : ℕ). spared (232 + n) (code_of q) (k ∷ [])) s
    ∙ ap (spared (232 + n) (code_of q)) (sym (one x z.2))
    ∙ nack_built o n q p x by f z.0

result_from : (o : List ℕ) (m : Message) (r : Result Contents Refusal) → ((k : ℕ) → get_or o k 0 < 256) → parsed o ≡ r → read_on r ≡ Ok m → Exact o → sent m ≡ o
result_from o m (Ok c) by e t x = built_from o m c by e t (x c e)
result_from o m (Err r) by e t x = absurd (let z : ◌≡◌ {A = ℕ} 0 1 = cc in omega arith)

pub read_is_built : ReadIsBuilt
read_is_built o m by t x = result_from o m (parsed o) by refl t x

pub same_from : (o : List ℕ) (r : Result (List ℕ) Refusal) → ((k : ℕ) → get_or o k 0 < 256) → r ≡ rebuilt o → Exact o → IfOk r (λ f. f ≡ o)
same_from o (Ok f) by h x =
    let j = mapped_from sent (told o) f (sym h) in
    sym j.2 ∙ read_is_built o j.0 by j.1 x
same_from o (Err e) by h x = tt
