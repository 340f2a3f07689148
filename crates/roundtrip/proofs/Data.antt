-- User data of some bits, there and back.
-- Assumes nothing.
use Rattle.std.proofs.Common.{◌≡◌, ℕ, ◌+◌, ◌-◌, ◌*◌, ◌/◌, ◌%◌, ◌^◌, ◌<◌, ◌≤◌, eqb, List, [], ◌∷◌, ◌++◌, length, get_or, take, Ok, Err, Option, Result, sym, refl, ap, ◌∙◌, subst, ⊎_elim, arith, rules}
use Rattle.std.proofs.lemmas.Nat.{div-add-mod'}
use Rattle.std.proofs.lemmas.List.{take_more, take_all}
use Rattle.std.proofs.lemmas.Bool.{cases_eq, cond-true, cond-false, eq-eqb, ne_eqb}
use Rattle.std.proofs.lemmas.Bool.Decides.{nat_tests}
use Rattle.frames.specs.declared.data_type.DataType.{DataType}
use Rattle.frames.specs.declared.data_type.DataType.TheVariants.{Checked, Plain}
use Rattle.frames.specs.declared.procedure.Procedure.TheVariants.{Initialisation, RateControl, TimeAlignment, ErrorEvent}
use Rattle.frames.specs.declared.refusal.Refusal.{Refusal}
use Rattle.frames.specs.Contents.{Contents, parsed}
use Rattle.frames.specs.Contents as seen
use Rattle.frames.specs.Extent.{octets_for}
use Rattle.frames.specs.Joined.{fitting}
use Rattle.building.specs.UserData.{user_frame, user_data, padded, high_bits}
use Rattle.payloads.specs.declared.event.ErrorEvent.{ErrorEvent as Event}
use Rattle.payloads.specs.Checks.{summed}
use Rattle.payloads.specs.Payloads.{rate_in, alignment_in, event_in, ack_in, nack_in}
use Rattle.roundtrip.specs.Messages.{user, link, rate, alignment, event, ack, nack, told, read_on, heard}
use Rattle.roundtrip.specs.Trips.{DataIsRead, DataIsBuilt, DataPaddingZero}
use Rattle.roundtrip.proofs.Read.{built_is_read}
use Rattle.roundtrip.proofs.Built.{mapped_from, opened_from, read_is_built}

fitting_from : (x o : List ℕ) → fitting x ≡ Ok o → (x ≡ o) × (length x ≤ 512)
fitting_from x o e = grind (arith, nat_tests)

data_from : (t : DataType) (n f i bits : ℕ) (x o : List ℕ) → user_data t n f i bits x ≡ Ok o → (n < 16) × (f < 4) × (i < 64) × (fitting (user_frame t n f i (padded bits x)) ≡ Ok o)
data_from t n f i bits x o e = grind (arith, nat_tests)

pub data_is_read : DataIsRead
data_is_read t n f i bits x o e =
    let d = data_from t n f i bits x o e in
    let g = fitting_from (user_frame t n f i (padded bits x)) o d.3 in
    ap told (sym g.0) ∙ built_is_read (user t n f i (padded bits x)) (d.0, d.1, d.2) g.1

padded_same : (bits : ℕ) (x : List ℕ) → length x ≡ octets_for bits → DataPaddingZero bits x → padded bits x ≡ x
padded_same bits x l z =
    let k = bits / 8 in
    let r = bits % 8 in
    let o = get_or x k 0 in
    let last = take k x ++ high_bits r o ∷ [] in
    ⊎_elim (λ e. cond-true (eqb r 0) x last (eq-eqb r 0 e))
    (λ n.
    let d : o / 2 ^ (8 - r) * 2 ^ (8 - r) + o % 2 ^ (8 - r) ≡ o = div-add-mod' o (2 ^ (8 - r)) in
    let h : high_bits r o ≡ o = omega (arith, d, z n) in
    let w : length x ≡ k + 1 = omega (arith, n) in
    cond-false (eqb r 0) x last (ne_eqb r 0 n)
    ∙ ap (λ (v : ℕ). take k x ++ v ∷ []) h
    ∙ sym (take_more x k 0 (omega arith))
    ∙ take_all (k + 1) x (omega arith))
    (cases_eq r 0)

-- what was accepted has fields in their ranges, and no more than a frame's octets
fields_from : (o : List ℕ) (t : DataType) (n f i p : ℕ) (s : Option ℕ) (x : List ℕ) → ((k : ℕ) → get_or o k 0 < 256) → parsed o ≡ Ok (seen.user_data t n f i s p x) → (n < 16) × (f < 4) × (i < 64) × (length o ≤ 512)
fields_from o Checked n f i p s x by e = search rules
fields_from o Plain n f i p s x by e = search rules

abbrev Fields : List ℕ → (n f i : ℕ) → Type 0
Fields o n f i = (n < 16) × (f < 4) × (i < 64) × (length o ≤ 512)

fields_told : (o : List ℕ) (c : Contents) (t : DataType) (n f i : ℕ) (x : List ℕ) → ((k : ℕ) → get_or o k 0 < 256) → parsed o ≡ Ok c → heard c ≡ Ok (user t n f i x) → Fields o n f i
fields_told o (seen.user_data u m g j s p y) t n f i x by e h =
    let w = mapped_from (λ (z : Unit {0}). user u m g j y) (summed s y) (user t n f i x) h in
    let a : m ≡ n = cc w.2 in
    let b : g ≡ f = cc w.2 in
    let c : j ≡ i = cc w.2 in
    let d = fields_from o u m g j p s y by e in
    (omega arith, omega arith, omega arith, d.3)
fields_told o (seen.question m v Initialisation s p y) t n f i x by e h =
    let w = opened_from v s y (Ok (link m y)) (user t n f i x) h in
    absurd (let z : ◌≡◌ {A = ℕ} 0 1 = cc w.2 in omega arith)
fields_told o (seen.question m v RateControl s p y) t n f i x by e h =
    let w = mapped_from (rate m) (rate_in v s y) (user t n f i x) h in
    absurd (let z : ◌≡◌ {A = ℕ} 0 1 = cc w.2 in omega arith)
fields_told o (seen.question m v TimeAlignment s p y) t n f i x by e h =
    let w = mapped_from (alignment m) (alignment_in v s y) (user t n f i x) h in
    absurd (let z : ◌≡◌ {A = ℕ} 0 1 = cc w.2 in omega arith)
fields_told o (seen.question m v ErrorEvent s p y) t n f i x by e h =
    let w = mapped_from (λ (d : Event). event m d.distance d.cause) (event_in v s y) (user t n f i x) h in
    absurd (let z : ◌≡◌ {A = ℕ} 0 1 = cc w.2 in omega arith)
fields_told o (seen.ack m v q p y) t n f i x by e h =
    let w = mapped_from (λ (z : Unit {0}). ack q m) (ack_in v y) (user t n f i x) h in
    absurd (let z : ◌≡◌ {A = ℕ} 0 1 = cc w.2 in omega arith)
fields_told o (seen.nack m v q p y) t n f i x by e h =
    let w = mapped_from (nack q m) (nack_in v y) (user t n f i x) h in
    absurd (let z : ◌≡◌ {A = ℕ} 0 1 = cc w.2 in omega arith)

fields_of_user : (o : List ℕ) (r : Result Contents Refusal) (t : DataType) (n f i : ℕ) (x : List ℕ) → ((k : ℕ) → get_or o k 0 < 256) → parsed o ≡ r → read_on r ≡ Ok (user t n f i x) → Fields o n f i
fields_of_user o (Ok c) t n f i x by e h = fields_told o c t n f i x by e h
fields_of_user o (Err r) t n f i x by e h = absurd (let z : ◌≡◌ {A = ℕ} 0 1 = cc in omega arith)

built_of : (o : List ℕ) (t : DataType) (n f i bits : ℕ) (x : List ℕ) → Fields o n f i → length x ≡ octets_for bits → user_frame t n f i x ≡ o → padded bits x ≡ x → user_data t n f i bits x ≡ Ok o
built_of o t n f i bits x h l e p =
    let c : length (user_frame t n f i x) ≤ 512 = subst (λ (y : List ℕ). length y ≤ 512) (sym e) h.3 in
    simp p (grind (arith, nat_tests))

pub data_is_built : DataIsBuilt
data_is_built o t n f i bits x by h y l z =
    built_of o t n f i bits x (fields_of_user o (parsed o) t n f i x by refl h) l (read_is_built o (user t n f i x) by h y) (padded_same bits x l z)
