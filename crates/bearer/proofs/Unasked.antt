-- Error events and user data are no questions of a procedure.
use Rattle.std.proofs.Common.{◌≡◌, ℕ, ◌+◌, ◌*◌, ◌/◌, ◌%◌, ◌≤◌, false, cond, ◌&&◌, eqb, ltb, leb, List, [], ◌∷◌, length, Some, None, Ok, Err, Option, Result, refl, ap, arith, ne_eqb, leb-true}
use Rattle.std.proofs.lemmas.Bool.{and_parts, and_right, cond_both}
use Rattle.frames.specs.declared.refusal.Refusal.{Refusal}
use Rattle.frames.specs.declared.data_type.DataType.{DataType}
use Rattle.frames.specs.declared.data_type.DataType.TheVariants.{Checked, Plain}
use Rattle.frames.specs.Extent.{octets_for}
use Rattle.frames.specs.Frame.{longest}
use Rattle.building.specs.Building.{error_frame}
use Rattle.building.specs.UserData.{user_frame, user_data, padded}
use Rattle.set_in_force.specs.declared.place.Found.{Found}
use Rattle.reports.specs.declared.ending.Kind.{Kind}
use Rattle.reports.specs.declared.ending.Kind.TheVariants.{Initialisation, RateControl, TimeAlignment, HostQuestion}
use Rattle.exchange.specs.Books.{Mark, asked, procedure_of, question}
use Rattle.bearer.specs.Bearing.{Force}
use Rattle.bearer.specs.Traffics.{framed_as}

strange : (n : ℕ) → cond {A = List Mark} (eqb ((224 + n) / 4) 56 && false) (asked ((224 + n) % 4) ∷ []) [] ≡ []
strange n = ap (λ x. cond {A = List Mark} x (asked ((224 + n) % 4) ∷ []) []) (and_right (eqb ((224 + n) / 4) 56) false refl)

pub no_question : (k : Kind) (n d c : ℕ) → question k (error_frame n d c) ≡ []
no_question Initialisation n d c = strange n
no_question RateControl n d c = strange n
no_question TimeAlignment n d c = strange n
no_question HostQuestion n d c = strange n

-- neither is user data
abbrev pub Bland : Result (List ℕ) Refusal → Type 0
Bland (Err e) = Unit {0}
Bland (Ok f) = (k : Kind) → question k f ≡ []

bland_frame : (type : DataType) (number fqc rfci : ℕ) (payload : List ℕ) → number ≤ 15 → (k : Kind) → question k (user_frame type number fqc rfci payload) ≡ []
bland_frame Checked number fqc rfci payload low k =
    let head : eqb (number / 4) 56 ≡ false = ne_eqb (number / 4) 56 (omega arith) in
    ap (λ x. cond {A = List Mark} (x && eqb ((fqc * 64 + rfci) % 16) (procedure_of k)) (asked (number % 4) ∷ []) []) head
bland_frame Plain number fqc rfci payload low k =
    let head : eqb ((16 + number) / 4) 56 ≡ false = ne_eqb ((16 + number) / 4) 56 (omega arith) in
    ap (λ x. cond {A = List Mark} (x && eqb ((fqc * 64 + rfci) % 16) (procedure_of k)) (asked ((16 + number) % 4) ∷ []) []) head

bland_data : (type : DataType) (number fqc rfci bits : ℕ) (payload : List ℕ) → Bland (user_data type number fqc rfci bits payload)
bland_data type number fqc rfci bits payload =
    cond_both (eqb (length payload) (octets_for bits)) _ _ Bland
    (λ _. cond_both (leb number 15 && leb fqc 3 && leb rfci 63) _ _ Bland
    (λ e. cond_both (ltb longest (length (user_frame type number fqc rfci (padded bits payload)))) _ _ Bland (λ _. tt) (λ _. bland_frame type number fqc rfci (padded bits payload) (leb-true number 15 (and_parts (leb number 15) (leb fqc 3) (and_parts (leb number 15 && leb fqc 3) (leb rfci 63) e).0).0)))
    (λ _. tt))
    (λ _. tt)

pub bland_as : (rfci fqc : ℕ) (payload : List ℕ) (x : Force) (o : Option Found) → Bland (framed_as rfci fqc payload x o)
bland_as rfci fqc payload x None = tt
bland_as rfci fqc payload x (Some c) = cond_both c.allowed _ _ Bland (λ _. bland_data x.set.opening.data_type x.sending fqc rfci c.bits payload) (λ _. tt)
