-- A line that comes byte by byte, over plain lists.
use Rattle.std.proofs.Common.{◌≡◌, ℕ, ◌+◌, ◌-◌, ◌*◌, ◌/◌, ◌%◌, Bool, true, false, cond, ◌&&◌, ◌==◌, nat_lt, List, [], ◌∷◌, ◌++◌, length, take, Ok, Err, Result, Some, None, refl, ap, ◌∙◌, arith, slice_index}
use Rattle.std.proofs.lemmas.List.{take_all, length_push, append_assoc, length-append, length-take-le}
use Rattle.std.proofs.lemmas.List.Folds.{list_all-append}
use Rattle.std.proofs.lemmas.Grind.{take_at_read}
use Rattle.std.proofs.lemmas.Bool.Decides.{nat_tests}
use Rattle.frames.specs.declared.refusal.Refusal.{Refusal}
use Rattle.frames.specs.declared.refusal.Refusal.TheVariants.{TooLong, Hexadecimal}
use Rattle.frames.specs.Hex.{is_digit, value_of, all_digits, octets_in, hex_in, pair_in}
use Rattle.frames.proofs.Pairs.{count}
use Rattle.showing.specs.Shown.{joined, whole, single, gathered}

-- one pair more
octets_more : (cs : List ℕ) (a b : ℕ) → length cs % 2 ≡ 0 → octets_in (cs ++ a ∷ b ∷ []) ≡ octets_in cs ++ (value_of a * 16 + value_of b) ∷ []
unfolding octets_in
octets_more [] a b h = refl
octets_more (c ∷ []) a b h = absurd (omega arith)
octets_more (c ∷ d ∷ cs) a b h = ap (λ (t : List ℕ). (value_of c * 16 + value_of d) ∷ t) (octets_more cs a b (omega arith))

-- what a test of all digits, of their count and of the octets answers
abbrev answer : Bool → ℕ → List ℕ → Result (List ℕ) Refusal
answer d n os = cond (d && n % 2 == 0) (cond (nat_lt 512 (n / 2)) (Err TooLong) (Ok os)) (Err Hexadecimal)

answer_even : (n : ℕ) (os : List ℕ) → n % 2 ≡ 0 → answer true n os ≡ cond (nat_lt 512 (n / 2)) (Err TooLong) (Ok os)
answer_even n os h = grind (arith, nat_tests)

room : (t : Bool) (os : List ℕ) (v m : ℕ) → length os ≡ m → nat_lt 512 m ≡ t → cond (nat_lt 512 (m + 1)) (Err TooLong) (Ok (os ++ v ∷ [])) ≡ joined (cond (nat_lt 512 m) (Err TooLong) (Ok os)) (Ok v)
room true os v m l h =
    let k : nat_lt 512 (m + 1) ≡ true = grind (arith, nat_tests) in
    rw (k, h) refl
room false os v m l h =
    let k : length (os ++ v ∷ []) ≡ m + 1 = length_push os v ∙ ap (λ (i : ℕ). i + 1) l in
    rw (h, k) refl

joins : (d x y : Bool) (os : List ℕ) (v n : ℕ) → n % 2 ≡ 0 → length os ≡ n / 2 → answer (d && (x && (y && true))) (n + 2) (os ++ v ∷ []) ≡ joined (answer d n os) (cond (x && y) (Ok v) (Err Hexadecimal))
joins true true true os v n e l =
    let a = answer_even (n + 2) (os ++ v ∷ []) (omega arith) in
    let b = answer_even n os e in
    let m : (n + 2) / 2 ≡ n / 2 + 1 = omega arith in
    rw (a, b, m) (room (nat_lt 512 (n / 2)) os v (n / 2) l refl)
joins true true false os v n e l = refl
joins true false y os v n e l = refl
joins false true true os v n e l = refl
joins false true false os v n e l = refl
joins false false y os v n e l = refl

hex_more : (cs : List ℕ) (a b : ℕ) → length cs % 2 ≡ 0 → hex_in (cs ++ a ∷ b ∷ []) ≡ joined (hex_in cs) (pair_in a b)
hex_more cs a b h =
    let o = octets_more cs a b h in
    let l : length (cs ++ a ∷ b ∷ []) ≡ length cs + 2 = length-append cs (a ∷ b ∷ []) in
    let d = list_all-append is_digit cs (a ∷ b ∷ []) in
    rw (o, l, d) (joins (all_digits cs) (is_digit a) (is_digit b) (octets_in cs) (value_of a * 16 + value_of b) (length cs) h (count cs))

told : (t : Bool) (x a : ℕ) → cond t None (Some x) ≡ Some a → (t ≡ false) × (a ≡ x)
told true x a e = absurd (cc)
told false x a e = (refl, cc)

odd_of : (line : List ℕ) (a : ℕ) → single line ≡ Some a → (length line % 2 ≡ 1) × (a ≡ slice_index line (length line - 1))
odd_of line a e =
    let t = told (length line % 2 == 0) (slice_index line (length line - 1)) a e in
    (let h : (length line % 2 == 0) ≡ false = t.0 in grind (arith, nat_tests), t.1)

whole_even : (line : List ℕ) → length line % 2 ≡ 0 → whole line ≡ line
whole_even line h = take_all (length line - length line % 2) line (omega arith)

-- the second byte of a pair
pub second : (line : List ℕ) (a b : ℕ) → single line ≡ Some a → gathered (line ++ b ∷ []) ≡ record { frame = joined (hex_in (whole line)) (pair_in a b); first = None }
second line a b e =
    let o = odd_of line a e in
    let q : length line % 2 ≡ 1 = o.0 in
    let k = length line - 1 in
    let u : k + 1 ≡ length line = omega arith in
    let t = (take_at_read line k 0 (omega arith)).1 in
    let l : take (length line) line ≡ line = take_all (length line) line (omega arith) in
    let w : whole line ≡ take k line = ap (λ (i : ℕ). take i line) (omega arith) in
    let x = o.1 in
    let c : line ≡ whole line ++ a ∷ [] = cc in
    let s : line ++ b ∷ [] ≡ whole line ++ a ∷ b ∷ [] = ap (λ (y : List ℕ). y ++ b ∷ []) c ∙ append_assoc (whole line) (a ∷ []) (b ∷ []) in
    let n : length (line ++ b ∷ []) ≡ length line + 1 = length_push line b in
    let z : whole (line ++ b ∷ []) ≡ line ++ b ∷ [] = whole_even (line ++ b ∷ []) (omega arith) in
    let v : length (whole line) ≡ k = ap length w ∙ length-take-le k line (omega arith) in
    let f : hex_in (whole (line ++ b ∷ [])) ≡ joined (hex_in (whole line)) (pair_in a b) = ap hex_in (z ∙ s) ∙ hex_more (whole line) a b (omega arith) in
    let g : (length (line ++ b ∷ []) % 2 == 0) ≡ true = grind (arith, nat_tests) in
    let i : single (line ++ b ∷ []) ≡ None = rw g refl in
    rw (f, i) refl
