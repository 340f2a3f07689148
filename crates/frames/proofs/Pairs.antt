-- Steps of the loops over parts and pairs of hexadecimal digits.
use Rattle.std.proofs.Common.{◌≡◌, ℕ, ◌+◌, ◌*◌, ◌/◌, ◌<◌, ◌≤◌, true, ◌&&◌, List, [], ◌∷◌, ◌++◌, length, take, drop, get_or, zero, suc, refl, ap, ◌∙◌, sym, arith, slice_index}
use Rattle.std.proofs.lemmas.Bool.{and_parts}
use Rattle.std.proofs.lemmas.List.{append_assoc, append-nil, drop-drop, length-append, length-drop, length-take-le, take-append-drop}
use Rattle.std.proofs.lemmas.List.Folds.{list_all-append}
use Rattle.std.specs.Simd.{first_chunks}
use Rattle.frames.specs.Hex.{is_digit, value_of, all_digits, octets_in}

-- a pair of digits, and those after it
pub record Pair (p r : List ℕ) : Type 0 where
  pub high : is_digit (slice_index p 0) ≡ true
  pub low : is_digit (slice_index p 1) ≡ true
  pub left : all_digits r ≡ true
  pub octets : octets_in (p ++ r) ≡ (value_of (slice_index p 0) * 16 + value_of (slice_index p 1)) ∷ octets_in r

pair : (p r : List ℕ) → length p ≡ 2 → all_digits (p ++ r) ≡ true → Pair p r
unfolding octets_in
pair [] r h e = absurd (omega arith)
pair (a ∷ []) r h e = absurd (omega arith)
pair (a ∷ b ∷ []) r h e =
    let x = and_parts (is_digit a) (is_digit b && all_digits r) e in
    let y = and_parts (is_digit b) (all_digits r) x.1 in
    record { high = x.0; low = y.0; left = y.1; octets = refl }
pair (a ∷ b ∷ c ∷ q) r h e = absurd (omega arith)

single : (r : List ℕ) → length r < 2 → octets_in r ≡ []
unfolding octets_in
single [] h = refl
single (a ∷ []) h = refl
single (a ∷ b ∷ r) h = absurd (omega arith)

-- the octets that were read, and then those of the digits left
pub record Reading (cs rest octets : List ℕ) : Type 0 where
  pub left : all_digits rest ≡ true
  pub whole : octets ++ octets_in rest ≡ octets_in cs

-- what a pair taken from the digits left tells
pub taken : (cs all p r octets : List ℕ) → all ≡ p ++ r → length p ≡ 2 → Reading cs all octets → Pair p r
taken cs all p r octets e h w = pair p r h (let l = w.left in cc)

-- what is left from a place on: the part there, and what follows it
pub record At (n : ℕ) (cs p : List ℕ) (i : ℕ) : Type 0 where
  pub whole : length p ≡ n
  pub is : drop (n * i) cs ≡ p ++ drop (n * (i + 1)) cs

chunk_at : (n k i : ℕ) (xs d : List ℕ) → i < k → get_or (first_chunks n k xs) i d ≡ take n (drop (n * i) xs)
chunk_at n zero i xs d h = absurd (omega arith)
chunk_at n (suc k) zero xs d h =
    let e : n * 0 ≡ 0 = omega arith in
    rw (e) refl
chunk_at n (suc k) (suc i) xs d h =
    let e : n + n * i ≡ n * suc i = omega arith in
    chunk_at n k i (drop n xs) d (omega arith) ∙ ap (take n) (drop-drop (n * i) n xs ∙ ap (λ (m : ℕ). drop m xs) e)

pub part_at : (n k : ℕ) (cs d : List ℕ) (parts : List (List ℕ)) (i : ℕ) → parts ≡ first_chunks n k cs → i < k → n * i + n ≤ length cs → At n cs (get_or parts i d) i
part_at n k cs d parts i e h f =
    let q = ap (λ (ps : List (List ℕ)). get_or ps i d) e ∙ chunk_at n k i cs d h in
    let s : n * i + n ≡ n * (i + 1) = omega arith in
    let l = length-drop (n * i) cs in
    record {
      whole = ap length q ∙ length-take-le n (drop (n * i) cs) (omega arith);
      is = sym (take-append-drop n (drop (n * i) cs)) ∙ ap (λ (t : List ℕ). t ++ drop n (drop (n * i) cs)) (sym q)
          ∙ ap (λ (t : List ℕ). get_or parts i d ++ t) (drop-drop n (n * i) cs ∙ ap (λ (m : ℕ). drop m cs) s);
    }

-- all are digits where those of a part are, and those after it
pub parted : (n : ℕ) (cs p : List ℕ) (i : ℕ) → At n cs p i → all_digits (drop (n * i) cs) ≡ (all_digits p && all_digits (drop (n * (i + 1)) cs))
parted n cs p i a = ap all_digits a.is ∙ list_all-append is_digit p (drop (n * (i + 1)) cs)

pub step : (cs all p r octets new : List ℕ) → all ≡ p ++ r → length p ≡ 2 → new ≡ octets ++ (value_of (slice_index p 0) * 16 + value_of (slice_index p 1)) ∷ [] → Reading cs all octets → Reading cs r new
step cs all p r octets new e h n w =
    let s = taken cs all p r octets e h w in
    let a = append_assoc octets ((value_of (slice_index p 0) * 16 + value_of (slice_index p 1)) ∷ []) (octets_in r) in
    let t = s.octets in
    let x = w.whole in
    record { left = s.left; whole = cc }

-- two digits an octet
pub count : (cs : List ℕ) → length (octets_in cs) ≡ length cs / 2
unfolding octets_in
count [] = refl
count (a ∷ []) = refl
count (a ∷ b ∷ cs) = omega (arith, count cs)

-- where digits are left, their octet has room
pub room : (cs all p r octets : List ℕ) → all ≡ p ++ r → length p ≡ 2 → length cs / 2 ≤ 512 → Reading cs all octets → length octets < 512
room cs all p r octets e h f w =
    let s = taken cs all p r octets e h w in
    let n : length octets + length (octets_in all) ≡ length (octets_in cs) = sym (length-append octets (octets_in all)) ∙ ap length w.whole in
    let m : length (octets_in all) ≡ length (octets_in r) + 1 = ap (λ (x : List ℕ). length (octets_in x)) e ∙ ap length s.octets ∙ omega arith in
    let c = count cs in
    omega arith

pub done : (cs r octets : List ℕ) → length r < 2 → Reading cs r octets → octets ≡ octets_in cs
done cs r octets h w = sym (append-nil octets) ∙ ap (λ (t : List ℕ). octets ++ t) (sym (single r h)) ∙ w.whole
