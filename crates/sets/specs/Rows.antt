-- Combinations as rows, and what holds of the rows of a set.
use Rattle.std.specs.Prelude.{◌≡◌, ℕ, suc, zero, ◌≤◌, Bool, true, cond, not, ◌&&◌, List, [], ◌∷◌, length, ◌==◌, nat_le}
use Rattle.std.specs.List.{list_all, sum}

-- a combination: its RFCI, its IPTI, the size of each subflow in bits, and whether it is allowed
pub record Row : Type 0 where
  pub rfci : ℕ
  pub ipti : ℕ
  pub sizes : List ℕ
  pub allowed : Bool

-- what stands in a table behind the last row
abbrev pub blank : Row
blank = record { rfci = 0; ipti = 0; sizes = []; allowed = true }

-- the row that is entered is allowed
abbrev pub entered : ℕ → ℕ → List ℕ → Row
entered rfci ipti sizes = record { rfci = rfci; ipti = ipti; sizes = sizes; allowed = true }

abbrev pub allowed_as : Bool → Row → Row
allowed_as b r = record { rfci = r.rfci; ipti = r.ipti; sizes = r.sizes; allowed = b }

-- the rows, with the one at this place allowed or barred
unfoldable pub marked_at : ℕ → Bool → List Row → List Row
marked_at i b [] = []
marked_at zero b (r ∷ rs) = allowed_as b r ∷ rs
marked_at (suc i) b (r ∷ rs) = r ∷ marked_at i b rs

-- the bits of all sizes
unfoldable pub bits : List ℕ → ℕ
bits ss = sum ss

-- no row has this RFCI
unfoldable pub fresh : ℕ → List Row → Bool
fresh n rs = list_all (λ r. not (r.rfci == n)) rs

-- a row that a set of n subflows may have: n sizes, an IPTI of 0 to 15 (0 without TI), at most 4,000 bits, an RFCI of 0 to 62
unfoldable pub fits : ℕ → Bool → Row → Bool
fits n ti r = length r.sizes == n && (nat_le r.ipti (cond ti 15 0) && (nat_le (bits r.sizes) 4000 && nat_le r.rfci 62))

-- rows that a set may have: each fits, and no two have one RFCI
unfoldable pub sound : ℕ → Bool → List Row → Bool
sound n ti [] = true
sound n ti (r ∷ rs) = fits n ti r && (fresh r.rfci rs && sound n ti rs)

-- every row is allowed
unfoldable pub free : List Row → Bool
free rs = list_all (λ r. r.allowed) rs

-- what holds of a set: N 1 to 7, 1 to 32 rows, and they are sound
pub record Sound (n : ℕ) (ti : Bool) (rs : List Row) : Type 0 where
  pub some : 1 ≤ n
  pub few : n ≤ 7
  pub rows : 1 ≤ length rs
  pub room : length rs ≤ 32
  pub sound : sound n ti rs ≡ true
