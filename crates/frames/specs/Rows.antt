-- A row by value, made item by item.
use Rattle.std.specs.Prelude.{ℕ, cond, List, [], ◌∷◌, ◌++◌, length, Ok, Err, Result, nat_lt}
use Rattle.frames.specs.declared.refusal.Refusal.{Refusal}
use Rattle.frames.specs.declared.refusal.Refusal.TheVariants.{TooLong}

-- the items, if a row has room for them
abbrev pub fitting : {A : Type 0} → ℕ → List A → Result (List A) Refusal
fitting most items = cond (nat_lt most (length items)) (Err TooLong) (Ok items)

-- whether one item more finds room
abbrev pub push_answer : {A : Type 0} → ℕ → List A → Result (Unit {0}) Refusal
push_answer most items = cond (nat_lt (length items) most) (Ok tt) (Err TooLong)

-- one item more, where there is room
abbrev pub pushed : {A : Type 0} → ℕ → A → List A → List A
pushed most item items = cond (nat_lt (length items) most) (items ++ item ∷ []) items
