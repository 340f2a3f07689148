-- The combinations of a link, added to those held by the rules of a draft.
use Rattle.std.specs.Prelude.{ℕ, Bool, List, [], ◌∷◌, ◌++◌, Some, None, Ok, Err, Option, Result}
use Rattle.frames.specs.declared.refusal.Refusal.{Refusal}
use Rattle.sets.specs.Rows.{Row}
use Rattle.sets.specs.Drafts.{admitted}

-- rows added one by one to those held; none where a draft would refuse one
unfoldable pub add_all : ℕ → Bool → List Row → List Row → Option (List Row)
add_all n ti held [] = Some held
add_all n ti held (r ∷ rs) = elim (admitted n ti held r) [ Ok _ ↦ add_all n ti (held ++ r ∷ []) rs | Err _ ↦ None ]

-- the rows after all were added; none where one was refused
abbrev pub kept : Result Unit Refusal → List Row → Option (List Row)
kept (Ok _) rs = Some rs
kept (Err _) rs = None
