-- The record of what was asked of a store.
use Rattle.std.specs.Prelude.{List, [], ◌∷◌, ◌++◌, Some, None, Option}

-- it grows by each change, where the store keeps one
abbrev pub noted : {A : Type 0} → A → Option (List A) → Option (List A)
noted c None = None
noted c (Some cs) = Some (cs ++ (c ∷ []))
