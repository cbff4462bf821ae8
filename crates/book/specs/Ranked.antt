-- Items in the order of their merit. Assumes nothing.
use Rattle.std.specs.Prelude.{Bool, cond, List, [], ◌∷◌}

-- x put in its place among items in order
abbrev pub placed : {X : Type 0} → (X → X → Bool) → X → List X → List X
placed before x [] = x ∷ []
placed before x (y ∷ ys) = cond (before x y) (x ∷ y ∷ ys) (y ∷ placed before x ys)

abbrev pub ranked : {X : Type 0} → (X → X → Bool) → List X → List X
ranked before [] = []
ranked before (x ∷ xs) = placed before x (ranked before xs)
