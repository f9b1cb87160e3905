-- Who may know what: the order, the listener, the model, and the level of each scalar and each array.
use Rattle.std.specs.Prelude.{ℕ, ◌+◌, ◌-◌, cond, List, [], ◌∷◌, ◌++◌, length, codes, decimal, nat_lt}
use Rattle.texts.specs.Layouts.{times}
use Rattle.settings.specs.declared.model.Layered.{Layered}
use Rattle.settings.specs.Models.{model_words}

-- what start name m is, where there are s scalars
abbrev pub start_name : ℕ → ℕ → List ℕ
start_name s m = cond (nat_lt m s) (codes "scalar " ++ decimal m) (codes "array " ++ decimal (m - s))

-- a start name and the name of its level
abbrev pub level_row : ℕ → ℕ → List ℕ → List ℕ
level_row s m level = start_name s m ++ (times (10 - length (start_name s m)) (codes " ") ++ (level ++ (10 ∷ [])))

module _ {L : Type 0} (named : L → List ℕ) where
  -- names numbered from m on
  abbrev pub level_rows : ℕ → ℕ → List L → List ℕ
  level_rows s m [] = []
  level_rows s m (l ∷ ls) = level_row s m (named l) ++ level_rows s (m + 1) ls

  abbrev pub who_text : List ℕ → Layered → ℕ → List L → L → List ℕ
  who_text order model s levels listener =
      codes "order     " ++ (order ++ (10 ∷ (codes "listener  " ++ (named listener ++ (10 ∷ (codes "model     " ++ (model_words model ++ (10 ∷ (10 ∷ (codes "name      level" ++ (10 ∷ level_rows s 0 levels)))))))))))
