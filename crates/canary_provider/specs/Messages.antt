-- A message to a provider.
use Rattle.std.specs.Prelude.{◌≡◌, ℕ, true, List, [], ◌∷◌, ◌++◌, flat_map}
use Rattle.std.specs.List.{list_all}
use Rattle.canary_provider.specs.Lines.{is_line}
use Rattle.canary_provider.specs.declared.plan.Provider.{Provider}

-- a line with its end
abbrev pub ended : List ℕ → List ℕ
ended line = line ++ 13 ∷ 10 ∷ []

-- the lines of a head, an empty line, and a body
abbrev pub message : List (List ℕ) → List ℕ → List ℕ
message lines body = flat_map ended lines ++ 13 ∷ 10 ∷ body

-- the lines that ask a provider
abbrev pub lines_of : Provider → List (List ℕ)
lines_of p = p.first ∷ p.host ∷ p.fields.items

-- the law: a message is read in one way, so no line has another one in it
abbrev pub OneReading : Type 0
OneReading =
    (lines others : List (List ℕ)) (body other : List ℕ)
    → list_all is_line lines ≡ true → list_all is_line others ≡ true
    → message lines body ≡ message others other → (lines ≡ others) × (body ≡ other)
