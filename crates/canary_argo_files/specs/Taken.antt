-- Which of the manifests that are made a desk takes.
use Rattle.std.specs.Prelude.{Bool, List, [], ◌∷◌, string_bytes}
use Rattle.std.specs.List.{list_all}
use Rattle.canary_check.specs.Taken.{is_taken, Known}
use Rattle.canary_check.specs.Attempts.{with_template, is_bound}
use Rattle.canary_convert.specs.declared.work.Made.{Made}

-- each of them, by the contract of canary_check
abbrev pub are_taken : List Made → Bool
are_taken made = list_all (λ m. is_taken (string_bytes m.json)) made

-- these templates, and that of the manifest, if a desk takes it
unfoldable pub with_made : Known → Made → Known
with_made known m = with_template known (string_bytes m.json)

-- the same of each of these manifests
abbrev pub known_of : Known → List Made → Known
known_of known [] = known
known_of known (m ∷ made) = known_of (with_made known m) made

-- a desk with these templates refuses no attempt of the service as it is bound
unfoldable pub is_made_bound : Known → Made → Bool
is_made_bound known m = is_bound known (string_bytes m.json)

-- the same of each of these services
abbrev pub are_bound : Known → List Made → Bool
are_bound known made = list_all (is_made_bound known) made
