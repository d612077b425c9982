-- What a scan for one field's values found.
use Rattle.std.specs.Prelude.{◌≡◌, ℕ, ◌<◌, ◌≤◌, List, [], ◌∷◌, length}
use Rattle.httparse.specs.Spans.{span_bytes}
use Rattle.canary_wire.specs.declared.framing.FramingFields.{FramingFields}
use Rattle.canary_wire.specs.declared.framing.FramingFields.TheVariants.{Zero, One, Many}

abbrev pub Shows : List ℕ → FramingFields → List (List ℕ) → Type 0
Shows buf Zero values = values ≡ []
Shows buf (One s) values =
    (values ≡ span_bytes buf s ∷ []) × (s.start ≤ s.end) × (s.end ≤ length buf)
Shows buf Many values = 1 < length values

-- a span that is there lies in the buffer
abbrev pub IsShown : List ℕ → FramingFields → Type 0
IsShown buf Zero = Unit {0}
IsShown buf (One s) = (s.start ≤ s.end) × (s.end ≤ length buf)
IsShown buf Many = Unit {0}
