-- Reads, one after another.
use Rattle.std.proofs.Common.{◌≡◌, ℕ, List, [], ◌++◌, refl, sym, ap, ◌∙◌}
use Rattle.std.specs.Prelude.{Option, Some, None}
use Rattle.std.specs.Io.KnownBytes.{Consumes, Keeps}
use Rattle.std.proofs.lemmas.List.{append_assoc}

pub consumes_more : (a b c : Option (List ℕ)) (x y : List ℕ) → Consumes a b x → Consumes b c y → Consumes a c (x ++ y)
consumes_more None b c x y p q = tt
consumes_more (Some u) None c x y p q = absurd p
consumes_more (Some u) (Some v) None x y p q = absurd q
consumes_more (Some u) (Some v) (Some w) x y p q = p ∙ ap (λ t. x ++ t) q ∙ sym (append_assoc x y w)

pub consumes_none : (a : Option (List ℕ)) → Consumes a a []
consumes_none None = tt
consumes_none (Some u) = refl

pub consumes_kept : (a b : Option (List ℕ)) → Keeps a b → Consumes a b []
consumes_kept None b k = tt
consumes_kept (Some u) None k = absurd k
consumes_kept (Some u) (Some v) k = sym k
