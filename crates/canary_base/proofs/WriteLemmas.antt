-- Writes, one after another.
use Rattle.std.proofs.Common.{◌≡◌, ℕ, List, [], ◌++◌, take, drop, sym, ap, ◌∙◌, subst, arith}
use Rattle.std.specs.Prelude.{Option, Some, None, Result, Ok, Err}
use Rattle.std.specs.Io.KnownBytes.{Appends}
use Rattle.std.proofs.lemmas.List.{append-nil, append_assoc, take-append-drop, length-append}
use Rattle.canary_base.specs.Writes.{Writes}

pub appends_more : (a b c : Option (List ℕ)) (x y : List ℕ) → Appends a b x → Appends b c y → Appends a c (x ++ y)
appends_more None b c x y p q = tt
appends_more (Some u) None c x y p q = absurd p
appends_more (Some u) (Some v) None x y p q = absurd q
appends_more (Some u) (Some v) (Some w) x y p q = q ∙ ap (λ t. t ++ y) p ∙ append_assoc u x y

pub appends_none : (a : Option (List ℕ)) → Appends a a []
appends_none None = tt
appends_none (Some u) = sym (append-nil u)

-- one write of a text that goes on
pub write_step : (a b c : Option (List ℕ)) (text front rest : List ℕ) (n : ℕ) → text ≡ front ++ rest → Appends a b front → Appends b c (take n rest)
    → (f : List ℕ) × (text ≡ f ++ drop n rest) × Appends a c f
write_step a b c text front rest n e p q = (
  front ++ take n rest,
  e ∙ ap (λ t. front ++ t) (sym (take-append-drop n rest)) ∙ sym (append_assoc front (take n rest) (drop n rest)),
  appends_more a b c front (take n rest) p q,
)

-- a text went out whole, and then a part of another
pub writes_then : {E : Type 0} (a b c : Option (List ℕ)) (x y : List ℕ) (r : Result (Unit {0}) E) → Appends a b x → Writes b c y r → Writes a c (x ++ y) r
writes_then a b c x y r p w = record {
  front = x ++ w.front;
  back = w.back;
  parts = ap (λ t. x ++ t) w.parts ∙ sym (append_assoc x w.front w.back);
  written = appends_more a b c x w.front p w.written;
  all = w.all;
  short = w.short;
}

-- a text that went out whole
pub writes_all : {E : Type 0} (a b : Option (List ℕ)) (x : List ℕ) → Writes {E = E} a b x (Ok tt) → Appends a b x
writes_all a b x w =
    let e : w.front ≡ x = sym (append-nil w.front) ∙ ap (λ t. w.front ++ t) (sym w.all) ∙ sym w.parts in
    let P : List ℕ → Type 0 = λ t. Appends a b t in subst P e w.written

-- more that would have followed
pub writes_front : {E : Type 0} (a b : Option (List ℕ)) (x y : List ℕ) (e : E) → Writes a b x (Err e) → Writes a b (x ++ y) (Err e)
writes_front a b x y e w = record {
  front = w.front;
  back = w.back ++ y;
  parts = ap (λ t. t ++ y) w.parts ∙ append_assoc w.front w.back y;
  written = w.written;
  all = tt;
  short = rw (length-append w.back y) (omega (arith, w.short));
}
