-- Texts of addresses.
use Rattle.std.proofs.Common.{◌≡◌, ℕ, ◌<◌, true, false, List, [], ◌∷◌, ◌++◌, Ok, Err, Result, refl, sym, ap, ◌∙◌, subst, inr}
use Rattle.std.specs.Prelude.{Option, None, Some, IfOk}
use Rattle.std.proofs.lemmas.List.{append_assoc}
use Rattle.std.proofs.lemmas.Str.Pattern.{IsSplitOnceResult, split_parts}
use denote.Ref.{Bor}
use Rattle.canary_fetch.specs.declared.address.HostPort.{HostPort}
use Rattle.canary_fetch.specs.declared.address.AddressFault.{AddressFault}
use Rattle.canary_fetch.specs.Addresses.{is_name, is_number, IsPort, IsPortText, IsSite}

pub name_site : (text host behind : List ℕ) (port : ℕ) → text ≡ host ++ behind → is_name host ≡ true → IsPortText behind port → IsSite text host port
name_site text host behind port e is port_text = record { brackets = false; behind = behind; spelled = e; clean = is; ends = port_text }

pub number_site : (text host behind : List ℕ) (port : ℕ) → text ≡ host ++ 93 ∷ behind → is_number host ≡ true → IsPortText behind port → IsSite (91 ∷ text) host port
number_site text host behind port e is port_text = record {
  brackets = true;
  behind = behind;
  spelled = ap (λ (t : List ℕ). 91 ∷ t) (e ∙ sym (append_assoc host (93 ∷ []) behind));
  clean = is;
  ends = port_text;
}

-- what a text is cut into at its first such byte
pub split_at : (c : ℕ) (text : List ℕ) (r : Option (Bor (List ℕ) × Bor (List ℕ))) (a b : Bor (List ℕ)) → IsSplitOnceResult c text r → c < 128 → r ≡ Some (a, b) → text ≡ a.now ++ c ∷ b.now
split_at c text None a b h small e = cc
split_at c text (Some x) a b h small e =
    let same : x ≡ (a, b) = cc in
    subst (λ (y : Bor (List ℕ) × Bor (List ℕ)). text ≡ y.0.now ++ c ∷ y.1.now) same (split_parts c text (Some x) h small).0

-- a site with the port of some digits
pub named_with : (text host digits : List ℕ) (r : Result HostPort AddressFault) → text ≡ host ++ 58 ∷ digits → is_name host ≡ true → IfOk r (λ s. s.host.now ≡ host) → IfOk r (λ s. IsPort digits s.port) → IfOk r (λ s. IsSite text s.host.now s.port)
named_with text host digits (Ok s) e is same port =
    subst (λ (x : List ℕ). IsSite text x s.port) (sym same) (name_site text host (58 ∷ digits) s.port e is (inr (digits, refl, port)))
named_with text host digits (Err f) e is same port = tt

pub numbered_with : (text host rest digits : List ℕ) (r : Result HostPort AddressFault) → text ≡ host ++ 93 ∷ rest → rest ≡ 58 ∷ digits → is_number host ≡ true → IfOk r (λ s. s.host.now ≡ host) → IfOk r (λ s. IsPort digits s.port) → IfOk r (λ s. IsSite (91 ∷ text) s.host.now s.port)
numbered_with text host rest digits (Ok s) e colon is same port =
    subst (λ (x : List ℕ). IsSite (91 ∷ text) x s.port) (sym same) (number_site text host rest s.port e is (inr (digits, colon, port)))
numbered_with text host rest digits (Err f) e colon is same port = tt
