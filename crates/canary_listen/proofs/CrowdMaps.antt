-- A map of clients that changes at one number.
use Rattle.std.proofs.Common.{◌≡◌, ◌≢◌, ℕ, inl, inr, true, false, refl, sym, ap, ◌∙◌, subst}
use Rattle.std.specs.Prelude.{Option, None, Some, option_map, unwrap_or, IsSome, IfSome, length}
use Rattle.std.specs.Ordering.{nat_cmp}
use Rattle.std.specs.BTreeMap.{BTreeMap, is_at, get, Updates, WritesThrough}
use Rattle.std.specs.Cmp.{unsigned_tied}
use Rattle.std.specs.Map.{lookup}
use Rattle.std.proofs.lemmas.Bool.Decides.{eqb_tells}
use Rattle.canary_wire.specs.Conversing.{Talk, begun}
use Rattle.canary_wire.specs.Crowds.{Crowd, Becomes}
use Rattle.canary_listen.specs.declared.client.Client.{Client}
use Rattle.canary_listen.specs.Attending.{attendance}
use Rattle.canary_listen.specs.Crowd.{client_talk, owed_to}

abbrev pub Map : Type 0
Map = BTreeMap ℕ Client

abbrev pub crowd_in : Map → Crowd
crowd_in m = λ client. option_map client_talk (get nat_cmp m client)

is_apart : (k q : ℕ) → q ≢ k → is_at (nat_cmp k) q ≡ false
is_apart k q d = unsigned_tied k q ∙ elim (eqb_tells k q) [ inl h ↦ absurd (d (sym h.1)) | inr h ↦ h.0 ]

pub updated : (m n : Map) (k : ℕ) (w : Option Client) → Updates nat_cmp m n k w → Becomes (crowd_in m) (crowd_in n) k (option_map client_talk w)
updated m n k w u = record {
  changed = ap (option_map client_talk) u.1;
  others = λ other d. ap (option_map client_talk) (u.2 other (is_apart k other d));
}

-- a client was written to
pub written : (m n : Map) (k : ℕ) (old new : Client) → Some old ≡ get nat_cmp m k → WritesThrough nat_cmp (nat_cmp k) m new n → Becomes (crowd_in m) (crowd_in n) k (Some (client_talk new))
written m n k old new there w = updated m n k (Some new) (w.3 (subst IsSome there refl))

pub there_is : (m : Map) (k : ℕ) (c : Client) → Some c ≡ get nat_cmp m k → crowd_in m k ≡ Some (client_talk c)
there_is m k c e = ap (option_map client_talk) (sym e)

-- a map as it was
pub unchanged : (m n : Map) (next : ℕ) → n.entries ≡ m.entries → attendance (crowd_in m) next ≡ attendance (crowd_in n) next
unchanged m n next e = λ i. attendance (λ client. option_map client_talk (lookup (is_at (nat_cmp client)) (sym e i))) next

-- the same conversations
pub alike : (a b : Crowd) (next : ℕ) → ((client : ℕ) → b client ≡ a client) → attendance a next ≡ attendance b next
alike a b next e = λ i. attendance (λ client. sym (e client) i) next

-- a client was written to, and its conversation stays as it was
pub written_same : (m n : Map) (k : ℕ) (old new : Client) → Some old ≡ get nat_cmp m k → client_talk new ≡ client_talk old → WritesThrough nat_cmp (nat_cmp k) m new n
    → (client : ℕ) → crowd_in n client ≡ crowd_in m client
written_same m n k old new there same w client =
    let becomes = written m n k old new there w in
    elim (eqb_tells client k) [
      | inl h ↦ ap (crowd_in n) h.1 ∙ becomes.changed ∙ ap Some same ∙ sym (there_is m k old there) ∙ ap (crowd_in m) (sym h.1)
      | inr h ↦ becomes.others client h.1
    ]

-- a new client
pub comes_in : (m n : Map) (k : ℕ) (c : Client) → client_talk c ≡ begun → Updates nat_cmp m n k (Some c) → Becomes (crowd_in m) (crowd_in n) k (Some begun)
comes_in m n k c e u = subst (λ (t : Talk). Becomes (crowd_in m) (crowd_in n) k (Some t)) e (updated m n k (Some c) u)

-- a client was written to that is reported
pub written_reported : (m n : Map) (k : ℕ) (old new : Client) → Some old ≡ get nat_cmp m k → new.is_reported ≡ true → WritesThrough nat_cmp (nat_cmp k) m new n
    → IfSome (get nat_cmp n k) (λ x. x.is_reported ≡ true)
written_reported m n k old new there is w =
    let P : Option Client → Type 0 = λ o. IfSome o (λ x. x.is_reported ≡ true) in
    let u = w.3 (subst IsSome there refl) in
    subst P (sym u.1) is

-- none was left there
pub none_reported : (m : Map) (k : ℕ) → get nat_cmp m k ≡ None → IfSome (get nat_cmp m k) (λ x. x.is_reported ≡ true)
none_reported m k gone =
    let P : Option Client → Type 0 = λ o. IfSome o (λ x. x.is_reported ≡ true) in
    subst P (sym gone) tt

-- ---- what is owed

-- a client that is there is owed what its conversation owes
pub owed_there : (crowd : Crowd) (k : ℕ) (t : Talk) → crowd k ≡ Some t → length t.unsent ≡ owed_to crowd k
owed_there crowd k t e = ap (λ (o : Option Talk). unwrap_or (option_map (λ (x : Talk). length x.unsent) o) 0) (sym e)
