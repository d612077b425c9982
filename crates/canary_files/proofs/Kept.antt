-- What is made if a limit is kept.
use Rattle.std.proofs.Common.{◌≡◌, Bool, true, false, Some, IsTrue, refl, sym, ap, true≢false}
use Rattle.std.proofs.Props.{props}
use Rattle.canary_canonical.specs.Forms.{where_kept}

-- a test has one proof, so it is made by any
pub made_where_kept : {A : Type 0} (limit : Bool) (make : IsTrue limit → A) (kept : IsTrue limit) → Some (make kept) ≡ where_kept limit make
made_where_kept true make kept = let one : IsProp (IsTrue true) = hlevel props in ap (λ h. Some (make h)) (one kept refl)
made_where_kept false make kept = absurd (true≢false (sym kept))
