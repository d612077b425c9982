-- How a message is handled, restated.
use Rattle.std.proofs.Common.{◌≡◌, ℕ, Bool, List, ap, ◌∙◌, subst}
use Rattle.std.specs.Prelude.{Result}
use Rattle.canary_wire.specs.declared.reply.Response.{Response}
use Rattle.canary_base.specs.declared.writing.WriteFault.{WriteFault}
use Rattle.canary_wire.specs.ReplyTexts.{reply_text}
use Rattle.canary_base.specs.Writes.{Known, Writes}
use Rattle.canary_wire.specs.Dispositions.{HttpDisposition, IsDisposition}

pub disposition_as : (method method' target target' body body' : List ℕ) (moment : ℕ) (o : HttpDisposition) → method ≡ method' → target ≡ target' → body ≡ body'
    → IsDisposition method target body moment o → IsDisposition method' target' body' moment o
disposition_as method method' target target' body body' moment o em et eb is =
    let P : List ℕ → Type 0 = λ t. IsDisposition t target body moment o in
    let Q : List ℕ → Type 0 = λ t. IsDisposition method' t body moment o in
    let R : List ℕ → Type 0 = λ t. IsDisposition method' target' t moment o in
    subst R eb (subst Q et (subst P em is))

pub writes_as : (w w1 : Known) (s t : Response) (a b c d : Bool) (result : Result (Unit {0}) WriteFault) → s ≡ t → a ≡ b → c ≡ d → Writes w w1 (reply_text s a c) result → Writes w w1 (reply_text t b d) result
writes_as w w1 s t a b c d result es ea ec wrote =
    let P : List ℕ → Type 0 = λ x. Writes w w1 x result in
    subst P (ap (λ (x : Response). reply_text x a c) es ∙ ap (λ x. reply_text t x c) ea ∙ ap (λ x. reply_text t b x) ec) wrote
