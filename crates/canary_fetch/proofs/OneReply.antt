-- Some bytes begin with one reply at most.
use Rattle.std.proofs.Common.{◌≡◌, ℕ, ◌≤◌, List, [], ◌∷◌, Ok, Result, sym, ap, ◌∙◌, subst}
use Rattle.httparse.specs.Grammar.{ResponseHead, status_code}
use Rattle.httparse.proofs.GrammarLemmas.{response_unique}
use Rattle.http1.specs.declared.framing.Framing.{Framing}
use Rattle.http1.specs.declared.framing.FramingError.{FramingError}
use Rattle.http1.specs.declared.framing.MethodKind.TheVariants.{Other}
use Rattle.http1.specs.Framing.{response_framing}
use Rattle.http1.specs.Message.{known_of}
use Rattle.http1.specs.Body.{Body, ReadsBody}
use Rattle.http1.proofs.OneParse.{body_unique}
use Rattle.canary_fetch.specs.Replies.{Heard, response, ReadsInterim, limits, ReadsFinal, ReadsReply}
use Rattle.canary_fetch.proofs.ReadingLemmas.{interim_takes, final_takes, final_is_high}

framing_is : (r q : Result Framing FramingError) (f g : Framing) → r ≡ Ok f → q ≡ Ok g → r ≡ q → f ≡ g
framing_is r q f g a b e = cc

one_final : (stream : List ℕ) (a b : Heard) (r q : List ℕ) → ReadsFinal stream a r → ReadsFinal stream b q → (a ≡ b) × (r ≡ q)
one_final stream a b r q x y =
    let same = response_unique stream x.head y.head x.after y.after x.reads.reads y.reads.reads in
    let status : a.status ≡ b.status = x.final.told ∙ ap status_code same.0 ∙ sym y.final.told in
    let alike : response_framing Other a.status x.head.minor (known_of x.head.fields) ≡ response_framing Other b.status y.head.minor (known_of y.head.fields) =
    λ i. response_framing Other (status i) (same.0 i).minor (known_of (same.0 i).fields) in
    let framing = framing_is _ _ x.framing y.framing x.final.framed y.final.framed alike in
    let has = subst (λ (f : Framing). ReadsBody limits f y.after x.body r) framing (subst (λ (s : List ℕ). ReadsBody limits x.framing s x.body r) same.1 x.has) in
    let body = body_unique limits y.framing y.after x.body y.body r q has y.has in
    let bytes : a.body ≡ b.body = x.is ∙ ap (λ (z : Body). z.bytes) body.0 ∙ sym y.is in
    (λ i. response (status i) (bytes i), body.1)

one_behind : (heads : List ResponseHead) (stream after : List ℕ) (a b : Heard) (r q : List ℕ) → ReadsInterim heads stream after → ReadsFinal after a r → ReadsReply stream b q → (a ≡ b) × (r ≡ q)
one_behind [] stream after a b r q skips x y =
    let f = subst (λ (s : List ℕ). ReadsFinal s a r) (sym skips) x in
    let not = final_is_high (status_code f.head) (subst (λ (n : ℕ). 200 ≤ n) f.final.told f.final.final) in
    one_final stream a b r q f (final_takes stream f.after f.head b q not f.reads.reads y)
one_behind (h ∷ hs) stream after a b r q skips x y =
    one_behind hs skips.1 after a b r q skips.3 x (interim_takes stream skips.1 h b q skips.0 skips.2 y)

pub one_reply : (stream : List ℕ) (a b : Heard) (r q : List ℕ) → ReadsReply stream a r → ReadsReply stream b q → (a ≡ b) × (r ≡ q)
one_reply stream a b r q x y = one_behind x.interim stream x.after a b r q x.skips x.reads y
