use Rattle.std.proofs.Common.{◌≡◌, ◌≤◌, ℕ, Ok, Err, sym, ap, ◌∙◌, subst, arith}
use Rattle.httparse.specs.Grammar.{status_code}
use Rattle.http1.specs.declared.framing.Framing.TheVariants.{Length as Sized}
use Rattle.http1.specs.declared.framing.MethodKind.TheVariants.{Other}
use Rattle.http1.specs.declared.fields.KnownFields.{KnownFields}
use Rattle.http1.specs.Fields.{known_fields}
use Rattle.http1.specs.Framing.{response_framing}
use Rattle.http1.specs.Message.{known_of}
use Rattle.canary_fetch.proofs.ReadingLemmas.{final_is_high}
use Rattle.canary_fetch.proofs.FrontLemmas.{coded, unframed, long_body}
use Rattle.canary_fetch.proofs.heads.final_front.Goals as goal

pub returns-then-known-clause-err : goal.returns-then-known-clause-err
returns-then-known-clause-err c =
    let h = c.requires.is.0 in
    let x = c.requires.is.1 in
    let known : c.from_spans-known.result ≡ known_of h.fields = c.from_spans-known.ensures ∙ ap known_fields x.fields in
    let high = subst (λ (s : ℕ). 200 ≤ s) x.code c.requires.high in
    coded c.args.bytes.now _ h (final_is_high (status_code h) high) x.reads (ap (λ (k : KnownFields). k.other_coding) (sym known) ∙ c.if-known.true)

pub returns-in-Ok-Length-clause-err : goal.returns-in-Ok-Length-clause-err
returns-in-Ok-Length-clause-err c =
    let h = c.requires.is.0 in
    let x = c.requires.is.1 in
    let known : c.from_spans-known.result ≡ known_of h.fields = c.from_spans-known.ensures ∙ ap known_fields x.fields in
    let code = x.code in
    let minor = x.version in
    let high = subst (λ (s : ℕ). 200 ≤ s) code c.requires.high in
    let framing = c.response_framing.ensures in
    let is = c.in-Ok-Length.is in
    let sized = c.in-Ok-Length.field-0-is in
    let same : response_framing Other (status_code h) h.minor (known_of h.fields) ≡ Ok (Sized c.in-Ok-Length.length) = cc in
    long_body c.args.bytes.now _ h c.in-Ok-Length.length (final_is_high (status_code h) high) x.reads same (omega arith)

pub returns-in-Err-clause-err : goal.returns-in-Err-clause-err
returns-in-Err-clause-err c =
    let h = c.requires.is.0 in
    let x = c.requires.is.1 in
    let known : c.from_spans-known.result ≡ known_of h.fields = c.from_spans-known.ensures ∙ ap known_fields x.fields in
    let code = x.code in
    let minor = x.version in
    let high = subst (λ (s : ℕ). 200 ≤ s) code c.requires.high in
    let framing = c.response_framing.ensures in
    let is = c.in-Err.is in
    let same : response_framing Other (status_code h) h.minor (known_of h.fields) ≡ Err c.in-Err.field-0 = cc in
    unframed c.args.bytes.now _ h c.in-Err.field-0 (final_is_high (status_code h) high) x.reads same
