-- Noting one token after the other.
use Rattle.std.proofs.Common.{◌≡◌, ℕ, zero, suc, ◌+◌, ◌-◌, ◌<◌, ◌≤◌, Bool, true, false, List, [], ◌∷◌, length, drop, take, get_or, Option, Some, None, sym, ap, ◌∙◌, arith}
use Rattle.std.proofs.lemmas.List.{drop-drop}
use Rattle.std.proofs.Math.Seq.{drop-cons}
use Rattle.canary_condition.specs.declared.explanation.Explained.{Explained}
use Rattle.canary_condition.specs.declared.explanation.Why.TheVariants.{NoToken}
use Rattle.canary_condition.specs.declared.explanation.TokenNotes.{TokenNotes}
use Rattle.canary_condition.specs.declared.token.Token.{Token}
use Rattle.canary_condition.specs.Tokens.{is_blank, front_token}
use Rattle.canary_condition.specs.Spelling.{with_token}
use Rattle.canary_condition.specs.Following.{noted, explain_after}
use Rattle.canary_condition.proofs.Lexing.{rest_is, token_within}
use Rattle.canary_condition.proofs.Depth.{opens_one}

passed : (n at : ℕ) (s : TokenNotes) (text : List ℕ) → n ≤ length text → explain_after s at n text ≡ explain_after s (at + n) 0 (drop n text)
passed zero at s text h = let e : at ≡ at + 0 = omega arith in ap (λ (k : ℕ). explain_after s k 0 text) e
passed (suc n) at s [] h = absurd (omega arith)
passed (suc n) at s (b ∷ text) h = let e : suc at + n ≡ at + suc n = omega arith in passed n (suc at) s text (omega arith) ∙ ap (λ (k : ℕ). explain_after s k 0 (drop n text)) e

-- one token is cut off
cut_off : (b : ℕ) (text : List ℕ) (s : TokenNotes) (at : ℕ) (t : Token) (n : ℕ) → is_blank b ≡ false → front_token (b ∷ text) ≡ Some (t, n) → explain_after s at 0 (b ∷ text) ≡ explain_after (noted s at t) (at + n) 0 (drop n (b ∷ text))
cut_off b text s at t zero blank e = absurd (omega (arith, (token_within (b ∷ text) t 0 e).0))
cut_off b text s at t (suc n) blank e =
    let f : Option (Token × ℕ) → Option Explained = λ (r : Option (Token × ℕ)). elim r [ None ↦ Some (record { at = at; why = NoToken }) | Some front ↦ explain_after (noted s at front.0) (suc at) (front.1 - 1) text ] in
    let behind : suc n - 1 ≡ n = omega arith in
    let along : suc at + n ≡ at + suc n = omega arith in
    let fits : n ≤ length text = omega (arith, (token_within (b ∷ text) t (suc n) e).1) in
    ap (λ (r : Bool). elim r [ true ↦ explain_after s (suc at) 0 text | false ↦ f (front_token (b ∷ text)) ]) blank ∙ ap f e
    ∙ ap (λ (k : ℕ). explain_after (noted s at t) (suc at) k text) behind ∙ passed n (suc at) (noted s at t) text fits
    ∙ ap (λ (k : ℕ). explain_after (noted s at t) k 0 (drop n text)) along

-- the loop's step over a token
pub one_more_note : (text : List ℕ) (at n : ℕ) (t : Token) (s more : TokenNotes) → at < length text → is_blank (get_or text at 0) ≡ false → front_token (take (length text - at) (drop at text)) ≡ Some (t, n) → more ≡ noted s at t → explain_after more (at + n) 0 (drop (at + n) text) ≡ explain_after s at 0 (drop at text)
one_more_note text at n t s more some blank e more_is =
    let b : ℕ = get_or text at 0 in
    let rest : List ℕ = drop (suc at) text in
    let begins : drop at text ≡ b ∷ rest = drop-cons text at 0 some in
    let cut : explain_after s at 0 (b ∷ rest) ≡ explain_after (noted s at t) (at + n) 0 (drop n (b ∷ rest)) = cut_off b rest s at t n blank (ap front_token (sym (rest_is text at ∙ begins)) ∙ e) in
    let goes_on : drop n (b ∷ rest) ≡ drop (at + n) text = ap (λ (r : List ℕ). drop n r) (sym begins) ∙ drop-drop n at text in
    ap (λ (r : TokenNotes). explain_after r (at + n) 0 (drop (at + n) text)) more_is ∙ ap (explain_after (noted s at t) (at + n) 0) (sym goes_on) ∙ sym cut ∙ ap (explain_after s at 0) (sym begins)

-- the brackets that are open are no more than the bytes so far
pub room_for_more : (s more : TokenNotes) (at n : ℕ) (t : Token) → more ≡ noted s at t → s.opened ≤ at → 1 ≤ n → more.opened ≤ at + n
room_for_more s more at n t more_is room some =
    let opened : more.opened ≡ with_token s.opened t = ap (λ (r : TokenNotes). r.opened) more_is in
    omega (arith, opened, opens_one s.opened t)
