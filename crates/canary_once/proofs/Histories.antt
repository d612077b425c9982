-- A history grows by what effects add: effect after effect in a loop, and as the past grows.
use Rattle.std.proofs.Common.{◌≡◌, ℕ, suc, ◌+◌, ◌<◌, List, [], ◌∷◌, length, drop, get_or, refl, sym, ap, ◌∙◌, drop-cons, arith}
use Rattle.canary_plan.specs.declared.line.Line.{Line}
use Rattle.canary_release.specs.declared.effect.Effect.{Effect}
use Rattle.canary_release.specs.declared.effect.Effect.TheVariants.{LineAdded, RunOpened, MeasurementRecorded, RunClosed}
use Rattle.canary_release.specs.Pasts.{Past, past_with, past_with_all}
use Rattle.canary_once.specs.Showing.{lines_then, lines_after}

-- what is left of a list, with its first element apart
pub left_more : (xs : List Effect) (i : ℕ) (x : Effect) → i < length xs → x ≡ get_or xs i x → drop i xs ≡ x ∷ drop (i + 1) xs
left_more xs i x lt is =
    let next : suc i ≡ i + 1 = omega arith in
    drop-cons xs i x lt ∙ (λ k. sym is k ∷ drop (next k) xs)

pub lines_more : (old new whole : List Line) (xs : List Effect) (i : ℕ) (x : Effect) → i < length xs → x ≡ get_or xs i x → lines_after old (drop i xs) ≡ whole → new ≡ lines_then old x → lines_after new (drop (i + 1) xs) ≡ whole
lines_more old new whole xs i x lt is so_far one =
    ap (λ (ls : List Line). lines_after ls (drop (i + 1) xs)) one ∙ sym (ap (lines_after old) (left_more xs i x lt is)) ∙ so_far

line_grows : (p : Past) (x : Effect) → lines_then p.history x ≡ (past_with p x).history
line_grows p (LineAdded line) = refl
line_grows p (RunOpened x) = refl
line_grows p (MeasurementRecorded x) = refl
line_grows p (RunClosed x tallies) = refl

pub lines_grow : (p : Past) (xs : List Effect) → lines_after p.history xs ≡ (past_with_all p xs).history
lines_grow p [] = refl
lines_grow p (x ∷ xs) = ap (λ (ls : List Line). lines_after ls xs) (line_grows p x) ∙ lines_grow (past_with p x) xs
