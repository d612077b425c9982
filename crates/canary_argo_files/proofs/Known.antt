-- The templates of manifests, one after another.
use Rattle.std.proofs.Common.{◌≡◌, ℕ, suc, ◌+◌, ◌<◌, List, ◌∷◌, Bool, length, drop, get_or, refl, sym, ap, ◌∙◌, add-one}
use Rattle.std.specs.Prelude.{string_bytes}
use Rattle.std.proofs.Math.Seq.{drop-cons}
use Rattle.canary_check.specs.Taken.{Known}
use Rattle.canary_check.specs.Attempts.{is_bound}
use Rattle.canary_convert.specs.declared.work.Made.{Made}
use Rattle.canary_argo_files.specs.Taken.{with_made, known_of, is_made_bound}

-- one manifest more
pub one_more : (known new : Known) (made : List Made) (i : ℕ) (m : Made) → m ≡ get_or made i m → i < length made
    → new ≡ with_made known m → known_of known (drop i made) ≡ known_of new (drop (i + 1) made)
one_more known new made i m is within set =
    let front : drop i made ≡ get_or made i m ∷ drop (suc i) made = drop-cons made i m within in
    rw (front, sym is, add-one, set) refl

-- what a check of a manifest's bytes finds
pub bound_is : (known : Known) (m : Made) (text : List ℕ) (found : Bool) → found ≡ is_bound known text → text ≡ string_bytes m.json
    → found ≡ is_made_bound known m
unfolding is_made_bound
bound_is known m text found is e = is ∙ ap (is_bound known) e
