-- Words, blanks and tokens of a text.
use Rattle.std.proofs.Common.{◌≡◌, ℕ, suc, ◌+◌, ◌<◌, ◌≤◌, Bool, true, false, not, cond, List, [], ◌∷◌, ◌++◌, length, take, drop, Option, Some, None, refl, sym, ap, ◌∙◌, subst, append_assoc, append-nil, arith, length-drop}
use Rattle.std.specs.Prelude.{◌==◌, ◌||◌, ◌&&◌, if◌then◌else◌, unwrap_or, position, nat_lt}
use Rattle.std.specs.Char.{is_ascii_digit}
use Rattle.std.specs.List.{position_or_len}
use Rattle.std.proofs.lemmas.Bool.{cond_both, ltb-false}
use Rattle.std.proofs.lemmas.Bool.Decides.{nat_tests}
use Rattle.std.proofs.lemmas.List.Sums.{prefix_len-le-length}
use Rattle.canary_argo.specs.declared.condition.ArgoToken.{ArgoToken}
use Rattle.canary_argo.specs.Tokens.{is_blank, unblanked, is_word_byte, ends_word, front_word, after_word, number_token, keyword_token, long_symbol, short_symbol, before, or_else, front_symbol, front_token, IsFront, HasTokens, goes_on, number_len, front_number, after_number, signed_number, after_signed}

-- the place of the first byte that passes, or the length
pub place_is : (p : ℕ → Bool) (xs : List ℕ) → unwrap_or (position p xs) (length xs) ≡ position_or_len p xs
place_is p xs =
    cond_both (nat_lt (position_or_len p xs) (length xs)) (Some (position_or_len p xs)) None (λ o. unwrap_or o (length xs) ≡ position_or_len p xs)
    (λ _. refl)
    (λ e. let past : length xs ≤ position_or_len p xs = ltb-false (position_or_len p xs) (length xs) e in omega (arith, prefix_len-le-length (λ b. not (p b)) xs))

word_place : (b : ℕ) (text : List ℕ) → is_word_byte b ≡ true → 1 ≤ position_or_len ends_word (b ∷ text)
word_place b text h =
    let first : position_or_len ends_word (b ∷ text) ≡ 1 + position_or_len ends_word text = ap (λ (t : Bool). cond (not (not t)) (1 + position_or_len ends_word text) 0) h in
    omega arith

after_shorter : (b : ℕ) (text : List ℕ) → is_word_byte b ≡ true → length (after_word (b ∷ text)) < length (b ∷ text)
after_shorter b text h = omega (arith, word_place b text h, length-drop (position_or_len ends_word (b ∷ text)) (b ∷ text))

-- the same of numbers
number_word : (b : ℕ) → (is_ascii_digit b || b == 46) ≡ true → is_word_byte b ≡ true
number_word b h = grind (arith, nat_tests)

number_place : (b : ℕ) (text : List ℕ) → is_word_byte b ≡ true → 1 ≤ number_len 0 (b ∷ text)
number_place b text h =
    let goes : goes_on 0 b ≡ true = ap (λ (t : Bool). t || ((0 == 101 || 0 == 69) && (b == 43 || b == 45))) h in
    let first : number_len 0 (b ∷ text) ≡ suc (number_len b text) = ap (λ (t : Bool). if t then suc (number_len b text) else 0) goes in
    omega arith

number_shorter : (b : ℕ) (text : List ℕ) → is_word_byte b ≡ true → length (after_number (b ∷ text)) < length (b ∷ text)
number_shorter b text h = omega (arith, number_place b text h, length-drop (number_len 0 (b ∷ text)) (b ∷ text))

number_within : (text : List ℕ) → length (after_number text) ≤ length text
number_within text = omega (arith, length-drop (number_len 0 text) text)

abbrev IsShorter : List ℕ → Option (ArgoToken × List ℕ) → Type 0
IsShorter text None = Unit {0}
IsShorter text (Some r) = length r.1 < length text

before_shorter : (text rest : List ℕ) (t : Option ArgoToken) → length rest < length text → IsShorter text (before rest t)
before_shorter text rest None h = tt
before_shorter text rest (Some t) h = h

or_shorter : (text : List ℕ) (first second : Option (ArgoToken × List ℕ)) → IsShorter text first → IsShorter text second → IsShorter text (or_else first second)
or_shorter text None second f s = s
or_shorter text (Some r) second f s = f

symbol_shorter : (text : List ℕ) → IsShorter text (front_symbol text)
symbol_shorter [] = tt
symbol_shorter (a ∷ []) = before_shorter (a ∷ []) [] (short_symbol a) (omega arith)
symbol_shorter (a ∷ b ∷ text) = or_shorter (a ∷ b ∷ text) (before text (long_symbol a b)) (before (b ∷ text) (short_symbol a)) (before_shorter (a ∷ b ∷ text) text (long_symbol a b) (omega arith)) (before_shorter (a ∷ b ∷ text) (b ∷ text) (short_symbol a) (omega arith))

front_shorter : (text : List ℕ) → IsShorter text (front_token text)
front_shorter [] = tt
front_shorter (b ∷ text) =
    let word : Option (ArgoToken × List ℕ) = before (after_word (b ∷ text)) (keyword_token (front_word (b ∷ text))) in
    let minus : Option (ArgoToken × List ℕ) = before (after_number text) (number_token (b ∷ front_number text)) in
    let number : Option (ArgoToken × List ℕ) = before (after_number (b ∷ text)) (number_token (front_number (b ∷ text))) in
    elim (is_ascii_digit b || b == 46) as (λ d. (is_ascii_digit b || b == 46) ≡ d → IsShorter (b ∷ text) (if d then number else (if b == 45 then minus else (if is_word_byte b then word else front_symbol (b ∷ text))))) [
      | true ↦ λ e. before_shorter (b ∷ text) (after_number (b ∷ text)) (number_token (front_number (b ∷ text))) (number_shorter b text (number_word b e))
      | false ↦ λ _.
          elim (b == 45) as (λ m. IsShorter (b ∷ text) (if m then minus else (if is_word_byte b then word else front_symbol (b ∷ text)))) [
            | true ↦ before_shorter (b ∷ text) (after_number text) (number_token (b ∷ front_number text)) (omega (arith, number_within text))
            | false ↦
                elim (is_word_byte b) as (λ w. is_word_byte b ≡ w → IsShorter (b ∷ text) (if w then word else front_symbol (b ∷ text))) [
                  | true ↦ λ e. before_shorter (b ∷ text) (after_word (b ∷ text)) (keyword_token (front_word (b ∷ text))) (after_shorter b text e)
                  | false ↦ λ _. symbol_shorter (b ∷ text)
                ] refl
          ]
    ] refl

unblanked_within : (text : List ℕ) → length (unblanked text) ≤ length text
unblanked_within [] = omega arith
unblanked_within (b ∷ text) = cond_both (is_blank b) (unblanked text) (b ∷ text) (λ r. length r ≤ length (b ∷ text)) (λ _. omega (arith, unblanked_within text)) (λ _. omega arith)

-- what is left after a token is shorter
pub token_shorter : (text : List ℕ) (t : ArgoToken) (rest : List ℕ) → IsFront text t rest → length (unblanked rest) < length text
token_shorter text t rest e = let h = subst (IsShorter text) e (front_shorter text) in omega (arith, unblanked_within rest)

-- one more token
pub one_more_token : (whole text : List ℕ) (tokens more : List ArgoToken) (t : ArgoToken) (rest : List ℕ) → ((ts : List ArgoToken) → HasTokens text ts → HasTokens whole (tokens ++ ts)) → IsFront text t rest → more ≡ tokens ++ t ∷ [] → (ts : List ArgoToken) → HasTokens (unblanked rest) ts → HasTokens whole (more ++ ts)
one_more_token whole text tokens more t rest so_far e is ts h =
    subst (HasTokens whole) (sym (append_assoc tokens (t ∷ []) ts) ∙ ap (λ (r : List ArgoToken). r ++ ts) (sym is)) (so_far (t ∷ ts) (rest, e, h))

-- a text that begins with a sign is split after the number that follows it
pub signed_split : (b : ℕ) (text : List ℕ) (n k : ℕ) → k ≡ number_len 0 text → n ≡ 1 + k → (take n (b ∷ text) ≡ signed_number (b ∷ text)) × (drop n (b ∷ text) ≡ after_signed (b ∷ text))
signed_split b text n k e f =
    let is : n ≡ suc (number_len 0 text) = omega arith in
    (ap (λ (m : ℕ). take m (b ∷ text)) is, ap (λ (m : ℕ). drop m (b ∷ text)) is)

pub all_tokens_left : (whole : List ℕ) (tokens : List ArgoToken) (rest : List ℕ) → ((ts : List ArgoToken) → HasTokens rest ts → HasTokens whole (tokens ++ ts)) → rest ≡ [] → HasTokens whole tokens
all_tokens_left whole tokens rest h none = subst (HasTokens whole) (append-nil tokens) (h [] none)

pub empty_is : (xs : List ℕ) → length xs ≡ 0 → xs ≡ []
empty_is [] e = refl
empty_is (x ∷ xs) e = absurd (omega arith)
