-- How a stream ends is one thing too, but that one which ends inside a target or after the 64th header line may also be rejected.
use Rattle.std.proofs.Common.{◌≡◌, ℕ, ◌⊎◌, inl, inr, Bool, true, false, List, [], ◌∷◌, ◌++◌, refl, sym, ap, ◌∙◌, subst, arith}
use Rattle.std.specs.Prelude.{◌&&◌, ◌==◌, if◌then◌else◌}
use Rattle.std.specs.List.{list_all}
use Rattle.std.proofs.lemmas.List.{append-nil}
use Rattle.std.proofs.lemmas.List.Folds.{list_all-append}
use Rattle.std.proofs.lemmas.Bool.{and_parts, or_from}
use Rattle.std.proofs.lemmas.Bool.Decides.{eqb_tells}
use Rattle.httparse.specs.Ascii.{space}
use Rattle.httparse.specs.Grammar.{RequestHead, print_blank, print_version, print_section, print_end, lf, print_request, is_token_byte, IsToken, EndsInTarget}
use Rattle.httparse.specs.Spans.{RequestExceeds}
use Rattle.canary_wire.specs.declared.framing.Framing.TheVariants.{Body, Rejected}
use Rattle.canary_wire.specs.declared.rejection.Rejection.{Rejection}
use Rattle.canary_wire.specs.declared.rejection.Rejection.TheVariants.{Malformed}
use Rattle.canary_wire.specs.Heads.{head_framing, is_bare}
use Rattle.canary_wire.specs.Cut.{Message, is_newline, long, beyond, never, lines, HasNoHead, IsRejected, malformed, framed, IsUnfinished, head, body, Ending, idle, cut_off, rejecting, Begins, IsCut, unfinished, closed, rejected, IsInDoubt, SameEnding}
use Rattle.canary_wire.proofs.CutLaw.{same_head, begin_same, stops_unfinished, stops_rejected, stops_closed, not_unfinished, not_rejected}

-- ---- line ends alone are no part of a message

all_left : (p : ℕ → Bool) (xs ys : List ℕ) → list_all p (xs ++ ys) ≡ true → list_all p xs ≡ true
all_left p xs ys h = (and_parts (list_all p xs) (list_all p ys) (sym (list_all-append p xs ys) ∙ h)).0

all_right : (p : ℕ → Bool) (xs ys : List ℕ) → list_all p (xs ++ ys) ≡ true → list_all p ys ≡ true
all_right p xs ys h = (and_parts (list_all p xs) (list_all p ys) (sym (list_all-append p xs ys) ∙ h)).1

newline_is : (b : ℕ) → is_newline b ≡ true → (b ≡ 13) ⊎ (b ≡ 10)
newline_is b h =
    elim (eqb_tells b 13) [
      | inl t ↦ inl t.1
      | inr t ↦ elim (eqb_tells b 10) [
        | inl u ↦ inr u.1
        | inr u ↦ absurd (let e : is_newline b ≡ false = or_from (b == 13) (b == 10) t.0 u.0 in let clash : true ≡ false = sym h ∙ e in cc)
      ]
    ]

no_token : (b : ℕ) → is_newline b ≡ true → is_token_byte b ≡ true → ⊥
unfolding is_token_byte
no_token b h tok =
    let P : ℕ → Type 0 = λ n. is_token_byte n ≡ true in
    elim (newline_is b h) [
      | inl e ↦ (let clash : false ≡ true = subst P e tok in cc)
      | inr e ↦ (let clash : false ≡ true = subst P e tok in cc)
    ]

no_method : (m : List ℕ) → IsToken m → list_all is_newline m ≡ true → ⊥
no_method [] is h = (let some = is.0 in omega arith)
no_method (b ∷ m) is h = no_token b (and_parts (is_newline b) (list_all is_newline m) h).0 (is.1 0 0 (omega arith))

-- a head is not made of line ends
no_lines : (h : RequestHead) → IsToken h.method → list_all is_newline (print_request h) ≡ true → ⊥
unfolding print_request
no_lines h is all =
    let start = print_blank h.blank ++ h.method in
    let target = start ++ space ∷ h.target in
    let version = target ++ space ∷ print_version h.minor in
    let line = version ++ print_end h.line_end in
    let a : list_all is_newline line ≡ true = all_left is_newline line (print_section h.fields h.last) all in
    let b : list_all is_newline version ≡ true = all_left is_newline version (print_end h.line_end) a in
    let c : list_all is_newline target ≡ true = all_left is_newline target (space ∷ print_version h.minor) b in
    let d : list_all is_newline start ≡ true = all_left is_newline start (space ∷ h.target) c in
    no_method h.method is (all_right is_newline (print_blank h.blank) h.method d)

no_target : (bytes : List ℕ) → EndsInTarget bytes → list_all is_newline bytes ≡ true → ⊥
no_target bytes t all =
    let here = all_right is_newline (print_blank t.0 ++ t.1) (32 ∷ t.2) (ap (list_all is_newline) (sym t.5) ∙ all) in
    let clash : false ≡ true = here in cc

more_lines : (bytes : List ℕ) → RequestExceeds 64 bytes → list_all is_newline bytes ≡ true → ⊥
more_lines bytes e all =
    let front : list_all is_newline e.0 ≡ true = all_left is_newline e.0 e.1 (ap (list_all is_newline) (sym e.2) ∙ all) in
    let behind : list_all is_newline (e.0 ++ print_end lf) ≡ true = list_all-append is_newline e.0 (print_end lf) ∙ ap (λ b. b && true) front in
    let printed : list_all is_newline (print_request e.3) ≡ true = ap (list_all is_newline) (sym (e.4.1 ∙ append-nil (print_request e.3))) ∙ behind in
    no_lines e.3 e.4.0.method printed

-- ---- two ends at one place

abbrev open_end : Bool → Ending
open_end b = if b then idle else cut_off

-- bytes that are no line ends alone end in the midst of a message
in_midst : (b : Bool) → (b ≡ true → ⊥) → open_end b ≡ cut_off
in_midst true other = absurd (other refl)
in_midst false other = refl

-- what may go on and may not
abbrev IsMixed : List ℕ → Rejection → Bool → Type 0
IsMixed rest r bare = IsInDoubt rest × (open_end (list_all is_newline rest) ≡ cut_off) × (rejecting r bare ≡ rejecting Malformed false)

mixed_at : (rest : List ℕ) (r : Rejection) (bare : Bool) → IsUnfinished rest → IsRejected rest r bare → IsMixed rest r bare
mixed_at rest r bare (head none short may) (malformed head_none (long l)) = absurd (omega arith)
mixed_at rest r bare (head none short may) (malformed head_none (beyond b)) = absurd (none b.0 b.1 b.2)
mixed_at rest r bare (head none short may) (malformed head_none (never n)) =
    elim may [
      | inl m ↦ absurd (n m.0 m.1 [] m.2)
      | inr t ↦ (inl t, in_midst (list_all is_newline rest) (no_target rest t), refl)
    ]
mixed_at rest r bare (head none short may) (malformed head_none (lines l)) = (inr l, in_midst (list_all is_newline rest) (more_lines rest l), refl)
mixed_at rest r bare (head none short may) (framed h after w has f) = absurd (none h after (has.0.valid, has.1))
mixed_at rest r bare (body h after n has f small short) (malformed head_none hope) = absurd (subst HasNoHead (append-nil rest) (head_none []) h after has)
mixed_at rest r bare (body h after n has f small short) (framed k more w haz g) =
    let same = same_head rest h k after more has haz in
    let clash : Body n ≡ Rejected r = sym f ∙ ap head_framing same.0 ∙ g in cc

rejected_same : (rest : List ℕ) (r s : Rejection) (a b : Bool) → IsRejected rest r a → IsRejected rest s b → rejecting r a ≡ rejecting s b
rejected_same rest r s a b (malformed head_none hope) (malformed na hape) = refl
rejected_same rest r s a b (malformed head_none hope) (framed h after w has f) = absurd (subst HasNoHead (append-nil rest) (head_none []) h after has)
rejected_same rest r s a b (framed h after w has f) (malformed head_none hope) = absurd (subst HasNoHead (append-nil rest) (head_none []) h after has)
rejected_same rest r s a b (framed h after w has f) (framed k more x haz g) =
    let same = same_head rest h k after more has haz in
    let why : Rejected r ≡ Rejected s = sym f ∙ ap head_framing same.0 ∙ g in
    let which : r ≡ s = cc in
    λ i. rejecting (which i) (is_bare (same.0 i))

pub cut_ends : (bytes : List ℕ) (ms ns : List Message) (e f : Ending) → IsCut bytes ms e → IsCut bytes ns f → SameEnding bytes ms e f
cut_ends bytes ms ns e f (unfinished a r b u) (unfinished c q d v) =
    inl (ap (λ t. open_end (list_all is_newline t)) (begin_same bytes a c r q b d (stops_unfinished r u) (stops_unfinished q v)).1)
cut_ends bytes ms ns e f (unfinished a r b u) (rejected c q w bare d v) =
    let same = (begin_same bytes a c r q b d (stops_unfinished r u) (stops_rejected q w bare v)).1 in
    let P : List ℕ → Type 0 = λ t. IsRejected t w bare in
    let m = mixed_at r w bare u (subst P (sym same) v) in
    inr ((r, b, m.0), inl (m.1, m.2))
cut_ends bytes ms ns e f (rejected c q w bare d v) (unfinished a r b u) =
    let same = begin_same bytes a c r q b d (stops_unfinished r u) (stops_rejected q w bare v) in
    let P : List ℕ → Type 0 = λ t. IsRejected t w bare in
    let Q : List Message → Type 0 = λ t. Begins bytes t r in
    let m = mixed_at r w bare u (subst P (sym same.1) v) in
    inr ((r, subst Q same.0 b, m.0), inr (m.1, m.2))
cut_ends bytes ms ns e f (rejected a r w bare b u) (rejected c q x other d v) =
    let same = (begin_same bytes a c r q b d (stops_rejected r w bare u) (stops_rejected q x other v)).1 in
    let P : List ℕ → Type 0 = λ t. IsRejected t x other in
    inl (rejected_same r w x bare other u (subst P (sym same) v))
cut_ends bytes ms ns e f (closed a m r b is shut) (closed c n q d js too) = inl refl
cut_ends bytes ms ns e f (closed a m r b is shut) (unfinished c q d v) =
    absurd (not_unfinished m r q is v (begin_same bytes a c _ q b d (stops_closed m r is shut) (stops_unfinished q v)).1)
cut_ends bytes ms ns e f (closed a m r b is shut) (rejected c q w bare d v) =
    absurd (not_rejected m r q w bare is v (begin_same bytes a c _ q b d (stops_closed m r is shut) (stops_rejected q w bare v)).1)
cut_ends bytes ms ns e f (unfinished c q d v) (closed a m r b is shut) =
    absurd (not_unfinished m r q is v (begin_same bytes a c _ q b d (stops_closed m r is shut) (stops_unfinished q v)).1)
cut_ends bytes ms ns e f (rejected c q w bare d v) (closed a m r b is shut) =
    absurd (not_rejected m r q w bare is v (begin_same bytes a c _ q b d (stops_closed m r is shut) (stops_rejected q w bare v)).1)
