-- What is written of a page, part after part.
use Rattle.std.proofs.Common.{◌≡◌, ◌∙◌, ℕ, List, [], ◌++◌, sym, ap, subst, refl}
use Rattle.std.specs.Prelude.{fold, Some, Result, Ok, Err, OnOk, IsErr}
use Rattle.std.specs.Io.KnownBytes.{Appends}
use Rattle.std.proofs.lemmas.List.{append-nil, append_assoc}
use Rattle.std.proofs.lemmas.Grind.{flat_map-append, fold-append}
use Rattle.canary_base.specs.Writes.{Known, Writes}
use Rattle.canary_base.proofs.WriteLemmas.{appends_more, appends_none}
use Rattle.canary_page_html.specs.declared.piece.HtmlContext.TheVariants as place
use Rattle.canary_page_html.specs.Pages.{bytes_of, then_place, IsOfPieces}
use Rattle.canary_page.specs.Drawn.{IsDrawn}

-- pieces, and others after them: the latter begin between tags, where the former end
both_of : (s t : List ℕ) → IsOfPieces s → IsOfPieces t → IsOfPieces (s ++ t)
both_of s t p q = (
  p.0 ++ q.0,
  (λ i. p.1 i ++ q.1 i) ∙ sym (flat_map-append bytes_of p.0 q.0),
  fold-append then_place (Some place.Between) p.0 q.0 ∙ ap (λ o. fold then_place o q.0) p.2 ∙ q.2,
)

no_pieces : IsOfPieces []
no_pieces = ([], refl, refl)

-- a text of pieces went out whole
abbrev pub Wrote : Known → Known → Type 0
Wrote a b = (text : List ℕ) × IsOfPieces text × Appends a b text

pub wrote_none : (a : Known) → Wrote a a
wrote_none a = ([], no_pieces, appends_none a)

on_ok : {A E P : Type 0} (r : Result A E) → P → OnOk r P
on_ok (Ok x) p = p
on_ok (Err e) p = tt

-- nothing went out
pub none_drawn : {A E : Type 0} (a : Known) (r : Result A E) → IsDrawn a a r
none_drawn a r = (
  [],
  no_pieces,
  record { front = []; back = []; parts = refl; written = appends_none a; all = on_ok r refl },
)

-- a part was written, and all of it if that succeeded
pub part_drawn : {E F : Type 0} (a b : Known) (text : List ℕ) → IsOfPieces text → Writes {E = E} a b text (Ok tt) → IsDrawn {A = Unit {0}} {E = F} a b (Ok tt)
part_drawn a b text of w =
    (text, of, record { front = w.front; back = w.back; parts = w.parts; written = w.written; all = w.all })

pub part_failed : {E F : Type 0} (a b : Known) (text : List ℕ) (r : Result (Unit {0}) E) (f : F) → IsOfPieces text → Writes a b text r → IsDrawn {A = Unit {0}} a b (Err f)
part_failed a b text r f of w =
    (text, of, record { front = w.front; back = w.back; parts = w.parts; written = w.written; all = tt })

-- all that went out so far is a page's part
pub so_far_drawn : {E : Type 0} (a b : Known) → Wrote a b → IsDrawn {A = Unit {0}} {E = E} a b (Ok tt)
so_far_drawn a b w =
    (w.0, w.1, record { front = w.0; back = []; parts = sym (append-nil w.0); written = w.2; all = refl })

-- one part more
pub one_more : {E : Type 0} (a b c : Known) → Wrote a b → IsDrawn {A = Unit {0}} {E = E} b c (Ok tt) → Wrote a c
one_more a b c w d =
    let e : d.2.front ≡ d.0 = sym (append-nil d.2.front) ∙ ap (λ t. d.2.front ++ t) (sym d.2.all) ∙ sym d.2.parts in
    let P : List ℕ → Type 0 = λ t. Appends b c t in
    (w.0 ++ d.0, both_of w.0 d.0 w.1 d.1, appends_more a b c w.0 d.0 w.2 (subst P e d.2.written))

-- a part of which some went out
pub then_failed : {A B E F : Type 0} (a b c : Known) (e : E) (s : Result B F) → IsErr s → Wrote a b → IsDrawn {A = A} b c (Err e) → IsDrawn {A = B} a c s
then_failed a b c e (Ok x) failed w d = cc failed
then_failed a b c e (Err f) failed w d = (
  w.0 ++ d.0,
  both_of w.0 d.0 w.1 d.1,
  record {
    front = w.0 ++ d.2.front;
    back = d.2.back;
    parts = ap (λ t. w.0 ++ t) d.2.parts ∙ sym (append_assoc w.0 d.2.front d.2.back);
    written = appends_more a b c w.0 d.2.front w.2 d.2.written;
    all = tt;
  },
)
