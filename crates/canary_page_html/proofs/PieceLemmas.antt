-- Bytes of pieces, one more piece, and one more byte of a text.
use Rattle.std.proofs.Common.{◌≡◌, ◌∙◌, ℕ, suc, ◌+◌, ◌<◌, List, [], ◌∷◌, ◌++◌, length, drop, get_or, sym, ap, drop-cons, arith, refl}
use Rattle.std.specs.Prelude.{Some}
use Rattle.std.proofs.lemmas.List.{append_assoc, flat_map_more}
use Rattle.std.proofs.lemmas.Grind.{fold-append}
use Rattle.canary_page_html.specs.declared.piece.Piece.{Piece}
use Rattle.canary_page_html.specs.declared.piece.HtmlContext.{HtmlContext}
use Rattle.canary_page_html.specs.declared.piece.HtmlContext.TheVariants as place
use Rattle.canary_page_html.specs.Escaping.{escaped, escaped_byte}
use Rattle.canary_page_html.specs.Pages.{bytes_of, place_after, then_place, LeadsTo, IsOfPieces}

-- no bytes are those of no pieces
pub of_none : (bytes : List ℕ) → bytes ≡ [] → IsOfPieces bytes
of_none bytes is = ([], is, refl)

-- with the bytes of one piece more, which may stand here
pub of_one_more : (old new : List ℕ) (piece : Piece) (here next : HtmlContext) → place_after here piece ≡ Some next → new ≡ old ++ bytes_of piece
    → LeadsTo here old → LeadsTo next new
of_one_more old new piece here next after is of = (
  of.0 ++ piece ∷ [],
  is ∙ ap (λ t. t ++ bytes_of piece) of.1 ∙ flat_map_more bytes_of [] of.0 piece,
  fold-append then_place (Some place.Between) of.0 (piece ∷ []) ∙ ap (λ o. then_place o piece) of.2 ∙ after,
)

-- what is left of a text, with its first byte apart
left_more : (xs : List ℕ) (i : ℕ) (x : ℕ) → i < length xs → x ≡ get_or xs i x → drop i xs ≡ x ∷ drop (i + 1) xs
left_more xs i x lt is =
    let next : suc i ≡ i + 1 = omega arith in
    drop-cons xs i x lt ∙ (λ k. sym is k ∷ drop (next k) xs)

-- one more byte is escaped, and those that are left
pub escaped_more : (old new whole : List ℕ) (xs : List ℕ) (i : ℕ) (x : ℕ) → i < length xs → x ≡ get_or xs i x
    → old ++ escaped (drop i xs) ≡ whole → new ≡ old ++ escaped_byte x → new ++ escaped (drop (i + 1) xs) ≡ whole
escaped_more old new whole xs i x lt is so_far one =
    let rest : List ℕ = escaped (drop (i + 1) xs) in
    ap (λ t. t ++ rest) one
    ∙ append_assoc old (escaped_byte x) rest
    ∙ sym (ap (λ ls. old ++ escaped ls) (left_more xs i x lt is))
    ∙ so_far
