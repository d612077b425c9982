-- Rows imported so far, and how an import ends.
use Rattle.std.proofs.Common.{◌≡◌, ◌∙◌, ℕ, suc, ◌+◌, List, [], ◌∷◌, ◌++◌, true, false, length, refl, sym, ap, subst, inl, inr, arith}
use Rattle.std.specs.Prelude.{Result, Ok, Err}
use Rattle.std.specs.Io.KnownBytes.{Appends}
use Rattle.std.proofs.lemmas.List.{append-nil, append_assoc, length-append, length-map, map-append}
use Rattle.canary_once.specs.Laws.{RunsOn}
use Rattle.canary_base.specs.declared.writing.WriteFault.{WriteFault}
use Rattle.canary_files.specs.declared.import.ImportFault.{ImportFault}
use Rattle.canary_files.specs.declared.import.ImportFault.TheVariants as fault
use Rattle.canary_files.specs.declared.reading.FileReader.{FileReader}
use Rattle.canary_base.specs.Writes.{Known, Writes}
use Rattle.canary_files.specs.Rows.{header, is_header}
use Rattle.canary_once.specs.Messages.{DeskState, HandledOne, HandledAll}
use Rattle.canary_files.specs.RowExchanges.{RowExchange, IsExchange, rows_of, lines_from, lines, told_line}
use Rattle.canary_files.specs.Taking.{Fields, HasTaken, TakesNext, taken_of, spare_of}
use Rattle.canary_files.specs.Importing.{Answers, ImportsSome, ImportsTo, KeepsBook, IsSoFar}
use Rattle.canary_base.proofs.WriteLemmas.{appends_none, appends_more, writes_all}
use Rattle.canary_once.proofs.MessageLemmas.{went_none, went_one, went_then, holds_of}
use Rattle.canary_files.proofs.ReadLemmas.{begins}
use Rattle.canary_files.proofs.HeaderLemmas.{header_is, header_not}

-- ---- lines

lines_more : (k n : ℕ) (xs : List RowExchange) (x : RowExchange) → k + length xs ≡ n → lines_from k (xs ++ x ∷ []) ≡ lines_from k xs ++ told_line n x.disposition
lines_more k n [] x e = let same : k ≡ n = omega arith in append-nil (told_line k x.disposition) ∙ ap (λ m. told_line m x.disposition) same
lines_more k n (y ∷ ys) x e =
    let next : k + 1 + length ys ≡ n = omega arith in
    ap (λ t. told_line k y.disposition ++ t) (lines_more (k + 1) n ys x next) ∙ sym (append_assoc (told_line k y.disposition) (lines_from (k + 1) ys) (told_line n x.disposition))

-- ---- the book

pub keeps_of : (p q : DeskState) (xs : List RowExchange) → HandledAll IsExchange p q xs → KeepsBook p.book q.book
keeps_of p q xs went = record { honest = went.honest; in_memory = went.in_memory; sure = went.sure.0; sound = went.sound; receipts = went.receipts }

pub answers_of_went : RunsOn → (w w1 : Known) (p q : DeskState) (xs : List RowExchange) → HandledAll IsExchange p q xs → Appends w w1 (lines xs) → Answers w w1 p q (rows_of xs)
answers_of_went goes w w1 p q xs went written = record { exchanges = xs; are = refl; holds = holds_of goes p q xs went; written = written }

pub answers_none : RunsOn → (w : Known) (p : DeskState) → Answers w w p p []
answers_none goes w p = answers_of_went goes w w p p [] (went_none p) (appends_none w)

-- ---- so far

module _ {S : Type 0} (left : S → Known) (spare : S → ℕ) where
  pub so_far_none : (r : FileReader S) (w : Known) (p : DeskState) → taken_of r ≡ 1 → IsSoFar left r r w w p p 0
  so_far_none r w p one = record { exchanges = []; many = refl; taken = one; stands = λ file s. s; went = went_none p; written = appends_none w }

  module _ (r0 r1 r2 : FileReader S) (w w1 : Known) (p p1 : DeskState) (n : ℕ) (so : IsSoFar left r0 r1 w w1 p p1 n) (fields : Fields) where
    rows_more : (x : RowExchange) → x.message ≡ fields → rows_of so.exchanges ++ fields ∷ [] ≡ rows_of (so.exchanges ++ x ∷ [])
    rows_more x same = ap (λ (f : Fields). rows_of so.exchanges ++ f ∷ []) (sym same) ∙ sym (map-append (λ (y : RowExchange). y.message) so.exchanges (x ∷ []))

    module _ (takes : (file : Known) (records : List Fields) → HasTaken left file r1 records → TakesNext left spare file r2 records fields (Ok true)) where
      has_more : (x : RowExchange) → x.message ≡ fields → (file : Known) → HasTaken left file r0 (header ∷ []) → HasTaken left file r2 (header ∷ rows_of (so.exchanges ++ x ∷ []))
      has_more x same file s =
          let P : List Fields → Type 0 = λ t. HasTaken left file r2 (header ∷ t) in
          subst P (rows_more x same) (takes file (header ∷ rows_of so.exchanges) (so.stands file s))

      module _ (w2 : Known) (p2 : DeskState) (x : RowExchange) (same : x.message ≡ fields) (e : HandledOne IsExchange p1 p2 x) where
        went_more : HandledAll IsExchange p p2 (so.exchanges ++ x ∷ [])
        went_more = went_then p p1 p2 so.exchanges (x ∷ []) so.went (went_one p1 p2 x e)

        pub so_far_more : taken_of r2 ≡ taken_of r1 + 1 → Writes {E = WriteFault} w1 w2 (told_line (n + 1) x.disposition) (Ok tt) → IsSoFar left r0 r2 w w2 p p2 (n + 1)
        so_far_more one wrote =
            let m : length so.exchanges ≡ n = so.many in
            let number : 1 + length so.exchanges ≡ n + 1 = omega (arith, m) in
            let P : List ℕ → Type 0 = λ t. Appends w w2 t in
            record {
              exchanges = so.exchanges ++ x ∷ [];
              many = omega (arith, m, length-append so.exchanges (x ∷ []));
              taken = one ∙ ap (λ k. k + 1) so.taken;
              stands = has_more x same;
              went = went_more;
              written = subst P (sym (lines_more 1 (n + 1) so.exchanges x number))
                  (appends_more w w1 w2 (lines so.exchanges) (told_line (n + 1) x.disposition) so.written (writes_all w1 w2 (told_line (n + 1) x.disposition) wrote));
            }

        pub so_far_until : RunsOn → (f : WriteFault) → Writes w1 w2 (told_line (n + 1) x.disposition) (Err f) → (file : Known) → HasTaken left file r0 (header ∷ []) → ImportsTo file (taken_of r2) (spare_of spare r2) w w2 p p2 (Err fault.Write)
        so_far_until goes f wrote file s =
            let m : length so.exchanges ≡ n = so.many in
            let number : length so.exchanges + 1 ≡ n + 1 = omega (arith, m) in
            let all : List RowExchange = so.exchanges ++ x ∷ [] in
            let many : taken_of r2 ≡ suc (length (rows_of all)) = (has_more x same file s).many in (
              record {
                exchanges = so.exchanges;
                last = x;
                front = wrote.front;
                back = wrote.back;
                begins = begins left file r2.reader (header ∷ rows_of (so.exchanges ++ x ∷ [])) (has_more x same file s).stands;
                holds = holds_of goes p p2 (so.exchanges ++ x ∷ []) went_more;
                line = ap (λ k. told_line k x.disposition) number ∙ wrote.parts;
                short = wrote.short;
                written = appends_more w w1 w2 (lines so.exchanges) wrote.front so.written wrote.written;
              },
              omega (arith, many, length-map all (λ (y : RowExchange). y.message), length-append so.exchanges (x ∷ [])),
            )

        pub keeps_more : KeepsBook p.book p2.book
        keeps_more = keeps_of p p2 (so.exchanges ++ x ∷ []) went_more

      pub so_far_too_many : RunsOn → n ≡ 1000000 → (file : Known) → HasTaken left file r0 (header ∷ []) → ImportsTo file (taken_of r2) (spare_of spare r2) w w1 p p1 (Err fault.RowsSpent)
      so_far_too_many goes full file s =
          let next = takes file (header ∷ rows_of so.exchanges) (so.stands file s) in
          let rows : length (rows_of so.exchanges) ≡ 1000000 = length-map so.exchanges (λ (y : RowExchange). y.message) ∙ so.many ∙ full in
          let many : taken_of r2 ≡ suc (length (rows_of so.exchanges ++ fields ∷ [])) = next.many in
          inl (
            (
              rows_of so.exchanges,
              fields,
              begins left file r2.reader (header ∷ (rows_of so.exchanges ++ fields ∷ [])) next.stands,
              rows,
              answers_of_went goes w w1 p p1 so.exchanges so.went so.written,
            ),
            omega (arith, many, rows, length-append (rows_of so.exchanges) (fields ∷ [])),
          )

    pub so_far_all : RunsOn → ((file : Known) (records : List Fields) → HasTaken left file r1 records → TakesNext left spare file r2 records fields (Ok false))
        → (file : Known) → HasTaken left file r0 (header ∷ []) → ImportsTo file (taken_of r2) (spare_of spare r2) w w1 p p1 (Ok n)
    so_far_all goes takes file s =
        let t = takes file (header ∷ rows_of so.exchanges) (so.stands file s) in
        let rows : length (rows_of so.exchanges) ≡ n = length-map so.exchanges (λ (y : RowExchange). y.message) ∙ so.many in (
          (
            header ∷ rows_of so.exchanges,
            rows_of so.exchanges,
            t.0,
            (refl, refl),
            sym rows,
            answers_of_went goes w w1 p p1 so.exchanges so.went so.written,
          ),
          t.1,
        )

    so_far_taken : RunsOn → (file : Known) → HasTaken left file r0 (header ∷ []) → taken_of r2 ≡ length (header ∷ rows_of so.exchanges) → ImportsSome file (taken_of r2) w w1 p p1
    so_far_taken goes file s many = (
      header ∷ rows_of so.exchanges,
      rows_of so.exchanges,
      begins left file r1.reader (header ∷ rows_of so.exchanges) (so.stands file s).stands,
      (refl, refl),
      answers_of_went goes w w1 p p1 so.exchanges so.went so.written,
      many,
    )

    pub so_far_failed : RunsOn → (f : ImportFault) → ((file : Known) (records : List Fields) → HasTaken left file r1 records → TakesNext left spare file r2 records fields (Err f))
        → (file : Known) → HasTaken left file r0 (header ∷ []) → ImportsTo file (taken_of r2) (spare_of spare r2) w w1 p p1 (Err f)
    so_far_failed goes fault.Read takes file s =
        let t = takes file (header ∷ rows_of so.exchanges) (so.stands file s) in (t.0, so_far_taken goes file s t.1)
    so_far_failed goes fault.Memory takes file s = so_far_taken goes file s (takes file (header ∷ rows_of so.exchanges) (so.stands file s))
    so_far_failed goes fault.RowsSpent takes file s =
        let t = takes file (header ∷ rows_of so.exchanges) (so.stands file s) in inr (t.0, so_far_taken goes file s t.1)
    so_far_failed goes fault.Write takes file s = absurd (takes file (header ∷ rows_of so.exchanges) (so.stands file s))
    so_far_failed goes fault.Header takes file s = absurd (takes file (header ∷ rows_of so.exchanges) (so.stands file s))

    pub keeps_so : KeepsBook p.book p1.book
    keeps_so = keeps_of p p1 so.exchanges so.went

-- ---- the header

module _ {S : Type 0} (left : S → Known) (spare : S → ℕ) (file : Known) (r0 r1 : FileReader S) (w : Known) (p : DeskState) (s : HasTaken left file r0 []) (fields : Fields) where
  pub import_none : RunsOn → TakesNext left spare file r1 [] fields (Ok false) → ImportsTo file (taken_of r1) (spare_of spare r1) w w p p (Ok 0)
  import_none goes takes = (([], [], takes.0, refl, refl, answers_none goes w p), takes.1)

  none_taken : RunsOn → taken_of r1 ≡ 0 → ImportsSome file (taken_of r1) w w p p
  none_taken goes many = ([], [], begins left file r0.reader [] s.stands, refl, answers_none goes w p, many)

  pub import_failed : RunsOn → (f : ImportFault) → TakesNext left spare file r1 [] fields (Err f) → ImportsTo file (taken_of r1) (spare_of spare r1) w w p p (Err f)
  import_failed goes fault.Read takes = (takes.0, none_taken goes takes.1)
  import_failed goes fault.Memory takes = none_taken goes takes
  import_failed goes fault.RowsSpent takes = inr (takes.0, none_taken goes takes.1)
  import_failed goes fault.Write takes = absurd takes
  import_failed goes fault.Header takes = absurd takes

  pub import_other : RunsOn → is_header fields ≡ false → TakesNext left spare file r1 [] fields (Ok true) → ImportsTo file (taken_of r1) (spare_of spare r1) w w p p (Err fault.Header)
  import_other goes off takes =
      let one : taken_of r1 ≡ length (fields ∷ []) = takes.many in
      ((fields, begins left file r1.reader (fields ∷ []) takes.stands, header_not fields off, answers_none goes w p), omega (arith, one))

  pub has_header : is_header fields ≡ true → TakesNext left spare file r1 [] fields (Ok true) → HasTaken left file r1 (header ∷ [])
  has_header on takes = let P : Fields → Type 0 = λ t. HasTaken left file r1 (t ∷ []) in subst P (header_is fields on) takes
