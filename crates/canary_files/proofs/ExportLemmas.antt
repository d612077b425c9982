-- What is read of a book and written, one thing after another.
use Rattle.std.proofs.Common.{◌≡◌, ℕ, suc, ◌+◌, ◌≤◌, List, [], ◌∷◌, ◌++◌, ◌-◌, length, take, drop, refl, sym, ap, ◌∙◌, subst, arith}
use Rattle.std.specs.Prelude.{Option, Some, None, option_map, unwrap_or, Result, Ok, Err, IfErr, IsErr}
use Rattle.std.specs.Io.KnownBytes.{Appends}
use Rattle.std.proofs.lemmas.List.{append-nil, append_assoc, take-append-drop, drop-drop, length-append, length-drop}
use Rattle.std.proofs.lemmas.Result.{IfErr-weaker}
use Rattle.std.proofs.lemmas.Option.{none-some, same_Some}
use Rattle.std.proofs.Math.Seq.{drop-append_seam}
use Rattle.canary_plan.specs.declared.analysis_parts.AnalysisParts.{AnalysisParts}
use Rattle.canary_release.specs.declared.effect.Recorded.{Recorded}
use Rattle.canary_once.specs.Contents.{Contents}
use Rattle.canary_once.specs.BookCalls.{BookState, Stays}
use Rattle.canary_once.specs.declared.record.RunRecord.{RunRecord}
use Rattle.canary_once.specs.Records.{past_of, record_numbered, measurements_of}
use Rattle.canary_files.specs.declared.export.ExportFault.{ExportFault}
use Rattle.canary_files.specs.declared.export.ExportFault.TheVariants.{Memory, Storage, Write, TooMany, UnknownService}
use Rattle.canary_base.specs.Writes.{Known}
use Rattle.canary_files.specs.Rows.{header}
use Rattle.canary_files.specs.Written.{record_text, row_fields, rows_text}
use Rattle.canary_files.specs.Exporting.{Puts, TellsPage, name_at, name_in, analysis_in, name_of, recorded_of, file_in}
use Rattle.canary_base.proofs.WriteLemmas.{appends_more, appends_none}

-- the name of a metric of a run, by its analysis
name_placed : (o : Option RunRecord) (a : AnalysisParts) (place : ℕ) → option_map (λ (r : RunRecord). r.analysis) o ≡ Some a → name_in o place ≡ name_at a place
name_placed None a place e = absurd (none-some _ e)
name_placed (Some r) a place e = ap (λ (b : AnalysisParts). name_at b place) (same_Some _ _ e)

pub name_is : (c : Contents) (service : List ℕ) (x : Recorded) (a : AnalysisParts) (name : List ℕ) → analysis_in c service x.run ≡ Some a → Some name ≡ name_at a x.metric → name ≡ name_of (past_of c service) x
name_is c service x a name e f =
    ap (λ o. unwrap_or o []) (f ∙ sym (name_placed (record_numbered (past_of c service) x.run) a x.metric e))

-- Writes.

-- a text of which nothing went out
pub puts_none : {A F : Type 0} (old : Known) (text : List ℕ) (s : Result A F) → IsErr s → Puts old old text s
puts_none old text (Err e) failed = record { front = []; back = text; parts = refl; written = appends_none old; all = tt }
puts_none old text (Ok x) failed = cc failed

-- a text that went out whole, and then some of another
pub puts_then : {A F : Type 0} (a b c : Known) (x y : List ℕ) (s : Result A F) → Appends a b x → Puts b c y s → Puts a c (x ++ y) s
puts_then a b c x y s p q = record {
  front = x ++ q.front;
  back = q.back;
  parts = ap (λ t. x ++ t) q.parts ∙ sym (append_assoc x q.front q.back);
  written = appends_more a b c x q.front p q.written;
  all = q.all;
}

-- what went out of a text whose writing succeeded
pub puts_all : {A F : Type 0} (old new : Known) (text : List ℕ) (x : A) → Puts {A = A} {E = F} old new text (Ok x) → Appends old new text
puts_all old new text x p =
    let e : p.front ≡ text = sym (append-nil p.front) ∙ ap (λ t. p.front ++ t) (sym p.all) ∙ sym p.parts in
    let P : List ℕ → Type 0 = λ t. Appends old new t in subst P e p.written

-- Rows.

-- rows, and then those after them
pub rows_joined : (caller service : List ℕ) (name : Recorded → List ℕ) (n : ℕ) (xs ys : List Recorded)
    → rows_text caller service name n (xs ++ ys) ≡ rows_text caller service name n xs ++ rows_text caller service name (n + length xs) ys
rows_joined caller service name n [] ys =
    let e : n ≡ n + 0 = omega arith in ap (λ m. rows_text caller service name m ys) e
rows_joined caller service name n (x ∷ xs) ys =
    let row : List ℕ = record_text (row_fields caller (suc n) service x (name x)) in
    let e : suc n + length xs ≡ n + suc (length xs) = omega arith in
    ap (λ t. row ++ t) (rows_joined caller service name (suc n) xs ys)
    ∙ sym (append_assoc row (rows_text caller service name (suc n) xs) (rows_text caller service name (suc n + length xs) ys))
    ∙ ap (λ m. (row ++ rows_text caller service name (suc n) xs) ++ rows_text caller service name m ys) e

-- so many rows of these went out
pub record SoFar (old now : Known) (caller service : List ℕ) (name : Recorded → List ℕ) (all : List Recorded) (rows : ℕ) : Type 0 where
  pub front : List ℕ
  pub parts : rows_text caller service name 0 all ≡ front ++ rows_text caller service name rows (drop rows all)
  pub written : Appends old now front
  pub some : rows ≤ length all

-- what comes after the front of a list
drop_front : (n k : ℕ) (xs : List Recorded) → drop (n + length (take k (drop n xs))) xs ≡ drop k (drop n xs)
drop_front n k xs =
    let left : List Recorded = drop n xs in
    let m : ℕ = length (take k left) in
    sym (drop-drop m n xs) ∙ ap (drop m) (sym (take-append-drop k left)) ∙ drop-append_seam (take k left) (drop k left)

-- the page after so many rows is among all
page_fits : (n k : ℕ) (xs : List Recorded) → n ≤ length xs → n + length (take k (drop n xs)) ≤ length xs
page_fits n k xs fits =
    let whole : length (take k (drop n xs)) + length (drop k (drop n xs)) ≡ length (drop n xs) = sym (length-append (take k (drop n xs)) (drop k (drop n xs))) ∙ ap (λ (l : List Recorded). length l) (take-append-drop k (drop n xs)) in
    let left : length (drop n xs) ≡ length xs - n = length-drop n xs in
    omega (arith, whole, left, fits)

-- the text of all rows, with the page after those that went out
page_parts : (caller service : List ℕ) (name : Recorded → List ℕ) (all : List Recorded) (rows : ℕ) (front page : List ℕ)
    → rows_text caller service name 0 all ≡ front ++ rows_text caller service name rows (drop rows all)
    → page ≡ rows_text caller service name rows (take 32768 (drop rows all))
    → rows_text caller service name 0 all ≡ (front ++ page) ++ rows_text caller service name (rows + length (take 32768 (drop rows all))) (drop 32768 (drop rows all))
page_parts caller service name all rows front page parts is =
    let left : List Recorded = drop rows all in
    let rest : List ℕ = rows_text caller service name (rows + length (take 32768 left)) (drop 32768 left) in
    parts
    ∙ ap (λ l. front ++ rows_text caller service name rows l) (sym (take-append-drop 32768 left))
    ∙ ap (λ t. front ++ t) (rows_joined caller service name rows (take 32768 left) (drop 32768 left))
    ∙ ap (λ t. front ++ (t ++ rest)) (sym is)
    ∙ sym (append_assoc front page rest)

-- the next page went out whole
pub so_far_more : (w now new : Known) (caller service : List ℕ) (name : Recorded → List ℕ) (all : List Recorded) (rows next : ℕ)
    → SoFar w now caller service name all rows
    → Appends now new (rows_text caller service name rows (take 32768 (drop rows all)))
    → next ≡ rows + length (take 32768 (drop rows all))
    → SoFar w new caller service name all next
so_far_more w now new caller service name all rows next p q is =
    let page : List ℕ = rows_text caller service name rows (take 32768 (drop rows all)) in
    let behind : drop 32768 (drop rows all) ≡ drop next all = sym (drop_front rows 32768 all) ∙ ap (λ n. drop n all) (sym is) in
    record {
      front = p.front ++ page;
      parts = page_parts caller service name all rows p.front page p.parts refl
          ∙ (λ i. (p.front ++ page) ++ rows_text caller service name (sym is i) (behind i));
      written = appends_more w now new p.front page p.written q;
      some = rw is (page_fits rows 32768 all p.some);
    }

-- some of the next page went out
pub so_far_short : {A F : Type 0} (w now new : Known) (caller service : List ℕ) (name : Recorded → List ℕ) (all : List Recorded) (rows : ℕ) (r s : Result A F)
    → SoFar w now caller service name all rows
    → Puts now new (rows_text caller service name rows (take 32768 (drop rows all))) r
    → IsErr s
    → Puts w new (rows_text caller service name 0 all) s
so_far_short w now new caller service name all rows r (Ok x) p q failed = cc failed
so_far_short w now new caller service name all rows r (Err e) p q failed =
    let rest : List ℕ = rows_text caller service name (rows + length (take 32768 (drop rows all))) (drop 32768 (drop rows all)) in
    record {
      front = p.front ++ q.front;
      back = q.back ++ rest;
      parts = page_parts caller service name all rows p.front (q.front ++ q.back) p.parts (sym q.parts)
          ∙ ap (λ t. t ++ rest) (sym (append_assoc p.front q.front q.back))
          ∙ append_assoc (p.front ++ q.front) q.back rest;
      written = appends_more w now new p.front q.front p.written q.written;
      all = tt;
    }

-- Contents that are the same.

pub short_on : {A F : Type 0} (a b d : BookState) (caller service : List ℕ) (w now new : Known) (rows : ℕ) (r s : Result A F)
    → Stays a b → Stays b d
    → (b.is_honest → SoFar w now caller service (name_of (past_of a.contents service)) (recorded_of a.contents service) rows)
    → (d.is_honest → Puts now new (rows_text caller service (name_of (past_of b.contents service)) rows (measurements_of b.contents service rows 32768)) r)
    → IsErr s → d.is_honest
    → Puts w new (rows_text caller service (name_of (past_of a.contents service)) 0 (recorded_of a.contents service)) s
short_on a b d caller service w now new rows r s p q so_far puts failed h =
    let P : Contents → Type 0 = λ c. Puts now new (rows_text caller service (name_of (past_of c service)) rows (measurements_of c service rows 32768)) r in
    so_far_short w now new caller service (name_of (past_of a.contents service)) (recorded_of a.contents service) rows r s (so_far (q.honest h)) (subst P (p.same (q.honest h)) (puts h)) failed

pub more_on : {F : Type 0} (a b d : BookState) (caller service : List ℕ) (w now new : Known) (rows next : ℕ)
    → Stays a b → Stays b d
    → (b.is_honest → SoFar w now caller service (name_of (past_of a.contents service)) (recorded_of a.contents service) rows)
    → (d.is_honest → Puts {A = ℕ} {E = F} now new (rows_text caller service (name_of (past_of b.contents service)) rows (measurements_of b.contents service rows 32768)) (Ok next))
    → (d.is_honest → next ≡ rows + length (measurements_of b.contents service rows 32768))
    → d.is_honest
    → SoFar w new caller service (name_of (past_of a.contents service)) (recorded_of a.contents service) next
more_on {F = F} a b d caller service w now new rows next p q so_far puts counted h =
    let text : Contents → List ℕ = λ c. rows_text caller service (name_of (past_of c service)) rows (measurements_of c service rows 32768) in
    let P : Contents → Type 0 = λ c. Appends now new (text c) in
    let Q : Contents → Type 0 = λ c. next ≡ rows + length (measurements_of c service rows 32768) in
    so_far_more w now new caller service (name_of (past_of a.contents service)) (recorded_of a.contents service) rows next (so_far (q.honest h))
    (subst P (p.same (q.honest h)) (puts_all {F = F} now new (text b.contents) next (puts h)))
    (subst Q (p.same (q.honest h)) (counted h))

-- why a page was not written shows why all rows were not
tells_more : (n m : ℕ) → n ≤ m → (e : ExportFault) → TellsPage n e → TellsPage m e
tells_more n m le Memory t = tt
tells_more n m le Storage t = tt
tells_more n m le Write t = tt
tells_more n m le TooMany t = omega (arith, le, t)
tells_more n m le UnknownService t = absurd t

pub why_on : {A : Type 0} (a b d : BookState) (caller service : List ℕ) (w now : Known) (rows : ℕ) (r s : Result A ExportFault)
    → Stays a b → Stays b d
    → (b.is_honest → SoFar w now caller service (name_of (past_of a.contents service)) (recorded_of a.contents service) rows)
    → (d.is_honest → IfErr r (TellsPage (rows + length (measurements_of b.contents service rows 32768))))
    → s ≡ r → d.is_honest
    → IfErr s (TellsPage (length (recorded_of a.contents service)))
why_on {A = A} a b d caller service w now rows r s p q so_far why same h =
    let P : Contents → Type 0 = λ c. IfErr r (TellsPage (rows + length (measurements_of c service rows 32768))) in
    let all : List Recorded = recorded_of a.contents service in
    let R : Result A ExportFault → Type 0 = λ x. IfErr x (TellsPage (length all)) in
    subst R (sym same) (IfErr-weaker r (TellsPage (rows + length (measurements_of a.contents service rows 32768))) (TellsPage (length all)) (λ e t. tells_more (rows + length (measurements_of a.contents service rows 32768)) (length all) (page_fits rows 32768 all (so_far (q.honest h)).some) e t) (subst P (p.same (q.honest h)) (why h)))

-- The whole file.

-- more that would have followed
pub puts_front : {A B E F : Type 0} (old new : Known) (x y : List ℕ) (r : Result A E) (s : Result B F) → IsErr s → Puts old new x r → Puts old new (x ++ y) s
puts_front old new x y r (Ok u) failed p = cc failed
puts_front old new x y r (Err e) failed p = record {
  front = p.front;
  back = p.back ++ y;
  parts = ap (λ t. t ++ y) p.parts ∙ append_assoc p.front p.back y;
  written = p.written;
  all = tt;
}

-- the header went out whole, and then some of the rows
pub file_on : {F : Type 0} (a b d : BookState) (service caller : List ℕ) (w now new : Known) (r : Result ℕ F)
    → Stays a b → Stays b d
    → Appends w now (record_text header)
    → (d.is_honest → Puts now new (rows_text caller service (name_of (past_of b.contents service)) 0 (recorded_of b.contents service)) r)
    → d.is_honest
    → Puts w new (file_in a.contents service caller) r
file_on a b d service caller w now new r p q head puts h =
    let P : Contents → Type 0 = λ c. Puts now new (rows_text caller service (name_of (past_of c service)) 0 (recorded_of c service)) r in
    puts_then w now new (record_text header) (rows_text caller service (name_of (past_of a.contents service)) 0 (recorded_of a.contents service)) r head
    (subst P (p.same (q.honest h)) (puts h))
