-- A service's measurements, read page by page.
use Rattle.std.proofs.Common.{◌≡◌, ℕ, ◌+◌, ◌-◌, ◌≤◌, List, length, take, drop, ◌∙◌, ap, arith}
use Rattle.std.specs.Prelude.{min}
use Rattle.std.proofs.lemmas.List.{length-take, length-drop}
use Rattle.canary_release.specs.declared.effect.Recorded.{Recorded}
use Rattle.canary_once.specs.Contents.{Contents}
use Rattle.canary_once.specs.BookCalls.{BookState, Stays}
use Rattle.canary_once.specs.Records.{measurements_of}
use Rattle.canary_files.specs.Exporting.{recorded_of}

-- a page has as many as are left, at most 256
in_page : {A : Type 0} (xs : List A) (from : ℕ) → length (take 256 (drop from xs)) ≡ min 256 (length xs - from)
in_page xs from = length-take 256 (drop from xs) ∙ ap (min 256) (length-drop from xs)

module _ (a b c : BookState) (name : List ℕ) (from count : ℕ) (x : Stays a b) (y : Stays b c)
    (least : b.is_honest → from ≤ length (recorded_of a.contents name))
    (page : c.is_honest → count ≡ length (measurements_of b.contents name from 256)) where
  abbrev all : ℕ
  all = length (recorded_of a.contents name)

  counted : c.is_honest → count ≡ min 256 (all - from)
  counted honest =
      page honest
      ∙ ap (λ (t : Contents). length (measurements_of t name from 256)) (x.same (y.honest honest))
      ∙ in_page (recorded_of a.contents name) from

  pub page_more : (next : ℕ) → next ≤ count + from → c.is_honest → next ≤ all
  page_more next small honest =
      let l : from ≤ all = least (y.honest honest) in
      let n : count ≡ min 256 (all - from) = counted honest in
      omega (arith, small, l, n)
